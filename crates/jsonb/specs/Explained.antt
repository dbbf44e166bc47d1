-- What the error of a text says of the text.
use Rattle.std.specs.Prelude.{ℕ, List}
use Rattle.jsonb_core.specs.declared.error.Error.{Error}
use Rattle.jsonb_core.specs.declared.error.Error.TheVariants.{Syntax}
use Rattle.jsonb_core.specs.Error.CodeView.{code_of}
use Rattle.jsonb_spec.specs.Mode.{Mode}
use Rattle.jsonb_spec.specs.Errors.{Applies}

-- What an error says of the input, if it is one of the text.
abbrev pub IsExplained : Mode → List ℕ → Error → Type 0
IsExplained mode input (Syntax code offset) = Applies mode input (code_of code) offset
IsExplained mode input error = Unit {0}
