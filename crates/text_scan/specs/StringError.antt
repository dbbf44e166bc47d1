-- The errors of `parse_string`.
use Rattle.std.specs.Prelude.{◌≡◌, ℕ, ◌+◌, List}
use Rattle.jsonb_spec.specs.Mode.{Mode}
use Rattle.jsonb_core.specs.Error.CodeView.{code_of}
use Rattle.jsonb_spec.specs.Grammar.StringFault.{IsFaultyBody}
use Rattle.jsonb_core.specs.declared.error.Error.{Error}
use Rattle.jsonb_core.specs.declared.error.Error.TheVariants.{Syntax, OutOfMemory}

-- What a decoder may reject, whose index is `before` as it begins and `after` as it ends: a fault of the bytes, which
-- names the index where the decoder is then; and want of memory, which leaves the index.
abbrev pub IsDecodingError : Mode → List ℕ → ℕ → ℕ → Error → Type 0
IsDecodingError mode bytes before after (Syntax code position) = (read : ℕ)
    × IsFaultyBody mode bytes (code_of code) read × (after ≡ before + read) × (position ≡ after)
IsDecodingError mode bytes before after OutOfMemory = after ≡ before
IsDecodingError mode bytes before after error = ⊥
