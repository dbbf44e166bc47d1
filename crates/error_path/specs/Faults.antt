-- The text up to where it is rejected.
use Rattle.std.specs.Prelude.{ℕ, List, take}
use Rattle.error_path.specs.declared.path.Fault.{Fault}
use Rattle.error_path.specs.declared.path.Fault.TheVariants.{Key, Number, Other}

-- the text up to where it is rejected, or all of it
abbrev pub text_upto : Fault → List ℕ → List ℕ
text_upto (Number after) text = take after text
text_upto (Key after) text = take after text
text_upto Other text = text
