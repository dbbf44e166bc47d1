-- Contents of strings with escapes that were checked.
use Rattle.std.specs.Prelude.{◌≡◌, ℕ, ◌+◌, List, Result, Ok, Err}
use Rattle.jsonb_core.specs.Error.CodeView.{code_of}
use Rattle.jsonb_spec.specs.Tree.{Mark}
use Rattle.jsonb_spec.specs.Tree.Mark.{escaped}
use Rattle.jsonb_core.specs.declared.error.Error.{Error}
use Rattle.jsonb_core.specs.declared.error.Error.TheVariants.{Syntax}
use Rattle.text_scan.specs.Answer.{mode_of}
use Rattle.jsonb_spec.specs.Parsing.Contents.{decoded_text}
use Rattle.jsonb_spec.specs.Parsing.String.{Body}
use Rattle.text_write.specs.declared.contents.Contents.{Contents}

-- what the contents mean
abbrev pub text_of_contents : Contents → List ℕ
text_of_contents c = decoded_text (mode_of c.mode) c.body.now

-- Their text is read of the body, or the fault is, where the check counts from `idx`.
abbrev pub ChecksAs : ℕ → Result Contents Error → Body (Mark × List ℕ) → Type 0
ChecksAs idx (Ok c) read = read ≡ Ok (escaped, text_of_contents c)
ChecksAs idx (Err (Syntax code offset)) read = (count : ℕ) × (read ≡ Err (code_of code, count)) × (offset ≡ idx + count)
ChecksAs idx (Err other) read = ⊥
