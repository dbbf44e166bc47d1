-- Which line of a text is rejected.
use Rattle.std.specs.Prelude.{ℕ, List}
use Rattle.jsonb_spec.specs.Parsing.Lines.{IsFirstOfLines, lines_of}
use Rattle.jsonb_spec.specs.Interface.{IsAccepted}
use Rattle.jsonb_c.specs.Interface.{IsRejected}
use Rattle.jsonb_c.specs.declared.Rejection.{Rejection}

-- Of the line that begins at this offset it is reported why it is rejected, and those before it are accepted.
abbrev pub IsLineRejected : ℕ → List ℕ → ℕ → Rejection → Type 0
IsLineRejected number text offset rejection =
    IsFirstOfLines (λ line. IsRejected number line 1 rejection) (IsAccepted number) (lines_of text) offset
