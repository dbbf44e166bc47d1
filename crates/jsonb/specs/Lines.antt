-- Which line of a text is rejected.
use Rattle.std.specs.Prelude.{ℕ, List, Err}
use Rattle.jsonb_spec.specs.Mode.{Mode}
use Rattle.jsonb_spec.specs.Tree.{Tree}
use Rattle.jsonb_core.specs.declared.error.Error.{Error}
use Rattle.jsonb_spec.specs.Parsing.Appends.{IsParsed}
use Rattle.jsonb.specs.Follows.{FailsAsSpecified}
use Rattle.jsonb.specs.Parses.{Rejects}
use Rattle.jsonb_spec.specs.Parsing.Lines.{IsFirstOfLines}

-- The line is rejected with this error, as a text of its own is.
pub record IsRejectedLine (mode : Mode) (line : List ℕ) (error : Error) : Type 0 where
  pub rejects : Rejects {X = Unit {0}} mode line (Err error)
  pub follows : FailsAsSpecified {X = Unit {0}} mode line (Err error)

-- The line that begins at this offset is rejected with this error, and those before it are documents.
abbrev pub RejectsLine : Mode → Error → List (List ℕ) → ℕ → Type 0
RejectsLine mode error lines offset =
    IsFirstOfLines (λ line. IsRejectedLine mode line error) (λ line. (tree : Tree) × IsParsed mode line tree)
    lines offset
