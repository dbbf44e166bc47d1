-- What is appended of a value over lines.
use Rattle.std.specs.Prelude.{ℕ, Result, Vec}
use Rattle.std.specs.declared.alloc.Global.{Global}
use Rattle.jsonb_spec.specs.Indented.{indented_text}
use Rattle.jsonb_spec.specs.Text.Appending.{AppendsIf}
use Rattle.jsonb_spec.specs.Text.{has_text}
use Rattle.jsonb_spec.specs.Tree.{Tree}

-- The lines of the value are appended, which happens only where it has a text.
abbrev pub AppendsLines : {X E : Type 0} → ℕ → ℕ → Tree → Result X E → Vec ℕ Global → Vec ℕ Global → Type 0
AppendsLines indent margin t result old new = AppendsIf (has_text t) result old new (indented_text indent margin t)
