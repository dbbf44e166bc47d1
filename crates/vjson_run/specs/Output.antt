-- What is printed: what was written, and what is to be written.
use Rattle.std.specs.Prelude.{◌≡◌, ℕ, List, Option, None}
use Rattle.std.specs.Io.KnownBytes.{Appends, Keeps, append_known}
use Rattle.vjson_run.specs.declared.report.Output.{Output}

-- what was written, and then what is to be written
abbrev pub output : {W : Type 0} → (W → Option (List ℕ)) → Output W → Option (List ℕ)
output contents out = append_known (contents out.writer) out.bytes.items

-- Unless the second output failed, the first didn't either, and the same was printed of both.
pub record PrintsNothing {W : Type 0} (contents : W → Option (List ℕ)) (old new : Output W) : Type 0 where
  pub failed : new.error ≡ None → old.error ≡ None
  pub same : new.error ≡ None → Keeps (output contents old) (output contents new)

-- Unless the second output failed, the first didn't either, and the part was printed after it.
pub record PrintsPart {W : Type 0} (contents : W → Option (List ℕ)) (old new : Output W) (part : List ℕ) : Type 0 where
  pub failed : new.error ≡ None → old.error ≡ None
  pub printed : new.error ≡ None → Appends (output contents old) (output contents new) part

-- All that was printed of the first output is written of the second.
pub record IsWritten {W : Type 0} (contents : W → Option (List ℕ)) (old new : Output W) : Type 0 where
  pub fine : old.error ≡ None
  pub written : Keeps (output contents old) (contents new.writer)
