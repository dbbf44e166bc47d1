-- What is reported of a part that is to be inserted.
use Rattle.std.specs.Prelude.{◌≡◌, ℕ, IfOk, Option, Some, None, Result, Ok, Vec}
use Rattle.std.specs.declared.alloc.Global.{Global}
use Rattle.jsonb_spec.specs.Tree.{Tree}
use Rattle.key_document.specs.Changes.{AppendsDocument}
use Rattle.key_document.specs.declared.error.DocumentError.{DocumentError}
use Rattle.key_document.specs.declared.insert.Insertion.{Insertion}
use Rattle.key_document.specs.declared.insert.Insertion.TheVariants.{Inserted, Present, Nowhere}

-- Where there is an answer, its document is appended, and that is reported. Else nothing is appended, and it is
-- reported whether that is since a member is there, so that there is a value without it.
abbrev pub AnswersInsertion : Option Tree → Option Tree → Result Insertion DocumentError → Vec ℕ Global → Vec ℕ Global
    → Type 0
AnswersInsertion (Some t) other result old new =
    AppendsDocument t result old new × IfOk result (λ reported. reported ≡ Inserted)
AnswersInsertion None (Some without) result old new = (result ≡ Ok Present) × (new.items ≡ old.items)
AnswersInsertion None None result old new = (result ≡ Ok Nowhere) × (new.items ≡ old.items)
