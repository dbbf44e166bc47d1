-- What is appended of a document: a part, or what a change makes of it.
use Rattle.std.specs.Prelude.{◌≡◌, ℕ, ◌+◌, ◌<◌, Bool, true, false, List, ◌++◌, length, Option, Some, None, Result, Ok, OnOk, IfOk, IfErr, MatchResult, Vec, vec_len, ⊤}
use Rattle.std.specs.Borrow.{Bor}
use Rattle.std.specs.Vec.{vec_capacity}
use Rattle.std.specs.declared.alloc.Global.{Global}
use Rattle.jsonb_spec.specs.SortKey.Readable.{IsAnyNumber, IsReadable}
use Rattle.key_value.specs.declared.error.KeyError.{KeyError}
use Rattle.key_value.specs.declared.error.KeyError.TheVariants as key_errors
use Rattle.jsonb_spec.specs.Grammar.{max_depth}
use Rattle.jsonb_spec.specs.SortKey.{key_of}
use Rattle.jsonb_spec.specs.Text.Range.{IsWithin}
use Rattle.jsonb_spec.specs.Tree.{Tree}
use Rattle.jsonb_spec.specs.Document.{document_of, OfDocument}
use Rattle.jsonb_spec.specs.Document.Numbers.{Pends}
use Rattle.jsonb_spec.specs.Document.Zeros.{plain_at_end, zeros_of}
use Rattle.key_document.specs.declared.error.DocumentError.{DocumentError}
use Rattle.key_document.specs.declared.error.DocumentError.TheVariants.{NoDocument, TooDeep, OutOfMemory}
use Rattle.key_edit.specs.declared.error.EditError.{EditError}
use Rattle.key_edit.specs.declared.error.EditError.TheVariants as edits
use Rattle.jsonb_spec.specs.Document.PartAt.{IsPartAt}

-- Why the document of the value isn't appended: it has too many arrays and objects in one another, or the capacity for
-- the document is missing.
abbrev pub IsLacking : Tree → Vec ℕ Global → DocumentError → Type 0
IsLacking t old NoDocument = ⊥
IsLacking t old TooDeep = IsWithin IsAnyNumber t max_depth → ⊥
IsLacking t old OutOfMemory = vec_capacity old < vec_len old + length (document_of t)

-- The document of the value is appended, which has no more than 512 arrays and objects in one another.
pub record AppendsDocument {X : Type 0} (t : Tree) (result : Result X DocumentError) (old new : Vec ℕ Global)
    : Type 0 where
  pub ok : OnOk result (new.items ≡ old.items ++ document_of t)
  pub fits : OnOk result (IsWithin IsAnyNumber t max_depth)
  pub errors : IfErr result (IsLacking t old)

-- Where there is an answer, its document is appended, and that is reported. Else nothing is appended.
abbrev pub Answers : Option Tree → Result Bool DocumentError → Vec ℕ Global → Vec ℕ Global → Type 0
Answers (Some t) result old new = AppendsDocument t result old new × IfOk result (λ reported. reported ≡ true)
Answers None result old new = (result ≡ Ok false) × (new.items ≡ old.items)

-- Whichever value the document is of, what is answered of it is so.
abbrev pub AnswersOf : (Tree → Option Tree) → List ℕ → Result Bool DocumentError → Vec ℕ Global → Vec ℕ Global → Type 0
AnswersOf answer document result old new = OfDocument document (λ t. Answers (answer t) result old new)

-- Whichever values the two documents are of, what is answered of the second one in the first is so.
abbrev pub AnswersOfBoth : (Tree → Tree → Option Tree) → List ℕ → List ℕ → Result Bool DocumentError → Vec ℕ Global
    → Vec ℕ Global → Type 0
AnswersOfBoth answer document part result old new =
    OfDocument document (λ t. OfDocument part (λ u. Answers (answer u t) result old new))

-- Whichever values the two documents are of, the document of both in one is appended.
abbrev pub AppendsBoth : {X : Type 0} → (Tree → Tree → Tree) → List ℕ → List ℕ → Result X DocumentError → Vec ℕ Global
    → Vec ℕ Global → Type 0
AppendsBoth both left right result old new =
    OfDocument left (λ t. OfDocument right (λ u. AppendsDocument (both t u) result old new))

-- What is found is the offset of the part and its key; or nothing where there is no part.
abbrev pub FindsRange : Tree → Option Tree → Result (Option (ℕ × Bor (List ℕ))) DocumentError → Type 0
FindsRange t (Some part) (Ok (Some slot)) =
    IsReadable part × IsPartAt t slot.0 part × (slot.1.now ≡ key_of part)
FindsRange t None (Ok None) = ⊤
FindsRange t part found = ⊥

-- The zeros of these bytes are appended, it is reported how many without any are at the end, and what pends of those
-- that are left. Else memory ran out, as the capacity for all of the zeros is missing.
abbrev pub CopiesOn : ℕ → List ℕ → List ℕ → Result (ℕ × Option (ℕ × ℕ × Bor (List ℕ))) DocumentError → Vec ℕ Global
    → Vec ℕ Global → Type 0
CopiesOn plain taken left result old new = MatchResult result
    (λ r. (new.items ≡ old.items ++ zeros_of plain taken) × (r.0 ≡ plain_at_end plain taken) × Pends left r.1)
    (λ e. (e ≡ OutOfMemory) × (vec_capacity old < vec_len old + length (zeros_of plain taken)))

-- the error of a change of a key, as one of a change of a document
abbrev pub as_document_error : EditError → DocumentError
as_document_error edits.NoKey = NoDocument
as_document_error edits.TooDeep = TooDeep
as_document_error edits.OutOfMemory = OutOfMemory

-- the error of what is made of a key, as one of what is made of a document
abbrev pub of_key_error : KeyError → DocumentError
of_key_error key_errors.Invalid = NoDocument
of_key_error key_errors.OutOfMemory = OutOfMemory
