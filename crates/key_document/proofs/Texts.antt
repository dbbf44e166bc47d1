-- The text of a document.
use Rattle.std.proofs.Common.{◌≡◌, ℕ, List, ◌++◌, Result, Ok, Err, refl, sym, ap, ◌∙◌}
use Rattle.std.specs.Prelude.{IfErr, IsErrAnd, OnErr}
use Rattle.key_value.proofs.Texts.{some_same}
use Rattle.jsonb_spec.specs.SortKey.Readable.{HasFewestDigits, IsAnyNumber, IsReadable}
use Rattle.jsonb_spec.specs.Text.{tree_text, AppendsText}
use Rattle.jsonb_spec.specs.Tree.{Tree}
use Rattle.jsonb_core.proofs.Trees.RangeTexts.{text_in_range}
use Rattle.jsonb_spec.specs.SortKey.FewestDigits.{with_fewest_digits, AppendsTextOf}
use Rattle.key_document.specs.Changes.{of_key_error}
use Rattle.key_value.specs.declared.error.KeyError.{KeyError}
use Rattle.key_value.specs.declared.error.KeyError.TheVariants as key_errors
use Rattle.jsonb_spec.specs.Document.{OfDocument}
use Rattle.key_document.specs.declared.error.DocumentError.{DocumentError}
use Rattle.key_document.specs.declared.error.DocumentError.TheVariants.{OutOfMemory}

-- what is appended is a text
pub text_appended : (t : Tree) (old new : List ℕ) → IsReadable t → new ≡ old ++ tree_text t → AppendsText t old new
text_appended t old new r e = record { bytes = tree_text t; is_text = text_in_range IsAnyNumber t r.within; appended = e }

-- with the fewest digits
pub shortest_appended : (t : Tree) (old new : List ℕ) → AppendsTextOf t old new → new ≡ old ++ tree_text (with_fewest_digits t)
shortest_appended t old new x = x.text.appended ∙ ap (λ l. old ++ l) (some_same x.text.bytes (tree_text (with_fewest_digits t)) (sym x.text.is_text ∙ text_in_range HasFewestDigits (with_fewest_digits t) x.fewest))

-- ---- errors

pub only_memory : {X : Type 0} (r : Result X DocumentError) (error : DocumentError) (document : List ℕ) → IsErrAnd r (λ e. e ≡ error) → OfDocument document (λ t. error ≡ OutOfMemory) → IfErr r (λ e. OfDocument document (λ t. e ≡ OutOfMemory))
only_memory (Ok x) error document h p = tt
only_memory (Err e) error document h p = λ t r d. h ∙ p t r d

pub of_memory : (e : KeyError) → (e ≡ key_errors.Invalid → ⊥) → of_key_error e ≡ OutOfMemory
of_memory key_errors.Invalid other = absurd (other refl)
of_memory key_errors.OutOfMemory other = refl
