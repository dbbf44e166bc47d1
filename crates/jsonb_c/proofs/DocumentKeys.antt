-- Where no number of a text has zeros at its end, the key of the text's tree is its document.
use Rattle.std.proofs.Common.{◌≡◌, ℕ, zero, suc, List, [], ◌∷◌, ◌++◌, length, replicate, Result, Ok, Err, IfOk, refl, sym, ap, ◌∙◌, arith, append-nil}
use Rattle.std.specs.List.{AllByRecursion}
use Rattle.jsonb_spec.specs.Grammar.{max_depth, IsDocument}
use Rattle.jsonb_spec.specs.Mode.{Mode}
use Rattle.jsonb_spec.specs.SortKey.{key_of, text_key}
use Rattle.jsonb_spec.specs.Text.Range.{EndsInNoZero, HasNoEndZeros, IsWithin, AreWithin, HaveWithin}
use Rattle.jsonb_spec.specs.Tree.{Tree, null, boolean, string, number, array, object, Trees, no_trees, more_trees, Members, no_members, more_members}
use Rattle.jsonb_spec.specs.Document.{behind_key, document_of}
use Rattle.jsonb_spec.specs.Document.Counts.{counts_at, counts_at_items, counts_at_members}
use Rattle.key_text.proofs.Spares.{none_to_spare}
use Rattle.jsonb_spec.specs.Document.Zeros.{zeros_of}
use Rattle.jsonb_spec.specs.Interface.Document.{IsDocumentOfText}
use Rattle.jsonb_spec.specs.Interface.{IsKeyOf}

abbrev AllZero : List ℕ → Type 0
AllZero cs = AllByRecursion (λ c. c ≡ 0) cs

nothing_stored : (plain : ℕ) (cs : List ℕ) → AllZero cs → zeros_of plain cs ≡ []
nothing_stored plain [] all = refl
nothing_stored plain (zero ∷ cs) all = nothing_stored (suc plain) cs all.1
nothing_stored plain (suc c ∷ cs) all = absurd (omega (arith, all.0))

both_zero : (xs ys : List ℕ) → AllZero xs → AllZero ys → AllZero (xs ++ ys)
both_zero [] ys a b = b
both_zero (x ∷ xs) ys a b = (a.0, both_zero xs ys a.1 b)

no_number : (n : ℕ) → AllZero (replicate n 0)
no_number zero = tt
no_number (suc n) = (refl, no_number n)

mutual
  none_at : (t : Tree) (depth : ℕ) → IsWithin EndsInNoZero t depth → AllZero (counts_at t)
  none_at null depth w = no_number (length (key_of null))
  none_at (boolean b) depth w = no_number (length (key_of (boolean b)))
  none_at (string mark bytes) depth w = no_number (length (key_of (string mark bytes)))
  none_at (number n) depth w = (none_to_spare n w, no_number _)
  none_at (array ts) zero w = absurd w
  none_at (array ts) (suc depth) w = (refl, none_at_items ts depth w)
  none_at (object ms) zero w = absurd w
  none_at (object ms) (suc depth) w = (refl, none_at_members ms depth w)
  none_at t depth w = absurd w

  none_at_items : (ts : Trees) (depth : ℕ) → AreWithin EndsInNoZero ts depth → AllZero (counts_at_items ts)
  none_at_items no_trees depth w = (refl, tt)
  none_at_items (more_trees t ts) depth w = both_zero (counts_at t) (counts_at_items ts) (none_at t depth w.0) (none_at_items ts depth w.1)

  none_at_members : (ms : Members) (depth : ℕ) → HaveWithin EndsInNoZero ms depth → AllZero (counts_at_members ms)
  none_at_members no_members depth w = (refl, (refl, tt))
  none_at_members (more_members k t ms) depth w =
      both_zero (replicate (length (text_key k)) 0) (counts_at t ++ counts_at_members ms) (no_number (length (text_key k))) (both_zero (counts_at t) (counts_at_members ms) (none_at t depth w.0) (none_at_members ms depth w.1))

document_is_key : (t : Tree) → HasNoEndZeros t → document_of t ≡ key_of t
document_is_key t none = ap (λ zeros. key_of t ++ behind_key zeros) (nothing_stored 0 (counts_at t) (none_at t max_depth none)) ∙ append-nil (key_of t)

pub key_is_document : (choice : ℕ) (text bytes : List ℕ) → ((mode : Mode) (t : Tree) → IsDocument mode text t → HasNoEndZeros t) → IsKeyOf choice text bytes → IsDocumentOfText choice text bytes
key_is_document choice text bytes none k = record { tree = k.tree; read = k.read; is_document = k.is_key ∙ sym (document_is_key k.tree (none k.read.mode k.tree k.read.document)) }

-- what holds of what is returned, if anything is
pub returned_so : {T E : Type 0} (P Q : T → Type 0) → ((x : T) → P x → Q x) → (r : Result T E) → IfOk r P → IfOk r Q
returned_so P Q so (Ok x) p = so x p
returned_so P Q so (Err e) p = tt
