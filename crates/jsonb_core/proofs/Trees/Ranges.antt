-- Trees within a range: they are in a wider range, and have a text.
use Rattle.std.proofs.Common.{◌≡◌, ℕ, zero, suc, true, refl}
use Rattle.std.proofs.lemmas.Bool.{and_from}
use Rattle.jsonb_spec.specs.Proper.{IsProperNumber, IsProper, AreProper, HaveProperParts}
use Rattle.jsonb_spec.specs.Text.Range.{IsWithin, AreWithin, HaveWithin}
use Rattle.jsonb_spec.specs.Text.{has_text, items_have_texts, members_have_texts}
use Rattle.jsonb_spec.specs.Tree.{Num, Tree, null, boolean, string, number, array, object, Trees, no_trees, more_trees, Members, no_members, more_members}

-- numbers of one kind are numbers of a wider kind
module _ (P Q : Num → Type 0) (wider : (n : Num) → IsProperNumber n → P n → Q n) where
  mutual
    pub widened : (t : Tree) (depth : ℕ) → IsProper t → IsWithin P t depth → IsWithin Q t depth
    widened null depth p w = tt
    widened (boolean b) depth p w = tt
    widened (string mark bytes) depth p w = tt
    widened (number n) depth p w = wider n p w
    widened (array ts) zero p w = absurd w
    widened (array ts) (suc depth) p w = each_widened ts depth p w
    widened (object ms) zero p w = absurd w
    widened (object ms) (suc depth) p w = members_widened ms depth p.1 w
    widened t depth p w = absurd w

    pub each_widened : (ts : Trees) (depth : ℕ) → AreProper ts → AreWithin P ts depth → AreWithin Q ts depth
    each_widened no_trees depth p w = tt
    each_widened (more_trees t ts) depth p w = (widened t depth p.0 w.0, each_widened ts depth p.1 w.1)

    pub members_widened : (ms : Members) (depth : ℕ) → HaveProperParts ms → HaveWithin P ms depth → HaveWithin Q ms depth
    members_widened no_members depth p w = tt
    members_widened (more_members key t ms) depth p w = (widened t depth p.1 w.0, members_widened ms depth p.2 w.1)

-- what is within a range has a text
module _ (P : Num → Type 0) where
  mutual
    pub within_text : (t : Tree) (depth : ℕ) → IsWithin P t depth → has_text t ≡ true
    within_text null depth w = refl
    within_text (boolean b) depth w = refl
    within_text (string mark bytes) depth w = refl
    within_text (number n) depth w = refl
    within_text (array ts) zero w = absurd w
    within_text (array ts) (suc depth) w = within_texts ts depth w
    within_text (object ms) zero w = absurd w
    within_text (object ms) (suc depth) w = within_members ms depth w
    within_text t depth w = absurd w

    within_texts : (ts : Trees) (depth : ℕ) → AreWithin P ts depth → items_have_texts ts ≡ true
    within_texts no_trees depth w = refl
    within_texts (more_trees t ts) depth w = and_from (has_text t) (items_have_texts ts) (within_text t depth w.0) (within_texts ts depth w.1)

    within_members : (ms : Members) (depth : ℕ) → HaveWithin P ms depth → members_have_texts ms ≡ true
    within_members no_members depth w = refl
    within_members (more_members key t ms) depth w = and_from (has_text t) (members_have_texts ms) (within_text t depth w.0) (within_members ms depth w.1)
