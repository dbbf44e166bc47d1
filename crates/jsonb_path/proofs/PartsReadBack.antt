-- Each part of a tree in range is in range and round-trips.
use Rattle.std.proofs.Common.{◌≡◌, ℕ, zero, suc, Bool, true, false, ◌⊎◌, inl, inr, if◌then◌else◌, Option, List, [], ◌∷◌, Some, None, subst}
use Rattle.std.specs.Str.{bytes_eq}
use Rattle.jsonb_spec.specs.Accessors.{find_member, item_at}
use Rattle.jsonb_spec.specs.Grammar.{max_depth, IsDocument}
use Rattle.jsonb_spec.specs.Mode.{Mode, standard, extended, json, extended_json}
use Rattle.jsonb_spec.specs.Proper.{IsProper, AreProper, HaveProperParts}
use Rattle.jsonb_spec.specs.Text.Range.{IsWithin, AreWithin, HaveWithin, IsIntegral, IsInRangeOf, HasFewDigits}
use Rattle.jsonb_spec.specs.Text.ReadsBack.{ReadsBackAs}
use Rattle.jsonb_spec.specs.Text.{text_of}
use Rattle.jsonb_spec.specs.Tree.{Num, Tree, null, boolean, string, number, array, object, Trees, no_trees, more_trees, Members, no_members, more_members}
use Rattle.jsonb_core.proofs.Trees.RangeTexts.{document_in_range, range_reads_back}
use Rattle.jsonb_spec.specs.PartAt.{IsChild, IsAt}

same_tree : (t u : Tree) → Some t ≡ Some u → t ≡ u
same_tree t u e = cc

no_tree : (t : Tree) → None ≡ Some t → ⊥
no_tree t e = cc

first_or_later : (is_first : Bool) (u t : Tree) (rest : Option Tree) → (if is_first then Some u else rest) ≡ Some t → (u ≡ t) ⊎ (rest ≡ Some t)
first_or_later true u t rest e = inl (same_tree u t e)
first_or_later false u t rest e = inr e

-- ---- within a range

module _ (P : Num → Type 0) where
  mutual
    -- what is within a depth is within the next
    pub deeper : (t : Tree) (depth : ℕ) → IsWithin P t depth → IsWithin P t (suc depth)
    deeper null depth w = tt
    deeper (boolean b) depth w = tt
    deeper (string mark bytes) depth w = tt
    deeper (number n) depth w = w
    deeper (array ts) zero w = absurd w
    deeper (array ts) (suc depth) w = items_deeper ts depth w
    deeper (object ms) zero w = absurd w
    deeper (object ms) (suc depth) w = members_deeper ms depth w
    deeper t depth w = absurd w

    items_deeper : (ts : Trees) (depth : ℕ) → AreWithin P ts depth → AreWithin P ts (suc depth)
    items_deeper no_trees depth w = tt
    items_deeper (more_trees t ts) depth w = (deeper t depth w.0, items_deeper ts depth w.1)

    members_deeper : (ms : Members) (depth : ℕ) → HaveWithin P ms depth → HaveWithin P ms (suc depth)
    members_deeper no_members depth w = tt
    members_deeper (more_members key t ms) depth w = (deeper t depth w.0, members_deeper ms depth w.1)

  item_within : (ts : Trees) (depth index : ℕ) (t : Tree) → AreWithin P ts depth → item_at ts index ≡ Some t → IsWithin P t depth
  item_within no_trees depth index t w e = absurd (no_tree t e)
  item_within (more_trees u ts) depth zero t w e = subst (λ x. IsWithin P x depth) (same_tree u t e) w.0
  item_within (more_trees u ts) depth (suc index) t w e = item_within ts depth index t w.1 e

  member_within : (test : List ℕ → Bool) (ms : Members) (depth : ℕ) (t : Tree) → HaveWithin P ms depth → find_member test ms ≡ Some t → IsWithin P t depth
  member_within test no_members depth t w e = absurd (no_tree t e)
  member_within test (more_members key u ms) depth t w e = elim (first_or_later (test key) u t (find_member test ms) e) [
    | inl same ↦ subst (λ x. IsWithin P x depth) same w.0
    | inr later ↦ member_within test ms depth t w.1 later
  ]

  child_within : (t : Tree) (key : List ℕ) (u : Tree) (depth : ℕ) → IsChild t key u → IsWithin P t depth → IsWithin P u depth
  child_within (array ts) key u zero is w = absurd w
  child_within (array ts) key u (suc depth) (index, encoded, at) w = deeper u depth (item_within ts depth index u w at)
  child_within (object ms) key u zero is w = absurd w
  child_within (object ms) key u (suc depth) is w = deeper u depth (member_within (bytes_eq key) ms depth u w is)
  child_within t key u depth is w = absurd is

  -- a part of what is within a depth is within it
  pub part_within : (t : Tree) (keys : List (List ℕ)) (part : Tree) (depth : ℕ) → IsAt t keys part → IsWithin P t depth → IsWithin P part depth
  part_within t [] part depth is w = subst (λ x. IsWithin P x depth) is w
  part_within t (key ∷ keys) part depth (u, child, at) w = part_within u keys part depth at (child_within t key u depth child w)

-- ---- proper

item_proper : (ts : Trees) (index : ℕ) (t : Tree) → AreProper ts → item_at ts index ≡ Some t → IsProper t
item_proper no_trees index t p e = absurd (no_tree t e)
item_proper (more_trees u ts) zero t p e = subst IsProper (same_tree u t e) p.0
item_proper (more_trees u ts) (suc index) t p e = item_proper ts index t p.1 e

member_proper : (test : List ℕ → Bool) (ms : Members) (t : Tree) → HaveProperParts ms → find_member test ms ≡ Some t → IsProper t
member_proper test no_members t p e = absurd (no_tree t e)
member_proper test (more_members key u ms) t p e = elim (first_or_later (test key) u t (find_member test ms) e) [
  | inl same ↦ subst IsProper same p.1
  | inr later ↦ member_proper test ms t p.2 later
]

child_proper : (t : Tree) (key : List ℕ) (u : Tree) → IsChild t key u → IsProper t → IsProper u
child_proper (array ts) key u (index, encoded, at) p = item_proper ts index u p at
child_proper (object ms) key u is p = member_proper (bytes_eq key) ms u p.1 is
child_proper t key u is p = absurd is

-- a part of a proper tree is proper
pub part_proper : (t : Tree) (keys : List (List ℕ)) (part : Tree) → IsAt t keys part → IsProper t → IsProper part
part_proper t [] part is p = subst IsProper is p
part_proper t (key ∷ keys) part (u, child, at) p = part_proper u keys part at (child_proper t key u child p)

-- ---- texts

part_in_range : (mode : Mode) (t : Tree) (keys : List (List ℕ)) (part : Tree) → IsAt t keys part → IsInRangeOf mode t → IsInRangeOf mode part
part_in_range standard t keys part is w = part_within IsIntegral t keys part max_depth is w
part_in_range extended t keys part is w = part_within HasFewDigits t keys part max_depth is w
part_in_range json t keys part is w = part_within HasFewDigits t keys part max_depth is w
part_in_range extended_json t keys part is w = part_within HasFewDigits t keys part max_depth is w

-- the text of a part of a document is a document of the part with the same text
pub part_reads_back : (mode : Mode) (document : List ℕ) (t : Tree) → IsDocument mode document t → (keys : List (List ℕ)) (part : Tree) → IsAt t keys part → (bytes : List ℕ) → text_of part ≡ Some bytes → ReadsBackAs mode bytes part
part_reads_back mode document t read keys part is bytes text =
    let range = document_in_range mode document t read in
    range_reads_back mode part (part_proper t keys part is range.1) (part_in_range mode t keys part is range.0) bytes text
