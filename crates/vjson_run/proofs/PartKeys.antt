-- The key of a part's serialized form is the part's own.
use Rattle.std.proofs.Common.{◌≡◌, ℕ, zero, suc, Bool, true, false, List, [], ◌∷◌, Option, Some, None, refl, ap, subst, ◌∙◌, if◌then◌else◌}
use Rattle.std.specs.Option.{option_and_then}
use Rattle.std.specs.Str.{bytes_eq}
use Rattle.jsonb_spec.specs.Accessors.{find_member, item_at}
use Rattle.jsonb_spec.specs.Grammar.{max_depth}
use Rattle.jsonb_spec.specs.Mode.{Mode, standard, extended, json, extended_json}
use Rattle.jsonb_spec.specs.PartAt.{child_at, index_named, part_at}
use Rattle.jsonb_spec.specs.Proper.{IsProper, AreProper, HaveProperParts}
use Rattle.jsonb_spec.specs.SortKey.{key_of}
use Rattle.jsonb_spec.specs.Text.Range.{IsWithin, AreWithin, HaveWithin, HasFewDigits, IsInRangeOf}
use Rattle.jsonb_spec.specs.Text.{text_of}
use Rattle.jsonb_spec.specs.Tree.{Tree, null, boolean, string, number, array, object, Trees, no_trees, more_trees, Members, no_members, more_members}
use Rattle.jsonb_core.proofs.SortKeys.Trees.{keys_same}
use Rattle.jsonb_core.proofs.Trees.RangeTexts.{document_in_range, integer_range, range_reads_back}
use Rattle.jsonb.proofs.Documents.Bounds.{document_proper}
use Rattle.jsonb.proofs.Documents.Encodings.{document_unique}
use Rattle.vjson_text.specs.Texts.{AppendsKeyOf, IsTextOf}
use Rattle.text_scan.specs.Answer.{grammar_of}
use Rattle.text_scan.specs.declared.parser.Grammar.{Grammar}
use Rattle.text_scan.specs.declared.parser.Grammar.TheVariants.{Extended}

-- ---- a part is in range where the whole is

mutual
  deeper : (t : Tree) (depth : ℕ) → IsWithin HasFewDigits t depth → IsWithin HasFewDigits t (suc depth)
  deeper null depth w = tt
  deeper (boolean b) depth w = tt
  deeper (string mark bytes) depth w = tt
  deeper (number n) depth w = w
  deeper (array ts) zero w = absurd w
  deeper (array ts) (suc depth) w = items_deeper ts depth w
  deeper (object ms) zero w = absurd w
  deeper (object ms) (suc depth) w = members_deeper ms depth w
  deeper t depth w = absurd w

  items_deeper : (ts : Trees) (depth : ℕ) → AreWithin HasFewDigits ts depth → AreWithin HasFewDigits ts (suc depth)
  items_deeper no_trees depth w = tt
  items_deeper (more_trees t ts) depth w = (deeper t depth w.0, items_deeper ts depth w.1)

  members_deeper : (ms : Members) (depth : ℕ) → HaveWithin HasFewDigits ms depth → HaveWithin HasFewDigits ms (suc depth)
  members_deeper no_members depth w = tt
  members_deeper (more_members k t ms) depth w = (deeper t depth w.0, members_deeper ms depth w.1)

-- in range at this depth, and well-formed
abbrev pub IsSound : ℕ → Tree → Type 0
IsSound depth t = IsWithin HasFewDigits t depth × IsProper t

same_tree : (t u : Tree) → Some t ≡ Some u → t ≡ u
same_tree t u e = cc

no_tree : (t : Tree) → None ≡ Some t → ⊥
no_tree t e = cc

item_sound : (ts : Trees) (i : ℕ) (t : Tree) (depth : ℕ) → item_at ts i ≡ Some t → AreWithin HasFewDigits ts depth → AreProper ts → IsSound depth t
item_sound no_trees i t depth e w p = absurd (no_tree t e)
item_sound (more_trees u ts) zero t depth e w p = subst (IsSound depth) (same_tree u t e) (w.0, p.0)
item_sound (more_trees u ts) (suc i) t depth e w p = item_sound ts i t depth e w.1 p.1

named_sound : (ts : Trees) (o : Option ℕ) (t : Tree) (depth : ℕ) → option_and_then (item_at ts) o ≡ Some t → AreWithin HasFewDigits ts depth → AreProper ts → IsSound depth t
named_sound ts None t depth e w p = absurd (no_tree t e)
named_sound ts (Some i) t depth e w p = item_sound ts i t depth e w p

member_sound : (key : List ℕ) (ms : Members) (t : Tree) (depth : ℕ) → find_member (bytes_eq key) ms ≡ Some t → HaveWithin HasFewDigits ms depth → HaveProperParts ms → IsSound depth t
member_sound key no_members t depth e w p = absurd (no_tree t e)
member_sound key (more_members l u ms) t depth e w p = by (bytes_eq key l) e (λ f. member_sound key ms t depth f w.1 p.2)
  where
    by : (b : Bool) → (if b then Some u else find_member (bytes_eq key) ms) ≡ Some t → (find_member (bytes_eq key) ms ≡ Some t → IsSound depth t) → IsSound depth t
    by true e others = subst (IsSound depth) (same_tree u t e) (w.0, p.1)
    by false e others = others e

raised : (depth : ℕ) (t : Tree) → IsSound depth t → IsSound (suc depth) t
raised depth t s = (deeper t depth s.0, s.1)

child_sound : (key : List ℕ) (t u : Tree) (depth : ℕ) → child_at key t ≡ Some u → IsSound depth t → IsSound depth u
child_sound key (object ms) u zero e s = absurd s.0
child_sound key (object ms) u (suc depth) e s = raised depth u (member_sound key ms u depth e s.0 s.1.1)
child_sound key (array ts) u zero e s = absurd s.0
child_sound key (array ts) u (suc depth) e s = raised depth u (named_sound ts (index_named key) u depth e s.0 s.1)
child_sound key t u depth e s = absurd (no_tree u e)

pub part_sound : (keys : List (List ℕ)) (t part : Tree) (depth : ℕ) → part_at keys t ≡ Some part → IsSound depth t → IsSound depth part
part_sound [] t part depth e s = subst (IsSound depth) (same_tree t part e) s
part_sound (key ∷ keys) t part depth e s = by (child_at key t) e (λ u child at. part_sound keys u part depth at (child_sound key t u depth child s))
  where
    by : (o : Option Tree) → option_and_then (part_at keys) o ≡ Some part → ((u : Tree) → o ≡ Some u → part_at keys u ≡ Some part → IsSound depth part) → IsSound depth part
    by None e others = absurd (no_tree part e)
    by (Some u) e others = others u refl e

-- what is in a mode's range is in range
in_range : (mode : Mode) (t : Tree) → IsProper t → IsInRangeOf mode t → IsWithin HasFewDigits t max_depth
in_range standard t p w = integer_range t p w
in_range extended t p w = w
in_range json t p w = w
in_range extended_json t p w = w

pub text_sound : (g : Grammar) (text : List ℕ) (t : Tree) → IsTextOf g text t → IsSound max_depth t
text_sound g text t h = let r = document_in_range (grammar_of g) text t h in (in_range (grammar_of g) t r.1 r.0, r.1)

pub part_key_is : (g : Grammar) (text : List ℕ) (t part : Tree) (keys : List (List ℕ)) (bytes key : List ℕ) → IsTextOf g text t → part_at keys t ≡ Some part → text_of part ≡ Some bytes → AppendsKeyOf Extended bytes [] key → key ≡ key_of part
part_key_is g text t part keys bytes key is at is_part h =
    let s = part_sound keys t part max_depth at (text_sound g text t is) in
    let back = range_reads_back extended part s.1 s.0 bytes is_part in
    let same : h.tree ≡ back.tree = document_unique extended bytes h.tree back.tree h.is_text back.document in
    h.appended ∙ ap key_of same ∙ (keys_same back.tree part (document_proper extended bytes back.tree back.document) s.1).1 back.same
