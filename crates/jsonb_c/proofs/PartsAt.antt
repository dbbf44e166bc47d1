-- The part at the keys of a path, found child by child, is the one part there.
use Rattle.std.proofs.Common.{◌≡◌, ℕ, zero, suc, ◌^◌, ◌<◌, Bool, true, false, List, [], ◌∷◌, Option, Some, None, refl, ap, subst, ◌∙◌, arith, if◌then◌else◌}
use Rattle.std.specs.Option.{option_and_then}
use Rattle.std.specs.Str.{bytes_eq}
use Rattle.jsonb_spec.specs.Accessors.{find_member, item_at}
use Rattle.jsonb_spec.specs.Tree.{Tree, array, object, Trees, no_trees, more_trees, Members, no_members, more_members}
use Rattle.jsonb_spec.specs.PartAt.{IsAt, IsChild, child_at, part_at}
use Rattle.jsonb_path.proofs.PartIndex.{is_named}
use Rattle.jsonb_c.proofs.ArraySizes.{AreBelow, ItemsBelow, MembersBelow}
use Rattle.jsonb.proofs.Children.{item_within}
use Rattle.key_walk.proofs.Finds.{child_there}

same_tree : (t u : Tree) → Some t ≡ Some u → t ≡ u
same_tree t u e = cc

no_tree : (t : Tree) → None ≡ Some t → ⊥
no_tree t e = cc

-- ---- children

pub child_found : (n : ℕ) → n < 2 ^ 64 → (key : List ℕ) (t u : Tree) → AreBelow n t → IsChild t key u → child_at key t ≡ Some u
child_found n small key (object ms) u below child = child
child_found n small key (array ts) u below (index, encoded, at) =
    let within = item_within ts index u at in
    ap (option_and_then (item_at ts)) (is_named key index encoded (omega (arith, within, below.0, small))) ∙ at
child_found n small key t u below child = absurd child

item_below : (n : ℕ) (ts : Trees) (i : ℕ) (u : Tree) → ItemsBelow n ts → item_at ts i ≡ Some u → AreBelow n u
item_below n no_trees i u below e = absurd (no_tree u e)
item_below n (more_trees t ts) zero u below e = subst (AreBelow n) (same_tree t u e) below.0
item_below n (more_trees t ts) (suc i) u below e = item_below n ts i u below.1 e

member_below : (n : ℕ) (key : List ℕ) (ms : Members) (u : Tree) → MembersBelow n ms → find_member (bytes_eq key) ms ≡ Some u → AreBelow n u
member_below n key no_members u below e = absurd (no_tree u e)
member_below n key (more_members l t ms) u below e = by (bytes_eq key l) e (member_below n key ms u below.1)
  where
    by : (b : Bool) → (if b then Some t else find_member (bytes_eq key) ms) ≡ Some u → (find_member (bytes_eq key) ms ≡ Some u → AreBelow n u) → AreBelow n u
    by true e others = subst (AreBelow n) (same_tree t u e) below.0
    by false e others = others e

child_below : (n : ℕ) (key : List ℕ) (t u : Tree) → AreBelow n t → IsChild t key u → AreBelow n u
child_below n key (object ms) u below child = member_below n key ms u below child
child_below n key (array ts) u below (index, encoded, at) = item_below n ts index u below.1 at
child_below n key t u below child = absurd child

-- ---- parts

pub part_there : (keys : List (List ℕ)) (t part : Tree) → part_at keys t ≡ Some part → IsAt t keys part
part_there [] t part e = same_tree t part e
part_there (key ∷ keys) t part e = by (child_at key t) refl e (λ u at. part_there keys u part at)
  where
    by : (o : Option Tree) → child_at key t ≡ o → option_and_then (part_at keys) o ≡ Some part → ((u : Tree) → part_at keys u ≡ Some part → IsAt u keys part) → IsAt t (key ∷ keys) part
    by None is e others = absurd (no_tree part e)
    by (Some u) is e others = (u, child_there key t u is, others u e)

pub part_found : (n : ℕ) → n < 2 ^ 64 → (keys : List (List ℕ)) (t part : Tree) → AreBelow n t → IsAt t keys part → part_at keys t ≡ Some part
part_found n small [] t part below is = ap Some is
part_found n small (key ∷ keys) t part below (u, child, at) =
    ap (option_and_then (part_at keys)) (child_found n small key t u below child) ∙ part_found n small keys u part (child_below n key t u below child) at
