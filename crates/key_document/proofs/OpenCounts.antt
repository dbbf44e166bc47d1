-- The counts of what is open, at an end, a part and an opening.
use Rattle.std.proofs.Common.{◌≡◌, ℕ, List, ◌∷◌, ◌++◌, length, replicate, refl, sym, ap, ap₂, ◌∙◌, append_assoc}
use Rattle.jsonb_spec.specs.SortKey.{text_key}
use Rattle.jsonb_spec.specs.Tree.{Tree, no_trees, more_trees, no_members, more_members}
use Rattle.jsonb_spec.specs.Document.Counts.{counts_at, counts_at_items, counts_at_members, counts_open, opens_counts}
use Rattle.jsonb_spec.specs.SortKey.Open.{Open, items, members, is_object, end_key, name_key}
use Rattle.jsonb_spec.specs.SortKey.Parts.{opened_tree}
use Rattle.jsonb_spec.specs.SortKey.Steps.{IsOver, IsPart}
use Rattle.key_walk.proofs.Occurrence.{regroup}

-- ---- an end

pub over_bytes : (over : Open) (under : List Open) → IsOver over → opens_counts (over ∷ under) ≡ replicate (length (end_key (is_object over))) 0 ++ opens_counts under
over_bytes (items no_trees) under h = refl
over_bytes (items (more_trees t ts)) under h = absurd h
over_bytes (members no_members) under h = refl
over_bytes (members (more_members k t ms)) under h = absurd h

-- ---- a part

pub part_bytes : (o : Open) (name : List ℕ) (value : Tree) (others : Open) (under : List Open) → IsPart o name value others → opens_counts (o ∷ under) ≡ replicate (length (name_key (is_object o) name)) 0 ++ (counts_at value ++ opens_counts (others ∷ under))
part_bytes (items no_trees) name value others under p = absurd p
part_bytes (items (more_trees t ts)) name value others under p =
    append_assoc (counts_at t) (counts_at_items ts) (opens_counts under) ∙ ap₂ (λ v o. counts_at v ++ (counts_open o ++ opens_counts under)) (sym p.1) (sym p.2)
part_bytes (members no_members) name value others under p = absurd p
part_bytes (members (more_members k t ms)) name value others under p =
    regroup (replicate (length (text_key k)) 0) (counts_at t) (counts_at_members ms) (opens_counts under)
    ∙ ap (λ n. replicate (length (text_key n)) 0 ++ (counts_at t ++ (counts_at_members ms ++ opens_counts under))) (sym p.0)
    ∙ ap₂ (λ v o. replicate (length (text_key name)) 0 ++ (counts_at v ++ (counts_open o ++ opens_counts under))) (sym p.1) (sym p.2)

-- ---- an array or an object

pub opened_bytes : (inside : Open) → counts_at (opened_tree inside) ≡ 0 ∷ counts_open inside
opened_bytes (items ts) = refl
opened_bytes (members ms) = refl
