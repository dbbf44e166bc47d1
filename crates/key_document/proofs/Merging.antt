-- Members merged, from the first ones on.
use Rattle.std.proofs.Common.{◌≡◌, ℕ, List, [], ◌∷◌, ◌++◌, refl, sym, ap, subst, ◌∙◌, append_assoc}
use Rattle.std.specs.Cmp.Lexicographic.{nat_list_cmp_total}
use Rattle.std.specs.FinMap.{nat_cmp-IsAntisymmetric, slice_cmp-IsAntisymmetric}
use Rattle.std.specs.Ordering.{match_ordering, ordering_reverse}
use Rattle.std.specs.declared.cmp.Ordering.TheVariants.{Less, Equal, Greater}
use Rattle.jsonb_spec.specs.Keys.{IsBelowKeys}
use Rattle.jsonb_spec.specs.Order.{bytes_cmp}
use Rattle.jsonb_spec.specs.Tree.{Tree, Trees, no_trees, more_trees, Members, no_members, more_members, put}
use Rattle.jsonb_core.proofs.Trees.MembersInOrder.{turned}
use Rattle.jsonb_spec.specs.Document.Counts.{counts_of_items, counts_at, counts_at_items}
use Rattle.jsonb_spec.specs.Edit.{joined_items, merged_members}
use Rattle.key_edit.proofs.ProperChanges.{below_rest}

put_after : (k l : List ℕ) (t u : Tree) (ms : Members) → bytes_cmp k l ≡ Less → put l u (more_members k t ms) ≡ more_members k t (put l u ms)
put_after k l t u ms h = ap (λ o. match_ordering o (more_members l u (more_members k t ms)) (more_members k u ms) (more_members k t (put l u ms))) (turned k l h)

stays_first : (k : List ℕ) (t : Tree) (ns ms : Members) → IsBelowKeys k ns → merged_members (more_members k t ms) ns ≡ more_members k t (merged_members ms ns)
stays_first k t no_members ms h = refl
stays_first k t (more_members l u ns) ms h = ap (λ m. merged_members m ns) (put_after k l t u ms h.0) ∙ stays_first k t ns (put l u ms) h.1

pub left_first : (k l : List ℕ) (t u : Tree) (ms ns : Members) → IsBelowKeys l ns → bytes_cmp k l ≡ Less
    → merged_members (more_members k t ms) (more_members l u ns) ≡ more_members k t (merged_members ms (more_members l u ns))
left_first k l t u ms ns b less = stays_first k t (more_members l u ns) ms (less, below_rest k l ns less b)

pub right_first : (k l : List ℕ) (t u : Tree) (ms ns : Members) → IsBelowKeys l ns → bytes_cmp k l ≡ Greater
    → merged_members (more_members k t ms) (more_members l u ns) ≡ more_members l u (merged_members (more_members k t ms) ns)
right_first k l t u ms ns b greater =
    let less : bytes_cmp l k ≡ Less = nat_list_cmp_total.antisymm l k ∙ ap ordering_reverse greater in
    ap (λ m. merged_members m ns) (ap (λ o. match_ordering o (more_members l u (more_members k t ms)) (more_members k u ms) (more_members k t (put l u ms))) less)
    ∙ stays_first l u ns (more_members k t ms) b

pub right_instead : (k l : List ℕ) (t u : Tree) (ms ns : Members) → IsBelowKeys l ns → bytes_cmp k l ≡ Equal
    → merged_members (more_members k t ms) (more_members l u ns) ≡ more_members l u (merged_members ms ns)
right_instead k l t u ms ns b equal =
    let same : k ≡ l = slice_cmp-IsAntisymmetric nat_cmp-IsAntisymmetric k l equal in
    let turned_equal : bytes_cmp l k ≡ Equal = nat_list_cmp_total.antisymm l k ∙ ap ordering_reverse equal in
    ap (λ m. merged_members m ns) (ap (λ o. match_ordering o (more_members l u (more_members k t ms)) (more_members k u ms) (more_members k t (put l u ms))) turned_equal)
    ∙ stays_first k u ns ms (subst (λ x. IsBelowKeys x ns) (sym same) b)
    ∙ ap (λ x. more_members x u (merged_members ms ns)) same

pub joined_counts : (ts us : Trees) → counts_at_items (joined_items ts us) ≡ counts_of_items ts ++ counts_at_items us
joined_counts no_trees us = refl
joined_counts (more_trees t ts) us = ap (λ l. counts_at t ++ l) (joined_counts ts us) ∙ sym (append_assoc (counts_at t) (counts_of_items ts) (counts_at_items us))

pub items_counts_end : (ts : Trees) → counts_at_items ts ≡ counts_of_items ts ++ 0 ∷ []
items_counts_end no_trees = refl
items_counts_end (more_trees t ts) = ap (λ l. counts_at t ++ l) (items_counts_end ts) ∙ sym (append_assoc (counts_at t) (counts_of_items ts) (0 ∷ []))
