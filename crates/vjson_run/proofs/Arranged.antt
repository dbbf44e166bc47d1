-- What sorting, downwards too, and retaining the first of neighbours leave.
use Rattle.std.proofs.Common.{◌≡◌, Bool, true, false, List, Any, Ordering, Less, Equal, Greater, is_eq, reverse, refl, ap, ◌∙◌}
use Rattle.std.proofs.lemmas.Cmp.{back_total, nat_list_cmp_total}
use Rattle.std.proofs.lemmas.List.Kept.{Any-dedup, IsStrictlySortedBy-dedup}
use Rattle.std.proofs.lemmas.List.Sorted.{Contains-permutation}
use Rattle.std.specs.Cmp.{IsTotalOrder, on_total, on_equiv, eq_by_cmp_equiv}
use Rattle.std.specs.List.{dedup}
use Rattle.std.specs.Ordering.{eq_by_cmp}
use Rattle.vjson_run.proofs.Down.{moved_down, sorted_down, stable_down}
use Rattle.vjson_run.proofs.FirstOfEach.{firsts_retained, turned}
use Rattle.vjson_run.specs.Lines.{Arranges, IsFirstOfEach, line_cmp, line_key, order_of, same_key}
use Rattle.vjson_run.specs.declared.lines.Line.{Line}

tied : (o : Ordering) → is_eq o ≡ true → o ≡ Equal
tied Less e = cc
tied Equal e = refl
tied Greater e = cc

found : (l : Line) (retained : List Line) → Any (λ m. same_key l m ≡ true) retained → Any (λ m. line_cmp l m ≡ Equal) retained
found l retained h = (h.0, h.1, h.2, h.3, tied (line_cmp l h.1) h.4)

total_of : (down : Bool) → IsTotalOrder (order_of down)
total_of false = on_total line_key nat_list_cmp_total
total_of true = back_total (on_total line_key nat_list_cmp_total)

equal_of : (down : Bool) (l m : Line) → same_key l m ≡ eq_by_cmp (order_of down) l m
equal_of false l m = refl
equal_of true l m = ap is_eq ((on_total line_key nat_list_cmp_total).antisymm l m) ∙ turned (line_cmp m l)

pub first_of_each : (down : Bool) (given sorted : List Line) → Arranges (order_of down) given sorted → IsFirstOfEach (order_of down) given (dedup same_key sorted)
first_of_each down given sorted h = record {
  ascending = IsStrictlySortedBy-dedup (total_of down) (equal_of down) sorted h.ascending;
  first = firsts_retained (total_of down) (equal_of down) given sorted h.ascending h.stable;
  covers = λ l there. found l (dedup same_key sorted) (Any-dedup (on_equiv line_key (eq_by_cmp_equiv nat_list_cmp_total)) sorted l (Contains-permutation given sorted l h.moved there));
}

pub arranged_down : (given up : List Line) → Arranges (order_of false) (reverse given) up → Arranges (order_of true) given (reverse up)
arranged_down given up h = record {
  moved = moved_down line_cmp given up h.moved;
  ascending = sorted_down line_cmp up h.ascending;
  stable = stable_down line_cmp given up h.stable;
}
