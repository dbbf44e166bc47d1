use Rattle.std.proofs.Common.{◌≡◌, Bool, true, false, List, OnOk, Result, Ok, Err, sym, subst}
use Rattle.std.specs.List.Sorted.{IsPermutation, IsSorted, IsStable}
use Rattle.vjson_run.proofs.Arranged.{arranged_down}
use Rattle.vjson_run.specs.Lines.{Arranges, line_cmp, order_of}
use Rattle.vjson_run.specs.declared.lines.Line.{Line}
use Rattle.vjson_run.proofs.lines.sort.Goals as goal

up : {E : Type 0} (down : Bool) (r : Result Unit E) (given sorted : List Line) → down ≡ false → IsPermutation given sorted → OnOk r (IsSorted line_cmp sorted) → IsStable line_cmp given sorted
    → OnOk r (Arranges (order_of down) given sorted)
up true r given sorted is moved ascending stable = cc
up false (Ok x) given sorted is moved ascending stable = record { moved = moved; ascending = ascending; stable = stable }
up false (Err e) given sorted is moved ascending stable = tt

down_too : (down : Bool) (given sorted : List Line) → down ≡ true → Arranges (order_of true) given sorted → Arranges (order_of down) given sorted
down_too true given sorted is h = h
down_too false given sorted is h = cc

pub returns-then-not-down : goal.returns-then-not-down
returns-then-not-down c = record { ok = up c.args.down c.sort.result c.args.lines.now.items c.sort.new.self.items c.if-not-down.true c.sort.ensures.permutation c.sort.ensures.sorted c.sort.ensures.stable }

pub returns : goal.returns
returns c = record {
  ok = down_too c.args.down c.args.lines.now.items c.reverse-2.new.self.items c.if-not-down.false
      (subst (Arranges (order_of true) c.args.lines.now.items) (sym c.reverse-2.ensures.items)
      (arranged_down c.args.lines.now.items c.sort-2.new.self.items
      (subst (λ given. Arranges (order_of false) given c.sort-2.new.self.items) c.reverse.ensures.items
      (record { moved = c.sort-2.ensures.permutation; ascending = c.in_ok-sort.ensures.sorted; stable = c.sort-2.ensures.stable }))));
}
