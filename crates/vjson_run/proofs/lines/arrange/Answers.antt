use Rattle.std.proofs.Common.{◌≡◌, Bool, true, false, List, sym, subst}
use Rattle.std.proofs.lemmas.List.Filters.{dedup_is}
use Rattle.vjson_run.proofs.Arranged.{first_of_each}
use Rattle.vjson_run.specs.Lines.{IsArranged, IsFirstOfEach, order_of}
use Rattle.vjson_run.specs.declared.lines.Line.{Line}
use Rattle.vjson_run.proofs.lines.arrange.Goals as goal

firsts : (down unique : Bool) (given retained : List Line) → unique ≡ true → IsFirstOfEach (order_of down) given retained → IsArranged down unique given retained
firsts down true given retained is h = h
firsts down false given retained is h = cc

pub returns-then-unique : goal.returns-then-unique
returns-then-unique c = record {
  ok = firsts c.args.down c.args.unique c.args.lines.now.items c.dedup.new.self.items c.if-unique.true
      (subst (IsFirstOfEach (order_of c.args.down) c.args.lines.now.items) (sym (dedup_is _ _ _ c.dedup.ensures.filtered))
      (first_of_each c.args.down c.args.lines.now.items c.sort.new.lines.items c.in_ok-sort.ensures.ok));
}
