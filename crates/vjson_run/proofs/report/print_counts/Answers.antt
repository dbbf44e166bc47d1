use Rattle.std.proofs.Common.{◌∙◌, sym}
use Rattle.vjson_run.proofs.Counts.{counts_end, counts_next}
use Rattle.vjson_run.proofs.report.print_counts.Goals as goal

pub lines-preserved : goal.lines-preserved
lines-preserved g c =
    counts_next g.W.Write.contents c.args.out.now c.lines.out c.print_count.new.out c.lines.count c.lines.line.now c.next-item.result c.args.lines.now c.in-Some.others.now c.lines.next-index
    c.lines-test.true c.next-item.is (sym c.eq.ensures ∙ c.if-eq.false) c.in_ok-print_count.ensures.ok c.lines.invariant

pub returns : goal.returns
returns g c = record {
  ok = counts_end g.W.Write.contents c.args.out.now c.lines.out c.print_count-2.new.out c.lines.count c.lines.line.now c.args.lines.now c.in-Some.others.now c.lines.next-index c.args.by_parts
      c.lines-test.false c.in_ok-print_count-2.ensures.ok c.lines.invariant;
}
