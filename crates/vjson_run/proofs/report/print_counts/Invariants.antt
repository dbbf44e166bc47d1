use Rattle.std.proofs.Common.{drop}
use Rattle.vjson_run.proofs.Counts.{CountsSo}
use Rattle.vjson_run.proofs.report.print_counts.Given as goal

abbrev pub invariant-lines : goal.invariant-lines
invariant-lines g l = CountsSo g.W.Write.contents l.fn.out l.out l.count l.line l.fn.lines (drop l.next-index l.others) l.next-index
