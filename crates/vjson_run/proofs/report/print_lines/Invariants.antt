use Rattle.std.proofs.Common.{take}
use Rattle.std.specs.List.{flat_map}
use Rattle.vjson_run.specs.Lines.{line_text}
use Rattle.vjson_run.specs.Output.{PrintsPart}
use Rattle.vjson_run.proofs.report.print_lines.Given as goal

abbrev pub invariant-lines : goal.invariant-lines
invariant-lines g l = PrintsPart g.W.Write.contents l.fn.out l.out (flat_map line_text (take l.line-index l.lines))
