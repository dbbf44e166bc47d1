use Rattle.std.proofs.Common.{take}
use Rattle.vjson_run.proofs.Parts.{CountedSo}
use Rattle.vjson_run.proofs.answers.counted_row.Given as goal

-- the parts so far are in the row
abbrev pub invariant-parts : goal.invariant-parts
invariant-parts l = CountedSo l.options.grammar l.text (take l.part-index l.options.by.items) l.row.items
