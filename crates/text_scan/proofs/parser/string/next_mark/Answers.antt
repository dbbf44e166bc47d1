use Rattle.std.proofs.Common.{◌+◌, ⊎_elim, refl}
use Rattle.std.proofs.lemmas.Bool.{cases_lt}
use Rattle.text_scan.proofs.Strings.NearMarks.{clear_all, clear_before, knows_later}
use Rattle.text_scan.proofs.parser.string.next_mark.Goals as goal

pub returns-clause-before : goal.returns-clause-before
returns-clause-before c =
    let t = c.load_marks-marks.ensures in
    clear_before c.args.quote c.load_marks-marks.result c.args.at (c.args.at + 32) c.lowest-count.result c.args.bytes.now t c.lowest-count.ensures.below (t.short c.lowest-count.result c.lowest-count.ensures.set)

pub returns-clause-known : goal.returns-clause-known
returns-clause-known c =
    knows_later c.args.quote c.args.at c.lowest-count.result (c.args.at + c.lowest-count.result) c.load_marks-marks.result c.shifted_down.result c.args.bytes.now c.shifted_down.ensures refl (c.args.at + 32, c.load_marks-marks.ensures)

pub returns-then-marks-eq0-clause-before : goal.returns-then-marks-eq0-clause-before
returns-then-marks-eq0-clause-before c k low high =
    let none = clear_all c.args.quote c.load_marks-marks.result c.args.at (c.args.at + 32) c.args.bytes.now c.load_marks-marks.ensures c.if-marks-eq0.true in
    ⊎_elim (λ near. none k low near) (λ far. c.far_mark.ensures.before k far high) (cases_lt k (c.args.at + 32))
