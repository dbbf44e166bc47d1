use Rattle.std.proofs.Common.{◌+◌, refl}
use Rattle.text_scan.proofs.Strings.NearMarks.{clear_before, knows_later}
use Rattle.text_scan.proofs.parser.string.first_mark.Goals as goal

pub returns-clause-before : goal.returns-clause-before
returns-clause-before c =
    let known = c.requires.known in
    clear_before c.args.quote c.args.marks c.args.at known.0 c.lowest-count.result c.args.bytes.now known.1 c.lowest-count.ensures.below (known.1.short c.lowest-count.result c.lowest-count.ensures.set)

pub returns-clause-known : goal.returns-clause-known
returns-clause-known c = knows_later c.args.quote c.args.at c.lowest-count.result (c.args.at + c.lowest-count.result) c.args.marks c.shifted_down.result c.args.bytes.now c.shifted_down.ensures refl c.requires.known
