use Rattle.text_scan.proofs.Strings.NearMarks.{reports}
use Rattle.text_scan.proofs.parser.string.load_marks.Goals as goal

pub returns : goal.returns
returns c = reports c.args.quote 32 c.args.at c.equal_bits-quotes.result c.equal_bits-backslashes.result c.args.bytes.now c.requires c.equal_bits-quotes.ensures c.equal_bits-backslashes.ensures
