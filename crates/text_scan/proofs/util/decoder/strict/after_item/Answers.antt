use Rattle.text_scan.proofs.Strings.Strict.{raw_item}
use Rattle.text_scan.proofs.util.decoder.strict.after_item.Goals as goal

pub returns-clause-some : goal.returns-clause-some
returns-clause-some c = raw_item c.args.byte c.args.rest.now c.if-byte-eq92.false
