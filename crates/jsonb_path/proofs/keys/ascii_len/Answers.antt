use Rattle.jsonb_path.proofs.PlainKeys.{ascii_begun, ascii_byte, ascii_ended}
use Rattle.jsonb_path.proofs.keys.ascii_len.Goals as goal

pub bytes-init : goal.bytes-init
bytes-init c = ascii_begun c.args.text.now

pub bytes-preserved : goal.bytes-preserved
bytes-preserved c = ascii_byte c.args.text.now c.bytes.rest.now c.in-Some.others.now c.bytes.len c.in-Some.byte.now c.bytes.invariant c.in-Some.ensures.cases.0 c.if-byte-ge126.false c.if-byte-eq47.false

pub returns-then-byte-ge126 : goal.returns-then-byte-ge126
returns-then-byte-ge126 c = ascii_ended c.args.text.now c.bytes.rest.now c.bytes.len c.bytes.invariant

pub returns : goal.returns
returns c = ascii_ended c.args.text.now c.bytes.rest.now c.bytes.len c.bytes.invariant
