use Rattle.std.proofs.Common.{◌+◌, refl}
use Rattle.jsonb_path.proofs.PlainKeys.{plain_byte, plain_stopped}
use Rattle.jsonb_path.proofs.keys.plain_len.Goals as goal

pub bytes-preserved : goal.bytes-preserved
bytes-preserved c = plain_byte c.args.text.now c.bytes.rest.now c.in-Some.others.now c.bytes.len (c.bytes.len + 1) c.in-Some.byte.now c.bytes.invariant c.in-Some.ensures.cases.0 refl c.if-byte-eq47.false c.if-byte-eq126.false

pub returns-then-byte-eq126-clause-none : goal.returns-then-byte-eq126-clause-none
returns-then-byte-eq126-clause-none c = plain_stopped c.args.text.now c.bytes.rest.now c.in-Some.others.now c.bytes.len c.in-Some.byte.now c.bytes.invariant c.in-Some.ensures.cases.0 c.if-byte-eq126.true
