use Rattle.std.proofs.Common.{arith}
use Rattle.std.proofs.lemmas.List.{take-replicate}
use Rattle.jsonb_core.proofs.Appending.Appended.{extended}
use Rattle.key_text.proofs.number.append_zeros.Goals as goal

pub returns : goal.returns
returns c = extended c.extend_from_slice.result c.args.buf.now c.extend_from_slice.new.self _ _ c.extend_from_slice.ensures.items c.extend_from_slice.ensures.full c.extend_from_slice.ensures.capacity (take-replicate c.args.zeros 255 48 (omega (arith, c.requires)))
