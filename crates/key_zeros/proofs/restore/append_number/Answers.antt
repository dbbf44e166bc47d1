use Rattle.std.proofs.Common.{refl}
use Rattle.jsonb_core.proofs.Appending.Appended.{appends_then}
use Rattle.key_zeros.proofs.restore.append_number.Goals as goal

pub returns : goal.returns
returns c =
    appends_then c.append_ending.result c.args.buf.now c.extend_from_slice.new.self c.append_ending.new.buf c.args.text.now _ _ refl c.in_ok-extend_from_slice.ensures.items c.in_ok-extend_from_slice.ensures.capacity c.append_ending.ensures
