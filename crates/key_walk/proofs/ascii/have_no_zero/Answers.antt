use Rattle.std.proofs.Common.{drop, refl}
use Rattle.std.proofs.lemmas.List.{take_rest}
use Rattle.key_walk.proofs.PlainBytes.{no_zeros_on}
use Rattle.key_walk.proofs.ascii.have_no_zero.Goals as goal

pub returns : goal.returns
returns c all =
    let bytes = c.args.bytes.now in
    let halves = c.lesser.ensures (c.are_no_zeros.ensures all) in
    no_zeros_on bytes (drop 64 bytes) 64 64 refl (c.least_of_four.ensures halves.0) (rw (take_rest bytes 64) at (c.least_of_four-2.ensures halves.1))
