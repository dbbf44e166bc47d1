use Rattle.std.proofs.Common.{refl, arith}
use Rattle.std.proofs.lemmas.Simd.{zip2_splat, length-chunk}
use Rattle.std.specs.Simd.Lanes.{chunk}
use Rattle.key_walk.proofs.PlainBytes.{is_zero_byte, marks_within, marks_pass, no_zeros}
use Rattle.key_walk.proofs.ascii.run_of_sixteen_before_zero.Goals as goal

pub returns-clause-within : goal.returns-clause-within
returns-clause-within c =
    let v = chunk 0 16 c.args.bytes.now in
    let long = length-chunk 0 16 c.args.bytes.now c.requires in
    marks_within is_zero_byte c.args.bytes.now 16 _ _ _ c.requires (omega arith) c.first_set.ensures (zip2_splat _ v 16 0 long)

pub returns-clause-none : goal.returns-clause-none
returns-clause-none c =
    let v = chunk 0 16 c.args.bytes.now in
    let long = length-chunk 0 16 c.args.bytes.now c.requires in
    no_zeros c.args.bytes.now c.first_set.result
    (λ k l. marks_pass is_zero_byte c.args.bytes.now 16 _ _ _ c.requires (omega arith) c.first_set.ensures (zip2_splat _ v 16 0 long) refl k l (c.type_inv.bytes k))
