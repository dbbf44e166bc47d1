use Rattle.std.proofs.Common.{ℕ, cond, leb, refl, arith}
use Rattle.std.proofs.lemmas.Simd.{zip2_splat, zip2_splat_left, zip2_of_maps, length-chunk}
use Rattle.std.specs.Simd.Lanes.{chunk}
use Rattle.key_walk.proofs.PlainBytes.{is_other, marks_within, marks_pass, plain_bytes}
use Rattle.key_walk.proofs.ascii.run_of_sixteen.Goals as goal

pub returns-clause-within : goal.returns-clause-within
returns-clause-within c =
    let v = chunk 0 16 c.args.bytes.now in
    let long = length-chunk 0 16 c.args.bytes.now c.requires in
    marks_within is_other c.args.bytes.now 16 _ _ _ c.requires (omega arith) c.first_set.ensures
    (zip2_of_maps _ _ _ v (zip2_splat _ v 16 0 long) (zip2_splat_left (λ (a b : ℕ). cond (leb a b) 255 0) 128 16 v long))

pub returns-clause-plain : goal.returns-clause-plain
returns-clause-plain c =
    let v = chunk 0 16 c.args.bytes.now in
    let long = length-chunk 0 16 c.args.bytes.now c.requires in
    plain_bytes c.args.bytes.now c.first_set.result
    (λ k l. marks_pass is_other c.args.bytes.now 16 _ _ _ c.requires (omega arith) c.first_set.ensures
    (zip2_of_maps _ _ _ v (zip2_splat _ v 16 0 long) (zip2_splat_left (λ (a b : ℕ). cond (leb a b) 255 0) 128 16 v long)) refl k l (c.type_inv.bytes k))
