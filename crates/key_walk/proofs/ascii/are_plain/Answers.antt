use Rattle.std.proofs.Common.{ℕ, cond, leb, refl, arith}
use Rattle.std.proofs.lemmas.Simd.{zip2_splat, zip2_splat_left, zip2_of_maps, length-chunk}
use Rattle.std.specs.Simd.Lanes.{chunk}
use Rattle.key_walk.proofs.PlainBytes.{is_other, marks_pass, none_set, plain_bytes}
use Rattle.key_walk.proofs.ascii.are_plain.Goals as goal

pub returns : goal.returns
returns c all =
    let v = chunk 0 64 c.args.bytes.now in
    let long = length-chunk 0 64 c.args.bytes.now c.requires in
    plain_bytes c.args.bytes.now 64
    (λ k l. marks_pass is_other c.args.bytes.now 64 64 _ _ c.requires (omega arith) (none_set _ 64 all)
    (zip2_of_maps _ _ _ v (zip2_splat _ v 64 0 long) (zip2_splat_left (λ (a b : ℕ). cond (leb a b) 255 0) 128 64 v long)) refl k l (c.type_inv.bytes k))
