use Rattle.std.proofs.Common.{◌≡◌, ◌≢◌, ℕ, cond, eqb, ne_eqb, refl, arith}
use Rattle.std.proofs.lemmas.Simd.{zip2_splat, zip2_of_maps, length-chunk}
use Rattle.std.specs.Int.{trailing_zeros, w64}
use Rattle.std.specs.Simd.Lanes.{chunk}
use Rattle.jsonb_core.proofs.Strings.PlainRuns.{marks_inside, marks_plain}
use Rattle.jsonb_core.proofs.plain.near_escaped.Goals as goal

none_set : (mask n : ℕ) → mask ≡ 0 → n ≡ cond (eqb mask 0) n (trailing_zeros w64 mask)
none_set mask n e = rw e refl

some_set : (mask n : ℕ) → mask ≢ 0 → trailing_zeros w64 mask ≡ cond (eqb mask 0) n (trailing_zeros w64 mask)
some_set mask n e = rw (ne_eqb mask 0 e) refl

pub returns-then-mask-eq0-clause-plain : goal.returns-then-mask-eq0-clause-plain
returns-then-mask-eq0-clause-plain c =
    let v = chunk 0 16 c.args.bytes.now in
    let long = length-chunk 0 16 c.args.bytes.now c.requires in
    marks_plain c.args.bytes.now 16 16 _ _ c.requires (omega arith) c.type_inv.bytes (none_set _ 16 c.if-mask-eq0.true)
    (zip2_of_maps _ _ _ v (zip2_of_maps _ _ _ v (zip2_splat _ v 16 32 long) (zip2_splat _ v 16 34 long)) (zip2_splat _ v 16 92 long)) refl

pub returns-clause-within : goal.returns-clause-within
returns-clause-within c =
    let v = chunk 0 16 c.args.bytes.now in
    let long = length-chunk 0 16 c.args.bytes.now c.requires in
    marks_inside c.args.bytes.now 16 _ _ _ c.requires (omega arith) c.type_inv.bytes (some_set _ 16 c.if-mask-eq0.false)
    (zip2_of_maps _ _ _ v (zip2_of_maps _ _ _ v (zip2_splat _ v 16 32 long) (zip2_splat _ v 16 34 long)) (zip2_splat _ v 16 92 long)) refl c.if-mask-eq0.false

pub returns-clause-plain : goal.returns-clause-plain
returns-clause-plain c =
    let v = chunk 0 16 c.args.bytes.now in
    let long = length-chunk 0 16 c.args.bytes.now c.requires in
    marks_plain c.args.bytes.now 16 _ _ _ c.requires (omega arith) c.type_inv.bytes (some_set _ 16 c.if-mask-eq0.false)
    (zip2_of_maps _ _ _ v (zip2_of_maps _ _ _ v (zip2_splat _ v 16 32 long) (zip2_splat _ v 16 34 long)) (zip2_splat _ v 16 92 long)) refl
