use Rattle.std.proofs.Common.{ℕ, cond, ltb, refl, arith}
use Rattle.std.proofs.lemmas.Simd.{zip2_splat, zip2_splat_left, zip2_of_maps, length-chunk}
use Rattle.std.specs.Simd.Lanes.{chunk}
use Rattle.text_scan.proofs.Numbers.DigitRuns.{digits_here, digits_within}
use Rattle.text_scan.proofs.parser.integer.near_digits.Goals as goal

pub returns-clause-within : goal.returns-clause-within
returns-clause-within c =
    let v = chunk 0 16 c.args.bytes.now in
    let long = length-chunk 0 16 c.args.bytes.now c.requires in
    digits_within c.args.bytes.now 16 _ _ _ c.requires (omega arith) c.type_inv.bytes c.first_set.ensures
    (zip2_of_maps _ _ _ v (zip2_splat _ v 16 48 long) (zip2_splat_left (λ (x y : ℕ). cond (ltb x y) 255 0) 57 16 v long)) refl

pub returns-clause-digits : goal.returns-clause-digits
returns-clause-digits c =
    let v = chunk 0 16 c.args.bytes.now in
    let long = length-chunk 0 16 c.args.bytes.now c.requires in
    digits_here c.args.bytes.now 16 _ _ _ c.requires (omega arith) c.type_inv.bytes c.first_set.ensures
    (zip2_of_maps _ _ _ v (zip2_splat _ v 16 48 long) (zip2_splat_left (λ (x y : ℕ). cond (ltb x y) 255 0) 57 16 v long)) refl
