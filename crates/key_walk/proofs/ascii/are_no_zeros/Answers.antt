use Rattle.std.proofs.Common.{◌≡◌, refl, arith, sym, ap, map, take, ◌∙◌}
use Rattle.std.proofs.lemmas.Simd.{zip2_splat}
use Rattle.std.proofs.Math.Seq.{take-length}
use Rattle.std.specs.Simd.Lanes.{chunk}
use Rattle.key_walk.proofs.LesserBytes.{lane_fits}
use Rattle.key_walk.proofs.PlainBytes.{is_zero_byte, marks_pass, no_zeros, none_set}
use Rattle.key_walk.proofs.ascii.are_no_zeros.Goals as goal

pub returns : goal.returns
returns c all =
    let lanes = c.args.lanes in
    let long = c.fits-lanes.0 in
    let whole : chunk 0 16 lanes ≡ lanes = ap (λ i. take i lanes) (sym long) ∙ take-length lanes in
    no_zeros lanes 16 (λ k l. marks_pass is_zero_byte lanes 16 16 _ _ (omega (arith, long)) (omega arith) (none_set _ 16 all)
    (zip2_splat _ lanes 16 0 long ∙ ap (map _) (sym whole)) refl k l (lane_fits lanes c.fits-lanes.1 k))
