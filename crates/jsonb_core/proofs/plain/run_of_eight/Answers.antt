use Rattle.std.proofs.Common.{refl, arith}
use Rattle.std.proofs.lemmas.Simd.{zip2_splat, zip2_of_maps, length-chunk}
use Rattle.std.specs.Simd.Lanes.{chunk}
use Rattle.jsonb_core.proofs.Strings.PlainRuns.{marks_within, marks_plain}
use Rattle.jsonb_core.proofs.plain.run_of_eight.Goals as goal

pub returns-clause-within : goal.returns-clause-within
returns-clause-within c =
    let v = chunk 0 8 c.args.bytes.now in
    let long = length-chunk 0 8 c.args.bytes.now c.requires in
    marks_within c.args.bytes.now 8 _ _ _ c.requires (omega arith) c.type_inv.bytes c.first_set.ensures
    (zip2_of_maps _ _ _ v (zip2_of_maps _ _ _ v (zip2_splat _ v 8 32 long) (zip2_splat _ v 8 34 long)) (zip2_splat _ v 8 92 long)) refl

pub returns-clause-plain : goal.returns-clause-plain
returns-clause-plain c =
    let v = chunk 0 8 c.args.bytes.now in
    let long = length-chunk 0 8 c.args.bytes.now c.requires in
    marks_plain c.args.bytes.now 8 _ _ _ c.requires (omega arith) c.type_inv.bytes c.first_set.ensures
    (zip2_of_maps _ _ _ v (zip2_of_maps _ _ _ v (zip2_splat _ v 8 32 long) (zip2_splat _ v 8 34 long)) (zip2_splat _ v 8 92 long)) refl
