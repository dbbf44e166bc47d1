use Rattle.std.proofs.Common.{ℕ, cond, leb, refl}
use Rattle.std.proofs.lemmas.Simd.{zip2_splat_left, length-chunk}
use Rattle.std.specs.Simd.Lanes.{chunk}
use Rattle.text_parse.proofs.Ascii.{marks_ascii}
use Rattle.text_parse.proofs.parser.ascii.begins_ascii.Goals as goal

pub returns : goal.returns
returns c none =
    let v = chunk 0 16 c.args.bytes.now in
    marks_ascii c.args.bytes.now _ _ c.requires c.type_inv.bytes none (zip2_splat_left (λ (a b : ℕ). cond (leb a b) 255 0) 128 16 v (length-chunk 0 16 c.args.bytes.now c.requires)) refl
