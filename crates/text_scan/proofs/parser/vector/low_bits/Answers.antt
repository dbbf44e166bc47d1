use Rattle.std.proofs.Common.{◌≡◌, ◌+◌, ltb, ltb-true, get_or, ap, arith, w8}
use Rattle.std.proofs.lemmas.Bool.{lt-ltb}
use Rattle.std.proofs.lemmas.Simd.{bitmask_splat, length-chunk}
use Rattle.std.specs.Simd.Lanes.{chunk}
use Rattle.text_scan.proofs.Strings.ByteMasks.{told}
use Rattle.text_scan.proofs.parser.vector.low_bits.Goals as goal

pub returns : goal.returns
returns c k =
    let bytes = c.args.bytes.now in
    let same : get_or bytes (0 + k) 0 ≡ get_or bytes k 0 = ap (λ n. get_or bytes n 0) (let e : 0 + k ≡ k = omega arith in e) in
    let tells = told (λ b. ltb b 32) 0 16 bytes _ c.requires (bitmask_splat w8 ltb (chunk 0 16 bytes) 16 32 (length-chunk 0 16 bytes c.requires) (omega arith)) k in (
      λ set. let t = tells.0 set in (t.0, omega (arith, same, ltb-true (get_or bytes (0 + k) 0) 32 t.1)),
      λ t. tells.1 (t.0, lt-ltb (get_or bytes (0 + k) 0) 32 (omega (arith, same, t.1))),
    )
