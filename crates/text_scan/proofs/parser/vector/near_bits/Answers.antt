use Rattle.std.proofs.Common.{◌≡◌, ◌+◌, ◌<◌, ◌↔◌, eqb, get_or, subst, arith, w8}
use Rattle.std.proofs.lemmas.Simd.{bitmask_splat, length-chunk}
use Rattle.std.specs.Int.{bit_at}
use Rattle.std.specs.Simd.Lanes.{chunk}
use Rattle.text_scan.proofs.Strings.ByteMasks.{reported}
use Rattle.text_scan.proofs.parser.vector.near_bits.Goals as goal

pub returns : goal.returns
returns c k =
    let bytes = c.args.bytes.now in
    let same : 0 + k ≡ k = omega arith in
    subst (λ n. (bit_at _ k ≡ 1) ↔ ((k < 16) × (get_or bytes n 0 ≡ c.args.byte))) same
    (reported c.args.byte 0 16 bytes _ c.requires (bitmask_splat w8 eqb (chunk 0 16 bytes) 16 c.args.byte (length-chunk 0 16 bytes c.requires) (omega arith)) k)
