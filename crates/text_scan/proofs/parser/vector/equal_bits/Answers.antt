use Rattle.std.proofs.Common.{eqb, arith, w8}
use Rattle.std.proofs.lemmas.Simd.{bitmask_splat, length-chunk}
use Rattle.std.specs.Simd.Lanes.{chunk}
use Rattle.text_scan.proofs.Strings.ByteMasks.{reported}
use Rattle.text_scan.proofs.parser.vector.equal_bits.Goals as goal

pub returns : goal.returns
returns c =
    let bytes = c.args.bytes.now in
    let at = c.args.at in
    reported c.args.byte at 32 bytes _ c.requires (bitmask_splat w8 eqb (chunk at 32 bytes) 32 c.args.byte (length-chunk at 32 bytes c.requires) (omega arith))
