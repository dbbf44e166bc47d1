use Rattle.std.proofs.Common.{arith}
use Rattle.std.proofs.lemmas.Nat.Bits.{bit_at-lt, bit_at_and}
use Rattle.text_scan.proofs.parser.whitespace.block_ends.Goals as goal

pub returns : goal.returns
returns c k =
    let a = c.equal_bits-stars.result in
    let b = c.equal_bits-slashes.result in
    let stars = c.equal_bits-stars.ensures k in
    let slashes = c.equal_bits-slashes.ensures k in
    let both = bit_at_and a b k in (
      λ bit.
          let star = stars.0 (omega (arith, bit, both, bit_at-lt a k)) in
          let slash = slashes.0 (omega (arith, bit, both, bit_at-lt b k)) in
          (star.0, star.1, slash.1),
      λ t. let set = stars.1 (t.0, t.1) in let set_too = slashes.1 (t.0, t.2) in omega (arith, set, set_too, both),
    )
