use Rattle.std.proofs.Common.{◌≤◌, length, arith, w64}
use Rattle.std.proofs.lemmas.Nat.Bits.{bit_at-trailing_ones}
use Rattle.std.specs.Int.{trailing_ones}
use Rattle.text_scan.proofs.Strings.ByteMasks.{all_within, not_all}
use Rattle.text_scan.proofs.parser.whitespace.near_spaces.Goals as goal

pub returns-clause-within : goal.returns-clause-within
returns-clause-within c =
    let ones = bit_at-trailing_ones w64 c.near_bits.result (not_all c.near_bits.result c.near_bits.type_inv (λ k set. ((c.near_bits.ensures k).0 set).0)) in
    let within : trailing_ones w64 c.near_bits.result ≤ length c.args.bytes.now = all_within 32 (omega arith) c.args.bytes.now _ (λ k low. ((c.near_bits.ensures k).0 (ones.2 k low)).1) in
    omega (arith, within, c.trailing_ones.ensures)

pub returns-clause-spaces : goal.returns-clause-spaces
returns-clause-spaces c k low =
    let ones = bit_at-trailing_ones w64 c.near_bits.result (not_all c.near_bits.result c.near_bits.type_inv (λ k set. ((c.near_bits.ensures k).0 set).0)) in
    ((c.near_bits.ensures k).0 (ones.2 k (omega (arith, low, c.trailing_ones.ensures)))).1
