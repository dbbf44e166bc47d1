use Rattle.std.proofs.Common.{◌≡◌, subst, arith}
use Rattle.std.proofs.lemmas.Nat.Bits.{bit_at-zero}
use Rattle.std.specs.Int.{bit_at}
use Rattle.text_scan.proofs.util.decoder.run.near_backslash.Goals as goal

pub returns-clause-within : goal.returns-clause-within
returns-clause-within c = ((c.near_bits-marks.ensures _).0 c.lowest.ensures.set).0

pub returns-clause-before : goal.returns-clause-before
returns-clause-before c k low here =
    let few = ((c.near_bits-marks.ensures _).0 c.lowest.ensures.set).0 in
    let set = (c.near_bits-marks.ensures k).1 (omega (arith, few, low), here) in
    absurd (omega (arith, set, c.lowest.ensures.below k low))

pub returns-clause-here : goal.returns-clause-here
returns-clause-here c = ((c.near_bits-marks.ensures _).0 c.lowest.ensures.set).1

pub returns-then-marks-eq0-clause-none : goal.returns-then-marks-eq0-clause-none
returns-then-marks-eq0-clause-none c k low here =
    let set = (c.near_bits-marks.ensures k).1 (low, here) in
    absurd (omega (arith, subst (λ m. bit_at m k ≡ 1) c.if-marks-eq0.true set, bit_at-zero k))
