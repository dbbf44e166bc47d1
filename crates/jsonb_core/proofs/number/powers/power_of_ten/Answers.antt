-- The table is held against the powers, by computing.
use Rattle.std.proofs.Common.{ℕ, ◌^◌, true, eqb, get_or, refl, arith}
use Rattle.std.proofs.lemmas.Bool.{agree_below_at, eqb-true}
use Rattle.jsonb_core.specs.declared.number.powers.TheConstants.{POWERS}
use Rattle.jsonb_core.proofs.number.powers.power_of_ten.Goals as goal

pub returns : goal.returns
returns c =
    let exponent = c.args.exponent in
    eqb-true (get_or POWERS exponent 0) (10 ^ exponent) (agree_below_at (λ (p : ℕ). eqb (get_or POWERS p 0) (10 ^ p)) (λ (p : ℕ). true) 39 exponent refl (omega arith))
