use Rattle.std.proofs.Common.{◌≡◌, ℕ, zero, suc, ◌<◌, List, [], ◌∷◌, get_or, length, arith}
use Rattle.std.specs.Char.{digit_value}
use Rattle.jsonb_spec.specs.Grammar.StringBody.{IsHexDigit}
use Rattle.text_scan.proofs.util.decoder.unit.value_of.Goals as goal

four_hex : (digits : List ℕ) → length digits ≡ 4 → digit_value (get_or digits 0 0) < 16 → digit_value (get_or digits 1 0) < 16 → digit_value (get_or digits 2 0) < 16 → digit_value (get_or digits 3 0) < 16
    → (k d : ℕ) → k < length digits → IsHexDigit (get_or digits k d)
four_hex [] four p q r s k d low = absurd (omega (arith, four))
four_hex (a ∷ []) four p q r s k d low = absurd (omega (arith, four))
four_hex (a ∷ b ∷ []) four p q r s k d low = absurd (omega (arith, four))
four_hex (a ∷ b ∷ c ∷ []) four p q r s k d low = absurd (omega (arith, four))
four_hex (a ∷ b ∷ c ∷ e ∷ []) four p q r s zero d low = p
four_hex (a ∷ b ∷ c ∷ e ∷ []) four p q r s (suc zero) d low = q
four_hex (a ∷ b ∷ c ∷ e ∷ []) four p q r s (suc (suc zero)) d low = r
four_hex (a ∷ b ∷ c ∷ e ∷ []) four p q r s (suc (suc (suc zero))) d low = s
four_hex (a ∷ b ∷ c ∷ e ∷ []) four p q r s (suc (suc (suc (suc k)))) d low = absurd (omega (arith, low))
four_hex (a ∷ b ∷ c ∷ e ∷ f ∷ digits) four p q r s k d low = absurd (omega (arith, four))

pub returns-clause-each : goal.returns-clause-each
returns-clause-each c =
    let above = c.any_of.ensures.above in
    four_hex c.args.digits.now c.requires.four (omega (arith, above.0)) (omega (arith, above.1)) (omega (arith, above.2)) (omega (arith, above.3))
