-- The table is held against the definition at each of the 256 bytes, by computing.
use Rattle.std.proofs.Common.{◌≡◌, ℕ, zero, suc, ◌<◌, Bool, true, ◌&&◌, eqb, eqb-true, get_or, List, refl, ap, ◌∙◌, arith, inl, inr}
use Rattle.std.specs.Char.{digit_value}
use Rattle.std.proofs.lemmas.Bool.{cases_eq, and_parts}
use Rattle.text_scan.specs.declared.util.decoder.unit.TheConstants.{DIGITS}
use Rattle.text_scan.proofs.util.decoder.unit.digit.Goals as goal

-- the table has the digits of the bytes below n
agrees_below : List ℕ → ℕ → Bool
agrees_below table zero = true
agrees_below table (suc n) = eqb (get_or table n 0) (digit_value n) && agrees_below table n

agrees_at : (table : List ℕ) (n : ℕ) → agrees_below table n ≡ true → (b : ℕ) → b < n → get_or table b 0 ≡ digit_value b
unfolding agrees_below
agrees_at table zero h b low = absurd (omega (arith, low))
agrees_at table (suc n) h b low =
    let both = and_parts (eqb (get_or table n 0) (digit_value n)) (agrees_below table n) h in
    elim (cases_eq b n) [ inl same ↦ rw same (eqb-true (get_or table n 0) (digit_value n) both.0) | inr other ↦ agrees_at table n both.1 b (omega (arith, low, other)) ]

pub returns : goal.returns
unfolding agrees_below
returns c = c.from-2.ensures ∙ ap (λ n. get_or DIGITS n 0) c.from.ensures ∙ agrees_at DIGITS 256 refl c.args.byte (omega arith)
