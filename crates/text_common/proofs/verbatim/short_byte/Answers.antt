-- The table is held against the definition at each of the 256 bytes, by computing.
use Rattle.std.proofs.Common.{◌≡◌, ◌≢◌, ℕ, zero, suc, ◌<◌, Bool, true, ◌&&◌, eqb, eqb-true, get_or, List, Option, Some, None, refl, ap, ◌∙◌, arith, inl, inr}
use Rattle.std.proofs.lemmas.Bool.{cases_eq, and_parts}
use Rattle.jsonb_spec.specs.Grammar.StringBody.{standard_escape}
use Rattle.text_common.specs.declared.verbatim.TheConstants.{MEANINGS}
use Rattle.text_common.proofs.verbatim.short_byte.Goals as goal

-- what an entry of the table says
abbrev meaning : ℕ → Option ℕ
meaning zero = None
meaning (suc n) = Some (suc n)

-- an option as a number
abbrev number : Option ℕ → ℕ
number None = 0
number (Some b) = suc b

same : (a b : Option ℕ) → number a ≡ number b → a ≡ b
same None None h = refl
same None (Some b) h = absurd (omega (arith, h))
same (Some a) None h = absurd (omega (arith, h))
same (Some a) (Some b) h = let e : a ≡ b = omega (arith, h) in ap Some e

-- the table has the meanings of the letters below n
agrees_below : List ℕ → ℕ → Bool
agrees_below table zero = true
agrees_below table (suc n) = eqb (number (meaning (get_or table n 0))) (number (standard_escape n)) && agrees_below table n

agrees_at : (table : List ℕ) (n : ℕ) → agrees_below table n ≡ true → (b : ℕ) → b < n → meaning (get_or table b 0) ≡ standard_escape b
unfolding agrees_below
agrees_at table zero h b low = absurd (omega (arith, low))
agrees_at table (suc n) h b low =
    let x = number (meaning (get_or table n 0)) in
    let y = number (standard_escape n) in
    let both = and_parts (eqb x y) (agrees_below table n) h in
    elim (cases_eq b n) [ inl e ↦ rw e (same (meaning (get_or table n 0)) (standard_escape n) (eqb-true x y both.0)) | inr other ↦ agrees_at table n both.1 b (omega (arith, low, other)) ]

some_meant : (n : ℕ) → n ≢ 0 → Some n ≡ meaning n
some_meant zero h = absurd (h refl)
some_meant (suc n) h = refl

pub returns : goal.returns
unfolding agrees_below
returns c =
    some_meant (get_or MEANINGS c.from.result 0) c.if-byte-eq0.false
    ∙ ap (λ n. meaning (get_or MEANINGS n 0)) c.from.ensures ∙ agrees_at MEANINGS 256 refl c.args.letter (omega arith)
