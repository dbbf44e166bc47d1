-- How many numbers a value has, by the first byte of its key.
use Rattle.std.proofs.Common.{◌≡◌, ℕ, ◌+◌, ◌<◌, ◌≤◌, ◌⊎◌, inl, inr, Bool, true, false, ◌&&◌, if◌then◌else◌, List, ◌∷◌, ◌++◌, length, refl, sym, ap, ◌∙◌, arith, length-append}
use Rattle.std.specs.Bool.{nat_lt}
use Rattle.std.proofs.lemmas.Bool.{cond-false, lt-ltb, le-ltb}
use Rattle.jsonb_spec.specs.SortKey.Readable.{IsReadableAt}
use Rattle.jsonb_spec.specs.SortKey.Open.{IsScalar}
use Rattle.jsonb_spec.specs.SortKey.{key_of, text_key}
use Rattle.jsonb_core.proofs.SortKeys.Kinds.{is_small, number_begins}
use Rattle.jsonb_core.proofs.Trees.Runs.{heads}
use Rattle.jsonb_spec.specs.Tree.{Tree, null, boolean, string, number, array, object}
use Rattle.jsonb_spec.specs.Document.PartsOf.{numbers_in, number_count}

-- one for the first byte of a number
other_byte : (first : ℕ) → (first ≤ 22) ⊎ (208 ≤ first) → number_count first ≡ 0
other_byte first (inl low) = ap (λ b. if b && nat_lt first 208 then 1 else 0) (le-ltb 22 first low)
other_byte first (inr high) = cond-false (nat_lt 22 first && nat_lt first 208) 1 0 (and_false (nat_lt 22 first) (le-ltb first 208 high))
  where
    and_false : (a : Bool) {b : Bool} → b ≡ false → (a && b) ≡ false
    and_false true e = e
    and_false false e = refl

number_byte : (first : ℕ) → 22 < first → first < 208 → number_count first ≡ 1
number_byte first low high = (λ i. if lt-ltb 22 first low i && lt-ltb first 208 high i then 1 else 0)

pub scalar_numbers : (depth : ℕ) (t : Tree) → IsReadableAt depth t → IsScalar t → (first : ℕ) (rest bytes tail : List ℕ) → bytes ≡ first ∷ rest → bytes ≡ key_of t ++ tail → number_count first ≡ numbers_in t
scalar_numbers depth null r s first rest bytes tail e occurs = other_byte first (inr (omega (arith, heads first 211 rest tail (sym e ∙ occurs))))
scalar_numbers depth (boolean true) r s first rest bytes tail e occurs = other_byte first (inl (omega (arith, heads first 22 rest tail (sym e ∙ occurs))))
scalar_numbers depth (boolean false) r s first rest bytes tail e occurs = other_byte first (inl (omega (arith, heads first 21 rest tail (sym e ∙ occurs))))
scalar_numbers depth (string mark text) r s first rest bytes tail e occurs = other_byte first (inr (omega (arith, heads first 208 rest (text_key text ++ tail) (sym e ∙ occurs))))
scalar_numbers depth (number n) r s first rest bytes tail e occurs =
    let x = number_begins n (is_small n r.proper) in
    let is = heads first x.head rest (x.tail ++ tail) (sym e ∙ occurs ∙ ap (λ key. key ++ tail) x.is) in
    number_byte first (omega (arith, is, x.low)) (omega (arith, is, x.high))
scalar_numbers depth (array ts) r s first rest bytes tail e occurs = absurd s
scalar_numbers depth (object ms) r s first rest bytes tail e occurs = absurd s
scalar_numbers depth t r s first rest bytes tail e occurs = absurd r.within

-- so many bytes are behind a value
pub behind_long : (value key behind : List ℕ) → value ≡ key ++ behind → length value ≡ length key + length behind
behind_long value key behind is = ap length is ∙ length-append key behind
