-- The next number that zeros end, in the shortest text, the whole text and the zeros.
use Rattle.std.proofs.Common.{◌≡◌, ℕ, suc, ◌+◌, ◌<◌, ◌⊎◌, inl, inr, ◌==◌, Bool, false, List, [], ◌∷◌, ◌++◌, Some, length, refl, sym, ap, ap₂, ◌∙◌, arith, append_assoc, length-append}
use Rattle.std.specs.Prelude.{option_and_then}
use Rattle.std.proofs.lemmas.Bool.{cond-false, cases_eq, ne_eqb}
use Rattle.jsonb_spec.specs.Proper.{IsProperNumber}
use Rattle.jsonb_spec.specs.Text.NumberText.{number_text}
use Rattle.jsonb_spec.specs.Tree.{Num}
use Rattle.jsonb_spec.specs.Document.Counts.{ending_text}
use Rattle.key_zeros.specs.Scan.{after_numbers}
use Rattle.jsonb_spec.specs.Document.Zeros.{in_sevens, zeros_of}
use Rattle.key_zeros.proofs.NumberedTexts.{NumberedText, last_gap, gap_then, bytes_with, counts_of, shortest_text, IsNumbered}
use Rattle.key_text.proofs.Decimals.{count, pointed, none_spare, some_spare}
use Rattle.key_zeros.proofs.Decimals.{shortest_begins}
use Rattle.key_zeros.proofs.Finding.{shortest_behind}

-- No zeros end any number.
pub record AllPlain (plain : ℕ) (k : NumberedText) : Type 0 where
  pub none : zeros_of plain (counts_of k) ≡ []
  pub same : bytes_with number_text k ≡ bytes_with shortest_text k

-- Zeros end a number, before which so many without any come.
pub record NextEntry (plain : ℕ) (k : NumberedText) : Type 0 where
  pub before : ℕ
  pub zeros_there : ℕ
  pub some : 0 < zeros_there
  pub has_point : Bool
  pub front : List ℕ
  pub later : NumberedText
  pub is_numbered : IsNumbered later
  pub zeros : zeros_of plain (counts_of k) ≡ in_sevens 8 (plain + before) ++ zeros_there ∷ zeros_of 0 (counts_of later)
  pub short : bytes_with shortest_text k ≡ front ++ bytes_with shortest_text later
  pub full : bytes_with number_text k ≡ (front ++ ending_text has_point zeros_there) ++ bytes_with number_text later
  pub found : after_numbers before (bytes_with shortest_text k) ≡ Some (has_point, bytes_with shortest_text later)
  pub fewer : before < length (bytes_with shortest_text k)

-- ---- the zeros of the first number

pub plain_first : (plain c : ℕ) (cs : List ℕ) → c ≡ 0 → zeros_of plain (c ∷ cs) ≡ zeros_of (suc plain) cs
plain_first plain c cs none = ap (λ x. zeros_of plain (x ∷ cs)) none

pub entry_first : (plain c : ℕ) (cs : List ℕ) → 0 < c → zeros_of plain (c ∷ cs) ≡ in_sevens 8 plain ++ c ∷ zeros_of 0 cs
entry_first plain c cs some =
    let test : c == 0 ≡ false = ne_eqb c 0 (λ e. omega (arith, e, some)) in
    ap₂ (λ xs p. xs ++ zeros_of p cs) (cond-false (c == 0) [] (in_sevens 8 plain ++ c ∷ []) test) (cond-false (c == 0) (suc plain) 0 test)
    ∙ append_assoc (in_sevens 8 plain) (c ∷ []) (zeros_of 0 cs)

some_text : (n : Num) (h : IsProperNumber n) → 0 < length (shortest_text n)
some_text n h = let b = shortest_begins n h in omega (arith, ap length b.is)

-- ---- any number

regroup : (a b c d : List ℕ) → a ++ (b ++ (c ++ d)) ≡ (a ++ (b ++ c)) ++ d
regroup a b c d = simp append_assoc

farther : (a b c e d : List ℕ) → a ++ (b ++ ((c ++ e) ++ d)) ≡ ((a ++ (b ++ c)) ++ e) ++ d
farther a b c e d = simp append_assoc

ending : (a b e d : List ℕ) → a ++ ((b ++ e) ++ d) ≡ ((a ++ b) ++ e) ++ d
ending a b e d = simp append_assoc

pub split : (plain : ℕ) (k : NumberedText) → IsNumbered k → AllPlain plain k ⊎ NextEntry plain k
split plain (last_gap gap) h = inl (record { none = refl; same = refl })
split plain (gap_then gap n k) h = elim (cases_eq (count n h.1) 0) [
  | inl none ↦ elim (split (suc plain) k h.3) [
    | inl x ↦ inl (record {
      none = plain_first plain (count n h.1) (counts_of k) none ∙ x.none;
      same = ap₂ (λ a b. gap ++ (a ++ b)) (none_spare n h.1 none) x.same;
    })
    | inr x ↦ inr (record {
      before = suc x.before;
      zeros_there = x.zeros_there;
      some = x.some;
      has_point = x.has_point;
      front = gap ++ (shortest_text n ++ x.front);
      later = x.later;
      is_numbered = x.is_numbered;
      zeros = plain_first plain (count n h.1) (counts_of k) none ∙ x.zeros ∙ ap (λ b. in_sevens 8 b ++ x.zeros_there ∷ zeros_of 0 (counts_of x.later)) {x = suc plain + x.before} {y = plain + suc x.before} (omega arith);
      short = ap (λ t. gap ++ (shortest_text n ++ t)) x.short ∙ regroup gap (shortest_text n) x.front (bytes_with shortest_text x.later);
      full = ap₂ (λ a b. gap ++ (a ++ b)) (none_spare n h.1 none) x.full ∙ farther gap (shortest_text n) x.front (ending_text x.has_point x.zeros_there) (bytes_with number_text x.later);
      found = ap (option_and_then (λ next. after_numbers x.before next.1)) (shortest_behind gap n k h) ∙ x.found;
      fewer = omega (arith, x.fewer, some_text n h.1, length-append gap (shortest_text n ++ bytes_with shortest_text k), length-append (shortest_text n) (bytes_with shortest_text k));
    })
  ]
  | inr some ↦ inr (record {
    before = 0;
    zeros_there = count n h.1;
    some = omega (arith, some);
    has_point = pointed n h.1;
    front = gap ++ shortest_text n;
    later = k;
    is_numbered = h.3;
    zeros = entry_first plain (count n h.1) (counts_of k) (omega (arith, some)) ∙ ap (λ b. in_sevens 8 b ++ count n h.1 ∷ zeros_of 0 (counts_of k)) {x = plain} {y = plain + 0} (omega arith);
    short = sym (append_assoc gap (shortest_text n) (bytes_with shortest_text k));
    full = ap (λ t. gap ++ (t ++ bytes_with number_text k)) (some_spare n h.1 (omega (arith, some))) ∙ ending gap (shortest_text n) (ending_text (pointed n h.1) (count n h.1)) (bytes_with number_text k);
    found = shortest_behind gap n k h;
    fewer = omega (arith, some_text n h.1, length-append gap (shortest_text n ++ bytes_with shortest_text k), length-append (shortest_text n) (bytes_with shortest_text k));
  })
]
