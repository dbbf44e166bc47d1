-- The text of a number, and that with the fewest digits.
use Rattle.std.proofs.Common.{◌≡◌, ℕ, zero, suc, ◌+◌, ◌-◌, ◌*◌, ◌/◌, ◌%◌, ◌^◌, ◌<◌, ◌≤◌, inl, inr, ◌==◌, Bool, ℤ, pos, negsuc, unsigned_abs, List, [], ◌∷◌, ◌++◌, length, take, drop, replicate, refl, sym, ap, ap₂, ◌∙◌, arith, append_assoc, append-nil, length-append}
use Rattle.std.proofs.lemmas.Bool.{cond-false, cases_eq, cases_lt, ne_eqb, lt-ltb, le-ltb}
use Rattle.std.proofs.lemmas.Fmt.{decimal_digit}
use Rattle.std.proofs.lemmas.List.{take-append-le, drop-append-le, length-replicate, replicate_more}
use Rattle.std.specs.Bool.{nat_lt}
use Rattle.std.specs.Fmt.{decimal, sign_text}
use Rattle.std.specs.Int.{is_negative}
use Rattle.jsonb_spec.specs.Number.Signed.{signed_by}
use Rattle.jsonb_spec.specs.Proper.{IsProperNumber}
use Rattle.jsonb_spec.specs.Text.NumberText.{number_text, text_of_parts, with_point, zero_padded}
use Rattle.jsonb_spec.specs.Tree.{Num}
use Rattle.jsonb_core.proofs.Numbers.Nearest.{unsigned_abs-signed}
use Rattle.jsonb_core.proofs.Numbers.Pointed.{is_negative-pos}
use Rattle.jsonb_core.proofs.SortKeys.Kinds.{is_small}
use Rattle.jsonb_spec.specs.Document.Counts.{ending_text}
use Rattle.jsonb_spec.specs.SortKey.FewestDigits.{fewest_digits, spare_zeros}
use Rattle.key_text.proofs.LastDigits.{zeros_behind}
use Rattle.key_text.proofs.Spares.{are_spare, divided_less}

-- ---- its digits

-- all digits of a number, the zeros before the point among them
abbrev pub digits_of : ℕ → ℕ → List ℕ
digits_of scale m = zero_padded (scale + 1) (decimal m)

pub padded_long : (least m : ℕ) → least ≤ length (zero_padded least (decimal m))
unfolding zero_padded
padded_long least m = omega (arith, length-append (replicate (least - length (decimal m)) 48) (decimal m), length-replicate {A = ℕ} (least - length (decimal m)) 48)

-- ---- where the point is

pub no_point : (ds : List ℕ) → with_point 0 ds ≡ ds
unfolding with_point
no_point ds = refl

pub some_point : (scale : ℕ) (ds : List ℕ) → 0 < scale → with_point scale ds ≡ take (length ds - scale) ds ++ 46 ∷ drop (length ds - scale) ds
unfolding with_point
some_point scale ds some = cond-false (scale == 0) _ _ (ne_eqb scale 0 (λ e. omega (arith, e, some)))

-- without zeros at the end of the digits behind it
pointed_split : (scale count : ℕ) (ds : List ℕ) → count < scale → scale ≤ length ds + count → with_point scale (ds ++ replicate count 48) ≡ with_point (scale - count) ds ++ replicate count 48
pointed_split scale count ds fewer long =
    let zs = replicate count 48 in
    let front : length (ds ++ zs) - scale ≡ length ds - (scale - count) = omega (arith, length-append ds zs, length-replicate {A = ℕ} count 48, fewer, long) in
    let at = length ds - (scale - count) in
    some_point scale (ds ++ zs) (omega (arith, fewer))
    ∙ ap (λ n. take n (ds ++ zs) ++ 46 ∷ drop n (ds ++ zs)) front
    ∙ ap₂ (λ xs ys. xs ++ 46 ∷ ys) (take-append-le at ds zs (omega arith)) (drop-append-le at ds zs (omega arith))
    ∙ sym (append_assoc (take at ds) (46 ∷ drop at ds) zs)
    ∙ ap (λ t. t ++ zs) (sym (some_point (scale - count) ds (omega (arith, fewer))))

-- where all digits behind it are zeros
pointed_last : (count : ℕ) (ds : List ℕ) → 0 < count → with_point count (ds ++ replicate count 48) ≡ ds ++ 46 ∷ replicate count 48
pointed_last count ds some =
    let zs = replicate count 48 in
    let front : length (ds ++ zs) - count ≡ length ds = omega (arith, length-append ds zs, length-replicate {A = ℕ} count 48) in
    let all : take (length ds) (ds ++ zs) ≡ ds = take-append-le (length ds) ds zs (omega arith) ∙ take_all ds in
    let none : drop (length ds) (ds ++ zs) ≡ zs = drop-append-le (length ds) ds zs (omega arith) ∙ ap (λ t. t ++ zs) (drop_all ds) in
    some_point count (ds ++ zs) some ∙ ap (λ n. take n (ds ++ zs) ++ 46 ∷ drop n (ds ++ zs)) front ∙ ap₂ (λ xs ys. xs ++ 46 ∷ ys) all none
  where
    take_all : (xs : List ℕ) → take (length xs) xs ≡ xs
    take_all [] = refl
    take_all (x ∷ xs) = ap (λ t. x ∷ t) (take_all xs)

    drop_all : (xs : List ℕ) → drop (length xs) xs ≡ []
    drop_all [] = refl
    drop_all (x ∷ xs) = drop_all xs

-- the digits of 0
zero_digits : (scale : ℕ) → digits_of scale 0 ≡ 48 ∷ replicate scale 48
unfolding zero_padded
zero_digits scale =
    let digit : decimal 0 ≡ 48 ∷ [] = decimal_digit 0 (omega arith) in
    let padding : scale + 1 - length (decimal 0) ≡ scale = omega (arith, ap length digit) in
    ap₂ (λ k ds. replicate k 48 ++ ds) padding digit ∙ replicate_more scale 48 ∙ ap (λ k. replicate k 48) {x = scale + 1} {y = suc scale} (omega arith)

-- zeros behind the digits are no padding
padded_split : (scale run : ℕ) (ds : List ℕ) → run ≤ scale → zero_padded (scale + 1) (ds ++ replicate run 48) ≡ zero_padded (scale - run + 1) ds ++ replicate run 48
unfolding zero_padded
padded_split scale run ds within =
    let padding : scale + 1 - length (ds ++ replicate run 48) ≡ scale - run + 1 - length ds = omega (arith, length-append ds (replicate run 48), length-replicate {A = ℕ} run 48, within) in
    ap (λ k. replicate k 48 ++ (ds ++ replicate run 48)) padding ∙ sym (append_assoc (replicate (scale - run + 1 - length ds) 48) ds (replicate run 48))

by_sign : (z : ℤ) (q : ℕ) → (q ≡ 0 → unsigned_abs z ≡ 0) → is_negative (signed_by (is_negative z) q) ≡ is_negative z
by_sign (pos a) q h = ap (λ b. is_negative (signed_by b q)) (is_negative-pos a) ∙ is_negative-pos q ∙ sym (is_negative-pos a)
by_sign (negsuc a) zero h = absurd (omega (arith, h refl))
by_sign (negsuc a) (suc q) h = refl

module _ (n : Num) (proper : IsProperNumber n) where
  abbrev pub magnitude : ℕ
  magnitude = unsigned_abs n.whole

  abbrev pub count : ℕ
  count = spare_zeros n.scale (unsigned_abs n.whole)

  abbrev pub left : ℕ
  left = magnitude / 10 ^ count

  -- how many digits are left behind the point
  abbrev pub scale_left : ℕ
  scale_left = n.scale - count

  pub small : magnitude < 10 ^ 64
  small = omega (arith, (is_small n proper).whole)

  pub few : count ≤ 255
  few = omega (arith, (are_spare n.scale magnitude).within, (is_small n proper).scale)

  whole : magnitude ≡ left * 10 ^ count
  whole = sym (are_spare n.scale magnitude).whole

  pub left_small : left < 10 ^ 64
  left_small = omega (arith, small, divided_less magnitude (10 ^ count))

  -- its digits end with so many zeros
  digits_split : digits_of n.scale magnitude ≡ digits_of scale_left left ++ replicate count 48
  digits_split = elim (cases_eq left 0) [
    | inl none ↦
        let x = are_spare n.scale magnitude in
        let nothing : magnitude ≡ 0 = omega (arith, whole, ap (λ q. q * 10 ^ count) none) in
        let all : count ≡ n.scale = elim x.fewest [
          | inl all ↦ all
          | inr other ↦ absurd (other (ap (λ q. q % 10) none))
        ] in
        let over : scale_left ≡ 0 = omega (arith, all) in
        ap (digits_of n.scale) nothing ∙ zero_digits n.scale ∙ ap (λ k. 48 ∷ replicate k 48) (sym all)
        ∙ ap (λ ds. ds ++ replicate count 48) (sym (ap₂ digits_of over none ∙ zero_digits 0))
    | inr some ↦
        let x = are_spare n.scale magnitude in
        ap (digits_of n.scale) whole
        ∙ ap (zero_padded (n.scale + 1)) (zeros_behind count left (omega (arith, some)) (omega (arith, small, whole)))
        ∙ padded_split n.scale count (decimal left) x.within
  ]

  same_sign : is_negative (signed_by (is_negative n.whole) left) ≡ is_negative n.whole
  same_sign = by_sign n.whole left (λ none. omega (arith, whole, ap (λ q. q * 10 ^ count) none))

  pub shortest : number_text (fewest_digits n) ≡ sign_text (is_negative n.whole) ++ with_point scale_left (digits_of scale_left left)
  unfolding text_of_parts
  shortest = ap₂ (λ b m. sign_text b ++ with_point scale_left (digits_of scale_left m)) same_sign (unsigned_abs-signed (is_negative n.whole) left)

  -- whether the shortest text has a point
  abbrev pub pointed : Bool
  pointed = nat_lt 0 scale_left

  pub at_least : scale_left + 1 ≤ length (digits_of scale_left left)
  at_least = padded_long (scale_left + 1) left

  pub full : number_text n ≡ sign_text (is_negative n.whole) ++ with_point n.scale (digits_of scale_left left ++ replicate count 48)
  unfolding text_of_parts
  full = ap (λ ds. sign_text (is_negative n.whole) ++ with_point n.scale ds) digits_split

  -- with no zeros at its end it is the shortest
  pub none_spare : count ≡ 0 → number_text n ≡ number_text (fewest_digits n)
  none_spare none =
      let same : n.scale ≡ scale_left = omega (arith, none) in
      full
      ∙ ap₂ (λ scale run. sign_text (is_negative n.whole) ++ with_point scale (digits_of scale_left left ++ replicate run 48)) same none
      ∙ ap (λ ds. sign_text (is_negative n.whole) ++ with_point scale_left ds) (append-nil (digits_of scale_left left))
      ∙ sym shortest

  -- else it is the shortest, with a point if that has none, and zeros
  pub some_spare : 0 < count → number_text n ≡ number_text (fewest_digits n) ++ ending_text pointed count
  some_spare some = elim (cases_lt 0 scale_left) [
    | inl more ↦
        full
        ∙ ap (λ t. sign_text (is_negative n.whole) ++ t) (pointed_split n.scale count (digits_of scale_left left) (omega (arith, more)) (omega (arith, at_least)))
        ∙ sym (append_assoc (sign_text (is_negative n.whole)) (with_point scale_left (digits_of scale_left left)) (replicate count 48))
        ∙ ap₂ (λ t b. t ++ ending_text b count) (sym shortest) (sym (lt-ltb 0 scale_left more))
    | inr none ↦
        let over : scale_left ≡ 0 = omega (arith, none) in
        let all : n.scale ≡ count = omega (arith, over, (are_spare n.scale magnitude).within) in
        let whole_text : with_point scale_left (digits_of scale_left left) ≡ digits_of scale_left left = ap (λ k. with_point k (digits_of scale_left left)) over ∙ no_point (digits_of scale_left left) in
        full
        ∙ ap (λ k. sign_text (is_negative n.whole) ++ with_point k (digits_of scale_left left ++ replicate count 48)) all
        ∙ ap (λ t. sign_text (is_negative n.whole) ++ t) (pointed_last count (digits_of scale_left left) some ∙ ap (λ t. t ++ 46 ∷ replicate count 48) (sym whole_text))
        ∙ sym (append_assoc (sign_text (is_negative n.whole)) (with_point scale_left (digits_of scale_left left)) (46 ∷ replicate count 48))
        ∙ ap₂ (λ t b. t ++ ending_text b count) (sym shortest) (sym (le-ltb 0 scale_left none))
  ]

  pub fewest_shorter : length (number_text (fewest_digits n)) ≤ length (number_text n)
  fewest_shorter = elim (cases_eq count 0) [
    | inl none ↦ omega (arith, ap length (none_spare none))
    | inr some ↦ omega (arith, ap length (some_spare (omega (arith, some))), length-append (number_text (fewest_digits n)) (ending_text pointed count))
  ]
