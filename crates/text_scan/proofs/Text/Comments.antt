-- Where comments end.
use Rattle.std.proofs.Common.{◌≡◌, ℕ, zero, suc, ◌+◌, ◌<◌, ◌≤◌, ◌≢◌, Bool, true, false, true≢false, cond, ◌||◌, ◌&&◌, ◌⊎◌, ⊎_elim, inl, inr, List, [], ◌∷◌, ◌++◌, length, drop, get_or, refl, sym, ap, ap₂, ◌∙◌, arith, eqb, eqb-true, ne_eqb, eq-eqb}
use Rattle.std.proofs.lemmas.Bool.{cases_Bool, cases_eq, cases_lt, cond-false, cond-true, or_cases, and_parts}
use Rattle.std.proofs.lemmas.List.{drop_more, length-drop}
use Rattle.memchr.specs.Find.{is_byte2}
use Rattle.jsonb_spec.specs.Grammar.Whitespace.{EndsLine, IsOneLine, LacksCommentEnd}
use Rattle.jsonb_spec.specs.Parsing.{begins}
use Rattle.jsonb_spec.specs.Parsing.Whitespace.{longer_by, block_length, line_length}
use Rattle.text_scan.proofs.Steps.Tests.{chosen}

-- ---- lengths

pub longer-some : (more n : ℕ) → 0 < n → longer_by more n ≡ more + n
longer-some more zero h = absurd (omega arith)
longer-some more (suc n) h = refl

pub longer-is : (more n m : ℕ) → longer_by more n ≡ suc m → (0 < n) × (more + n ≡ suc m)
longer-is more zero m e = absurd (let never : 0 ≡ suc m = e in omega (arith, never))
longer-is more (suc n) m e = (omega arith, e)

-- ---- block comments

pub begins_found : (bytes : List ℕ) → begins 47 bytes ≡ true → (rest : List ℕ) × (bytes ≡ 47 ∷ rest)
begins_found [] e = absurd (true≢false (sym e))
begins_found (b ∷ bytes) e =
    elim (chosen (eqb b 47) true false true e) [
      | inl t ↦ (bytes, ap (λ (c : ℕ). c ∷ bytes) (eqb-true b 47 t.0))
      | inr f ↦ absurd (true≢false (sym f.1))
    ]

lacks-rest : (b : ℕ) (bytes : List ℕ) → LacksCommentEnd (b ∷ bytes) → LacksCommentEnd bytes
lacks-rest b bytes lacks before after e = lacks (b ∷ before) after (ap (λ (u : List ℕ). b ∷ u) e)

-- no comment ends at the first byte
no_end_first : (b : ℕ) (inside rest : List ℕ) → LacksCommentEnd (b ∷ inside) → (eqb b 42 && begins 47 (inside ++ 42 ∷ 47 ∷ rest)) ≡ false
no_end_first b [] rest lacks = by_star (eqb b 42)
  where
    by_star : (t : Bool) → (t && false) ≡ false
    by_star true = refl
    by_star false = refl
no_end_first b (c ∷ inside) rest lacks = by_test (eqb b 42 && begins 47 (c ∷ (inside ++ 42 ∷ 47 ∷ rest))) refl
  where
    by_test : (t : Bool) → (eqb b 42 && begins 47 (c ∷ (inside ++ 42 ∷ 47 ∷ rest))) ≡ t → t ≡ false
    by_test true e =
        let both = and_parts (eqb b 42) (begins 47 (c ∷ (inside ++ 42 ∷ 47 ∷ rest))) e in
        let star : b ≡ 42 = eqb-true b 42 both.0 in
        let slash = begins_found (c ∷ (inside ++ 42 ∷ 47 ∷ rest)) both.1 in
        let is : c ≡ 47 = let whole : c ∷ (inside ++ 42 ∷ 47 ∷ rest) ≡ 47 ∷ slash.0 = slash.1 in cc in
        absurd (lacks [] inside (let whole : b ∷ c ∷ inside ≡ 42 ∷ 47 ∷ inside = cc in whole))
    by_test false e = refl

pub block-found : (inside rest : List ℕ) → LacksCommentEnd inside → block_length (inside ++ 42 ∷ 47 ∷ rest) ≡ length inside + 2
unfolding block_length
block-found [] rest lacks = refl
block-found (b ∷ inside) rest lacks =
    let later = block-found inside rest (lacks-rest b inside lacks) in
    cond-false (eqb b 42 && begins 47 (inside ++ 42 ∷ 47 ∷ rest)) 2 (longer_by 1 (block_length (inside ++ 42 ∷ 47 ∷ rest))) (no_end_first b inside rest lacks)
    ∙ ap (longer_by 1) later ∙ longer-some 1 (length inside + 2) (omega arith) ∙ (let same : 1 + (length inside + 2) ≡ length (b ∷ inside) + 2 = omega arith in same)

-- a comment up to its end, and what follows
pub record BlockEnds (bytes : List ℕ) (n : ℕ) : Type 0 where
  pub inside : List ℕ
  pub rest : List ℕ
  pub whole : bytes ≡ inside ++ 42 ∷ 47 ∷ rest
  pub lacks : LacksCommentEnd inside
  pub count : length inside + 2 ≡ n

lacks_nothing : LacksCommentEnd []
lacks_nothing [] after e = cc
lacks_nothing (b ∷ before) after e = cc

lacks-more : (b : ℕ) (bytes inside rest : List ℕ) → bytes ≡ inside ++ 42 ∷ 47 ∷ rest → (eqb b 42 && begins 47 bytes) ≡ false → LacksCommentEnd inside → LacksCommentEnd (b ∷ inside)
lacks-more b bytes inside rest whole other lacks [] after e =
    let star : b ≡ 42 = cc in
    let slash : inside ≡ 47 ∷ after = cc in
    let found : begins 47 bytes ≡ true = ap (begins 47) (whole ∙ ap (λ (u : List ℕ). u ++ 42 ∷ 47 ∷ rest) slash) in
    true≢false (sym (ap (λ (t : Bool). eqb b 42 && t) found ∙ ap (λ (t : Bool). t && true) (eq-eqb b 42 star)) ∙ other)
lacks-more b bytes inside rest whole other lacks (c ∷ before) after e = lacks before after (let tail : inside ≡ before ++ 42 ∷ 47 ∷ after = cc in tail)

block_more : (b : ℕ) (bytes : List ℕ) (n : ℕ) → ((k : ℕ) → block_length bytes ≡ suc k → BlockEnds bytes (suc k)) → (eqb b 42 && begins 47 bytes) ≡ false → (k : ℕ) → block_length bytes ≡ k → 0 < k → 1 + k ≡ suc n → BlockEnds (b ∷ bytes) (suc n)
block_more b bytes n later other zero is some sum = absurd (omega arith)
block_more b bytes n later other (suc k) is some sum =
    let r = later k is in
    record {
      inside = b ∷ r.inside;
      rest = r.rest;
      whole = ap (λ (u : List ℕ). b ∷ u) r.whole;
      lacks = lacks-more b bytes r.inside r.rest r.whole other r.lacks;
      count = (let same : length (b ∷ r.inside) + 2 ≡ suc n = omega (arith, r.count, sum) in same);
    }

pub block_ends : (bytes : List ℕ) (n : ℕ) → block_length bytes ≡ suc n → BlockEnds bytes (suc n)
unfolding block_length
block_ends [] n e = absurd (let never : 0 ≡ suc n = e in omega (arith, never))
block_ends (b ∷ bytes) n e =
    elim (chosen (eqb b 42 && begins 47 bytes) 2 (longer_by 1 (block_length bytes)) (suc n) e) [
      | inl t ↦
          let both = and_parts (eqb b 42) (begins 47 bytes) t.0 in
          let slash = begins_found bytes both.1 in
          let star : b ≡ 42 = eqb-true b 42 both.0 in
          record { inside = []; rest = slash.0; whole = (let tail : bytes ≡ 47 ∷ slash.0 = slash.1 in let all : b ∷ bytes ≡ 42 ∷ 47 ∷ slash.0 = cc in all); lacks = lacks_nothing; count = t.1 }
      | inr f ↦
          let more = longer-is 1 (block_length bytes) n f.1 in
          block_more b bytes n (λ k is. block_ends bytes k is) f.0 (block_length bytes) refl more.0 more.1
    ]

-- ---- line comments

no_end_of_line : (b : ℕ) → ¬ (EndsLine b) → (eqb b 10 || eqb b 13) ≡ false
no_end_of_line b other = ap (λ (t : Bool). t || eqb b 13) (ne_eqb b 10 (λ e. other (inl e))) ∙ ne_eqb b 13 (λ e. other (inr e))

end_of_line : (b : ℕ) → EndsLine b → (eqb b 10 || eqb b 13) ≡ true
end_of_line b ends = ⊎_elim (λ e. ap (λ (t : Bool). t || eqb b 13) (eq-eqb b 10 e)) (λ e. ap (λ (c : ℕ). eqb c 10 || eqb c 13) e) ends

pub line-found : (inside : List ℕ) (last : ℕ) (rest : List ℕ) → IsOneLine inside → EndsLine last → line_length (inside ++ last ∷ rest) ≡ length inside + 1
unfolding line_length
line-found [] last rest one ends = cond-true (eqb last 10 || eqb last 13) 1 (longer_by 1 (line_length rest)) (end_of_line last ends)
line-found (b ∷ inside) last rest one ends =
    cond-false (eqb b 10 || eqb b 13) 1 (longer_by 1 (line_length (inside ++ last ∷ rest))) (no_end_of_line b one.0)
    ∙ ap (longer_by 1) (line-found inside last rest one.1 ends) ∙ longer-some 1 (length inside + 1) (omega arith) ∙ (let same : 1 + (length inside + 1) ≡ length (b ∷ inside) + 1 = omega arith in same)

pub line-none : (bytes : List ℕ) → IsOneLine bytes → line_length bytes ≡ 0
unfolding line_length
line-none [] one = refl
line-none (b ∷ bytes) one =
    cond-false (eqb b 10 || eqb b 13) 1 (longer_by 1 (line_length bytes)) (no_end_of_line b one.0) ∙ ap (longer_by 1) (line-none bytes one.1)

longer-zero : (n : ℕ) → longer_by 0 n ≡ n
longer-zero zero = refl
longer-zero (suc n) = (let same : 0 + suc n ≡ suc n = omega arith in same)

pub longer-longer : (m k n : ℕ) → longer_by m (longer_by k n) ≡ longer_by (m + k) n
longer-longer m k zero = refl
longer-longer m k (suc n) = longer-some m (k + suc n) (omega arith) ∙ (let same : m + (k + suc n) ≡ m + k + suc n = omega arith in same)

-- a line goes on past bytes that end no line
pub line-past : (inside more : List ℕ) → IsOneLine inside → line_length (inside ++ more) ≡ longer_by (length inside) (line_length more)
unfolding line_length
line-past [] more one = sym (longer-zero (line_length more))
line-past (b ∷ inside) more one =
    cond-false (eqb b 10 || eqb b 13) 1 (longer_by 1 (line_length (inside ++ more))) (no_end_of_line b one.0)
    ∙ ap (longer_by 1) (line-past inside more one.1) ∙ longer-longer 1 (length inside) (line_length more) ∙ (let same : 1 + length inside ≡ length (b ∷ inside) = omega arith in ap (λ (k : ℕ). longer_by k (line_length more)) same)

ends_line : (b : ℕ) → (eqb b 10 || eqb b 13) ≡ true → EndsLine b
ends_line b e = ⊎_elim (λ t. inl (eqb-true b 10 t)) (λ t. inr (eqb-true b 13 t)) (or_cases (eqb b 10) (eqb b 13) e)

ends_no_line : (b : ℕ) → (eqb b 10 || eqb b 13) ≡ false → ¬ (EndsLine b)
ends_no_line b e ends = true≢false (sym (end_of_line b ends) ∙ e)

-- a line up to its end, and what follows
pub record LineEnds (bytes : List ℕ) (n : ℕ) : Type 0 where
  pub inside : List ℕ
  pub last : ℕ
  pub rest : List ℕ
  pub whole : bytes ≡ inside ++ last ∷ rest
  pub one : IsOneLine inside
  pub ends : EndsLine last
  pub count : length inside + 1 ≡ n

line_more : (b : ℕ) (bytes : List ℕ) (n : ℕ) → ((k : ℕ) → line_length bytes ≡ suc k → LineEnds bytes (suc k)) → (eqb b 10 || eqb b 13) ≡ false → (k : ℕ) → line_length bytes ≡ k → 0 < k → 1 + k ≡ suc n → LineEnds (b ∷ bytes) (suc n)
line_more b bytes n later other zero is some sum = absurd (omega arith)
line_more b bytes n later other (suc k) is some sum =
    let r = later k is in
    record {
      inside = b ∷ r.inside;
      last = r.last;
      rest = r.rest;
      whole = ap (λ (u : List ℕ). b ∷ u) r.whole;
      one = (ends_no_line b other, r.one);
      ends = r.ends;
      count = (let same : length (b ∷ r.inside) + 1 ≡ suc n = omega (arith, r.count, sum) in same);
    }

pub line_ends : (bytes : List ℕ) (n : ℕ) → line_length bytes ≡ suc n → LineEnds bytes (suc n)
unfolding line_length
line_ends [] n e = absurd (let never : 0 ≡ suc n = e in omega (arith, never))
line_ends (b ∷ bytes) n e =
    elim (chosen (eqb b 10 || eqb b 13) 1 (longer_by 1 (line_length bytes)) (suc n) e) [
      | inl t ↦ record { inside = []; last = b; rest = bytes; whole = refl; one = tt; ends = ends_line b t.0; count = t.1 }
      | inr f ↦
          let more = longer-is 1 (line_length bytes) n f.1 in
          line_more b bytes n (λ k is. line_ends bytes k is) f.0 (line_length bytes) refl more.0 more.1
    ]

pub no_line_end : (bytes : List ℕ) → line_length bytes ≡ 0 → IsOneLine bytes
unfolding line_length
no_line_end [] e = tt
no_line_end (b ∷ bytes) e =
    elim (chosen (eqb b 10 || eqb b 13) 1 (longer_by 1 (line_length bytes)) 0 e) [
      | inl t ↦ absurd (let never : 1 ≡ 0 = t.1 in omega (arith, never))
      | inr f ↦ (ends_no_line b f.0, no_line_end bytes (none (line_length bytes) f.1))
    ]
  where
    none : (k : ℕ) → longer_by 1 k ≡ 0 → k ≡ 0
    none zero h = refl
    none (suc k) h = absurd (let never : 1 + suc k ≡ 0 = h in omega (arith, never))

-- ---- the searches for the ends

pub block_at : (bytes : List ℕ) (at : ℕ) → at + 1 < length bytes → get_or bytes at 0 ≡ 42 → get_or bytes (at + 1) 0 ≡ 47 → block_length (drop at bytes) ≡ 2
unfolding block_length
block_at bytes at within star slash =
    ap block_length (drop_more bytes at 0 (omega (arith, within)) ∙ ap (λ (u : List ℕ). get_or bytes at 0 ∷ u) (drop_more bytes (at + 1) 0 within) ∙ ap₂ (λ (b c : ℕ). b ∷ c ∷ drop (at + 1 + 1) bytes) star slash)

pub block_none : (bytes : List ℕ) (at : ℕ) → length bytes ≤ at + 1 → block_length (drop at bytes) ≡ 0
unfolding block_length
block_none bytes at past = short (drop at bytes) (omega (arith, past, length-drop at bytes))
  where
    short : (u : List ℕ) → length u ≤ 1 → block_length u ≡ 0
    short [] h = refl
    short (b ∷ []) h = cond-false (eqb b 42 && false) 2 0 (and_no (eqb b 42))
      where
        and_no : (t : Bool) → (t && false) ≡ false
        and_no true = refl
        and_no false = refl
    short (b ∷ c ∷ u) h = absurd (omega (arith, h))

pub block_past : (bytes : List ℕ) (at : ℕ) → (get_or bytes at 0 ≢ 42) ⊎ (get_or bytes (at + 1) 0 ≢ 47) → block_length (drop at bytes) ≡ longer_by 1 (block_length (drop (at + 1) bytes))
unfolding block_length
block_past bytes at other = ⊎_elim before
    (λ past. block_none bytes at past ∙ sym (ap (longer_by 1) (block_none bytes (at + 1) (omega (arith, past))))) (cases_lt (at + 1) (length bytes))
  where
    and_false : (t : Bool) → (t && false) ≡ false
    and_false true = refl
    and_false false = refl

    before : at + 1 < length bytes → block_length (drop at bytes) ≡ longer_by 1 (block_length (drop (at + 1) bytes))
    before within =
        let b = get_or bytes at 0 in
        let c = get_or bytes (at + 1) 0 in
        let later : drop (at + 1) bytes ≡ c ∷ drop (at + 1 + 1) bytes = drop_more bytes (at + 1) 0 within in
        let none : (eqb b 42 && begins 47 (drop (at + 1) bytes)) ≡ false = ap (λ (u : List ℕ). eqb b 42 && begins 47 u) later ∙ ⊎_elim (λ n. ap (λ (t : Bool). t && begins 47 (c ∷ drop (at + 1 + 1) bytes)) (ne_eqb b 42 n))
        (λ n. ap (λ (t : Bool). eqb b 42 && cond t true false) (ne_eqb c 47 n) ∙ and_false (eqb b 42)) other in
        ap block_length (drop_more bytes at 0 (omega (arith, within))) ∙ cond-false (eqb b 42 && begins 47 (drop (at + 1) bytes)) 2 (longer_by 1 (block_length (drop (at + 1) bytes))) none

-- past bytes at which no comment ends
pub block_far : (bytes : List ℕ) (at count : ℕ) → ((k : ℕ) → k < count → get_or bytes (at + k) 0 ≡ 42 → get_or bytes (at + 1 + k) 0 ≢ 47) → block_length (drop at bytes) ≡ longer_by count (block_length (drop (at + count) bytes))
block_far bytes at zero none = sym (longer-zero (block_length (drop (at + 0) bytes)) ∙ ap (λ n. block_length (drop n bytes)) (let same : at + 0 ≡ at = omega arith in same))
block_far bytes at (suc count) none =
    let here : at + 0 ≡ at = omega arith in
    let next : at + 1 + 0 ≡ at + 1 = omega arith in
    let other : (get_or bytes at 0 ≢ 42) ⊎ (get_or bytes (at + 1) 0 ≢ 47) = elim (cases_eq (get_or bytes at 0) 42) [
      | inl star ↦ inr (λ slash. none 0 (omega arith) (ap (λ n. get_or bytes n 0) here ∙ star) (ap (λ n. get_or bytes n 0) next ∙ slash))
      | inr no_star ↦ inl no_star
    ] in
    let later = block_far bytes (at + 1) count (λ k low star slash.
    let one : at + suc k ≡ at + 1 + k = omega arith in
    let two : at + 1 + suc k ≡ at + 1 + 1 + k = omega arith in
    none (suc k) (omega (arith, low)) (ap (λ n. get_or bytes n 0) one ∙ star) (ap (λ n. get_or bytes n 0) two ∙ slash)) in
    block_past bytes at other ∙ ap (longer_by 1) later ∙ longer-longer 1 count (block_length (drop (at + 1 + count) bytes))
    ∙ ap₂ (λ m n. longer_by m (block_length (drop n bytes))) (let one : 1 + count ≡ suc count = omega arith in one) (let same : at + 1 + count ≡ at + suc count = omega arith in same)

pub line_at : (bytes : List ℕ) (n : ℕ) → n < length bytes → is_byte2 10 13 (get_or bytes n 0) ≡ true → ((k : ℕ) → k < n → ¬ (is_byte2 10 13 (get_or bytes k 0) ≡ true)) → line_length bytes ≡ n + 1
unfolding line_length
line_at [] n within here before = absurd (omega (arith, within))
line_at (b ∷ bytes) zero within here before = cond-true (eqb b 10 || eqb b 13) 1 (longer_by 1 (line_length bytes)) here
line_at (b ∷ bytes) (suc n) within here before =
    let none : (eqb b 10 || eqb b 13) ≡ false = ⊎_elim (λ t. absurd (before 0 (omega arith) t)) (λ f. f) (cases_Bool (eqb b 10 || eqb b 13)) in
    cond-false (eqb b 10 || eqb b 13) 1 (longer_by 1 (line_length bytes)) none
    ∙ ap (longer_by 1) (line_at bytes n (omega (arith, within)) here (λ k low. before (suc k) (omega (arith, low)))) ∙ longer-some 1 (n + 1) (omega arith) ∙ (let same : 1 + (n + 1) ≡ suc n + 1 = omega arith in same)

pub line_nowhere : (bytes : List ℕ) → ((k : ℕ) → k < length bytes → ¬ (is_byte2 10 13 (get_or bytes k 0) ≡ true)) → line_length bytes ≡ 0
unfolding line_length
line_nowhere [] none = refl
line_nowhere (b ∷ bytes) none =
    let first : (eqb b 10 || eqb b 13) ≡ false = ⊎_elim (λ t. absurd (none 0 (omega arith) t)) (λ f. f) (cases_Bool (eqb b 10 || eqb b 13)) in
    cond-false (eqb b 10 || eqb b 13) 1 (longer_by 1 (line_length bytes)) first ∙ ap (longer_by 1) (line_nowhere bytes (λ k low. none (suc k) (omega (arith, low))))
