-- What is skipped is whitespace, and all of it is skipped.
use Rattle.std.proofs.Common.{◌≡◌, MatchBool, ne_eqb, ℕ, zero, suc, ◌+◌, ◌-◌, ◌<◌, ◌≤◌, Bool, true, false, cond, ◌||◌, ◌&&◌, ◌⊎◌, inl, inr, List, [], ◌∷◌, ◌++◌, length, get_or, drop, refl, sym, ap, subst, ◌∙◌, append_assoc, append-nil, length-append, arith, eqb, eqb-true}
use Rattle.std.proofs.lemmas.List.{drop_at, length-drop}
use Rattle.std.proofs.lemmas.Bool.{cond-false, cond-true, or_cases, and_parts, or_parts}
use Rattle.std.proofs.Math.Bool.{and-false}
use Rattle.jsonb_spec.specs.Grammar.Whitespace.{IsLastWhitespace, EndsLine, IsWhitespacePiece, IsWhitespace, IsOneLine, LacksCommentEnd}
use Rattle.jsonb_spec.specs.Grammar.Whitespace.IsLastWhitespace.{whitespace_to_end, line_to_end}
use Rattle.jsonb_spec.specs.Grammar.Whitespace.IsWhitespacePiece.{space, tab, line_feed, form_feed, carriage_return, written_line_feed, written_carriage_return, written_tab, written_form_feed, block_comment, line_comment}
use Rattle.jsonb_spec.specs.Grammar.Whitespace.IsWhitespace.{no_whitespace, more_whitespace}
use Rattle.jsonb_spec.specs.Mode.{Mode, GoesBeyondJson, IsLenient, Strictness, strict, lenient, strictness}
use Rattle.jsonb_spec.specs.Parsing.{begins, goes_beyond_json}
use Rattle.jsonb_spec.specs.Parsing.Whitespace.{is_whitespace_start, piece_length, block_length, comment_length, line_length, slash_length, written_length, form_feed_length, longer_by, opens_comment, past_comment, pass_chosen, pass_from, skip_closed_whitespace, skip_whitespace}
use Rattle.text_scan.proofs.Steps.Modes.{beyond-true, true-beyond}
use Rattle.text_scan.proofs.Steps.Tests.{chosen}
use Rattle.text_scan.proofs.Text.Comments.{block-found, block_ends, line-found, line-none, line-past, line_ends, no_line_end, longer-is, longer-longer, longer-some}

-- ---- one piece

-- how many bytes a piece takes, by whether the mode goes beyond JSON, and by its strictness
abbrev length_by : Bool → Strictness → ℕ → List ℕ → ℕ
length_by beyond s b bytes =
    cond (eqb b 32 || eqb b 9 || eqb b 10 || (beyond && eqb b 12) || eqb b 13) 1 (cond (beyond && eqb b 92) (written_length bytes) (cond (eqb b 47) (slash_length s bytes) 0))

return-piece : (beyond : Bool) (s : Strictness) (bytes : List ℕ) → length_by beyond s 13 bytes ≡ 1
return-piece true s bytes = refl
return-piece false s bytes = refl

slash-piece : (beyond : Bool) (s : Strictness) (bytes : List ℕ) → length_by beyond s 47 bytes ≡ slash_length s bytes
slash-piece true s bytes = refl
slash-piece false s bytes = refl

-- a piece that only modes beyond JSON have
beyond-piece : (mode : Mode) (b : ℕ) (bytes : List ℕ) → GoesBeyondJson mode → piece_length mode (b ∷ bytes) ≡ length_by true (strictness mode) b bytes
beyond-piece mode b bytes beyond = ap (λ (t : Bool). length_by t (strictness mode) b bytes) (beyond-true mode beyond)

-- a comment
comment-piece : (mode : Mode) (bytes : List ℕ) → IsLenient mode → piece_length mode (47 ∷ bytes) ≡ comment_length bytes
comment-piece mode bytes is = slash-piece (goes_beyond_json mode) (strictness mode) bytes ∙ ap (λ (s : Strictness). slash_length s bytes) is

-- ---- steps over one piece

pass_from-drop : (mode : Mode) (passed : ℕ) (bytes : List ℕ) → pass_from mode passed bytes ≡ skip_closed_whitespace mode (drop passed bytes)
unfolding pass_from
pass_from-drop mode zero bytes = refl
pass_from-drop mode (suc passed) [] = refl
pass_from-drop mode (suc passed) (b ∷ bytes) = pass_from-drop mode passed bytes

pub pass-none : (mode : Mode) (bytes : List ℕ) → piece_length mode bytes ≡ 0 → skip_closed_whitespace mode bytes ≡ bytes
unfolding pass_from
pass-none mode [] e = refl
pass-none mode (b ∷ bytes) e = ap (λ (n : ℕ). pass_chosen n (b ∷ bytes) (pass_from mode (piece_length mode (b ∷ bytes) - 1) bytes)) e

pass_chosen-drop : (mode : Mode) (n b : ℕ) (bytes : List ℕ) → 0 < n → pass_chosen n (b ∷ bytes) (pass_from mode (n - 1) bytes) ≡ skip_closed_whitespace mode (drop n (b ∷ bytes))
pass_chosen-drop mode zero b bytes h = absurd (omega arith)
pass_chosen-drop mode (suc n) b bytes h = let same : suc n - 1 ≡ n = omega arith in pass_from-drop mode (suc n - 1) bytes ∙ ap (λ (k : ℕ). skip_closed_whitespace mode (drop k bytes)) same

pub pass-step : (mode : Mode) (bytes : List ℕ) → 0 < piece_length mode bytes → skip_closed_whitespace mode bytes ≡ skip_closed_whitespace mode (drop (piece_length mode bytes) bytes)
unfolding pass_from
pass-step mode [] h = absurd (omega arith)
pass-step mode (b ∷ bytes) h = pass_chosen-drop mode (piece_length mode (b ∷ bytes)) b bytes h

-- a piece of this length is passed
pass-front : (mode : Mode) (piece rest : List ℕ) → 0 < length piece → piece_length mode (piece ++ rest) ≡ length piece → skip_closed_whitespace mode (piece ++ rest) ≡ skip_closed_whitespace mode rest
pass-front mode piece rest some count =
    pass-step mode (piece ++ rest) (omega (arith, some, count)) ∙ ap (λ (n : ℕ). skip_closed_whitespace mode (drop n (piece ++ rest))) count ∙ ap (skip_closed_whitespace mode) (drop_at piece rest (length piece) refl)

-- ---- whitespace is passed

block-length : (mode : Mode) (inside rest : List ℕ) → IsLenient mode → LacksCommentEnd inside → piece_length mode ((47 ∷ 42 ∷ (inside ++ 42 ∷ 47 ∷ [])) ++ rest) ≡ length (47 ∷ 42 ∷ (inside ++ 42 ∷ 47 ∷ []))
block-length mode inside rest is lacks =
    comment-piece mode (42 ∷ ((inside ++ 42 ∷ 47 ∷ []) ++ rest)) is
    ∙ ap (λ (u : List ℕ). longer_by 2 (block_length u)) (append_assoc inside (42 ∷ 47 ∷ []) rest) ∙ ap (longer_by 2) (block-found inside rest lacks) ∙ longer-some 2 (length inside + 2) (omega arith)
    ∙ (let same : 2 + (length inside + 2) ≡ length (47 ∷ 42 ∷ (inside ++ 42 ∷ 47 ∷ [])) = omega (arith, length-append inside (42 ∷ 47 ∷ [])) in same)

line-length : (mode : Mode) (inside : List ℕ) (last : ℕ) (rest : List ℕ) → IsLenient mode → IsOneLine inside → EndsLine last → piece_length mode ((47 ∷ 47 ∷ (inside ++ last ∷ [])) ++ rest) ≡ length (47 ∷ 47 ∷ (inside ++ last ∷ []))
line-length mode inside last rest is one ends =
    comment-piece mode (47 ∷ ((inside ++ last ∷ []) ++ rest)) is
    ∙ ap (λ (u : List ℕ). longer_by 2 (line_length u)) (append_assoc inside (last ∷ []) rest) ∙ ap (longer_by 2) (line-found inside last rest one ends) ∙ longer-some 2 (length inside + 1) (omega arith)
    ∙ (let same : 2 + (length inside + 1) ≡ length (47 ∷ 47 ∷ (inside ++ last ∷ [])) = omega (arith, length-append inside (last ∷ [])) in same)

pub pass-piece : {mode : Mode} {piece : List ℕ} (b : IsWhitespacePiece mode piece) (rest : List ℕ) → skip_closed_whitespace mode (piece ++ rest) ≡ skip_closed_whitespace mode rest
unfolding pass_from
pass-piece space rest = refl
pass-piece tab rest = refl
pass-piece line_feed rest = refl
pass-piece {mode} (form_feed beyond) rest = pass-front mode (12 ∷ []) rest (omega arith) (beyond-piece mode 12 rest beyond)
pass-piece {mode} carriage_return rest = pass-front mode (13 ∷ []) rest (omega arith) (return-piece (goes_beyond_json mode) (strictness mode) rest)
pass-piece {mode} (written_line_feed beyond) rest = pass-front mode (92 ∷ 110 ∷ []) rest (omega arith) (beyond-piece mode 92 (110 ∷ rest) beyond)
pass-piece {mode} (written_carriage_return beyond) rest = pass-front mode (92 ∷ 114 ∷ []) rest (omega arith) (beyond-piece mode 92 (114 ∷ rest) beyond)
pass-piece {mode} (written_tab beyond) rest = pass-front mode (92 ∷ 116 ∷ []) rest (omega arith) (beyond-piece mode 92 (116 ∷ rest) beyond)
pass-piece {mode} (written_form_feed beyond) rest = pass-front mode (92 ∷ 120 ∷ 48 ∷ 67 ∷ []) rest (omega arith) (beyond-piece mode 92 (120 ∷ 48 ∷ 67 ∷ rest) beyond)
pass-piece {mode} (block_comment inside is lacks) rest = pass-front mode (47 ∷ 42 ∷ (inside ++ 42 ∷ 47 ∷ [])) rest (omega arith) (block-length mode inside rest is lacks)
pass-piece {mode} (line_comment inside last is one ends) rest = pass-front mode (47 ∷ 47 ∷ (inside ++ last ∷ [])) rest (omega arith) (line-length mode inside last rest is one ends)

pub pass-whitespace : {mode : Mode} {whitespace : List ℕ} (b : IsWhitespace mode whitespace) (rest : List ℕ) → skip_closed_whitespace mode (whitespace ++ rest) ≡ skip_closed_whitespace mode rest
pass-whitespace no_whitespace rest = refl
pass-whitespace (more_whitespace {piece = piece} {rest = others} b bs) rest = rw append_assoc (pass-piece b (others ++ rest) ∙ pass-whitespace bs rest)

pub skip-piece : {mode : Mode} {piece : List ℕ} (b : IsWhitespacePiece mode piece) (rest : List ℕ) → skip_whitespace mode (piece ++ rest) ≡ skip_whitespace mode rest
skip-piece {mode} b rest = ap (past_comment (strictness mode)) (pass-piece b rest)

pub skip-whitespace : {mode : Mode} {whitespace : List ℕ} (b : IsWhitespace mode whitespace) (rest : List ℕ) → skip_whitespace mode (whitespace ++ rest) ≡ skip_whitespace mode rest
skip-whitespace {mode} b rest = ap (past_comment (strictness mode)) (pass-whitespace b rest)

-- so many spaces
pub pass-spaces : (mode : Mode) (count : ℕ) (bytes : List ℕ) → count ≤ length bytes → ((k : ℕ) → k < count → get_or bytes k 0 ≡ 32) → skip_closed_whitespace mode (drop count bytes) ≡ skip_closed_whitespace mode bytes
pass-spaces mode zero bytes within are = refl
pass-spaces mode (suc count) [] within are = absurd (omega (arith, within))
pass-spaces mode (suc count) (b ∷ bytes) within are =
    let some : 0 < 1 = omega arith in
    pass-spaces mode count bytes (omega (arith, within)) (λ k low. are (suc k) (omega (arith, low)))
    ∙ sym (ap (λ (c : ℕ). skip_closed_whitespace mode (c ∷ bytes)) (are 0 (omega arith)) ∙ pass-step mode (32 ∷ bytes) some)

-- ---- where no whitespace begins nothing is passed

piece_length-none : (mode : Mode) (b : ℕ) (bytes : List ℕ) → is_whitespace_start b ≡ false → piece_length mode (b ∷ bytes) ≡ 0
piece_length-none mode b bytes e =
    let g = or_parts (eqb b 32 || eqb b 9 || eqb b 10 || eqb b 12 || eqb b 13 || eqb b 92) (eqb b 47) e in
    let h = or_parts (eqb b 32 || eqb b 9 || eqb b 10 || eqb b 12 || eqb b 13) (eqb b 92) g.0 in
    let i = or_parts (eqb b 32 || eqb b 9 || eqb b 10 || eqb b 12) (eqb b 13) h.0 in
    let j = or_parts (eqb b 32 || eqb b 9 || eqb b 10) (eqb b 12) i.0 in
    let beyond : Bool = goes_beyond_json mode in
    let first : (eqb b 32 || eqb b 9 || eqb b 10 || (beyond && eqb b 12) || eqb b 13) ≡ false =
    ap (λ (t : Bool). t || (beyond && eqb b 12) || eqb b 13) j.0 ∙ ap (λ (t : Bool). (beyond && t) || eqb b 13) j.1 ∙ ap (λ (t : Bool). t || eqb b 13) (and-false beyond) ∙ i.1 in
    let second : (beyond && eqb b 92) ≡ false = ap (λ (t : Bool). beyond && t) h.1 ∙ and-false beyond in
    let slash : ℕ = cond (eqb b 47) (slash_length (strictness mode) bytes) 0 in
    cond-false (eqb b 32 || eqb b 9 || eqb b 10 || (beyond && eqb b 12) || eqb b 13) 1 (cond (beyond && eqb b 92) (written_length bytes) slash) first
    ∙ cond-false (beyond && eqb b 92) (written_length bytes) slash second ∙ cond-false (eqb b 47) (slash_length (strictness mode) bytes) 0 g.1

pub pass-stop : (mode : Mode) (b : ℕ) (bytes : List ℕ) → is_whitespace_start b ≡ false → skip_closed_whitespace mode (b ∷ bytes) ≡ b ∷ bytes
pass-stop mode b bytes e = pass-none mode (b ∷ bytes) (piece_length-none mode b bytes e)

pub opens-other : (s : Strictness) (b : ℕ) (bytes : List ℕ) → eqb b 47 ≡ false → opens_comment s (b ∷ bytes) ≡ false
opens-other strict b bytes e = refl
opens-other lenient b bytes e = cond-false (eqb b 47) (begins 42 bytes || begins 47 bytes) false e

pub opens-stop : (s : Strictness) (b : ℕ) (bytes : List ℕ) → is_whitespace_start b ≡ false → opens_comment s (b ∷ bytes) ≡ false
opens-stop s b bytes e = opens-other s b bytes (or_parts (eqb b 32 || eqb b 9 || eqb b 10 || eqb b 12 || eqb b 13 || eqb b 92) (eqb b 47) e).1

past-none : (s : Strictness) (bytes : List ℕ) → opens_comment s bytes ≡ false → past_comment s bytes ≡ bytes
past-none s bytes e = cond-false (opens_comment s bytes) [] bytes e

pub skip-stop : (mode : Mode) (b : ℕ) (bytes : List ℕ) → is_whitespace_start b ≡ false → skip_whitespace mode (b ∷ bytes) ≡ b ∷ bytes
skip-stop mode b bytes e = ap (past_comment (strictness mode)) (pass-stop mode b bytes e) ∙ past-none (strictness mode) (b ∷ bytes) (opens-stop (strictness mode) b bytes e)

pub opens-nil : (s : Strictness) → opens_comment s [] ≡ false
opens-nil strict = refl
opens-nil lenient = refl

pub pass-nil : (mode : Mode) → skip_closed_whitespace mode [] ≡ []
unfolding pass_from
pass-nil mode = refl

pub skip-nil : (mode : Mode) → skip_whitespace mode [] ≡ []
skip-nil mode = ap (past_comment (strictness mode)) (pass-nil mode) ∙ past-none (strictness mode) [] (opens-nil (strictness mode))

-- above a space only a backslash or a slash begins whitespace
starts_none : (b : ℕ) → 32 < b → (eqb b 92 || eqb b 47) ≡ false → is_whitespace_start b ≡ false
starts_none b above others =
    let h = or_parts (eqb b 92) (eqb b 47) others in
    none_of (eqb b 32) (eqb b 9) (eqb b 10) (eqb b 12) (eqb b 13) (eqb b 92) (eqb b 47) (lower 32 above) (lower 9 (omega arith)) (lower 10 (omega arith)) (lower 12 (omega arith)) (lower 13 (omega arith)) h.0 h.1
  where
    lower : (c : ℕ) → c < b → eqb b c ≡ false
    lower c h = ne_eqb b c (λ same. absurd (omega (arith, h, same)))

    none_of : (p q r s t u v : Bool) → p ≡ false → q ≡ false → r ≡ false → s ≡ false → t ≡ false → u ≡ false → v ≡ false → (p || q || r || s || t || u || v) ≡ false
    none_of p q r s t u v e f g h i j l = λ k. e k || f k || g k || h k || i k || j k || l k

-- whether a byte above a space may begin whitespace
pub skip-by_slash : (mode : Mode) (b : ℕ) (bytes rest : List ℕ) → rest ≡ b ∷ bytes → 32 < b → (is : Bool) → (eqb b 92 || eqb b 47) ≡ is → MatchBool is (Unit {0}) (skip_whitespace mode rest ≡ rest)
skip-by_slash mode b bytes rest whole above true e = tt
skip-by_slash mode b bytes rest whole above false e = ap (skip_whitespace mode) whole ∙ skip-stop mode b bytes (starts_none b above e) ∙ sym whole

pub pass-by_slash : (mode : Mode) (b : ℕ) (bytes rest : List ℕ) → rest ≡ b ∷ bytes → 32 < b → (is : Bool) → (eqb b 92 || eqb b 47) ≡ is → MatchBool is (Unit {0}) (skip_closed_whitespace mode rest ≡ rest)
pass-by_slash mode b bytes rest whole above true e = tt
pass-by_slash mode b bytes rest whole above false e = ap (skip_closed_whitespace mode) whole ∙ pass-stop mode b bytes (starts_none b above e) ∙ sym whole

-- ---- what is passed is whitespace

-- a piece, and what follows
record Begins (mode : Mode) (bytes rest : List ℕ) : Type 0 where
  pub piece : List ℕ
  pub is_piece : IsWhitespacePiece mode piece
  pub whole : bytes ≡ piece ++ rest

-- whitespace, and what follows
pub record Passes (mode : Mode) (bytes rest : List ℕ) : Type 0 where
  pub whitespace : List ℕ
  pub is_whitespace : IsWhitespace mode whitespace
  pub whole : bytes ≡ whitespace ++ rest

begins_with : (mode : Mode) → (b c : ℕ) (piece rest bytes : List ℕ) → eqb b c ≡ true → IsWhitespacePiece mode (c ∷ piece) → bytes ≡ piece ++ rest → Begins mode (b ∷ bytes) rest
begins_with mode b c piece rest bytes e is whole =
    let same : b ≡ c = eqb-true b c e in
    record { piece = c ∷ piece; is_piece = is; whole = cc }

form_feed_begins : (bytes : List ℕ) (n : ℕ) → form_feed_length bytes ≡ suc n → (n ≡ 3) × (rest : List ℕ) × (bytes ≡ 48 ∷ 67 ∷ rest) × (rest ≡ drop 2 bytes)
form_feed_begins [] n e = absurd (omega arith)
form_feed_begins (c ∷ []) n e = absurd (omega arith)
form_feed_begins (c ∷ d ∷ rest) n e =
    elim (chosen (eqb c 48 && eqb d 67) 4 0 (suc n) e) [
      | inl t ↦ let both = and_parts (eqb c 48) (eqb d 67) t.0 in let p : c ≡ 48 = eqb-true c 48 both.0 in let q : d ≡ 67 = eqb-true d 67 both.1 in (omega arith, rest, cc, refl)
      | inr f ↦ absurd (omega arith)
    ]

written_begins : (mode : Mode) → GoesBeyondJson mode → (b : ℕ) (bytes : List ℕ) (n : ℕ) → eqb b 92 ≡ true → written_length bytes ≡ suc n → Begins mode (b ∷ bytes) (drop n bytes)
written_begins mode beyond b [] n is e = absurd (omega arith)
written_begins mode beyond b (c ∷ bytes) n is e =
    elim (chosen (eqb c 110 || eqb c 114 || eqb c 116) 2 (cond (eqb c 120) (form_feed_length bytes) 0) (suc n) e) [
      | inl t ↦
          let one : n ≡ 1 = omega (arith, t.1) in
          let at_one : bytes ≡ drop n (c ∷ bytes) = rw one refl in
          elim (or_cases (eqb c 110 || eqb c 114) (eqb c 116) t.0) [
            | inl u ↦ elim (or_cases (eqb c 110) (eqb c 114) u) [
              | inl v ↦ let p : c ≡ 110 = eqb-true c 110 v in begins_with mode b 92 (110 ∷ []) (drop n (c ∷ bytes)) (c ∷ bytes) is (written_line_feed beyond) cc
              | inr v ↦ let p : c ≡ 114 = eqb-true c 114 v in begins_with mode b 92 (114 ∷ []) (drop n (c ∷ bytes)) (c ∷ bytes) is (written_carriage_return beyond) cc
            ]
            | inr u ↦ let p : c ≡ 116 = eqb-true c 116 u in begins_with mode b 92 (116 ∷ []) (drop n (c ∷ bytes)) (c ∷ bytes) is (written_tab beyond) cc
          ]
      | inr f ↦ elim (chosen (eqb c 120) (form_feed_length bytes) 0 (suc n) f.1) [
        | inl t ↦
            let h = form_feed_begins bytes n t.1 in
            let p : c ≡ 120 = eqb-true c 120 t.0 in
            let three : n ≡ 3 = h.0 in
            let at_three : drop 2 bytes ≡ drop n (c ∷ bytes) = rw three refl in
            let parts : bytes ≡ 48 ∷ 67 ∷ h.1 = h.2 in
            let last : h.1 ≡ drop 2 bytes = h.3 in
            begins_with mode b 92 (120 ∷ 48 ∷ 67 ∷ []) (drop n (c ∷ bytes)) (c ∷ bytes) is (written_form_feed beyond) cc
        | inr z ↦ absurd (omega arith)
      ]
    ]

one_begins : (mode : Mode) → (b c n : ℕ) (bytes : List ℕ) → eqb b c ≡ true → IsWhitespacePiece mode (c ∷ []) → n ≡ 0 → Begins mode (b ∷ bytes) (drop n bytes)
one_begins mode b c n bytes e is zero-is = begins_with mode b c [] (drop n bytes) bytes e is (rw zero-is refl)

slash_begins : (mode : Mode) (s : Strictness) → strictness mode ≡ s → (b : ℕ) (bytes : List ℕ) (n : ℕ) → eqb b 47 ≡ true → slash_length s bytes ≡ suc n → Begins mode (b ∷ bytes) (drop n bytes)
slash_begins mode strict same b bytes n is e = absurd (let never : 0 ≡ suc n = e in omega (arith, never))
slash_begins mode lenient same b [] n is e = absurd (let never : 0 ≡ suc n = e in omega (arith, never))
slash_begins mode lenient same b (c ∷ bytes) n is e =
    elim (chosen (eqb c 42) (longer_by 2 (block_length bytes)) (cond (eqb c 47) (longer_by 2 (line_length bytes)) 0) (suc n) e) [
      | inl t ↦
          let more = longer-is 2 (block_length bytes) n t.1 in
          block (block_length bytes) refl t.0 more.0 more.1
      | inr f ↦ elim (chosen (eqb c 47) (longer_by 2 (line_length bytes)) 0 (suc n) f.1) [
        | inl t ↦
            let more = longer-is 2 (line_length bytes) n t.1 in
            line (line_length bytes) refl t.0 more.0 more.1
        | inr z ↦ absurd (let never : 0 ≡ suc n = z.1 in omega (arith, never))
      ]
    ]
  where
    block : (k : ℕ) → block_length bytes ≡ k → eqb c 42 ≡ true → 0 < k → 2 + k ≡ suc n → Begins mode (b ∷ c ∷ bytes) (drop n (c ∷ bytes))
    block zero count star some sum = absurd (omega arith)
    block (suc k) count star some sum =
        let r = block_ends bytes k count in
        let at : c ∷ bytes ≡ (42 ∷ (r.inside ++ 42 ∷ 47 ∷ [])) ++ r.rest = ap (λ (d : ℕ). d ∷ bytes) (eqb-true c 42 star) ∙ ap (λ (u : List ℕ). 42 ∷ u) (r.whole ∙ sym (append_assoc r.inside (42 ∷ 47 ∷ []) r.rest)) in
        let long : length (42 ∷ (r.inside ++ 42 ∷ 47 ∷ [])) ≡ n = omega (arith, r.count, sum, length-append r.inside (42 ∷ 47 ∷ [])) in
        let rest-is : drop n (c ∷ bytes) ≡ r.rest = ap (drop n) at ∙ drop_at (42 ∷ (r.inside ++ 42 ∷ 47 ∷ [])) r.rest n long in
        subst (λ (u : List ℕ). Begins mode (b ∷ c ∷ bytes) u) (sym rest-is)
        (begins_with mode b 47 (42 ∷ (r.inside ++ 42 ∷ 47 ∷ [])) r.rest (c ∷ bytes) is (block_comment r.inside same r.lacks) at)

    line : (k : ℕ) → line_length bytes ≡ k → eqb c 47 ≡ true → 0 < k → 2 + k ≡ suc n → Begins mode (b ∷ c ∷ bytes) (drop n (c ∷ bytes))
    line zero count slash some sum = absurd (omega arith)
    line (suc k) count slash some sum =
        let r = line_ends bytes k count in
        let at : c ∷ bytes ≡ (47 ∷ (r.inside ++ r.last ∷ [])) ++ r.rest = ap (λ (d : ℕ). d ∷ bytes) (eqb-true c 47 slash) ∙ ap (λ (u : List ℕ). 47 ∷ u) (r.whole ∙ sym (append_assoc r.inside (r.last ∷ []) r.rest)) in
        let long : length (47 ∷ (r.inside ++ r.last ∷ [])) ≡ n = omega (arith, r.count, sum, length-append r.inside (r.last ∷ [])) in
        let rest-is : drop n (c ∷ bytes) ≡ r.rest = ap (drop n) at ∙ drop_at (47 ∷ (r.inside ++ r.last ∷ [])) r.rest n long in
        subst (λ (u : List ℕ). Begins mode (b ∷ c ∷ bytes) u) (sym rest-is)
        (begins_with mode b 47 (47 ∷ (r.inside ++ r.last ∷ [])) r.rest (c ∷ bytes) is (line_comment r.inside r.last same r.one r.ends) at)

piece_begins : (mode : Mode) → (b : ℕ) (bytes : List ℕ) (n : ℕ) → piece_length mode (b ∷ bytes) ≡ suc n → Begins mode (b ∷ bytes) (drop n bytes)
piece_begins mode b bytes n e =
    let beyond : Bool = goes_beyond_json mode in
    let slash : ℕ = cond (eqb b 47) (slash_length (strictness mode) bytes) 0 in
    elim (chosen (eqb b 32 || eqb b 9 || eqb b 10 || (beyond && eqb b 12) || eqb b 13) 1 (cond (beyond && eqb b 92) (written_length bytes) slash) (suc n) e) [
      | inl t ↦
          let z : n ≡ 0 = omega (arith, t.1) in
          elim (or_cases (eqb b 32 || eqb b 9 || eqb b 10 || (beyond && eqb b 12)) (eqb b 13) t.0) [
            | inr v ↦ one_begins mode b 13 n bytes v carriage_return z
            | inl u ↦ elim (or_cases (eqb b 32 || eqb b 9 || eqb b 10) (beyond && eqb b 12) u) [
              | inr v ↦ let both = and_parts beyond (eqb b 12) v in one_begins mode b 12 n bytes both.1 (form_feed (true-beyond mode both.0)) z
              | inl w ↦ elim (or_cases (eqb b 32 || eqb b 9) (eqb b 10) w) [
                | inr v ↦ one_begins mode b 10 n bytes v line_feed z
                | inl x ↦ elim (or_cases (eqb b 32) (eqb b 9) x) [
                  | inl v ↦ one_begins mode b 32 n bytes v space z
                  | inr v ↦ one_begins mode b 9 n bytes v tab z
                ]
              ]
            ]
          ]
      | inr f ↦ elim (chosen (beyond && eqb b 92) (written_length bytes) slash (suc n) f.1) [
        | inl t ↦ let both = and_parts beyond (eqb b 92) t.0 in written_begins mode (true-beyond mode both.0) b bytes n both.1 t.1
        | inr z ↦ elim (chosen (eqb b 47) (slash_length (strictness mode) bytes) 0 (suc n) z.1) [
          | inl t ↦ slash_begins mode (strictness mode) refl b bytes n t.0 t.1
          | inr y ↦ absurd (omega (arith, y.1))
        ]
      ]
    ]

passes_nothing : (mode : Mode) → (bytes : List ℕ) → Passes mode bytes bytes
passes_nothing mode bytes = record { whitespace = []; is_whitespace = no_whitespace; whole = refl }

passes_more : (mode : Mode) → (bytes middle rest : List ℕ) → Begins mode bytes middle → Passes mode middle rest → Passes mode bytes rest
passes_more mode bytes middle rest b p =
    record {
      whitespace = b.piece ++ p.whitespace;
      is_whitespace = more_whitespace b.is_piece p.is_whitespace;
      whole = b.whole ∙ ap (λ (s : List ℕ). b.piece ++ s) p.whole ∙ sym (append_assoc b.piece p.whitespace rest);
    }

passes_chosen : (mode : Mode) → (n b : ℕ) (bytes : List ℕ) → piece_length mode (b ∷ bytes) ≡ n → Passes mode (drop (n - 1) bytes) (pass_from mode (n - 1) bytes) → Passes mode (b ∷ bytes) (pass_chosen n (b ∷ bytes) (pass_from mode (n - 1) bytes))
passes_chosen mode zero b bytes e p = passes_nothing mode (b ∷ bytes)
passes_chosen mode (suc n) b bytes e p =
    let same : suc n - 1 ≡ n = omega arith in
    let q : Passes mode (drop n bytes) (pass_from mode (suc n - 1) bytes) = subst (λ (k : ℕ). Passes mode (drop k bytes) (pass_from mode (suc n - 1) bytes)) same p in
    passes_more mode (b ∷ bytes) (drop n bytes) (pass_from mode (suc n - 1) bytes) (piece_begins mode b bytes n e) q

passes_from : (mode : Mode) → (passed : ℕ) (bytes : List ℕ) → Passes mode (drop passed bytes) (pass_from mode passed bytes)
unfolding pass_from
passes_from mode zero [] = passes_nothing mode []
passes_from mode (suc passed) [] = passes_nothing mode []
passes_from mode (suc passed) (b ∷ bytes) = passes_from mode passed bytes
passes_from mode zero (b ∷ bytes) = passes_chosen mode (piece_length mode (b ∷ bytes)) b bytes refl (passes_from mode (piece_length mode (b ∷ bytes) - 1) bytes)

pub passes : (mode : Mode) → (bytes : List ℕ) → Passes mode bytes (skip_closed_whitespace mode bytes)
passes mode bytes = passes_from mode 0 bytes

-- ---- after the whitespace

pub length-pass : (mode : Mode) (bytes : List ℕ) → length (skip_closed_whitespace mode bytes) ≤ length bytes
length-pass mode bytes = let p = passes mode bytes in omega (arith, ap length p.whole, length-append p.whitespace (skip_closed_whitespace mode bytes))

pub pass-pass : (mode : Mode) (bytes : List ℕ) → skip_closed_whitespace mode (skip_closed_whitespace mode bytes) ≡ skip_closed_whitespace mode bytes
pass-pass mode bytes = let p = passes mode bytes in sym (pass-whitespace p.is_whitespace (skip_closed_whitespace mode bytes)) ∙ ap (skip_closed_whitespace mode) (sym p.whole)

-- where no whitespace is passed none begins
pub piece_length-passed : (mode : Mode) (bytes : List ℕ) → skip_closed_whitespace mode bytes ≡ bytes → piece_length mode bytes ≡ 0
piece_length-passed mode bytes same = by_length (piece_length mode bytes) refl
  where
    longer : (us : List ℕ) (n : ℕ) → piece_length mode us ≡ suc n → 0 < length us
    longer [] n e = absurd (let never : 0 ≡ suc n = e in omega (arith, never))
    longer (u ∷ us) n e = omega arith

    by_length : (n : ℕ) → piece_length mode bytes ≡ n → n ≡ 0
    by_length zero e = refl
    by_length (suc n) e =
        let step : bytes ≡ skip_closed_whitespace mode (drop (suc n) bytes) = sym same ∙ pass-step mode bytes (omega (arith, e)) ∙ ap (λ (k : ℕ). skip_closed_whitespace mode (drop k bytes)) e in
        let some : 0 < length bytes = longer bytes n e in
        absurd (omega (arith, ap length step, length-pass mode (drop (suc n) bytes), length-drop (suc n) bytes, some))

-- nothing, or the bytes after the whitespace
skipped : (mode : Mode) (bytes : List ℕ) → (skip_whitespace mode bytes ≡ []) ⊎ ((opens_comment (strictness mode) (skip_closed_whitespace mode bytes) ≡ false) × (skip_whitespace mode bytes ≡ skip_closed_whitespace mode bytes))
skipped mode bytes = by_test (opens_comment (strictness mode) (skip_closed_whitespace mode bytes)) refl
  where
    by_test : (t : Bool) → opens_comment (strictness mode) (skip_closed_whitespace mode bytes) ≡ t → (skip_whitespace mode bytes ≡ []) ⊎ ((opens_comment (strictness mode) (skip_closed_whitespace mode bytes) ≡ false) × (skip_whitespace mode bytes ≡ skip_closed_whitespace mode bytes))
    by_test true e = inl (cond-true (opens_comment (strictness mode) (skip_closed_whitespace mode bytes)) [] (skip_closed_whitespace mode bytes) e)
    by_test false e = inr (e, past-none (strictness mode) (skip_closed_whitespace mode bytes) e)

pub length-skip : (mode : Mode) (bytes : List ℕ) → length (skip_whitespace mode bytes) ≤ length bytes
length-skip mode bytes =
    elim (skipped mode bytes) [
      | inl none ↦ omega (arith, ap length none)
      | inr some ↦ omega (arith, ap length some.1, length-pass mode bytes)
    ]

pub skip-skip : (mode : Mode) (bytes : List ℕ) → skip_whitespace mode (skip_whitespace mode bytes) ≡ skip_whitespace mode bytes
skip-skip mode bytes =
    elim (skipped mode bytes) [
      | inl none ↦ ap (skip_whitespace mode) none ∙ skip-nil mode ∙ sym none
      | inr some ↦ ap (skip_whitespace mode) some.1 ∙ ap (past_comment (strictness mode)) (pass-pass mode bytes)
    ]

-- where bytes are left, those that were skipped are whitespace
pub skips : (mode : Mode) (bytes : List ℕ) → 0 < length (skip_whitespace mode bytes) → Passes mode bytes (skip_whitespace mode bytes)
skips mode bytes left =
    elim (skipped mode bytes) [
      | inl none ↦ absurd (omega (arith, left, ap length none))
      | inr some ↦ subst (λ (u : List ℕ). Passes mode bytes u) (sym some.1) (passes mode bytes)
    ]

pub skip-passed : (mode : Mode) (bytes : List ℕ) (b : ℕ) (rest : List ℕ) → skip_closed_whitespace mode bytes ≡ b ∷ rest → opens_comment (strictness mode) (b ∷ rest) ≡ false → skip_whitespace mode bytes ≡ b ∷ rest
skip-passed mode bytes b rest e none = ap (past_comment (strictness mode)) e ∙ past-none (strictness mode) (b ∷ rest) none

-- ---- the end of a text

-- how the whitespace at the end of a text is passed
pub data EndsPassed (mode : Mode) (bytes : List ℕ) : Type 0 where
  all_passed : skip_closed_whitespace mode bytes ≡ [] → EndsPassed mode bytes
  line_left : (rest : List ℕ) → opens_comment (strictness mode) (47 ∷ 47 ∷ rest) ≡ true → skip_closed_whitespace mode bytes ≡ 47 ∷ 47 ∷ rest → EndsPassed mode bytes

pub ends_passed : {mode : Mode} {bytes : List ℕ} (b : IsLastWhitespace mode bytes) → EndsPassed mode bytes
ends_passed {mode} (whitespace_to_end {whitespace = whitespace} b) = all_passed (ap (skip_closed_whitespace mode) (sym (append-nil whitespace)) ∙ pass-whitespace b [] ∙ pass-nil mode)
ends_passed {mode} (line_to_end {whitespace = whitespace} inside is b one) =
    line_left inside (ap (λ (s : Strictness). opens_comment s (47 ∷ 47 ∷ inside)) is)
    (pass-whitespace b (47 ∷ 47 ∷ inside) ∙ pass-none mode (47 ∷ 47 ∷ inside) (comment-piece mode (47 ∷ inside) is ∙ ap (longer_by 2) (line-none inside one)))

pub ends_all : (mode : Mode) (bytes : List ℕ) → skip_closed_whitespace mode bytes ≡ [] → IsLastWhitespace mode bytes
ends_all mode bytes e = let p = passes mode bytes in subst (IsLastWhitespace mode) (sym (p.whole ∙ ap (λ (u : List ℕ). p.whitespace ++ u) e ∙ append-nil p.whitespace)) (whitespace_to_end p.is_whitespace)

pub ends_line : (mode : Mode) (bytes rest : List ℕ) → IsLenient mode → skip_closed_whitespace mode bytes ≡ 47 ∷ 47 ∷ rest → IsLastWhitespace mode bytes
ends_line mode bytes rest is e =
    let p = passes mode bytes in
    let stays : skip_closed_whitespace mode (47 ∷ 47 ∷ rest) ≡ 47 ∷ 47 ∷ rest = ap (skip_closed_whitespace mode) (sym e) ∙ pass-pass mode bytes ∙ e in
    let none : longer_by 2 (line_length rest) ≡ 0 = sym (comment-piece mode (47 ∷ rest) is) ∙ piece_length-passed mode (47 ∷ 47 ∷ rest) stays in
    subst (IsLastWhitespace mode) (sym (p.whole ∙ ap (λ (u : List ℕ). p.whitespace ++ u) e)) (line_to_end rest is p.is_whitespace (no_line_end rest (unlonger (line_length rest) none)))
  where
    unlonger : (k : ℕ) → longer_by 2 k ≡ 0 → k ≡ 0
    unlonger zero h = refl
    unlonger (suc k) h = absurd (let never : 2 + suc k ≡ 0 = h in omega (arith, never))

pub length-past : (s : Strictness) (bytes : List ℕ) → length (past_comment s bytes) ≤ length bytes
length-past s bytes = by_test (opens_comment s bytes)
  where
    by_test : (t : Bool) → length (cond t [] bytes) ≤ length bytes
    by_test true = omega arith
    by_test false = omega arith

drop_past : (front more : List ℕ) (n : ℕ) → drop (length front + n) (front ++ more) ≡ drop n more
drop_past [] more n = let same : 0 + n ≡ n = omega arith in ap (λ (k : ℕ). drop k more) same
drop_past (b ∷ front) more n = let same : suc (length front) + n ≡ suc (length front + n) = omega arith in ap (λ (k : ℕ). drop k (b ∷ (front ++ more))) same ∙ drop_past front more n

-- More bytes after the last whitespace: what is passed goes on to these, or a comment is open.
pub last_within : {mode : Mode} {last : List ℕ} (b : IsLastWhitespace mode last) (more : List ℕ) → (length (skip_closed_whitespace mode (last ++ more)) ≤ length more) ⊎ (opens_comment (strictness mode) (skip_closed_whitespace mode (last ++ more)) ≡ true)
last_within {mode} (whitespace_to_end b) more = inl (omega (arith, ap length (pass-whitespace b more), length-pass mode more))
last_within {mode} (line_to_end {whitespace = whitespace} inside is b one) more =
    subst (λ (u : List ℕ). (length u ≤ length more) ⊎ (opens_comment (strictness mode) u ≡ true)) (sym (ap (skip_closed_whitespace mode) (append_assoc whitespace (47 ∷ 47 ∷ inside) more) ∙ pass-whitespace b (47 ∷ 47 ∷ (inside ++ more))))
    (by_length (line_length more) refl)
  where
    line : List ℕ
    line = 47 ∷ 47 ∷ (inside ++ more)

    count : (n : ℕ) → line_length more ≡ n → piece_length mode line ≡ longer_by (2 + length inside) n
    count n e = comment-piece mode (47 ∷ (inside ++ more)) is ∙ ap (longer_by 2) (line-past inside more one ∙ ap (longer_by (length inside)) e) ∙ longer-longer 2 (length inside) n

    by_length : (n : ℕ) → line_length more ≡ n → (length (skip_closed_whitespace mode line) ≤ length more) ⊎ (opens_comment (strictness mode) (skip_closed_whitespace mode line) ≡ true)
    by_length zero e = inr (ap (opens_comment (strictness mode)) (pass-none mode line (count zero e)) ∙ ap (λ (s : Strictness). opens_comment s line) is)
    by_length (suc n) e =
        let long : piece_length mode line ≡ 2 + length inside + suc n = count (suc n) e in
        let split : drop (2 + length inside + suc n) line ≡ drop (suc n) more = ap (λ (k : ℕ). drop k line) (let same : 2 + length inside + suc n ≡ length (47 ∷ 47 ∷ inside) + suc n = omega arith in same) ∙ drop_past (47 ∷ 47 ∷ inside) more (suc n) in
        inl (omega (arith, ap length (pass-step mode line (omega (arith, long)) ∙ ap (λ (k : ℕ). skip_closed_whitespace mode (drop k line)) long ∙ ap (skip_closed_whitespace mode) split), length-pass mode (drop (suc n) more), length-drop (suc n) more))
