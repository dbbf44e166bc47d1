-- The texts of an input, read line by line.
use Rattle.std.proofs.Common.{◌≡◌, ℕ, ◌<◌, ◌==◌, ◌&&◌, Bool, true, false, not, List, [], ◌∷◌, ◌++◌, cond, drop, length, slice_index, refl, sym, ap, subst, ◌∙◌, arith, eqb-true}
use Rattle.std.proofs.lemmas.List.Elements.{filter-append}
use Rattle.std.specs.Io.BufRead.{take_through, drop_through}
use Rattle.std.specs.List.{filter}
use Rattle.std.specs.Str.Lines.{lines}
use Rattle.vjson_run.proofs.Cuts.{lines_step}
use Rattle.jsonb_spec.specs.Program.Input.{is_blank_line, text_lines, without_end, without_mark}
use Rattle.vjson_run.specs.Runs.{line_texts}

is_text : List ℕ → Bool
is_text line = not (is_blank_line line)

-- the texts of some bytes are that of their first line, and those of what follows
pub texts_step : (bytes : List ℕ) → 0 < length bytes → text_lines bytes ≡ line_texts (take_through 10 bytes) ++ text_lines (drop_through 10 bytes)
unfolding is_text
texts_step bytes some = ap (filter is_text) (lines_step bytes some) ∙ filter-append is_text (without_end (take_through 10 bytes) ∷ []) (lines (drop_through 10 bytes))

abbrev has_mark : List ℕ → Bool
has_mark bytes = (slice_index bytes 0 == 239) && ((slice_index bytes 1 == 187) && (slice_index bytes 2 == 191))

-- a byte of the mark is no line feed
no_feed : (a : ℕ) (p q : Bool) (n : ℕ) → a ≡ 10 → (10 == n) ≡ false → ((a == n) && p) ≡ ((a == n) && q)
no_feed a p q n is other = ap (λ b. b && p) (ap (λ x. x == n) is ∙ other) ∙ sym (ap (λ b. b && q) (ap (λ x. x == n) is ∙ other))

first_same : (a : ℕ) (bytes : List ℕ) (b : Bool) → slice_index (cond b (a ∷ []) (a ∷ bytes)) 0 ≡ a
first_same a bytes true = refl
first_same a bytes false = refl

one_same : (bytes : List ℕ) → (slice_index (take_through 10 bytes) 0 == 191) ≡ (slice_index bytes 0 == 191)
one_same [] = refl
one_same (a ∷ bytes) = ap (λ x. x == 191) (first_same a (take_through 10 bytes) (a == 10))

two_at : (a : ℕ) (bytes : List ℕ) (b : Bool) → (a == 10) ≡ b
    → ((slice_index (cond b (a ∷ []) (a ∷ take_through 10 bytes)) 0 == 187) && (slice_index (cond b (a ∷ []) (a ∷ take_through 10 bytes)) 1 == 191)) ≡ ((a == 187) && (slice_index bytes 0 == 191))
two_at a bytes true e = no_feed a (0 == 191) (slice_index bytes 0 == 191) 187 (eqb-true a 10 e) refl
two_at a bytes false e = ap (λ p. (a == 187) && p) (one_same bytes)

two_same : (bytes : List ℕ) → ((slice_index (take_through 10 bytes) 0 == 187) && (slice_index (take_through 10 bytes) 1 == 191)) ≡ ((slice_index bytes 0 == 187) && (slice_index bytes 1 == 191))
two_same [] = refl
two_same (a ∷ bytes) = two_at a bytes (a == 10) refl

three_at : (a : ℕ) (bytes : List ℕ) (b : Bool) → (a == 10) ≡ b → has_mark (cond b (a ∷ []) (a ∷ take_through 10 bytes)) ≡ has_mark (a ∷ bytes)
three_at a bytes true e = no_feed a ((0 == 187) && (0 == 191)) ((slice_index bytes 0 == 187) && (slice_index bytes 1 == 191)) 239 (eqb-true a 10 e) refl
three_at a bytes false e = ap (λ p. (a == 239) && p) (two_same bytes)

-- the first line has the mark that the bytes have
mark_same : (bytes : List ℕ) → has_mark (take_through 10 bytes) ≡ has_mark bytes
mark_same [] = refl
mark_same (a ∷ bytes) = three_at a bytes (a == 10) refl

pair : (p q : Bool) → (p && q) ≡ true → (p ≡ true) × (q ≡ true)
pair true true e = (refl, refl)
pair true false e = cc
pair false q e = cc

-- the bytes behind a mark
behind : (bytes : List ℕ) → has_mark bytes ≡ true → (rest : List ℕ) × (bytes ≡ 239 ∷ 187 ∷ 191 ∷ rest)
behind [] e = cc
behind (a ∷ []) e = let p = pair (a == 239) ((0 == 187) && (0 == 191)) e in cc
behind (a ∷ b ∷ []) e = let p = pair (a == 239) ((b == 187) && (0 == 191)) e in let q = pair (b == 187) (0 == 191) p.1 in cc
behind (a ∷ b ∷ c ∷ rest) e =
    let p = pair (a == 239) ((b == 187) && (c == 191)) e in
    let q = pair (b == 187) (c == 191) p.1 in
    (rest, ap (λ x. x ∷ b ∷ c ∷ rest) (eqb-true a 239 p.0) ∙ ap (λ x. 239 ∷ x ∷ c ∷ rest) (eqb-true b 187 q.0) ∙ ap (λ x. 239 ∷ 187 ∷ x ∷ rest) (eqb-true c 191 q.1))

after_mark : (rest : List ℕ) → text_lines rest ≡ line_texts (take_through 10 rest) ++ text_lines (drop_through 10 rest)
after_mark [] = refl
after_mark (a ∷ rest) = texts_step (a ∷ rest) (omega arith)

first_at : (bytes : List ℕ) (b : Bool) → has_mark bytes ≡ b → 0 < length bytes
    → text_lines (cond b (drop 3 bytes) bytes) ≡ line_texts (cond b (drop 3 (take_through 10 bytes)) (take_through 10 bytes)) ++ text_lines (drop_through 10 bytes)
first_at bytes true e some =
    let h = behind bytes e in
    subst (λ l. text_lines (drop 3 l) ≡ line_texts (drop 3 (take_through 10 l)) ++ text_lines (drop_through 10 l)) (sym h.1) (after_mark h.0)
first_at bytes false e some = texts_step bytes some

-- the same at the start of an input, where a mark is no part of the first line
pub first_step : (bytes : List ℕ) → 0 < length bytes → text_lines (without_mark bytes) ≡ line_texts (without_mark (take_through 10 bytes)) ++ text_lines (drop_through 10 bytes)
first_step bytes some =
    first_at bytes (has_mark bytes) refl some
    ∙ ap (λ b. line_texts (cond b (drop 3 (take_through 10 bytes)) (take_through 10 bytes)) ++ text_lines (drop_through 10 bytes)) (sym (mark_same bytes))
