-- The first line of some bytes, and the lines behind it.
use Rattle.std.proofs.Common.{◌≡◌, ◌≢◌, ◌⊎◌, ⊎_elim, inl, inr, ℕ, nat_lt, ◌&&◌, ◌-◌, ◌<◌, Bool, true, false, ◌==◌, List, [], ◌∷◌, ◌++◌, All, cond, length, take, slice_index, refl, sym, ap, subst, ◌∙◌, arith, append-nil, ne_eqb, eq-eqb}
use Rattle.std.proofs.lemmas.Bool.{cases_eq, lt-ltb}
use Rattle.std.proofs.lemmas.List.{length_push, take_at, get_or_push}
use Rattle.std.proofs.lemmas.List.Elements.{All-nil, All-cons}
use Rattle.std.proofs.lemmas.List.Splits.{slice_split_none, slice_split_at, length-slice_split}
use Rattle.std.proofs.BufReadLemmas.{take_through-append, drop_through-append}
use Rattle.std.specs.Io.BufRead.{take_through, drop_through, ends_with_byte}
use Rattle.std.specs.List.{slice_split}
use Rattle.std.specs.Str.Lines.{lines, lines_of_parts, strip_carriage_return}
use Rattle.jsonb_spec.specs.Program.Input.{without_end}

-- no line feed
abbrev HasNone : List ℕ → Type 0
HasNone bytes = All (λ b. b ≢ 10) bytes

-- The bytes have a line feed, which is behind a front that has none.
record IsCut (bytes : List ℕ) : Type 0 where
  front : List ℕ
  rest : List ℕ
  none : HasNone front
  joined : bytes ≡ front ++ 10 ∷ rest

cut_more : (b : ℕ) (bytes : List ℕ) → b ≢ 10 → IsCut bytes ⊎ HasNone bytes → IsCut (b ∷ bytes) ⊎ HasNone (b ∷ bytes)
cut_more b bytes other (inl cut) = inl (record { front = b ∷ cut.front; rest = cut.rest; none = All-cons (λ x. x ≢ 10) b cut.front other cut.none; joined = ap (λ l. b ∷ l) cut.joined })
cut_more b bytes other (inr none) = inr (All-cons (λ x. x ≢ 10) b bytes other none)

cut_of : (bytes : List ℕ) → IsCut bytes ⊎ HasNone bytes
cut_of [] = inr (All-nil (λ x. x ≢ 10))
cut_of (b ∷ bytes) = ⊎_elim
    (λ (e : b ≡ 10). inl (record { front = []; rest = bytes; none = All-nil (λ x. x ≢ 10); joined = ap (λ x. x ∷ bytes) e }))
    (λ (other : b ≢ 10). cut_more b bytes other (cut_of bytes))
    (cases_eq b 10)

abbrev is_feed : ℕ → Bool
is_feed b = b == 10

no_feed : (bytes : List ℕ) → HasNone bytes → All (λ b. is_feed b ≡ false) bytes
no_feed bytes none = λ k d inside. ne_eqb _ 10 (none k d inside)

-- the parts of some bytes are one or more
parts_there : (parts : List (List ℕ)) (front : List ℕ) → 0 < length parts → lines_of_parts (front ∷ parts) ≡ strip_carriage_return front ∷ lines_of_parts parts
parts_there [] front some = absurd (omega (arith, some))
parts_there (y ∷ more) front some = refl

ends : (front : List ℕ) → ends_with_byte 10 (front ++ 10 ∷ []) ≡ true
ends front =
    let last : length (front ++ 10 ∷ []) - 1 ≡ length front = omega (arith, length_push front 10) in
    at (length (front ++ 10 ∷ [])) (slice_index (front ++ 10 ∷ []) (length (front ++ 10 ∷ []) - 1)) (omega (arith, length_push front 10))
    (ap (λ n. slice_index (front ++ 10 ∷ []) n) last ∙ get_or_push front 10 0 (length front) refl)
  where
    at : (n b : ℕ) → 0 < n → b ≡ 10 → (nat_lt 0 n && (b == 10)) ≡ true
    at n b some e = ap (λ t. t && (b == 10)) (lt-ltb 0 n some) ∙ eq-eqb b 10 e

first_cut : (front rest : List ℕ) → HasNone front → lines (front ++ 10 ∷ rest) ≡ without_end (take_through 10 (front ++ 10 ∷ rest)) ∷ lines (drop_through 10 (front ++ 10 ∷ rest))
first_cut front rest none =
    let taken : take_through 10 (front ++ 10 ∷ rest) ≡ front ++ 10 ∷ [] = take_through-append 10 front (10 ∷ rest) none in
    let dropped : drop_through 10 (front ++ 10 ∷ rest) ≡ rest = drop_through-append 10 front (10 ∷ rest) none in
    let bare : without_end (front ++ 10 ∷ []) ≡ strip_carriage_return front =
    ap (λ b. cond b (strip_carriage_return (take (length (front ++ 10 ∷ []) - 1) (front ++ 10 ∷ []))) (front ++ 10 ∷ [])) (ends front)
    ∙ ap strip_carriage_return (take_at front (10 ∷ []) (length (front ++ 10 ∷ []) - 1) (omega (arith, length_push front 10))) in
    ap lines_of_parts (slice_split_at is_feed front 10 rest (no_feed front none) refl)
    ∙ parts_there (slice_split is_feed rest) front (omega (arith, length-slice_split is_feed rest))
    ∙ ap (λ l. l ∷ lines rest) (sym (ap without_end taken ∙ bare))
    ∙ ap (λ l. without_end (take_through 10 (front ++ 10 ∷ rest)) ∷ lines l) (sym dropped)

alone : (bytes : List ℕ) → 0 < length bytes → lines_of_parts (bytes ∷ []) ≡ bytes ∷ []
alone bytes some = ap (λ t. cond t [] (bytes ∷ [])) (ne_eqb (length bytes) 0 (λ e. omega (arith, e, some)))

-- without a line feed there is no end to be taken away
open_end : (bytes : List ℕ) → HasNone bytes → 0 < length bytes → without_end bytes ≡ bytes
open_end bytes none some =
    let last : ℕ = slice_index bytes (length bytes - 1) in
    at bytes (nat_lt 0 (length bytes)) last (ne_eqb last 10 (none (length bytes - 1) 0 (omega (arith, some))))
  where
    at : (l : List ℕ) (some : Bool) (b : ℕ) → (b == 10) ≡ false → cond (some && (b == 10)) (strip_carriage_return (take (length l - 1) l)) l ≡ l
    at l true b e = ap (λ t. cond t (strip_carriage_return (take (length l - 1) l)) l) e
    at l false b e = refl

first_whole : (bytes : List ℕ) → HasNone bytes → 0 < length bytes → lines bytes ≡ without_end (take_through 10 bytes) ∷ lines (drop_through 10 bytes)
first_whole bytes none some =
    let taken : take_through 10 bytes ≡ bytes = subst (λ l. take_through 10 l ≡ l) (append-nil bytes) (take_through-append 10 bytes [] none) in
    let dropped : drop_through 10 bytes ≡ [] = ap (drop_through 10) (sym (append-nil bytes)) ∙ drop_through-append 10 bytes [] none in
    ap lines_of_parts (slice_split_none is_feed bytes (no_feed bytes none))
    ∙ alone bytes some
    ∙ ap (λ l. l ∷ []) (sym (ap without_end taken ∙ open_end bytes none some))
    ∙ ap (λ l. without_end (take_through 10 bytes) ∷ lines l) (sym dropped)

pub lines_step : (bytes : List ℕ) → 0 < length bytes → lines bytes ≡ without_end (take_through 10 bytes) ∷ lines (drop_through 10 bytes)
lines_step bytes some = ⊎_elim
    (λ (cut : IsCut bytes). subst (λ l. lines l ≡ without_end (take_through 10 l) ∷ lines (drop_through 10 l)) (sym cut.joined) (first_cut cut.front cut.rest cut.none))
    (λ (none : HasNone bytes). first_whole bytes none some)
    (cut_of bytes)
