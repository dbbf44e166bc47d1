-- A line that a reader holds.
use Rattle.std.proofs.Common.{◌≡◌, ◌≢◌, ℕ, ◌+◌, ◌-◌, ◌<◌, ◌≤◌, All, IfSome, List, [], ◌++◌, Some, None, length, take, get_or-take, length-take-le, sym, ap, subst, ◌∙◌, arith, zero-le, eq-eqb, eqb-true}
use Rattle.std.proofs.lemmas.List.Elements.{All-from_get_or}
use Rattle.std.specs.Io.{StartsWith, IsEmptyOrEndsWith}
use Rattle.std.specs.Io.KnownBytes.{Keeps}
use Rattle.std.specs.Io.BufRead.{take_through, DropsConsumable, DropsThrough}
use Rattle.std.specs.Prelude.{slice_index, Option}
use Rattle.std.proofs.BufReadLemmas.{Consumes_shown, Consumes_through}
use Rattle.std.proofs.KnownBytes.{Consumes-nil}
use Rattle.std.proofs.Transfers.{StopsAt-take}
use Rattle.memchr.specs.Find.{IsFirstByte, is_byte}

-- no byte before the first line feed is one
before_feed : (shown : List ℕ) (i : ℕ) → IsFirstByte (is_byte 10) shown (Some i) → All (λ x. x ≢ 10) (take i shown)
before_feed shown i f = All-from_get_or (λ x. x ≢ 10) (take i shown) 0 (λ k low e.
    let inside : k < i = omega (arith, low, length-take-le i shown (omega (arith, f.0.high))) in
    f.0.before k zero-le inside (eq-eqb _ 10 (sym (get_or-take i shown k 0 inside) ∙ e)))

ends_line : (shown : List ℕ) (i : ℕ) → IsFirstByte (is_byte 10) shown (Some i) → IsEmptyOrEndsWith (take (i + 1) shown) 10
ends_line shown i f = λ some.
    let last : length (take (i + 1) shown) - 1 ≡ i = omega (arith, length-take-le (i + 1) shown (omega (arith, f.0.high))) in
    ap (λ (k : ℕ). slice_index (take (i + 1) shown) k) last ∙ get_or-take (i + 1) shown i 0 (omega arith) ∙ eqb-true _ 10 f.1

-- the line that is taken of what a reader shows is its next one
pub line_taken : (a b c : Option (List ℕ)) (limit : Option ℕ) (shown : List ℕ) (i : ℕ) → IfSome a (λ xs. StartsWith xs shown) → IfSome a (λ xs. length shown ≡ 0 → xs ≡ []) → Keeps a b
    → IfSome a (λ _. IfSome limit (λ k. length shown ≤ k)) → DropsConsumable b c limit (i + 1) → IsFirstByte (is_byte 10) shown (Some i)
    → IfSome a (λ xs. take (i + 1) shown ≡ take_through 10 xs) × DropsThrough a c 10
line_taken a b c limit shown i front end kept fits drops f =
    let within : i + 1 ≤ length shown = omega (arith, f.0.high) in
    let moved = Consumes_shown a b c limit shown (i + 1) within front end kept fits drops in
    let less : i + 1 - 1 ≡ i = omega arith in
    let stops = StopsAt-take shown 10 (i + 1) within (subst (λ (k : ℕ). All (λ x. x ≢ 10) (take k shown)) (sym less) (before_feed shown i f)) in
    Consumes_through 10 a a c [] (take (i + 1) shown) (Consumes-nil a) (λ k x low. absurd (omega (arith, low))) moved.0 stops (ends_line shown i f)
    (λ none. absurd (omega (arith, none, length-take-le (i + 1) shown within)))

pub appended : (a : Option (List ℕ)) (old new part : List ℕ) → new ≡ old ++ part → IfSome a (λ xs. part ≡ take_through 10 xs) → IfSome a (λ xs. new ≡ old ++ take_through 10 xs)
appended (Some xs) old new part is h = is ∙ ap (λ bs. old ++ bs) h
appended None old new part is h = tt
