-- Bytes are shown piece by piece.
use Rattle.std.proofs.lemmas.Bool.{ltb-true}
use Rattle.std.proofs.lemmas.List.{at_drop_more}
use Rattle.std.proofs.Common.{◌≡◌, ◌≢◌, ℕ, ◌+◌, ◌<◌, ◌≤◌, suc, ◌==◌, ◌&&◌, Bool, true, false, List, [], ◌∷◌, ◌++◌, drop, get_or, length, ne_eqb, nat_lt, if◌then◌else◌, refl, sym, ap, subst, ◌∙◌, arith, append_assoc, append-nil}
use Rattle.jsonb_spec.specs.Ascii as ascii
use Rattle.jsonb_spec.specs.Program.Colours.{AreShown, no_piece, one_piece, piece_len, shown_piece, string_len}

-- a string ends within the bytes
pub string_within : (passed : Bool) (cs : List ℕ) → string_len passed cs ≤ length cs
string_within true [] = omega arith
string_within false [] = omega arith
string_within true (c ∷ cs) = omega (arith, string_within false cs)
string_within false (c ∷ cs) = either (c == ascii.quote) (string_len (c == ascii.backslash) cs) (string_within (c == ascii.backslash) cs)
  where
    either : (ends : Bool) (more : ℕ) → more ≤ length cs → (if ends then 1 else 1 + more) ≤ suc (length cs)
    either true more h = omega arith
    either false more h = omega (arith, h)

-- past a byte of a string that is passed
pub passes : (bytes : List ℕ) (i all : ℕ) (passed now : Bool) → i < length bytes → passed ≡ true → now ≡ false → all ≡ i + string_len passed (drop i bytes) → all ≡ (i + 1) + string_len now (drop (i + 1) bytes)
passes bytes i all passed now h was is k =
    let step = at_drop_more (string_len true) bytes i 0 h in
    let k : all ≡ i + string_len true (drop i bytes) = subst (λ b. all ≡ i + string_len b (drop i bytes)) was k in
    subst (λ b. all ≡ (i + 1) + string_len b (drop (i + 1) bytes)) (sym is) (omega (arith, k, step))

-- past one that isn't passed and is no quote
pub goes_on : (bytes : List ℕ) (i all : ℕ) (passed now : Bool) → i < length bytes → passed ≡ false → get_or bytes i 0 ≢ 34 → now ≡ (get_or bytes i 0 == 92) → all ≡ i + string_len passed (drop i bytes) → all ≡ (i + 1) + string_len now (drop (i + 1) bytes)
goes_on bytes i all passed now h was other is k =
    let c = get_or bytes i 0 in
    let more = 1 + string_len (c == 92) (drop (i + 1) bytes) in
    let step = subst (λ (b : Bool). string_len false (drop i bytes) ≡ (if b then 1 else more)) (ne_eqb c 34 other) (at_drop_more (string_len false) bytes i 0 h) in
    let k : all ≡ i + string_len false (drop i bytes) = subst (λ b. all ≡ i + string_len b (drop i bytes)) was k in
    subst (λ b. all ≡ (i + 1) + string_len b (drop (i + 1) bytes)) (sym is) (omega (arith, k, step))

-- a piece has a byte, and ends within the bytes
pub piece_within : (c : ℕ) (cs : List ℕ) → (0 < piece_len (c ∷ cs)) × (piece_len (c ∷ cs) ≤ suc (length cs))
piece_within c cs = by_first (c == ascii.quote) (c == ascii.lower_n) (nat_lt 2 (length cs)) refl
  where
    by_first : (quoted n long : Bool) → nat_lt 2 (length cs) ≡ long
        → (0 < (if quoted then string_len true (c ∷ cs) else if n && long then 4 else 1)) × ((if quoted then string_len true (c ∷ cs) else if n && long then 4 else 1) ≤ suc (length cs))
    by_first true n long is = (omega arith, string_within true (c ∷ cs))
    by_first false true true is = (omega arith, omega (arith, ltb-true 2 (length cs) is))
    by_first false true false is = (omega arith, omega arith)
    by_first false false long is = (omega arith, omega arith)

-- What is behind old shows the bytes up to rest: however rest is shown, all is.
abbrev pub ShowsUpTo : List ℕ → List ℕ → List ℕ → List ℕ → Type 0
ShowsUpTo bytes rest old new = (so_far : List ℕ) × (new ≡ old ++ so_far) × ((shown : List ℕ) → AreShown rest shown → AreShown bytes (so_far ++ shown))

pub shows_none : (bytes old : List ℕ) → ShowsUpTo bytes bytes old old
shows_none bytes old = ([], sym (append-nil old), λ shown h. h)

pub shows_one : (bytes rest cs behind old mid new : List ℕ) (c : ℕ) → rest ≡ c ∷ cs → behind ≡ drop (piece_len rest) rest → new ≡ mid ++ shown_piece c rest → ShowsUpTo bytes rest old mid → ShowsUpTo bytes behind old new
shows_one bytes rest cs behind old mid new c is after appended h = (
  h.0 ++ shown_piece c rest,
  appended ∙ ap (λ l. l ++ shown_piece c rest) h.1 ∙ append_assoc old h.0 (shown_piece c rest),
  λ shown k. subst (AreShown bytes) (sym (append_assoc h.0 (shown_piece c rest) shown))
      (h.2 (shown_piece c rest ++ shown) (subst (λ l. AreShown l (shown_piece c l ++ shown)) (sym is) (one_piece c cs shown (subst (λ l. AreShown (drop (piece_len l) l) shown) is (subst (λ l. AreShown l shown) after k))))),
)

pub all_shown : (bytes rest old new : List ℕ) → rest ≡ [] → ShowsUpTo bytes rest old new → (shown : List ℕ) × AreShown bytes shown × (new ≡ old ++ shown)
all_shown bytes rest old new is h = (h.0 ++ [], h.2 [] (subst (λ l. AreShown l []) (sym is) no_piece), h.1 ∙ ap (λ l. old ++ l) (sym (append-nil h.0)))
