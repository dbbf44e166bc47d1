-- What is behind a key, determined by the last byte.
use Rattle.std.proofs.Common.{◌≡◌, ℕ, ◌+◌, ◌<◌, inl, inr, ◌⊎◌, List, [], ◌∷◌, ◌++◌, length, take, drop, refl, sym, ap, ap₂, ◌∙◌, arith, append_assoc, append-nil}
use Rattle.std.specs.Prelude.{reverse}
use Rattle.std.proofs.lemmas.List.{length-drop, reverse-append, take-append-drop}
use Rattle.jsonb_core.proofs.Trees.Runs.{heads, tails}
use Rattle.jsonb_spec.specs.Document.{behind_key, EndsUnlike}
use Rattle.key_document.proofs.Backwards.{turned_back}
use Rattle.jsonb_spec.specs.Document.Zeros.{in_sevens}

-- the bytes of a document with zeros but the last
abbrev pub but_last : List ℕ → List ℕ → List ℕ
but_last key zeros = (key ++ zeros) ++ reverse (in_sevens 8 (length zeros))

regroup : (a b c d : List ℕ) → a ++ (b ++ (c ++ d)) ≡ ((a ++ b) ++ c) ++ d
regroup a b c d = simp append_assoc

marked_end : (key : List ℕ) (z : ℕ) (zs : List ℕ) → key ++ behind_key (z ∷ zs) ≡ but_last key (z ∷ zs) ++ 255 ∷ []
marked_end key z zs = ap (λ l. key ++ ((z ∷ zs) ++ l)) (reverse-append (255 ∷ []) (in_sevens 8 (length (z ∷ zs)))) ∙ regroup key (z ∷ zs) (reverse (in_sevens 8 (length (z ∷ zs)))) (255 ∷ [])

pub tail_cases : (key zeros document : List ℕ) → document ≡ key ++ behind_key zeros → ((zeros ≡ []) × (document ≡ key)) ⊎ (document ≡ but_last key zeros ++ 255 ∷ [])
tail_cases key [] document e = inl (refl, e ∙ append-nil key)
tail_cases key (z ∷ zs) document e = inr (e ∙ marked_end key z zs)

pub same_last : (a b : List ℕ) (x y : ℕ) → a ++ x ∷ [] ≡ b ++ y ∷ [] → (a ≡ b) × (x ≡ y)
same_last a b x y e =
    let r : x ∷ reverse a ≡ y ∷ reverse b = sym (reverse-append a (x ∷ [])) ∙ ap reverse e ∙ reverse-append b (y ∷ []) in
    (turned_back a b (tails x y (reverse a) (reverse b) r), heads x y (reverse a) (reverse b) r)

-- bytes that end with some zeros
pub marked : (key zeros document front : List ℕ) (last : ℕ) → 0 < length zeros → document ≡ key ++ behind_key zeros → document ≡ front ++ last ∷ [] → (front ≡ but_last key zeros) × (last ≡ 255)
marked key [] document front last some e f = absurd (omega (arith, some))
marked key (z ∷ zs) document front last some e f = same_last front (but_last key (z ∷ zs)) last 255 (sym f ∙ e ∙ marked_end key z zs)

pub marked_whole : (key zeros document front rest : List ℕ) (last size at : ℕ) → document ≡ front ++ last ∷ [] → last ≡ 255 → 0 < size → front ≡ rest ++ reverse (in_sevens 8 size) → at + size ≡ length rest → key ≡ take at rest → zeros ≡ drop at rest
    → (0 < length zeros) × (document ≡ key ++ behind_key zeros)
marked_whole key zeros document front rest last size at f mark some e sum is_key are =
    let long : length zeros ≡ size = omega (arith, sum, ap length are, length-drop at rest) in
    let split : rest ≡ key ++ zeros = sym (take-append-drop at rest) ∙ ap₂ (λ k z. k ++ z) (sym is_key) (sym are) in
    let there : document ≡ but_last key zeros ++ 255 ∷ [] = f ∙ ap₂ (λ l b. l ++ b ∷ []) (e ∙ ap₂ (λ r n. r ++ reverse (in_sevens 8 n)) split (sym long)) mark in
    (omega (arith, some, long), joined zeros (omega (arith, some, long)) there)
  where
    joined : (zs : List ℕ) → 0 < length zs → document ≡ but_last key zs ++ 255 ∷ [] → document ≡ key ++ behind_key zs
    joined [] none is = absurd (omega (arith, none))
    joined (z ∷ zs) more is = is ∙ sym (marked_end key z zs)

-- they are those of a document
pub are_marked : (key zeros document k z : List ℕ) → EndsUnlike 255 key → document ≡ key ++ behind_key zeros → 0 < length z → document ≡ k ++ behind_key z → (0 < length zeros → (k ≡ key) × (z ≡ zeros)) → (k ≡ key) × (z ≡ zeros)
are_marked key [] document k z ends e some f found = absurd (ends.other (marked k z document ends.front ends.last some f (e ∙ append-nil key ∙ ends.is)).1)
are_marked key (c ∷ cs) document k z ends e some f found = found (omega arith)

-- no zeros
pub are_unmarked : (key zeros document : List ℕ) → document ≡ key ++ behind_key zeros → (0 < length zeros → ⊥) → (document ≡ key) × (zeros ≡ [])
are_unmarked key [] document e none = (e ∙ append-nil key, refl)
are_unmarked key (c ∷ cs) document e none = absurd (none (omega arith))

pub undivided : (document key zeros : List ℕ) → key ≡ document → zeros ≡ [] → document ≡ key ++ behind_key zeros
undivided document key zeros is none = sym (append-nil document) ∙ ap₂ (λ k z. k ++ behind_key z) (sym is) (sym none)
