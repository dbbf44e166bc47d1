-- The keys of texts.
use Rattle.std.proofs.Common.{◌≡◌, ℕ, zero, suc, List, [], ◌∷◌, ◌++◌, refl, sym, ap, ◌∙◌, arith, ◌==◌, append_assoc}
use Rattle.std.specs.List.{flat_map}
use Rattle.std.proofs.lemmas.Bool.{ne_eqb, cond-false}
use Rattle.std.specs.Ordering.{nat_cmp, ordering_then}
use Rattle.jsonb_spec.specs.Order.{bytes_cmp}
use Rattle.jsonb_spec.specs.SortKey.{byte_key, text_key}
use Rattle.jsonb_core.proofs.SortKeys.Comparing.{Compares, is_less, is_greater, then_assoc}

-- a byte that is not 0 is as it is
pub text_key-other : (b : ℕ) (t : List ℕ) → text_key (suc b ∷ t) ≡ suc b ∷ text_key t
text_key-other b t =
    append_assoc (byte_key (suc b)) (flat_map byte_key t) (0 ∷ 1 ∷ [])
    ∙ ap (λ bytes. bytes ++ text_key t) {x = byte_key (suc b)} (cond-false (suc b == 0) _ _ (ne_eqb (suc b) 0 (λ e. absurd (omega arith))))

texts : (s t x y : List ℕ) → bytes_cmp (text_key s ++ x) (text_key t ++ y) ≡ ordering_then (bytes_cmp s t) (bytes_cmp x y)
texts [] [] x y = refl
texts [] (zero ∷ t) x y = refl
texts [] (suc b ∷ t) x y =
    ap (λ key. bytes_cmp (0 ∷ 1 ∷ x) (key ++ y)) (text_key-other b t) ∙ ap (λ r. ordering_then r (bytes_cmp (1 ∷ x) (text_key t ++ y))) (is_less 0 (suc b) (omega arith))
texts (zero ∷ s) [] x y = refl
texts (suc a ∷ s) [] x y =
    ap (λ key. bytes_cmp (key ++ x) (0 ∷ 1 ∷ y)) (text_key-other a s) ∙ ap (λ r. ordering_then r (bytes_cmp (text_key s ++ x) (1 ∷ y))) (is_greater (suc a) 0 (omega arith))
texts (zero ∷ s) (zero ∷ t) x y = texts s t x y
texts (zero ∷ s) (suc b ∷ t) x y =
    let less = is_less 0 (suc b) (omega arith) in
    ap (λ key. bytes_cmp (text_key (0 ∷ s) ++ x) (key ++ y)) (text_key-other b t)
    ∙ ap (λ r. ordering_then r (bytes_cmp (255 ∷ (text_key s ++ x)) (text_key t ++ y))) less
    ∙ sym (ap (λ r. ordering_then (ordering_then r (bytes_cmp s t)) (bytes_cmp x y)) less)
texts (suc a ∷ s) (zero ∷ t) x y =
    let greater = is_greater (suc a) 0 (omega arith) in
    ap (λ key. bytes_cmp (key ++ x) (text_key (0 ∷ t) ++ y)) (text_key-other a s)
    ∙ ap (λ r. ordering_then r (bytes_cmp (text_key s ++ x) (255 ∷ (text_key t ++ y)))) greater
    ∙ sym (ap (λ r. ordering_then (ordering_then r (bytes_cmp s t)) (bytes_cmp x y)) greater)
texts (suc a ∷ s) (suc b ∷ t) x y =
    (λ i. bytes_cmp (text_key-other a s i ++ x) (text_key-other b t i ++ y))
    ∙ ap (ordering_then (nat_cmp (suc a) (suc b))) (texts s t x y) ∙ then_assoc (nat_cmp (suc a) (suc b)) (bytes_cmp s t) (bytes_cmp x y)

pub text_compares : (s t : List ℕ) → Compares (text_key s) (text_key t) (bytes_cmp s t)
text_compares s t = record { compared = texts s t }
