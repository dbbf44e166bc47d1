-- A list that is sorted upwards from its end is sorted downwards.
use Rattle.std.proofs.Common.{◌≡◌, ℕ, ◌+◌, ◌-◌, Bool, true, false, not, ◌&&◌, List, [], ◌∷◌, ◌++◌, cond, length, get_or, reverse, Ordering, is_lt, refl, sym, ap, ◌∙◌, arith}
use Rattle.std.proofs.lemmas.List.{append-nil, get_or-reverse, length-reverse, reverse-append, reverse-reverse}
use Rattle.std.proofs.lemmas.List.Elements.{filter-append, filter_agree}
use Rattle.std.proofs.lemmas.List.Sorted.{IsPermutation-reverse, IsPermutation-trans}
use Rattle.std.specs.List.{filter}
use Rattle.std.specs.List.Sorted.{IsPermutation, IsSorted, IsStable, ties}
use Rattle.std.specs.Ordering.{flip_args}

module _ {X : Type 0} (p : X → Bool) where
  one_more : (x : X) (xs : List X) (b : Bool) → reverse (cond b (x ∷ filter p xs) (filter p xs)) ≡ reverse (filter p xs) ++ cond b (x ∷ []) []
  one_more x xs true = reverse-append (x ∷ []) (filter p xs)
  one_more x xs false = sym (append-nil (reverse (filter p xs)))

  pub filter-reverse : (xs : List X) → filter p (reverse xs) ≡ reverse (filter p xs)
  filter-reverse [] = refl
  filter-reverse (x ∷ xs) =
      ap (filter p) (reverse-append (x ∷ []) xs) ∙ filter-append p (reverse xs) (x ∷ []) ∙ ap (λ l. l ++ cond (p x) (x ∷ []) []) (filter-reverse xs)
      ∙ sym (one_more x xs (p x))

module _ {X : Type 0} (cmp : X → X → Ordering) where
  both : (a b : Bool) → (a && b) ≡ (b && a)
  both true true = refl
  both true false = refl
  both false true = refl
  both false false = refl

  pub moved_down : (given up : List X) → IsPermutation (reverse given) up → IsPermutation given (reverse up)
  moved_down given up moved = IsPermutation-trans given up (reverse up) (IsPermutation-trans given (reverse given) up (IsPermutation-reverse given) moved) (IsPermutation-reverse up)

  pub sorted_down : (up : List X) → IsSorted cmp up → IsSorted (flip_args cmp) (reverse up)
  sorted_down up sorted k d low within =
      let size : length (reverse up) ≡ length up = length-reverse up in
      let m : ℕ = length up - 1 - (k + 1) in
      let first : get_or (reverse up) k d ≡ get_or up (m + 1) d = get_or-reverse up k d (omega (arith, size, within)) ∙ ap (λ n. get_or up n d) (omega (arith, size, within)) in
      let second : get_or (reverse up) (k + 1) d ≡ get_or up m d = get_or-reverse up (k + 1) d (omega (arith, size, within)) in
      ap (λ x. is_lt (cmp x (get_or (reverse up) (k + 1) d))) first ∙ ap (λ y. is_lt (cmp (get_or up (m + 1) d) y)) second
      ∙ sorted m d (omega arith) (omega (arith, size, within))

  pub stable_down : (given up : List X) → IsStable cmp (reverse given) up → IsStable (flip_args cmp) given (reverse up)
  stable_down given up stable x =
      let test = ties (λ a b. is_lt (cmp a b)) x in
      let agree : (xs : List X) → filter (ties (λ a b. is_lt (cmp b a)) x) xs ≡ filter test xs =
      filter_agree (ties (λ a b. is_lt (cmp b a)) x) test (λ y. both (not (is_lt (cmp y x))) (not (is_lt (cmp x y)))) in
      agree (reverse up) ∙ filter-reverse test up ∙ ap reverse (stable x ∙ filter-reverse test given) ∙ reverse-reverse (filter test given) ∙ sym (agree given)
