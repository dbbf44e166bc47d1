-- Of a sorted list the first of neighbours that are equal is the first of them in each list that a stable sort was
-- given.
use Rattle.std.proofs.Common.{◌≡◌, zero, suc, Bool, true, false, true≢false, not, ◌&&◌, List, [], ◌∷◌, All, Option, Some, None, cond, get_or, Ordering, Less, Equal, Greater, is_eq, is_lt, refl, sym, ap, ◌∙◌, arith}
use Rattle.std.proofs.lemmas.Bool.{cond_both}
use Rattle.std.proofs.lemmas.List.Elements.{All-nil, All-cons, All-head, All-tail, filter_agree}
use Rattle.std.proofs.lemmas.List.Filters.{All-dedup}
use Rattle.std.proofs.lemmas.List.Sorted.{sorted_far, ranks_by}
use Rattle.std.specs.Cmp.{IsTotalOrder}
use Rattle.std.specs.List.{AllPairs, dedup, dedup_from, filter, find}
use Rattle.std.specs.List.Sorted.{IsSorted, IsStable, ties}
use Rattle.std.specs.Ordering.{eq_by_cmp, ordering_reverse}

-- the first element
first_of : {X : Type 0} → List X → Option X
first_of [] = None
first_of (x ∷ xs) = Some x

-- the first that passes is the first of those that pass
module _ {X : Type 0} (p : X → Bool) where
  at_first : (x : X) (xs : List X) (b : Bool) → find p xs ≡ first_of (filter p xs) → cond b (Some x) (find p xs) ≡ first_of (cond b (x ∷ filter p xs) (filter p xs))
  unfolding first_of
  at_first x xs true rest = refl
  at_first x xs false rest = rest

  find_filter : (xs : List X) → find p xs ≡ first_of (filter p xs)
  unfolding first_of
  find_filter [] = refl
  find_filter (x ∷ xs) = at_first x xs (p x) (find_filter xs)

tied : (o : Ordering) → (not (is_lt o) && not (is_lt (ordering_reverse o))) ≡ is_eq o
tied Less = refl
tied Equal = refl
tied Greater = refl

pub turned : (o : Ordering) → is_eq (ordering_reverse o) ≡ is_eq o
turned Less = refl
turned Equal = refl
turned Greater = refl

of_equal : (o : Ordering) → is_eq o ≡ true → o ≡ Equal
of_equal Less e = cc
of_equal Equal e = refl
of_equal Greater e = cc

own : (r : Ordering) → r ≡ ordering_reverse r → is_eq r ≡ true
own Less e = cc
own Equal e = refl
own Greater e = cc

above_reversed : (a : Ordering) → is_lt a ≡ false → is_eq a ≡ false → ordering_reverse a ≡ Less
above_reversed Less p q = cc
above_reversed Equal p q = cc
above_reversed Greater p q = refl

less_from : (a : Ordering) → (is_lt a ≡ false → ⊥) → a ≡ Less
less_from Less h = refl
less_from Equal h = absurd (h refl)
less_from Greater h = absurd (h refl)

module _ {X : Type 0} {R : X → X → Ordering} (o : IsTotalOrder R) {E : X → X → Bool} (equal : (x y : X) → E x y ≡ eq_by_cmp R x y) where
  -- what ties is equal
  ties_equal : (x y : X) → ties (λ a b. is_lt (R a b)) x y ≡ E x y
  ties_equal x y = ap (λ r. not (is_lt (R x y)) && not (is_lt r)) (o.antisymm y x) ∙ tied (R x y) ∙ sym (equal x y)

  -- a list that a stable sort gives has the same first ones
  first_given : (given sorted : List X) → IsStable R given sorted → (x : X) → find (E x) given ≡ find (E x) sorted
  first_given given sorted stable x =
      find_filter (E x) given
      ∙ ap first_of (sym (filter_agree (ties (λ a b. is_lt (R a b)) x) (E x) (ties_equal x) given) ∙ sym (stable x) ∙ filter_agree (ties (λ a b. is_lt (R a b)) x) (E x) (ties_equal x) sorted)
      ∙ sym (find_filter (E x) sorted)

  itself : (x : X) → E x x ≡ true
  itself x = equal x x ∙ own (R x x) (o.antisymm x x)

  -- what equals one of two equal ones equals the other
  alike : (x y l : X) → E x y ≡ true → E l x ≡ E l y
  alike x y l e =
      equal l x ∙ ap is_eq (o.antisymm l x) ∙ turned (R x l) ∙ ap is_eq (o.congr x y l (of_equal (R x y) (sym (equal x y) ∙ e)))
      ∙ sym (ap is_eq (o.antisymm l y) ∙ turned (R y l)) ∙ sym (equal l y)

  apart : (k l : X) → R k l ≡ Less → E l k ≡ false
  apart k l less = equal l k ∙ ap is_eq (o.antisymm l k ∙ ap ordering_reverse less)

  -- l is the first of the list that equals it
  abbrev IsFirst : List X → X → Type 0
  IsFirst xs l = find (E l) xs ≡ Some l

  skipped : (k x l : X) (xs : List X) (b : Bool) → E l x ≡ b → cond b (Some k) (find (E l) xs) ≡ Some l
      → cond b (Some k) (cond (E l x) (Some x) (find (E l) xs)) ≡ Some l
  skipped k x l xs true f h = h
  skipped k x l xs false f h = ap (λ b. cond b (Some x) (find (E l) xs)) f ∙ h

  past : (k x l : X) (xs : List X) → E x k ≡ true → IsFirst (k ∷ xs) l → IsFirst (k ∷ x ∷ xs) l
  past k x l xs e h = skipped k x l xs (E l k) (alike x k l e) h

  below_next : (k x y : X) → R k x ≡ Less → is_lt (R y x) ≡ false → R k y ≡ Less
  below_next k x y l n = less_from (R k y) (λ f. true≢false (ap is_lt (sym l) ∙ (ranks_by o (λ a. a)).chain k y x f n))

  retained_from : (k : X) (xs : List X) → All (λ y. is_lt (R y k) ≡ false) xs → AllPairs (λ a b. is_lt (R b a) ≡ false) xs → All (IsFirst (k ∷ xs)) (dedup_from E k xs)
  retained_from k [] above up = All-cons (IsFirst (k ∷ [])) k [] (ap (λ b. cond b (Some k) None) (itself k)) (All-nil (IsFirst (k ∷ [])))
  retained_from k (x ∷ xs) above up =
      let rest : AllPairs (λ a b. is_lt (R b a) ≡ false) xs = λ i j d below inside. up (suc i) (suc j) d (omega arith) (omega arith) in
      let from_x : All (λ y. is_lt (R y x) ≡ false) xs = λ j d inside. up zero (suc j) d (omega arith) (omega arith) in
      let low = All-head (λ y. is_lt (R y k) ≡ false) x xs above in
      cond_both (E x k) (dedup_from E k xs) (k ∷ dedup_from E x xs) (All (IsFirst (k ∷ x ∷ xs)))
      (λ e.
      let retained = retained_from k xs (All-tail (λ y. is_lt (R y k) ≡ false) x xs above) rest in
      λ i d inside. past k x (get_or (dedup_from E k xs) i d) xs e (retained i d inside))
      (λ f.
      let first : R k x ≡ Less = o.antisymm k x ∙ above_reversed (R x k) low (sym (equal x k) ∙ f) in
      let all : All (λ y. R k y ≡ Less) (dedup_from E x xs) =
      All-dedup E (λ y. R k y ≡ Less) (x ∷ xs) (All-cons (λ y. R k y ≡ Less) x xs first (λ j d inside. below_next k x (get_or xs j d) first (from_x j d inside))) in
      let retained = retained_from x xs from_x rest in
      All-cons (IsFirst (k ∷ x ∷ xs)) k (dedup_from E x xs) (ap (λ b. cond b (Some k) (find (E k) (x ∷ xs))) (itself k))
      (λ i d inside. ap (λ b. cond b (Some k) (find (E (get_or (dedup_from E x xs) i d)) (x ∷ xs))) (apart k (get_or (dedup_from E x xs) i d) (all i d inside)) ∙ retained i d inside))

  -- what `dedup` holds of a sorted list are the first ones of what was given
  pub firsts_retained : (given sorted : List X) → IsSorted R sorted → IsStable R given sorted → All (λ l. find (E l) given ≡ Some l) (dedup E sorted)
  firsts_retained given [] up stable = All-nil (IsFirst given)
  firsts_retained given (x ∷ xs) up stable =
      let far : AllPairs (λ a b. is_lt (R b a) ≡ false) (x ∷ xs) = λ i j d below inside. sorted_far _ (ranks_by o (λ a. a)) (x ∷ xs) up i j d (omega arith) inside in
      let retained = retained_from x xs (λ j d inside. far zero (suc j) d (omega arith) (omega arith)) (λ i j d below inside. far (suc i) (suc j) d (omega arith) (omega arith)) in
      λ i d inside. first_given given (x ∷ xs) stable (get_or (dedup_from E x xs) i d) ∙ retained i d inside
