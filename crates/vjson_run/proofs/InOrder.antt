-- One text more, in order or out of order.
use Rattle.std.proofs.Common.{◌≡◌, inl, inr, ℕ, ◌+◌, ◌<◌, Bool, true, false, not, List, [], ◌∷◌, ◌++◌, Option, None, Some, Vec, length, get_or, Ordering, Less, Equal, Greater, is_lt, refl, sym, ap, subst, ◌∙◌, arith, append_assoc, ⊎_elim}
use Rattle.std.proofs.lemmas.Bool.{cases_eq}
use Rattle.std.proofs.lemmas.Cmp.{nat_list_cmp_total}
use Rattle.std.proofs.lemmas.List.{get_or_append_left, get_or_push, length_push}
use Rattle.std.specs.List.{AllByRecursion, AllZip}
use Rattle.std.specs.List.Sorted.{IsSorted, IsStrictlySortedBy}
use Rattle.std.specs.Ordering.{is_le, ordering_reverse}
use Rattle.std.specs.declared.alloc.Global.{Global}
use Rattle.vjson_text.specs.Texts.{IsNoTextOf}
use Rattle.vjson_run.proofs.Lists.{any_before, any_last, zipped_more}
use Rattle.vjson_run.specs.Keys.{IsKeyOf}
use Rattle.jsonb_spec.specs.Program.InOrder.{key_order, Ascend, may_follow}
use Rattle.vjson_run.specs.InOrder.{AreOutOfOrder, AreInOrder, AreInOrderSoFar, is_wrong}
use Rattle.vjson_run.specs.declared.options.Options.{Options}

-- ---- keys

module _ {K : Type 0} (P : K → Type 0) where
  all_push : (xs : List K) (y : K) → AllByRecursion P xs → P y → AllByRecursion P (xs ++ y ∷ [])
  all_push [] y all one = (one, tt)
  all_push (x ∷ xs) y all one = (all.0, all_push xs y all.1 one)

  all_last : (xs : List K) (y : K) → AllByRecursion P (xs ++ y ∷ []) → P y
  all_last [] y all = all.0
  all_last (x ∷ xs) y all = all_last xs y all.1

module _ {K : Type 0} (R : K → K → Ordering) where
  -- a key that is behind the last one is behind all
  strict_push : ((x y z : K) → R x y ≡ Less → R y z ≡ Less → R x z ≡ Less) → (front : List K) (k l : K) → IsStrictlySortedBy R (front ++ k ∷ []) → R k l ≡ Less → IsStrictlySortedBy R ((front ++ k ∷ []) ++ l ∷ [])
  unfolding IsStrictlySortedBy
  strict_push trans [] k l up less = ((less, tt), (tt, tt))
  strict_push trans (x ∷ front) k l up less = (
    all_push (λ y. R x y ≡ Less) (front ++ k ∷ []) l up.0 (trans x k l (all_last (λ y. R x y ≡ Less) front k up.0) less),
    strict_push trans front k l up.1 less,
  )

  sorted_push : (front : List K) (k l : K) → IsSorted R (front ++ k ∷ []) → is_lt (R l k) ≡ false → IsSorted R ((front ++ k ∷ []) ++ l ∷ [])
  sorted_push front k l up above i d low within =
      let xs = front ++ k ∷ [] in
      let long : length (xs ++ l ∷ []) ≡ length xs + 1 = length_push xs l in
      let size : length xs ≡ length front + 1 = length_push front k in
      ⊎_elim
      (λ (last : i ≡ length front).
      ap (λ y. is_lt (R y (get_or (xs ++ l ∷ []) i d))) (get_or_push xs l d (i + 1) (omega (arith, size, last)))
      ∙ ap (λ x. is_lt (R l x)) (get_or_append_left xs (l ∷ []) d i (omega (arith, size, last)) ∙ get_or_push front k d i (sym last))
      ∙ above)
      (λ (other : i ≡ length front → ⊥).
      let inside : i + 1 < length xs = omega (arith, long, size, within, other) in
      ap (λ y. is_lt (R y (get_or (xs ++ l ∷ []) i d))) (get_or_append_left xs (l ∷ []) d (i + 1) inside)
      ∙ ap (λ x. is_lt (R (get_or xs (i + 1) d) x)) (get_or_append_left xs (l ∷ []) d i (omega (arith, inside)))
      ∙ up i d low inside)
      (cases_eq i (length front))

reversed_le : (o : Ordering) → is_le o ≡ true → is_lt (ordering_reverse o) ≡ false
reversed_le Less h = refl
reversed_le Equal h = refl
reversed_le Greater h = cc

is_less : (o : Ordering) → is_lt o ≡ true → o ≡ Less
is_less Less h = refl
is_less Equal h = cc
is_less Greater h = cc

pub turned : (down : Bool) (x y : List ℕ) → key_order down y x ≡ ordering_reverse (key_order down x y)
turned false x y = nat_list_cmp_total.antisymm y x
turned true x y = nat_list_cmp_total.antisymm x y

onward : (down : Bool) (x y z : List ℕ) → key_order down x y ≡ Less → key_order down y z ≡ Less → key_order down x z ≡ Less
onward false x y z first second = nat_list_cmp_total.trans x y z first second
onward true x y z first second = nat_list_cmp_total.trans z y x second first

-- a key that may follow the last one
ascend_more : (down unique : Bool) (front : List (List ℕ)) (k l : List ℕ) → Ascend down unique (front ++ k ∷ []) → may_follow down unique k l ≡ true → Ascend down unique ((front ++ k ∷ []) ++ l ∷ [])
ascend_more down false front k l up follows = sorted_push (key_order down) front k l up (ap is_lt (turned down k l) ∙ reversed_le (key_order down k l) follows)
ascend_more down true front k l up follows = strict_push (key_order down) (onward down) front k l up (is_less (key_order down k l) follows)

ascend_one : (down unique : Bool) (key : List ℕ) → Ascend down unique (key ∷ [])
unfolding IsStrictlySortedBy
ascend_one down false key = λ i d low within. absurd (omega (arith, within))
ascend_one down true key = (tt, tt)

ascend_none : (down unique : Bool) → Ascend down unique []
unfolding IsStrictlySortedBy
ascend_none down false = λ i d low within. absurd (omega (arith, within))
ascend_none down true = tt

-- ---- texts

-- of lists of which the second has a last element the first has one too
record ZippedLast {A B : Type 0} (R : A → B → Type 0) (xs : List A) (y : B) : Type 0 where
  front : List A
  last : A
  split : xs ≡ front ++ last ∷ []
  is : R last y

zipped_last : {A B : Type 0} (R : A → B → Type 0) (xs : List A) (ys : List B) (y : B) → AllZip R xs (ys ++ y ∷ []) → ZippedLast R xs y
zipped_last R [] [] y all = absurd all
zipped_last R [] (b ∷ ys) y all = absurd all
zipped_last R (a ∷ []) [] y all = record { front = []; last = a; split = refl; is = all.0 }
zipped_last R (a ∷ c ∷ xs) [] y all = absurd all.1
zipped_last R (a ∷ xs) (b ∷ ys) y all =
    let rest = zipped_last R xs ys y all.1 in
    record { front = a ∷ rest.front; last = rest.last; split = ap (λ l. a ∷ l) rest.split; is = rest.is }

out_of_order_more : (o : Options) (texts more : List (List ℕ)) → AreOutOfOrder o texts → AreOutOfOrder o (texts ++ more)
out_of_order_more o texts more h = record {
  front = h.front;
  first = h.first;
  second = h.second;
  back = h.back ++ more;
  split = ap (λ l. l ++ more) h.split ∙ append_assoc h.front (h.first ∷ h.second ∷ h.back) more;
  first_key = h.first_key;
  second_key = h.second_key;
  is_first = h.is_first;
  is_second = h.is_second;
  wrong = h.wrong;
}

-- what is out of order stays so
pub disordered_more : (o : Options) (texts more : List (List ℕ)) → AreInOrder o texts false → AreInOrder o (texts ++ more) false
disordered_more o texts more (inl none) = inl (any_before (IsNoTextOf o.grammar) texts more none)
disordered_more o texts more (inr wrong) = inr (out_of_order_more o texts more wrong)

-- a text that is none
pub rejected_order : (o : Options) (texts : List (List ℕ)) (text : List ℕ) → IsNoTextOf o.grammar text → AreInOrder o (texts ++ text ∷ []) false
rejected_order o texts text none = inl (any_last (IsNoTextOf o.grammar) texts text none)

not_true : (b : Bool) → not b ≡ false → b ≡ true
not_true true h = refl
not_true false h = cc

not_false : (b : Bool) → not b ≡ true → b ≡ false
not_false true h = cc
not_false false h = refl

-- a text more that is in order
pub in_order_more : (o : Options) (texts : List (List ℕ)) (text : List ℕ) (last : Option (Vec ℕ Global)) (key : Vec ℕ Global) (good : Bool) → IsKeyOf o text key.items → is_wrong o last key.items ≡ false
    → AreInOrderSoFar o texts last good → AreInOrderSoFar o (texts ++ text ∷ []) (Some key) good
in_order_more o texts text last key false is fine h = disordered_more o texts (text ∷ []) h
in_order_more o texts text None key true is fine h =
    record { front = []; keys = subst (λ l. AllZip (IsKeyOf o) (l ++ text ∷ []) (key.items ∷ [])) (sym h) (is, tt); ascend = ascend_one o.reverse o.unique key.items }
in_order_more o texts text (Some before) key true is fine h = record {
  front = h.front ++ before.items ∷ [];
  keys = zipped_more (IsKeyOf o) texts (h.front ++ before.items ∷ []) text key.items h.keys is;
  ascend = ascend_more o.reverse o.unique h.front before.items key.items h.ascend (not_true (may_follow o.reverse o.unique before.items key.items) fine);
}

-- one that is out of order
pub out_of_order : (o : Options) (texts : List (List ℕ)) (text : List ℕ) (last : Option (Vec ℕ Global)) (key : List ℕ) (good : Bool) → IsKeyOf o text key → is_wrong o last key ≡ true
    → AreInOrderSoFar o texts last good → AreInOrder o (texts ++ text ∷ []) false
out_of_order o texts text last key false is wrong h = disordered_more o texts (text ∷ []) h
out_of_order o texts text None key true is wrong h = cc
out_of_order o texts text (Some before) key true is wrong h =
    let z = zipped_last (IsKeyOf o) texts h.front before.items h.keys in
    inr (record {
      front = z.front;
      first = z.last;
      second = text;
      back = [];
      split = ap (λ l. l ++ text ∷ []) z.split ∙ append_assoc z.front (z.last ∷ []) (text ∷ []);
      first_key = before.items;
      second_key = key;
      is_first = z.is;
      is_second = is;
      wrong = not_false (may_follow o.reverse o.unique before.items key) wrong;
    })

-- what was found of the texts so far, once they are all
pub order_done : (o : Options) (texts : List (List ℕ)) (last : Option (Vec ℕ Global)) (good : Bool) → AreInOrderSoFar o texts last good → AreInOrder o texts good
order_done o texts last false h = h
order_done o texts None true h = ([], subst (λ l. AllZip (IsKeyOf o) l []) (sym h) tt, ascend_none o.reverse o.unique)
order_done o texts (Some key) true h = (h.front ++ key.items ∷ [], h.keys, h.ascend)
