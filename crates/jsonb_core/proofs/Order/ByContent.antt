-- The order that is computed is the order written out.
use Rattle.std.proofs.Common.{◌≡◌, inl, inr, ◌↔◌, ℕ, zero, suc, ◌<◌, ◌<ℤ◌, List, [], ◌∷◌, Ordering, Less, Equal, Greater, refl, sym, ap, ◌∙◌, subst, arith, nat_cmp, slice_get}
use Rattle.std.specs.Cmp.{int_ranks, int_cmp_is, ranks, nat_cmp_is, tied_itself}
use Rattle.std.specs.Cmp.Lexicographic.{slice_cmp, nat_list_cmp_total}
use Rattle.std.specs.Ordering.{int_cmp, ordering_then, MatchOrdering}
use Rattle.jsonb_spec.specs.Order.{bytes_cmp, rank, tree_cmp, Below, Same}
use Rattle.jsonb_spec.specs.Order.ByContent.{SameAt, BelowAt, SameByIndex, BelowByIndex, BelowBytes, BelowPair, SamePair, items_of, pairs_of, whole_at_scale, AsLists, IsByContent}
use Rattle.jsonb_core.specs.Order.Laws.{trees_cmp-list, members_cmp-list, entry_cmp, then_equal, tree_cmp-parts}
use Rattle.jsonb_spec.specs.Tree.{Tree, string, array, object, binary, date, timestamp, timestamp_tz, interval}

-- an answer of `cmp` at two values says what relation holds between them
pub record Decides {X : Type 0} (R : X → X → Ordering) (below same : X → X → Type 0) : Type 0 where
  pub is_below : (x y : X) → (R x y ≡ Less) ↔ below x y
  pub is_same : (x y : X) → (R x y ≡ Equal) ↔ same x y

int_decides : Decides int_cmp ◌<ℤ◌ ◌≡◌
int_decides = record {
  is_below = λ x y. (λ e. subst (λ r. MatchOrdering r (x <ℤ y) (x ≡ y) (y <ℤ x)) e (int_ranks x y), λ h. sym (int_cmp_is x y Less h));
  is_same = λ x y. (λ e. subst (λ r. MatchOrdering r (x <ℤ y) (x ≡ y) (y <ℤ x)) e (int_ranks x y), λ h. sym (int_cmp_is x y Equal h));
}

nat_decides : Decides nat_cmp ◌<◌ ◌≡◌
nat_decides = record {
  is_below = λ x y. (λ e. subst (λ r. MatchOrdering r (x < y) (x ≡ y) (y < x)) e (ranks x y), λ h. sym (nat_cmp_is x y Less h));
  is_same = λ x y. (λ e. subst (λ r. MatchOrdering r (x < y) (x ≡ y) (y < x)) e (ranks x y), λ h. sym (nat_cmp_is x y Equal h));
}

pub both_tie : (r s : Ordering) → ordering_then r s ≡ Equal → (r ≡ Equal) × (s ≡ Equal)
both_tie Less s e = cc e
both_tie Equal s e = (refl, e)
both_tie Greater s e = cc e

first_below : (r s : Ordering) → r ≡ Less → ordering_then r s ≡ Less
first_below Less s e = refl
first_below Equal s e = cc e
first_below Greater s e = cc e

module _ {X : Type 0} (R : X → X → Ordering) (below same : X → X → Type 0) (d : Decides R below same) where
  -- one more item before
  later : (x y : X) (xs ys : List X) → same x y → BelowByIndex below same xs ys → BelowByIndex below same (x ∷ xs) (y ∷ ys)
  later x y xs ys e b = record { index = suc b.index; before = before; here = b.here }
    where
      before : (i : ℕ) → i < suc b.index → SameAt same (slice_get (x ∷ xs) i) (slice_get (y ∷ ys) i)
      before zero h = e
      before (suc i) h = b.before i (omega arith)

  by_first : (x y : X) (xs ys : List X) (r : Ordering) → R x y ≡ r → (slice_cmp R xs ys ≡ Less → BelowByIndex below same xs ys) → ordering_then r (slice_cmp R xs ys) ≡ Less → BelowByIndex below same (x ∷ xs) (y ∷ ys)
  by_first x y xs ys Less e more l = record { index = 0; before = λ i h. absurd (omega arith); here = (d.is_below x y).0 e }
  by_first x y xs ys Equal e more l = later x y xs ys ((d.is_same x y).0 e) (more l)
  by_first x y xs ys Greater e more l = cc l

  below_to : (xs ys : List X) → slice_cmp R xs ys ≡ Less → BelowByIndex below same xs ys
  below_to [] [] l = cc l
  below_to [] (y ∷ ys) l = record { index = 0; before = λ i h. absurd (omega arith); here = tt }
  below_to (x ∷ xs) [] l = cc l
  below_to (x ∷ xs) (y ∷ ys) l = by_first x y xs ys (R x y) refl (below_to xs ys) l

  below_from_index : (n : ℕ) (xs ys : List X) → ((i : ℕ) → i < n → SameAt same (slice_get xs i) (slice_get ys i)) → BelowAt below (slice_get xs n) (slice_get ys n) → slice_cmp R xs ys ≡ Less
  below_from_index zero [] [] before here = absurd here
  below_from_index zero [] (y ∷ ys) before here = refl
  below_from_index zero (x ∷ xs) [] before here = absurd here
  below_from_index zero (x ∷ xs) (y ∷ ys) before here = ap (λ r. ordering_then r (slice_cmp R xs ys)) ((d.is_below x y).1 here)
  below_from_index (suc n) [] [] before here = absurd here
  below_from_index (suc n) [] (y ∷ ys) before here = absurd (before 0 (omega arith))
  below_from_index (suc n) (x ∷ xs) [] before here = absurd here
  below_from_index (suc n) (x ∷ xs) (y ∷ ys) before here =
      ap (λ r. ordering_then r (slice_cmp R xs ys)) ((d.is_same x y).1 (before 0 (omega arith))) ∙ below_from_index n xs ys (λ i h. before (suc i) (omega arith)) here

  same_to : (xs ys : List X) → slice_cmp R xs ys ≡ Equal → SameByIndex same xs ys
  same_to [] [] e i = tt
  same_to [] (y ∷ ys) e i = cc e
  same_to (x ∷ xs) [] e i = cc e
  same_to (x ∷ xs) (y ∷ ys) e zero = (d.is_same x y).0 (both_tie (R x y) (slice_cmp R xs ys) e).0
  same_to (x ∷ xs) (y ∷ ys) e (suc i) = same_to xs ys (both_tie (R x y) (slice_cmp R xs ys) e).1 i

  same_from : (xs ys : List X) → SameByIndex same xs ys → slice_cmp R xs ys ≡ Equal
  same_from [] [] h = refl
  same_from [] (y ∷ ys) h = absurd (h 0)
  same_from (x ∷ xs) [] h = absurd (h 0)
  same_from (x ∷ xs) (y ∷ ys) h = ap (λ r. ordering_then r (slice_cmp R xs ys)) ((d.is_same x y).1 (h 0)) ∙ same_from xs ys (λ i. h (suc i))

  pub lists_decide : Decides (slice_cmp R) (BelowByIndex below same) (SameByIndex same)
  lists_decide = record {
    is_below = λ xs ys. (below_to xs ys, λ b. below_from_index b.index xs ys b.before b.here);
    is_same = λ xs ys. (same_to xs ys, same_from xs ys);
  }

bytes_decide : Decides bytes_cmp BelowBytes (SameByIndex ◌≡◌)
bytes_decide = lists_decide nat_cmp ◌<◌ ◌≡◌ nat_decides

-- bytes that agree at each index are the same bytes
all_indexes : (xs ys : List ℕ) → SameByIndex ◌≡◌ xs ys → xs ≡ ys
all_indexes [] [] h = refl
all_indexes [] (y ∷ ys) h = absurd (h 0)
all_indexes (x ∷ xs) [] h = absurd (h 0)
all_indexes (x ∷ xs) (y ∷ ys) h = λ i. h 0 i ∷ all_indexes xs ys (λ i. h (suc i)) i

pub same_bytes : (k l : List ℕ) → (bytes_cmp k l ≡ Equal) ↔ (k ≡ l)
same_bytes k l = (λ e. all_indexes k l ((bytes_decide.is_same k l).0 e), λ e. ap (bytes_cmp k) (sym e) ∙ tied_itself nat_list_cmp_total k)

-- what a comparison of keys and then of trees says
pair_below : (k l : List ℕ) (t u : Tree) (r : Ordering) → bytes_cmp k l ≡ r → ordering_then r (tree_cmp t u) ≡ Less → BelowPair Below (k, t) (l, u)
pair_below k l t u Less e h = inl ((bytes_decide.is_below k l).0 e)
pair_below k l t u Equal e h = inr ((same_bytes k l).0 e, h)
pair_below k l t u Greater e h = cc h

pair_same : (k l : List ℕ) (t u : Tree) (r : Ordering) → bytes_cmp k l ≡ r → ordering_then r (tree_cmp t u) ≡ Equal → SamePair Same (k, t) (l, u)
pair_same k l t u Less e h = cc h
pair_same k l t u Equal e h = ((same_bytes k l).0 e, h)
pair_same k l t u Greater e h = cc h

below_pair : (k l : List ℕ) (t u : Tree) → BelowPair Below (k, t) (l, u) → entry_cmp (k, t) (l, u) ≡ Less
below_pair k l t u (inl b) = ap (λ r. ordering_then r (tree_cmp t u)) ((bytes_decide.is_below k l).1 b)
below_pair k l t u (inr b) = ap (λ r. ordering_then r (tree_cmp t u)) ((same_bytes k l).1 b.0) ∙ b.1

pairs_decide : Decides entry_cmp (BelowPair Below) (SamePair Same)
pairs_decide = record {
  is_below = λ p q. (pair_below p.0 q.0 p.1 q.1 (bytes_cmp p.0 q.0) refl, below_pair p.0 q.0 p.1 q.1);
  is_same = λ p q. (pair_same p.0 q.0 p.1 q.1 (bytes_cmp p.0 q.0) refl, λ h. ap (λ r. ordering_then r (tree_cmp p.1 q.1)) ((same_bytes p.0 q.0).1 h.0) ∙ h.1);
}

trees_decide : Decides tree_cmp Below Same
trees_decide = record { is_below = λ t u. (λ h. h, λ h. h); is_same = λ t u. (λ h. h, λ h. h) }

-- two trees whose comparison is that of lists
as_lists : {X : Type 0} {R : X → X → Ordering} {below same : X → X → Type 0} (t u : Tree) (xs ys : List X) → Decides R below same → tree_cmp t u ≡ slice_cmp R xs ys → AsLists Below Same t u below same xs ys
as_lists {X} {R} {below} {same} t u xs ys d e =
    let lists = lists_decide R below same d in
    ((λ h. (lists.is_below xs ys).0 (sym e ∙ h), λ b. e ∙ (lists.is_below xs ys).1 b), (λ h. (lists.is_same xs ys).0 (sym e ∙ h), λ b. e ∙ (lists.is_same xs ys).1 b))

-- trees that are the same are of one kind, and the kinds' ranks come first
one_kind : (t u : Tree) → Same t u → rank t ≡ rank u
one_kind t u e = (nat_decides.is_same (rank t) (rank u)).0 (both_tie (nat_cmp (rank t) (rank u)) _ (sym (tree_cmp-parts t u) ∙ e)).0

kinds : (t u : Tree) → rank t < rank u → Below t u
kinds t u h = tree_cmp-parts t u ∙ first_below (nat_cmp (rank t) (rank u)) _ ((nat_decides.is_below (rank t) (rank u)).1 h)

pub by_content : IsByContent Below Same
by_content = record {
  kinds = kinds;
  one_kind = one_kind;
  booleans = refl;
  numbers = λ m n. (int_decides.is_below (whole_at_scale m n) (whole_at_scale n m), int_decides.is_same (whole_at_scale m n) (whole_at_scale n m));
  strings = λ k l s t. as_lists (string k s) (string l t) s t nat_decides refl;
  binaries = λ b c. as_lists (binary b) (binary c) b c nat_decides refl;
  dates = λ d e. as_lists (date d) (date e) (d ∷ []) (e ∷ []) int_decides (sym (then_equal (int_cmp d e)));
  timestamps = λ t u. as_lists (timestamp t) (timestamp u) (t ∷ []) (u ∷ []) int_decides (sym (then_equal (int_cmp t u)));
  zoned = λ o p t u. as_lists (timestamp_tz o t) (timestamp_tz p u) (o ∷ t ∷ []) (p ∷ u ∷ []) int_decides (ap (ordering_then (int_cmp o p)) (sym (then_equal (int_cmp t u))));
  intervals = λ m n d e t u. as_lists (interval m d t) (interval n e u) (m ∷ d ∷ t ∷ []) (n ∷ e ∷ u ∷ []) int_decides
      (ap (λ r. ordering_then (int_cmp m n) (ordering_then (int_cmp d e) r)) (sym (then_equal (int_cmp t u))));
  arrays = λ ts us. as_lists (array ts) (array us) (items_of ts) (items_of us) trees_decide (trees_cmp-list ts us);
  objects = λ ms ns. as_lists (object ms) (object ns) (pairs_of ms) (pairs_of ns) pairs_decide (members_cmp-list ms ns);
}
