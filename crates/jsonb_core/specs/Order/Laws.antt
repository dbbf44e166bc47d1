-- The order of trees is total. The laws of `Ord` cite this.
use Rattle.std.proofs.Common.{◌≡◌, ℕ, ℤ, pos, List, [], ◌∷◌, Bool, true, false, refl, sym, ap, ◌∙◌, ◌⊎◌, inl, inr}
use Rattle.std.specs.Ordering.{nat_cmp, int_cmp, bool_cmp, ordering_reverse, ordering_then, on, then_cmp}
use Rattle.std.specs.declared.cmp.Ordering.{Ordering}
use Rattle.std.specs.declared.cmp.Ordering.TheVariants.{Less, Equal, Greater}
use Rattle.std.specs.Cmp.{IsTotalOrder, alike_right, tied_itself, tied_back, nat_cmp_total, int_cmp_total}
use Rattle.std.specs.Cmp.Lexicographic.{slice_cmp, lists_total, nat_list_cmp_total}
use Rattle.jsonb_core.specs.Order.NumberLaws.{num_cmp_total}
use Rattle.jsonb_spec.specs.Order.{num_cmp, bytes_cmp, rank, tree_cmp, trees_cmp, members_cmp, Below, Same, IsOneOrder}
use Rattle.jsonb_spec.specs.Order.ByContent.{items_of, pairs_of}
use Rattle.jsonb_spec.specs.Tree.{Num, int64, Tree, null, boolean, number, string, array, object, binary, date, timestamp, timestamp_tz, interval, Trees, no_trees, more_trees, Members, no_members, more_members}

-- the laws of an order where its first value is x. So a law of trees goes by induction on one tree
record IsTotalAt {K : Type 0} (R : K → K → Ordering) (x : K) : Type 0 where
  antisymm : (y : K) → R x y ≡ ordering_reverse (R y x)
  trans : (y z : K) → R x y ≡ Less → R y z ≡ Less → R x z ≡ Less
  congr : (y z : K) → R x y ≡ Equal → R x z ≡ R y z
  congr_right : (y z : K) → R y z ≡ Equal → R x y ≡ R x z

module _ {K : Type 0} {R : K → K → Ordering} where
  at_each : IsTotalOrder R → (x : K) → IsTotalAt R x
  at_each o x = record {
    antisymm = o.antisymm x;
    trans = o.trans x;
    congr = o.congr x;
    congr_right = λ y z e. alike_right o y z x e;
  }

  from_each : ((x : K) → IsTotalAt R x) → IsTotalOrder R
  from_each a = record { antisymm = λ x. (a x).antisymm; trans = λ x. (a x).trans; congr = λ x. (a x).congr }

on_at : {K J : Type 0} (f : K → J) {R : J → J → Ordering} (x : K) → IsTotalAt R (f x) → IsTotalAt (on f R) x
on_at f x a = record {
  antisymm = λ y. a.antisymm (f y);
  trans = λ y z. a.trans (f y) (f z);
  congr = λ y z. a.congr (f y) (f z);
  congr_right = λ y z. a.congr_right (f y) (f z);
}

-- the same answers, the same laws
alike_at : {K : Type 0} {R S : K → K → Ordering} (x : K) → ((y z : K) → S y z ≡ R y z) → IsTotalAt R x → IsTotalAt S x
alike_at x e a = record {
  antisymm = λ y. e x y ∙ a.antisymm y ∙ sym (ap ordering_reverse (e y x));
  trans = λ y z p q. e x z ∙ a.trans y z (sym (e x y) ∙ p) (sym (e y z) ∙ q);
  congr = λ y z p. e x z ∙ a.congr y z (sym (e x y) ∙ p) ∙ sym (e y z);
  congr_right = λ y z p. e x y ∙ a.congr_right y z (sym (e y z) ∙ p) ∙ sym (e x z);
}

-- ---- one comparison and then another

pub then_equal : (r : Ordering) → ordering_then r Equal ≡ r
then_equal Less = refl
then_equal Equal = refl
then_equal Greater = refl

first_ties : (r s : Ordering) → ordering_then r s ≡ Equal → r ≡ Equal
first_ties Less s e = cc e
first_ties Equal s e = refl
first_ties Greater s e = cc e

second_ties : (r s : Ordering) → ordering_then r s ≡ Equal → s ≡ Equal
second_ties Less s e = cc e
second_ties Equal s e = e
second_ties Greater s e = cc e

then-reverse : (r s : Ordering)
    → ordering_reverse (ordering_then r s) ≡ ordering_then (ordering_reverse r) (ordering_reverse s)
then-reverse Less s = refl
then-reverse Equal s = refl
then-reverse Greater s = refl

then_antisymm : (a b c d : Ordering) → a ≡ ordering_reverse b → c ≡ ordering_reverse d
    → ordering_then a c ≡ ordering_reverse (ordering_then b d)
then_antisymm a b c d p q = (λ i. ordering_then (p i) (q i)) ∙ sym (then-reverse b d)

then_congr : (a b c d e f : Ordering) → (a ≡ Equal → b ≡ c) → (d ≡ Equal → e ≡ f) → ordering_then a d ≡ Equal
    → ordering_then b e ≡ ordering_then c f
then_congr a b c d e f p q h = λ i. ordering_then (p (first_ties a d h) i) (q (second_ties a d h) i)

then_trans : (a b c d e f : Ordering) → (a ≡ Less → b ≡ Less → c ≡ Less) → (a ≡ Equal → c ≡ b) → (b ≡ Equal → a ≡ c)
    → (d ≡ Less → e ≡ Less → f ≡ Less)
    → ordering_then a d ≡ Less → ordering_then b e ≡ Less → ordering_then c f ≡ Less
then_trans Less Less c d e f t g h s p q = ap (λ r. ordering_then r f) (t refl refl)
then_trans Less Equal c d e f t g h s p q = ap (λ r. ordering_then r f) (sym (h refl))
then_trans Less Greater c d e f t g h s p q = cc q
then_trans Equal Less c d e f t g h s p q = ap (λ r. ordering_then r f) (g refl)
then_trans Equal Equal c d e f t g h s p q = ap (λ r. ordering_then r f) (g refl) ∙ s p q
then_trans Equal Greater c d e f t g h s p q = cc q
then_trans Greater b c d e f t g h s p q = cc p

then_at : {K : Type 0} {R S : K → K → Ordering} (x : K) → IsTotalAt R x → IsTotalAt S x → IsTotalAt (then_cmp R S) x
then_at {K} {R} {S} x a b = record {
  antisymm = λ y. then_antisymm (R x y) (R y x) (S x y) (S y x) (a.antisymm y) (b.antisymm y);
  trans = λ y z. then_trans (R x y) (R y z) (R x z) (S x y) (S y z) (S x z) (a.trans y z) (a.congr y z)
      (a.congr_right y z) (b.trans y z);
  congr = λ y z. then_congr (R x y) (R x z) (R y z) (S x y) (S x z) (S y z) (a.congr y z) (b.congr y z);
  congr_right =
      λ y z. then_congr (R y z) (R x y) (R x z) (S y z) (S x y) (S x z) (a.congr_right y z) (b.congr_right y z);
}

-- ---- lists

module _ {K : Type 0} (R : K → K → Ordering) where
  none_at : IsTotalAt (slice_cmp R) []
  none_at = record { antisymm = antisymm; trans = trans; congr = congr; congr_right = congr_right }
    where
      antisymm : (ys : List K) → slice_cmp R [] ys ≡ ordering_reverse (slice_cmp R ys [])
      antisymm [] = refl
      antisymm (y ∷ ys) = refl

      trans : (ys zs : List K) → slice_cmp R [] ys ≡ Less → slice_cmp R ys zs ≡ Less → slice_cmp R [] zs ≡ Less
      trans [] zs p q = q
      trans (y ∷ ys) [] p q = cc q
      trans (y ∷ ys) (z ∷ zs) p q = refl

      congr : (ys zs : List K) → slice_cmp R [] ys ≡ Equal → slice_cmp R [] zs ≡ slice_cmp R ys zs
      congr [] zs p = refl
      congr (y ∷ ys) zs p = cc p

      congr_right : (ys zs : List K) → slice_cmp R ys zs ≡ Equal → slice_cmp R [] ys ≡ slice_cmp R [] zs
      congr_right [] [] p = refl
      congr_right [] (z ∷ zs) p = cc p
      congr_right (y ∷ ys) [] p = cc p
      congr_right (y ∷ ys) (z ∷ zs) p = refl

  more_at : (x : K) (xs : List K) → IsTotalAt R x → IsTotalAt (slice_cmp R) xs → IsTotalAt (slice_cmp R) (x ∷ xs)
  more_at x xs a b = record { antisymm = antisymm; trans = trans; congr = congr; congr_right = congr_right }
    where
      antisymm : (ys : List K) → slice_cmp R (x ∷ xs) ys ≡ ordering_reverse (slice_cmp R ys (x ∷ xs))
      antisymm [] = refl
      antisymm (y ∷ ys) =
          then_antisymm (R x y) (R y x) (slice_cmp R xs ys) (slice_cmp R ys xs) (a.antisymm y) (b.antisymm ys)

      trans : (ys zs : List K) → slice_cmp R (x ∷ xs) ys ≡ Less → slice_cmp R ys zs ≡ Less
          → slice_cmp R (x ∷ xs) zs ≡ Less
      trans [] zs p q = cc p
      trans (y ∷ ys) [] p q = cc q
      trans (y ∷ ys) (z ∷ zs) p q =
          then_trans (R x y) (R y z) (R x z) (slice_cmp R xs ys) (slice_cmp R ys zs) (slice_cmp R xs zs) (a.trans y z)
          (a.congr y z) (a.congr_right y z) (b.trans ys zs) p q

      congr : (ys zs : List K) → slice_cmp R (x ∷ xs) ys ≡ Equal → slice_cmp R (x ∷ xs) zs ≡ slice_cmp R ys zs
      congr [] zs p = cc p
      congr (y ∷ ys) [] p = refl
      congr (y ∷ ys) (z ∷ zs) p =
          then_congr (R x y) (R x z) (R y z) (slice_cmp R xs ys) (slice_cmp R xs zs) (slice_cmp R ys zs) (a.congr y z)
          (b.congr ys zs) p

      congr_right : (ys zs : List K) → slice_cmp R ys zs ≡ Equal → slice_cmp R (x ∷ xs) ys ≡ slice_cmp R (x ∷ xs) zs
      congr_right [] [] p = refl
      congr_right [] (z ∷ zs) p = cc p
      congr_right (y ∷ ys) [] p = cc p
      congr_right (y ∷ ys) (z ∷ zs) p =
          then_congr (R y z) (R x y) (R x z) (slice_cmp R ys zs) (slice_cmp R xs ys) (slice_cmp R xs zs)
          (a.congr_right y z) (b.congr_right ys zs) p

pub trees_cmp-list : (ts us : Trees) → trees_cmp ts us ≡ slice_cmp tree_cmp (items_of ts) (items_of us)
trees_cmp-list no_trees no_trees = refl
trees_cmp-list no_trees (more_trees u us) = refl
trees_cmp-list (more_trees t ts) no_trees = refl
trees_cmp-list (more_trees t ts) (more_trees u us) = ap (ordering_then (tree_cmp t u)) (trees_cmp-list ts us)

abbrev pub entry_cmp : List ℕ × Tree → List ℕ × Tree → Ordering
entry_cmp = then_cmp (on (λ e. e.0) bytes_cmp) (on (λ e. e.1) tree_cmp)

then_assoc : (r s o : Ordering) → ordering_then r (ordering_then s o) ≡ ordering_then (ordering_then r s) o
then_assoc Less s o = refl
then_assoc Equal s o = refl
then_assoc Greater s o = refl

pub members_cmp-list : (ms ns : Members) → members_cmp ms ns ≡ slice_cmp entry_cmp (pairs_of ms) (pairs_of ns)
members_cmp-list no_members no_members = refl
members_cmp-list no_members (more_members l u ns) = refl
members_cmp-list (more_members k t ms) no_members = refl
members_cmp-list (more_members k t ms) (more_members l u ns) =
    then_assoc (bytes_cmp k l) (tree_cmp t u) (members_cmp ms ns) ∙ ap (ordering_then (entry_cmp (k, t) (l, u)))
    (members_cmp-list ms ns)

-- ---- trees, by their parts: the kind, and then what the kinds hold, where a tree that lacks a part has an empty one

pub bool_int : Bool → ℤ
bool_int false = pos 0
bool_int true = pos 1

abbrev pub ints_of : Tree → List ℤ
ints_of (date d) = d ∷ []
ints_of (timestamp t) = t ∷ []
ints_of (timestamp_tz o t) = o ∷ t ∷ []
ints_of (interval m d t) = m ∷ d ∷ t ∷ []
ints_of (boolean b) = bool_int b ∷ []
ints_of t = []

abbrev pub num_of : Tree → Num
num_of (number n) = n
num_of t = record { form = int64; scale = 0; whole = pos 0 }

abbrev pub bytes_of : Tree → List ℕ
bytes_of (binary b) = b
bytes_of (string k s) = s
bytes_of t = []

abbrev pub trees_in : Tree → Trees
trees_in (array ts) = ts
trees_in t = no_trees

abbrev pub members_in : Tree → Members
members_in (object ms) = ms
members_in t = no_members

abbrev pub parts_cmp : Tree → Tree → Ordering
parts_cmp =
    then_cmp (on rank nat_cmp)
    (then_cmp (on ints_of (slice_cmp int_cmp))
    (then_cmp (on num_of num_cmp)
    (then_cmp (on bytes_of bytes_cmp) (then_cmp (on trees_in trees_cmp) (on members_in members_cmp)))))

bools : (b c : Bool) → bool_cmp b c ≡ int_cmp (bool_int b) (bool_int c)
unfolding bool_int
bools false false = refl
bools false true = refl
bools true false = refl
bools true true = refl

pub tree_cmp-parts : (t u : Tree) → tree_cmp t u ≡ parts_cmp t u
tree_cmp-parts (binary b) (binary c) = sym (then_equal (bytes_cmp b c))
tree_cmp-parts (date d) (date e) = sym (then_equal _ ∙ then_equal (int_cmp d e))
tree_cmp-parts (timestamp t) (timestamp u) = sym (then_equal _ ∙ then_equal (int_cmp t u))
tree_cmp-parts (timestamp_tz o t) (timestamp_tz p u) =
    sym (then_equal _ ∙ ap (ordering_then (int_cmp o p)) (then_equal (int_cmp t u)))
tree_cmp-parts (interval m d t) (interval n e u) =
    sym (then_equal _ ∙ ap (λ r. ordering_then (int_cmp m n) (ordering_then (int_cmp d e) r))
    (then_equal (int_cmp t u)))
tree_cmp-parts (boolean b) (boolean c) = bools b c ∙ sym (then_equal _ ∙ then_equal _)
tree_cmp-parts (number m) (number n) = sym (then_equal (num_cmp m n))
tree_cmp-parts (string k s) (string l t) = sym (then_equal (bytes_cmp s t))
tree_cmp-parts (object ms) (object ns) = refl
tree_cmp-parts (array ts) (array us) = sym (then_equal (trees_cmp ts us))
tree_cmp-parts null null = refl
tree_cmp-parts t u = refl

tree_from : (t : Tree) → IsTotalAt trees_cmp (trees_in t) → IsTotalAt members_cmp (members_in t) → IsTotalAt tree_cmp t
tree_from t a b = alike_at t tree_cmp-parts
    (then_at t (on_at rank t (at_each nat_cmp_total (rank t)))
    (then_at t (on_at ints_of t (at_each (lists_total int_cmp_total) (ints_of t)))
    (then_at t (on_at num_of t (at_each num_cmp_total (num_of t)))
    (then_at t (on_at bytes_of t (at_each nat_list_cmp_total (bytes_of t)))
    (then_at t (on_at trees_in t a) (on_at members_in t b))))))

trees_from : (ts : Trees) → IsTotalAt (slice_cmp tree_cmp) (items_of ts) → IsTotalAt trees_cmp ts
trees_from ts a = alike_at ts trees_cmp-list (on_at items_of ts a)

members_from : (ms : Members) → IsTotalAt (slice_cmp entry_cmp) (pairs_of ms) → IsTotalAt members_cmp ms
members_from ms a = alike_at ms members_cmp-list (on_at pairs_of ms a)

no_trees_at : IsTotalAt trees_cmp no_trees
no_trees_at = trees_from no_trees (none_at tree_cmp)

no_members_at : IsTotalAt members_cmp no_members
no_members_at = members_from no_members (none_at entry_cmp)

entry_at : (k : List ℕ) (t : Tree) → IsTotalAt tree_cmp t → IsTotalAt entry_cmp (k, t)
entry_at k t a =
    let e : List ℕ × Tree = (k, t) in
    then_at e (on_at (λ (e : List ℕ × Tree). e.0) e (at_each nat_list_cmp_total k))
    (on_at (λ (e : List ℕ × Tree). e.1) e a)

mutual
  tree_at : (t : Tree) → IsTotalAt tree_cmp t
  tree_at null = tree_from null no_trees_at no_members_at
  tree_at (boolean b) = tree_from (boolean b) no_trees_at no_members_at
  tree_at (number n) = tree_from (number n) no_trees_at no_members_at
  tree_at (string k s) = tree_from (string k s) no_trees_at no_members_at
  tree_at (array ts) = tree_from (array ts) (trees_from ts (trees_at ts)) no_members_at
  tree_at (object ms) = tree_from (object ms) no_trees_at (members_from ms (members_at ms))
  tree_at (binary b) = tree_from (binary b) no_trees_at no_members_at
  tree_at (date d) = tree_from (date d) no_trees_at no_members_at
  tree_at (timestamp t) = tree_from (timestamp t) no_trees_at no_members_at
  tree_at (timestamp_tz o t) = tree_from (timestamp_tz o t) no_trees_at no_members_at
  tree_at (interval m d t) = tree_from (interval m d t) no_trees_at no_members_at

  trees_at : (ts : Trees) → IsTotalAt (slice_cmp tree_cmp) (items_of ts)
  trees_at no_trees = none_at tree_cmp
  trees_at (more_trees t ts) = more_at tree_cmp t (items_of ts) (tree_at t) (trees_at ts)

  members_at : (ms : Members) → IsTotalAt (slice_cmp entry_cmp) (pairs_of ms)
  members_at no_members = none_at entry_cmp
  members_at (more_members k t ms) = more_at entry_cmp (k, t) (pairs_of ms) (entry_at k t (tree_at t)) (members_at ms)

pub tree_cmp_total : IsTotalOrder tree_cmp
tree_cmp_total = from_each tree_at

-- ---- the same in words

module _ {X : Type 0} {R : X → X → Ordering} (o : IsTotalOrder R) where
  one_of_three : (x y : X) (r : Ordering) → R x y ≡ r → (R x y ≡ Less) ⊎ (R x y ≡ Equal) ⊎ (R y x ≡ Less)
  one_of_three x y Less e = inl e
  one_of_three x y Equal e = inr (inl e)
  one_of_three x y Greater e = inr (inr (o.antisymm y x ∙ ap ordering_reverse e))

  one_order : IsOneOrder (λ x y. R x y ≡ Less) (λ x y. R x y ≡ Equal)
  one_order = record {
    some_holds = λ x y. one_of_three x y (R x y) refl;
    below_alone =
        λ x y b. (
          λ s. let e : Less ≡ Equal = sym b ∙ s
              in cc,
          λ c. let e : Less ≡ Greater = sym b ∙ o.antisymm x y ∙ ap ordering_reverse c in cc,
        );
    below_trans = o.trans;
    same_refl = tied_itself o;
    same_symm = tied_back o;
    same_trans = λ x y z s u. o.congr x y z s ∙ u;
    same_below = λ x y z s b. o.congr x y z s ∙ b;
    below_same = λ x y z b s. sym (alike_right o y z x s) ∙ b;
  }

pub trees_one_order : IsOneOrder Below Same
trees_one_order = one_order tree_cmp_total
