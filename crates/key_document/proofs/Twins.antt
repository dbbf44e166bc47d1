-- Values with one key: they have one text with the fewest digits, and their counts by the bytes and by the numbers go together.
use Rattle.std.proofs.Common.{◌≡◌, ◌≢◌, ℕ, zero, suc, ◌+◌, ◌-◌, ◌*◌, ◌%◌, ◌^◌, ◌<◌, ◌⊎◌, inl, inr, Bool, true, false, List, [], ◌∷◌, ◌++◌, length, replicate, Ordering, Less, Equal, Greater, refl, sym, ap, ap₂, subst, ◌∙◌, arith, length-append, pow-suc}
use Rattle.std.specs.Prelude.{◌*ℤ◌, pos, unsigned_abs}
use Rattle.std.specs.Cmp.{tied_itself}
use Rattle.std.specs.Cmp.Lexicographic.{nat_list_cmp_total}
use Rattle.std.specs.FinMap.{int_cmp-IsAntisymmetric, nat_cmp-IsAntisymmetric}
use Rattle.std.specs.Ordering.{int_cmp, ordering_then}
use Rattle.std.proofs.lemmas.Bool.{cases_lt}
use Rattle.std.proofs.lemmas.Int.{unsigned_abs-mul}
use Rattle.std.proofs.lemmas.Map.Lookups.{exact_bytes}
use Rattle.std.proofs.lemmas.Nat.{pow-add}
use Rattle.key_value.proofs.FirstBytes.{no_pair}
use Rattle.jsonb_spec.specs.SortKey.Readable.{HasFewestDigits, IsAnyNumber}
use Rattle.jsonb_spec.specs.Order.{bytes_cmp, num_cmp, tree_cmp}
use Rattle.jsonb_spec.specs.Proper.{IsProper, AreProper, HaveProperParts, IsProperNumber}
use Rattle.jsonb_spec.specs.SortKey.{key_of, items_key, members_key, number_key, text_key}
use Rattle.jsonb_spec.specs.Text.NumberText.{number_text, text_of_parts}
use Rattle.jsonb_spec.specs.Text.Appending.{comma_before}
use Rattle.jsonb_spec.specs.Text.Range.{IsWithin, AreWithin, HaveWithin}
use Rattle.jsonb_spec.specs.Text.StringText.{quoted_text}
use Rattle.jsonb_spec.specs.Tree.{Mark, Num, Tree, null, boolean, string, number, array, object, Trees, no_trees, more_trees, Members, no_members, more_members}
use Rattle.jsonb_core.specs.Order.NumberLaws.{int_cmp-scaled}
use Rattle.jsonb_core.proofs.SortKeys.Comparing.{is_equal, nat_cmp-scaled}
use Rattle.jsonb_core.proofs.SortKeys.Kinds.{begins, is_small, number_begins}
use Rattle.jsonb_core.proofs.SortKeys.Texts.{text_compares}
use Rattle.jsonb_core.proofs.SortKeys.Trees.{keys_same, tree_compares}
use Rattle.jsonb_core.proofs.Trees.Runs.{heads, tails}
use Rattle.key_document.proofs.Agreeing.{same_back}
use Rattle.jsonb_spec.specs.Document.Counts.{counts_at, counts_at_items, counts_at_members}
use Rattle.jsonb_spec.specs.SortKey.FewestDigits.{fewest_digits, items_with_fewest_digits, members_with_fewest_digits, spare_zeros}
use Rattle.key_text.specs.Writes.{items_left, members_left, name_text}
use Rattle.jsonb_spec.specs.SortKey.Text.{value_text}
use Rattle.key_text.proofs.Spares.{fewest_has, fewest_key, fewest_proper}
use Rattle.key_text.proofs.Whole.{array_text, object_text}
use Rattle.jsonb_spec.specs.Document.Zeros.{counts_in, counts_in_items, counts_in_members}
use Rattle.jsonb_core.proofs.SortKeys.Digits.{ten}
use Rattle.key_value.proofs.Numbers.{cancel}

-- ---- counts that go together

pub split_same : (xs ys zs ws : List ℕ) → length xs ≡ length ys → xs ++ zs ≡ ys ++ ws → (xs ≡ ys) × (zs ≡ ws)
split_same [] [] zs ws l e = (refl, e)
split_same [] (y ∷ ys) zs ws l e = absurd (omega (arith, l))
split_same (x ∷ xs) [] zs ws l e = absurd (omega (arith, l))
split_same (x ∷ xs) (y ∷ ys) zs ws l e =
    let h = heads x y (xs ++ zs) (ys ++ ws) e in
    let t = split_same xs ys zs ws (omega (arith, l)) (tails x y (xs ++ zs) (ys ++ ws) e) in
    ((λ i. h i ∷ t.0 i), t.1)

-- Of two values: there are as many counts by the bytes, and as many by the numbers, and the same ones where the others are.
pub record Alike (a b c d : List ℕ) : Type 0 where
  pub long : length a ≡ length b
  pub many : length c ≡ length d
  pub to_numbers : a ≡ b → c ≡ d
  pub to_bytes : c ≡ d → a ≡ b

alike_zeros : (m n : ℕ) → m ≡ n → Alike (replicate m 0) (replicate n 0) [] []
alike_zeros m n e = record { long = ap (λ k. length (replicate {A = ℕ} k 0)) e; many = refl; to_numbers = λ same. refl; to_bytes = λ same. ap (λ k. replicate k 0) e }

alike_number : (x y m n : ℕ) → m ≡ n → Alike (x ∷ replicate m 0) (y ∷ replicate n 0) (x ∷ []) (y ∷ [])
alike_number x y m n e = record {
  long = ap (λ k. suc (length (replicate {A = ℕ} k 0))) e;
  many = refl;
  to_numbers = λ same. ap (λ k. k ∷ []) (heads x y (replicate m 0) (replicate n 0) same);
  to_bytes = λ same. ap₂ (λ k l. k ∷ replicate l 0) (heads x y [] [] same) e;
}

alike_joined : (a b c d p q r s : List ℕ) → Alike a b c d → Alike p q r s → Alike (a ++ p) (b ++ q) (c ++ r) (d ++ s)
alike_joined a b c d p q r s x y = record {
  long = omega (arith, x.long, y.long, length-append a p, length-append b q);
  many = omega (arith, x.many, y.many, length-append c r, length-append d s);
  to_numbers = λ e. let z = split_same a b p q x.long e in ap₂ (λ l m. l ++ m) (x.to_numbers z.0) (y.to_numbers z.1);
  to_bytes = λ e. let z = split_same c d r s x.many e in ap₂ (λ l m. l ++ m) (x.to_bytes z.0) (y.to_bytes z.1);
}

-- ---- numbers

-- with a scale that is less, the last digit of the other is 0
not_less : (a b s t : ℕ) → a * 10 ^ t ≡ b * 10 ^ s → (t ≡ 0) ⊎ (b % 10 ≢ 0) → s < t → ⊥
not_less a b s t e few less =
    let d = t - s - 1 in
    let T : 10 ^ t ≡ 10 ^ suc d * 10 ^ s = ap (λ k. 10 ^ k) {x = t} {y = suc d + s} (omega (arith, less)) ∙ pow-add 10 (suc d) s in
    let one : a * 10 ^ suc d * 10 ^ s ≡ b * 10 ^ s = omega (arith, e, ap (λ k. a * k) T) in
    let is : a * 10 ^ suc d ≡ b = cancel (a * 10 ^ suc d) b (10 ^ s) (ten s) one in
    let last : b % 10 ≡ 0 = omega (arith, is, ap (λ k. a * k) (pow-suc 10 d)) in
    elim few [
      | inl none ↦ omega (arith, none, less)
      | inr other ↦ other last
    ]

same_scale : (a b s t : ℕ) → a * 10 ^ t ≡ b * 10 ^ s → (s ≡ 0) ⊎ (a % 10 ≢ 0) → (t ≡ 0) ⊎ (b % 10 ≢ 0) → s ≡ t
same_scale a b s t e f g = elim (cases_lt s t) [
  | inl less ↦ absurd (not_less a b s t e g less)
  | inr most ↦ elim (cases_lt t s) [
    | inl less ↦ absurd (not_less b a t s (sym e) f less)
    | inr also ↦ omega (arith, most, also)
  ]
]

same_fewest : (m n : Num) → HasFewestDigits m → HasFewestDigits n → num_cmp m n ≡ Equal → number_text m ≡ number_text n
same_fewest m n f g e =
    let whole = int_cmp-IsAntisymmetric (m.whole *ℤ pos (10 ^ n.scale)) (n.whole *ℤ pos (10 ^ m.scale)) e in
    let size : unsigned_abs m.whole * 10 ^ n.scale ≡ unsigned_abs n.whole * 10 ^ m.scale =
    sym (unsigned_abs-mul m.whole (pos (10 ^ n.scale))) ∙ ap unsigned_abs whole ∙ unsigned_abs-mul n.whole (pos (10 ^ m.scale)) in
    let scale = same_scale (unsigned_abs m.whole) (unsigned_abs n.whole) m.scale n.scale size f g in
    let same = int_cmp-IsAntisymmetric m.whole n.whole (int_cmp-scaled m.whole n.whole (10 ^ n.scale) (ten n.scale) ∙ ap (λ k. int_cmp (m.whole *ℤ pos (10 ^ n.scale)) (n.whole *ℤ pos (10 ^ k))) (sym scale) ∙ e) in
    ap₂ text_of_parts scale same

number_twins : (m n : Num) → IsProperNumber m → IsProperNumber n → number_key m ≡ number_key n → number_text (fewest_digits m) ≡ number_text (fewest_digits n)
number_twins m n p q e =
    same_fewest (fewest_digits m) (fewest_digits n) (fewest_has m) (fewest_has n)
    ((keys_same (number (fewest_digits m)) (number (fewest_digits n)) (fewest_proper m p) (fewest_proper n q)).0 (fewest_key m p ∙ e ∙ sym (fewest_key n q)))

-- ---- keys behind which others go on

first_equal : (r s : Ordering) → ordering_then r s ≡ Equal → r ≡ Equal
first_equal Less s e = e
first_equal Equal s e = refl
first_equal Greater s e = e

first_key : (t u : Tree) → IsProper t → IsProper u → (a b : List ℕ) → key_of t ++ a ≡ key_of u ++ b → (key_of t ≡ key_of u) × (a ≡ b)
first_key t u p q a b e =
    let o : ordering_then (tree_cmp t u) (bytes_cmp a b) ≡ Equal = sym ((tree_compares t u p q).compared a b) ∙ ap (bytes_cmp (key_of t ++ a)) (sym e) ∙ tied_itself nat_list_cmp_total (key_of t ++ a) in
    let k = (keys_same t u p q).1 (first_equal (tree_cmp t u) (bytes_cmp a b) o) in
    (k, same_back (key_of t) a b (e ∙ ap (λ l. l ++ b) (sym k)))

first_text : (k l a b : List ℕ) → text_key k ++ a ≡ text_key l ++ b → (k ≡ l) × (a ≡ b)
first_text k l a b e =
    let o : ordering_then (bytes_cmp k l) (bytes_cmp a b) ≡ Equal = sym ((text_compares k l).compared a b) ∙ ap (bytes_cmp (text_key k ++ a)) (sym e) ∙ tied_itself nat_list_cmp_total (text_key k ++ a) in
    let same = exact_bytes k l (first_equal (bytes_cmp k l) (bytes_cmp a b) o) in
    (same, same_back (text_key k) a b (e ∙ ap (λ n. text_key n ++ b) (sym same)))

-- ---- two values

pub record Twins (t u : Tree) : Type 0 where
  pub counts : Alike (counts_at t) (counts_at u) (counts_in t) (counts_in u)
  pub text : value_text t ≡ value_text u

record TwinItems (ts us : Trees) : Type 0 where
  counts : Alike (counts_at_items ts) (counts_at_items us) (counts_in_items ts) (counts_in_items us)
  text : (first : Bool) → items_left first (items_with_fewest_digits ts) ≡ items_left first (items_with_fewest_digits us)

record TwinMembers (ms ns : Members) : Type 0 where
  counts : Alike (counts_at_members ms) (counts_at_members ns) (counts_in_members ms) (counts_in_members ns)
  text : (first : Bool) → members_left first (members_with_fewest_digits ms) ≡ members_left first (members_with_fewest_digits ns)

data KindOf (u : Tree) : Type 0 where
  of_null : u ≡ null → KindOf u
  of_boolean : (b : Bool) → u ≡ boolean b → KindOf u
  of_string : (mark : Mark) (text : List ℕ) → u ≡ string mark text → KindOf u
  of_number : (n : Num) → u ≡ number n → KindOf u
  of_array : (ts : Trees) → u ≡ array ts → KindOf u
  of_object : (ms : Members) → u ≡ object ms → KindOf u

kind_of : (u : Tree) (d : ℕ) → IsWithin IsAnyNumber u d → KindOf u
kind_of null d w = of_null refl
kind_of (boolean b) d w = of_boolean b refl
kind_of (string mark text) d w = of_string mark text refl
kind_of (number n) d w = of_number n refl
kind_of (array ts) d w = of_array ts refl
kind_of (object ms) d w = of_object ms refl
kind_of t d w = absurd w

scalar_zeros : (t u : Tree) → key_of t ≡ key_of u → Alike (replicate (length (key_of t)) 0) (replicate (length (key_of u)) 0) [] []
scalar_zeros t u k = alike_zeros (length (key_of t)) (length (key_of u)) (ap length k)

mutual
  pub twins : (t u : Tree) (d : ℕ) → IsProper t → IsProper u → IsWithin IsAnyNumber t d → IsWithin IsAnyNumber u d → key_of t ≡ key_of u → Twins t u
  twins null u d p q w v k = by (kind_of u d v)
    where
      by : KindOf u → Twins null u
      by (of_null x) = subst (Twins null) (sym x) (record { counts = scalar_zeros null null refl; text = refl })
      by (of_boolean true x) = absurd (omega (arith, heads 211 22 [] [] (k ∙ ap key_of x)))
      by (of_boolean false x) = absurd (omega (arith, heads 211 21 [] [] (k ∙ ap key_of x)))
      by (of_string other bytes x) = absurd (omega (arith, heads 211 208 [] (text_key bytes) (k ∙ ap key_of x)))
      by (of_number n x) = let y = number_begins n (is_small n (subst IsProper x q)) in absurd (omega (arith, y.low, y.high, heads 211 y.head [] y.tail (k ∙ ap key_of x ∙ y.is)))
      by (of_array us x) = absurd (omega (arith, heads 211 210 [] (items_key us) (k ∙ ap key_of x)))
      by (of_object ns x) = absurd (omega (arith, heads 211 209 [] (members_key ns) (k ∙ ap key_of x)))
  twins (boolean true) u d p q w v k = by (kind_of u d v)
    where
      by : KindOf u → Twins (boolean true) u
      by (of_null x) = absurd (omega (arith, heads 22 211 [] [] (k ∙ ap key_of x)))
      by (of_boolean true x) = subst (Twins (boolean true)) (sym x) (record { counts = scalar_zeros (boolean true) (boolean true) refl; text = refl })
      by (of_boolean false x) = absurd (omega (arith, heads 22 21 [] [] (k ∙ ap key_of x)))
      by (of_string other bytes x) = absurd (omega (arith, heads 22 208 [] (text_key bytes) (k ∙ ap key_of x)))
      by (of_number n x) = let y = number_begins n (is_small n (subst IsProper x q)) in absurd (omega (arith, y.low, y.high, heads 22 y.head [] y.tail (k ∙ ap key_of x ∙ y.is)))
      by (of_array us x) = absurd (omega (arith, heads 22 210 [] (items_key us) (k ∙ ap key_of x)))
      by (of_object ns x) = absurd (omega (arith, heads 22 209 [] (members_key ns) (k ∙ ap key_of x)))
  twins (boolean false) u d p q w v k = by (kind_of u d v)
    where
      by : KindOf u → Twins (boolean false) u
      by (of_null x) = absurd (omega (arith, heads 21 211 [] [] (k ∙ ap key_of x)))
      by (of_boolean true x) = absurd (omega (arith, heads 21 22 [] [] (k ∙ ap key_of x)))
      by (of_boolean false x) = subst (Twins (boolean false)) (sym x) (record { counts = scalar_zeros (boolean false) (boolean false) refl; text = refl })
      by (of_string other bytes x) = absurd (omega (arith, heads 21 208 [] (text_key bytes) (k ∙ ap key_of x)))
      by (of_number n x) = let y = number_begins n (is_small n (subst IsProper x q)) in absurd (omega (arith, y.low, y.high, heads 21 y.head [] y.tail (k ∙ ap key_of x ∙ y.is)))
      by (of_array us x) = absurd (omega (arith, heads 21 210 [] (items_key us) (k ∙ ap key_of x)))
      by (of_object ns x) = absurd (omega (arith, heads 21 209 [] (members_key ns) (k ∙ ap key_of x)))
  twins (string mark text) u d p q w v k = by (kind_of u d v)
    where
      by : KindOf u → Twins (string mark text) u
      by (of_null x) = absurd (omega (arith, heads 208 211 (text_key text) [] (k ∙ ap key_of x)))
      by (of_boolean true x) = absurd (omega (arith, heads 208 22 (text_key text) [] (k ∙ ap key_of x)))
      by (of_boolean false x) = absurd (omega (arith, heads 208 21 (text_key text) [] (k ∙ ap key_of x)))
      by (of_string other bytes x) =
          let same = (first_text text bytes [] [] (ap (λ l. l ++ []) (tails 208 208 (text_key text) (text_key bytes) (k ∙ ap key_of x)))).0 in
          subst (Twins (string mark text)) (sym x) (record { counts = scalar_zeros (string mark text) (string other bytes) (k ∙ ap key_of x); text = ap quoted_text same })
      by (of_number n x) = let y = number_begins n (is_small n (subst IsProper x q)) in absurd (omega (arith, y.low, y.high, heads 208 y.head (text_key text) y.tail (k ∙ ap key_of x ∙ y.is)))
      by (of_array us x) = absurd (omega (arith, heads 208 210 (text_key text) (items_key us) (k ∙ ap key_of x)))
      by (of_object ns x) = absurd (omega (arith, heads 208 209 (text_key text) (members_key ns) (k ∙ ap key_of x)))
  twins (number n) u d p q w v k = by (kind_of u d v)
    where
      by : KindOf u → Twins (number n) u
      by (of_null x) = let y = number_begins n (is_small n p) in absurd (omega (arith, y.low, y.high, heads y.head 211 y.tail [] (sym y.is ∙ k ∙ ap key_of x)))
      by (of_boolean true x) = let y = number_begins n (is_small n p) in absurd (omega (arith, y.low, y.high, heads y.head 22 y.tail [] (sym y.is ∙ k ∙ ap key_of x)))
      by (of_boolean false x) = let y = number_begins n (is_small n p) in absurd (omega (arith, y.low, y.high, heads y.head 21 y.tail [] (sym y.is ∙ k ∙ ap key_of x)))
      by (of_string other bytes x) = let y = number_begins n (is_small n p) in absurd (omega (arith, y.low, y.high, heads y.head 208 y.tail (text_key bytes) (sym y.is ∙ k ∙ ap key_of x)))
      by (of_number m x) =
          let e = k ∙ ap key_of x in
          subst (Twins (number n)) (sym x) (record {
            counts = alike_number (spare_zeros n.scale (unsigned_abs n.whole)) (spare_zeros m.scale (unsigned_abs m.whole)) (length (number_key n) - 1) (length (number_key m) - 1) (ap (λ l. length l - 1) e);
            text = number_twins n m p (subst IsProper x q) e;
          })
      by (of_array us x) = let y = number_begins n (is_small n p) in absurd (omega (arith, y.low, y.high, heads y.head 210 y.tail (items_key us) (sym y.is ∙ k ∙ ap key_of x)))
      by (of_object ns x) = let y = number_begins n (is_small n p) in absurd (omega (arith, y.low, y.high, heads y.head 209 y.tail (members_key ns) (sym y.is ∙ k ∙ ap key_of x)))
  twins (array ts) u zero p q w v k = absurd w
  twins (array ts) u (suc d) p q w v k = by (kind_of u (suc d) v) (λ us r x e. items_twins ts us d p r w x e)
    where
      by : KindOf u → ((us : Trees) → AreProper us → AreWithin IsAnyNumber us d → items_key ts ≡ items_key us → TwinItems ts us) → Twins (array ts) u
      by (of_null x) inner = absurd (omega (arith, heads 210 211 (items_key ts) [] (k ∙ ap key_of x)))
      by (of_boolean true x) inner = absurd (omega (arith, heads 210 22 (items_key ts) [] (k ∙ ap key_of x)))
      by (of_boolean false x) inner = absurd (omega (arith, heads 210 21 (items_key ts) [] (k ∙ ap key_of x)))
      by (of_string other bytes x) inner = absurd (omega (arith, heads 210 208 (items_key ts) (text_key bytes) (k ∙ ap key_of x)))
      by (of_number n x) inner = let y = number_begins n (is_small n (subst IsProper x q)) in absurd (omega (arith, y.low, y.high, heads 210 y.head (items_key ts) y.tail (k ∙ ap key_of x ∙ y.is)))
      by (of_array us x) inner =
          let y = inner us (subst IsProper x q) (subst (λ t. IsWithin IsAnyNumber t (suc d)) x v) (tails 210 210 (items_key ts) (items_key us) (k ∙ ap key_of x)) in
          subst (Twins (array ts)) (sym x) (record {
            counts = alike_joined (0 ∷ []) (0 ∷ []) [] [] (counts_at_items ts) (counts_at_items us) (counts_in_items ts) (counts_in_items us) (alike_zeros 1 1 refl) y.counts;
            text = array_text (items_with_fewest_digits ts) ∙ ap (λ l. 91 ∷ l) (y.text true) ∙ sym (array_text (items_with_fewest_digits us));
          })
      by (of_object ns x) inner = absurd (omega (arith, heads 210 209 (items_key ts) (members_key ns) (k ∙ ap key_of x)))
  twins (object ms) u zero p q w v k = absurd w
  twins (object ms) u (suc d) p q w v k = by (kind_of u (suc d) v) (λ us r x e. members_twins ms us d p.1 r w x e)
    where
      by : KindOf u → ((ns : Members) → HaveProperParts ns → HaveWithin IsAnyNumber ns d → members_key ms ≡ members_key ns → TwinMembers ms ns) → Twins (object ms) u
      by (of_null x) inner = absurd (omega (arith, heads 209 211 (members_key ms) [] (k ∙ ap key_of x)))
      by (of_boolean true x) inner = absurd (omega (arith, heads 209 22 (members_key ms) [] (k ∙ ap key_of x)))
      by (of_boolean false x) inner = absurd (omega (arith, heads 209 21 (members_key ms) [] (k ∙ ap key_of x)))
      by (of_string other bytes x) inner = absurd (omega (arith, heads 209 208 (members_key ms) (text_key bytes) (k ∙ ap key_of x)))
      by (of_number n x) inner = let y = number_begins n (is_small n (subst IsProper x q)) in absurd (omega (arith, y.low, y.high, heads 209 y.head (members_key ms) y.tail (k ∙ ap key_of x ∙ y.is)))
      by (of_array us x) inner = absurd (omega (arith, heads 209 210 (members_key ms) (items_key us) (k ∙ ap key_of x)))
      by (of_object ns x) inner =
          let y = inner ns (subst IsProper x q).1 (subst (λ t. IsWithin IsAnyNumber t (suc d)) x v) (tails 209 209 (members_key ms) (members_key ns) (k ∙ ap key_of x)) in
          subst (Twins (object ms)) (sym x) (record {
            counts = alike_joined (0 ∷ []) (0 ∷ []) [] [] (counts_at_members ms) (counts_at_members ns) (counts_in_members ms) (counts_in_members ns) (alike_zeros 1 1 refl) y.counts;
            text = object_text (members_with_fewest_digits ms) ∙ ap (λ l. 123 ∷ l) (y.text true) ∙ sym (object_text (members_with_fewest_digits ns));
          })
  twins t u d p q w v k = absurd w

  items_twins : (ts us : Trees) (d : ℕ) → AreProper ts → AreProper us → AreWithin IsAnyNumber ts d → AreWithin IsAnyNumber us d → items_key ts ≡ items_key us → TwinItems ts us
  items_twins no_trees no_trees d p q w v k = record { counts = alike_zeros 1 1 refl; text = λ first. refl }
  items_twins no_trees (more_trees u us) d p q w v k =
      let b = begins u q.0 in
      absurd (omega (arith, b.above, heads 0 b.head [] (b.tail ++ items_key us) (k ∙ ap (λ l. l ++ items_key us) b.is)))
  items_twins (more_trees t ts) no_trees d p q w v k =
      let b = begins t p.0 in
      absurd (omega (arith, b.above, heads 0 b.head [] (b.tail ++ items_key ts) (sym k ∙ ap (λ l. l ++ items_key ts) b.is)))
  items_twins (more_trees t ts) (more_trees u us) d p q w v k =
      let s = first_key t u p.0 q.0 (items_key ts) (items_key us) k in
      let x = twins t u d p.0 q.0 w.0 v.0 s.0 in
      let y = items_twins ts us d p.1 q.1 w.1 v.1 s.1 in
      record {
        counts = alike_joined (counts_at t) (counts_at u) (counts_in t) (counts_in u) (counts_at_items ts) (counts_at_items us) (counts_in_items ts) (counts_in_items us) x.counts y.counts;
        text = λ first. ap₂ (λ a b. comma_before first ++ (a ++ b)) x.text (y.text false);
      }

  members_twins : (ms ns : Members) (d : ℕ) → HaveProperParts ms → HaveProperParts ns → HaveWithin IsAnyNumber ms d → HaveWithin IsAnyNumber ns d → members_key ms ≡ members_key ns → TwinMembers ms ns
  members_twins no_members no_members d p q w v k = record { counts = alike_zeros 2 2 refl; text = λ first. refl }
  members_twins no_members (more_members l u ns) d p q w v k = absurd (no_pair l (key_of u ++ members_key ns) (members_key no_members) [] refl k)
  members_twins (more_members k t ms) no_members d p q w v e = absurd (no_pair k (key_of t ++ members_key ms) (members_key no_members) [] refl (sym e))
  members_twins (more_members k t ms) (more_members l u ns) d p q w v e =
      let name = first_text k l (key_of t ++ members_key ms) (key_of u ++ members_key ns) e in
      let s = first_key t u p.1 q.1 (members_key ms) (members_key ns) name.1 in
      let x = twins t u d p.1 q.1 w.0 v.0 s.0 in
      let y = members_twins ms ns d p.2 q.2 w.1 v.1 s.1 in
      record {
        counts = alike_joined (replicate (length (text_key k)) 0) (replicate (length (text_key l)) 0) [] [] (counts_at t ++ counts_at_members ms) (counts_at u ++ counts_at_members ns) (counts_in t ++ counts_in_members ms) (counts_in u ++ counts_in_members ns)
            (alike_zeros (length (text_key k)) (length (text_key l)) (ap (λ n. length (text_key n)) name.0))
            (alike_joined (counts_at t) (counts_at u) (counts_in t) (counts_in u) (counts_at_members ms) (counts_at_members ns) (counts_in_members ms) (counts_in_members ns) x.counts y.counts);
        text = λ first. (λ i. comma_before first ++ (name_text true (name.0 i) ++ (x.text i ++ y.text false i)));
      }
