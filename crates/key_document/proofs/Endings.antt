-- The last byte of a key.
use Rattle.std.proofs.Common.{◌≡◌, ℕ, zero, suc, ◌+◌, ◌-◌, ◌*◌, ◌/◌, ◌%◌, ◌^◌, ◌<◌, Bool, true, false, inl, inr, List, [], ◌∷◌, ◌++◌, map, refl, sym, ap, subst, ◌∙◌, arith, append_assoc}
use Rattle.std.specs.Prelude.{ℤ, pos, negsuc, unsigned_abs}
use Rattle.std.specs.List.{flat_map}
use Rattle.std.proofs.lemmas.Bool.{cases_eq}
use Rattle.std.proofs.lemmas.List.{map-append}
use Rattle.std.proofs.Math.Nat.{mod-lt, div-add-mod, div-lt_iff_lt-mul, pow-suc}
use Rattle.jsonb_spec.specs.SortKey.Readable.{IsAnyNumber}
use Rattle.jsonb_spec.specs.Proper.{IsProper, AreProper, HaveProperParts}
use Rattle.jsonb_spec.specs.SortKey.{key_of, items_key, members_key, text_key, byte_key, number_key, magnitude_key, exponent_key, digits_key, digit_count, invert_if}
use Rattle.jsonb_spec.specs.Text.Range.{IsWithin, AreWithin, HaveWithin}
use Rattle.jsonb_spec.specs.Tree.{Num, Tree, null, boolean, string, number, array, object, binary, date, timestamp, timestamp_tz, interval, Trees, no_trees, more_trees, Members, no_members, more_members}
use Rattle.jsonb_core.proofs.SortKeys.Counts.{digits_counted}
use Rattle.jsonb_core.proofs.SortKeys.Digits.{ten, last_pair, more_pairs}
use Rattle.jsonb_core.proofs.SortKeys.Kinds.{is_small}
use Rattle.jsonb_spec.specs.Document.{EndsUnlike}
use Rattle.jsonb_core.proofs.SortKeys.Numbers.{IsSmall, positive, negative, nothing_there, magnitude_split}
use Rattle.jsonb_core.proofs.SortKeys.Pairs.{single_digit}

-- the bytes end, and with one below 254
pub record EndsBelow (bytes : List ℕ) : Type 0 where
  pub front : List ℕ
  pub last : ℕ
  pub is : bytes ≡ front ++ last ∷ []
  pub below : last < 254

behind_more : (ys xs : List ℕ) → EndsBelow xs → EndsBelow (ys ++ xs)
behind_more ys xs x = record { front = ys ++ x.front; last = x.last; is = ap (λ l. ys ++ l) x.is ∙ sym (append_assoc ys x.front (x.last ∷ [])); below = x.below }

-- ---- digits

record EndsEven (xs : List ℕ) : Type 0 where
  front : List ℕ
  pair : ℕ
  is : xs ≡ front ++ (2 * pair) ∷ []
  some : 0 < pair
  below : pair < 100

digits_end : (count m : ℕ) → 0 < m → m < 10 ^ count → EndsEven (digits_key count m)
digits_end zero m some small = absurd (omega (arith, some, small))
digits_end (suc zero) m some small = record { front = []; pair = 10 * m; is = single_digit m ∙ ap (λ n. n ∷ []) {x = 20 * m} {y = 2 * (10 * m)} (omega arith); some = omega (arith, some); below = omega (arith, small) }
digits_end (suc (suc count)) m some small = elim (cases_eq (m % 10 ^ count) 0) [
  | inl none ↦ record {
    front = [];
    pair = m / 10 ^ count;
    is = last_pair count m none;
    some = elim (cases_eq (m / 10 ^ count) 0) [
      | inl no_pair ↦ absurd (let whole : 10 ^ count * 0 + 0 ≡ m = (λ i. 10 ^ count * sym no_pair i + sym none i) ∙ div-add-mod m (10 ^ count) in omega (arith, whole, some))
      | inr pair ↦ omega (arith, pair)
    ];
    below = (div-lt_iff_lt-mul (ten count)).1 (omega (arith, small, pow-suc 10 count, pow-suc 10 (suc count)));
  }
  | inr more ↦
      let rest = digits_end count (m % 10 ^ count) (omega (arith, more)) (mod-lt m (ten count)) in
      record { front = (2 * (m / 10 ^ count) + 1) ∷ rest.front; pair = rest.pair; is = more_pairs count m more ∙ ap (λ l. (2 * (m / 10 ^ count) + 1) ∷ l) rest.is; some = rest.some; below = rest.below }
]

pair_below : (turned : Bool) (pair : ℕ) → 0 < pair → pair < 100 → invert_if turned (2 * pair) < 254
pair_below true pair some below = omega (arith, some)
pair_below false pair some below = omega (arith, below)

magnitude_ends : (turned : Bool) (scale m : ℕ) → 0 < m → m < 10 ^ 39 → EndsBelow (map (invert_if turned) (magnitude_key scale m))
magnitude_ends turned scale m some small =
    let count = digit_count m in
    let e = digits_end count m some (digits_counted m some small).below in
    subst (EndsBelow) (sym (magnitude_split turned scale m count (count + 255 - scale) refl refl))
    (behind_more (map (invert_if turned) (exponent_key (count + 255 - scale))) (map (invert_if turned) (digits_key count m))
    (record {
      front = map (invert_if turned) e.front;
      last = invert_if turned (2 * e.pair);
      is = ap (map (invert_if turned)) e.is ∙ map-append (invert_if turned) e.front ((2 * e.pair) ∷ []);
      below = pair_below turned e.pair e.some e.below;
    }))

number_ends : (n : Num) → IsSmall n → (a : ℤ) → n.whole ≡ a → EndsBelow (number_key n)
number_ends n p (pos zero) e = record { front = []; last = 128; is = nothing_there n e; below = omega arith }
number_ends n p (pos (suc a)) e = subst (EndsBelow) (sym (positive n a e)) (magnitude_ends false n.scale (suc a) (omega arith) (omega (arith, p.whole, ap unsigned_abs e)))
number_ends n p (negsuc a) e = subst (EndsBelow) (sym (negative n a e)) (magnitude_ends true n.scale (suc a) (omega arith) (omega (arith, p.whole, ap unsigned_abs e)))

-- ---- trees

abbrev ends_in : (front : List ℕ) (last : ℕ) → last < 254 → EndsBelow (front ++ last ∷ [])
ends_in front last below = record { front = front; last = last; is = refl; below = below }

text_ends : (bytes : List ℕ) → EndsBelow (text_key bytes)
text_ends bytes = behind_more (flat_map byte_key bytes) (0 ∷ 1 ∷ []) (ends_in (0 ∷ []) 1 (omega arith))

boolean_ends : (b : Bool) → EndsBelow (key_of (boolean b))
boolean_ends true = ends_in [] 22 (omega arith)
boolean_ends false = ends_in [] 21 (omega arith)

mutual
  pub ends_below : (t : Tree) (depth : ℕ) → IsProper t → IsWithin IsAnyNumber t depth → EndsBelow (key_of t)
  ends_below null depth p w = ends_in [] 211 (omega arith)
  ends_below (boolean b) depth p w = boolean_ends b
  ends_below (string mark bytes) depth p w = behind_more (208 ∷ []) (text_key bytes) (text_ends bytes)
  ends_below (number n) depth p w = number_ends n (is_small n p) n.whole refl
  ends_below (array ts) zero p w = absurd w
  ends_below (array ts) (suc depth) p w = behind_more (210 ∷ []) (items_key ts) (items_end ts depth p w)
  ends_below (object ms) zero p w = absurd w
  ends_below (object ms) (suc depth) p w = behind_more (209 ∷ []) (members_key ms) (members_end ms depth p.1 w)
  ends_below (binary bytes) depth p w = absurd w
  ends_below (date days) depth p w = absurd w
  ends_below (timestamp micros) depth p w = absurd w
  ends_below (timestamp_tz offset micros) depth p w = absurd w
  ends_below (interval months days micros) depth p w = absurd w

  items_end : (ts : Trees) (depth : ℕ) → AreProper ts → AreWithin IsAnyNumber ts depth → EndsBelow (items_key ts)
  items_end no_trees depth p w = ends_in [] 0 (omega arith)
  items_end (more_trees t ts) depth p w = behind_more (key_of t) (items_key ts) (items_end ts depth p.1 w.1)

  members_end : (ms : Members) (depth : ℕ) → HaveProperParts ms → HaveWithin IsAnyNumber ms depth → EndsBelow (members_key ms)
  members_end no_members depth p w = ends_in (0 ∷ []) 0 (omega arith)
  members_end (more_members k t ms) depth p w = behind_more (text_key k) (key_of t ++ members_key ms) (behind_more (key_of t) (members_key ms) (members_end ms depth p.2 w.1))

-- the same of the byte with which zeros end
pub key_ends : (t : Tree) (depth : ℕ) → IsProper t → IsWithin IsAnyNumber t depth → EndsUnlike 255 (key_of t)
key_ends t depth p w = let x = ends_below t depth p w in record { front = x.front; last = x.last; is = x.is; other = λ e. omega (arith, e, x.below) }
