-- Which values have a table.
use Rattle.std.proofs.Common.{◌≡◌, ℕ, ◌+◌, ◌*◌, ◌<◌, ◌≤◌, ◌&&◌, Bool, true, false, List, [], ◌∷◌, ◌++◌, length, nat_lt, nat_le, if◌then◌else◌, refl, sym, ap, subst, ◌∙◌, arith, length-append}
use Rattle.std.proofs.lemmas.Bool.{le-leb, lt-leb, ltb-true, ltb-false, leb-true}
use Rattle.std.specs.Int.{is_in_range}
use Rattle.std.specs.List.{flat_map}
use Rattle.jsonb_spec.specs.SortKey.Readable.{IsReadable}
use Rattle.jsonb_spec.specs.SortKey.{byte_key, key_of, members_key, text_key}
use Rattle.jsonb_spec.specs.Tree.{Tree, object, Members, no_members, more_members}
use Rattle.jsonb_spec.specs.SortKey.Found.{members_len}
use Rattle.key_walk.proofs.Occurrence.{true_false}
use Rattle.key_table.specs.Entries.{IsObjectOf, OfMembers}
use Rattle.jsonb_spec.specs.Table.{has_table, in_two, member_offsets, table_mark, table_of, table_of_members}

pub table_none : (t : Tree) → has_table t ≡ false → table_of t ≡ []
table_none (object ms) none = ap (λ b. if b then table_of_members ms else []) none
table_none t none = refl

pub table_some : (ms : Members) → has_table (object ms) ≡ true → table_of (object ms) ≡ table_of_members ms
table_some ms some = ap (λ b. if b then table_of_members ms else []) some

range_true : (n : ℕ) → 256 ≤ n → n ≤ 65535 → is_in_range 256 65535 n ≡ true
range_true n least most = ap (λ b. b && nat_le n 65535) (le-leb 256 n least) ∙ le-leb n 65535 most

and_true : (b : Bool) → b && true ≡ b
and_true true = refl
and_true false = refl

and_right : (a b : Bool) → a && b ≡ true → b ≡ true
and_right true b both = both
and_right false b both = absurd (true_false (sym both))

-- of an object whose key has such a size
module _ (t : Tree) (bytes : List ℕ) (o : IsObjectOf t bytes) where
  pub has_enough : has_table t ≡ nat_le 4 (members_len o.ms)
  has_enough = ap has_table o.is ∙ ap (λ b. nat_le 4 (members_len o.ms) && b) (range_true (length (key_of (object o.ms))) (subst (λ u. 256 ≤ length (key_of u)) o.is o.least) (subst (λ u. length (key_of u) ≤ 65535) o.is o.most)) ∙ and_true (nat_le 4 (members_len o.ms))

  pub table_there : 4 ≤ members_len o.ms → table_of t ≡ table_of_members o.ms
  table_there enough = ap table_of o.is ∙ table_some o.ms (ap has_table (sym o.is) ∙ has_enough ∙ le-leb 4 (members_len o.ms) enough)

  pub few_there : (few : Bool) → few ≡ nat_lt (members_len o.ms) 4 → few ≡ true → has_table t ≡ false
  few_there few is true_is = has_enough ∙ lt-leb 4 (members_len o.ms) (ltb-true (members_len o.ms) 4 (sym is ∙ true_is))

  pub enough_there : (few : Bool) → few ≡ nat_lt (members_len o.ms) 4 → few ≡ false → 4 ≤ members_len o.ms
  enough_there few is false_is = ltb-false (members_len o.ms) 4 (sym is ∙ false_is)

  pub of_members : (Is : Members → Type 0) → IsReadable t → OfMembers bytes Is → Is o.ms
  of_members Is r is =
      let p : IsReadable (object o.ms) = subst IsReadable o.is r in
      is o.ms p.proper.1 p.within o.occurs

-- ---- the end of a table

pub two_each : (ms : Members) → 2 * members_len ms + 2 ≤ length (members_key ms)
two_each no_members = omega arith
two_each (more_members k t ms) = omega (arith, two_each ms, length-append (text_key k) (key_of t ++ members_key ms), length-append (key_of t) (members_key ms), length-append (flat_map byte_key k) (0 ∷ 1 ∷ []))

pub entries_long : (offset : ℕ) (ms : Members) → length (flat_map in_two (member_offsets offset ms)) ≡ 2 * members_len ms
entries_long offset no_members = omega arith
entries_long offset (more_members k t ms) = omega (arith, entries_long (offset + (length (text_key k) + length (key_of t))) ms)

-- the entries of a table, and how many there are
pub record TableParts (t : Tree) : Type 0 where
  pub entries : List ℕ
  pub count : ℕ
  pub long : length entries ≡ 2 * count
  pub small : count < 65536
  pub is : table_of t ≡ entries ++ (in_two count ++ table_mark ∷ [])

-- the size of an object's key
pub most_size : (ms : Members) → has_table (object ms) ≡ true → length (key_of (object ms)) ≤ 65535
most_size ms has = leb-true (length (key_of (object ms))) 65535 (and_right (nat_le 256 (length (key_of (object ms)))) (nat_le (length (key_of (object ms))) 65535) (and_right (nat_le 4 (members_len ms)) (is_in_range 256 65535 (length (key_of (object ms)))) has))

pub table_parts : (t : Tree) → has_table t ≡ true → TableParts t
table_parts (object ms) has = record {
  entries = flat_map in_two (member_offsets 1 ms);
  count = members_len ms;
  long = entries_long 1 ms;
  small = omega (arith, most_size ms has, two_each ms);
  is = table_some ms has;
}
table_parts t has = absurd (true_false (sym has))
