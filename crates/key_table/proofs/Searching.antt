-- Members by their index in an object, in its table and in its key, and the search among them by halves.
use Rattle.std.proofs.Common.{◌≡◌, ℕ, zero, suc, ◌+◌, ◌-◌, ◌*◌, ◌/◌, ◌<◌, ◌^◌, true, List, [], ◌∷◌, ◌++◌, Option, Some, None, Result, Ok, Err, Less, Equal, Greater, IsTrue, if◌then◌else◌, length, refl, sym, ap, subst, ◌∙◌, arith, append_assoc, length-append}
use Rattle.std.proofs.lemmas.Map.Lookups.{exact_bytes}
use Rattle.std.specs.Cmp.Lexicographic.{nat_list_cmp_total}
use Rattle.std.specs.List.{flat_map}
use Rattle.std.specs.Ordering.{is_eq, ordering_reverse}
use Rattle.std.specs.Str.{bytes_eq}
use Rattle.jsonb_spec.specs.SortKey.Readable.{IsReadable}
use Rattle.jsonb_spec.specs.Accessors.{find_member, get_by_name}
use Rattle.jsonb_spec.specs.Keys.{IsBelowKeys, KeysAscend}
use Rattle.jsonb_spec.specs.Order.{bytes_cmp}
use Rattle.jsonb_spec.specs.SortKey.{key_of, members_key, text_key}
use Rattle.jsonb_spec.specs.Tree.{Tree, object, Members, no_members, more_members}
use Rattle.key_value.proofs.Texts.{none_some, some_same}
use Rattle.jsonb_spec.specs.SortKey.AtKeys.{OfKey}
use Rattle.jsonb_spec.specs.SortKey.Found.{members_len, IsRange}
use Rattle.key_walk.specs.declared.find.NoKey.{NoKey}
use Rattle.key_walk.proofs.Occurrence.{below_all, equal_names, true_false}
use Rattle.key_table.specs.Results.{ReportsRange, GivesRange}
use Rattle.jsonb_spec.specs.Table.{has_table, in_two, member_offsets, table_mark, table_of, table_of_members}
use Rattle.key_table.proofs.Having.{entries_long, most_size, table_some}
use Rattle.key_walk.proofs.Holding.{one_passed}

-- ---- the member of an index

-- the members without the first ones
abbrev pub drop_members : ℕ → Members → Members
drop_members zero ms = ms
drop_members (suc i) no_members = no_members
drop_members (suc i) (more_members k t ms) = drop_members i ms

-- the member of this index: where its entry is in the table, of which the first offset is this, and where it is in the key
pub record MemberAt (ms : Members) (i first : ℕ) : Type 0 where
  pub name : List ℕ
  pub value : Tree
  pub others : Members
  pub here : drop_members i ms ≡ more_members name value others
  pub next : drop_members (suc i) ms ≡ others
  pub counted : members_len ms ≡ i + suc (members_len others)
  pub before : List ℕ
  pub occurs : members_key ms ≡ before ++ (text_key name ++ (key_of value ++ members_key others))
  pub offset : ℕ
  pub offset_is : offset ≡ first + length before
  pub front : List ℕ
  pub front_long : length front ≡ 2 * i
  pub entries : flat_map in_two (member_offsets first ms) ≡ front ++ (in_two offset ++ flat_map in_two (member_offsets (offset + (length (text_key name) + length (key_of value))) others))
  pub below : IsBelowKeys name others
  pub above : (k : List ℕ) → IsBelowKeys k ms → bytes_cmp k name ≡ Less
  pub skips : (wanted : List ℕ) → bytes_cmp name wanted ≡ Less → find_member (bytes_eq wanted) ms ≡ find_member (bytes_eq wanted) others
  pub there : (wanted : List ℕ) → bytes_cmp wanted name ≡ Equal → find_member (bytes_eq wanted) ms ≡ Some value

pub member_at : (ms : Members) (i first : ℕ) → KeysAscend ms → i < members_len ms → MemberAt ms i first
member_at no_members i first a h = absurd (omega (arith, h))
member_at (more_members k t ms) zero first a h = record {
  name = k;
  value = t;
  others = ms;
  here = refl;
  next = refl;
  counted = omega arith;
  before = [];
  occurs = refl;
  offset = first;
  offset_is = omega arith;
  front = [];
  front_long = omega arith;
  entries = refl;
  below = a.0;
  above = λ l b. b.0;
  skips = λ wanted less. one_passed wanted k t ms less;
  there = λ wanted same. ap (λ b. if b then Some t else find_member (bytes_eq wanted) ms) (equal_names wanted k ∙ ap is_eq same);
}
member_at (more_members k t ms) (suc i) first a h =
    let size = length (text_key k) + length (key_of t) in
    let m = member_at ms i (first + size) a.1 (omega (arith, h)) in
    record {
      name = m.name;
      value = m.value;
      others = m.others;
      here = m.here;
      next = m.next;
      counted = omega (arith, m.counted);
      before = text_key k ++ (key_of t ++ m.before);
      occurs = ap (λ l. text_key k ++ (key_of t ++ l)) m.occurs ∙ regrouped (text_key k) (key_of t) m.before (text_key m.name ++ (key_of m.value ++ members_key m.others));
      offset = m.offset;
      offset_is = omega (arith, m.offset_is, length-append (text_key k) (key_of t ++ m.before), length-append (key_of t) m.before);
      front = in_two first ++ m.front;
      front_long = omega (arith, m.front_long);
      entries = ap (λ l. in_two first ++ l) m.entries;
      below = m.below;
      above = λ l b. m.above l b.1;
      skips = λ wanted less. one_passed wanted k t ms (nat_list_cmp_total.trans k m.name wanted (m.above k a.0) less) ∙ m.skips wanted less;
      there = λ wanted same. one_passed wanted k t ms (ap (bytes_cmp k) (exact_bytes wanted m.name same) ∙ m.above k a.0) ∙ m.there wanted same;
    }
  where
    regrouped : (a b c d : List ℕ) → a ++ (b ++ (c ++ d)) ≡ (a ++ (b ++ c)) ++ d
    regrouped a b c d = simp append_assoc

-- ---- what is left to look at

-- where the bytes are the key of an object with a table, and the others the table, this is so of the members
abbrev pub OfTable : List ℕ → List ℕ → (Members → Type 0) → Type 0
OfTable key table Is = (ms : Members) → IsReadable (object ms) → has_table (object ms) ≡ true → key ≡ key_of (object ms) → table ≡ table_of_members ms → Is ms

-- the member of the name is at neither of the indices below the first and from the second on
pub record Halves (ms : Members) (name table : List ℕ) (low high : ℕ) : Type 0 where
  pub least : find_member (bytes_eq name) ms ≡ find_member (bytes_eq name) (drop_members low ms)
  pub most : find_member (bytes_eq name) (drop_members high ms) ≡ None
  pub count : members_len ms ≡ (length table - 3) / 2

abbrev pub Searching : List ℕ → List ℕ → List ℕ → ℕ → ℕ → Type 0
Searching key table name low high = OfTable key table (λ ms. Halves ms name table low high)

drop_all : (ms : Members) → drop_members (members_len ms) ms ≡ no_members
drop_all no_members = refl
drop_all (more_members k t ms) = drop_all ms

pub halves_begun : (ms : Members) (name table : List ℕ) → table ≡ table_of_members ms → Halves ms name table 0 ((length table - 3) / 2)
halves_begun ms name table e =
    let count : members_len ms ≡ (length table - 3) / 2 = omega (arith, ap length e, entries_long 1 ms, length-append (flat_map in_two (member_offsets 1 ms)) (in_two (members_len ms) ++ table_mark ∷ [])) in
    record {
      least = refl;
      most = ap (λ n. find_member (bytes_eq name) (drop_members n ms)) (sym count) ∙ ap (find_member (bytes_eq name)) (drop_all ms);
      count = count;
    }

-- ---- one step

-- the entry behind the first, where there is one
next_begins : (others : Members) (first n : ℕ) → 0 < members_len others → (more : List ℕ) × (flat_map in_two (member_offsets first others) ++ (in_two n ++ table_mark ∷ []) ≡ in_two first ++ more)
next_begins no_members first n some = absurd (omega (arith, some))
next_begins (more_members k t ms) first n some = (flat_map in_two (member_offsets (first + (length (text_key k) + length (key_of t))) ms) ++ (in_two n ++ table_mark ∷ []), refl)

-- the entry in the middle
module _ (key table name : List ℕ) (ms : Members) (r : IsReadable (object ms)) (has : has_table (object ms) ≡ true) (e : key ≡ key_of (object ms)) (is : table ≡ table_of_members ms) (low high middle : ℕ) (h : Halves ms name table low high) (within : middle < (length table - 3) / 2) where
  at : MemberAt ms middle 1
  at = member_at ms middle 1 r.proper.0 (omega (arith, within, h.count))

  -- the offset behind the member
  abbrev past : ℕ
  past = at.offset + (length (text_key at.name) + length (key_of at.value))

  abbrev behind_entry : List ℕ
  behind_entry = flat_map in_two (member_offsets past at.others) ++ (in_two (members_len ms) ++ table_mark ∷ [])

  entry_there : table ≡ at.front ++ (in_two at.offset ++ behind_entry)
  entry_there =
      is ∙ ap (λ l. l ++ (in_two (members_len ms) ++ table_mark ∷ [])) at.entries ∙ append_assoc at.front (in_two at.offset ++ flat_map in_two (member_offsets past at.others)) (in_two (members_len ms) ++ table_mark ∷ [])

  -- the key before the member
  abbrev key_before : List ℕ
  key_before = 209 ∷ at.before

  member_there : key ≡ key_before ++ (text_key at.name ++ (key_of at.value ++ members_key at.others))
  member_there = e ∙ ap (λ l. 209 ∷ l) at.occurs

  offset_there : length key_before ≡ at.offset
  offset_there = omega (arith, at.offset_is)

  key_size : past + length (members_key at.others) ≡ length key
  key_size = omega (arith, offset_there, ap length member_there, length-append key_before (text_key at.name ++ (key_of at.value ++ members_key at.others)), length-append (text_key at.name) (key_of at.value ++ members_key at.others), length-append (key_of at.value) (members_key at.others))

  small_offset : past < 2 ^ 16
  small_offset = omega (arith, key_size, most_size ms has, ap length e)

  passed_by : bytes_cmp name at.name ≡ Greater → Halves ms name table (middle + 1) high
  passed_by above = record { least = at.skips name (nat_list_cmp_total.antisymm at.name name ∙ ap ordering_reverse above) ∙ ap (find_member (bytes_eq name)) (sym at.next ∙ ap (λ i. drop_members i ms) {x = suc middle} {y = middle + 1} (omega arith)); most = h.most; count = h.count }

  cut_off : bytes_cmp name at.name ≡ Less → Halves ms name table low middle
  cut_off below = record { least = h.least; most = ap (find_member (bytes_eq name)) at.here ∙ ap (λ b. if b then Some at.value else find_member (bytes_eq name) at.others) (equal_names name at.name ∙ ap is_eq below) ∙ below_all name at.name at.others below at.below; count = h.count }

  -- it ends where the next one begins, or before the end of the object
  end_there : (end : ℕ) → (middle + 1 < (length table - 3) / 2 → (before more : List ℕ) → (number : ℕ) → number < 2 ^ 16 → length before ≡ 2 * middle + 2 → table ≡ before ++ (in_two number ++ more) → end ≡ number)
      → (middle + 1 ≡ (length table - 3) / 2 → end ≡ length key - 2) → end + length (members_key at.others) ≡ length key
  end_there end next last = go at.others refl
    where
      go : (o : Members) → at.others ≡ o → end + length (members_key at.others) ≡ length key
      go no_members is_o = omega (arith, last (omega (arith, h.count, at.counted, ap members_len is_o)), key_size, ap (λ o. length (members_key o)) is_o)
      go (more_members k t o) is_o =
          let n = next_begins at.others past (members_len ms) (omega (arith, ap members_len is_o)) in
          omega (
            arith,
            key_size,
            next (omega (arith, h.count, at.counted, ap members_len is_o)) (at.front ++ in_two at.offset) n.0 past small_offset (omega (arith, at.front_long, length-append at.front (in_two at.offset)))
                (entry_there ∙ ap (λ l. at.front ++ (in_two at.offset ++ l)) n.1 ∙ sym (append_assoc at.front (in_two at.offset) (in_two past ++ n.0))),
          )

-- the entry in the middle, all that is known of it
pub record EntryHere (key table name : List ℕ) (ms : Members) (low high middle : ℕ) : Type 0 where
  pub text : List ℕ
  pub value : Tree
  pub others : List ℕ
  pub front : List ℕ
  pub more : List ℕ
  pub offset : ℕ
  pub small : offset < 2 ^ 16
  pub front_long : length front ≡ 2 * middle
  pub entry : table ≡ front ++ (in_two offset ++ more)
  pub before : List ℕ
  pub before_long : length before ≡ offset
  pub member : key ≡ before ++ (text_key text ++ (key_of value ++ others))
  pub above : bytes_cmp name text ≡ Greater → Halves ms name table (middle + 1) high
  pub below : bytes_cmp name text ≡ Less → Halves ms name table low middle
  pub same : bytes_cmp name text ≡ Equal → find_member (bytes_eq name) ms ≡ Some value
  pub ends : (end : ℕ) → (middle + 1 < (length table - 3) / 2 → (before more : List ℕ) → (number : ℕ) → number < 2 ^ 16 → length before ≡ 2 * middle + 2 → table ≡ before ++ (in_two number ++ more) → end ≡ number)
      → (middle + 1 ≡ (length table - 3) / 2 → end ≡ length key - 2) → end + length others ≡ length key

pub entry_here : (key table name : List ℕ) (ms : Members) → IsReadable (object ms) → has_table (object ms) ≡ true → key ≡ key_of (object ms) → table ≡ table_of_members ms → (low high middle : ℕ) → Halves ms name table low high → middle < (length table - 3) / 2 → EntryHere key table name ms low high middle
entry_here key table name ms r has e is low high middle h within =
    let m = at key table name ms r has e is low high middle h within in
    record {
      text = m.name;
      value = m.value;
      others = members_key m.others;
      front = m.front;
      more = behind_entry key table name ms r has e is low high middle h within;
      offset = m.offset;
      small = omega (arith, small_offset key table name ms r has e is low high middle h within);
      front_long = m.front_long;
      entry = entry_there key table name ms r has e is low high middle h within;
      before = key_before key table name ms r has e is low high middle h within;
      before_long = offset_there key table name ms r has e is low high middle h within;
      member = member_there key table name ms r has e is low high middle h within;
      above = passed_by key table name ms r has e is low high middle h within;
      below = cut_off key table name ms r has e is low high middle h within;
      same = m.there name;
      ends = end_there key table name ms r has e is low high middle h within;
    }

-- ---- what is found

pub finds_some : (key : List ℕ) (p : Option Tree) (u : Tree) (r : Result (Option (ℕ × ℕ)) NoKey) → p ≡ Some u → GivesRange key (key_of u) r → ReportsRange key p r
finds_some key None u (Ok (Some x)) is g = absurd (none_some u is)
finds_some key (Some v) u (Ok (Some x)) is g = subst (λ w. IsRange key x.0 x.1 (key_of w)) (sym (some_same v u is)) g
finds_some key p u (Ok None) is g = absurd g
finds_some key p u (Err e) is g = absurd g

pub finds_none : (key : List ℕ) (p : Option Tree) → p ≡ None → ReportsRange key p (Ok None)
finds_none key None is = tt
finds_none key (Some u) is = absurd (none_some u (sym is))

-- nothing is left
pub none_left : (ms : Members) (name table : List ℕ) (low high : ℕ) → Halves ms name table low high → low ≡ high → find_member (bytes_eq name) ms ≡ None
none_left ms name table low high h over = h.least ∙ ap (λ i. find_member (bytes_eq name) (drop_members i ms)) over ∙ h.most

pub of_table : (key table name : List ℕ) (r : Result (Option (ℕ × ℕ)) NoKey) → OfTable key table (λ ms. ReportsRange key (find_member (bytes_eq name) ms) r) → OfKey key (λ t. IsTrue (has_table t) → table ≡ table_of t → ReportsRange key (get_by_name name t) r)
of_table key table name r f (object ms) readable e has is = f ms readable has e (is ∙ table_some ms has)
of_table key table name r f t readable e has is = absurd (true_false (sym has))
