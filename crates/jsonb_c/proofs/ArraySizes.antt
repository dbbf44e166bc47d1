-- The arrays of a document have fewer items than its text has bytes.
use Rattle.std.proofs.Common.{◌≡◌, ℕ, zero, suc, ◌+◌, ◌≤◌, List, [], ◌∷◌, ◌++◌, length, length-append, refl, arith}
use Rattle.std.specs.Cmp.Lexicographic.{slice_cmp}
use Rattle.std.specs.List.{AllByRecursion}
use Rattle.std.specs.Ordering.{nat_cmp, match_ordering}
use Rattle.std.specs.declared.cmp.Ordering.{Ordering}
use Rattle.std.specs.declared.cmp.Ordering.TheVariants.{Less, Equal, Greater}
use Rattle.jsonb_spec.specs.Accessors.{trees_len}
use Rattle.jsonb_spec.specs.Grammar.{IsPadded, padded, IsJoined, one_part, more_parts, IsElement, whole_element, empty_element, IsMember, key_and_value, IsValue, scalar, empty_array, full_array, empty_object, full_object, Derives, max_depth, IsDocument, value_alone, whitespace_alone}
use Rattle.jsonb_spec.specs.Grammar.Scalar.{IsScalar, literal_value, string_value, number_value, null_word, true_word, false_word}
use Rattle.jsonb_spec.specs.Mode.{Mode}
use Rattle.jsonb_spec.specs.Tree.{Tree, array, object, Trees, no_trees, more_trees, Members, no_members, more_members, Member, trees_of, put, put_all}

-- each array in the tree has at most so many items
abbrev mutual
  pub AreBelow : ℕ → Tree → Type 0
  AreBelow n (array ts) = (trees_len ts ≤ n) × ItemsBelow n ts
  AreBelow n (object ms) = MembersBelow n ms
  AreBelow n t = Unit {0}

  pub ItemsBelow : ℕ → Trees → Type 0
  ItemsBelow n no_trees = Unit {0}
  ItemsBelow n (more_trees t ts) = AreBelow n t × ItemsBelow n ts

  pub MembersBelow : ℕ → Members → Type 0
  MembersBelow n no_members = Unit {0}
  MembersBelow n (more_members key t ms) = AreBelow n t × MembersBelow n ms

-- ---- items and members

items_all : (n : ℕ) (ts : List Tree) → AllByRecursion (AreBelow n) ts → ItemsBelow n (trees_of ts)
items_all n [] all = tt
items_all n (t ∷ ts) all = (all.0, items_all n ts all.1)

match_below : (n : ℕ) (o : Ordering) (a b c : Members) → MembersBelow n a → MembersBelow n b → MembersBelow n c → MembersBelow n (match_ordering o a b c)
match_below n Less a b c h k l = h
match_below n Equal a b c h k l = k
match_below n Greater a b c h k l = l

put_below : (n : ℕ) (key : List ℕ) (t : Tree) (ms : Members) → AreBelow n t → MembersBelow n ms → MembersBelow n (put key t ms)
put_below n key t no_members h all = (h, tt)
put_below n key t (more_members l u ms) h all =
    match_below n (slice_cmp nat_cmp key l) _ _ _ (h, all) (h, all.1) (all.0, put_below n key t ms h all.1)

put_all_below : (n : ℕ) (es : List Member) (ms : Members) → AllByRecursion (λ (e : Member). AreBelow n e.1) es → MembersBelow n ms → MembersBelow n (put_all es ms)
put_all_below n [] ms all h = h
put_all_below n (e ∷ es) ms all h = put_all_below n es (put e.0 e.1 ms) all.1 (put_below n e.0 e.1 ms all.0 h)

count : (ts : List Tree) → trees_len (trees_of ts) ≡ length ts
count [] = refl
count (t ∷ ts) = omega (arith, count ts)

-- ---- the grammar, within so many bytes

module _ (n : ℕ) where
  abbrev AllBelow : (List ℕ → Tree → Type 0) → Type 0
  AllBelow Encodes = (bytes : List ℕ) (t : Tree) → Encodes bytes t → length bytes ≤ n → AreBelow n t

  joined_all : {A : Type 0} (P : A → Type 0) (Encodes : List ℕ → A → Type 0) → ((bytes : List ℕ) (a : A) → Encodes bytes a → length bytes ≤ n → P a) → (bytes : List ℕ) (parts : List A) → IsJoined Encodes bytes parts → length bytes ≤ n → AllByRecursion P parts
  joined_all P Encodes each bytes parts (one_part s) h = (each _ _ s h, tt)
  joined_all P Encodes each bytes parts (more_parts {first = first} {rest = rest} s more) h =
      let whole = length-append first (44 ∷ rest) in
      (each _ _ s (omega (arith, whole, h)), joined_all P Encodes each _ _ more (omega (arith, whole, h)))

  scalar_below : (mode : Mode) → AllBelow (IsScalar mode)
  scalar_below mode bytes t (literal_value (null_word w)) h = tt
  scalar_below mode bytes t (literal_value (true_word w)) h = tt
  scalar_below mode bytes t (literal_value (false_word w)) h = tt
  scalar_below mode bytes t (string_value q s) h = tt
  scalar_below mode bytes t (number_value m) h = tt

  padded_below : (mode : Mode) (Value : List ℕ → Tree → Type 0) → AllBelow Value → AllBelow (IsPadded mode Value)
  padded_below mode Value each bytes t (padded {before = before} {core = core} {after = after} b v a) h =
      each _ _ v (omega (arith, h, length-append before (core ++ after), length-append core after))

  element_below : (mode : Mode) (Value : List ℕ → Tree → Type 0) → AllBelow Value → AllBelow (IsElement mode Value)
  element_below mode Value each bytes t (whole_element p) h = padded_below mode Value each _ _ p h
  element_below mode Value each bytes t (empty_element m b) h = tt

  member_below : (mode : Mode) (Value : List ℕ → Tree → Type 0) → AllBelow Value → (bytes : List ℕ) (m : Member) → IsMember mode Value bytes m → length bytes ≤ n → AreBelow n m.1
  member_below mode Value each bytes m (key_and_value {left = left} {right = right} key value) h =
      padded_below mode Value each _ _ value (omega (arith, h, length-append left (58 ∷ right)))

  value_below : (mode : Mode) (Value : List ℕ → Tree → Type 0) → AllBelow Value → AllBelow (IsValue mode Value)
  value_below mode Value each bytes t (scalar s) h = scalar_below mode _ _ s h
  value_below mode Value each bytes t (empty_array b) h = (omega arith, tt)
  value_below mode Value each bytes t (full_array {body = body} {ts = ts} parts some) h =
      let inside = length-append body (93 ∷ []) in
      (omega (arith, h, inside, count ts, counted (IsElement mode Value) body ts parts), items_all n ts (joined_all (AreBelow n) (IsElement mode Value) (element_below mode Value each) body ts parts (omega (arith, h, inside))))
    where
      counted : {A : Type 0} (Encodes : List ℕ → A → Type 0) (bytes : List ℕ) (parts : List A) → IsJoined Encodes bytes parts → length parts ≤ length bytes + 1
      counted Encodes bytes parts (one_part s) = omega arith
      counted Encodes bytes parts (more_parts {first = first} {rest = rest} {others = others} s more) = omega (arith, length-append first (44 ∷ rest), counted Encodes rest others more)
  value_below mode Value each bytes t (empty_object b) h = tt
  value_below mode Value each bytes t (full_object {body = body} {ms = ms} parts distinct) h =
      put_all_below n ms no_members (joined_all (λ (m : Member). AreBelow n m.1) (IsMember mode Value) (member_below mode Value each) body ms parts (omega (arith, h, length-append body (125 ∷ [])))) tt

  derived_below : (mode : Mode) (depth : ℕ) → AllBelow (Derives mode depth)
  derived_below mode zero bytes t d h = scalar_below mode bytes t d h
  derived_below mode (suc depth) bytes t d h = value_below mode (Derives mode depth) (derived_below mode depth) bytes t d h

  -- in a document of at most so many bytes
  pub document_below : (mode : Mode) (bytes : List ℕ) (t : Tree) → IsDocument mode bytes t → length bytes ≤ n → AreBelow n t
  document_below mode bytes t (value_alone {before = before} {core = core} {after = after} b d a) h =
      derived_below mode max_depth core t d (omega (arith, h, length-append before (core ++ after), length-append core after))
  document_below mode bytes t (whitespace_alone m b) h = tt
