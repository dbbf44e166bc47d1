-- Each tree of a document is well-formed and in range.
use Rattle.std.proofs.Common.{List, [], ◌∷◌, ◌≡◌, ℕ, zero, suc, Ordering, Less, Equal, Greater, refl, sym, subst, ap, ◌∙◌}
use Rattle.std.specs.Cmp.Lexicographic.{slice_cmp, nat_list_cmp_total}
use Rattle.std.specs.List.{AllByRecursion}
use Rattle.std.specs.Ordering.{nat_cmp, ordering_reverse, match_ordering}
use Rattle.std.specs.Char.{IsScalar as IsCharacter, encode_utf8}
use Rattle.std.specs.Str.{IsUtf8, encode_utf8_all}
use Rattle.std.proofs.lemmas.Str.{IsUtf8-nil, IsUtf8-append, IsUtf8-encode}
use Rattle.jsonb_spec.specs.Grammar.{IsPadded, padded, IsElement, whole_element, empty_element, IsMember, key_and_value, IsValue, scalar, empty_array, full_array, empty_object, full_object, Derives, max_depth, IsDocument, value_alone, whitespace_alone}
use Rattle.jsonb_spec.specs.Keys.{IsBelowKeys, KeysAscend}
use Rattle.jsonb_spec.specs.Mode.{Mode, standard, extended, json, extended_json}
use Rattle.jsonb_spec.specs.Proper.{IsProperNumber, IsProper, AreProper, HaveProperParts}
use Rattle.jsonb_spec.specs.Text.Range.{IsWithin, AreWithin, HaveWithin, IsIntegral, IsInRange, IsIntegerRange, HasFewDigits}
use Rattle.jsonb_spec.specs.Grammar.Scalar.{IsNumber, IsScalar, literal_value, string_value, number_value, null_word, true_word, false_word, IsKey, quoted_key, bare_key}
use Rattle.jsonb_spec.specs.Tree.{Mark, Num, Tree, trees_of, Members, no_members, more_members, Member, put, put_all}
use Rattle.jsonb_core.proofs.Trees.DocumentTexts.{joined-all}
use Rattle.jsonb_core.proofs.Numbers.InRange.{standard_number, extended_number, json_number, extended_json_number}

-- ---- keys that are put in

below_picked : (k : List ℕ) (o : Ordering) (a b c : Members) → IsBelowKeys k a → IsBelowKeys k b → IsBelowKeys k c → IsBelowKeys k (match_ordering o a b c)
below_picked k Less a b c p q r = p
below_picked k Equal a b c p q r = q
below_picked k Greater a b c p q r = r

below_put : (k l : List ℕ) (t : Tree) (ms : Members) → slice_cmp nat_cmp k l ≡ Less → IsBelowKeys k ms → IsBelowKeys k (put l t ms)
below_put k l t no_members h below = (h, tt)
below_put k l t (more_members m u ms) h below =
    below_picked k (slice_cmp nat_cmp l m) (more_members l t (more_members m u ms)) (more_members m t ms) (more_members m u (put l t ms)) (h, below) below (below.0, below_put k l t ms h below.1)

below_all : (k l : List ℕ) (ms : Members) → slice_cmp nat_cmp k l ≡ Less → IsBelowKeys l ms → IsBelowKeys k ms
below_all k l no_members h below = tt
below_all k l (more_members m u ms) h below = (nat_list_cmp_total.trans k l m h below.0, below_all k l ms h below.1)

ascent_picked : (o : Ordering) (a b c : Members) → (o ≡ Less → KeysAscend a) → (o ≡ Equal → KeysAscend b) → (o ≡ Greater → KeysAscend c) → KeysAscend (match_ordering o a b c)
ascent_picked Less a b c p q r = p refl
ascent_picked Equal a b c p q r = q refl
ascent_picked Greater a b c p q r = r refl

turned : (k l : List ℕ) → slice_cmp nat_cmp k l ≡ Greater → slice_cmp nat_cmp l k ≡ Less
turned k l e = nat_list_cmp_total.antisymm l k ∙ ap ordering_reverse e

ascent_put : (k : List ℕ) (t : Tree) (ms : Members) → KeysAscend ms → KeysAscend (put k t ms)
ascent_put k t no_members a = (tt, tt)
ascent_put k t (more_members l u ms) a =
    ascent_picked (slice_cmp nat_cmp k l) (more_members k t (more_members l u ms)) (more_members l t ms) (more_members l u (put k t ms))
    (λ less. ((less, below_all k l ms less a.0), a))
    (λ equal. a)
    (λ more. (below_put l k t ms (turned k l more) a.0, ascent_put k t ms a.1))

ascent_put_all : (es : List Member) (ms : Members) → KeysAscend ms → KeysAscend (put_all es ms)
ascent_put_all [] ms a = a
ascent_put_all (e ∷ es) ms a = ascent_put_all es (put e.0 e.1 ms) (ascent_put e.0 e.1 ms a)

-- ---- bare keys

characters_utf8 : (cs : List ℕ) → AllByRecursion IsCharacter cs → IsUtf8 (encode_utf8_all cs)
characters_utf8 [] each = IsUtf8-nil
characters_utf8 (c ∷ cs) each = IsUtf8-append (encode_utf8 c) (encode_utf8_all cs) (IsUtf8-encode c each.0) (characters_utf8 cs each.1)

-- ---- the grammar, where the numbers of texts are such

module _ (mode : Mode) (IsIn : Num → Type 0) (is_in : (bytes : List ℕ) (n : Num) → IsNumber mode bytes n → IsIn n × IsProperNumber n) where
  -- what holds of each tree that is derived at this depth
  abbrev pub Holds : ℕ → Tree → Type 0
  Holds depth t = IsWithin IsIn t depth × IsProper t

  abbrev pub HoldsOf : ℕ → (List ℕ → Tree → Type 0) → Type 0
  HoldsOf depth Encodes = (bytes : List ℕ) (t : Tree) → Encodes bytes t → Holds depth t

  abbrev HoldsOfMember : ℕ → Member → Type 0
  HoldsOfMember depth m = IsUtf8 m.0 × Holds depth m.1

  items_hold : (depth : ℕ) (ts : List Tree) → AllByRecursion (Holds depth) ts → AreWithin IsIn (trees_of ts) depth × AreProper (trees_of ts)
  items_hold depth [] all = (tt, tt)
  items_hold depth (t ∷ ts) all = let others = items_hold depth ts all.1 in ((all.0.0, others.0), (all.0.1, others.1))

  abbrev MembersHold : ℕ → Members → Type 0
  MembersHold depth ms = HaveWithin IsIn ms depth × HaveProperParts ms

  hold_picked : (depth : ℕ) (o : Ordering) (a b c : Members) → MembersHold depth a → MembersHold depth b → MembersHold depth c → MembersHold depth (match_ordering o a b c)
  hold_picked depth Less a b c p q r = p
  hold_picked depth Equal a b c p q r = q
  hold_picked depth Greater a b c p q r = r

  hold_put : (depth : ℕ) (k : List ℕ) (t : Tree) (ms : Members) → IsUtf8 k → Holds depth t → MembersHold depth ms → MembersHold depth (put k t ms)
  hold_put depth k t no_members utf8 h all = ((h.0, tt), (utf8, h.1, tt))
  hold_put depth k t (more_members l u ms) utf8 h all =
      let others = hold_put depth k t ms utf8 h (all.0.1, all.1.2) in
      hold_picked depth (slice_cmp nat_cmp k l) (more_members k t (more_members l u ms)) (more_members l t ms) (more_members l u (put k t ms))
      ((h.0, all.0), (utf8, h.1, all.1)) ((h.0, all.0.1), (all.1.0, h.1, all.1.2)) ((all.0.0, others.0), (all.1.0, all.1.1, others.1))

  hold_put_all : (depth : ℕ) (es : List Member) (ms : Members) → AllByRecursion (HoldsOfMember depth) es → MembersHold depth ms → MembersHold depth (put_all es ms)
  hold_put_all depth [] ms all h = h
  hold_put_all depth (e ∷ es) ms all h = hold_put_all depth es (put e.0 e.1 ms) all.1 (hold_put depth e.0 e.1 ms all.0.0 all.0.1 h)

  scalar_holds : (depth : ℕ) → HoldsOf depth (IsScalar mode)
  scalar_holds depth bytes t (literal_value (null_word w)) = (tt, tt)
  scalar_holds depth bytes t (literal_value (true_word w)) = (tt, tt)
  scalar_holds depth bytes t (literal_value (false_word w)) = (tt, tt)
  scalar_holds depth bytes t (string_value q s) = (tt, s.decodes.utf8)
  scalar_holds depth bytes t (number_value {n = n} is) = is_in bytes n is

  padded_holds : (depth : ℕ) (Value : List ℕ → Tree → Type 0) → HoldsOf depth Value → HoldsOf depth (IsPadded mode Value)
  padded_holds depth Value each bytes t (padded before v after) = each _ _ v

  element_holds : (depth : ℕ) (Value : List ℕ → Tree → Type 0) → HoldsOf depth Value → HoldsOf depth (IsElement mode Value)
  element_holds depth Value each bytes t (whole_element p) = padded_holds depth Value each _ _ p
  element_holds depth Value each bytes t (empty_element m _) = (tt, tt)

  key_utf8 : (bytes : List ℕ) (key : Mark × List ℕ) → IsKey mode bytes key → IsUtf8 key.1
  key_utf8 bytes key (quoted_key q s) = s.decodes.utf8
  key_utf8 bytes key (bare_key e k) = subst IsUtf8 (sym k.encoded) (characters_utf8 (k.first ∷ k.others) k.scalars)

  padded_key_utf8 : (bytes : List ℕ) (key : Mark × List ℕ) → IsPadded mode (IsKey mode) bytes key → IsUtf8 key.1
  padded_key_utf8 bytes key (padded before k after) = key_utf8 _ _ k

  member_holds : (depth : ℕ) (Value : List ℕ → Tree → Type 0) → HoldsOf depth Value → (bytes : List ℕ) (m : Member) → IsMember mode Value bytes m → HoldsOfMember depth m
  member_holds depth Value each bytes m (key_and_value {key = key} name value) = (padded_key_utf8 _ key name, padded_holds depth Value each _ _ value)

  value_holds : (depth : ℕ) (Value : List ℕ → Tree → Type 0) → HoldsOf depth Value → HoldsOf (suc depth) (IsValue mode Value)
  value_holds depth Value each bytes t (scalar s) = scalar_holds (suc depth) _ _ s
  value_holds depth Value each bytes t (empty_array _) = (tt, tt)
  value_holds depth Value each bytes t (full_array {ts = ts} body some) =
      items_hold depth ts (joined-all (Holds depth) (IsElement mode Value) (element_holds depth Value each) _ ts body)
  value_holds depth Value each bytes t (empty_object _) = (tt, (tt, tt))
  value_holds depth Value each bytes t (full_object {ms = ms} body distinct) =
      let all = hold_put_all depth ms no_members (joined-all (HoldsOfMember depth) (IsMember mode Value) (member_holds depth Value each) _ ms body) (tt, tt) in
      (all.0, (ascent_put_all ms no_members tt, all.1))

  derived_holds : (depth : ℕ) → HoldsOf depth (Derives mode depth)
  derived_holds zero bytes t d = scalar_holds zero bytes t d
  derived_holds (suc depth) bytes t d = value_holds depth (Derives mode depth) (derived_holds depth) bytes t d

  pub document_holds : HoldsOf max_depth (IsDocument mode)
  document_holds bytes t (value_alone {core = core} before d after) = derived_holds max_depth core t d
  document_holds bytes t (whitespace_alone m _) = (tt, tt)

-- ---- documents

-- what is read in standard mode is in the range of integers
pub standard_in_range : (bytes : List ℕ) (t : Tree) → IsDocument standard bytes t → IsIntegerRange t × IsProper t
standard_in_range = document_holds standard IsIntegral standard_number

-- what is read in extended mode is in range
pub extended_in_range : (bytes : List ℕ) (t : Tree) → IsDocument extended bytes t → IsInRange t × IsProper t
extended_in_range = document_holds extended HasFewDigits extended_number

-- what is read in the other two is in range
pub json_in_range : (bytes : List ℕ) (t : Tree) → IsDocument json bytes t → IsInRange t × IsProper t
json_in_range = document_holds json HasFewDigits json_number

pub extended_json_in_range : (bytes : List ℕ) (t : Tree) → IsDocument extended_json bytes t → IsInRange t × IsProper t
extended_json_in_range = document_holds extended_json HasFewDigits extended_json_number
