-- The documents of JSON are the texts of RFC 8259's own productions, of the same trees.
use Rattle.std.proofs.Common.{◌≡◌, ℕ, zero, suc, true, false, List, [], ◌∷◌, ◌++◌, refl, sym, ap, subst, ◌∙◌, inl, inr}
use Rattle.std.specs.Prelude.{◌≢◌, ◌↔◌}
use Rattle.std.specs.List.{flat_map, AllByRecursion}
use Rattle.jsonb_spec.specs.Grammar.Whitespace.{IsWhitespace, no_whitespace, more_whitespace, space, tab, line_feed, form_feed, carriage_return, written_line_feed, written_carriage_return, written_tab, written_form_feed, block_comment, line_comment, IsLastWhitespace, whitespace_to_end, line_to_end}
use Rattle.jsonb_spec.specs.Grammar.{IsPadded, padded, IsElement, whole_element, empty_element, IsMember, key_and_value, IsValue, scalar, empty_array, full_array, empty_object, full_object, Derives, max_depth, IsDocument, value_alone, whitespace_alone}
use Rattle.jsonb_spec.specs.Grammar.Quoted.{Quoted}
use Rattle.jsonb_spec.specs.Grammar.Scalar.{IsLiteral, null_word, true_word, false_word, IsScalar, literal_value, string_value, number_value, IsKey, quoted_key, bare_key}
use Rattle.jsonb_spec.specs.Grammar.StringBody.{Item, raw, escape, unit, encoding, IsItem}
use Rattle.jsonb_spec.specs.Mode.{json, strict, lenient}
use Rattle.jsonb_spec.specs.Tree.{Mark, Tree, null, boolean, Member}
use Rattle.jsonb_spec.specs.JsonText.{AreSpaces, IsSpaced, spaced, IsCharacter, IsString, IsLiteralName, null_name, true_name, false_name, IsPlainValue, a_literal, a_string, a_number, IsName, IsPair, name_and_value, IsOneValue, plain_value, no_items, some_items, no_pairs, some_pairs, IsNested, IsJsonText}
use Rattle.jsonb.proofs.Modes.LeafByLeaf.{value_starts, no_whitespace_elements, same_joined}

-- JSON is strict
two_modes : {A : Type 0} → strict ≡ lenient → A
two_modes e = cc

-- ---- whitespace

spaces_of : (bytes : List ℕ) → IsWhitespace json bytes → AreSpaces bytes
spaces_of bytes no_whitespace = tt
spaces_of bytes (more_whitespace {rest = rest} space others) = (inl refl, spaces_of rest others)
spaces_of bytes (more_whitespace {rest = rest} tab others) = (inr (inl refl), spaces_of rest others)
spaces_of bytes (more_whitespace {rest = rest} line_feed others) = (inr (inr (inl refl)), spaces_of rest others)
spaces_of bytes (more_whitespace {rest = rest} carriage_return others) = (inr (inr (inr refl)), spaces_of rest others)
spaces_of bytes (more_whitespace (form_feed beyond) others) = absurd beyond
spaces_of bytes (more_whitespace (written_line_feed beyond) others) = absurd beyond
spaces_of bytes (more_whitespace (written_carriage_return beyond) others) = absurd beyond
spaces_of bytes (more_whitespace (written_tab beyond) others) = absurd beyond
spaces_of bytes (more_whitespace (written_form_feed beyond) others) = absurd beyond
spaces_of bytes (more_whitespace (block_comment inside is lacks) others) = two_modes is
spaces_of bytes (more_whitespace (line_comment inside last is one ends) others) = two_modes is

whitespace_of : (bytes : List ℕ) → AreSpaces bytes → IsWhitespace json bytes
whitespace_of [] each = no_whitespace
whitespace_of (b ∷ bytes) (inl e, others) = subst (λ c. IsWhitespace json (c ∷ bytes)) (sym e) (more_whitespace space (whitespace_of bytes others))
whitespace_of (b ∷ bytes) (inr (inl e), others) = subst (λ c. IsWhitespace json (c ∷ bytes)) (sym e) (more_whitespace tab (whitespace_of bytes others))
whitespace_of (b ∷ bytes) (inr (inr (inl e)), others) = subst (λ c. IsWhitespace json (c ∷ bytes)) (sym e) (more_whitespace line_feed (whitespace_of bytes others))
whitespace_of (b ∷ bytes) (inr (inr (inr e)), others) = subst (λ c. IsWhitespace json (c ∷ bytes)) (sym e) (more_whitespace carriage_return (whitespace_of bytes others))

last_spaces : (bytes : List ℕ) → IsLastWhitespace json bytes → AreSpaces bytes
last_spaces bytes (whitespace_to_end b) = spaces_of bytes b
last_spaces bytes (line_to_end inside is b one) = two_modes is

module _ {A : Type 0} (Encodes Other : List ℕ → A → Type 0) where
  spaced_of : ((bytes : List ℕ) (a : A) → Encodes bytes a → Other bytes a) → (bytes : List ℕ) (a : A) → IsPadded json Encodes bytes a → IsSpaced Other bytes a
  spaced_of same bytes a (padded {before = before} {core = core} {after = after} b v c) = spaced before core after (spaces_of before b) (same core a v) (spaces_of after c)

  padded_of : ((bytes : List ℕ) (a : A) → Other bytes a → Encodes bytes a) → (bytes : List ℕ) (a : A) → IsSpaced Other bytes a → IsPadded json Encodes bytes a
  padded_of same bytes a (spaced front core back b v c) = padded (whitespace_of front b) (same core a v) (whitespace_of back c)

-- ---- strings

-- the byte that means itself
itself : Item → ℕ
itself (raw byte) = byte
itself (escape letter byte) = 0
itself (unit braces digits) = 0

characters_of : (items : List Item) → AllByRecursion (IsItem json) items → AllByRecursion (λ item. item ≢ raw 34) items → AllByRecursion IsCharacter items
characters_of [] each inside = tt
characters_of (raw byte ∷ items) each inside = ((each.0.1, λ e. inside.0 (ap raw e), each.0.0), characters_of items each.1 inside.1)
characters_of (escape letter byte ∷ items) each inside = (each.0, characters_of items each.1 inside.1)
characters_of (unit false digits ∷ items) each inside = ((refl, each.0.0, each.0.1), characters_of items each.1 inside.1)
characters_of (unit true digits ∷ items) each inside = absurd (each.0.2 refl)

items_of : (items : List Item) → AllByRecursion IsCharacter items → AllByRecursion (IsItem json) items
items_of [] each = tt
items_of (raw byte ∷ items) each = ((each.0.2, each.0.0), items_of items each.1)
items_of (escape letter byte ∷ items) each = (each.0, items_of items each.1)
items_of (unit false digits ∷ items) each = ((each.0.1, each.0.2, λ e. absurd cc), items_of items each.1)
items_of (unit true digits ∷ items) each = absurd (let never : true ≡ false = each.0.0 in cc)

inside_of : (items : List Item) → AllByRecursion IsCharacter items → AllByRecursion (λ item. item ≢ raw 34) items
unfolding itself
inside_of [] each = tt
inside_of (raw byte ∷ items) each = (λ e. each.0.1 (ap itself e), inside_of items each.1)
inside_of (escape letter byte ∷ items) each = (λ e. absurd cc, inside_of items each.1)
inside_of (unit braces digits ∷ items) each = (λ e. absurd cc, inside_of items each.1)

string_of : (quote : ℕ) (bytes text : List ℕ) (mark : Mark) → quote ≡ 34 → Quoted json quote bytes text mark → IsString bytes mark text
string_of quote bytes text mark e s =
    let q : Quoted json 34 bytes text mark = subst (λ c. Quoted json c bytes text mark) e s in
    record {
      characters = q.decodes.items;
      each = characters_of q.decodes.items q.decodes.body.each q.inside;
      quoted = q.encoded ∙ ap (λ body. 34 ∷ (body ++ 34 ∷ [])) q.decodes.body.encoded;
      meant = q.decodes.meant;
      utf8 = q.decodes.utf8;
      marked = q.marked;
    }

quoted_of : (bytes text : List ℕ) (mark : Mark) → IsString bytes mark text → Quoted json 34 bytes text mark
quoted_of bytes text mark s = record {
  body = flat_map encoding s.characters;
  encoded = s.quoted;
  decodes = record {
    items = s.characters;
    body = record { encoded = refl; each = items_of s.characters s.each };
    meant = s.meant;
    utf8 = s.utf8;
  };
  inside = inside_of s.characters s.each;
  marked = s.marked;
}

name_of : (bytes : List ℕ) (key : Mark × List ℕ) → IsKey json bytes key → IsName bytes key
name_of bytes key (quoted_key {quote = quote} {text = text} {mark = mark} q s) = string_of quote bytes text mark q s
name_of bytes key (bare_key is k) = two_modes is

key_of : (bytes : List ℕ) (key : Mark × List ℕ) → IsName bytes key → IsKey json bytes key
key_of bytes key s = quoted_key refl (quoted_of bytes key.1 key.0 s)

-- ---- plain values

literal_name : (bytes : List ℕ) (t : Tree) → IsLiteral json bytes t → IsLiteralName bytes t
literal_name bytes t (null_word w) = subst (λ l. IsLiteralName l null) (sym w) null_name
literal_name bytes t (true_word w) = subst (λ l. IsLiteralName l (boolean true)) (sym w) true_name
literal_name bytes t (false_word w) = subst (λ l. IsLiteralName l (boolean false)) (sym w) false_name

literal_of : (bytes : List ℕ) (t : Tree) → IsLiteralName bytes t → IsLiteral json bytes t
literal_of bytes t null_name = null_word refl
literal_of bytes t true_name = true_word refl
literal_of bytes t false_name = false_word refl

plain_of : (bytes : List ℕ) (t : Tree) → IsScalar json bytes t → IsPlainValue bytes t
plain_of bytes t (literal_value l) = a_literal (literal_name bytes t l)
plain_of bytes t (string_value {quote = quote} {text = text} {mark = mark} q s) = a_string (string_of quote bytes text mark q s)
plain_of bytes t (number_value is) = a_number is

scalar_of : (bytes : List ℕ) (t : Tree) → IsPlainValue bytes t → IsScalar json bytes t
scalar_of bytes t (a_literal l) = literal_value (literal_of bytes t l)
scalar_of bytes t (a_string {text = text} {mark = mark} s) = string_value refl (quoted_of bytes text mark s)
scalar_of bytes t (a_number is) = number_value is

-- ---- arrays and objects

module _ (Value Other : List ℕ → Tree → Type 0) (same : (bytes : List ℕ) (t : Tree) → Value bytes t → Other bytes t) where
  item_spaced : (bytes : List ℕ) (t : Tree) → IsElement json Value bytes t → IsSpaced Other bytes t
  item_spaced bytes t (whole_element p) = spaced_of Value Other same bytes t p
  item_spaced bytes t (empty_element is b) = two_modes is

  pair_of : (bytes : List ℕ) (m : Member) → IsMember json Value bytes m → IsPair Other bytes m
  pair_of bytes m (key_and_value {left = left} {right = right} {key = key} {t = t} k v) = name_and_value (spaced_of (IsKey json) IsName name_of left key k) (spaced_of Value Other same right t v)

  one_value : (bytes : List ℕ) (t : Tree) → IsValue json Value bytes t → IsOneValue Other bytes t
  one_value bytes t (scalar s) = plain_value (plain_of bytes t s)
  one_value bytes t (empty_array {whitespace = whitespace} b) = no_items whitespace (spaces_of whitespace b)
  one_value bytes t (full_array {body = body} {ts = ts} items some) = some_items (same_joined (IsElement json Value) (IsSpaced Other) item_spaced body ts items)
  one_value bytes t (empty_object {whitespace = whitespace} b) = no_pairs whitespace (spaces_of whitespace b)
  one_value bytes t (full_object {body = body} {ms = ms} members distinct) = some_pairs (same_joined (IsMember json Value) (IsPair Other) pair_of body ms members) distinct

module _ (Value Other : List ℕ → Tree → Type 0) (same : (bytes : List ℕ) (t : Tree) → Other bytes t → Value bytes t) where
  element_of : (bytes : List ℕ) (t : Tree) → IsSpaced Other bytes t → IsElement json Value bytes t
  element_of bytes t s = whole_element (padded_of Value Other same bytes t s)

  member_of : (bytes : List ℕ) (m : Member) → IsPair Other bytes m → IsMember json Value bytes m
  member_of bytes m (name_and_value {left = left} {right = right} {name = name} {t = t} k v) = key_and_value (padded_of (IsKey json) IsName key_of left name k) (padded_of Value Other same right t v)

nested : (depth : ℕ) (bytes : List ℕ) (t : Tree) → Derives json depth bytes t → IsNested depth bytes t
nested zero bytes t d = plain_of bytes t d
nested (suc depth) bytes t d = one_value (Derives json depth) (IsNested depth) (nested depth) bytes t d

derived : (depth : ℕ) (bytes : List ℕ) (t : Tree) → IsNested depth bytes t → Derives json depth bytes t
derived zero bytes t v = scalar_of bytes t v
derived (suc depth) bytes t (plain_value v) = scalar (scalar_of bytes t v)
derived (suc depth) bytes t (no_items spaces b) = empty_array (whitespace_of spaces b)
derived (suc depth) bytes t (some_items {body = body} {ts = ts} items) =
    let elements = same_joined (IsSpaced (IsNested depth)) (IsElement json (Derives json depth)) (element_of (Derives json depth) (IsNested depth) (derived depth)) body ts items in
    full_array elements (no_whitespace_elements json json (λ is. is) (λ is. is) (Derives json depth) (value_starts json depth) body ts elements (λ is. two_modes is))
derived (suc depth) bytes t (no_pairs spaces b) = empty_object (whitespace_of spaces b)
derived (suc depth) bytes t (some_pairs {body = body} {ms = ms} pairs distinct) =
    full_object (same_joined (IsPair (IsNested depth)) (IsMember json (Derives json depth)) (member_of (Derives json depth) (IsNested depth) (derived depth)) body ms pairs) distinct

-- ---- texts

text_of : (bytes : List ℕ) (t : Tree) → IsDocument json bytes t → IsJsonText bytes t
text_of bytes t (value_alone {before = before} {core = core} {after = after} b d a) = spaced before core after (spaces_of before b) (nested max_depth core t d) (last_spaces after a)
text_of bytes t (whitespace_alone is b) = two_modes is

document_of : (bytes : List ℕ) (t : Tree) → IsJsonText bytes t → IsDocument json bytes t
document_of bytes t (spaced front core back b v c) = value_alone (whitespace_of front b) (derived max_depth core t v) (whitespace_to_end (whitespace_of back c))

pub json_texts : (bytes : List ℕ) (t : Tree) → IsDocument json bytes t ↔ IsJsonText bytes t
json_texts bytes t = (text_of bytes t, document_of bytes t)
