-- A document of a mode is one of each mode that has its pieces of whitespace, its strings, its words and its numbers.
use Rattle.std.proofs.Common.{◌≡◌, ℕ, zero, suc, false, List, [], ◌∷◌, ◌++◌, refl, sym, ap, subst, ◌∙◌, append-nil, append_assoc}
use Rattle.std.specs.List.{AllByRecursion}
use Rattle.jsonb_spec.specs.Grammar.Whitespace.{IsWhitespacePiece, space, tab, line_feed, form_feed, carriage_return, written_line_feed, written_carriage_return, written_tab, written_form_feed, block_comment, line_comment, IsWhitespace, no_whitespace, more_whitespace, IsLastWhitespace, whitespace_to_end, line_to_end}
use Rattle.jsonb_spec.specs.Grammar.{IsPadded, padded, IsJoined, one_part, more_parts, IsElement, whole_element, empty_element, IsMember, key_and_value, IsValue, scalar, empty_array, full_array, empty_object, full_object, Derives, max_depth, IsDocument, value_alone, whitespace_alone}
use Rattle.jsonb_spec.specs.Grammar.Quoted.{Quoted}
use Rattle.jsonb_spec.specs.Grammar.Scalar.{IsLiteral, IsQuote, IsNumber, IsScalar, literal_value, string_value, number_value, IsKey, quoted_key, bare_key}
use Rattle.jsonb_spec.specs.Grammar.StringBody.{Item, IsItem}
use Rattle.jsonb_spec.specs.Mode.{Mode, IsLenient, GoesBeyondJson, strictness}
use Rattle.jsonb_spec.specs.Tree.{Mark, Num, Tree, Member}
use Rattle.jsonb_spec.specs.Parsing.Whitespace.{is_whitespace_start, skip_closed_whitespace}
use Rattle.text_scan.proofs.Text.Whitespace.{pass-whitespace, pass-stop, pass-nil}
use Rattle.text_scan.proofs.Containers.JoinedParts.{Starts, other}
use Rattle.text_parse.proofs.Containers.Values.{value_is_complete}

-- what the one mode has of the leaves, but for numbers, the other has too
pub record HasLeaves (m n : Mode) : Type 0 where
  pub lenient : IsLenient m → IsLenient n
  pub beyond : GoesBeyondJson m → GoesBeyondJson n
  pub quote : (byte : ℕ) → IsQuote (strictness m) byte → IsQuote (strictness n) byte
  pub item : (item : Item) → IsItem m item → IsItem n item
  pub literal : (bytes : List ℕ) (t : Tree) → IsLiteral m bytes t → IsLiteral n bytes t

-- and of the numbers
abbrev pub HasNumbers : Mode → Mode → Type 0
HasNumbers m n = (bytes : List ℕ) (x : Num) → IsNumber m bytes x → IsNumber n bytes x

-- ---- whitespace

-- a value's first byte begins no whitespace
pub value_starts : (mode : Mode) (depth : ℕ) (bytes : List ℕ) (t : Tree) → Derives mode depth bytes t → Starts bytes
value_starts mode depth bytes t d =
    let complete = value_is_complete 0 mode depth in
    let st = complete.starts bytes t d in
    record { first = st.first; others = st.others; whole = st.whole; is_start = st.is_start }

-- whitespace and a byte that begins none are no whitespace
ends_whitespace : (mode : Mode) (before rest : List ℕ) (byte : ℕ) → IsWhitespace mode before → is_whitespace_start byte ≡ false → IsWhitespace mode (before ++ byte ∷ rest) → ⊥
ends_whitespace mode before rest byte front stop all =
    let left : skip_closed_whitespace mode (before ++ byte ∷ rest) ≡ byte ∷ rest = pass-whitespace front (byte ∷ rest) ∙ pass-stop mode byte rest stop in
    let none : skip_closed_whitespace mode (before ++ byte ∷ rest) ≡ [] = ap (skip_closed_whitespace mode) (sym (append-nil (before ++ byte ∷ rest))) ∙ pass-whitespace all [] ∙ pass-nil mode in
    let clash : [] ≡ byte ∷ rest = sym none ∙ left in
    cc

module _ (m n : Mode) (lenient : IsLenient m → IsLenient n) (beyond : GoesBeyondJson m → GoesBeyondJson n) where
  same_piece : (piece : List ℕ) → IsWhitespacePiece m piece → IsWhitespacePiece n piece
  same_piece piece space = space
  same_piece piece tab = tab
  same_piece piece line_feed = line_feed
  same_piece piece (form_feed is) = form_feed (beyond is)
  same_piece piece carriage_return = carriage_return
  same_piece piece (written_line_feed is) = written_line_feed (beyond is)
  same_piece piece (written_carriage_return is) = written_carriage_return (beyond is)
  same_piece piece (written_tab is) = written_tab (beyond is)
  same_piece piece (written_form_feed is) = written_form_feed (beyond is)
  same_piece piece (block_comment inside is lacks) = block_comment inside (lenient is) lacks
  same_piece piece (line_comment inside last is one ends) = line_comment inside last (lenient is) one ends

  pub same_whitespace : (whitespace : List ℕ) → IsWhitespace m whitespace → IsWhitespace n whitespace
  same_whitespace whitespace no_whitespace = no_whitespace
  same_whitespace whitespace (more_whitespace {piece = piece} {rest = rest} one others) = more_whitespace (same_piece piece one) (same_whitespace rest others)

  pub same_last : (whitespace : List ℕ) → IsLastWhitespace m whitespace → IsLastWhitespace n whitespace
  same_last whitespace (whitespace_to_end {whitespace = before} b) = whitespace_to_end (same_whitespace before b)
  same_last whitespace (line_to_end {whitespace = before} inside is b one) = line_to_end inside (lenient is) (same_whitespace before b) one

  -- elements that aren't whitespace in the one mode aren't in the other
  pub no_whitespace_elements : (Value : List ℕ → Tree → Type 0) → ((bytes : List ℕ) (t : Tree) → Value bytes t → Starts bytes) → (body : List ℕ) (ts : List Tree) → IsJoined (IsElement m Value) body ts
      → (IsLenient m → IsWhitespace m body → ⊥) → IsWhitespace n body → ⊥
  no_whitespace_elements Value starts body ts (one_part {a = t} (whole_element (padded {before = before} {core = core} {after = after} b v a))) some all =
      let st = starts core t v in
      ends_whitespace n before (st.others ++ after) st.first (same_whitespace before b) (other st.first st.is_start).piece (subst (λ u. IsWhitespace n (before ++ (u ++ after))) st.whole all)
  no_whitespace_elements Value starts body ts (one_part (empty_element is b)) some all = some is b
  no_whitespace_elements Value starts body ts (more_parts {rest = rest} {a = t} (whole_element (padded {before = before} {core = core} {after = after} b v a)) others) some all =
      let st = starts core t v in
      let split : (before ++ (core ++ after)) ++ 44 ∷ rest ≡ before ++ st.first ∷ (st.others ++ (after ++ 44 ∷ rest)) =
      append_assoc before (core ++ after) (44 ∷ rest) ∙ ap (λ u. before ++ u) (append_assoc core after (44 ∷ rest)) ∙ ap (λ u. before ++ (u ++ (after ++ 44 ∷ rest))) st.whole in
      ends_whitespace n before (st.others ++ (after ++ 44 ∷ rest)) st.first (same_whitespace before b) (other st.first st.is_start).piece (subst (IsWhitespace n) split all)
  no_whitespace_elements Value starts body ts (more_parts {first = first} {rest = rest} (empty_element is b) others) some all = ends_whitespace n first rest 44 (same_whitespace first b) refl all

-- ---- scalars and keys

module _ (m n : Mode) (leaves : HasLeaves m n) where
  same_items : (items : List Item) → AllByRecursion (IsItem m) items → AllByRecursion (IsItem n) items
  same_items [] each = tt
  same_items (item ∷ items) each = (leaves.item item each.0, same_items items each.1)

  pub same_quoted : (quote : ℕ) (bytes text : List ℕ) (mark : Mark) → Quoted m quote bytes text mark → Quoted n quote bytes text mark
  same_quoted quote bytes text mark q = record {
    body = q.body;
    encoded = q.encoded;
    decodes = record {
      items = q.decodes.items;
      body = record { encoded = q.decodes.body.encoded; each = same_items q.decodes.items q.decodes.body.each };
      meant = q.decodes.meant;
      utf8 = q.decodes.utf8;
    };
    inside = q.inside;
    marked = q.marked;
  }

  pub same_key : (bytes : List ℕ) (key : Mark × List ℕ) → IsKey m bytes key → IsKey n bytes key
  same_key bytes key (quoted_key {quote = quote} {text = text} {mark = mark} q s) = quoted_key (leaves.quote quote q) (same_quoted quote bytes text mark s)
  same_key bytes key (bare_key is k) = bare_key (leaves.lenient is) k

  same_scalar : HasNumbers m n → (bytes : List ℕ) (t : Tree) → IsScalar m bytes t → IsScalar n bytes t
  same_scalar numbers bytes t (literal_value l) = literal_value (leaves.literal bytes t l)
  same_scalar numbers bytes t (string_value {quote = quote} {text = text} {mark = mark} q s) = string_value (leaves.quote quote q) (same_quoted quote bytes text mark s)
  same_scalar numbers bytes t (number_value {n = x} is) = number_value (numbers bytes x is)

  pub whitespace_of : (bytes : List ℕ) → IsWhitespace m bytes → IsWhitespace n bytes
  whitespace_of bytes b = same_whitespace m n leaves.lenient leaves.beyond bytes b

  same_padded : {A : Type 0} (Encodes Other : List ℕ → A → Type 0) → ((bytes : List ℕ) (a : A) → Encodes bytes a → Other bytes a) → (bytes : List ℕ) (a : A) → IsPadded m Encodes bytes a → IsPadded n Other bytes a
  same_padded Encodes Other same bytes a (padded {before = before} {core = core} {after = after} b v c) = padded (whitespace_of before b) (same core a v) (whitespace_of after c)

-- ---- containers

pub same_joined : {A : Type 0} (Encodes Other : List ℕ → A → Type 0) → ((bytes : List ℕ) (a : A) → Encodes bytes a → Other bytes a) → (bytes : List ℕ) (parts : List A) → IsJoined Encodes bytes parts → IsJoined Other bytes parts
same_joined Encodes Other same bytes parts (one_part {a = a} e) = one_part (same bytes a e)
same_joined Encodes Other same bytes parts (more_parts {first = first} {rest = rest} {a = a} {others = others} e more) = more_parts (same first a e) (same_joined Encodes Other same rest others more)

module _ (m n : Mode) (leaves : HasLeaves m n) (numbers : HasNumbers m n) (Value Other : List ℕ → Tree → Type 0) (same : (bytes : List ℕ) (t : Tree) → Value bytes t → Other bytes t) (starts : (bytes : List ℕ) (t : Tree) → Value bytes t → Starts bytes) where
  same_element : (bytes : List ℕ) (t : Tree) → IsElement m Value bytes t → IsElement n Other bytes t
  same_element bytes t (whole_element p) = whole_element (same_padded m n leaves Value Other same bytes t p)
  same_element bytes t (empty_element is b) = empty_element (leaves.lenient is) (whitespace_of m n leaves bytes b)

  same_member : (bytes : List ℕ) (e : Member) → IsMember m Value bytes e → IsMember n Other bytes e
  same_member bytes e (key_and_value {left = left} {right = right} {key = key} {t = t} k v) =
      key_and_value (same_padded m n leaves (IsKey m) (IsKey n) (same_key m n leaves) left key k) (same_padded m n leaves Value Other same right t v)

  same_value : (bytes : List ℕ) (t : Tree) → IsValue m Value bytes t → IsValue n Other bytes t
  same_value bytes t (scalar s) = scalar (same_scalar m n leaves numbers bytes t s)
  same_value bytes t (empty_array {whitespace = whitespace} b) = empty_array (whitespace_of m n leaves whitespace b)
  same_value bytes t (full_array {body = body} {ts = ts} items some) =
      full_array (same_joined (IsElement m Value) (IsElement n Other) same_element body ts items) (no_whitespace_elements m n leaves.lenient leaves.beyond Value starts body ts items (λ _. some))
  same_value bytes t (empty_object {whitespace = whitespace} b) = empty_object (whitespace_of m n leaves whitespace b)
  same_value bytes t (full_object {body = body} {ms = ms} members distinct) =
      full_object (same_joined (IsMember m Value) (IsMember n Other) same_member body ms members) distinct

same_derived : (m n : Mode) → HasLeaves m n → HasNumbers m n → (depth : ℕ) (bytes : List ℕ) (t : Tree) → Derives m depth bytes t → Derives n depth bytes t
same_derived m n leaves numbers zero bytes t d = same_scalar m n leaves numbers bytes t d
same_derived m n leaves numbers (suc depth) bytes t d = same_value m n leaves numbers (Derives m depth) (Derives n depth) (same_derived m n leaves numbers depth) (value_starts m depth) bytes t d

-- each document of the one mode is one of the other, of the same tree
pub same_document : (m n : Mode) → HasLeaves m n → HasNumbers m n → (bytes : List ℕ) (t : Tree) → IsDocument m bytes t → IsDocument n bytes t
same_document m n leaves numbers bytes t (value_alone {before = before} {core = core} {after = after} b d a) =
    value_alone (whitespace_of m n leaves before b) (same_derived m n leaves numbers max_depth core t d) (same_last m n leaves.lenient leaves.beyond after a)
same_document m n leaves numbers bytes t (whitespace_alone is b) = whitespace_alone (leaves.lenient is) (same_last m n leaves.lenient leaves.beyond bytes b)
