-- Each standard document is an extended one, of a tree that is the same.
use Rattle.std.proofs.Common.{List, [], ◌∷◌, ◌≡◌, ◌≢◌, ◌⊎◌, ℕ, zero, suc, ◌+◌, ◌<◌, ◌≤◌, ◌^◌, ◌++◌, length, drop, Bool, true, false, cond, eqb, eqb-true, Some, None, Ordering, Less, Equal, Greater, refl, sym, subst, ap, ◌∙◌, arith, append_assoc, append-nil, inl, inr, ⊎_elim, map, pos, neg_ℤ}
use Rattle.std.specs.Prelude.{slice_index, replicate, FitsSigned}
use Rattle.std.specs.Int.{w64}
use Rattle.std.specs.Cmp.{tied_itself}
use Rattle.std.specs.Char.{to_ascii_lowercase}
use Rattle.std.specs.Fmt.{decimal, sign_text}
use Rattle.std.specs.List.{AllByRecursion}
use Rattle.std.specs.Cmp.Lexicographic.{slice_cmp}
use Rattle.std.specs.Ordering.{nat_cmp, ordering_then, match_ordering}
use Rattle.std.specs.Str.Parse.{AllDigits, digits_value, starts_with_minus}
use Rattle.std.proofs.lemmas.Bool.{cases_eq}
use Rattle.std.proofs.lemmas.Fmt.{decimal-digits_value, length-decimal-le}
use Rattle.std.proofs.lemmas.List.{nil_from_length}
use Rattle.jsonb_spec.specs.Grammar.Whitespace.{IsWhitespacePiece, space, tab, line_feed, form_feed, carriage_return, written_line_feed, written_carriage_return, written_tab, written_form_feed, block_comment, line_comment, IsWhitespace, no_whitespace, more_whitespace, IsLastWhitespace, whitespace_to_end, line_to_end}
use Rattle.jsonb_spec.specs.Grammar.ExtendedNumber.{decimal_number}
use Rattle.jsonb_spec.specs.Grammar.{IsPadded, padded, IsJoined, one_part, more_parts, IsElement, whole_element, empty_element, IsMember, key_and_value, AreDistinct, IsValue, scalar, empty_array, full_array, empty_object, full_object, Derives, max_depth, IsDocument, value_alone, whitespace_alone}
use Rattle.jsonb_spec.specs.Mode.{standard, extended, strict, lenient}
use Rattle.jsonb_spec.specs.Order.{bytes_cmp, tree_cmp, trees_cmp, members_cmp, Same}
use Rattle.jsonb_core.specs.Order.Laws.{tree_cmp_total}
use Rattle.jsonb_spec.specs.Grammar.Quoted.{Quoted}
use Rattle.jsonb_spec.specs.Grammar.Scalar.{IsLiteral, IsScalar, literal_value, string_value, number_value, null_word, true_word, false_word, IsKey, quoted_key, bare_key}
use Rattle.jsonb_spec.specs.Number.Signed.{signed_by}
use Rattle.jsonb_spec.specs.Grammar.StandardNumber.{IsWhole, IsInteger, IsStandardNumber}
use Rattle.jsonb_spec.specs.Grammar.StringBody.{Item, raw, escape, unit, escaped_byte, IsItem, standard_escape}
use Rattle.jsonb_spec.specs.Tree.{Mark, Num, Tree, number, array, object, trees_of, Members, no_members, more_members, Member, put, put_all}
use Rattle.jsonb_core.proofs.Order.ByContent.{both_tie, same_bytes as known_bytes}
use Rattle.jsonb_core.proofs.Numbers.DecimalTexts.{sign_is}
use Rattle.jsonb_core.proofs.Numbers.InRange.{decimals}
use Rattle.jsonb_core.proofs.Numbers.Texts.{IsDigit, Begins, begun, digit_bytes}
use Rattle.jsonb_core.proofs.Trees.OneText.{same_numbers, same_bytes, both_equal, IsTextByte}
use Rattle.jsonb_core.proofs.Trees.Runs.{heads}
use Rattle.jsonb_core.proofs.Trees.TextsReadBack.{EncodesSameNumber, no_whitespace_alone}

-- the modes differ
two_modes : {A : Type 0} → strict ≡ lenient → A
two_modes e = cc

-- ---- whitespace

wider_piece : (piece : List ℕ) → IsWhitespacePiece standard piece → IsWhitespacePiece extended piece
wider_piece piece space = space
wider_piece piece tab = tab
wider_piece piece line_feed = line_feed
wider_piece piece (form_feed beyond) = form_feed beyond
wider_piece piece carriage_return = carriage_return
wider_piece piece (written_line_feed beyond) = written_line_feed beyond
wider_piece piece (written_carriage_return beyond) = written_carriage_return beyond
wider_piece piece (written_tab beyond) = written_tab beyond
wider_piece piece (written_form_feed beyond) = written_form_feed beyond
wider_piece piece (block_comment inside m lacks) = two_modes m
wider_piece piece (line_comment inside last m one ends) = two_modes m

wider_whitespace : (whitespace : List ℕ) → IsWhitespace standard whitespace → IsWhitespace extended whitespace
wider_whitespace whitespace no_whitespace = no_whitespace
wider_whitespace whitespace (more_whitespace {piece = piece} {rest = rest} one others) = more_whitespace (wider_piece piece one) (wider_whitespace rest others)

wider_last : (whitespace : List ℕ) → IsLastWhitespace standard whitespace → IsLastWhitespace extended whitespace
wider_last whitespace (whitespace_to_end b) = whitespace_to_end (wider_whitespace whitespace b)
wider_last whitespace (line_to_end inside m b one) = two_modes m

-- the bytes behind a piece that is no comment
after_backslash : List ℕ → List ℕ
after_backslash [] = []
after_backslash (b ∷ bytes) = cond (eqb b 120) (drop 2 bytes) bytes

after_piece : List ℕ → List ℕ
after_piece [] = []
after_piece (b ∷ bytes) = cond (eqb b 92) (after_backslash bytes) bytes

-- a piece of standard mode, by its first byte and by what is behind it
record IsPlainWhitespacePiece (piece rest : List ℕ) : Type 0 where
  first : ℕ
  others : List ℕ
  joined : piece ++ rest ≡ first ∷ others
  no_slash : first ≢ 47
  after : after_piece (piece ++ rest) ≡ rest

plain_piece : (piece rest : List ℕ) → IsWhitespacePiece standard piece → IsPlainWhitespacePiece piece rest
unfolding after_piece after_backslash
plain_piece piece rest space = record { first = 32; others = rest; joined = refl; no_slash = λ e. absurd (omega (arith, e)); after = refl }
plain_piece piece rest tab = record { first = 9; others = rest; joined = refl; no_slash = λ e. absurd (omega (arith, e)); after = refl }
plain_piece piece rest line_feed = record { first = 10; others = rest; joined = refl; no_slash = λ e. absurd (omega (arith, e)); after = refl }
plain_piece piece rest (form_feed beyond) = record { first = 12; others = rest; joined = refl; no_slash = λ e. absurd (omega (arith, e)); after = refl }
plain_piece piece rest carriage_return = record { first = 13; others = rest; joined = refl; no_slash = λ e. absurd (omega (arith, e)); after = refl }
plain_piece piece rest (written_line_feed beyond) = record { first = 92; others = 110 ∷ rest; joined = refl; no_slash = λ e. absurd (omega (arith, e)); after = refl }
plain_piece piece rest (written_carriage_return beyond) = record { first = 92; others = 114 ∷ rest; joined = refl; no_slash = λ e. absurd (omega (arith, e)); after = refl }
plain_piece piece rest (written_tab beyond) = record { first = 92; others = 116 ∷ rest; joined = refl; no_slash = λ e. absurd (omega (arith, e)); after = refl }
plain_piece piece rest (written_form_feed beyond) = record { first = 92; others = 120 ∷ 48 ∷ 67 ∷ rest; joined = refl; no_slash = λ e. absurd (omega (arith, e)); after = refl }
plain_piece piece rest (block_comment inside m lacks) = two_modes m
plain_piece piece rest (line_comment inside last m one ends) = two_modes m

-- a piece of extended mode is a comment or one of standard mode
extended_piece : (piece rest : List ℕ) → IsWhitespacePiece extended piece → (after_piece (piece ++ rest) ≡ rest) ⊎ ((tail : List ℕ) × (piece ++ rest ≡ 47 ∷ tail))
unfolding after_piece after_backslash
extended_piece piece rest space = inl refl
extended_piece piece rest tab = inl refl
extended_piece piece rest line_feed = inl refl
extended_piece piece rest (form_feed beyond) = inl refl
extended_piece piece rest carriage_return = inl refl
extended_piece piece rest (written_line_feed beyond) = inl refl
extended_piece piece rest (written_carriage_return beyond) = inl refl
extended_piece piece rest (written_tab beyond) = inl refl
extended_piece piece rest (written_form_feed beyond) = inl refl
extended_piece piece rest (block_comment inside m lacks) = inr (42 ∷ ((inside ++ 42 ∷ 47 ∷ []) ++ rest), refl)
extended_piece piece rest (line_comment inside last m one ends) = inr (47 ∷ ((inside ++ last ∷ []) ++ rest), refl)

-- standard whitespace and a value are no whitespace of extended mode
piece_first : (piece more whole : List ℕ) → IsWhitespacePiece standard piece → ((left : List ℕ) → left ≡ more → IsWhitespace extended left → ⊥) → whole ≡ piece ++ more → IsWhitespace extended whole → ⊥
piece_first piece more whole one again e no_whitespace =
    let p = plain_piece piece more one in
    let clash : [] ≡ p.first ∷ p.others = e ∙ p.joined in
    cc
piece_first piece more whole one again e (more_whitespace {piece = comment} {rest = left} first others) =
    let p = plain_piece piece more one in
    ⊎_elim
    (λ plain. again left (sym plain ∙ ap after_piece e ∙ p.after) others)
    (λ slash. p.no_slash (heads p.first 47 p.others slash.0 (sym (e ∙ p.joined) ∙ slash.1)))
    (extended_piece comment left first)

begins_value : (before bytes whole : List ℕ) → IsWhitespace standard before → Begins IsTextByte bytes → whole ≡ before ++ bytes → IsWhitespace extended whole → ⊥
begins_value before bytes whole no_whitespace b e all = no_whitespace_alone extended bytes b (subst (IsWhitespace extended) e all)
begins_value before bytes whole (more_whitespace {piece = piece} {rest = rest} one others) b e all =
    piece_first piece (rest ++ bytes) whole one (λ left f. begins_value rest bytes left others b f) (e ∙ append_assoc piece rest bytes) all

-- ---- numbers

zero_alone : (whole : List ℕ) → slice_index whole 0 ≡ 48 → length whole ≡ 1 → whole ≡ 48 ∷ []
zero_alone [] first one = absurd (omega (arith, one))
zero_alone (b ∷ bytes) first one = λ i. first i ∷ nil_from_length bytes (omega (arith, one)) i

few_digits : (whole : List ℕ) → IsWhole whole → digits_value 10 whole < 2 ^ 64 → length whole ≤ 20
few_digits whole w small =
    let same : decimal (digits_value 10 whole) ≡ whole = decimal-digits_value decimals whole w.digits.1 w.digits.0 w.no_needless_zero small in
    omega (arith, ap length same, length-decimal-le 20 (digits_value 10 whole) (omega arith) (omega (arith, small)) small)

negative_small : (value : ℕ) → FitsSigned w64 (neg_ℤ (pos value)) → value < 2 ^ 64
negative_small zero fits = omega arith
negative_small (suc n) fits = omega (arith, fits.sfits)

integer_value : (negative : Bool) (value : ℕ) (n : Num) → IsInteger negative value n → (value < 2 ^ 64) × (n.scale ≡ 0) × (n.whole ≡ signed_by negative value)
integer_value false value n is = (is.0, ap (λ (m : Num). m.scale) is.1, ap (λ (m : Num). m.whole) is.1)
integer_value true value n is = (negative_small value is.0, ap (λ (m : Num). m.scale) is.1, ap (λ (m : Num). m.whole) is.1)

-- an integer text is a decimal text, whose zeros are apart from its other digits
decimal_parts : (bytes : List ℕ) (negative : Bool) (whole zeros digits : List ℕ) (n : Num) → bytes ≡ sign_text negative ++ whole → whole ≡ zeros ++ digits → zeros ≡ replicate (length zeros) 48 → AllDigits 10 digits → slice_index digits 0 ≢ 48
    → 0 < length zeros + length digits → length digits ≤ 38 → n.scale ≡ 0 → n.whole ≡ signed_by negative (digits_value 10 digits) → EncodesSameNumber extended bytes n
decimal_parts bytes negative whole zeros digits n joined split are_zeros each first some few scaled value =
    let sign = sign_text negative in
    let s = sign_is negative in
    record {
      read = decimal_number 0 (length digits + 0) (signed_by (starts_with_minus sign) (digits_value 10 (digits ++ [])));
      is_number = inl (
        sign,
        zeros,
        digits,
        None,
        record {
          joined = joined ∙ ap (λ w. sign ++ w) (split ∙ ap (λ w. zeros ++ w) (sym (append-nil digits)));
          is_sign = s.0;
          are_zeros = are_zeros;
          whole_digits = each;
          no_zero_first = first;
          digits_behind = tt;
          some_digit = omega (arith, some);
        },
        (omega (arith, few), refl),
      );
      scales = sym scaled;
      wholes = (λ i. signed_by (s.1 i) (digits_value 10 (append-nil digits i))) ∙ sym value;
    }

standard_is_decimal : (bytes : List ℕ) (n : Num) → IsStandardNumber bytes n → EncodesSameNumber extended bytes n
standard_is_decimal bytes n (negative, whole, joined, is_whole, is) =
    let v = integer_value negative (digits_value 10 whole) n is in
    ⊎_elim
    (λ zero_first.
    let one = zero_alone whole zero_first (is_whole.no_needless_zero zero_first) in
    decimal_parts bytes negative whole (48 ∷ []) [] n joined one refl tt (λ e. absurd (omega (arith, e))) (omega arith) (omega arith) v.1 (v.2 ∙ ap (λ ds. signed_by negative (digits_value 10 ds)) one))
    (λ other. decimal_parts bytes negative whole [] whole n joined refl refl is_whole.digits.1 other (omega (arith, is_whole.digits.0)) (omega (arith, few_digits whole is_whole v.0)) v.1 v.2)
    (cases_eq (slice_index whole 0) 48)

-- ---- strings and words

wider_escape : (letter byte : ℕ) → escaped_byte strict letter ≡ Some byte → escaped_byte lenient letter ≡ Some byte
wider_escape letter byte is = picked (eqb letter 39) (eqb-true letter 39)
  where
    picked : (b : Bool) → (b ≡ true → letter ≡ 39) → cond b (Some 39) (standard_escape letter) ≡ Some byte
    picked true quote = let none : escaped_byte strict letter ≡ None = ap (escaped_byte strict) (quote refl) in cc
    picked false quote = is

wider_item : (item : Item) → IsItem standard item → IsItem extended item
wider_item (raw byte) is = is
wider_item (escape letter byte) is = wider_escape letter byte is
wider_item (unit braces digits) is = is

wider_items : (items : List Item) → AllByRecursion (IsItem standard) items → AllByRecursion (IsItem extended) items
wider_items [] each = tt
wider_items (item ∷ items) each = (wider_item item each.0, wider_items items each.1)

wider_quoted : (quote : ℕ) (bytes text : List ℕ) (mark : Mark) → Quoted standard quote bytes text mark → Quoted extended quote bytes text mark
wider_quoted quote bytes text mark q = record {
  body = q.body;
  encoded = q.encoded;
  decodes = record {
    items = q.decodes.items;
    body = record { encoded = q.decodes.body.encoded; each = wider_items q.decodes.items q.decodes.body.each };
    meant = q.decodes.meant;
    utf8 = q.decodes.utf8;
  };
  inside = q.inside;
  marked = q.marked;
}

wider_key : (bytes : List ℕ) (key : Mark × List ℕ) → IsKey standard bytes key → IsKey extended bytes key
wider_key bytes key (quoted_key {quote = quote} {text = text} {mark = mark} q s) = quoted_key (inl q) (wider_quoted quote bytes text mark s)
wider_key bytes key (bare_key m k) = two_modes m

wider_padded_key : (bytes : List ℕ) (key : Mark × List ℕ) → IsPadded standard (IsKey standard) bytes key → IsPadded extended (IsKey extended) bytes key
wider_padded_key bytes key (padded {before = before} {core = core} {after = after} b k a) = padded (wider_whitespace before b) (wider_key core key k) (wider_whitespace after a)

wider_literal : (bytes : List ℕ) (t : Tree) → IsLiteral standard bytes t → IsLiteral extended bytes t
wider_literal bytes t (null_word w) = null_word (ap (map to_ascii_lowercase) w)
wider_literal bytes t (true_word w) = true_word (ap (map to_ascii_lowercase) w)
wider_literal bytes t (false_word w) = false_word (ap (map to_ascii_lowercase) w)

-- ---- values

-- the bytes encode a tree that is the same
record EncodeSame (Encodes : List ℕ → Tree → Type 0) (bytes : List ℕ) (t : Tree) : Type 0 where
  tree : Tree
  is : Encodes bytes tree
  same : tree_cmp tree t ≡ Equal

same_tree : (t : Tree) → tree_cmp t t ≡ Equal
same_tree t = tied_itself tree_cmp_total t

wider_scalar : (bytes : List ℕ) (t : Tree) → IsScalar standard bytes t → EncodeSame (IsScalar extended) bytes t
wider_scalar bytes t (literal_value l) = record { tree = t; is = literal_value (wider_literal bytes t l); same = same_tree t }
wider_scalar bytes t (string_value {quote = quote} {text = text} {mark = mark} q s) = record { tree = t; is = string_value (inl q) (wider_quoted quote bytes text mark s); same = same_tree t }
wider_scalar bytes t (number_value {n = n} is) =
    let r = standard_is_decimal bytes n is in
    record { tree = number r.read; is = number_value r.is_number; same = same_numbers r.read n r.scales r.wholes }

-- a value's encoding begins as its text does
encoded_first : (negative : Bool) (whole : List ℕ) → IsWhole whole → Begins IsTextByte (sign_text negative ++ whole)
encoded_first true whole w = record { first = 45; rest = whole; joined = refl; is = (omega arith, omega arith, omega arith, omega arith, omega arith, omega arith) }
encoded_first false whole w =
    let b = begun IsDigit whole w.digits.0 (digit_bytes whole w.digits.1) in
    record { first = b.first; rest = b.rest; joined = b.joined; is = (omega (arith, b.is), omega (arith, b.is), omega (arith, b.is), omega (arith, b.is), omega (arith, b.is), omega (arith, b.is)) }

first_is : (b : ℕ) (bytes whole : List ℕ) → whole ≡ b ∷ bytes → IsTextByte b → Begins IsTextByte whole
first_is b bytes whole e is = record { first = b; rest = bytes; joined = e; is = is }

literal_first : (bytes : List ℕ) (t : Tree) → IsLiteral standard bytes t → Begins IsTextByte bytes
literal_first bytes t (null_word w) = first_is 110 (117 ∷ 108 ∷ 108 ∷ []) bytes w (omega arith, omega arith, omega arith, omega arith, omega arith, omega arith)
literal_first bytes t (true_word w) = first_is 116 (114 ∷ 117 ∷ 101 ∷ []) bytes w (omega arith, omega arith, omega arith, omega arith, omega arith, omega arith)
literal_first bytes t (false_word w) = first_is 102 (97 ∷ 108 ∷ 115 ∷ 101 ∷ []) bytes w (omega arith, omega arith, omega arith, omega arith, omega arith, omega arith)

quote_byte : (quote : ℕ) → quote ≡ 34 → IsTextByte quote
quote_byte quote e = (omega (arith, e), omega (arith, e), omega (arith, e), omega (arith, e), omega (arith, e), omega (arith, e))

scalar_first : (bytes : List ℕ) (t : Tree) → IsScalar standard bytes t → Begins IsTextByte bytes
scalar_first bytes t (literal_value l) = literal_first bytes t l
scalar_first bytes t (string_value {quote = quote} q s) = first_is quote (s.body ++ quote ∷ []) bytes s.encoded (quote_byte quote q)
scalar_first bytes t (number_value {n = n} (negative, whole, joined, is_whole, is)) =
    subst (Begins IsTextByte) (sym joined) (encoded_first negative whole is_whole)

value_first : (depth : ℕ) (bytes : List ℕ) (t : Tree) → Derives standard depth bytes t → Begins IsTextByte bytes
value_first zero bytes t d = scalar_first bytes t d
value_first (suc depth) bytes t (scalar s) = scalar_first bytes t s
value_first (suc depth) bytes t (empty_array {whitespace = whitespace} b) = first_is 91 (whitespace ++ 93 ∷ []) _ refl (omega arith, omega arith, omega arith, omega arith, omega arith, omega arith)
value_first (suc depth) bytes t (full_array {body = body} items some) = first_is 91 (body ++ 93 ∷ []) _ refl (omega arith, omega arith, omega arith, omega arith, omega arith, omega arith)
value_first (suc depth) bytes t (empty_object {whitespace = whitespace} b) = first_is 123 (whitespace ++ 125 ∷ []) _ refl (omega arith, omega arith, omega arith, omega arith, omega arith, omega arith)
value_first (suc depth) bytes t (full_object {body = body} members distinct) = first_is 123 (body ++ 125 ∷ []) _ refl (omega arith, omega arith, omega arith, omega arith, omega arith, omega arith)

-- ---- members that are put in

same_picked : (o : Ordering) (a b c d e f : Members) → members_cmp a d ≡ Equal → members_cmp b e ≡ Equal → members_cmp c f ≡ Equal → members_cmp (match_ordering o a b c) (match_ordering o d e f) ≡ Equal
same_picked Less a b c d e f p q r = p
same_picked Equal a b c d e f p q r = q
same_picked Greater a b c d e f p q r = r

next_same : (k l : List ℕ) (t u : Tree) (ms ns : Members) → k ≡ l → tree_cmp t u ≡ Equal → members_cmp ms ns ≡ Equal → members_cmp (more_members k t ms) (more_members l u ns) ≡ Equal
next_same k l t u ms ns e p q = both_equal (bytes_cmp k l) (ordering_then (tree_cmp t u) (members_cmp ms ns)) (same_bytes k l e) (both_equal (tree_cmp t u) (members_cmp ms ns) p q)

put_same : (k : List ℕ) (t u : Tree) (ms ns : Members) → tree_cmp t u ≡ Equal → members_cmp ms ns ≡ Equal → members_cmp (put k t ms) (put k u ns) ≡ Equal
put_same k t u no_members no_members p q = next_same k k t u no_members no_members refl p refl
put_same k t u no_members (more_members m w ns) p q = cc
put_same k t u (more_members l v ms) no_members p q = cc
put_same k t u (more_members l v ms) (more_members m w ns) p q =
    let keys = both_tie (bytes_cmp l m) (ordering_then (tree_cmp v w) (members_cmp ms ns)) q in
    let parts = both_tie (tree_cmp v w) (members_cmp ms ns) keys.1 in
    let name = (known_bytes l m).0 keys.0 in
    subst
    (λ o. members_cmp (put k t (more_members l v ms)) (match_ordering o (more_members k u (more_members m w ns)) (more_members m u ns) (more_members m w (put k u ns))) ≡ Equal)
    (ap (slice_cmp nat_cmp k) name)
    (same_picked (slice_cmp nat_cmp k l) (more_members k t (more_members l v ms)) (more_members l t ms) (more_members l v (put k t ms)) (more_members k u (more_members m w ns)) (more_members m u ns) (more_members m w (put k u ns))
    (next_same k k t u (more_members l v ms) (more_members m w ns) refl p q)
    (next_same l m t u ms ns name p parts.1)
    (next_same l m v w (put k t ms) (put k u ns) name parts.0 (put_same k t u ms ns p parts.1)))

-- the same keys with trees that are the same, one after the other
abbrev SameMembers : List Member → List Member → Type 0
SameMembers [] [] = Unit {0}
SameMembers [] (f ∷ fs) = ⊥
SameMembers (e ∷ es) [] = ⊥
SameMembers (e ∷ es) (f ∷ fs) = (e.0 ≡ f.0) × (tree_cmp e.1 f.1 ≡ Equal) × SameMembers es fs

put_all_same : (es fs : List Member) (ms ns : Members) → SameMembers es fs → members_cmp ms ns ≡ Equal → members_cmp (put_all es ms) (put_all fs ns) ≡ Equal
put_all_same [] [] ms ns h q = q
put_all_same [] (f ∷ fs) ms ns h q = absurd h
put_all_same (e ∷ es) [] ms ns h q = absurd h
put_all_same (e ∷ es) (f ∷ fs) ms ns h q =
    put_all_same es fs (put e.0 e.1 ms) (put f.0 f.1 ns) h.2 (subst (λ k. members_cmp (put e.0 e.1 ms) (put k f.1 ns) ≡ Equal) h.0 (put_same e.0 e.1 f.1 ms ns h.1 q))

same_keys : (es fs : List Member) → SameMembers es fs → map (λ (m : Member). m.0) fs ≡ map (λ (m : Member). m.0) es
same_keys [] [] h = refl
same_keys [] (f ∷ fs) h = absurd h
same_keys (e ∷ es) [] h = absurd h
same_keys (e ∷ es) (f ∷ fs) h = let others = same_keys es fs h.2 in λ i. sym h.0 i ∷ others i

-- ---- containers, where the values inside of them are extended ones too

module _ (Value Other : List ℕ → Tree → Type 0) (wider : (bytes : List ℕ) (t : Tree) → Value bytes t → EncodeSame Other bytes t) (first : (bytes : List ℕ) (t : Tree) → Value bytes t → Begins IsTextByte bytes) where
  wider_padded : (bytes : List ℕ) (t : Tree) → IsPadded standard Value bytes t → EncodeSame (IsPadded extended Other) bytes t
  wider_padded bytes t (padded {before = before} {core = core} {after = after} b v a) =
      let w = wider core t v in
      record { tree = w.tree; is = padded (wider_whitespace before b) w.is (wider_whitespace after a); same = w.same }

  wider_element : (bytes : List ℕ) (t : Tree) → IsElement standard Value bytes t → EncodeSame (IsElement extended Other) bytes t
  wider_element bytes t (whole_element p) = let w = wider_padded bytes t p in record { tree = w.tree; is = whole_element w.is; same = w.same }
  wider_element bytes t (empty_element m b) = two_modes m

  record ItemsSame (bytes : List ℕ) (ts : List Tree) : Type 0 where
    trees : List Tree
    joined : IsJoined (IsElement extended Other) bytes trees
    same : trees_cmp (trees_of trees) (trees_of ts) ≡ Equal

  wider_elements : (bytes : List ℕ) (ts : List Tree) → IsJoined (IsElement standard Value) bytes ts → ItemsSame bytes ts
  wider_elements bytes ts (one_part {a = t} e) =
      let w = wider_element bytes t e in
      record { trees = w.tree ∷ []; joined = one_part w.is; same = both_equal (tree_cmp w.tree t) Equal w.same refl }
  wider_elements bytes ts (more_parts {first = front} {rest = rest} {a = t} {others = us} e others) =
      let w = wider_element front t e in
      let more = wider_elements rest us others in
      record { trees = w.tree ∷ more.trees; joined = more_parts w.is more.joined; same = both_equal (tree_cmp w.tree t) (trees_cmp (trees_of more.trees) (trees_of us)) w.same more.same }

  -- elements are no whitespace of extended mode
  no_whitespace_element : (bytes tail : List ℕ) (t : Tree) → IsElement standard Value bytes t → IsWhitespace extended (bytes ++ tail) → ⊥
  no_whitespace_element bytes tail t (whole_element (padded {before = before} {core = core} {after = after} b v a)) all =
      let f = first core t v in
      begins_value before (core ++ (after ++ tail)) _ b (first_is f.first (f.rest ++ (after ++ tail)) (core ++ (after ++ tail)) (ap (λ front. front ++ (after ++ tail)) f.joined) f.is)
      (append_assoc before (core ++ after) tail ∙ ap (λ more. before ++ more) (append_assoc core after tail)) all
  no_whitespace_element bytes tail t (empty_element m b) all = two_modes m

  no_whitespace_elements : (bytes : List ℕ) (ts : List Tree) → IsJoined (IsElement standard Value) bytes ts → IsWhitespace extended bytes → ⊥
  no_whitespace_elements bytes ts (one_part {a = t} e) all = no_whitespace_element bytes [] t e (subst (IsWhitespace extended) (sym (append-nil bytes)) all)
  no_whitespace_elements bytes ts (more_parts {first = front} {rest = rest} {a = t} e others) all = no_whitespace_element front (44 ∷ rest) t e all

  record MemberSame (bytes : List ℕ) (m : Member) : Type 0 where
    tree : Tree
    is : IsMember extended Other bytes (m.0, tree)
    same : tree_cmp tree m.1 ≡ Equal

  wider_member : (bytes : List ℕ) (m : Member) → IsMember standard Value bytes m → MemberSame bytes m
  wider_member bytes m (key_and_value {left = left} {right = right} {key = key} {t = t} k v) =
      let w = wider_padded right t v in
      record { tree = w.tree; is = key_and_value (wider_padded_key left key k) w.is; same = w.same }

  record MembersSame (bytes : List ℕ) (ms : List Member) : Type 0 where
    members : List Member
    joined : IsJoined (IsMember extended Other) bytes members
    same : SameMembers members ms

  wider_members : (bytes : List ℕ) (ms : List Member) → IsJoined (IsMember standard Value) bytes ms → MembersSame bytes ms
  wider_members bytes ms (one_part {a = m} e) =
      let w = wider_member bytes m e in
      record { members = (m.0, w.tree) ∷ []; joined = one_part w.is; same = (refl, w.same, tt) }
  wider_members bytes ms (more_parts {first = front} {rest = rest} {a = m} {others = ns} e others) =
      let w = wider_member front m e in
      let more = wider_members rest ns others in
      record { members = (m.0, w.tree) ∷ more.members; joined = more_parts w.is more.joined; same = (refl, w.same, more.same) }

  wider_value : (bytes : List ℕ) (t : Tree) → IsValue standard Value bytes t → EncodeSame (IsValue extended Other) bytes t
  wider_value bytes t (scalar s) = let w = wider_scalar bytes t s in record { tree = w.tree; is = scalar w.is; same = w.same }
  wider_value bytes t (empty_array {whitespace = whitespace} b) = record { tree = t; is = empty_array (wider_whitespace whitespace b); same = refl }
  wider_value bytes t (full_array {body = body} {ts = ts} items some) =
      let w = wider_elements body ts items in
      record { tree = array (trees_of w.trees); is = full_array w.joined (no_whitespace_elements body ts items); same = w.same }
  wider_value bytes t (empty_object {whitespace = whitespace} b) = record { tree = t; is = empty_object (wider_whitespace whitespace b); same = refl }
  wider_value bytes t (full_object {body = body} {ms = ms} members distinct) =
      let w = wider_members body ms members in
      record { tree = object (put_all w.members no_members); is = full_object w.joined (subst AreDistinct (same_keys w.members ms w.same) distinct); same = put_all_same w.members ms no_members no_members w.same refl }

wider_derived : (depth : ℕ) (bytes : List ℕ) (t : Tree) → Derives standard depth bytes t → EncodeSame (Derives extended depth) bytes t
wider_derived zero bytes t d = wider_scalar bytes t d
wider_derived (suc depth) bytes t d = wider_value (Derives standard depth) (Derives extended depth) (wider_derived depth) (value_first depth) bytes t d

-- each standard document is an extended one
pub standard_is_extended : (bytes : List ℕ) (t : Tree) → IsDocument standard bytes t → (u : Tree) × IsDocument extended bytes u × Same u t
standard_is_extended bytes t (value_alone {before = before} {core = core} {after = after} b d a) =
    let w = wider_derived max_depth core t d in
    (w.tree, value_alone (wider_whitespace before b) w.is (wider_last after a), w.same)
standard_is_extended bytes t (whitespace_alone m b) = two_modes m
