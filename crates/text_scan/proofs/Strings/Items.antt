-- What is parsed of contents is their items, and each item is parsed.
use Rattle.std.proofs.Common.{List, [], ◌∷◌, ◌≡◌, ◌≢◌, ℕ, zero, suc, ◌+◌, ◌≤◌, ◌++◌, length, take, drop, get_or, Bool, true, false, cond, ◌&&◌, eqb, ltb, Option, Some, None, Ok, Err, ⊎_elim, inl, inr, sym, ap, ◌∙◌, subst, arith, refl, length-append, eqb-true, eq-eqb, ne_eqb, ltb-true, All}
use Rattle.std.proofs.lemmas.List.{append_assoc, append-nil, take_at, drop_at, get_or_at, get_or_append_left, take-append-drop, length-take-le}
use Rattle.std.proofs.lemmas.List.Elements.{All-from_recursion}
use Rattle.std.proofs.lemmas.Bool.{and_parts, cases_Bool, eqb-false, lt-ltb, le-ltb, ltb-false, cond-false, cond-true}
use Rattle.std.proofs.lemmas.Str.{IsUtf8-from_is_utf8, is_utf8-from_IsUtf8}
use Rattle.std.specs.Char.{digit_value}
use Rattle.std.specs.Str.{is_utf8, IsUtf8}
use Rattle.std.specs.List.{flat_map, AllByRecursion}
use Rattle.jsonb_spec.specs.Mode.{Mode, strictness, GoesBeyondJson}
use Rattle.jsonb_spec.specs.Tree.{Mark}
use Rattle.jsonb_spec.specs.Code.{Code, control_character_while_parsing_string, invalid_string_value, invalid_escaped, invalid_hex, unexpected_end_of_hex_escape}
use Rattle.jsonb_spec.specs.Grammar.StringBody.{Item, raw, escape, unit, after_u, encoding, IsItem, IsHexDigit, IsBody, MayBeRaw, MayHaveBraces, escaped_byte, meaning}
use Rattle.jsonb_spec.specs.Grammar.StringFault.{IsUnitCut, BadUnit, cut_unit, bad_digit, BadItem, cut_escape, unknown_escape, bad_unit, control_character, IsCutShort, IsNoText, IsFaultyBody}
use Rattle.jsonb_spec.specs.Grammar.Quoted.{mark_of}
use Rattle.jsonb_core.proofs.Strings.Encoding.{escape_is_not_u, encoding_not_empty}
use Rattle.jsonb_core.proofs.Strings.Writing.{high_may_be_raw}
use Rattle.jsonb_spec.specs.Parsing.Decoding.{AreContents}
use Rattle.jsonb_spec.specs.Parsing.{goes_beyond_json}
use Rattle.jsonb_spec.specs.Parsing.String.{Body, non_digit, checked_unit, unit_of, unit_at, known_escape, escape_at, may_be_raw, raw_at, item_at, onto, then_items, items_within, meaning_of, body_of}
use Rattle.text_scan.proofs.Steps.Modes.{beyond-true, true-beyond, raw-true, true-raw}
use Rattle.text_scan.proofs.Steps.Tests.{chosen}

-- ---- digits

digit_high : (b : ℕ) → ¬ (IsHexDigit b) → ltb (digit_value b) 16 ≡ false
digit_high b h = le-ltb (digit_value b) 16 (omega (arith, h))

all_rest : (b : ℕ) (bytes : List ℕ) → All IsHexDigit (b ∷ bytes) → All IsHexDigit bytes
all_rest b bytes all k d low = all (suc k) d (omega (arith, low))

non_digit-all : (bytes : List ℕ) → All IsHexDigit bytes → non_digit bytes ≡ None
non_digit-all [] all = refl
non_digit-all (b ∷ bytes) all = cond-true (ltb (digit_value b) 16) (non_digit bytes) (Some b) (lt-ltb (digit_value b) 16 (all 0 0 (omega arith))) ∙ non_digit-all bytes (all_rest b bytes all)

non_digit-first : (digits : List ℕ) (b : ℕ) (more : List ℕ) → All IsHexDigit digits → ¬ (IsHexDigit b) → non_digit (digits ++ b ∷ more) ≡ Some b
non_digit-first [] b more all here = cond-false (ltb (digit_value b) 16) (non_digit more) (Some b) (digit_high b here)
non_digit-first (d ∷ digits) b more all here =
    cond-true (ltb (digit_value d) 16) (non_digit (digits ++ b ∷ more)) (Some d) (lt-ltb (digit_value d) 16 (all 0 0 (omega arith))) ∙ non_digit-first digits b more (all_rest d digits all) here

digits_from_none : (bytes : List ℕ) → non_digit bytes ≡ None → AllByRecursion IsHexDigit bytes
digits_from_none [] e = tt
digits_from_none (b ∷ bytes) e =
    elim (chosen (ltb (digit_value b) 16) (non_digit bytes) (Some b) None e) [
      | inl t ↦ (ltb-true (digit_value b) 16 t.0, digits_from_none bytes t.1)
      | inr f ↦ absurd (let never : ◌≡◌ {A = Option ℕ} (Some b) None = f.1 in cc)
    ]

-- ---- what follows `\u`, of four bytes or more

-- where a brace opens
abbrev pub braced_unit : List ℕ → Body Item
braced_unit bytes = cond (eqb (get_or bytes 5 0) 125) (unit_of true (take 4 (drop 1 bytes))) (Err (unexpected_end_of_hex_escape, 2))

-- with a brace or without
abbrev pub long_unit : Mode → List ℕ → Body Item
long_unit mode bytes = cond (goes_beyond_json mode && eqb (get_or bytes 0 0) 123) (braced_unit bytes) (unit_of false (take 4 bytes))

long-braced : (mode : Mode) (bytes : List ℕ) → GoesBeyondJson mode → get_or bytes 0 0 ≡ 123 → long_unit mode bytes ≡ braced_unit bytes
long-braced mode bytes beyond first =
    cond-true (goes_beyond_json mode && eqb (get_or bytes 0 0) 123) (braced_unit bytes) (unit_of false (take 4 bytes))
    (ap (λ (t : Bool). t && eqb (get_or bytes 0 0) 123) (beyond-true mode beyond) ∙ eq-eqb (get_or bytes 0 0) 123 first)

pub long-bare : (mode : Mode) (bytes : List ℕ) → (GoesBeyondJson mode → get_or bytes 0 0 ≢ 123) → long_unit mode bytes ≡ unit_of false (take 4 bytes)
long-bare mode bytes other = cond-false (goes_beyond_json mode && eqb (get_or bytes 0 0) 123) (braced_unit bytes) (unit_of false (take 4 bytes)) (none (goes_beyond_json mode) refl)
  where
    none : (t : Bool) → goes_beyond_json mode ≡ t → (t && eqb (get_or bytes 0 0) 123) ≡ false
    none true is = ne_eqb (get_or bytes 0 0) 123 (other (true-beyond mode is))
    none false is = refl

-- ---- what is parsed is an item

-- The bytes begin with the item.
pub record BeginsWith (mode : Mode) (bytes : List ℕ) (item : Item) : Type 0 where
  pub is_item : IsItem mode item
  pub rest : List ℕ
  pub whole : bytes ≡ encoding item ++ rest

unit_read : (mode : Mode) (braces : Bool) (bytes digits rest : List ℕ) (x : Item) → MayHaveBraces mode braces → bytes ≡ after_u braces digits ++ rest → length digits ≡ 4 → unit_of braces digits ≡ Ok x → BeginsWith mode (92 ∷ 117 ∷ bytes) x
unit_read mode braces bytes digits rest x may split four e = by_test (non_digit digits) refl e
  where
    by_test : (found : Option ℕ) → non_digit digits ≡ found → checked_unit braces digits found ≡ Ok x → BeginsWith mode (92 ∷ 117 ∷ bytes) x
    by_test None none e' =
        let same : unit braces digits ≡ x = cc in
        subst (λ (y : Item). BeginsWith mode (92 ∷ 117 ∷ bytes) y) same
        (record { is_item = (four, All-from_recursion IsHexDigit digits (digits_from_none digits none), may); rest = rest; whole = ap (λ (u : List ℕ). 92 ∷ 117 ∷ u) split })
    by_test (Some b) some e' = absurd (let never : ◌≡◌ {A = Body Item} (Err (invalid_hex b, 2 + length (after_u braces digits))) (Ok x) = e' in cc)

opened : (bytes : List ℕ) → get_or bytes 0 0 ≡ 123 → get_or bytes 5 0 ≡ 125 → bytes ≡ after_u true (take 4 (drop 1 bytes)) ++ drop 6 bytes
opened [] e f = absurd cc
opened (a ∷ []) e f = absurd cc
opened (a ∷ b ∷ []) e f = absurd cc
opened (a ∷ b ∷ c ∷ []) e f = absurd cc
opened (a ∷ b ∷ c ∷ d ∷ []) e f = absurd cc
opened (a ∷ b ∷ c ∷ d ∷ g ∷ []) e f = absurd cc
opened (a ∷ b ∷ c ∷ d ∷ g ∷ h ∷ rest) e f = cc

opened_four : (bytes : List ℕ) → get_or bytes 5 0 ≡ 125 → length (take 4 (drop 1 bytes)) ≡ 4
opened_four [] f = absurd cc
opened_four (a ∷ []) f = absurd cc
opened_four (a ∷ b ∷ []) f = absurd cc
opened_four (a ∷ b ∷ c ∷ []) f = absurd cc
opened_four (a ∷ b ∷ c ∷ d ∷ []) f = absurd cc
opened_four (a ∷ b ∷ c ∷ d ∷ g ∷ []) f = absurd cc
opened_four (a ∷ b ∷ c ∷ d ∷ g ∷ h ∷ rest) f = refl

unit_sound : (mode : Mode) (bytes : List ℕ) (x : Item) → unit_at mode bytes ≡ Ok x → BeginsWith mode (92 ∷ 117 ∷ bytes) x
unfolding unit_at
unit_sound mode bytes x e =
    elim (chosen (ltb (length bytes) 4) (Err (unexpected_end_of_hex_escape, 2)) (long_unit mode bytes) (Ok x) e) [
      | inl t ↦ absurd (let never : ◌≡◌ {A = Body Item} (Err (unexpected_end_of_hex_escape, 2)) (Ok x) = t.1 in cc)
      | inr f ↦ elim (chosen (goes_beyond_json mode && eqb (get_or bytes 0 0) 123) (braced_unit bytes) (unit_of false (take 4 bytes)) (Ok x) f.1) [
        | inl t ↦ elim (chosen (eqb (get_or bytes 5 0) 125) (unit_of true (take 4 (drop 1 bytes))) (Err (unexpected_end_of_hex_escape, 2)) (Ok x) t.1) [
          | inl u ↦
              let both = and_parts (goes_beyond_json mode) (eqb (get_or bytes 0 0) 123) t.0 in
              let close = eqb-true (get_or bytes 5 0) 125 u.0 in
              unit_read mode true bytes (take 4 (drop 1 bytes)) (drop 6 bytes) x (λ braces. true-beyond mode both.0) (opened bytes (eqb-true (get_or bytes 0 0) 123 both.1) close) (opened_four bytes close) u.1
          | inr v ↦ absurd (let never : ◌≡◌ {A = Body Item} (Err (unexpected_end_of_hex_escape, 2)) (Ok x) = v.1 in cc)
        ]
        | inr g ↦ unit_read mode false bytes (take 4 bytes) (drop 4 bytes) x (λ braces. cc) (sym (take-append-drop 4 bytes)) (length-take-le 4 bytes (ltb-false (length bytes) 4 f.0)) g.1
      ]
    ]

known_sound : (mode : Mode) (letter : ℕ) (bytes : List ℕ) (x : Item) (found : Option ℕ) → escaped_byte (strictness mode) letter ≡ found → known_escape letter found ≡ Ok x → BeginsWith mode (92 ∷ letter ∷ bytes) x
known_sound mode letter bytes x None is e = absurd (let never : ◌≡◌ {A = Body Item} (Err (invalid_escaped letter, 2)) (Ok x) = e in cc)
known_sound mode letter bytes x (Some byte) is e =
    let same : escape letter byte ≡ x = cc in
    subst (λ (y : Item). BeginsWith mode (92 ∷ letter ∷ bytes) y) same (record { is_item = is; rest = bytes; whole = refl })

escape_sound : (mode : Mode) (bytes : List ℕ) (x : Item) → escape_at mode bytes ≡ Ok x → BeginsWith mode (92 ∷ bytes) x
unfolding escape_at
escape_sound mode [] x e = absurd (let never : ◌≡◌ {A = Body Item} (Err (unexpected_end_of_hex_escape, 1)) (Ok x) = e in cc)
escape_sound mode (letter ∷ bytes) x e =
    elim (chosen (eqb letter 117) (unit_at mode bytes) (known_escape letter (escaped_byte (strictness mode) letter)) (Ok x) e) [
      | inl t ↦ let is : letter ≡ 117 = eqb-true letter 117 t.0 in subst (λ (b : ℕ). BeginsWith mode (92 ∷ b ∷ bytes) x) (sym is) (unit_sound mode bytes x t.1)
      | inr f ↦ known_sound mode letter bytes x (escaped_byte (strictness mode) letter) refl f.1
    ]

pub item_sound : (mode : Mode) (byte : ℕ) (bytes : List ℕ) (x : Item) → item_at mode byte bytes ≡ Ok x → BeginsWith mode (byte ∷ bytes) x
unfolding item_at
item_sound mode byte bytes x e =
    elim (chosen (eqb byte 92) (escape_at mode bytes) (raw_at mode byte) (Ok x) e) [
      | inl t ↦ let is : byte ≡ 92 = eqb-true byte 92 t.0 in subst (λ (b : ℕ). BeginsWith mode (b ∷ bytes) x) (sym is) (escape_sound mode bytes x t.1)
      | inr f ↦ elim (chosen (may_be_raw mode byte) (Ok (raw byte)) (Err (control_character_while_parsing_string, 1)) (Ok x) f.1) [
        | inl t ↦
            let same : raw byte ≡ x = let both : ◌≡◌ {A = Body Item} (Ok (raw byte)) (Ok x) = t.1 in cc in
            subst (λ (y : Item). BeginsWith mode (byte ∷ bytes) y) same (record { is_item = (eqb-false byte 92 f.0, true-raw mode byte t.0); rest = bytes; whole = refl })
        | inr g ↦ absurd (let never : ◌≡◌ {A = Body Item} (Err (control_character_while_parsing_string, 1)) (Ok x) = g.1 in cc)
      ]
    ]

-- ---- each item is parsed

-- a hexadecimal digit is no brace
pub first_no_brace : (digits more : List ℕ) → length digits ≡ 4 → All IsHexDigit digits → get_or (digits ++ more) 0 0 ≢ 123
first_no_brace digits more four each e =
    let first : get_or digits 0 0 ≡ 123 = sym (get_or_append_left digits more 0 0 (omega (arith, four))) ∙ e in
    let high : IsHexDigit 123 = subst IsHexDigit first (each 0 0 (omega (arith, four))) in absurd (omega (arith, high))

checked-unit : (braces : Bool) (digits : List ℕ) → All IsHexDigit digits → unit_of braces digits ≡ Ok (unit braces digits)
checked-unit braces digits each = ap (checked_unit braces digits) (non_digit-all digits each)

-- what is decided by the first bytes of a unit in braces, and of one without
unit-opened : (mode : Mode) (bytes digits rest : List ℕ) → GoesBeyondJson mode → bytes ≡ after_u true digits ++ rest → length digits ≡ 4 → unit_at mode bytes ≡ unit_of true digits
unfolding unit_at
unit-opened mode bytes digits rest beyond split four =
    let whole : bytes ≡ (123 ∷ digits) ++ 125 ∷ rest = split ∙ append_assoc (123 ∷ digits) (125 ∷ []) rest in
    let long : ltb (length bytes) 4 ≡ false = le-ltb (length bytes) 4 (omega (arith, ap length split, length-append (after_u true digits) rest, length-append digits (125 ∷ []))) in
    let open_brace : get_or bytes 0 0 ≡ 123 = ap (λ xs. get_or xs 0 0) whole in
    let close_brace : get_or bytes 5 0 ≡ 125 = ap (λ xs. get_or xs 5 0) whole ∙ get_or_at (123 ∷ digits) 125 rest 0 5 (omega (arith, four)) in
    let inner : take 4 (drop 1 bytes) ≡ digits = ap (λ xs. take 4 (drop 1 xs)) whole ∙ take_at digits (125 ∷ rest) 4 four in
    cond-false (ltb (length bytes) 4) (Err (unexpected_end_of_hex_escape, 2)) (long_unit mode bytes) long
    ∙ long-braced mode bytes beyond open_brace
    ∙ cond-true (eqb (get_or bytes 5 0) 125) (unit_of true (take 4 (drop 1 bytes))) (Err (unexpected_end_of_hex_escape, 2)) (eq-eqb (get_or bytes 5 0) 125 close_brace)
    ∙ ap (unit_of true) inner

unit-bare : (mode : Mode) (bytes digits rest : List ℕ) → bytes ≡ digits ++ rest → length digits ≡ 4 → (GoesBeyondJson mode → get_or digits 0 0 ≢ 123) → unit_at mode bytes ≡ unit_of false digits
unfolding unit_at
unit-bare mode bytes digits rest split four other =
    let long : ltb (length bytes) 4 ≡ false = le-ltb (length bytes) 4 (omega (arith, ap length split, length-append digits rest)) in
    let first : get_or bytes 0 0 ≡ get_or digits 0 0 = ap (λ xs. get_or xs 0 0) split ∙ get_or_append_left digits rest 0 0 (omega (arith, four)) in
    let inner : take 4 bytes ≡ digits = ap (take 4) split ∙ take_at digits rest 4 four in
    cond-false (ltb (length bytes) 4) (Err (unexpected_end_of_hex_escape, 2)) (long_unit mode bytes) long
    ∙ long-bare mode bytes (λ beyond e. other beyond (sym first ∙ e))
    ∙ ap (unit_of false) inner

unit-either : (mode : Mode) (braces : Bool) (bytes digits rest : List ℕ) → MayHaveBraces mode braces → bytes ≡ after_u braces digits ++ rest → length digits ≡ 4 → (GoesBeyondJson mode → braces ≡ false → get_or digits 0 0 ≢ 123) → unit_at mode bytes ≡ unit_of braces digits
unit-either mode true bytes digits rest may split four other = unit-opened mode bytes digits rest (may refl) split four
unit-either mode false bytes digits rest may split four other = unit-bare mode bytes digits rest split four (λ beyond. other beyond refl)

bare_digits : (braces : Bool) (digits : List ℕ) → length digits ≡ 4 → All IsHexDigit digits → braces ≡ false → get_or digits 0 0 ≢ 123
bare_digits braces digits four each e = λ first. first_no_brace digits [] four each (ap (λ xs. get_or xs 0 0) (append-nil digits) ∙ first)

pub escape-letter : (mode : Mode) (letter : ℕ) (bytes : List ℕ) → letter ≢ 117 → escape_at mode (letter ∷ bytes) ≡ known_escape letter (escaped_byte (strictness mode) letter)
unfolding escape_at
escape-letter mode letter bytes other = cond-false (eqb letter 117) (unit_at mode bytes) (known_escape letter (escaped_byte (strictness mode) letter)) (ne_eqb letter 117 other)

pub escape-u : (mode : Mode) (bytes : List ℕ) → escape_at mode (117 ∷ bytes) ≡ unit_at mode bytes
unfolding escape_at
escape-u mode bytes = refl

pub item-backslash : (mode : Mode) (bytes : List ℕ) → item_at mode 92 bytes ≡ escape_at mode bytes
unfolding item_at
item-backslash mode bytes = refl

item-other : (mode : Mode) (byte : ℕ) (bytes : List ℕ) → byte ≢ 92 → item_at mode byte bytes ≡ raw_at mode byte
unfolding item_at
item-other mode byte bytes other = cond-false (eqb byte 92) (escape_at mode bytes) (raw_at mode byte) (ne_eqb byte 92 other)

pub item-raw : (mode : Mode) (byte : ℕ) (bytes : List ℕ) → byte ≢ 92 → MayBeRaw mode byte → item_at mode byte bytes ≡ Ok (raw byte)
item-raw mode byte bytes other may =
    item-other mode byte bytes other ∙ cond-true (may_be_raw mode byte) (Ok (raw byte)) (Err (control_character_while_parsing_string, 1)) (raw-true mode byte may)

item-control : (mode : Mode) (byte : ℕ) (bytes : List ℕ) → ¬ (MayBeRaw mode byte) → item_at mode byte bytes ≡ Err (control_character_while_parsing_string, 1)
item-control mode byte bytes forbids =
    item-other mode byte bytes (λ e. forbids (subst (MayBeRaw mode) (sym e) (high_may_be_raw mode 92 (omega arith))))
    ∙ cond-false (may_be_raw mode byte) (Ok (raw byte)) (Err (control_character_while_parsing_string, 1)) (⊎_elim (λ may. absurd (forbids (true-raw mode byte may))) (λ no. no) (cases_Bool (may_be_raw mode byte)))

-- ---- the first item of bytes that have one

-- the first item of any bytes, or of none
first_item : Mode → List ℕ → Body Item
first_item mode [] = Ok (raw 0)
first_item mode (b ∷ bytes) = item_at mode b bytes

item_complete : (mode : Mode) (x : Item) (more : List ℕ) → IsItem mode x → first_item mode (encoding x ++ more) ≡ Ok x
unfolding first_item
item_complete mode (raw byte) more is = item-raw mode byte more is.0 is.1
item_complete mode (escape letter byte) more is = item-backslash mode (letter ∷ more) ∙ escape-letter mode letter more (escape_is_not_u mode letter byte is) ∙ ap (known_escape letter) is
item_complete mode (unit braces digits) more is =
    item-backslash mode (117 ∷ (after_u braces digits ++ more)) ∙ escape-u mode (after_u braces digits ++ more)
    ∙ unit-either mode braces (after_u braces digits ++ more) digits more is.2 refl is.0 (λ beyond. bare_digits braces digits is.0 is.1) ∙ checked-unit braces digits is.1

-- ---- the first item of bytes that have none

unit-cut : (mode : Mode) (bytes : List ℕ) → IsUnitCut mode bytes → unit_at mode bytes ≡ Err (unexpected_end_of_hex_escape, 2)
unfolding unit_at
unit-cut mode bytes cut =
    ⊎_elim
    (λ short. cond-true (ltb (length bytes) 4) (Err (unexpected_end_of_hex_escape, 2)) (long_unit mode bytes) (lt-ltb (length bytes) 4 short))
    (λ unclosed.
    ⊎_elim
    (λ short. cond-true (ltb (length bytes) 4) (Err (unexpected_end_of_hex_escape, 2)) (long_unit mode bytes) short)
    (λ long.
    cond-false (ltb (length bytes) 4) (Err (unexpected_end_of_hex_escape, 2)) (long_unit mode bytes) long
    ∙ long-braced mode bytes unclosed.0 unclosed.1
    ∙ cond-false (eqb (get_or bytes 5 0) 125) (unit_of true (take 4 (drop 1 bytes))) (Err (unexpected_end_of_hex_escape, 2)) (ne_eqb (get_or bytes 5 0) 125 unclosed.2))
    (cases_Bool (ltb (length bytes) 4)))
    cut

unit-bad : (mode : Mode) (bytes : List ℕ) (code : Code) (read : ℕ) → BadUnit mode bytes code read → unit_at mode bytes ≡ Err (code, 2 + read)
unit-bad mode bytes code read (cut_unit cut is_code is_read) =
    let count : 2 + read ≡ 2 = omega (arith, is_read) in
    unit-cut mode bytes cut ∙ ap (λ (c : Code). Err (c, 2)) (sym is_code) ∙ ap (λ (n : ℕ). Err (code, n)) (sym count)
unit-bad mode bytes code read (bad_digit braces digits rest byte may split four other first is_code is_read) =
    unit-either mode braces bytes digits rest may split four other
    ∙ ap (checked_unit braces digits) (ap non_digit first.split ∙ non_digit-first first.digits byte first.more first.before first.here)
    ∙ ap (λ (c : Code). Err (c, 2 + length (after_u braces digits))) (sym is_code) ∙ ap (λ (n : ℕ). Err (code, 2 + n)) (sym is_read)

item-bad : (mode : Mode) (bytes : List ℕ) (code : Code) (read : ℕ) → BadItem mode bytes code read → first_item mode bytes ≡ Err (code, read)
unfolding first_item escape_at
item-bad mode bytes code read (cut_escape is is_code is_read) =
    ap (first_item mode) is ∙ item-backslash mode [] ∙ ap (λ (c : Code). Err (c, 1)) (sym is_code) ∙ ap (λ (n : ℕ). Err (code, n)) (sym is_read)
item-bad mode bytes code read (unknown_escape letter rest is other none is_code is_read) =
    ap (first_item mode) is ∙ item-backslash mode (letter ∷ rest) ∙ escape-letter mode letter rest other ∙ ap (known_escape letter) none
    ∙ ap (λ (c : Code). Err (c, 2)) (sym is_code) ∙ ap (λ (n : ℕ). Err (code, n)) (sym is_read)
item-bad mode bytes code read (bad_unit rest steps is bad is_read) =
    ap (first_item mode) is ∙ item-backslash mode (117 ∷ rest) ∙ escape-u mode rest ∙ unit-bad mode rest code steps bad ∙ ap (λ (n : ℕ). Err (code, n)) (sym is_read)
item-bad mode bytes code read (control_character byte rest is forbids is_code is_read) =
    ap (first_item mode) is ∙ item-control mode byte rest forbids ∙ ap (λ (c : Code). Err (c, 1)) (sym is_code) ∙ ap (λ (n : ℕ). Err (code, n)) (sym is_read)

pub item_parsed : (mode : Mode) (x : Item) (byte : ℕ) (bytes more : List ℕ) → byte ∷ bytes ≡ encoding x ++ more → IsItem mode x → item_at mode byte bytes ≡ Ok x
unfolding first_item
item_parsed mode x byte bytes more split is = ap (first_item mode) split ∙ item_complete mode x more is

pub item_faulty : (mode : Mode) (byte : ℕ) (bytes : List ℕ) (code : Code) (read : ℕ) → BadItem mode (byte ∷ bytes) code read → item_at mode byte bytes ≡ Err (code, read)
unfolding first_item
item_faulty mode byte bytes code read bad = item-bad mode (byte ∷ bytes) code read bad

-- ---- all items

ok_or_else : {X : Type 0} → X → Body X → X
ok_or_else x (Ok y) = y
ok_or_else x (Err f) = x

pub same_pair : {A B : Type 0} (a c : A) (b d : B) → ◌≡◌ {A = Body (A × B)} (Ok (a, b)) (Ok (c, d)) → (a ≡ c) × (b ≡ d)
unfolding ok_or_else
same_pair {A} {B} a c b d e =
    let p : ◌≡◌ {A = A × B} (a, b) (c, d) = ap (λ (r : Body (A × B)). ok_or_else (a, b) r) e in
    (ap (λ (x : A × B). x.0) p, ap (λ (x : A × B). x.1) p)

-- a body's items, by its first one
items-first : (n : ℕ) (mode : Mode) (bytes : List ℕ) → bytes ≢ [] → items_within (suc n) mode bytes ≡ then_items (first_item mode bytes) (λ item. items_within n mode (drop (length (encoding item)) bytes))
unfolding items_within first_item
items-first n mode [] some = absurd (some refl)
items-first n mode (b ∷ bytes) some = refl

pub length-encoding : (x : Item) → 1 ≤ length (encoding x)
length-encoding (raw byte) = omega arith
length-encoding (escape letter byte) = omega arith
length-encoding (unit braces digits) = omega arith

pub items-step : (n : ℕ) (mode : Mode) (x : Item) (more : List ℕ) → IsItem mode x → items_within (suc n) mode (encoding x ++ more) ≡ onto x (items_within n mode more)
items-step n mode x more is =
    items-first n mode (encoding x ++ more) (encoding_not_empty x more)
    ∙ ap (λ (r : Body Item). then_items r (λ item. items_within n mode (drop (length (encoding item)) (encoding x ++ more)))) (item_complete mode x more is)
    ∙ ap (λ (rest : List ℕ). onto x (items_within n mode rest)) (drop_at (encoding x) more (length (encoding x)) refl)

-- each body's items are parsed
pub items_complete : (mode : Mode) (n : ℕ) (items : List Item) → AllByRecursion (IsItem mode) items → length (flat_map encoding items) ≤ n → items_within n mode (flat_map encoding items) ≡ Ok items
unfolding items_within
items_complete mode n [] each enough = refl
items_complete mode zero (x ∷ items) each enough = absurd (omega (arith, enough, length-append (encoding x) (flat_map encoding items), length-encoding x))
items_complete mode (suc n) (x ∷ items) each enough =
    items-step n mode x (flat_map encoding items) each.0
    ∙ ap (onto x) (items_complete mode n items each.1 (omega (arith, enough, length-append (encoding x) (flat_map encoding items), length-encoding x)))

bad_some : (mode : Mode) (bytes : List ℕ) (code : Code) (read : ℕ) → BadItem mode bytes code read → bytes ≢ []
bad_some mode bytes code read (cut_escape is is_code is_read) e = cc
bad_some mode bytes code read (unknown_escape letter rest is other none is_code is_read) e = cc
bad_some mode bytes code read (bad_unit rest steps is bad is_read) e = cc
bad_some mode bytes code read (control_character byte rest is forbids is_code is_read) e = cc

-- the fault of bytes that are cut short is found
items-cut : (mode : Mode) (n : ℕ) (items : List Item) (rest : List ℕ) (code : Code) (steps : ℕ) → AllByRecursion (IsItem mode) items → BadItem mode rest code steps → length (flat_map encoding items ++ rest) ≤ n
    → items_within n mode (flat_map encoding items ++ rest) ≡ Err (code, length (flat_map encoding items) + steps)
items-cut mode zero items rest code steps each bad enough =
    absurd (some rest (bad_some mode rest code steps bad) (omega (arith, enough, length-append (flat_map encoding items) rest)))
  where
    some : (xs : List ℕ) → xs ≢ [] → length xs ≢ 0
    some [] other e = other refl
    some (x ∷ xs) other e = omega (arith, e)
items-cut mode (suc n) [] rest code steps each bad enough =
    let count : steps ≡ length (flat_map encoding []) + steps = omega arith in
    items-first n mode rest (bad_some mode rest code steps bad) ∙ ap (λ (r : Body Item). then_items r (λ item. items_within n mode (drop (length (encoding item)) rest))) (item-bad mode rest code steps bad)
    ∙ ap (λ (k : ℕ). Err (code, k)) count
items-cut mode (suc n) (x ∷ items) rest code steps each bad enough =
    let count : length (encoding x) + (length (flat_map encoding items) + steps) ≡ length (flat_map encoding (x ∷ items)) + steps = omega (arith, length-append (encoding x) (flat_map encoding items)) in
    ap (items_within (suc n) mode) (append_assoc (encoding x) (flat_map encoding items) rest)
    ∙ items-step n mode x (flat_map encoding items ++ rest) each.0
    ∙ ap (onto x) (items-cut mode n items rest code steps each.1 bad (omega (arith, enough, ap length (append_assoc (encoding x) (flat_map encoding items) rest), length-append (encoding x) (flat_map encoding items ++ rest), length-encoding x)))
    ∙ ap (λ (k : ℕ). Err (code, k)) count

-- an item before the items of a body
body_onto : (mode : Mode) (bytes : List ℕ) (x : Item) (b : BeginsWith mode bytes x) (items : List Item) (s : Body (List Item)) → ((xs : List Item) → s ≡ Ok xs → IsBody mode b.rest xs) → onto x s ≡ Ok items → IsBody mode bytes items
body_onto mode bytes x b items (Err f) others e = absurd (let never : ◌≡◌ {A = Body (List Item)} (Err (f.0, length (encoding x) + f.1)) (Ok items) = e in cc)
body_onto mode bytes x b items (Ok xs) others e =
    let whole : x ∷ xs ≡ items = let both : ◌≡◌ {A = Body (List Item)} (Ok (x ∷ xs)) (Ok items) = e in cc in
    let rest = others xs refl in
    subst (λ (ys : List Item). IsBody mode bytes ys) whole (record { encoded = b.whole ∙ ap (λ (u : List ℕ). encoding x ++ u) rest.encoded; each = (b.is_item, rest.each) })

left_after : (mode : Mode) (bytes : List ℕ) (x : Item) (b : BeginsWith mode bytes x) → drop (length (encoding x)) bytes ≡ b.rest
left_after mode bytes x b = ap (drop (length (encoding x))) b.whole ∙ drop_at (encoding x) b.rest (length (encoding x)) refl

-- the first item, and then others
sound_first : (mode : Mode) (n b : ℕ) (bytes : List ℕ) (items : List Item) (r : Body Item) → item_at mode b bytes ≡ r → ((x : Item) (first : BeginsWith mode (b ∷ bytes) x) (xs : List Item) → items_within n mode first.rest ≡ Ok xs → IsBody mode first.rest xs)
    → then_items r (λ item. items_within n mode (drop (length (encoding item)) (b ∷ bytes))) ≡ Ok items → IsBody mode (b ∷ bytes) items
sound_first mode n b bytes items (Err f) is others h = absurd (let never : ◌≡◌ {A = Body (List Item)} (Err f) (Ok items) = h in cc)
sound_first mode n b bytes items (Ok x) is others h =
    let first = item_sound mode b bytes x is in
    body_onto mode (b ∷ bytes) x first items (items_within n mode (drop (length (encoding x)) (b ∷ bytes)))
    (λ xs same. others x first xs (ap (items_within n mode) (sym (left_after mode (b ∷ bytes) x first)) ∙ same)) h

-- what is parsed are the items of a body
pub items_sound : (mode : Mode) (n : ℕ) (bytes : List ℕ) (items : List Item) → length bytes ≤ n → items_within n mode bytes ≡ Ok items → IsBody mode bytes items
unfolding items_within
items_sound mode n [] items enough e =
    let same : [] ≡ items = let both : ◌≡◌ {A = Body (List Item)} (Ok []) (Ok items) = e in cc in
    subst (λ (xs : List Item). IsBody mode [] xs) same (record { encoded = refl; each = tt })
items_sound mode zero (b ∷ bytes) items enough e = absurd (omega (arith, enough))
items_sound mode (suc n) (b ∷ bytes) items enough e =
    sound_first mode n b bytes items (item_at mode b bytes) refl
    (λ x first xs same. items_sound mode n first.rest xs (omega (arith, enough, ap length first.whole, length-append (encoding x) first.rest, length-encoding x)) same) e

-- ---- the meaning

-- a body that means this text, with its mark
pub record Means (mode : Mode) (bytes : List ℕ) (mark : Mark) (text : List ℕ) : Type 0 where
  pub items : List Item
  pub body : IsBody mode bytes items
  pub meant : text ≡ meaning items
  pub utf8 : IsUtf8 text
  pub marked : mark ≡ mark_of items

pub body_complete : (mode : Mode) (bytes : List ℕ) (items : List Item) → IsBody mode bytes items → IsUtf8 (meaning items) → body_of mode bytes ≡ Ok (mark_of items, meaning items)
unfolding body_of
body_complete mode bytes items body utf8 =
    let enough : length (flat_map encoding items) ≤ length bytes = omega (arith, ap length body.encoded) in
    let read : items_within (length bytes) mode bytes ≡ Ok items = ap (items_within (length bytes) mode) body.encoded ∙ items_complete mode (length bytes) items body.each enough in
    ap (meaning_of bytes) read ∙ cond-true (is_utf8 (meaning items)) (Ok (mark_of items, meaning items)) (Err (invalid_string_value, length bytes)) (is_utf8-from_IsUtf8 (meaning items) utf8)

no_utf8 : (text : List ℕ) → ¬ (IsUtf8 text) → is_utf8 text ≡ false
no_utf8 text n = ⊎_elim (λ yes. absurd (n (IsUtf8-from_is_utf8 text yes))) (λ no. no) (cases_Bool (is_utf8 text))

pub body_faulty : (mode : Mode) (bytes : List ℕ) (code : Code) (read : ℕ) → IsFaultyBody mode bytes code read → body_of mode bytes ≡ Err (code, read)
unfolding body_of
body_faulty mode bytes code read fault =
    ⊎_elim
    (λ (cut : IsCutShort mode bytes code read).
    let enough : length (flat_map encoding cut.items ++ cut.rest) ≤ length bytes = omega (arith, ap length cut.encoded) in
    ap (meaning_of bytes) (ap (items_within (length bytes) mode) cut.encoded ∙ items-cut mode (length bytes) cut.items cut.rest code cut.steps cut.each cut.bad enough)
    ∙ ap (λ (k : ℕ). Err (code, k)) (sym cut.count))
    (λ (none : IsNoText mode bytes code read).
    let enough : length (flat_map encoding none.items) ≤ length bytes = omega (arith, ap length none.body.encoded) in
    ap (meaning_of bytes) (ap (items_within (length bytes) mode) none.body.encoded ∙ items_complete mode (length bytes) none.items none.body.each enough)
    ∙ cond-false (is_utf8 (meaning none.items)) (Ok (mark_of none.items, meaning none.items)) (Err (invalid_string_value, length bytes)) (no_utf8 (meaning none.items) none.not_utf8)
    ∙ ap (λ (c : Code). Err (c, length bytes)) (sym none.invalid) ∙ ap (λ (k : ℕ). Err (code, k)) (sym none.count))
    fault

pub body_sound : (mode : Mode) (bytes : List ℕ) (mark : Mark) (text : List ℕ) → body_of mode bytes ≡ Ok (mark, text) → Means mode bytes mark text
unfolding body_of
body_sound mode bytes mark text e = by_items (items_within (length bytes) mode bytes) refl e
  where
    by_items : (r : Body (List Item)) → items_within (length bytes) mode bytes ≡ r → meaning_of bytes r ≡ Ok (mark, text) → Means mode bytes mark text
    by_items (Err f) is h = absurd (let never : ◌≡◌ {A = Body (Mark × List ℕ)} (Err f) (Ok (mark, text)) = h in cc)
    by_items (Ok items) is h =
        elim (chosen (is_utf8 (meaning items)) (Ok (mark_of items, meaning items)) (Err (invalid_string_value, length bytes)) (Ok (mark, text)) h) [
          | inl t ↦
              let same = same_pair (mark_of items) mark (meaning items) text t.1 in record {
                items = items;
                body = items_sound mode (length bytes) bytes items (omega arith) is;
                meant = sym same.1;
                utf8 = subst IsUtf8 same.1 (IsUtf8-from_is_utf8 (meaning items) t.0);
                marked = sym same.0;
              }
          | inr f ↦ absurd (let never : ◌≡◌ {A = Body (Mark × List ℕ)} (Err (invalid_string_value, length bytes)) (Ok (mark, text)) = f.1 in cc)
        ]

-- ---- contents that were checked

-- where contents were parsed, no bad item is among them
pub parsed_contents : (mode : Mode) (bytes : List ℕ) (mark : Mark) (text : List ℕ) → body_of mode bytes ≡ Ok (mark, text) → AreContents mode bytes
parsed_contents mode bytes mark text e code left stop =
    let never : ◌≡◌ {A = Body (Mark × List ℕ)} (Ok (mark, text)) (Err (code, stop.read)) = sym e ∙ body_faulty mode bytes code stop.read (inl stop.cut) in
    cc

-- and so none is where they are a body
pub body_contents : (mode : Mode) (bytes : List ℕ) (items : List Item) → IsBody mode bytes items → AreContents mode bytes
body_contents mode bytes items body code left stop =
    let cut = stop.cut in
    let fewer : length (flat_map encoding items) ≤ length bytes = omega (arith, ap length body.encoded) in
    let enough : length (flat_map encoding cut.items ++ cut.rest) ≤ length bytes = omega (arith, ap length cut.encoded) in
    let read : items_within (length bytes) mode bytes ≡ Ok items = ap (items_within (length bytes) mode) body.encoded ∙ items_complete mode (length bytes) items body.each fewer in
    let never : ◌≡◌ {A = Body (List Item)} (Ok items) (Err (code, length (flat_map encoding cut.items) + cut.steps)) = sym read ∙ ap (items_within (length bytes) mode) cut.encoded ∙ items-cut mode (length bytes) cut.items cut.rest code cut.steps cut.each cut.bad enough in
    cc
