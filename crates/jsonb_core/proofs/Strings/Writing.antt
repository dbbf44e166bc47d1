-- A written string round-trips.
use Rattle.std.proofs.Common.{List, [], ◌∷◌, ◌≡◌, ◌≢◌, ℕ, ◌/◌, ◌%◌, ◌<◌, ◌≤◌, ◌++◌, map, Bool, true, false, cond, eqb, ltb, Some, sym, ap, ◌∙◌, subst, arith, refl, eqb-true, ltb-true, ltb-false, ◌||◌, All}
use Rattle.std.proofs.lemmas.Str.{encode_ascii, digit_value-digit_char}
use Rattle.std.proofs.lemmas.Bool.Decides.{nat_tests}
use Rattle.std.proofs.lemmas.List.Elements.{All-from_recursion}
use Rattle.std.proofs.lemmas.Bool.{eqb-false}
use Rattle.std.specs.Str.{IsUtf8}
use Rattle.std.specs.Char.{digit_char, digit_value, encode_utf8}
use Rattle.std.specs.List.{flat_map, AllByRecursion}
use Rattle.jsonb_spec.specs.Mode.{Mode, standard, extended, json, extended_json, Strictness, strict, lenient, strictness}
use Rattle.jsonb_spec.specs.Grammar.StringBody.{Item, raw, escape, unit, encoding, escaped_byte, IsItem, IsHexDigit, alone, meaning, MayBeRaw}
use Rattle.jsonb_spec.specs.Grammar.Quoted.{mark_of, Quoted}
use Rattle.jsonb_spec.specs.Tree.{Mark}
use Rattle.jsonb_spec.specs.Text.StringText.{control_text, byte_text, quoted_text}
use Rattle.jsonb_core.proofs.Strings.Units.{alone-character}
use Rattle.jsonb_core.proofs.Strings.Meaning.{meaning-raw, meaning-escape, meaning-alone}
use Rattle.std.specs.Char.Utf16.{is_high_surrogate, is_low_surrogate}
use Rattle.std.specs.Str.Parse.{digits_value}

-- the digits of a control byte
abbrev pub control_digits : ℕ → List ℕ
control_digits byte = 48 ∷ 48 ∷ digit_char (byte / 16) ∷ digit_char (byte % 16) ∷ []

-- the item that a byte is written as
abbrev pub item_of : ℕ → Item
item_of byte =
    cond (eqb byte 34) (escape 34 34)
    (cond (eqb byte 92) (escape 92 92)
    (cond (eqb byte 10) (escape 110 10) (cond (eqb byte 13) (escape 114 13) (cond (eqb byte 9) (escape 116 9) (cond (ltb byte 32) (unit false (control_digits byte)) (raw byte))))))

pick : (P : Item → List ℕ → Type 0) (b : Bool) (x y : Item) (s t : List ℕ) → (b ≡ true → P x s) → (b ≡ false → P y t) → P (cond b x y) (cond b s t)
pick P true x y s t f g = f refl
pick P false x y s t f g = g refl

-- a byte that is no control character may mean itself in each mode
pub high_may_be_raw : (mode : Mode) (byte : ℕ) → 32 ≤ byte → MayBeRaw mode byte
high_may_be_raw standard byte high = tt
high_may_be_raw extended byte high = tt
high_may_be_raw json byte high = high
high_may_be_raw extended_json byte high = tt

-- What holds of each way to write a byte holds of the item of a byte.
by_cases : (P : ℕ → Item → List ℕ → Type 0) (byte : ℕ) → P 34 (escape 34 34) (92 ∷ 34 ∷ []) → P 92 (escape 92 92) (92 ∷ 92 ∷ []) → P 10 (escape 110 10) (92 ∷ 110 ∷ []) → P 13 (escape 114 13) (92 ∷ 114 ∷ []) → P 9 (escape 116 9) (92 ∷ 116 ∷ [])
    → (byte < 32 → P byte (unit false (control_digits byte)) (control_text byte)) → (byte ≢ 34 → byte ≢ 92 → 32 ≤ byte → P byte (raw byte) (byte ∷ [])) → P byte (item_of byte) (byte_text byte)
by_cases P byte quote backslash feed return tab control other =
    let at = λ (n : ℕ) (x : Item) (s : List ℕ) (holds : P n x s) (same : eqb byte n ≡ true). subst (λ b. P b x s) (sym (eqb-true byte n same)) holds in
    pick (P byte) (eqb byte 34) _ _ _ _ (at 34 _ _ quote) (λ no_quote.
    pick (P byte) (eqb byte 92) _ _ _ _ (at 92 _ _ backslash) (λ no_backslash.
    pick (P byte) (eqb byte 10) _ _ _ _ (at 10 _ _ feed) (λ no_feed.
    pick (P byte) (eqb byte 13) _ _ _ _ (at 13 _ _ return) (λ no_return.
    pick (P byte) (eqb byte 9) _ _ _ _ (at 9 _ _ tab) (λ no_tab.
    pick (P byte) (ltb byte 32) _ _ _ _ (λ low. control (ltb-true byte 32 low)) (λ high. other (eqb-false byte 34 no_quote) (eqb-false byte 92 no_backslash) (ltb-false byte 32 high)))))))

pub encoding-item_of : (byte : ℕ) → encoding (item_of byte) ≡ byte_text byte
encoding-item_of byte = by_cases (λ b item text. encoding item ≡ text) byte refl refl refl refl refl (λ low. refl) (λ no_quote no_backslash high. refl)

escapes_as : (mode : Strictness) → (escaped_byte mode 34 ≡ Some 34) × (escaped_byte mode 92 ≡ Some 92) × (escaped_byte mode 110 ≡ Some 10) × (escaped_byte mode 114 ≡ Some 13) × (escaped_byte mode 116 ≡ Some 9)
escapes_as strict = (refl, refl, refl, refl, refl)
escapes_as lenient = (refl, refl, refl, refl, refl)

control_values : (byte : ℕ) → byte < 32 → (digit_value (digit_char (byte / 16)) ≡ byte / 16) × (digit_value (digit_char (byte % 16)) ≡ byte % 16)
control_values byte low = (digit_value-digit_char (byte / 16) (omega arith), digit_value-digit_char (byte % 16) (omega arith))

control_each : (byte : ℕ) → byte < 32 → All IsHexDigit (control_digits byte)
control_each byte low =
    let values = control_values byte low in
    let zero_digit : IsHexDigit 48 = omega arith in
    let first : IsHexDigit (digit_char (byte / 16)) = subst (λ n. n < 16) (sym values.0) (omega arith) in
    let second : IsHexDigit (digit_char (byte % 16)) = subst (λ n. n < 16) (sym values.1) (omega arith) in
    All-from_recursion IsHexDigit (control_digits byte) (zero_digit, (zero_digit, (first, (second, tt))))

pub item-item_of : (mode : Mode) (byte : ℕ) → IsItem mode (item_of byte)
item-item_of mode byte =
    let e = escapes_as (strictness mode) in
    by_cases (λ b item text. IsItem mode item) byte e.0 e.1 e.2 e.3 e.4 (λ low. (refl, control_each byte low, λ e. cc)) (λ no_quote no_backslash high. (no_backslash, high_may_be_raw mode byte high))

pub inside-item_of : (byte : ℕ) → item_of byte ≢ raw 34
inside-item_of byte =
    by_cases (λ b item text. item ≢ raw 34) byte (λ e. cc) (λ e. cc) (λ e. cc) (λ e. cc) (λ e. cc) (λ low e. cc)
    (λ no_quote no_backslash high e. no_quote (let same : byte ≡ 34 = cc in same))

unit_value-control : (byte : ℕ) → byte < 32 → digits_value 16 (control_digits byte) ≡ byte
unit_value-control byte low = let values = control_values byte low in omega (arith, values.0, values.1)

not_high : (byte : ℕ) → byte < 32 → is_high_surrogate byte ≡ false
not_high byte low = grind (arith, nat_tests)

not_low : (byte : ℕ) → byte < 32 → is_low_surrogate byte ≡ false
not_low byte low = grind (arith, nat_tests)

alone-control : (byte : ℕ) → byte < 32 → alone (control_digits byte) ≡ byte ∷ []
alone-control byte low =
    let value = unit_value-control byte low in
    let whole : (is_high_surrogate (digits_value 16 (control_digits byte)) || is_low_surrogate (digits_value 16 (control_digits byte))) ≡ false =
    ap (λ n. is_high_surrogate n || is_low_surrogate n) value ∙ ap (λ b. b || is_low_surrogate byte) (not_high byte low) ∙ not_low byte low in
    alone-character (control_digits byte) whole ∙ ap encode_utf8 value ∙ encode_ascii byte (omega (arith, low))

pub meaning-item_of : (byte : ℕ) (tail : List Item) → meaning (item_of byte ∷ tail) ≡ byte ∷ meaning tail
meaning-item_of byte tail =
    by_cases (λ b item text. meaning (item ∷ tail) ≡ b ∷ meaning tail) byte (meaning-escape 34 34 tail) (meaning-escape 92 92 tail) (meaning-escape 110 10 tail) (meaning-escape 114 13 tail) (meaning-escape 116 9 tail)
    (λ low. meaning-alone false (control_digits byte) tail (ap is_high_surrogate (unit_value-control byte low) ∙ not_high byte low) ∙ ap (λ front. front ++ meaning tail) (alone-control byte low))
    (λ no_quote no_backslash high. meaning-raw byte tail)

-- ---- a whole text

encoding-items_of : (text : List ℕ) → flat_map byte_text text ≡ flat_map encoding (map item_of text)
encoding-items_of [] = refl
encoding-items_of (byte ∷ text) = ap (λ front. front ++ flat_map byte_text text) (sym (encoding-item_of byte)) ∙ ap (λ rest. encoding (item_of byte) ++ rest) (encoding-items_of text)

each-items_of : (mode : Mode) (text : List ℕ) → AllByRecursion (IsItem mode) (map item_of text)
each-items_of mode [] = tt
each-items_of mode (byte ∷ text) = (item-item_of mode byte, each-items_of mode text)

inside-items_of : (text : List ℕ) → AllByRecursion (λ item. item ≢ raw 34) (map item_of text)
inside-items_of [] = tt
inside-items_of (byte ∷ text) = (inside-item_of byte, inside-items_of text)

meaning-items_of : (text : List ℕ) → meaning (map item_of text) ≡ text
unfolding meaning
meaning-items_of [] = refl
meaning-items_of (byte ∷ text) = meaning-item_of byte (map item_of text) ∙ ap (λ rest. byte ∷ rest) (meaning-items_of text)

-- what is written is a string in double quotes that means the text
pub reads_back : (mode : Mode) (text : List ℕ) → IsUtf8 text → (mark : Mark) × Quoted mode 34 (quoted_text text) text mark
reads_back mode text utf8 = (
  mark_of (map item_of text),
  record {
    body = flat_map byte_text text;
    encoded = refl;
    decodes = record {
      items = map item_of text;
      body = record { encoded = encoding-items_of text; each = each-items_of mode text };
      meant = sym (meaning-items_of text);
      utf8 = utf8;
    };
    inside = inside-items_of text;
    marked = refl;
  },
)

-- the item that a byte is written as says the byte
pub one_byte : (b c : ℕ) → item_of b ≡ item_of c → b ≡ c
unfolding meaning
one_byte b c e =
    let bytes : b ∷ [] ≡ c ∷ [] = sym (meaning-item_of b []) ∙ ap (λ item. meaning (item ∷ [])) e ∙ meaning-item_of c [] in
    cc
