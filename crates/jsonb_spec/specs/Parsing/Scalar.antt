-- Literals, strings, numbers, keys.
use Rattle.std.specs.Prelude.{ℕ, Bool, true, false, List, [], ◌∷◌, codes, Result, Ok, Err, ◌==◌, if◌then◌else◌}
use Rattle.std.specs.Char.{to_ascii_lowercase}
use Rattle.jsonb_spec.specs.Ascii as ascii
use Rattle.jsonb_spec.specs.Mode.{Mode, standard, extended, json, extended_json, Strictness, strict, lenient, strictness}
use Rattle.jsonb_spec.specs.Tree.{Mark, Num, Tree, null, boolean, string, number}
use Rattle.jsonb_spec.specs.Code.{expected_some_ident, expected_some_value}
use Rattle.jsonb_spec.specs.Parsing.{Fault, Parse, ◌>>=◌, on_byte, reject}
use Rattle.jsonb_spec.specs.Parsing.BareKey.{bare_key_at}
use Rattle.jsonb_spec.specs.Parsing.ExactNumber.{json_number_at, extended_json_number_at}
use Rattle.jsonb_spec.specs.Parsing.ExtendedNumber.{is_extended_start, extended_number_at}
use Rattle.jsonb_spec.specs.Parsing.Number.{is_number_start, standard_number_at}
use Rattle.jsonb_spec.specs.Parsing.String.{string_at}

-- ---- words

-- a letter as words have it: in a lenient mode in lower case
abbrev pub fold_letter : Strictness → ℕ → ℕ
fold_letter strict b = b
fold_letter lenient b = to_ascii_lowercase b

-- the one where the bytes begin with this letter, of the bytes after it, and else the other
abbrev pub on_letter : {X : Type 0} → Strictness → ℕ → List ℕ → (List ℕ → X) → X → X
on_letter strictness c [] found other = other
on_letter strictness c (b ∷ bytes) found other = if fold_letter strictness b == c then found bytes else other

-- whether the bytes begin with this letter
abbrev pub begins_letter : Strictness → ℕ → List ℕ → Bool
begins_letter strictness c bytes = on_letter strictness c bytes (λ rest. true) false

-- the bytes after these letters
abbrev pub letters_at : ℕ → Strictness → List ℕ → List ℕ → Result (List ℕ) Fault
letters_at size strictness [] bytes = Ok bytes
letters_at size strictness (c ∷ cs) bytes =
    on_letter strictness c bytes (letters_at size strictness cs) (reject size expected_some_ident 1 bytes)

-- a word and what it means
abbrev pub word_at : ℕ → Strictness → List ℕ → Tree → List ℕ → Parse Tree
word_at size strictness word t bytes = letters_at size strictness word bytes >>= λ rest. Ok (t, rest)

-- ---- strings

-- the one where the bytes begin with a single quote in a lenient mode, of the bytes after it, and else the other
abbrev pub on_single_quote : {X : Type 0} → Strictness → List ℕ → (List ℕ → X) → X → X
on_single_quote strict bytes found other = other
on_single_quote lenient bytes found other = on_byte ascii.single_quote bytes found other

-- a string as a value, from the byte after the opening quote on
abbrev pub quoted_at : ℕ → Mode → ℕ → List ℕ → Parse Tree
quoted_at size mode quote bytes = string_at size mode quote bytes >>= λ x. Ok (string x.0.0 x.0.1, x.1)

-- whether the bytes begin with one
abbrev pub begins_single_quote : Strictness → List ℕ → Bool
begins_single_quote strictness bytes = on_single_quote strictness bytes (λ rest. true) false

-- ---- numbers

-- whether a number may begin here
abbrev pub begins_number : Strictness → List ℕ → Bool
begins_number strictness [] = false
begins_number strict (b ∷ bytes) = is_number_start b
begins_number lenient (b ∷ bytes) = is_extended_start b

-- the number that begins here
abbrev pub number_at : ℕ → Mode → List ℕ → Parse Num
number_at size standard bytes = standard_number_at size bytes
number_at size extended bytes = extended_number_at size bytes
number_at size json bytes = json_number_at size bytes
number_at size extended_json bytes = extended_json_number_at size bytes

-- a number as a value
abbrev pub number_value_at : ℕ → Mode → List ℕ → Parse Tree
number_value_at size mode bytes = number_at size mode bytes >>= λ x. Ok (number x.0, x.1)

-- a number as a value, or the fault of a byte that begins no value
abbrev pub number_or_fault : ℕ → Mode → List ℕ → Parse Tree
number_or_fault size mode bytes = if begins_number (strictness mode) bytes then number_value_at size mode bytes
    else reject size expected_some_value 1 bytes

-- ---- scalars and keys

abbrev pub false_at : ℕ → Mode → List ℕ → Parse Tree
false_at size mode bytes = if begins_letter (strictness mode) ascii.lower_f bytes
    then word_at size (strictness mode) (codes "false") (boolean false) bytes else number_or_fault size mode bytes

abbrev pub true_or_false_at : ℕ → Mode → List ℕ → Parse Tree
true_or_false_at size mode bytes = if begins_letter (strictness mode) ascii.lower_t bytes
    then word_at size (strictness mode) (codes "true") (boolean true) bytes else false_at size mode bytes

-- the first, or where it fails the other
abbrev pub or_else : {A : Type 0} → Result A Fault → Result A Fault → Result A Fault
or_else (Ok x) other = Ok x
or_else (Err e) other = other

-- `null`; where that fails, in a lenient mode a number's word may begin with the same letter
abbrev pub null_or : ℕ → Strictness → (List ℕ → Parse Tree) → List ℕ → Parse Tree
null_or size strict other bytes = word_at size strict (codes "null") null bytes
null_or size lenient other bytes = or_else (word_at size lenient (codes "null") null bytes) (other bytes)

abbrev pub null_at : ℕ → Mode → List ℕ → Parse Tree
null_at size mode bytes = null_or size (strictness mode) (number_value_at size mode) bytes

abbrev pub words_at : ℕ → Mode → List ℕ → Parse Tree
words_at size mode bytes = if begins_letter (strictness mode) ascii.lower_n bytes then null_at size mode bytes
    else true_or_false_at size mode bytes

-- a string in single quotes, a word or a number
abbrev pub other_scalar_at : ℕ → Mode → List ℕ → Parse Tree
other_scalar_at size mode bytes =
    on_single_quote (strictness mode) bytes (quoted_at size mode ascii.single_quote) (words_at size mode bytes)

-- a word, a string or a number
unfoldable pub scalar_at : ℕ → Mode → List ℕ → Parse Tree
scalar_at size mode bytes =
    on_byte ascii.quote bytes (quoted_at size mode ascii.quote) (other_scalar_at size mode bytes)

-- a key without quotes
abbrev pub unquoted_at : ℕ → Strictness → List ℕ → Parse (Mark × List ℕ)
unquoted_at size strict bytes = reject size expected_some_ident 1 bytes
unquoted_at size lenient bytes = bare_key_at size bytes

-- a key, with its mark
unfoldable pub key_at : ℕ → Mode → List ℕ → Parse (Mark × List ℕ)
key_at size mode bytes =
    on_byte ascii.quote bytes (string_at size mode ascii.quote)
    (on_single_quote (strictness mode) bytes (string_at size mode ascii.single_quote)
    (unquoted_at size (strictness mode) bytes))
