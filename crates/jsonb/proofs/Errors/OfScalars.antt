-- What the faults of scalars and keys say, and that no scalar goes past what is parsed.
use Rattle.std.proofs.Common.{◌≡◌, ℕ, zero, suc, ◌+◌, ◌-◌, ◌<◌, ◌≤◌, Bool, true, false, true≢false, cond, ◌⊎◌, ◌||◌, ◌&&◌, ⊎_elim, inl, inr, List, [], ◌∷◌, ◌++◌, length, take, drop, codes, get_or, Option, Some, None, Result, Ok, Err, refl, sym, ap, subst, ◌∙◌, arith, eqb, eq-eqb, leb, length-append}
use Rattle.std.specs.Char.{is_ascii_digit}
use Rattle.std.specs.Str.{is_utf8}
use Rattle.std.specs.Bool.{nat_lt}
use Rattle.std.proofs.lemmas.Bool.{cases_lt, cond-true}
use Rattle.jsonb_spec.specs.Code.{Code}
use Rattle.jsonb_spec.specs.Code.Code.{expected_some_ident, expected_some_value, invalid_eof, invalid_string_value, number_not_carried, object_key_invalid_character, object_key_invalid_number}
use Rattle.jsonb_spec.specs.Mode.{Mode, Strictness, strict, lenient, strictness, IsLenient}
use Rattle.jsonb_spec.specs.Grammar.Scalar.{IsNumber, IsQuote, IsScalar, IsUnrepresentable, IsNumberText}
use Rattle.jsonb_spec.specs.Grammar.Scalar.IsLiteral.{false_word, null_word, true_word}
use Rattle.jsonb_spec.specs.Grammar.Scalar.IsScalar.{literal_value, number_value, string_value}
use Rattle.jsonb_spec.specs.Grammar.StringBody.{Item, escaped_byte, meaning, encoding}
use Rattle.jsonb_spec.specs.Tree.{Mark, plain, Num, Tree}
use Rattle.jsonb_spec.specs.Tree.Tree.{boolean, null, number, string}
use Rattle.jsonb_spec.specs.Parsing.{Fault, Parse, begins, fault, fault_at, goes_beyond_json, reject}
use Rattle.jsonb_spec.specs.Parsing.BareKey.{bare_key_at, key_end, key_to, text_key}
use Rattle.jsonb_spec.specs.Parsing.Scalar.{begins_letter, begins_number, false_at, fold_letter, key_at, letters_at, null_at, null_or, number_at, number_or_fault, number_value_at, on_single_quote, or_else, quoted_at, scalar_at, true_or_false_at, unquoted_at, word_at, words_at}
use Rattle.jsonb_spec.specs.Parsing.String.{Body, body_of, checked_unit, string_up_to, string_of_body, escape_at, item_at, items_within, known_escape, may_be_raw, meaning_of, non_digit, onto, quote_end, string_at, then_items, unit_at}
use Rattle.text_scan.proofs.Steps.Tests.{bind_ok, chosen, same_read}
use Rattle.jsonb.proofs.Errors.Codes.{IsReported, bind_err, same_err, silent_fault, silent_rejected}
use Rattle.text_scan.proofs.Containers.JoinedParts.{on_byte_cases}
use Rattle.text_scan.proofs.Numbers.Read.{number_faults_of, number_sound_of, number_text_of}
use Rattle.text_scan.proofs.Numbers.Reading.{FaultRead, IsFaultCode, UnrepresentableRead, no_number, not_representable}
use Rattle.text_parse.proofs.Scalars.Encodings.{IsNumberTree, StartsWord, number_opens, on_letter_cases, quote_is, quoted_starts, scalar-number, scalar_complete, single_cases, word_starts}
use Rattle.text_parse.proofs.Scalars.Starts.{none_starts}

-- ---- words, strings and keys are silent

letters_silent : (size : ℕ) (strictness : Strictness) (word bytes : List ℕ) (f : Fault) → letters_at size strictness word bytes ≡ Err f → IsReported f.code → ⊥
letters_silent size strictness [] bytes f e reported = absurd cc
letters_silent size strictness (c ∷ cs) bytes f e reported =
    elim (on_letter_cases strictness c bytes (letters_at size strictness cs) (reject size expected_some_ident 1 bytes) (Err f) e) [
      | inl t ↦ letters_silent size strictness cs t.1 f t.4 reported
      | inr g ↦ silent_rejected {B = List ℕ} size expected_some_ident 1 bytes f g.1 (λ n. n) reported
    ]

word_silent : (size : ℕ) (strictness : Strictness) (word : List ℕ) (t : Tree) (bytes : List ℕ) (f : Fault) → word_at size strictness word t bytes ≡ Err f → IsReported f.code → ⊥
word_silent size strictness word t bytes f e reported =
    elim (bind_err (letters_at size strictness word bytes) (λ (r : List ℕ). Ok (t, r)) f e) [
      | inl h ↦ letters_silent size strictness word bytes f h reported
      | inr h ↦ absurd (let never : ◌≡◌ {A = Parse Tree} (Ok (t, h.0)) (Err f) = h.2 in cc)
    ]

-- The codes of a body's faults are none of those that are reported.
IsSilentBody : {A : Type 0} → Body A → Type 0
IsSilentBody (Ok x) = Unit {0}
IsSilentBody (Err f) = IsReported f.0 → ⊥

checked_silent : (braces : Bool) (digits : List ℕ) (found : Option ℕ) → IsSilentBody (checked_unit braces digits found)
unfolding IsSilentBody
checked_silent braces digits None = tt
checked_silent braces digits (Some b) = λ n. n

choice_silent : {A : Type 0} (b : Bool) (x y : Body A) → IsSilentBody x → IsSilentBody y → IsSilentBody (cond b x y)
choice_silent true x y p q = p
choice_silent false x y p q = q

unit_silent : (mode : Mode) (bytes : List ℕ) → IsSilentBody (unit_at mode bytes)
unfolding unit_at IsSilentBody
unit_silent mode bytes =
    choice_silent (nat_lt (length bytes) 4) _ _ (λ n. n)
    (choice_silent (goes_beyond_json mode && eqb (get_or bytes 0 0) 123) _ _ (choice_silent (eqb (get_or bytes 5 0) 125) _ _ (checked_silent true (take 4 (drop 1 bytes)) (non_digit (take 4 (drop 1 bytes)))) (λ n. n)) (checked_silent false (take 4 bytes) (non_digit (take 4 bytes))))

known_silent : (letter : ℕ) (found : Option ℕ) → IsSilentBody (known_escape letter found)
unfolding IsSilentBody
known_silent letter None = λ n. n
known_silent letter (Some byte) = tt

escape_silent : (mode : Mode) (bytes : List ℕ) → IsSilentBody (escape_at mode bytes)
unfolding escape_at IsSilentBody
escape_silent mode [] = λ n. n
escape_silent mode (letter ∷ bytes) = choice_silent (eqb letter 117) _ _ (unit_silent mode bytes) (known_silent letter (escaped_byte (strictness mode) letter))

item_silent : (mode : Mode) (byte : ℕ) (bytes : List ℕ) → IsSilentBody (item_at mode byte bytes)
unfolding item_at IsSilentBody
item_silent mode byte bytes = choice_silent (eqb byte 92) _ _ (escape_silent mode bytes) (choice_silent (may_be_raw mode byte) _ _ tt (λ n. n))

onto_silent : (x : Item) (r : Body (List Item)) → IsSilentBody r → IsSilentBody (onto x r)
unfolding IsSilentBody
onto_silent x (Ok items) p = tt
onto_silent x (Err f) p = p

items_silent : (n : ℕ) (mode : Mode) (bytes : List ℕ) → IsSilentBody (items_within n mode bytes)
unfolding items_within IsSilentBody
items_silent n mode [] = tt
items_silent zero mode (b ∷ bytes) = tt
items_silent (suc n) mode (b ∷ bytes) = then_silent (item_at mode b bytes) (item_silent mode b bytes) (λ x. items_silent n mode (drop (length (encoding x)) (b ∷ bytes)))
  where
    then_silent : (r : Body Item) → IsSilentBody r → ((x : Item) → IsSilentBody (items_within n mode (drop (length (encoding x)) (b ∷ bytes)))) → IsSilentBody (then_items r (λ item. items_within n mode (drop (length (encoding item)) (b ∷ bytes))))
    then_silent (Ok x) p others = onto_silent x (items_within n mode (drop (length (encoding x)) (b ∷ bytes))) (others x)
    then_silent (Err f) p others = p

body_silent : (mode : Mode) (bytes : List ℕ) → IsSilentBody (body_of mode bytes)
unfolding body_of IsSilentBody
body_silent mode bytes = meant_silent (items_within (length bytes) mode bytes) (items_silent (length bytes) mode bytes)
  where
    meant_silent : (r : Body (List Item)) → IsSilentBody r → IsSilentBody (meaning_of bytes r)
    meant_silent (Ok items) p = choice_silent (is_utf8 (meaning items)) _ _ tt (λ n. n)
    meant_silent (Err f) p = p

string_silent : (size : ℕ) (mode : Mode) (quote : ℕ) (bytes : List ℕ) (f : Fault) → string_at size mode quote bytes ≡ Err f → IsReported f.code → ⊥
unfolding string_at IsSilentBody
string_silent size mode quote bytes f e reported = by_end (quote_end quote bytes) e
  where
    by_body : (end : ℕ) (r : Body (Mark × List ℕ)) → IsSilentBody r → string_of_body size bytes end r ≡ Err f → ⊥
    by_body end (Ok x) p h = absurd (let never : ◌≡◌ {A = Parse (Mark × List ℕ)} (Ok (x, drop (end + 1) bytes)) (Err f) = h in cc)
    by_body end (Err g) p h = silent_fault {B = (Mark × List ℕ) × List ℕ} g.0 (size - length bytes + 1 + g.1) f h p reported

    by_end : (r : Result ℕ ℕ) → string_up_to size mode bytes r ≡ Err f → ⊥
    by_end (Ok end) h = by_body end (body_of mode (take end bytes)) (body_silent mode (take end bytes)) h
    by_end (Err at) h = silent_fault {B = (Mark × List ℕ) × List ℕ} invalid_eof (size - length bytes + at) f h (λ n. n) reported

bare_silent : (size : ℕ) (bytes : List ℕ) (f : Fault) → bare_key_at size bytes ≡ Err f → IsReported f.code → ⊥
unfolding bare_key_at
bare_silent size [] f e reported = silent_fault {B = (Mark × List ℕ) × List ℕ} invalid_eof size f e (λ n. n) reported
bare_silent size (b ∷ bytes) f e reported =
    elim (chosen (is_ascii_digit b) (fault object_key_invalid_number (size - length (b ∷ bytes) + 1)) (key_to size (b ∷ bytes) (key_end (b ∷ bytes))) (Err f) e) [
      | inl t ↦ silent_fault {B = (Mark × List ℕ) × List ℕ} object_key_invalid_number (size - length (b ∷ bytes) + 1) f t.1 (λ n. n) reported
      | inr g ↦ by_end (key_end (b ∷ bytes)) g.1
    ]
  where
    by_end : (r : Result ℕ ℕ) → key_to size (b ∷ bytes) r ≡ Err f → ⊥
    by_end (Err at) h = silent_fault {B = (Mark × List ℕ) × List ℕ} invalid_eof (size - length (b ∷ bytes) + at) f h (λ n. n) reported
    by_end (Ok end) h =
        elim (chosen (eqb end 0 || leb 128 (get_or (b ∷ bytes) end 0)) (fault object_key_invalid_character (size - length (b ∷ bytes) + end)) (text_key size (b ∷ bytes) end) (Err f) h) [
          | inl t ↦ silent_fault {B = (Mark × List ℕ) × List ℕ} object_key_invalid_character (size - length (b ∷ bytes) + end) f t.1 (λ n. n) reported
          | inr g ↦ elim (chosen (is_utf8 (take end (b ∷ bytes))) (Ok ((plain, take end (b ∷ bytes)), drop end (b ∷ bytes))) (fault invalid_string_value (size - length (b ∷ bytes) + end)) (Err f) g.1) [
            | inl t ↦ absurd (let never : ◌≡◌ {A = Parse (Mark × List ℕ)} (Ok ((plain, take end (b ∷ bytes)), drop end (b ∷ bytes))) (Err f) = t.1 in cc)
            | inr t ↦ silent_fault {B = (Mark × List ℕ) × List ℕ} invalid_string_value (size - length (b ∷ bytes) + end) f t.1 (λ n. n) reported
          ]
        ]

unquoted_silent : (size : ℕ) (strictness : Strictness) (bytes : List ℕ) (f : Fault) → unquoted_at size strictness bytes ≡ Err f → IsReported f.code → ⊥
unquoted_silent size strict bytes f e reported = silent_rejected {B = (Mark × List ℕ) × List ℕ} size expected_some_ident 1 bytes f e (λ n. n) reported
unquoted_silent size lenient bytes f e reported = bare_silent size bytes f e reported

pub key_silent : (size : ℕ) (mode : Mode) (bytes : List ℕ) (f : Fault) → key_at size mode bytes ≡ Err f → IsReported f.code → ⊥
unfolding key_at
key_silent size mode bytes f e reported =
    elim (on_byte_cases 34 bytes (string_at size mode 34) (on_single_quote (strictness mode) bytes (string_at size mode 39) (unquoted_at size (strictness mode) bytes)) (Err f) e) [
      | inl q ↦ string_silent size mode 34 q.0 f q.2 reported
      | inr d ↦ elim (single_cases (strictness mode) bytes (string_at size mode 39) (unquoted_at size (strictness mode) bytes) (Err f) d.1) [
        | inl q ↦ string_silent size mode 39 q.0 f q.3 reported
        | inr g ↦ unquoted_silent size (strictness mode) bytes f g.1 reported
      ]
    ]

-- ---- what a fault of a scalar says

-- The bytes begin with one that begins no scalar.
pub record NoScalar (mode : Mode) (size : ℕ) (bytes : List ℕ) (offset : ℕ) : Type 0 where
  pub byte : ℕ
  pub others : List ℕ
  pub whole : bytes ≡ byte ∷ others
  pub at_byte : offset ≡ size - length bytes + 1
  pub begins_none : (rest : List ℕ) (t : Tree) → IsScalar mode (byte ∷ rest) t → ⊥

-- The bytes begin with a number that no tree carries, and with no longer encoding of a number.
pub record NotRepresentable (mode : Mode) (size : ℕ) (bytes : List ℕ) (offset : ℕ) : Type 0 where
  pub text : List ℕ
  pub others : List ℕ
  pub whole : bytes ≡ text ++ others
  pub is_unrepresentable : IsUnrepresentable mode text
  pub longest : (longer rest : List ℕ) → text ++ others ≡ longer ++ rest → length text < length longer → IsNumberText (strictness mode) longer → ⊥
  pub after_text : offset ≡ size - length others

-- what a fault of a scalar says of the bytes
abbrev pub WrongScalar : Mode → ℕ → List ℕ → Code → ℕ → Type 0
WrongScalar mode size bytes expected_some_value offset = NoScalar mode size bytes offset
WrongScalar mode size bytes number_not_carried offset = NotRepresentable mode size bytes offset
WrongScalar mode size bytes other offset = ⊥

-- how a scalar begins
data FirstOf (mode : Mode) (bytes : List ℕ) : Type 0 where
  with_letter : (c : ℕ) → (c ≡ 110) ⊎ ((c ≡ 116) ⊎ (c ≡ 102)) → begins_letter (strictness mode) c bytes ≡ true → FirstOf mode bytes
  with_quote : (quote : ℕ) (rest : List ℕ) → IsQuote (strictness mode) quote → bytes ≡ quote ∷ rest → FirstOf mode bytes
  with_number : begins_number (strictness mode) bytes ≡ true → FirstOf mode bytes

number_begins : (mode : Mode) (bytes : List ℕ) (n : Num) → IsNumber mode bytes n → begins_number (strictness mode) bytes ≡ true
number_begins mode bytes n is = let s = number_opens mode bytes n is in ap (λ (u : List ℕ). begins_number (strictness mode) u) s.whole ∙ s.begun s.others

letter_begins : (strictness : Strictness) (c : ℕ) (bytes : List ℕ) → StartsWord strictness c bytes → begins_letter strictness c bytes ≡ true
letter_begins strictness c bytes s = ap (begins_letter strictness c) s.whole ∙ cond-true (eqb (fold_letter strictness s.first) c) true false (eq-eqb (fold_letter strictness s.first) c s.letter)

scalar_first : (mode : Mode) (bytes : List ℕ) (t : Tree) → IsScalar mode bytes t → FirstOf mode bytes
scalar_first mode bytes t (literal_value (null_word is)) = with_letter 110 (inl refl) (letter_begins (strictness mode) 110 bytes (word_starts (strictness mode) 110 (codes "ull") bytes is))
scalar_first mode bytes t (literal_value (true_word is)) = with_letter 116 (inr (inl refl)) (letter_begins (strictness mode) 116 bytes (word_starts (strictness mode) 116 (codes "rue") bytes is))
scalar_first mode bytes t (literal_value (false_word is)) = with_letter 102 (inr (inr refl)) (letter_begins (strictness mode) 102 bytes (word_starts (strictness mode) 102 (codes "alse") bytes is))
scalar_first mode bytes t (string_value {quote = quote} {text = text} {mark = mark} is q) = let o = quoted_starts mode quote bytes text mark q in with_quote quote o.0 is o.1
scalar_first mode bytes t (number_value {n = n} is) = with_number (number_begins mode bytes n is)

-- None of what begins a scalar is at the front of the bytes.
record BeginsNoScalar (mode : Mode) (bytes : List ℕ) : Type 0 where
  pub double : begins 34 bytes ≡ false
  pub single : IsLenient mode → begins 39 bytes ≡ false
  pub null_letter : begins_letter (strictness mode) 110 bytes ≡ false
  pub true_letter : begins_letter (strictness mode) 116 bytes ≡ false
  pub false_letter : begins_letter (strictness mode) 102 bytes ≡ false
  pub number_byte : begins_number (strictness mode) bytes ≡ false

not_first : (mode : Mode) (bytes : List ℕ) → BeginsNoScalar mode bytes → FirstOf mode bytes → ⊥
not_first mode bytes n (with_letter c is found) =
    ⊎_elim (λ (e : c ≡ 110). true≢false (sym found ∙ ap (λ (d : ℕ). begins_letter (strictness mode) d bytes) e ∙ n.null_letter))
    (λ (h : (c ≡ 116) ⊎ (c ≡ 102)).
    ⊎_elim (λ (e : c ≡ 116). true≢false (sym found ∙ ap (λ (d : ℕ). begins_letter (strictness mode) d bytes) e ∙ n.true_letter))
    (λ (e : c ≡ 102). true≢false (sym found ∙ ap (λ (d : ℕ). begins_letter (strictness mode) d bytes) e ∙ n.false_letter)) h) is
not_first mode bytes n (with_quote quote rest is opened) =
    ⊎_elim (λ (e : quote ≡ 34). true≢false (sym (ap (begins 34) (opened ∙ ap (λ (c : ℕ). c ∷ rest) e)) ∙ n.double))
    (λ (e : IsLenient mode × (quote ≡ 39)). true≢false (sym (ap (begins 39) (opened ∙ ap (λ (c : ℕ). c ∷ rest) e.1)) ∙ n.single e.0)) (quote_is (strictness mode) quote is)
not_first mode bytes n (with_number begun) = true≢false (sym begun ∙ n.number_byte)

begins_other : (strictness : Strictness) (b : ℕ) (rest more : List ℕ) → begins_number strictness (b ∷ rest) ≡ begins_number strictness (b ∷ more)
begins_other strict b rest more = refl
begins_other lenient b rest more = refl

-- the first byte decides
same_first : (mode : Mode) (b : ℕ) (rest more : List ℕ) → BeginsNoScalar mode (b ∷ rest) → BeginsNoScalar mode (b ∷ more)
same_first mode b rest more n =
    record {
      double = n.double;
      single = n.single;
      null_letter = n.null_letter;
      true_letter = n.true_letter;
      false_letter = n.false_letter;
      number_byte = begins_other (strictness mode) b more rest ∙ n.number_byte;
    }

no_scalar : (mode : Mode) (size : ℕ) (bytes : List ℕ) (f : Fault) → BeginsNoScalar mode bytes → ◌≡◌ {A = Parse Tree} (reject size expected_some_value 1 bytes) (Err f) → IsReported f.code → WrongScalar mode size bytes f.code f.offset
no_scalar mode size [] f n e reported = absurd (silent_fault {B = Tree × List ℕ} invalid_eof size f e (λ x. x) reported)
no_scalar mode size (b ∷ bytes) f n e reported =
    subst (λ (h : Fault). WrongScalar mode size (b ∷ bytes) h.code h.offset) (same_err {B = Tree × List ℕ} (fault_at size expected_some_value 1 (b ∷ bytes)) f e)
    (record { byte = b; others = bytes; whole = refl; at_byte = refl; begins_none = λ rest u s. not_first mode (b ∷ rest) (same_first mode b bytes rest n) (scalar_first mode (b ∷ rest) u s) })

-- a fault of a number
number_wrong : (size : ℕ) (mode : Mode) (bytes : List ℕ) (f : Fault) → number_at size mode bytes ≡ Err f → IsReported f.code → WrongScalar mode size bytes f.code f.offset
number_wrong size mode bytes f e reported = by_fault (number_faults_of size mode bytes f e)
  where
    wrong : UnrepresentableRead mode size bytes f.offset → NotRepresentable mode size bytes f.offset
    wrong u = record {
      text = u.text;
      others = u.rest;
      whole = u.joined;
      is_unrepresentable = u.unrepresentable;
      longest = λ longer rest same more text. u.longest longer rest (u.joined ∙ same) (omega (arith, more, ap length same, length-append u.text u.rest, length-append longer rest)) text;
      after_text = u.offset_is;
    }

    silent : (s : Strictness) (code : Code) → IsFaultCode s code → IsReported code → ⊥
    silent strict code is h = subst IsReported is h
    silent lenient code (inl is) h = subst IsReported is h
    silent lenient code (inr (inl is)) h = subst IsReported is h
    silent lenient code (inr (inr is)) h = subst IsReported is h

    by_fault : FaultRead mode size bytes f → WrongScalar mode size bytes f.code f.offset
    by_fault (not_representable is u) = subst (λ (c : Code). WrongScalar mode size bytes c f.offset) (sym is) (wrong u)
    by_fault (no_number is none) = absurd (silent (strictness mode) f.code is reported)

number_value_wrong : (size : ℕ) (mode : Mode) (bytes : List ℕ) (f : Fault) → number_value_at size mode bytes ≡ Err f → IsReported f.code → WrongScalar mode size bytes f.code f.offset
number_value_wrong size mode bytes f e reported =
    elim (bind_err (number_at size mode bytes) (λ (x : Num × List ℕ). Ok (number x.0, x.1)) f e) [
      | inl h ↦ number_wrong size mode bytes f h reported
      | inr h ↦ absurd (let never : ◌≡◌ {A = Parse Tree} (Ok (number h.0.0, h.0.1)) (Err f) = h.2 in cc)
    ]

or_else_err : {A : Type 0} (r other : Result A Fault) (f : Fault) → or_else r other ≡ Err f → other ≡ Err f
or_else_err {A} (Ok x) other f e = absurd (let never : ◌≡◌ {A = Result A Fault} (Ok x) (Err f) = e in cc)
or_else_err (Err d) other f e = e

null_wrong : (size : ℕ) (mode : Mode) (bytes : List ℕ) (f : Fault) → null_at size mode bytes ≡ Err f → IsReported f.code → WrongScalar mode size bytes f.code f.offset
null_wrong size mode bytes f e reported = by_strictness (strictness mode) e
  where
    by_strictness : (strictness : Strictness) → null_or size strictness (number_value_at size mode) bytes ≡ Err f → WrongScalar mode size bytes f.code f.offset
    by_strictness strict h = absurd (word_silent size strict (codes "null") null bytes f h reported)
    by_strictness lenient h = number_value_wrong size mode bytes f (or_else_err (word_at size lenient (codes "null") null bytes) (number_value_at size mode bytes) f h) reported

-- a string's faults are not reported
quoted_silent : (size : ℕ) (mode : Mode) (quote : ℕ) (bytes : List ℕ) (f : Fault) → quoted_at size mode quote bytes ≡ Err f → IsReported f.code → ⊥
quoted_silent size mode quote bytes f e reported =
    elim (bind_err (string_at size mode quote bytes) (λ (x : (Mark × List ℕ) × List ℕ). Ok (string x.0.0 x.0.1, x.1)) f e) [
      | inl h ↦ string_silent size mode quote bytes f h reported
      | inr h ↦ absurd (let never : ◌≡◌ {A = Parse Tree} (Ok (string h.0.0.0 h.0.0.1, h.0.1)) (Err f) = h.2 in cc)
    ]

-- A fault of a scalar says what is wrong with the bytes, if it is reported.
pub scalar_rejected : (size : ℕ) (mode : Mode) (bytes : List ℕ) (f : Fault) → scalar_at size mode bytes ≡ Err f → IsReported f.code → WrongScalar mode size bytes f.code f.offset
unfolding scalar_at
scalar_rejected size mode bytes f e reported =
    elim (on_byte_cases 34 bytes (quoted_at size mode 34) (on_single_quote (strictness mode) bytes (quoted_at size mode 39) (words_at size mode bytes)) (Err f) e) [
      | inl q ↦ absurd (quoted_silent size mode 34 q.0 f q.2 reported)
      | inr d ↦ elim (single_cases (strictness mode) bytes (quoted_at size mode 39) (words_at size mode bytes) (Err f) d.1) [
        | inl q ↦ absurd (quoted_silent size mode 39 q.0 f q.3 reported)
        | inr q ↦ elim (chosen (begins_letter (strictness mode) 110 bytes) (null_at size mode bytes) (true_or_false_at size mode bytes) (Err f) q.1) [
          | inl w ↦ null_wrong size mode bytes f w.1 reported
          | inr n ↦ elim (chosen (begins_letter (strictness mode) 116 bytes) (word_at size (strictness mode) (codes "true") (boolean true) bytes) (false_at size mode bytes) (Err f) n.1) [
            | inl w ↦ absurd (word_silent size (strictness mode) (codes "true") (boolean true) bytes f w.1 reported)
            | inr t ↦ elim (chosen (begins_letter (strictness mode) 102 bytes) (word_at size (strictness mode) (codes "false") (boolean false) bytes) (number_or_fault size mode bytes) (Err f) t.1) [
              | inl w ↦ absurd (word_silent size (strictness mode) (codes "false") (boolean false) bytes f w.1 reported)
              | inr g ↦ elim (chosen (begins_number (strictness mode) bytes) (number_value_at size mode bytes) (reject size expected_some_value 1 bytes) (Err f) g.1) [
                | inl m ↦ number_value_wrong size mode bytes f m.1 reported
                | inr m ↦
                    no_scalar mode size bytes f
                    (record { double = d.0; single = q.0; null_letter = n.0; true_letter = t.0; false_letter = g.0; number_byte = m.0 }) m.1 reported
              ]
            ]
          ]
        ]
      ]
    ]

-- A fault that is reported has bytes to speak of.
pub scalar_some : (size : ℕ) (mode : Mode) (bytes : List ℕ) (f : Fault) → scalar_at size mode bytes ≡ Err f → IsReported f.code → 0 < length bytes
unfolding scalar_at
scalar_some size mode (b ∷ bytes) f e reported = omega arith
scalar_some size mode [] f e reported = absurd (silent_fault {B = Tree × List ℕ} invalid_eof size f (sym ((none_starts mode).scalar size) ∙ e) (λ x. x) reported)

-- ---- what is parsed is the longest

-- No encoding of a scalar that is no number goes past what is parsed.
other_longest : (size : ℕ) (mode : Mode) (core : List ℕ) (u : Tree) (rest : List ℕ) (t : Tree) (after : List ℕ) → IsScalar mode core u → (IsNumberTree u → ⊥) → scalar_at size mode (core ++ rest) ≡ Ok (t, after) → length after ≤ length rest
other_longest size mode core u rest t after s other e =
    let same = same_read u t rest after (sym (scalar_complete size mode core u rest s (λ n. absurd (other n))) ∙ e) in
    omega (arith, ap length same.rest)

number_past : (size : ℕ) (mode : Mode) (core : List ℕ) (n : Num) (rest : List ℕ) (t : Tree) (after : List ℕ) → IsNumber mode core n → scalar_at size mode (core ++ rest) ≡ Ok (t, after) → length after ≤ length rest
number_past size mode core n rest t after is e =
    let s = number_opens mode core n is in
    let opened : core ++ rest ≡ s.first ∷ (s.others ++ rest) = ap (λ (u : List ℕ). u ++ rest) s.whole in
    let begun : begins_number (strictness mode) (core ++ rest) ≡ true = ap (λ (u : List ℕ). begins_number (strictness mode) u) opened ∙ s.begun (s.others ++ rest) in
    let read : number_or_fault size mode (core ++ rest) ≡ Ok (t, after) = sym (scalar-number size mode core n rest is) ∙ e in
    elim (chosen (begins_number (strictness mode) (core ++ rest)) (number_value_at size mode (core ++ rest)) (reject size expected_some_value 1 (core ++ rest)) (Ok (t, after)) read) [
      | inl m ↦
          let b = bind_ok (number_at size mode (core ++ rest)) (λ (x : Num × List ℕ). Ok (number x.0, x.1)) (t, after) m.1 in
          let same = same_read (number b.0.0) t b.0.1 after b.2 in
          ⊎_elim (λ (longer : length rest < length after). absurd ((number_sound_of size mode (core ++ rest) b.0.0 b.0.1 b.1).longest core rest refl (omega (arith, longer, ap length same.rest)) (number_text_of mode core n is)))
          (λ (fits : length after ≤ length rest). fits) (cases_lt (length rest) (length after))
      | inr m ↦ absurd (true≢false (sym begun ∙ m.0))
    ]

-- No encoding of a scalar goes past what is parsed.
pub scalar_longest : (size : ℕ) (mode : Mode) (core : List ℕ) (u : Tree) (rest : List ℕ) (t : Tree) (after : List ℕ) → IsScalar mode core u → scalar_at size mode (core ++ rest) ≡ Ok (t, after) → length after ≤ length rest
scalar_longest size mode core u rest t after (literal_value (null_word is)) e = other_longest size mode core u rest t after (literal_value (null_word is)) (λ n. n) e
scalar_longest size mode core u rest t after (literal_value (true_word is)) e = other_longest size mode core u rest t after (literal_value (true_word is)) (λ n. n) e
scalar_longest size mode core u rest t after (literal_value (false_word is)) e = other_longest size mode core u rest t after (literal_value (false_word is)) (λ n. n) e
scalar_longest size mode core u rest t after (string_value is q) e = other_longest size mode core u rest t after (string_value is q) (λ n. n) e
scalar_longest size mode core u rest t after (number_value {n = n} is) e = number_past size mode core n rest t after is e
