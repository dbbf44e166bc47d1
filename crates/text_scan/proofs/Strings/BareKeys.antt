-- What is parsed of an unquoted key is the key, and each unquoted key is parsed.
use Rattle.std.proofs.Common.{List, [], ◌∷◌, ◌≡◌, ◌≢◌, ℕ, zero, suc, ◌+◌, ◌-◌, ◌/◌, ◌≤◌, ◌<◌, ◌++◌, length, take, drop, get_or, Bool, true, false, true≢false, cond, eqb, ltb, leb, ◌&&◌, ◌||◌, Result, Ok, Err, ◌⊎◌, inl, inr, ⊎_elim, sym, ap, ◌∙◌, subst, arith, refl, length-append, ne_eqb, lt-ltb, le-ltb}
use Rattle.std.proofs.lemmas.List.{append_assoc, take_at, drop_all, drop_at, drop_more, drop-drop, get_or_at, length-take-le, take-append-drop}
use Rattle.std.proofs.lemmas.Str.{encode_ascii, IsUtf8-from_is_utf8, is_utf8-from_IsUtf8}
use Rattle.std.proofs.lemmas.Bool.{cases_Bool, cases_lt, cond-false, cond-true, and_parts}
use Rattle.std.proofs.lemmas.Bool.Decides.{nat_tests}
use lib.Utf8.{next, scalar, scalars}
use Rattle.std.specs.List.{AllByRecursion}
use Rattle.std.specs.Str.{encode_utf8_all, IsUtf8, is_utf8}
use Rattle.std.specs.Char.{IsScalar, IsAsciiDigit, encode_utf8, is_ascii_digit, IsAsciiAlphanumeric}
use Rattle.jsonb_spec.specs.Grammar.BareKey.{IsBareKey, IsKeyCharacter}
use Rattle.jsonb_spec.specs.Code.{invalid_eof, invalid_string_value, object_key_invalid_number, object_key_invalid_character}
use Rattle.jsonb_spec.specs.Tree.{Mark, plain}
use Rattle.jsonb_spec.specs.Parsing.{Parse, fault}
use Rattle.jsonb_spec.specs.Parsing.BareKey.{bare_key_at, is_key_ascii, key_chosen, key_end, key_from, key_step, key_to, text_key}
use Rattle.jsonb_spec.specs.Parsing.Whitespace.{is_break}
use Rattle.jsonb_spec.specs.Parsing.String.{further}
use Rattle.text_scan.proofs.Steps.Tests.{chosen, same_read}
use Rattle.text_scan.proofs.Containers.JoinedParts.{break_is}
use Rattle.text_scan.proofs.Strings.Ends.{further-further, further-zero, ok_further}

-- ---- steps

key_from-drop : (passed : ℕ) (bytes : List ℕ) → key_from passed bytes ≡ further passed (key_end (drop passed bytes))
unfolding key_from
key_from-drop zero bytes = sym (further-zero (key_end bytes))
key_from-drop (suc passed) [] = let same : suc passed ≡ suc passed + 0 = omega arith in ap (λ (i : ℕ). Err i) same
key_from-drop (suc passed) (b ∷ bytes) =
    let same : 1 + passed ≡ suc passed = omega arith in
    ap (further 1) (key_from-drop passed bytes) ∙ further-further 1 passed (key_end (drop passed bytes)) ∙ ap (λ (n : ℕ). further n (key_end (drop passed bytes))) same

pub key_end-here : (b : ℕ) (bytes : List ℕ) → key_step b ≡ 0 → key_end (b ∷ bytes) ≡ Ok 0
unfolding key_from
key_end-here b bytes e = ap (λ (n : ℕ). key_chosen n (further 1 (key_from (key_step b - 1) bytes))) e

pub key_end-step : (b n : ℕ) (bytes : List ℕ) → key_step b ≡ suc n → key_end (b ∷ bytes) ≡ further (suc n) (key_end (drop n bytes))
unfolding key_from
key_end-step b n bytes e =
    let count : key_step b - 1 ≡ n = omega (arith, e) in
    let same : 1 + n ≡ suc n = omega arith in
    ap (λ (k : ℕ). key_chosen k (further 1 (key_from (key_step b - 1) bytes))) e
    ∙ ap (λ (k : ℕ). further 1 (key_from k bytes)) count ∙ ap (further 1) (key_from-drop n bytes) ∙ further-further 1 n (key_end (drop n bytes))
    ∙ ap (λ (k : ℕ). further k (key_end (drop n bytes))) same

-- the steps of ASCII
-- a letter or a digit of ASCII, `_` or `$`
abbrev IsKeyAscii : ℕ → Type 0
IsKeyAscii c = IsAsciiAlphanumeric c ⊎ ((c ≡ 95) ⊎ (c ≡ 36))

ascii_step : (b : ℕ) → IsKeyAscii b → is_key_ascii b ≡ true
ascii_step b is =
    ⊎_elim
    (λ named. ⊎_elim (λ low. ⊎_elim (λ digit. grind (arith, nat_tests)) (λ upper. grind (arith, nat_tests)) low) (λ lower. grind (arith, nat_tests)) named)
    (λ sign. ⊎_elim (λ e. ap is_key_ascii e) (λ e. ap is_key_ascii e) sign) is

ascii_is : (b : ℕ) → is_key_ascii b ≡ true → IsKeyAscii b
ascii_is b e = grind (arith, nat_tests)

ascii_low : (b : ℕ) → IsKeyAscii b → b < 128
ascii_low b is = ⊎_elim (λ named. ⊎_elim (λ low. ⊎_elim (λ digit. omega (arith, digit.1)) (λ upper. omega (arith, upper.1)) low) (λ lower. omega (arith, lower.1)) named) (λ sign. ⊎_elim (λ e. omega (arith, e)) (λ e. omega (arith, e)) sign) is

high_no_ascii : (b : ℕ) → 128 ≤ b → is_key_ascii b ≡ false
high_no_ascii b high = ⊎_elim (λ t. absurd (omega (arith, high, ascii_low b (ascii_is b t)))) (λ f. f) (cases_Bool (is_key_ascii b))

key_step-ascii : (b : ℕ) → is_key_ascii b ≡ true → key_step b ≡ 1
key_step-ascii b e = cond-true (is_key_ascii b) 1 (cond (ltb b 192) 0 (cond (ltb b 224) 2 (cond (ltb b 240) 3 4))) e

key_step-past : (b : ℕ) → is_key_ascii b ≡ false → key_step b ≡ cond (ltb b 192) 0 (cond (ltb b 224) 2 (cond (ltb b 240) 3 4))
key_step-past b e = cond-false (is_key_ascii b) 1 (cond (ltb b 192) 0 (cond (ltb b 224) 2 (cond (ltb b 240) 3 4))) e

-- ---- a character's first byte

record Lead (c : ℕ) : Type 0 where
  byte : ℕ
  rest : List ℕ
  encoded : encode_utf8 c ≡ byte ∷ rest
  high : 192 ≤ byte
  step : key_step byte ≡ suc (length rest)

abbrev two_bytes : ℕ → List ℕ
two_bytes c = (192 + c / 64) ∷ next c ∷ []

abbrev three_bytes : ℕ → List ℕ
three_bytes c = (224 + c / 4096) ∷ next (c / 64) ∷ next c ∷ []

abbrev four_bytes : ℕ → List ℕ
four_bytes c = (240 + c / 262144) ∷ next (c / 4096) ∷ next (c / 64) ∷ next c ∷ []

encode_past : (c : ℕ) → 128 ≤ c → encode_utf8 c ≡ cond (ltb c 2048) (two_bytes c) (cond (ltb c 65536) (three_bytes c) (four_bytes c))
unfolding encode_utf8
encode_past c past = ap (λ b. cond b (c ∷ []) (cond (ltb c 2048) (two_bytes c) (cond (ltb c 65536) (three_bytes c) (four_bytes c)))) (le-ltb c 128 past)

step-two : (b : ℕ) → 192 ≤ b → b < 224 → key_step b ≡ 2
step-two b low high = key_step-past b (high_no_ascii b (omega (arith, low))) ∙ cond-false (ltb b 192) 0 (cond (ltb b 224) 2 (cond (ltb b 240) 3 4)) (le-ltb b 192 low) ∙ cond-true (ltb b 224) 2 (cond (ltb b 240) 3 4) (lt-ltb b 224 high)

step-three : (b : ℕ) → 224 ≤ b → b < 240 → key_step b ≡ 3
step-three b low high =
    key_step-past b (high_no_ascii b (omega (arith, low))) ∙ cond-false (ltb b 192) 0 (cond (ltb b 224) 2 (cond (ltb b 240) 3 4)) (le-ltb b 192 (omega (arith, low))) ∙ cond-false (ltb b 224) 2 (cond (ltb b 240) 3 4) (le-ltb b 224 low)
    ∙ cond-true (ltb b 240) 3 4 (lt-ltb b 240 high)

step-four : (b : ℕ) → 240 ≤ b → key_step b ≡ 4
step-four b low =
    key_step-past b (high_no_ascii b (omega (arith, low))) ∙ cond-false (ltb b 192) 0 (cond (ltb b 224) 2 (cond (ltb b 240) 3 4)) (le-ltb b 192 (omega (arith, low))) ∙ cond-false (ltb b 224) 2 (cond (ltb b 240) 3 4) (le-ltb b 224 (omega (arith, low)))
    ∙ cond-false (ltb b 240) 3 4 (le-ltb b 240 low)

lead : (c : ℕ) → 128 ≤ c → Lead c
lead c past =
    ⊎_elim
    (λ two. record {
      byte = 192 + c / 64;
      rest = next c ∷ [];
      encoded = encode_past c past ∙ ap (λ b. cond b (two_bytes c) (cond (ltb c 65536) (three_bytes c) (four_bytes c))) (lt-ltb c 2048 two);
      high = omega arith;
      step = step-two (192 + c / 64) (omega arith) (omega (arith, two));
    })
    (λ more. ⊎_elim
    (λ three. record {
      byte = 224 + c / 4096;
      rest = next (c / 64) ∷ next c ∷ [];
      encoded = encode_past c past ∙ ap (λ b. cond b (two_bytes c) (cond (ltb c 65536) (three_bytes c) (four_bytes c))) (le-ltb c 2048 more) ∙ ap (λ b. cond b (three_bytes c) (four_bytes c)) (lt-ltb c 65536 three);
      high = omega arith;
      step = step-three (224 + c / 4096) (omega arith) (omega (arith, three));
    })
    (λ four. record {
      byte = 240 + c / 262144;
      rest = next (c / 4096) ∷ next (c / 64) ∷ next c ∷ [];
      encoded = encode_past c past ∙ ap (λ b. cond b (two_bytes c) (cond (ltb c 65536) (three_bytes c) (four_bytes c))) (le-ltb c 2048 more) ∙ ap (λ b. cond b (three_bytes c) (four_bytes c)) (le-ltb c 65536 four);
      high = omega arith;
      step = step-four (240 + c / 262144) (omega arith);
    })
    (cases_lt c 65536))
    (cases_lt c 2048)

-- ---- characters

-- a character of a key is passed
key_end-past : (c : ℕ) (more : List ℕ) → 128 ≤ c → key_end (encode_utf8 c ++ more) ≡ further (length (encode_utf8 c)) (key_end more)
key_end-past c more past =
    let l = lead c past in
    ap (λ (u : List ℕ). key_end (u ++ more)) l.encoded ∙ key_end-step l.byte (length l.rest) (l.rest ++ more) l.step
    ∙ ap (λ (u : List ℕ). further (suc (length l.rest)) (key_end u)) (drop_at l.rest more (length l.rest) refl) ∙ ap (λ (n : ℕ). further n (key_end more)) (sym (ap length l.encoded))

key_end-ascii : (c : ℕ) (more : List ℕ) → IsKeyAscii c → key_end (encode_utf8 c ++ more) ≡ further (length (encode_utf8 c)) (key_end more)
key_end-ascii c more is =
    let one = encode_ascii c (ascii_low c is) in
    ap (λ (u : List ℕ). key_end (u ++ more)) one ∙ key_end-step c 0 more (key_step-ascii c (ascii_step c is)) ∙ ap (λ (n : ℕ). further n (key_end more)) (sym (ap length one))

key_end-character : (c : ℕ) (more : List ℕ) → IsKeyCharacter c → key_end (encode_utf8 c ++ more) ≡ further (length (encode_utf8 c)) (key_end more)
key_end-character c more is = ⊎_elim (λ ascii. key_end-ascii c more ascii) (λ past. key_end-past c more past) is

key_end-characters : (cs : List ℕ) (more : List ℕ) → AllByRecursion IsKeyCharacter cs → key_end (encode_utf8_all cs ++ more) ≡ further (length (encode_utf8_all cs)) (key_end more)
key_end-characters [] more each = sym (further-zero (key_end more))
key_end-characters (c ∷ cs) more each =
    let count : length (encode_utf8 c) + length (encode_utf8_all cs) ≡ length (encode_utf8_all (c ∷ cs)) = sym (length-append (encode_utf8 c) (encode_utf8_all cs)) in
    ap key_end (append_assoc (encode_utf8 c) (encode_utf8_all cs) more) ∙ key_end-character c (encode_utf8_all cs ++ more) each.0
    ∙ ap (further (length (encode_utf8 c))) (key_end-characters cs more each.1) ∙ further-further (length (encode_utf8 c)) (length (encode_utf8_all cs)) (key_end more)
    ∙ ap (λ (n : ℕ). further n (key_end more)) count

-- ---- each bare key is parsed

pub break_stops : (b : ℕ) → is_break b ≡ true → key_step b ≡ 0
break_stops b e = break_is b e (λ c. key_step c ≡ 0) refl refl refl refl refl refl refl refl refl refl refl

break_low : (b : ℕ) → is_break b ≡ true → b < 128
break_low b e = break_is b e (λ c. c < 128) (omega arith) (omega arith) (omega arith) (omega arith) (omega arith) (omega arith) (omega arith) (omega arith) (omega arith) (omega arith) (omega arith)

-- how a bare key begins
pub record StartsKey (bytes : List ℕ) : Type 0 where
  pub first : ℕ
  pub others : List ℕ
  pub whole : bytes ≡ first ∷ others
  pub steps : key_step first ≢ 0
  pub no_digit : is_ascii_digit first ≡ false

digit_is : (b : ℕ) → is_ascii_digit b ≡ true → IsAsciiDigit b
digit_is b e = grind (arith, nat_tests)

no_digit_is : (b : ℕ) → ¬ (IsAsciiDigit b) → is_ascii_digit b ≡ false
no_digit_is b none = ⊎_elim (λ t. absurd (none (digit_is b t))) (λ f. f) (cases_Bool (is_ascii_digit b))

pub bare_starts : (bytes : List ℕ) → IsBareKey bytes → StartsKey bytes
bare_starts bytes k =
    ⊎_elim
    (λ ascii.
    let one = encode_ascii k.first (ascii_low k.first ascii) in record {
      first = k.first;
      others = encode_utf8_all k.others;
      whole = k.encoded ∙ ap (λ (u : List ℕ). u ++ encode_utf8_all k.others) one;
      steps = λ none. omega (arith, none, key_step-ascii k.first (ascii_step k.first ascii));
      no_digit = no_digit_is k.first k.begins;
    })
    (λ past.
    let l = lead k.first past in record {
      first = l.byte;
      others = l.rest ++ encode_utf8_all k.others;
      whole = k.encoded ∙ ap (λ (u : List ℕ). u ++ encode_utf8_all k.others) l.encoded;
      steps = λ none. omega (arith, none, l.step);
      no_digit = no_digit_is l.byte (λ digit. omega (arith, digit.1, l.high));
    })
    k.each.0

scalars_all : (cs : List ℕ) → AllByRecursion IsScalar cs → scalars cs ≡ true
scalars_all [] h = refl
scalars_all (c ∷ cs) h = ap (λ b. b && scalars cs) h.0 ∙ scalars_all cs h.1

key_is_text : (key : List ℕ) → IsBareKey key → IsUtf8 key
key_is_text key k = (k.first ∷ k.others, (scalars_all (k.first ∷ k.others) k.scalars, sym k.encoded))

pub bare_complete : (size : ℕ) (core rest : List ℕ) (b : ℕ) → IsBareKey core → is_break b ≡ true → bare_key_at size (core ++ b ∷ rest) ≡ Ok ((plain, core), b ∷ rest)
unfolding bare_key_at
bare_complete size core rest b k ends =
    let bytes : List ℕ = core ++ b ∷ rest in
    let s = bare_starts core k in
    let opened : bytes ≡ s.first ∷ (s.others ++ b ∷ rest) = ap (λ (u : List ℕ). u ++ b ∷ rest) s.whole in
    let found : key_end bytes ≡ Ok (length core) =
    ap (λ (u : List ℕ). key_end (u ++ b ∷ rest)) k.encoded ∙ key_end-characters (k.first ∷ k.others) (b ∷ rest) k.each
    ∙ ap (further (length (encode_utf8_all (k.first ∷ k.others)))) (key_end-here b rest (break_stops b ends))
    ∙ ap (λ (n : ℕ). Ok n) (let same : length (encode_utf8_all (k.first ∷ k.others)) + 0 ≡ length core = omega (arith, ap length k.encoded) in same) in
    let some : eqb (length core) 0 ≡ false = no_zero (length core) (omega (arith, ap length s.whole)) in
    let at : get_or bytes (length core) 0 ≡ b = get_or_at core b rest 0 (length core) refl in
    let low : leb 128 (get_or bytes (length core) 0) ≡ false = ap (leb 128) at ∙ low_is b (break_low b ends) in
    let front : take (length core) bytes ≡ core = take_at core (b ∷ rest) (length core) refl in
    let back : drop (length core) bytes ≡ b ∷ rest = drop_at core (b ∷ rest) (length core) refl in
    ap (bare_key_at size) opened ∙ cond-false (is_ascii_digit s.first) (fault object_key_invalid_number (size - length (s.first ∷ (s.others ++ b ∷ rest)) + 1)) (key_to size (s.first ∷ (s.others ++ b ∷ rest)) (key_end (s.first ∷ (s.others ++ b ∷ rest)))) s.no_digit
    ∙ ap (λ (u : List ℕ). key_to size u (key_end u)) (sym opened) ∙ ap (key_to size bytes) found
    ∙ cond-false (eqb (length core) 0 || leb 128 (get_or bytes (length core) 0)) (fault object_key_invalid_character (size - length bytes + length core)) (text_key size bytes (length core)) (both some low)
    ∙ cond-true (is_utf8 (take (length core) bytes)) (Ok ((plain, take (length core) bytes), drop (length core) bytes)) (fault invalid_string_value (size - length bytes + length core)) (ap is_utf8 front ∙ is_utf8-from_IsUtf8 core (key_is_text core k))
    ∙ ap (λ (u : List ℕ). Ok ((plain, u), drop (length core) bytes)) front ∙ ap (λ (u : List ℕ). Ok ((plain, core), u)) back
  where
    no_zero : (n : ℕ) → 0 < n → eqb n 0 ≡ false
    no_zero n h = grind (arith, nat_tests)

    low_is : (n : ℕ) → n < 128 → leb 128 n ≡ false
    low_is n h = grind (arith, nat_tests)

    both : {p q : Bool} → p ≡ false → q ≡ false → (p || q) ≡ false
    both {p} {q} e f = ap (λ (t : Bool). t || q) e ∙ f

-- ---- what is parsed is a bare key

key_found : (passed : ℕ) (bytes : List ℕ) (end : ℕ) → key_from passed bytes ≡ Ok end → end < length bytes
unfolding key_from
key_found passed [] end e = absurd (let never : ◌≡◌ {A = Result ℕ ℕ} (Err passed) (Ok end) = e in cc)
key_found (suc passed) (b ∷ bytes) end e =
    let f = ok_further 1 end (key_from passed bytes) e in
    omega (arith, f.2, key_found passed bytes f.0 f.1)
key_found zero (b ∷ bytes) end e = by_step b bytes end (key_step b) e (λ k h. key_found (key_step b - 1) bytes k h)
  where
    by_step : (c : ℕ) (us : List ℕ) (stop n : ℕ) → key_chosen n (further 1 (key_from (key_step c - 1) us)) ≡ Ok stop → ((k : ℕ) → key_from (key_step c - 1) us ≡ Ok k → k < length us) → stop < length (c ∷ us)
    by_step c us stop zero h later = let same : 0 ≡ stop = let both : ◌≡◌ {A = Result ℕ ℕ} (Ok 0) (Ok stop) = h in cc in omega (arith, same)
    by_step c us stop (suc n) h later =
        let f = ok_further 1 stop (key_from (key_step c - 1) us) h in
        omega (arith, f.2, later f.0 f.1)

-- characters up to where the search ends are a key's
each_found : (cs more : List ℕ) → key_end (encode_utf8_all cs ++ more) ≡ Ok (length (encode_utf8_all cs)) → AllByRecursion IsKeyCharacter cs
each_found [] more e = tt
each_found (c ∷ cs) more e =
    let here = character c (encode_utf8_all cs) in
    let again : key_end (encode_utf8 c ++ (encode_utf8_all cs ++ more)) ≡ Ok (length (encode_utf8_all (c ∷ cs))) = ap key_end (sym (append_assoc (encode_utf8 c) (encode_utf8_all cs) more)) ∙ e in
    let is = here (encode_utf8_all cs ++ more) again in
    let f = ok_further (length (encode_utf8 c)) (length (encode_utf8_all (c ∷ cs))) (key_end (encode_utf8_all cs ++ more)) (sym (key_end-character c (encode_utf8_all cs ++ more) is) ∙ again) in
    let count : f.0 ≡ length (encode_utf8_all cs) = omega (arith, f.2, length-append (encode_utf8 c) (encode_utf8_all cs)) in
    (is, each_found cs more (f.1 ∙ ap (λ (n : ℕ). Ok n) count))
  where
    low_character : (d : ℕ) (us later : List ℕ) → d < 128 → key_end (encode_utf8 d ++ later) ≡ Ok (length (encode_utf8 d ++ us)) → is_key_ascii d ≡ true
    low_character d us later low h =
        ⊎_elim (λ t. t)
        (λ f.
        let one = encode_ascii d low in
        let none : key_step d ≡ 0 = key_step-past d f ∙ cond-true (ltb d 192) 0 (cond (ltb d 224) 2 (cond (ltb d 240) 3 4)) (lt-ltb d 192 (omega (arith, low))) in
        let zero_end : ◌≡◌ {A = Result ℕ ℕ} (Ok 0) (Ok (length (encode_utf8 d ++ us))) = sym (key_end-here d later none) ∙ ap (λ (u : List ℕ). key_end (u ++ later)) (sym one) ∙ h in
        let same : 0 ≡ length (encode_utf8 d ++ us) = cc in
        absurd (omega (arith, same, length-append (encode_utf8 d) us, ap length one)))
        (cases_Bool (is_key_ascii d))

    character : (d : ℕ) (us later : List ℕ) → key_end (encode_utf8 d ++ later) ≡ Ok (length (encode_utf8 d ++ us)) → IsKeyCharacter d
    character d us later h = ⊎_elim (λ low. inl (ascii_is d (low_character d us later low h))) (λ past. inr past) (cases_lt d 128)

all_scalars : (cs : List ℕ) → scalars cs ≡ true → AllByRecursion IsScalar cs
all_scalars [] e = tt
all_scalars (c ∷ cs) e = let parts = and_parts (scalar c) (scalars cs) e in (parts.0, all_scalars cs parts.1)

first_digit : (first : ℕ) (others bytes more : List ℕ) → bytes ≡ encode_utf8_all (first ∷ others) ++ more → IsAsciiDigit first → get_or bytes 0 0 ≡ first
first_digit first others bytes more e digit =
    ap (λ xs. get_or xs 0 0) (e ∙ append_assoc (encode_utf8 first) (encode_utf8_all others) more ∙ ap (λ front. front ++ (encode_utf8_all others ++ more)) (encode_ascii first (omega (arith, digit.1))))

-- a bare key that was parsed, and what follows
pub record BareRead (bytes : List ℕ) (key : Mark × List ℕ) (rest : List ℕ) : Type 0 where
  pub core : List ℕ
  pub is_key : IsBareKey core
  pub meant : (plain, core) ≡ key
  pub whole : bytes ≡ core ++ rest

bare_of : (b : ℕ) (bytes : List ℕ) (end : ℕ) → is_ascii_digit b ≡ false → key_end (b ∷ bytes) ≡ Ok end → eqb end 0 ≡ false → IsUtf8 (take end (b ∷ bytes)) → IsBareKey (take end (b ∷ bytes))
bare_of b bytes end no_digit found some utf8 = of_characters utf8.0 (all_scalars utf8.0 utf8.1.0) (sym utf8.1.1)
  where
    some_is : (n : ℕ) → eqb n 0 ≡ false → 0 < n
    some_is n e = grind (arith, nat_tests)

    digit_so : (c : ℕ) → IsAsciiDigit c → is_ascii_digit c ≡ true
    digit_so c d = grind (arith, nat_tests)

    of_characters : (cs : List ℕ) → AllByRecursion IsScalar cs → take end (b ∷ bytes) ≡ encode_utf8_all cs → IsBareKey (take end (b ∷ bytes))
    of_characters cs are_scalars encoded =
        let within = key_found 0 (b ∷ bytes) end found in
        let long : length (take end (b ∷ bytes)) ≡ end = length-take-le end (b ∷ bytes) (omega (arith, within)) in
        let whole : b ∷ bytes ≡ encode_utf8_all cs ++ drop end (b ∷ bytes) = sym (take-append-drop end (b ∷ bytes)) ∙ ap (λ (u : List ℕ). u ++ drop end (b ∷ bytes)) encoded in
        let count : end ≡ length (encode_utf8_all cs) = sym long ∙ ap length encoded in
        let each = each_found cs (drop end (b ∷ bytes)) (ap key_end (sym whole) ∙ found ∙ ap (λ (n : ℕ). Ok n) count) in
        by_first cs are_scalars encoded each whole (omega (arith, some_is end some, count))
      where
        by_first : (us : List ℕ) → AllByRecursion IsScalar us → take end (b ∷ bytes) ≡ encode_utf8_all us → AllByRecursion IsKeyCharacter us → b ∷ bytes ≡ encode_utf8_all us ++ drop end (b ∷ bytes) → 0 < length (encode_utf8_all us) → IsBareKey (take end (b ∷ bytes))
        by_first [] are encodes each whole none = absurd (omega (arith, none))
        by_first (first ∷ others) are encodes each whole more =
            record {
              first = first;
              others = others;
              encoded = encodes;
              scalars = are;
              each = each;
              begins = λ digit. true≢false (sym (digit_so b (subst IsAsciiDigit (sym (first_digit first others (b ∷ bytes) (drop end (b ∷ bytes)) whole digit)) digit)) ∙ no_digit);
            }

pub bare_sound : (size : ℕ) (bytes : List ℕ) (key : Mark × List ℕ) (rest : List ℕ) → bare_key_at size bytes ≡ Ok (key, rest) → BareRead bytes key rest
unfolding bare_key_at
bare_sound size [] key rest e = absurd (let never : ◌≡◌ {A = Parse (Mark × List ℕ)} (fault invalid_eof size) (Ok (key, rest)) = e in cc)
bare_sound size (b ∷ bytes) key rest e =
    elim (chosen (is_ascii_digit b) (fault object_key_invalid_number (size - length (b ∷ bytes) + 1)) (key_to size (b ∷ bytes) (key_end (b ∷ bytes))) (Ok (key, rest)) e) [
      | inl t ↦ absurd (let never : ◌≡◌ {A = Parse (Mark × List ℕ)} (fault object_key_invalid_number (size - length (b ∷ bytes) + 1)) (Ok (key, rest)) = t.1 in cc)
      | inr f ↦ by_end (key_end (b ∷ bytes)) refl f.0 f.1
    ]
  where
    or_parts : (p q : Bool) → (p || q) ≡ false → p ≡ false
    or_parts true q h = h
    or_parts false q h = refl

    by_end : (r : Result ℕ ℕ) → key_end (b ∷ bytes) ≡ r → is_ascii_digit b ≡ false → key_to size (b ∷ bytes) r ≡ Ok (key, rest) → BareRead (b ∷ bytes) key rest
    by_end (Err at) is no_digit h = absurd (let never : ◌≡◌ {A = Parse (Mark × List ℕ)} (fault invalid_eof (size - length (b ∷ bytes) + at)) (Ok (key, rest)) = h in cc)
    by_end (Ok end) is no_digit h =
        elim (chosen (eqb end 0 || leb 128 (get_or (b ∷ bytes) end 0)) (fault object_key_invalid_character (size - length (b ∷ bytes) + end)) (text_key size (b ∷ bytes) end) (Ok (key, rest)) h) [
          | inl t ↦ absurd (let never : ◌≡◌ {A = Parse (Mark × List ℕ)} (fault object_key_invalid_character (size - length (b ∷ bytes) + end)) (Ok (key, rest)) = t.1 in cc)
          | inr f ↦ elim (chosen (is_utf8 (take end (b ∷ bytes))) (Ok ((plain, take end (b ∷ bytes)), drop end (b ∷ bytes))) (fault invalid_string_value (size - length (b ∷ bytes) + end)) (Ok (key, rest)) f.1) [
            | inl t ↦
                let same = same_read (plain, take end (b ∷ bytes)) key (drop end (b ∷ bytes)) rest t.1 in
                record {
                  core = take end (b ∷ bytes);
                  is_key = bare_of b bytes end no_digit is (or_parts (eqb end 0) (leb 128 (get_or (b ∷ bytes) end 0)) f.0) (IsUtf8-from_is_utf8 (take end (b ∷ bytes)) t.0);
                  meant = same.value;
                  whole = sym (take-append-drop end (b ∷ bytes)) ∙ ap (λ (u : List ℕ). take end (b ∷ bytes) ++ u) same.rest;
                }
            | inr g ↦ absurd (let never : ◌≡◌ {A = Parse (Mark × List ℕ)} (fault invalid_string_value (size - length (b ∷ bytes) + end)) (Ok (key, rest)) = g.1 in cc)
          ]
        ]

-- ---- steps of the search

-- no key ends before an index: the search may go on from there
pub record KeyFrom (bytes : List ℕ) (at : ℕ) : Type 0 where
  pub same : key_end bytes ≡ further at (key_end (drop at bytes))

pub key_start : (bytes : List ℕ) → KeyFrom bytes 0
key_start bytes = record { same = sym (further-zero (key_end bytes)) }

pub key_onward : (bytes : List ℕ) (at n : ℕ) → at < length bytes → key_step (get_or bytes at 0) ≡ n → 0 < n → KeyFrom bytes at → KeyFrom bytes (at + n)
key_onward bytes at zero within step some k = absurd (omega (arith, some))
key_onward bytes at (suc n) within step some k =
    let here : drop at bytes ≡ get_or bytes at 0 ∷ drop (at + 1) bytes = drop_more bytes at 0 within in
    let there : drop n (drop (at + 1) bytes) ≡ drop (at + suc n) bytes = drop-drop n (at + 1) bytes ∙ ap (λ (i : ℕ). drop i bytes) (let same : at + 1 + n ≡ at + suc n = omega arith in same) in
    record {
      same = k.same ∙ ap (λ (rest : List ℕ). further at (key_end rest)) here ∙ ap (further at) (key_end-step (get_or bytes at 0) n (drop (at + 1) bytes) step)
          ∙ further-further at (suc n) (key_end (drop n (drop (at + 1) bytes))) ∙ ap (λ (rest : List ℕ). further (at + suc n) (key_end rest)) there;
    }

pub key_stops : (bytes : List ℕ) (at : ℕ) → at < length bytes → key_step (get_or bytes at 0) ≡ 0 → KeyFrom bytes at → key_end bytes ≡ Ok at
key_stops bytes at within step k =
    let same : at + 0 ≡ at = omega arith in
    k.same ∙ ap (λ (rest : List ℕ). further at (key_end rest)) (drop_more bytes at 0 within) ∙ ap (further at) (key_end-here (get_or bytes at 0) (drop (at + 1) bytes) step) ∙ ap (λ (i : ℕ). Ok i) same

pub key_goes_past : (bytes : List ℕ) (at : ℕ) → length bytes ≤ at → KeyFrom bytes at → key_end bytes ≡ Err at
unfolding key_from
key_goes_past bytes at past k =
    let same : at + 0 ≡ at = omega arith in
    k.same ∙ ap (λ (rest : List ℕ). further at (key_end rest)) (drop_all at bytes past) ∙ ap (λ (i : ℕ). Err i) same

pub key_within : (bytes : List ℕ) (end : ℕ) → key_end bytes ≡ Ok end → end < length bytes
key_within bytes end e = key_found 0 bytes end e

-- ---- what parsing a bare key gives, by where the search stops

pub bare-nothing : (size : ℕ) (bytes : List ℕ) → bytes ≡ [] → bare_key_at size bytes ≡ Err (record { code = invalid_eof; offset = size })
unfolding bare_key_at
bare-nothing size bytes e = ap (bare_key_at size) e

pub bare-digit : (size : ℕ) (bytes : List ℕ) (b : ℕ) (more : List ℕ) (i : ℕ) → bytes ≡ b ∷ more → is_ascii_digit b ≡ true → size - length bytes ≡ i → bare_key_at size bytes ≡ Err (record { code = object_key_invalid_number; offset = i + 1 })
unfolding bare_key_at
bare-digit size bytes b more i e digit at =
    let offset : size - length (b ∷ more) + 1 ≡ i + 1 = omega (arith, at, ap length e) in
    ap (bare_key_at size) e ∙ cond-true (is_ascii_digit b) (fault object_key_invalid_number (size - length (b ∷ more) + 1)) (key_to size (b ∷ more) (key_end (b ∷ more))) digit
    ∙ ap (λ (k : ℕ). Err (record { code = object_key_invalid_number; offset = k })) offset

-- bytes whose first one is no digit
pub record BeginsBare (bytes : List ℕ) : Type 0 where
  pub first : ℕ
  pub others : List ℕ
  pub whole : bytes ≡ first ∷ others
  pub no_digit : is_ascii_digit first ≡ false

bare-on : (size : ℕ) (bytes : List ℕ) → BeginsBare bytes → bare_key_at size bytes ≡ key_to size bytes (key_end bytes)
unfolding bare_key_at
bare-on size bytes s =
    ap (bare_key_at size) s.whole
    ∙ cond-false (is_ascii_digit s.first) (fault object_key_invalid_number (size - length (s.first ∷ s.others) + 1)) (key_to size (s.first ∷ s.others) (key_end (s.first ∷ s.others))) s.no_digit
    ∙ ap (λ (u : List ℕ). key_to size u (key_end u)) (sym s.whole)

pub bare-past : (size : ℕ) (bytes : List ℕ) (at i : ℕ) → BeginsBare bytes → key_end bytes ≡ Err at → size - length bytes ≡ i → bare_key_at size bytes ≡ Err (record { code = invalid_eof; offset = i + at })
bare-past size bytes at i s none index =
    bare-on size bytes s ∙ ap (key_to size bytes) none ∙ ap (λ (k : ℕ). Err (record { code = invalid_eof; offset = k + at })) index

key-stopped : (size : ℕ) (bytes : List ℕ) (end : ℕ) → BeginsBare bytes → key_end bytes ≡ Ok end
    → bare_key_at size bytes ≡ cond (eqb end 0 || leb 128 (get_or bytes end 0)) (fault object_key_invalid_character (size - length bytes + end)) (text_key size bytes end)
key-stopped size bytes end s found = bare-on size bytes s ∙ ap (key_to size bytes) found

pub bare-character : (size : ℕ) (bytes : List ℕ) (end i : ℕ) → BeginsBare bytes → key_end bytes ≡ Ok end → (end ≡ 0) ⊎ (128 ≤ get_or bytes end 0) → size - length bytes ≡ i
    → bare_key_at size bytes ≡ Err (record { code = object_key_invalid_character; offset = i + end })
bare-character size bytes end i s found wrong index =
    let test : (eqb end 0 || leb 128 (get_or bytes end 0)) ≡ true =
    ⊎_elim (λ (e : end ≡ 0). ap (λ (n : ℕ). eqb n 0 || leb 128 (get_or bytes end 0)) e) (λ high. ap (λ (t : Bool). eqb end 0 || t) (high_is (get_or bytes end 0) high) ∙ or_so (eqb end 0)) wrong in
    key-stopped size bytes end s found ∙ cond-true (eqb end 0 || leb 128 (get_or bytes end 0)) (fault object_key_invalid_character (size - length bytes + end)) (text_key size bytes end) test
    ∙ ap (λ (k : ℕ). Err (record { code = object_key_invalid_character; offset = k + end })) index
  where
    high_is : (n : ℕ) → 128 ≤ n → leb 128 n ≡ true
    high_is n h = grind (arith, nat_tests)

    or_so : (t : Bool) → (t || true) ≡ true
    or_so true = refl
    or_so false = refl

key-text : (size : ℕ) (bytes : List ℕ) (end : ℕ) → BeginsBare bytes → key_end bytes ≡ Ok end → end ≢ 0 → get_or bytes end 0 < 128 → bare_key_at size bytes ≡ text_key size bytes end
key-text size bytes end s found some low =
    let test : (eqb end 0 || leb 128 (get_or bytes end 0)) ≡ false = ap (λ (t : Bool). t || leb 128 (get_or bytes end 0)) (ne_eqb end 0 some) ∙ low_is (get_or bytes end 0) low in
    key-stopped size bytes end s found ∙ cond-false (eqb end 0 || leb 128 (get_or bytes end 0)) (fault object_key_invalid_character (size - length bytes + end)) (text_key size bytes end) test
  where
    low_is : (n : ℕ) → n < 128 → leb 128 n ≡ false
    low_is n h = grind (arith, nat_tests)

pub bare-text : (size : ℕ) (bytes : List ℕ) (end : ℕ) → BeginsBare bytes → key_end bytes ≡ Ok end → end ≢ 0 → get_or bytes end 0 < 128 → IsUtf8 (take end bytes) → bare_key_at size bytes ≡ Ok ((plain, take end bytes), drop end bytes)
bare-text size bytes end s found some low utf8 =
    key-text size bytes end s found some low
    ∙ cond-true (is_utf8 (take end bytes)) (Ok ((plain, take end bytes), drop end bytes)) (fault invalid_string_value (size - length bytes + end)) (is_utf8-from_IsUtf8 (take end bytes) utf8)

pub bare-no_text : (size : ℕ) (bytes : List ℕ) (end i : ℕ) → BeginsBare bytes → key_end bytes ≡ Ok end → end ≢ 0 → get_or bytes end 0 < 128 → ¬ (IsUtf8 (take end bytes)) → size - length bytes ≡ i
    → bare_key_at size bytes ≡ Err (record { code = invalid_string_value; offset = i + end })
bare-no_text size bytes end i s found some low none index =
    let test : is_utf8 (take end bytes) ≡ false = ⊎_elim (λ t. absurd (none (IsUtf8-from_is_utf8 (take end bytes) t))) (λ f. f) (cases_Bool (is_utf8 (take end bytes))) in
    key-text size bytes end s found some low
    ∙ cond-false (is_utf8 (take end bytes)) (Ok ((plain, take end bytes), drop end bytes)) (fault invalid_string_value (size - length bytes + end)) test
    ∙ ap (λ (k : ℕ). Err (record { code = invalid_string_value; offset = k + end })) index
