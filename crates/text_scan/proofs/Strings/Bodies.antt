-- Contents with and without a backslash, and what is parsed of a whole string.
use Rattle.std.proofs.Common.{List, [], ◌∷◌, ◌≡◌, ◌≢◌, ℕ, zero, suc, ◌+◌, ◌-◌, ◌≤◌, ◌<◌, length, take, drop, get_or, map, Contains, Bool, true, false, ◌||◌, eqb, Ok, Err, ⊎_elim, inr, sym, ap, ◌∙◌, subst, arith, refl, eq-eqb, ne_eqb}
use Rattle.std.proofs.lemmas.List.{get_or-drop, get_or_default, length-drop, drop_more, drop-drop, drop_all, get_or-take, length-take-le}
use Rattle.std.proofs.lemmas.Bool.{cases_lt, cond-false}
use Rattle.memchr.specs.Find.{is_byte2}
use Rattle.std.specs.Str.{IsUtf8}
use Rattle.std.specs.List.{flat_map, AllByRecursion}
use Rattle.jsonb_spec.specs.Mode.{Mode, GoesBeyondJson}
use Rattle.jsonb_spec.specs.Tree.{Mark, plain, escaped}
use Rattle.jsonb_core.specs.Error.CodeView.{code_of}
use Rattle.jsonb_spec.specs.Code.{invalid_eof, invalid_string_value}
use Rattle.jsonb_spec.specs.Grammar.StringBody.{Item, raw, escape, unit, encoding, IsItem, IsBody, Decodes, meaning}
use Rattle.jsonb_spec.specs.Grammar.StringStep.{escape_step, item_step}
use Rattle.jsonb_spec.specs.Grammar.Quoted.{mark_of}
use Rattle.jsonb_spec.specs.Parsing.Decoding.{SeesBackslash, SeesNoBackslash, ReportsBackslash}
use Rattle.jsonb_core.specs.declared.error.Error.{Error}
use Rattle.jsonb_core.specs.declared.error.Error.TheVariants.{Syntax, OutOfMemory}
use Rattle.text_scan.specs.StringError.{IsDecodingError}
use Rattle.text_scan.specs.QuotedString.{DecodesContents}
use Rattle.text_scan.specs.Answer.{Fails}
use Rattle.jsonb_spec.specs.Parsing.{fault}
use Rattle.jsonb_spec.specs.Parsing.String.{body_of, further, quote_from, quote_end, string_of_body, string_up_to, string_at}
use Rattle.text_scan.proofs.Strings.Decoding.{encoding-raw, items-raw}
use Rattle.text_scan.proofs.Strings.Items.{body_complete, body_faulty}
use Rattle.text_scan.proofs.Strings.Ends.{quote_end-step, further-zero, further-further, quote_end-here}

-- ---- bytes without a backslash

pub meaning-raws : (bytes : List ℕ) → meaning (map raw bytes) ≡ bytes
unfolding meaning
meaning-raws [] = refl
meaning-raws (byte ∷ bytes) = ap (λ rest. byte ∷ rest) (meaning-raws bytes)

pub mark_of-raws : (bytes : List ℕ) → mark_of (map raw bytes) ≡ plain
mark_of-raws [] = refl
mark_of-raws (byte ∷ bytes) = mark_of-raws bytes

raw_body : (mode : Mode) (bytes : List ℕ) → GoesBeyondJson mode → SeesNoBackslash bytes (length bytes) → IsBody mode bytes (map raw bytes)
raw_body mode bytes beyond none = record { encoded = sym (encoding-raw bytes); each = items-raw mode bytes beyond none }

pub body-raw : (mode : Mode) (bytes : List ℕ) → GoesBeyondJson mode → SeesNoBackslash bytes (length bytes) → IsUtf8 bytes → body_of mode bytes ≡ Ok (plain, bytes)
body-raw mode bytes beyond none utf8 =
    body_complete mode bytes (map raw bytes) (raw_body mode bytes beyond none) (subst IsUtf8 (sym (meaning-raws bytes)) utf8)
    ∙ ap (λ (m : Mark). Ok (m, meaning (map raw bytes))) (mark_of-raws bytes) ∙ ap (λ (t : List ℕ). Ok (plain, t)) (meaning-raws bytes)

pub body-raw_fault : (mode : Mode) (bytes : List ℕ) → GoesBeyondJson mode → SeesNoBackslash bytes (length bytes) → ¬ (IsUtf8 bytes) → body_of mode bytes ≡ Err (invalid_string_value, length bytes)
body-raw_fault mode bytes beyond none no_utf8 =
    body_faulty mode bytes invalid_string_value (length bytes)
    (inr (record { items = map raw bytes; body = raw_body mode bytes beyond none; not_utf8 = λ utf8. no_utf8 (subst IsUtf8 (meaning-raws bytes) utf8); invalid = refl; count = refl }))

-- ---- bytes with a backslash

mark_of-escaped : (mode : Mode) (items : List Item) → AllByRecursion (IsItem mode) items → (k : ℕ) → k < length (flat_map encoding items) → get_or (flat_map encoding items) k 0 ≡ 92 → mark_of items ≡ escaped
mark_of-escaped mode [] each k low here = absurd (omega (arith, low))
mark_of-escaped mode (raw byte ∷ items) each zero low here = absurd (each.0.0 here)
mark_of-escaped mode (raw byte ∷ items) each (suc k) low here = mark_of-escaped mode items each.1 k (omega (arith, low)) here
mark_of-escaped mode (escape letter byte ∷ items) each k low here = refl
mark_of-escaped mode (unit braces digits ∷ items) each k low here = refl

pub body-decoded : (mode : Mode) (bytes text : List ℕ) → SeesBackslash bytes (length bytes) → Decodes mode bytes text → body_of mode bytes ≡ Ok (escaped, text)
body-decoded mode bytes text sees d =
    let there : SeesBackslash (flat_map encoding d.items) (length (flat_map encoding d.items)) = subst (λ xs. SeesBackslash xs (length xs)) d.body.encoded sees in
    body_complete mode bytes d.items d.body (subst IsUtf8 d.meant d.utf8)
    ∙ ap (λ (m : Mark). Ok (m, meaning d.items)) (mark_of-escaped mode d.items d.body.each there.0 there.1 there.2) ∙ ap (λ (t : List ℕ). Ok (escaped, t)) (sym d.meant)

-- ---- steps of the search

-- no string ends before an index: the search may go on from there
pub record SearchFrom (quote : ℕ) (bytes : List ℕ) (at : ℕ) : Type 0 where
  pub same : quote_end quote bytes ≡ further at (quote_end quote (drop at bytes))

pub search_start : (quote : ℕ) (bytes : List ℕ) → SearchFrom quote bytes 0
search_start quote bytes = record { same = sym (further-zero (quote_end quote bytes)) }

search_step : (quote : ℕ) (bytes : List ℕ) (at n : ℕ) → at < length bytes → get_or bytes at 0 ≢ quote → item_step (get_or bytes at 0 ∷ drop (at + 1) bytes) ≡ suc n → SearchFrom quote bytes at → SearchFrom quote bytes (at + suc n)
search_step quote bytes at n within other step s =
    let here : drop at bytes ≡ get_or bytes at 0 ∷ drop (at + 1) bytes = drop_more bytes at 0 within in
    let there : drop n (drop (at + 1) bytes) ≡ drop (at + suc n) bytes = drop-drop n (at + 1) bytes ∙ ap (λ (i : ℕ). drop i bytes) (let same : at + 1 + n ≡ at + suc n = omega arith in same) in
    record {
      same = s.same ∙ ap (λ (rest : List ℕ). further at (quote_end quote rest)) here ∙ ap (further at) (quote_end-step quote (get_or bytes at 0) n (drop (at + 1) bytes) other step)
          ∙ further-further at (suc n) (quote_end quote (drop n (drop (at + 1) bytes))) ∙ ap (λ (rest : List ℕ). further (at + suc n) (quote_end quote rest)) there;
    }

search_raw : (quote : ℕ) (bytes : List ℕ) (at : ℕ) → at < length bytes → get_or bytes at 0 ≢ quote → get_or bytes at 0 ≢ 92 → SearchFrom quote bytes at → SearchFrom quote bytes (at + 1)
search_raw quote bytes at within other no_backslash s =
    let one : item_step (get_or bytes at 0 ∷ drop (at + 1) bytes) ≡ 1 = cond-false (eqb (get_or bytes at 0) 92) (1 + escape_step (drop (at + 1) bytes)) 1 (ne_eqb (get_or bytes at 0) 92 no_backslash) in
    search_step quote bytes at 0 within other one s

-- an escape is stepped over
pub search_escape : (quote : ℕ) (bytes : List ℕ) (at next : ℕ) → at < length bytes → get_or bytes at 0 ≢ quote → get_or bytes at 0 ≡ 92 → SearchFrom quote bytes at → next ≡ at + 1 + escape_step (drop (at + 1) bytes) → SearchFrom quote bytes next
search_escape quote bytes at next within other is s to =
    let n = escape_step (drop (at + 1) bytes) in
    let step : item_step (get_or bytes at 0 ∷ drop (at + 1) bytes) ≡ suc n = ap (λ (b : ℕ). item_step (b ∷ drop (at + 1) bytes)) is ∙ (let same : 1 + n ≡ suc n = omega arith in same) in
    subst (SearchFrom quote bytes) (let same : at + suc n ≡ next = omega (arith, to) in same) (search_step quote bytes at n within other step s)

-- bytes that are neither are passed
search_run : (quote : ℕ) (bytes : List ℕ) (at count : ℕ) → at + count ≤ length bytes → ((k : ℕ) → at ≤ k → k < at + count → (get_or bytes k 0 ≢ quote) × (get_or bytes k 0 ≢ 92)) → SearchFrom quote bytes at → SearchFrom quote bytes (at + count)
search_run quote bytes at zero within clear s = subst (SearchFrom quote bytes) (let e : at ≡ at + 0 = omega arith in e) s
search_run quote bytes at (suc count) within clear s =
    let so_far = search_run quote bytes at count (omega arith) (λ k low high. clear k low (omega arith)) s in
    let here = clear (at + count) (omega arith) (omega arith) in
    subst (SearchFrom quote bytes) (let e : at + count + 1 ≡ at + suc count = omega arith in e) (search_raw quote bytes (at + count) (omega arith) here.0 here.1 so_far)

pub search_to : (quote : ℕ) (bytes : List ℕ) (at stop : ℕ) → at ≤ stop → stop ≤ length bytes → ((k : ℕ) → at ≤ k → k < stop → (get_or bytes k 0 ≢ quote) × (get_or bytes k 0 ≢ 92)) → SearchFrom quote bytes at → SearchFrom quote bytes stop
search_to quote bytes at stop forward within clear s =
    let there : at + (stop - at) ≡ stop = omega arith in
    subst (SearchFrom quote bytes) there (search_run quote bytes at (stop - at) (omega arith) (λ k low high. clear k low (omega arith)) s)

-- ---- where the search stops

pub found_end : (quote : ℕ) (bytes : List ℕ) (stop : ℕ) → stop < length bytes → get_or bytes stop 0 ≡ quote → SearchFrom quote bytes stop → quote_end quote bytes ≡ Ok stop
found_end quote bytes stop within here s =
    let split : drop stop bytes ≡ quote ∷ drop (stop + 1) bytes = drop_more bytes stop 0 within ∙ ap (λ (b : ℕ). b ∷ drop (stop + 1) bytes) here in
    let same : stop + 0 ≡ stop = omega arith in
    s.same ∙ ap (λ (rest : List ℕ). further stop (quote_end quote rest)) split ∙ ap (further stop) (quote_end-here quote (drop (stop + 1) bytes)) ∙ ap (λ (i : ℕ). Ok i) same

pub no_end : (quote : ℕ) (bytes : List ℕ) (at : ℕ) → length bytes ≤ at → SearchFrom quote bytes at → quote_end quote bytes ≡ Err at
unfolding quote_from
no_end quote bytes at past s =
    let same : at + 0 ≡ at = omega arith in
    s.same ∙ ap (λ (rest : List ℕ). further at (quote_end quote rest)) (drop_all at bytes past) ∙ ap (λ (i : ℕ). Err i) same

-- ---- backslashes that were passed

pub reports_run : (bytes : List ℕ) (at stop : ℕ) (seen : Bool) → at ≤ stop → ((k : ℕ) → at ≤ k → k < stop → get_or bytes k 0 ≢ 92) → ReportsBackslash bytes at seen → ReportsBackslash bytes stop seen
reports_run bytes at stop true forward clear sees = (sees.0, omega (arith, sees.1), sees.2)
reports_run bytes at stop false forward clear sees = λ k low. ⊎_elim (λ before. sees k before) (λ after. clear k after low) (cases_lt k at)

-- the same of the first bytes alone
pub reports_taken : (bytes : List ℕ) (end : ℕ) (seen : Bool) → end ≤ length bytes → ReportsBackslash bytes end seen → ReportsBackslash (take end bytes) (length (take end bytes)) seen
reports_taken bytes end true within sees =
    let long = length-take-le end bytes within in
    let low : sees.0 < end = sees.1 in
    (sees.0, omega (arith, sees.1, long), get_or-take end bytes sees.0 0 low ∙ sees.2)
reports_taken bytes end false within sees = λ k low here.
    let long = length-take-le end bytes within in
    let inside : k < end = omega (arith, low, long) in
    sees k inside (sym (get_or-take end bytes k 0 inside) ∙ here)

-- a backslash among the first bytes from an offset on
pub contains_after : (buf : List ℕ) (from count : ℕ) → SeesBackslash (drop from buf) count → count ≤ length (drop from buf) → Contains buf 92
contains_after buf from count sees within =
    let at = from + sees.0 in
    let inside : at < length buf = omega (arith, sees.1, within, length-drop from buf) in
    (at, inside, get_or_default buf at 92 0 inside ∙ sym (get_or-drop from buf sees.0 0) ∙ sees.2)

-- what a search for a quote or a backslash from an offset on passes over
pub clear_from : (quote : ℕ) (bytes : List ℕ) (at stop : ℕ) → ((k : ℕ) → 0 ≤ k → k < stop - at → ¬ (is_byte2 quote 92 (get_or (drop at bytes) k 0) ≡ true)) → (k : ℕ) → at ≤ k → k < stop → (get_or bytes k 0 ≢ quote) × (get_or bytes k 0 ≢ 92)
clear_from quote bytes at stop none k low high =
    let same : get_or (drop at bytes) (k - at) 0 ≡ get_or bytes k 0 = get_or-drop at bytes (k - at) 0 ∙ ap (λ n. get_or bytes n 0) (let e : at + (k - at) ≡ k = omega arith in e) in
    let other = none (k - at) (omega arith) (omega arith) in (
      λ is. other (is_first quote 92 _ (same ∙ is)),
      λ is. other (is_second quote 92 _ (same ∙ is)),
    )
  where
    or_true : (t : Bool) → (t || true) ≡ true
    or_true true = refl
    or_true false = refl

    is_first : (a b x : ℕ) → x ≡ a → is_byte2 a b x ≡ true
    is_first a b x e = ap (λ t. t || eqb x b) (eq-eqb x a e)

    is_second : (a b x : ℕ) → x ≡ b → is_byte2 a b x ≡ true
    is_second a b x e = ap (λ t. eqb x a || t) (eq-eqb x b e) ∙ or_true (eqb x a)

-- ---- the whole string, by its end and its body

pub string-closed : (size : ℕ) (mode : Mode) (quote : ℕ) (bytes : List ℕ) (end : ℕ) (x : Mark × List ℕ) → quote_end quote bytes ≡ Ok end → body_of mode (take end bytes) ≡ Ok x → string_at size mode quote bytes ≡ Ok (x, drop (end + 1) bytes)
unfolding string_at
string-closed size mode quote bytes end x found read = ap (string_up_to size mode bytes) found ∙ ap (string_of_body size bytes end) read

pub string-unclosed : (size : ℕ) (mode : Mode) (quote : ℕ) (bytes : List ℕ) (at : ℕ) → quote_end quote bytes ≡ Err at → string_at size mode quote bytes ≡ fault invalid_eof (size - length bytes + at)
unfolding string_at
string-unclosed size mode quote bytes at none = ap (string_up_to size mode bytes) none

-- what a decoder rejects is what parsing the body rejects
pub reads_rejected : (mode : Mode) (bytes : List ℕ) (before after : ℕ) (e : Error) → IsDecodingError mode bytes before after e → DecodesContents before (Err e) (body_of mode bytes)
reads_rejected mode bytes before after (Syntax code offset) r = (r.0, body_faulty mode bytes (code_of code) r.0 r.1, r.3 ∙ r.2)
reads_rejected mode bytes before after OutOfMemory r = tt
reads_rejected mode bytes before after other r = r

pub body_fails : (size : ℕ) (mode : Mode) (quote : ℕ) (bytes : List ℕ) (end idx : ℕ) (e : Error) → quote_end quote bytes ≡ Ok end → size - length bytes ≡ idx → DecodesContents (idx + 1) (Err e) (body_of mode (take end bytes)) → Fails e (string_at size mode quote bytes)
unfolding string_at
body_fails size mode quote bytes end idx (Syntax code offset) found at r =
    let same : size - length bytes + 1 + r.0 ≡ offset = omega (arith, at, r.2) in
    ap (string_up_to size mode bytes) found ∙ ap (string_of_body size bytes end) r.1 ∙ ap (λ (p : ℕ). fault (code_of code) p) same
body_fails size mode quote bytes end idx OutOfMemory found at r = tt
body_fails size mode quote bytes end idx other found at r = r
