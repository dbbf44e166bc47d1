-- Strings of JSON with escapes: what their contents mean, and where they end.
use Rattle.std.proofs.Common.{◌≡◌, ℕ, suc, ◌+◌, ◌-◌, ◌<◌, ◌≤◌, Bool, true, false, true≢false, cond, ltb, inl, inr, List, [], ◌∷◌, ◌++◌, length, map, take, drop, get_or, Some, Ok, refl, sym, ap, ap₂, subst, ◌∙◌, arith, append_assoc, drop-drop, length-append, slice_range, eqb}
use Rattle.std.specs.List.{flat_map, AllByRecursion}
use Rattle.std.specs.Str.{IsUtf8}
use Rattle.std.proofs.Math.Seq.{drop-append_seam, take-add}
use Rattle.std.proofs.lemmas.Bool.{cases_lt, cond-false, cond-true, lt-ltb, ne_eqb}
use Rattle.std.proofs.lemmas.List.{drop_more, length-drop, take_more, length-take-le, take-append-drop}
use Rattle.std.proofs.lemmas.List.Concat.{flat_map-append}
use Rattle.jsonb_spec.specs.Mode.{Mode, standard, Strictness, strict, lenient, strictness}
use Rattle.jsonb_spec.specs.Grammar.Quoted.{mark_of}
use Rattle.jsonb_spec.specs.Grammar.StringBody.{Item, raw, escape, unit, after_u, encoding, IsItem, meaning, standard_escape, escaped_byte}
use Rattle.jsonb_spec.specs.Text.StringText.{ArePlain, byte_text, control_text}
use Rattle.jsonb_core.proofs.Strings.Encoding.{item_step-encoding}
use Rattle.jsonb_spec.specs.Parsing.String.{body_of, further, quote_end}
use Rattle.text_scan.proofs.Strings.Ends.{quote_end-here, quote_end-step}
use Rattle.text_scan.proofs.Strings.Items.{body_complete}
use Rattle.text_scan.proofs.Strings.Utf8.{meaning_utf8}
use Rattle.jsonb_spec.specs.Text.JsonString.{IsJsonBody, IsJsonItem}
use Rattle.jsonb_core.proofs.Strings.Writing.{high_may_be_raw}
use Rattle.jsonb_core.proofs.Strings.PlainTexts.{no_mark, one_plain, rest_plain}
use Rattle.jsonb_spec.specs.Parsing.Decoding.{AreUnits, IsUnit}
use Rattle.text_parse.specs.JsonString.{IsJsonEnd, IsJsonFront, IsSameItem, PassesJson}
use Rattle.text_parse.specs.Parser.{IsBehind, rest_of, size_of}
use Rattle.text_parse.specs.declared.parser.Parser.{Parser}
use Rattle.text_parse.proofs.Scalars.Built.{string_read}
use Rattle.text_scan.specs.Answer.{grammar_of}
use Rattle.text_scan.proofs.Strings.Bodies.{string-closed}
use Rattle.jsonb_spec.specs.Source.{string_source}
use Rattle.jsonb_spec.specs.Text.{in_quotes}
use Rattle.jsonb_spec.specs.Tree.{Mark}
use Rattle.text_common.specs.VerbatimScalar.{IsVerbatimAt}
use Rattle.text_common.specs.declared.verbatim.Verbatim.{Verbatim}
use Rattle.text_common.specs.declared.verbatim.Verbatim.TheVariants as verbatim

-- ---- items

all_append : (P : Item → Type 0) (xs ys : List Item) → AllByRecursion P xs → AllByRecursion P ys → AllByRecursion P (xs ++ ys)
all_append P [] ys p q = q
all_append P (x ∷ xs) ys p q = (p.0, all_append P xs ys p.1 q)

in_mode : (strictness : Strictness) (letter byte : ℕ) → standard_escape letter ≡ Some byte → escaped_byte strictness letter ≡ Some byte
in_mode strict letter byte is = is
in_mode lenient letter byte is =
    cond-false (eqb letter 39) _ _ (ne_eqb letter 39 (λ e. absurd (no_quote (sym (ap standard_escape e) ∙ is)))) ∙ is
  where
    no_quote : standard_escape 39 ≡ Some byte → ⊥
    no_quote h = cc

longer : (t : Bool) (xs ys : List ℕ) → 1 < length xs → 1 < length ys → 1 < length (cond t xs ys)
longer true xs ys p q = p
longer false xs ys p q = q

-- a control character isn't written as it is
no_control : (b : ℕ) → byte_text b ≡ b ∷ [] → 32 ≤ b
no_control b is = elim (cases_lt b 32) [
  | inl low ↦
      let long : 1 < length (byte_text b) =
      longer (eqb b 34) _ _ (omega arith) (longer (eqb b 92) _ _ (omega arith) (longer (eqb b 10) _ _ (omega arith) (longer (eqb b 13) _ _ (omega arith) (longer (eqb b 9) _ _ (omega arith) (subst (λ (xs : List ℕ). 1 < length xs) (sym (cond-true (ltb b 32) (control_text b) (b ∷ []) (lt-ltb b 32 low))) (omega arith)))))) in
      absurd (omega (arith, long, ap length is))
  | inr high ↦ high
]

item_in_mode : (mode : Mode) (x : Item) → IsJsonItem x → IsItem mode x
item_in_mode mode (raw b) is = (no_mark 92 b (omega arith) is, high_may_be_raw mode b (no_control b is))
item_in_mode mode (escape letter byte) is = in_mode (strictness mode) letter byte is
item_in_mode mode (unit braces digits) is = (is.1, is.2, λ t. absurd (true≢false (sym t ∙ is.0)))

items_in_mode : (mode : Mode) (xs : List Item) → AllByRecursion IsJsonItem xs → AllByRecursion (IsItem mode) xs
items_in_mode mode [] h = tt
items_in_mode mode (x ∷ xs) h = (item_in_mode mode x h.0, items_in_mode mode xs h.1)

-- what they mean is written by the bytes that encode them
same_written : (xs : List Item) → AllByRecursion IsSameItem xs → flat_map byte_text (meaning xs) ≡ flat_map encoding xs
unfolding meaning
same_written [] h = refl
same_written (raw b ∷ xs) h = ap₂ (λ u v. u ++ v) h.0 (same_written xs h.1)
same_written (escape letter byte ∷ xs) h = ap₂ (λ u v. u ++ v) h.0 (same_written xs h.1)
same_written (unit braces digits ∷ xs) h = absurd h.0

-- ---- the front of a string

front_then : (bytes : List ℕ) (end count : ℕ) (is_same now_same : Bool) (added : List Item) → IsJsonFront bytes end is_same → end + count ≤ length bytes → take count (drop end bytes) ≡ flat_map encoding added → AllByRecursion IsJsonItem added
    → (now_same ≡ true → (is_same ≡ true) × AllByRecursion IsSameItem added) → IsJsonFront bytes (end + count) now_same
front_then bytes end count is_same now_same added f within is each same = record {
  items = f.items ++ added;
  within = within;
  each = all_append IsJsonItem f.items added f.each each;
  encoded = take-add end count bytes ∙ ap₂ (λ xs ys. xs ++ ys) f.encoded is ∙ sym (flat_map-append encoding f.items added);
  same = λ t. let s = same t in all_append IsSameItem f.items added (f.same s.0) s.1;
}

raws : (run : List ℕ) → ArePlain run → (run ≡ flat_map encoding (map raw run)) × AllByRecursion IsJsonItem (map raw run) × AllByRecursion IsSameItem (map raw run)
raws [] h = (refl, tt, tt)
raws (b ∷ run) h =
    let rest = raws run (rest_plain b run h) in
    let one = one_plain b run h in
    (ap (λ xs. b ∷ xs) rest.0, (one, rest.1), (one, rest.2))

pub front_start : (bytes : List ℕ) → IsJsonFront bytes 0 true
front_start bytes = record { items = []; within = omega arith; each = tt; encoded = refl; same = λ t. tt }

pub front_run : (bytes : List ℕ) (end run : ℕ) (is_same : Bool) → IsJsonFront bytes end is_same → end + run ≤ length bytes → ArePlain (take run (drop end bytes)) → IsJsonFront bytes (end + run) is_same
front_run bytes end run is_same f within plain =
    let added = take run (drop end bytes) in
    let are = raws added plain in
    front_then bytes end run is_same is_same (map raw added) f within are.0 are.1 (λ t. (t, are.2))

pub front_escape : (bytes : List ℕ) (end byte : ℕ) (is_same now_same : Bool) → IsJsonFront bytes end is_same → end + 1 < length bytes → get_or bytes end 0 ≡ 92 → standard_escape (get_or bytes (end + 1) 0) ≡ Some byte
    → (now_same ≡ true → (is_same ≡ true) × (byte_text byte ≡ 92 ∷ get_or bytes (end + 1) 0 ∷ [])) → IsJsonFront bytes (end + 2) now_same
front_escape bytes end byte is_same now_same f within backslash is written =
    let letter = get_or bytes (end + 1) 0 in
    let two : take 2 (drop end bytes) ≡ 92 ∷ letter ∷ [] =
    ap (take 2) (drop_more bytes end 0 (omega (arith, within)) ∙ ap₂ (λ b bs. b ∷ bs) backslash (drop_more bytes (end + 1) 0 within)) in
    front_then bytes end 2 is_same now_same (escape letter byte ∷ []) f (omega (arith, within)) two (is, tt) (λ t. let w = written t in (w.0, (w.1, tt)))

units_json : (xs : List Item) → AllByRecursion IsUnit xs → AllByRecursion IsJsonItem xs
units_json [] h = tt
units_json (raw b ∷ xs) h = absurd h.0
units_json (escape letter byte ∷ xs) h = absurd h.0
units_json (unit braces digits ∷ xs) h = (h.0, units_json xs h.1)

pub front_units : (bytes : List ℕ) (end count : ℕ) (is_same : Bool) → IsJsonFront bytes end is_same → end + count ≤ length bytes → AreUnits (take count (drop end bytes)) → IsJsonFront bytes (end + count) false
front_units bytes end count is_same f within units =
    front_then bytes end count is_same false units.items f within units.encoded (units_json units.items units.each) (λ t. absurd (true≢false (sym t)))

-- ---- where it ends, and what it means

quote_there : (xs : List Item) (more : List ℕ) → AllByRecursion IsJsonItem xs → quote_end 34 (flat_map encoding xs ++ 34 ∷ more) ≡ Ok (length (flat_map encoding xs))
quote_there [] more h = quote_end-here 34 more
quote_there (raw b ∷ xs) more h =
    quote_end-step 34 b 0 (flat_map encoding xs ++ 34 ∷ more) (no_mark 34 b (omega arith) h.0) (item_step-encoding standard (raw b) (flat_map encoding xs ++ 34 ∷ more) (item_in_mode standard (raw b) h.0))
    ∙ ap (further 1) (quote_there xs more h.1) ∙ ap (λ n. Ok n) {x = 1 + length (flat_map encoding xs)} {y = suc (length (flat_map encoding xs))} (omega arith)
quote_there (escape letter byte ∷ xs) more h =
    quote_end-step 34 92 1 (letter ∷ (flat_map encoding xs ++ 34 ∷ more)) (λ e. absurd (omega (arith, e)))
    (item_step-encoding standard (escape letter byte) (flat_map encoding xs ++ 34 ∷ more) h.0)
    ∙ ap (further 2) (quote_there xs more h.1) ∙ ap (λ n. Ok n) {x = 2 + length (flat_map encoding xs)} {y = suc (suc (length (flat_map encoding xs)))} (omega arith)
quote_there (unit braces digits ∷ xs) more h =
    let after = after_u braces digits in
    let tail = flat_map encoding xs ++ 34 ∷ more in
    ap (λ t. quote_end 34 (92 ∷ 117 ∷ t)) (append_assoc after (flat_map encoding xs) (34 ∷ more))
    ∙ quote_end-step 34 92 (suc (length after)) (117 ∷ (after ++ tail)) (λ e. absurd (omega (arith, e))) (item_step-encoding standard (unit braces digits) tail (item_in_mode standard (unit braces digits) h.0))
    ∙ ap (λ t. further (suc (suc (length after))) (quote_end 34 t)) (drop-append_seam after tail) ∙ ap (further (suc (suc (length after)))) (quote_there xs more h.1)
    ∙ ap (λ n. Ok n) {x = suc (suc (length after)) + length (flat_map encoding xs)} {y = length (encoding (unit braces digits) ++ flat_map encoding xs)} (omega (arith, length-append after (flat_map encoding xs)))

pub json_ends : (bytes : List ℕ) (end : ℕ) (items : List Item) → AllByRecursion IsJsonItem items → take end bytes ≡ flat_map encoding items → end < length bytes → get_or bytes end 0 ≡ 34 → quote_end 34 bytes ≡ Ok end
json_ends bytes end items each encoded within quote =
    let whole : bytes ≡ flat_map encoding items ++ 34 ∷ drop (end + 1) bytes =
    sym (take-append-drop end bytes) ∙ ap₂ (λ xs ys. xs ++ ys) encoded (drop_more bytes end 0 within ∙ ap (λ b. b ∷ drop (end + 1) bytes) quote) in
    ap (quote_end 34) whole ∙ quote_there items (drop (end + 1) bytes) each
    ∙ ap (λ n. Ok n) (ap length (sym encoded) ∙ length-take-le end bytes (omega (arith, within)))

pub json_means : (mode : Mode) (body : List ℕ) (items : List Item) → AllByRecursion IsJsonItem items → body ≡ flat_map encoding items → IsUtf8 body → body_of mode body ≡ Ok (mark_of items, meaning items)
json_means mode body items each encoded utf8 =
    let of_mode = items_in_mode mode items each in
    body_complete mode body items (record { each = of_mode; encoded = encoded }) (meaning_utf8 mode items of_mode (subst IsUtf8 encoded utf8))

-- ---- what a parser passes

holds_in_quotes : (buf : List ℕ) (offset end to : ℕ) → 0 < offset → get_or buf (offset - 1) 0 ≡ 34 → end < length (drop offset buf) → get_or (drop offset buf) end 0 ≡ 34 → to ≡ offset + end + 1
    → slice_range buf (offset - 1) to ≡ in_quotes (take end (drop offset buf))
holds_in_quotes buf offset end to some opened within closed is =
    let rest = drop offset buf in
    let inside : offset - 1 < length buf = omega (arith, within, length-drop offset buf, some) in
    let next : offset - 1 + 1 ≡ offset = omega (arith, some) in
    let first : drop (offset - 1) buf ≡ 34 ∷ rest = drop_more buf (offset - 1) 0 inside ∙ ap₂ (λ b n. b ∷ drop n buf) opened next in
    let count : to - (offset - 1) ≡ suc (end + 1) = omega (arith, is, some) in
    ap₂ (λ n xs. take n xs) count first ∙ ap (λ xs. 34 ∷ xs) (take_more rest end 0 within ∙ ap (λ b. take end rest ++ b ∷ []) closed)

-- what is there is serialized as it is where that is reported
abbrev pub same_or_escaped : Verbatim → Bool → Type 0
same_or_escaped verbatim.Same is_same = is_same ≡ true
same_or_escaped verbatim.Escaped is_same = Unit {0}
same_or_escaped verbatim.Integer is_same = ⊥
same_or_escaped verbatim.Decimal is_same = ⊥

verbatim_as : (kind : Verbatim) (is_same : Bool) (text : List ℕ) (from to : ℕ) (mark : Mark) (body meant : List ℕ) → same_or_escaped kind is_same → to ≤ length text → slice_range text from to ≡ in_quotes body
    → IsJsonBody body meant → (is_same ≡ true → flat_map byte_text meant ≡ body) → IsVerbatimAt kind text from to (string_source mark meant)
verbatim_as verbatim.Integer is_same text from to mark body meant reported inside holds decodes same = absurd reported
verbatim_as verbatim.Decimal is_same text from to mark body meant reported inside holds decodes same = absurd reported
verbatim_as verbatim.Same is_same text from to mark body meant reported inside holds decodes same = (
  record { mark = mark; body = body; meaning = meant; is = refl; inside = inside; holds = holds; decodes = decodes },
  holds ∙ ap in_quotes (sym (same reported)),
)
verbatim_as verbatim.Escaped is_same text from to mark body meant reported inside holds decodes same =
    record { mark = mark; body = body; meaning = meant; is = refl; inside = inside; holds = holds; decodes = decodes }

pub passes_json : (p q : Parser) (kind : Verbatim) (end : ℕ) (is_same : Bool) → same_or_escaped kind is_same → IsBehind 34 p → IsJsonEnd (rest_of p) end is_same → IsUtf8 (take end (rest_of p)) → q.buf ≡ p.buf → q.offset ≡ p.offset + end + 1
    → PassesJson p q kind
passes_json p q kind end is_same reported opened found utf8 buf offset =
    let mode = grammar_of p.grammar in
    let rest = rest_of p in
    let body = take end rest in
    let front = found.front in
    let mark = mark_of front.items in
    let text = meaning front.items in
    let ends = json_ends rest end front.items front.each front.encoded found.within found.quote in
    let at : q.offset ≡ p.offset + (end + 1) = omega (arith, offset) in
    let left : drop (end + 1) rest ≡ rest_of q = drop-drop (end + 1) p.offset p.buf.now ∙ (λ i. drop (sym at i) (sym buf i).now) in
    record {
      mark = mark;
      text = text;
      parses = string_read (size_of p) mode 34 rest (mark, text) (rest_of q)
          (string-closed (size_of p) mode 34 rest end (mark, text) ends (json_means mode body front.items front.each front.encoded utf8) ∙ ap (λ xs. Ok ((mark, text), xs)) left);
      holds = verbatim_as kind is_same p.buf.now (p.offset - 1) q.offset mark body text reported
          (omega (arith, offset, found.within, length-drop p.offset p.buf.now))
          (holds_in_quotes p.buf.now p.offset end q.offset opened.0 opened.1 found.within found.quote offset) (record { items = front.items; each = front.each; encoded = front.encoded; means = refl })
          (λ t. same_written front.items (front.same t) ∙ sym front.encoded);
    }
