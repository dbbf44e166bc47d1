-- Strings of JSON, written from the left.
use Rattle.text_members.proofs.Rows.{put_some}
use Rattle.std.proofs.Common.{◌≡◌, ◌≢◌, ℕ, zero, suc, ◌+◌, ◌-◌, ◌<◌, ◌≤◌, Bool, true, false, List, [], ◌∷◌, ◌++◌, length, take, drop, get_or, Option, Some, None, refl, sym, ap, ap₂, subst, ◌∙◌, arith, append_assoc, append-nil, drop-drop, length-drop, length-append, slice_range, ◌==◌}
use Rattle.std.specs.List.{flat_map, AllByRecursion}
use Rattle.std.proofs.lemmas.List.{get_or-take, get_or-drop, get_or-append-add, drop_more, drop-take, drop_all, length-take-le, take-append-drop, take-append-le, take-take, take_rest}
use Rattle.std.proofs.lemmas.List.Concat.{flat_map-append}
use Rattle.jsonb_spec.specs.Grammar.StringBody.{Item, raw, escape, unit, encoding, meaning, IsBody, IsItem, standard_escape}
use Rattle.jsonb_spec.specs.Mode.{standard}
use Rattle.std.specs.Bool.{if◌then◌else◌}
use Rattle.std.proofs.Math.Seq.{take-append-add, take-append_seam}
use Rattle.std.proofs.lemmas.Bool.{cond-false, ne_eqb}
use Rattle.jsonb_spec.specs.SortKey.{byte_key}
use Rattle.jsonb_spec.specs.Source.{Source}
use Rattle.jsonb_spec.specs.Text.{in_quotes}
use Rattle.jsonb_spec.specs.Text.StringText.{ArePlain, byte_text}
use Rattle.jsonb_spec.specs.Text.VerbatimScalar.{IsJsonStringAt}
use Rattle.jsonb_spec.specs.Text.JsonString.{IsJsonBody, IsJsonItem}
use Rattle.jsonb_spec.specs.Parsing.Decoding.{AreContents, SeesNoBackslash}
use Rattle.jsonb_spec.specs.Parsing.Contents.{decoded_text}
use Rattle.text_scan.proofs.Strings.Checks.{body_decoded}
use Rattle.text_scan.proofs.Strings.Items.{body_contents}
use Rattle.jsonb_core.proofs.Strings.Meaning.{meaning-raw, meaning-escape}
use Rattle.jsonb_core.proofs.Strings.PlainTexts.{no_mark, one_plain, rest_plain}
use Rattle.text_write.specs.JsonString.{HasNoZero, WritesFront, written_byte, written_bytes}

meaning-none : meaning [] ≡ []
unfolding meaning
meaning-none = refl

-- ---- the first item

record StripsRaw (b : ℕ) (bs text : List ℕ) : Type 0 where
  left : List ℕ
  short : IsJsonBody bs left
  is : text ≡ b ∷ left
  plain : byte_text b ≡ b ∷ []

by_raw : (b : ℕ) (bs text : List ℕ) (items : List Item) → AllByRecursion IsJsonItem items → b ∷ bs ≡ flat_map encoding items → text ≡ meaning items → b ≢ 92 → StripsRaw b bs text
by_raw b bs text [] each encoded means other = absurd (omega (arith, ap length encoded))
by_raw b bs text (raw c ∷ items) each encoded means other =
    let same : b ≡ c = ap (λ xs. get_or xs 0 0) encoded in
    record {
      left = meaning items;
      short = record { items = items; each = each.1; encoded = ap (drop 1) encoded; means = refl };
      is = means ∙ meaning-raw c items ∙ ap (λ x. x ∷ meaning items) (sym same);
      plain = subst (λ x. byte_text x ≡ x ∷ []) (sym same) each.0;
    }
by_raw b bs text (escape letter byte ∷ items) each encoded means other = absurd (other (ap (λ xs. get_or xs 0 0) encoded))
by_raw b bs text (unit braces digits ∷ items) each encoded means other = absurd (other (ap (λ xs. get_or xs 0 0) encoded))

strip_raw : (b : ℕ) (bs text : List ℕ) → IsJsonBody (b ∷ bs) text → b ≢ 92 → StripsRaw b bs text
strip_raw b bs text short other = by_raw b bs text short.items short.each short.encoded short.means other

record StripsEscape (bs text : List ℕ) (byte : ℕ) : Type 0 where
  some : 0 < length bs
  left : List ℕ
  short : IsJsonBody (drop 1 bs) left
  is : text ≡ byte ∷ left

pub some_same : (a b : ℕ) → ◌≡◌ {A = Option ℕ} (Some a) (Some b) → a ≡ b
some_same a b e = cc

by_escape : (bs text : List ℕ) (byte : ℕ) (items : List Item) → standard_escape (get_or bs 0 0) ≡ Some byte → AllByRecursion IsJsonItem items → 92 ∷ bs ≡ flat_map encoding items → text ≡ meaning items → StripsEscape bs text byte
by_escape bs text byte [] holds each encoded means = absurd (omega (arith, ap length encoded))
by_escape bs text byte (raw c ∷ items) holds each encoded means = absurd (no_mark 92 c (omega arith) each.0 (sym (ap (λ xs. get_or xs 0 0) encoded)))
by_escape bs text byte (escape letter meant ∷ items) holds each encoded means =
    let behind : bs ≡ letter ∷ flat_map encoding items = ap (drop 1) encoded in
    let same : meant ≡ byte = some_same meant byte (sym each.0 ∙ sym (ap (λ xs. standard_escape (get_or xs 0 0)) behind) ∙ holds) in
    record {
      some = omega (arith, ap length behind);
      left = meaning items;
      short = record { items = items; each = each.1; encoded = ap (drop 1) behind; means = refl };
      is = means ∙ meaning-escape letter meant items ∙ ap (λ x. x ∷ meaning items) same;
    }
by_escape bs text byte (unit braces digits ∷ items) holds each encoded means =
    let letter : get_or bs 0 0 ≡ 117 = ap (λ xs. get_or xs 1 0) encoded in
    let none : ◌≡◌ {A = Option ℕ} None (Some byte) = sym (ap standard_escape letter) ∙ holds in
    cc

strip_escape : (bytes text : List ℕ) (byte : ℕ) → 0 < length bytes → get_or bytes 0 0 ≡ 92 → standard_escape (get_or bytes 1 0) ≡ Some byte → IsJsonBody bytes text → StripsEscape (drop 1 bytes) text byte
strip_escape [] text byte some first holds short = absurd (omega (arith, some))
strip_escape (b ∷ bs) text byte some first holds short =
    by_escape bs text byte short.items holds short.each (ap (λ x. x ∷ bs) (sym first) ∙ short.encoded) short.means

-- a backslash isn't alone
by_two : (bs text : List ℕ) (items : List Item) → AllByRecursion IsJsonItem items → 92 ∷ bs ≡ flat_map encoding items → 0 < length bs
by_two bs text [] each encoded = absurd (omega (arith, ap length encoded))
by_two bs text (raw c ∷ items) each encoded = absurd (no_mark 92 c (omega arith) each.0 (sym (ap (λ xs. get_or xs 0 0) encoded)))
by_two bs text (escape letter byte ∷ items) each encoded = omega (arith, ap length encoded)
by_two bs text (unit braces digits ∷ items) each encoded = omega (arith, ap length encoded)

two_bytes : (bytes text : List ℕ) → 0 < length bytes → get_or bytes 0 0 ≡ 92 → IsJsonBody bytes text → 1 < length bytes
two_bytes [] text some first short = absurd (omega (arith, some))
two_bytes (b ∷ bs) text some first short = omega (arith, by_two bs text short.items short.each (ap (λ x. x ∷ bs) (sym first) ∙ short.encoded))

none_left : (text : List ℕ) (items : List Item) → [] ≡ flat_map encoding items → text ≡ meaning items → text ≡ []
none_left text [] encoded means = means ∙ meaning-none
none_left text (raw c ∷ items) encoded means = absurd (omega (arith, ap length encoded))
none_left text (escape letter byte ∷ items) encoded means = absurd (omega (arith, ap length encoded))
none_left text (unit braces digits ∷ items) encoded means = absurd (omega (arith, ap length encoded))

-- ---- no byte is zero but of a unit

either : (P : Option ℕ → Type 0) (test : Bool) (x y : Option ℕ) → P x → P y → P (if test then x else y)
either P true x y p q = p
either P false x y p q = q

never_zero : (letter : ℕ) → ◌≡◌ {A = Option ℕ} (standard_escape letter) (Some 0) → ⊥
never_zero letter =
    let P : Option ℕ → Type 0 = λ r. ◌≡◌ {A = Option ℕ} r (Some 0) → ⊥ in
    either P (letter == 34) _ _ (λ e. cc)
    (either P (letter == 92) _ _ (λ e. cc)
    (either P (letter == 47) _ _ (λ e. cc)
    (either P (letter == 98) _ _ (λ e. cc)
    (either P (letter == 102) _ _ (λ e. cc)
    (either P (letter == 110) _ _ (λ e. cc)
    (either P (letter == 114) _ _ (λ e. cc)
    (either P (letter == 116) _ _ (λ e. cc) (λ e. cc))))))))

one_key : (b : ℕ) → b ≢ 0 → byte_key b ≡ b ∷ []
one_key b some = cond-false (b == 0) _ _ (ne_eqb b 0 some)

one_zero : (b : ℕ) (left text : List ℕ) → b ≢ 0 → text ≡ b ∷ left → HasNoZero left → HasNoZero text
one_zero b left text some is none = ap (flat_map byte_key) is ∙ ap₂ (λ xs ys. xs ++ ys) (one_key b some) none ∙ sym is

run_zeros : (run left : List ℕ) → ArePlain run → HasNoZero left → HasNoZero (run ++ left)
run_zeros [] left plain none = none
run_zeros (b ∷ run) left plain none = one_zero b (run ++ left) (b ∷ run ++ left) (no_mark 0 b (omega arith) (one_plain b run plain)) refl (run_zeros run left (rest_plain b run plain) none)

-- ---- what is written

one_written : (as_text : Bool) (b : ℕ) (old new left text : List ℕ) → new ≡ old ++ written_byte as_text b → text ≡ b ∷ left → new ++ written_bytes as_text left ≡ old ++ written_bytes as_text text
one_written as_text b old new left text w is =
    ap (λ xs. xs ++ written_bytes as_text left) w ∙ append_assoc old (written_byte as_text b) (written_bytes as_text left) ∙ ap (λ t. old ++ written_bytes as_text t) (sym is)

writes_escape : (as_text : Bool) (bytes text old new : List ℕ) (byte : ℕ) → 0 < length bytes → get_or bytes 0 0 ≡ 92 → standard_escape (get_or bytes 1 0) ≡ Some byte → new ≡ old ++ written_byte as_text byte → IsJsonBody bytes text
    → WritesFront as_text bytes text old new 2
writes_escape as_text bytes text old new byte some first is w short =
    let s = strip_escape bytes text byte some first is short in
    record {
      left = s.left;
      within = omega (arith, s.some, length-drop 1 bytes);
      short = subst (λ xs. IsJsonBody xs s.left) (drop-drop 1 1 bytes) s.short;
      written = one_written as_text byte old new s.left text w s.is;
      zeros = one_zero byte s.left text (λ z. never_zero (get_or bytes 1 0) (is ∙ ap Some z)) s.is;
    }

record StripsRun (bytes text : List ℕ) (run : ℕ) : Type 0 where
  left : List ℕ
  short : IsJsonBody (drop run bytes) left
  is : text ≡ take run bytes ++ left
  plain : ArePlain (take run bytes)

strip_run : (run : ℕ) (bytes text : List ℕ) → run ≤ length bytes → SeesNoBackslash bytes run → IsJsonBody bytes text → StripsRun bytes text run
strip_run zero bytes text within clear short = record { left = text; short = short; is = refl; plain = refl }
strip_run (suc run) [] text within clear short = absurd (omega (arith, within))
strip_run (suc run) (b ∷ bs) text within clear short =
    let s = strip_raw b bs text short (clear 0 (omega arith)) in
    let rest = strip_run run bs s.left (omega (arith, within)) (λ k l. clear (suc k) (omega arith)) s.short in
    record { left = rest.left; short = rest.short; is = s.is ∙ ap (λ xs. b ∷ xs) rest.is; plain = ap₂ (λ xs ys. xs ++ ys) s.plain rest.plain }

pub as_they_are : (bytes : List ℕ) → flat_map (written_byte false) bytes ≡ bytes
as_they_are [] = refl
as_they_are (b ∷ bytes) = ap (λ xs. b ∷ xs) (as_they_are bytes)

pub with_escapes : (bytes : List ℕ) → flat_map (written_byte true) bytes ≡ flat_map byte_text bytes
with_escapes [] = refl
with_escapes (b ∷ bytes) = ap (λ xs. byte_text b ++ xs) (with_escapes bytes)

run_written : (as_text : Bool) (bytes : List ℕ) → ArePlain bytes → written_bytes as_text bytes ≡ bytes
run_written true bytes h = with_escapes bytes ∙ h
run_written false bytes h = as_they_are bytes

writes_run : (as_text : Bool) (run : ℕ) (bytes text old new : List ℕ) → run ≤ length bytes → SeesNoBackslash bytes run → new ≡ old ++ take run bytes → IsJsonBody bytes text → WritesFront as_text bytes text old new run
writes_run as_text run bytes text old new within clear w short =
    let s = strip_run run bytes text within clear short in
    let front = take run bytes in
    let same = run_written as_text front s.plain in
    record {
      left = s.left;
      within = within;
      short = s.short;
      written = ap (λ xs. xs ++ written_bytes as_text s.left) w ∙ append_assoc old front (written_bytes as_text s.left)
          ∙ ap (λ xs. old ++ xs) (ap (λ xs. xs ++ written_bytes as_text s.left) (sym same) ∙ sym (flat_map-append (written_byte as_text) front s.left) ∙ ap (written_bytes as_text) (sym s.is));
      zeros = λ none. subst HasNoZero (sym s.is) (run_zeros front s.left s.plain none);
    }

writes_then : (as_text : Bool) (bytes text old middle new : List ℕ) (n m : ℕ) (f : WritesFront as_text bytes text old middle n) → WritesFront as_text (drop n bytes) f.left middle new m → WritesFront as_text bytes text old new (n + m)
writes_then as_text bytes text old middle new n m f g = record {
  left = g.left;
  within = omega (arith, f.within, g.within, length-drop n bytes);
  short = subst (λ xs. IsJsonBody xs g.left) (drop-drop m n bytes) g.short;
  written = g.written ∙ f.written;
  zeros = λ none. f.zeros (g.zeros none);
}

-- ---- the contents of a string

-- so many bytes of the contents are written
abbrev pub WritesSome : Bool → List ℕ → ℕ → List ℕ → List ℕ → ℕ → Type 0
WritesSome as_text bytes count old new at = (text : List ℕ) → IsJsonBody (take count bytes) text → WritesFront as_text (take count bytes) text old new at

-- what is left of the contents
left_is : (bytes : List ℕ) (count at : ℕ) → at ≤ count → drop at (take count bytes) ≡ take (count - at) (drop at bytes)
left_is bytes count at within = ap (λ n. drop at (take n bytes)) {x = count} {y = at + (count - at)} (omega (arith, within)) ∙ drop-take at (count - at) bytes

-- the bytes so far, and then a run of these
some_front : (as_text : Bool) (bytes : List ℕ) (count at run : ℕ) (old middle new : List ℕ) → at ≤ count → count ≤ length bytes → WritesSome as_text bytes count old middle at → run ≤ count - at → SeesNoBackslash (drop at bytes) run
    → new ≡ middle ++ take run (drop at bytes) → WritesSome as_text bytes count old new (at + run)
some_front as_text bytes count at run old middle new within inside f few clear w text short =
    let front = f text short in
    let left = left_is bytes count at within in
    let taken : take run (drop at (take count bytes)) ≡ take run (drop at bytes) = ap (take run) left ∙ take-take run (count - at) (drop at bytes) few in
    let long : length (drop at (take count bytes)) ≡ count - at = ap length left ∙ length-take-le (count - at) (drop at bytes) (omega (arith, length-drop at bytes, inside, within)) in
    let none : SeesNoBackslash (drop at (take count bytes)) run = λ k l z. clear k l (sym (get_or-take (count - at) (drop at bytes) k 0 (omega (arith, l, few))) ∙ ap (λ xs. get_or xs k 0) (sym left) ∙ z) in
    writes_then as_text (take count bytes) text old middle new at run front
    (writes_run as_text run (drop at (take count bytes)) front.left middle new (omega (arith, long, few)) none (w ∙ ap (λ xs. middle ++ xs) (sym taken)) front.short)

-- as many bytes before a backslash, which are written as they are
pub some_clear : (as_text : Bool) (bytes : List ℕ) (count at near run : ℕ) (old middle new : List ℕ) → at ≤ count → count ≤ length bytes → WritesSome as_text bytes count old middle at → SeesNoBackslash (drop at bytes) near → run ≤ near → run ≤ count - at
    → new ≡ middle ++ take run (drop at bytes) → WritesSome as_text bytes count old new (at + run)
some_clear as_text bytes count at near run old middle new within inside f clear less few w =
    some_front as_text bytes count at run old middle new within inside f few (λ k l. clear k (omega (arith, l, less))) w

some_item : (as_text : Bool) (bytes item : List ℕ) (count at size : ℕ) (old middle new : List ℕ) → at ≤ count → WritesSome as_text bytes count old middle at → item ≡ take (count - at) (drop at bytes)
    → ((text : List ℕ) → IsJsonBody item text → WritesFront as_text item text middle new size) → WritesSome as_text bytes count old new (at + size)
some_item as_text bytes item count at size old middle new within f is g text short =
    let front = f text short in
    let same : drop at (take count bytes) ≡ item = left_is bytes count at within ∙ sym is in
    writes_then as_text (take count bytes) text old middle new at size front
    (subst (λ xs. WritesFront as_text xs front.left middle new size) (sym same) (g front.left (subst (λ xs. IsJsonBody xs front.left) same front.short)))

-- an escape behind so many bytes
pub some_escape : (as_text : Bool) (bytes : List ℕ) (count at byte : ℕ) (old middle new : List ℕ) → at < count → WritesSome as_text bytes count old middle at → get_or bytes at 0 ≡ 92 → count ≤ length bytes
    → standard_escape (get_or bytes (at + 1) 0) ≡ Some byte → new ≡ middle ++ written_byte as_text byte → WritesSome as_text bytes count old new (at + 2)
some_escape as_text bytes count at byte old middle new within f here inside is w =
    let item = take (count - at) (drop at bytes) in
    let long : length item ≡ count - at = length-take-le (count - at) (drop at bytes) (omega (arith, length-drop at bytes, inside, within)) in
    let first : get_or item 0 0 ≡ 92 = get_or-take (count - at) (drop at bytes) 0 0 (omega (arith, within)) ∙ get_or-drop at bytes 0 0 ∙ ap (λ n. get_or bytes n 0) {x = at + 0} {y = at} (omega arith) ∙ here in
    some_item as_text bytes item count at 2 old middle new (omega (arith, within)) f refl (λ text short.
    let some = two_bytes item text (omega (arith, long, within)) first short in
    let second : get_or item 1 0 ≡ get_or bytes (at + 1) 0 = get_or-take (count - at) (drop at bytes) 1 0 (omega (arith, some, long)) ∙ get_or-drop at bytes 1 0 in
    writes_escape as_text item text middle new byte (omega (arith, long, within)) first (ap standard_escape second ∙ is) w short)

pub some_all : (as_text : Bool) (bytes : List ℕ) (count at : ℕ) (old new text : List ℕ) → count ≤ length bytes → count ≤ at → WritesSome as_text bytes count old new at → IsJsonBody (take count bytes) text → (new ≡ old ++ written_bytes as_text text) × HasNoZero text
some_all as_text bytes count at old new text inside over f short =
    let front = f text short in
    let none : drop at (take count bytes) ≡ [] = drop_all at (take count bytes) (omega (arith, length-take-le count bytes inside, over)) in
    let left = none_left front.left front.short.items (sym none ∙ front.short.encoded) front.short.means in (
      sym (append-nil new) ∙ ap (λ t. new ++ written_bytes as_text t) (sym left) ∙ front.written,
      front.zeros (subst HasNoZero (sym left) refl),
    )

-- what is in front of bytes that were put into a row
pub front_of : (row put chunk : List ℕ) (end all n : ℕ) → take all put ≡ take end row ++ chunk → n ≤ end → end ≤ all → end ≤ length row → take n put ≡ take n row
front_of row put chunk end all n is low high within =
    sym (take-take n all put (omega (arith, low, high))) ∙ ap (take n) is ∙ take-append-le n (take end row) chunk (omega (arith, low, length-take-le end row within)) ∙ take-take n end row low

-- some of 16 bytes that were put so
pub run_put : (bytes row put : List ℕ) (at end run : ℕ) → at + 16 ≤ length bytes → end + 16 ≤ length row → length put ≡ length row → take (end + 16) put ≡ take end row ++ take 16 (take (length bytes - at) (drop at bytes)) → run ≤ 16
    → take (end + run) put ≡ take end row ++ take run (drop at bytes)
run_put bytes row put at end run inside space size is few =
    let chunk = take 16 (drop at bytes) in
    let long : length chunk ≡ 16 = length-take-le 16 (drop at bytes) (omega (arith, length-drop at bytes, inside)) in
    (put_some row put chunk end (end + 16) run (omega (arith, long, few)) (omega (arith, space)) (omega (arith, space, size)) (is ∙ ap (λ xs. take end row ++ take 16 xs) (take_rest bytes at))).0
    ∙ ap (λ xs. take end row ++ xs) (take-take run 16 (drop at bytes) few)

-- one of 16 bytes that were put so
pub byte_put : (bytes row put : List ℕ) (at end run : ℕ) → at + 16 ≤ length bytes → end + 16 ≤ length row → length put ≡ length row → take (end + 16) put ≡ take end row ++ take 16 (take (length bytes - at) (drop at bytes)) → run < 16
    → get_or put (end + run) 0 ≡ get_or bytes (at + run) 0
byte_put bytes row put at end run inside space size is few =
    let chunk = take (run + 1) (drop at bytes) in
    let long : length (take end row) ≡ end = length-take-le end row (omega (arith, space)) in
    sym (get_or-take (end + (run + 1)) put (end + run) 0 (omega arith))
    ∙ ap (λ xs. get_or xs (end + run) 0) (run_put bytes row put at end (run + 1) inside space size is (omega (arith, few)))
    ∙ ap (λ n. get_or (take end row ++ chunk) (n + run) 0) (sym long) ∙ get_or-append-add (take end row) chunk run 0
    ∙ get_or-take (run + 1) (drop at bytes) run 0 (omega arith) ∙ get_or-drop at bytes run 0

-- fewer of the first bytes, which are the same
pub fewer_same : (n m : ℕ) (xs ys : List ℕ) → n ≤ m → take m xs ≡ take m ys → take n xs ≡ take n ys
fewer_same n m xs ys few same = sym (take-take n m xs few) ∙ ap (take n) same ∙ take-take n m ys few

-- what is taken of a buffer behind whose old bytes a row was written
pub row_taken : (old added ext row back : List ℕ) (start end len : ℕ) → ext ≡ old ++ added → start ≡ length old → take start row ≡ take start ext → start ≤ end → len ≡ length ext
    → back ≡ take end (take len (row ++ drop (length row) ext)) → (more : List ℕ) × (back ≡ old ++ more) × (end ≡ start → more ≡ [])
row_taken old added ext row back start end len grown count verbatim behind size taken =
    let same : take start row ≡ take start (old ++ added) = verbatim ∙ ap (take start) grown in
    let is : back ≡ take end (take len (row ++ drop (length row) (old ++ added))) = taken ∙ ap (λ xs. take end (take len (row ++ drop (length row) xs))) grown in
    let within : start ≤ len = omega (arith, count, size, ap length grown, length-append old added) in
    let front : take start row ≡ old = same ∙ ap (λ n. take n (old ++ added)) count ∙ take-append_seam old added in
    let rest = drop start row ++ drop (length row) (old ++ added) in
    let whole : row ++ drop (length row) (old ++ added) ≡ old ++ rest =
    ap (λ xs. xs ++ drop (length row) (old ++ added)) (sym (take-append-drop start row) ∙ ap (λ xs. xs ++ drop start row) front) ∙ append_assoc old (drop start row) (drop (length row) (old ++ added)) in
    let first : take len (old ++ rest) ≡ old ++ take (len - start) rest =
    ap (λ n. take n (old ++ rest)) {x = len} {y = length old + (len - start)} (omega (arith, count, within)) ∙ take-append-add old rest (len - start) in
    let more = take (end - start) (take (len - start) rest) in
    let second : take end (old ++ take (len - start) rest) ≡ old ++ more =
    ap (λ n. take n (old ++ take (len - start) rest)) {x = end} {y = length old + (end - start)} (omega (arith, count, behind)) ∙ take-append-add old (take (len - start) rest) (end - start) in (
      more,
      is ∙ ap (take end) (ap (take len) whole ∙ first) ∙ second,
      λ e. ap (λ n. take n (take (len - start) rest)) {x = end - start} {y = 0} (omega (arith, e)),
    )

-- ---- where such a string is

-- what is written between quotes
pub quoted_bytes : (old front middle last text : List ℕ) → front ≡ old ++ 34 ∷ [] → middle ≡ front ++ text → last ≡ middle ++ 34 ∷ [] → last ≡ old ++ 34 ∷ (text ++ 34 ∷ [])
quoted_bytes old front middle last text first second closed =
    closed ∙ ap (λ (u : List ℕ). u ++ 34 ∷ []) (second ∙ ap (λ (u : List ℕ). u ++ text) first) ∙ append_assoc (old ++ 34 ∷ []) text (34 ∷ []) ∙ append_assoc old (34 ∷ []) (text ++ 34 ∷ [])

-- the bytes between the quotes
body_there : (text body : List ℕ) (from to count : ℕ) → from + 2 + count ≡ to → to ≤ length text → slice_range text from to ≡ in_quotes body → take count (drop (from + 1) text) ≡ body
body_there text body from to count sum inside holds =
    let rest = drop (from + 1) text in
    let first = drop_more text from 0 (omega (arith, sum, inside)) in
    let size : to - from ≡ suc (count + 1) = omega (arith, sum) in
    let all : get_or text from 0 ∷ take (count + 1) rest ≡ 34 ∷ (body ++ 34 ∷ []) = sym (ap₂ (λ n xs. take n xs) size first) ∙ holds in
    let inner : take (count + 1) rest ≡ body ++ 34 ∷ [] = ap (drop 1) all in
    let long : length body ≡ count =
    omega (arith, ap length inner, length-append body (34 ∷ []), length-take-le (count + 1) rest (omega (arith, length-drop (from + 1) text, sum, inside))) in
    sym (take-take count (count + 1) rest (omega arith)) ∙ ap₂ (λ n xs. take n xs) (sym long) inner ∙ take-append_seam body (34 ∷ [])

pub body_at : (text : List ℕ) (s : Source) (from to count : ℕ) → from + 2 + count ≡ to → to ≤ length text → (at : IsJsonStringAt text from to s) → IsJsonBody (take count (drop (from + 1) text)) at.meaning
body_at text s from to count sum inside at = subst (λ xs. IsJsonBody xs at.meaning) (sym (body_there text at.body from to count sum inside at.holds)) at.decodes

-- ---- what is decoded

json_items : (items : List Item) → AllByRecursion IsJsonItem items → AllByRecursion (IsItem standard) items
json_items [] each = tt
json_items (raw b ∷ items) each = ((no_mark 92 b (omega arith) each.0, tt), json_items items each.1)
json_items (escape letter byte ∷ items) each = (each.0, json_items items each.1)
json_items (unit braces digits ∷ items) each = ((each.0.1, each.0.2, λ b. tt), json_items items each.1)

-- such contents are contents of standard mode, and mean the same there
pub json_decoded : (body text : List ℕ) → IsJsonBody body text → AreContents standard body × (decoded_text standard body ≡ text)
json_decoded body text short =
    let whole : IsBody standard body short.items = record { encoded = short.encoded; each = json_items short.items short.each } in
    (body_contents standard body short.items whole, body_decoded standard body short.items whole ∙ sym short.means)
