-- The bytes of a string, read one after the other.
use Rattle.std.proofs.Common.{◌≡◌, ◌≢◌, ℕ, ◌+◌, ◌*◌, ◌/◌, ◌%◌, ◌<◌, ◌≤◌, inl, inr, ◌==◌, Bool, true, false, List, [], ◌∷◌, ◌++◌, Option, Some, None, Result, Ok, Err, take, drop, length, if◌then◌else◌, refl, sym, ap, ap₂, ◌∙◌, arith, append_assoc, append-nil, length-append, ltb-true}
use Rattle.std.proofs.lemmas.Bool.{cond-true, cond-false, cases_lt, lt-ltb, le-ltb, eqb-true}
use Rattle.std.proofs.lemmas.List.{take-append-drop}
use Rattle.std.proofs.lemmas.List.Concat.{flat_map-append}
use Rattle.std.specs.Bool.{nat_lt}
use Rattle.std.specs.Char.{digit_char}
use Rattle.std.specs.List.{flat_map}
use Rattle.jsonb_spec.specs.SortKey.{byte_key, text_key}
use Rattle.jsonb_spec.specs.Text.StringText.{ArePlain, byte_text}
use Rattle.jsonb_core.proofs.Appending.Appended.{IsUnderway, goes_on, fits}
use Rattle.jsonb_core.proofs.SortKeys.Zeros.{plain_key}
use Rattle.jsonb_core.proofs.Strings.PlainTexts.{no_marks, one_plain, rest_plain}
use Rattle.jsonb_core.proofs.Trees.Runs.{heads, tails}
use Rattle.std.specs.Prelude.{IsErrAnd, Vec, vec_len, vec_capacity}
use Rattle.std.specs.declared.alloc.Global.{Global}
use Rattle.key_document.specs.declared.error.DocumentError.{DocumentError}
use Rattle.key_document.specs.declared.error.DocumentError.TheVariants.{OutOfMemory}
use Rattle.key_document.specs.FromText.{closed, hexadecimal_value, is_name, item_of, string_key, WritesPart}

-- ---- what is reported

-- the error of an append
pub part_lacks : {X : Type 0} (IsLeft : X → Type 0) (r : Result X DocumentError) (old new : Vec ℕ Global) (key : List ℕ) → IsErrAnd r (λ e. e ≡ OutOfMemory) → vec_capacity old < vec_len old + length key → WritesPart IsLeft r old new key
part_lacks IsLeft (Ok x) old new key h full = absurd h
part_lacks IsLeft (Err e) old new key h full = (h, full)

-- the error of a call that appends, passed on
pub part_passed : {X : Type 0} (IsLeft : X → Type 0) (r : Result X DocumentError) (old new : Vec ℕ Global) (key : List ℕ) (error : DocumentError) → IsErrAnd r (λ e. e ≡ error) → error ≡ OutOfMemory → vec_capacity old < vec_len old + length key → WritesPart IsLeft r old new key
part_passed IsLeft (Ok x) old new key error h is full = absurd h
part_passed IsLeft (Err e) old new key error h is full = (h ∙ is, full)

-- ---- one byte

pick : (test : Bool) (x y : List ℕ) (P : List ℕ → Type 0) → (test ≡ true → P x) → (test ≡ false → P y) → P (if test then x else y)
pick true x y P p q = p refl
pick false x y P p q = q refl

high_digit : (b : ℕ) → b < 32 → digit_char (b / 16) % 2 ≡ b / 16
high_digit b small = elim (cases_lt b 16) [
  | inl low ↦ let d : b / 16 ≡ 0 = omega (arith, low) in ap (λ d. digit_char d % 2) d ∙ sym d
  | inr high ↦ let d : b / 16 ≡ 1 = omega (arith, high, small) in ap (λ d. digit_char d % 2) d ∙ sym d
]

low_digit : (d : ℕ) → d < 16 → hexadecimal_value (digit_char d) ≡ d
low_digit d small = elim (cases_lt d 10) [
  | inl ten ↦
      let written : digit_char d ≡ 48 + d = cond-true (nat_lt d 10) (48 + d) (87 + d) (lt-ltb d 10 ten) in
      let value : (48 + d) % 16 ≡ d = omega (arith, ten) in
      ap hexadecimal_value written ∙ cond-true (nat_lt (48 + d) 58) _ _ (lt-ltb (48 + d) 58 (omega (arith, ten))) ∙ value
  | inr letter ↦
      let written : digit_char d ≡ 87 + d = cond-false (nat_lt d 10) (48 + d) (87 + d) (le-ltb d 10 letter) in
      let value : (87 + d) % 16 + 9 ≡ d = omega (arith, letter, small) in
      ap hexadecimal_value written ∙ cond-false (nat_lt (87 + d) 58) _ _ (le-ltb (87 + d) 58 (omega (arith, letter))) ∙ value
]

control : (b : ℕ) → b < 32 → 16 * (digit_char (b / 16) % 2) + hexadecimal_value (digit_char (b % 16)) ≡ b
control b small = omega (arith, high_digit b small, low_digit (b % 16) (omega arith))

-- A byte that is written is read again.
pub item_whole : (b : ℕ) (more : List ℕ) → item_of (byte_text b ++ more) ≡ Some (b, more)
item_whole b more =
    let Is : List ℕ → Type 0 = λ text. item_of (text ++ more) ≡ Some (b, more) in
    pick (b == 34) _ _ Is (λ t. ap (λ x. Some (x, more)) (sym (eqb-true b 34 t)))
    (λ n. pick (b == 92) _ _ Is (λ t. ap (λ x. Some (x, more)) (sym (eqb-true b 92 t)))
    (λ other. pick (b == 10) _ _ Is (λ t. ap (λ x. Some (x, more)) (sym (eqb-true b 10 t)))
    (λ n. pick (b == 13) _ _ Is (λ t. ap (λ x. Some (x, more)) (sym (eqb-true b 13 t)))
    (λ n. pick (b == 9) _ _ Is (λ t. ap (λ x. Some (x, more)) (sym (eqb-true b 9 t)))
    (λ n. pick (nat_lt b 32) _ _ Is (λ t. ap (λ x. Some (x, more)) (control b (ltb-true b 32 t)))
    (λ n. cond-false (b == 92) _ _ other))))))

same_pair : (b c : ℕ) (xs ys : List ℕ) → ◌≡◌ {A = Option (ℕ × List ℕ)} (Some (b, xs)) (Some (c, ys)) → (b ≡ c) × (xs ≡ ys)
same_pair b c xs ys e = (ap (λ o. first b o) e, ap (λ o. second xs o) e)
  where
    first : ℕ → Option (ℕ × List ℕ) → ℕ
    first d None = d
    first d (Some p) = p.0

    second : List ℕ → Option (ℕ × List ℕ) → List ℕ
    second d None = d
    second d (Some p) = p.1

none_some : (p : ℕ × List ℕ) → ◌≡◌ {A = Option (ℕ × List ℕ)} None (Some p) → ⊥
none_some p e = cc

-- ---- a string

closed_first : (c : ℕ) (left more : List ℕ) → closed (c ∷ left) more ≡ byte_text c ++ closed left more
closed_first c left more = append_assoc (byte_text c) (flat_map byte_text left) (34 ∷ more)

-- Bytes without escapes are passed.
pub run_passed : (run others left more : List ℕ) → ArePlain run → run ++ others ≡ closed left more → (later : List ℕ) × (left ≡ run ++ later) × (others ≡ closed later more)
run_passed [] others left more p e = (left, refl, e)
run_passed (b ∷ run) others [] more p e = absurd ((no_marks (b ∷ run) p 0 (omega arith)).0 (heads b 34 (run ++ others) more e))
run_passed (b ∷ run) others (c ∷ left) more p e =
    let s = same_pair b c (run ++ others) (closed left more)
    (sym (item_whole b (run ++ others)) ∙ ap (λ t. item_of (t ++ (run ++ others))) (one_plain b run p) ∙ ap item_of (e ∙ closed_first c left more) ∙ item_whole c (closed left more)) in
    let r = run_passed run others left more (rest_plain b run p) s.1 in
    (r.0, (λ i. sym s.0 i ∷ r.1 i), r.2)

-- The string ends.
pub string_over : (others behind left more : List ℕ) → others ≡ 34 ∷ behind → others ≡ closed left more → (left ≡ []) × (behind ≡ more)
string_over others behind [] more is e = (refl, tails 34 34 behind more (sym is ∙ e))
string_over others behind (c ∷ left) more is e =
    let whole : 34 ∷ behind ≡ byte_text c ++ closed left more = sym is ∙ e ∙ closed_first c left more in
    let s = same_pair 34 c behind (closed left more) (ap item_of whole ∙ item_whole c (closed left more)) in
    absurd (omega (arith, heads 34 92 behind (34 ∷ closed left more) (whole ∙ ap (λ x. byte_text x ++ closed left more) (sym s.0))))

-- It doesn't, and there is a byte.
pub next_item : (others left more : List ℕ) (first : ℕ) (behind : List ℕ) (byte : ℕ) (rest : List ℕ) → others ≡ closed left more → others ≡ first ∷ behind → first ≢ 34 → Some (byte, rest) ≡ item_of others
    → (later : List ℕ) × (left ≡ byte ∷ later) × (rest ≡ closed later more)
next_item others [] more first behind byte rest e is other read = absurd (other (heads first 34 behind more (sym is ∙ e)))
next_item others (c ∷ left) more first behind byte rest e is other read =
    let s = same_pair byte c rest (closed left more) (read ∙ ap item_of (e ∙ closed_first c left more) ∙ item_whole c (closed left more)) in
    (left, (λ i. sym s.0 i ∷ left), s.1)

pub some_item : (others left more : List ℕ) (first : ℕ) (behind : List ℕ) → others ≡ closed left more → others ≡ first ∷ behind → first ≢ 34 → None ≡ item_of others → ⊥
some_item others [] more first behind e is other read = other (heads first 34 behind more (sym is ∙ e))
some_item others (c ∷ left) more first behind e is other read = none_some _ (read ∙ ap item_of (e ∙ closed_first c left more) ∙ item_whole c (closed left more))

pub some_byte : (others left more : List ℕ) → others ≡ closed left more → length others ≡ 0 → ⊥
some_byte others left more e none = omega (arith, none, ap length e, length-append (flat_map byte_text left) (34 ∷ more))

-- a run, and what is behind it
pub split_is : (n : ℕ) (rest front back : List ℕ) → front ≡ take n rest → back ≡ drop n rest → rest ≡ front ++ back
split_is n rest front back p q = sym (take-append-drop n rest) ∙ ap₂ (λ xs ys. xs ++ ys) (sym p) (sym q)

-- the kind of a string, which a name has none of
abbrev pub kind_of : Bool → List ℕ
kind_of name = if name then [] else 208 ∷ []

-- A string without escapes is all of what is before the quote.
pub plain_string : (bytes run others behind text more : List ℕ) → bytes ≡ run ++ others → ArePlain run → others ≡ 34 ∷ behind → bytes ≡ closed text more → (behind ≡ more) × (string_key more text ≡ kind_of (is_name behind) ++ (run ++ 0 ∷ 1 ∷ []))
plain_string bytes run others behind text more is plain read e =
    let r = run_passed run others text more plain (sym is ∙ e) in
    let over = string_over others behind r.0 more read r.2 in
    let whole : text ≡ run = r.1 ∙ ap (λ l. run ++ l) over.0 ∙ append-nil run in
    (over.1, ap₂ (λ l t. kind_of (is_name l) ++ text_key t) (sym over.1) whole ∙ ap (λ l. kind_of (is_name behind) ++ (l ++ 0 ∷ 1 ∷ [])) (plain_key run plain))

pub plain_long : (bytes run others behind text more : List ℕ) (name : Bool) → name ≡ is_name behind → bytes ≡ run ++ others → ArePlain run → others ≡ 34 ∷ behind → bytes ≡ closed text more → length (string_key more text) ≡ length (kind_of name) + (length run + 2)
plain_long bytes run others behind text more name named is plain read e =
    omega (arith, ap length (plain_string bytes run others behind text more is plain read e).1, ap (λ b. length (kind_of b)) named, length-append (kind_of (is_name behind)) (run ++ 0 ∷ 1 ∷ []), length-append run (0 ∷ 1 ∷ []))

pub plain_written : (bytes run others behind text more : List ℕ) (name : Bool) (old kinded mid new : List ℕ) → name ≡ is_name behind → bytes ≡ run ++ others → ArePlain run → others ≡ 34 ∷ behind → bytes ≡ closed text more
    → kinded ≡ old ++ kind_of name → mid ≡ kinded ++ run → new ≡ mid ++ 0 ∷ 1 ∷ [] → new ≡ old ++ string_key more text
plain_written bytes run others behind text more name old kinded mid new named is plain read e one two three =
    three ∙ ap (λ l. l ++ 0 ∷ 1 ∷ []) (two ∙ ap (λ l. l ++ run) (one ∙ ap (λ b. old ++ kind_of b) named))
    ∙ append_assoc (old ++ kind_of (is_name behind)) run (0 ∷ 1 ∷ []) ∙ append_assoc old (kind_of (is_name behind)) (run ++ 0 ∷ 1 ∷ [])
    ∙ ap (λ l. old ++ l) (sym (plain_string bytes run others behind text more is plain read e).1)

-- ---- the size of its key

-- What is left of a string, and how many bytes of its key are counted.
pub record SizeLeft (text rest more : List ℕ) (size : ℕ) : Type 0 where
  pub left : List ℕ
  pub occurs : rest ≡ closed left more
  pub counted : size + length (flat_map byte_key left) ≡ length (flat_map byte_key text)

abbrev pub CountsOn : List ℕ → List ℕ → ℕ → Type 0
CountsOn bytes rest size = (text more : List ℕ) → bytes ≡ closed text more → SizeLeft text rest more size

key_split : (run later : List ℕ) → ArePlain run → flat_map byte_key (run ++ later) ≡ run ++ flat_map byte_key later
key_split run later p = flat_map-append byte_key run later ∙ ap (λ t. t ++ flat_map byte_key later) (plain_key run p)

pub run_counted : (bytes rest run others : List ℕ) (size : ℕ) → rest ≡ run ++ others → ArePlain run → CountsOn bytes rest size → CountsOn bytes others (size + length run)
run_counted bytes rest run others size is p so_far = λ text more e.
    let s = so_far text more e in
    let r = run_passed run others s.left more p (sym is ∙ s.occurs) in
    record {
      left = r.0;
      occurs = r.2;
      counted = omega (arith, s.counted, ap (λ l. length (flat_map byte_key l)) r.1, ap length (key_split run r.0 p), length-append run (flat_map byte_key r.0));
    }

pub item_counted : (bytes others : List ℕ) (size first : ℕ) (behind : List ℕ) (byte : ℕ) (rest : List ℕ) (more_size : ℕ) → others ≡ first ∷ behind → first ≢ 34 → Some (byte, rest) ≡ item_of others → more_size ≡ size + length (byte_key byte)
    → CountsOn bytes others size → CountsOn bytes rest more_size
item_counted bytes others size first behind byte rest more_size is other read sum so_far = λ text more e.
    let s = so_far text more e in
    let n = next_item others s.left more first behind byte rest s.occurs is other read in
    record {
      left = n.0;
      occurs = n.2;
      counted = omega (arith, s.counted, sum, ap (λ l. length (flat_map byte_key l)) n.1, length-append (byte_key byte) (flat_map byte_key n.0));
    }

-- ---- its key is written

-- What is left of a string, of which the rest is written.
pub record KeyLeft (text rest more old now : List ℕ) : Type 0 where
  pub left : List ℕ
  pub occurs : rest ≡ closed left more
  pub underway : IsUnderway old now (text_key text) (text_key left)

abbrev pub WritesOn : List ℕ → List ℕ → List ℕ → List ℕ → Type 0
WritesOn bytes rest old now = (text more : List ℕ) → bytes ≡ closed text more → KeyLeft text rest more old now

module _ (bytes rest run others old now : List ℕ) (is : rest ≡ run ++ others) (plain : ArePlain run) (so_far : WritesOn bytes rest old now) (text more : List ℕ) (e : bytes ≡ closed text more) where
  passed : (later : List ℕ) × ((so_far text more e).left ≡ run ++ later) × (others ≡ closed later more)
  passed = run_passed run others (so_far text more e).left more plain (sym is ∙ (so_far text more e).occurs)

  split : text_key (so_far text more e).left ≡ run ++ text_key passed.0
  split = ap text_key passed.1 ∙ ap (λ t. t ++ 0 ∷ 1 ∷ []) (key_split run passed.0 plain) ∙ append_assoc run (flat_map byte_key passed.0) (0 ∷ 1 ∷ [])

  pub run_fits : length now + length run ≤ length old + length (text_key text)
  run_fits = fits run (text_key passed.0) (so_far text more e).underway split

  pub run_written : (new : List ℕ) → new ≡ now ++ run → KeyLeft text others more old new
  run_written new appended = record { left = passed.0; occurs = passed.2; underway = goes_on new run (text_key passed.0) (so_far text more e).underway split appended }

module _ (bytes others behind old now : List ℕ) (is : others ≡ 34 ∷ behind) (so_far : WritesOn bytes others old now) (text more : List ℕ) (e : bytes ≡ closed text more) where
  over : ((so_far text more e).left ≡ []) × (behind ≡ more)
  over = string_over others behind (so_far text more e).left more is (so_far text more e).occurs

  pub end_fits : length now + 2 ≤ length old + length (text_key text)
  end_fits = fits (0 ∷ 1 ∷ []) [] (so_far text more e).underway (ap text_key over.0)

  pub end_written : (new : List ℕ) → new ≡ now ++ 0 ∷ 1 ∷ [] → new ≡ old ++ text_key text
  end_written new appended =
      let u = goes_on new (0 ∷ 1 ∷ []) [] (so_far text more e).underway (ap text_key over.0) appended in
      u.appended ∙ ap (λ t. old ++ t) (sym (u.whole ∙ append-nil u.front))

module _ (bytes others : List ℕ) (first : ℕ) (behind : List ℕ) (byte : ℕ) (rest old now : List ℕ) (is : others ≡ first ∷ behind) (other : first ≢ 34) (read : Some (byte, rest) ≡ item_of others) (so_far : WritesOn bytes others old now)
    (text more : List ℕ) (e : bytes ≡ closed text more) where
  next : (later : List ℕ) × ((so_far text more e).left ≡ byte ∷ later) × (rest ≡ closed later more)
  next = next_item others (so_far text more e).left more first behind byte rest (so_far text more e).occurs is other read

  item_split : text_key (so_far text more e).left ≡ byte_key byte ++ text_key next.0
  item_split = ap text_key next.1 ∙ append_assoc (byte_key byte) (flat_map byte_key next.0) (0 ∷ 1 ∷ [])

  pub item_fits : length now + length (byte_key byte) ≤ length old + length (text_key text)
  item_fits = fits (byte_key byte) (text_key next.0) (so_far text more e).underway item_split

  pub item_written : (new : List ℕ) → new ≡ now ++ byte_key byte → KeyLeft text rest more old new
  item_written new appended = record { left = next.0; occurs = next.2; underway = goes_on new (byte_key byte) (text_key next.0) (so_far text more e).underway item_split appended }
