-- The text of a string, from its key.
use Rattle.std.proofs.Common.{◌≡◌, ◌≢◌, ℕ, zero, suc, ◌+◌, ◌≤◌, Bool, true, false, List, [], ◌∷◌, ◌++◌, Some, None, get_or, set, drop, take, length, refl, sym, ap, ap₂, ◌∙◌, arith, append-nil, append_assoc, drop-cons, length-append}
use Rattle.std.proofs.Math.Seq.{drop-append_seam, set-append_seam, take-append-add}
use Rattle.std.proofs.lemmas.List.{take-append-drop, take-take, get_or-take, length-take, length-take-le}
use Rattle.std.proofs.lemmas.Grind.{flat_map-append}
use Rattle.std.specs.List.{flat_map}
use Rattle.jsonb_spec.specs.SortKey.Reading.{byte_of, read_as}
use Rattle.key_value.proofs.Texts.{text_begun, byte_read, text_ended}
use Rattle.jsonb_spec.specs.SortKey.{text_key}
use Rattle.jsonb_spec.specs.Text.StringText.{ArePlain, byte_text}
use Rattle.jsonb_core.proofs.Appending.Appended.{IsUnderway, goes_on, fits}
use Rattle.jsonb_core.proofs.SortKeys.Texts.{text_key-other}
use Rattle.jsonb_core.proofs.Trees.Runs.{heads, tails}
use Rattle.jsonb_core.proofs.Strings.PlainTexts.{byte_some, no_shorter}
use Rattle.key_text.specs.Writes.{closing_quote}

-- ---- runs without escapes

plain_byte : (b : ℕ) (bytes : List ℕ) → ArePlain (b ∷ bytes) → (b ≢ 0) × ArePlain bytes
plain_byte b bytes h =
    let others = flat_map byte_text bytes in
    let one : length (byte_text b) ≡ 1 = omega (arith, ap length h, length-append (byte_text b) others, byte_some b, no_shorter bytes) in (
      λ e. absurd (omega (arith, one, ap (λ (n : ℕ). length (byte_text n)) e)),
      sym (drop-append_seam (byte_text b) others) ∙ ap (λ (n : ℕ). drop n (byte_text b ++ others)) one ∙ ap (drop 1) h,
    )

-- what is left of a text behind a run
pub record Passed (text run rest more : List ℕ) : Type 0 where
  pub left : List ℕ
  pub is : text ≡ run ++ left
  pub occurs : rest ≡ text_key left ++ more

pub passed : (count : ℕ) (bytes text more : List ℕ) → bytes ≡ text_key text ++ more → count ≤ length bytes → ArePlain (take count bytes) → Passed text (take count bytes) (drop count bytes) more
passed zero bytes text more e within plain = record { left = text; is = refl; occurs = e }
passed (suc count) [] text more e within plain = absurd (omega (arith, within))
passed (suc count) (b ∷ bytes) [] more e within plain = absurd ((plain_byte b (take count bytes) plain).0 (heads b 0 bytes (1 ∷ more) e))
passed (suc count) (b ∷ bytes) (zero ∷ text) more e within plain = absurd ((plain_byte b (take count bytes) plain).0 (heads b 0 bytes (255 ∷ (text_key text ++ more)) e))
passed (suc count) (b ∷ bytes) (suc a ∷ text) more e within plain =
    let is = e ∙ ap (λ key. key ++ more) (text_key-other a text) in
    let p = passed count bytes text more (tails b (suc a) bytes (text_key text ++ more) is) (omega (arith, within)) (plain_byte b (take count bytes) plain).1 in
    record { left = p.left; is = ap₂ (λ x xs. x ∷ xs) (sym (heads b (suc a) bytes (text_key text ++ more) is)) p.is; occurs = p.occurs }

-- where a text ends
pub text_over : (left others after more : List ℕ) → others ≡ 0 ∷ 1 ∷ after → others ≡ text_key left ++ more → (left ≡ []) × (after ≡ more)
text_over [] others after more read occurs = (refl, tails 1 1 after more (tails 0 0 (1 ∷ after) (1 ∷ more) (sym read ∙ occurs)))
text_over (zero ∷ left) others after more read occurs =
    let one : 1 ≡ 255 = heads 1 255 after (text_key left ++ more) (tails 0 0 (1 ∷ after) (255 ∷ (text_key left ++ more)) (sym read ∙ occurs)) in
    absurd (omega (arith, one))
text_over (suc a ∷ left) others after more read occurs =
    let none : 0 ≡ suc a = heads 0 (suc a) (1 ∷ after) (text_key left ++ more) (sym read ∙ occurs ∙ ap (λ key. key ++ more) (text_key-other a left)) in
    absurd (omega (arith, none))

none_some : (x : List ℕ) → None ≡ Some x → ⊥
none_some x e = cc

-- where it doesn't end, a byte of it is read
pub no_end : (left others more : List ℕ) → others ≡ text_key left ++ more → ((tail : List ℕ) → others ≡ 0 ∷ 1 ∷ tail → None ≡ Some tail) → None ≡ byte_of others → ⊥
no_end left others more occurs none no_byte =
    let x = text_ended others [] others (text_begun others) no_byte left more occurs in
    absurd (none_some more (none more x.1))

-- the byte that is read
pub next_byte : (left others more rest : List ℕ) (byte : ℕ) → others ≡ text_key left ++ more → read_as byte rest ≡ byte_of others → (later : List ℕ) × (left ≡ byte ∷ later) × (rest ≡ text_key later ++ more)
next_byte left others more rest byte occurs is = byte_read others [] others rest byte (text_begun others) is left more occurs

-- ---- the text that is written

-- what is left of the text, of which the rest is written
pub record InsideLeft (colon : Bool) (text rest more old now : List ℕ) : Type 0 where
  pub left : List ℕ
  pub occurs : rest ≡ text_key left ++ more
  pub underway : IsUnderway old now (flat_map byte_text text ++ closing_quote colon) (flat_map byte_text left ++ closing_quote colon)

abbrev pub WritesInside : Bool → List ℕ → List ℕ → List ℕ → List ℕ → Type 0
WritesInside colon bytes rest old now = (text more : List ℕ) → bytes ≡ text_key text ++ more → InsideLeft colon text rest more old now

-- a run, and what is left behind it
pub run_split : (colon : Bool) (left run later : List ℕ) → left ≡ run ++ later → ArePlain run → flat_map byte_text left ++ closing_quote colon ≡ run ++ (flat_map byte_text later ++ closing_quote colon)
run_split colon left run later is plain =
    ap (λ t. flat_map byte_text t ++ closing_quote colon) is
    ∙ ap (λ t. t ++ closing_quote colon) (flat_map-append byte_text run later ∙ ap (λ t. t ++ flat_map byte_text later) plain)
    ∙ append_assoc run (flat_map byte_text later) (closing_quote colon)

pub byte_split : (colon : Bool) (left later : List ℕ) (byte : ℕ) → left ≡ byte ∷ later → flat_map byte_text left ++ closing_quote colon ≡ byte_text byte ++ (flat_map byte_text later ++ closing_quote colon)
byte_split colon left later byte is = ap (λ t. flat_map byte_text t ++ closing_quote colon) is ∙ append_assoc (byte_text byte) (flat_map byte_text later) (closing_quote colon)

module _ (colon : Bool) (bytes rest old now : List ℕ) (so_far : WritesInside colon bytes rest old now) where
  -- a run is written
  module _ (count : ℕ) (within : count ≤ length rest) (plain : ArePlain (take count rest)) where
    pub run_fits : (text more : List ℕ) → bytes ≡ text_key text ++ more → length now + length (take count rest) ≤ length old + length (flat_map byte_text text ++ closing_quote colon)
    run_fits text more e =
        let i = so_far text more e in
        let p = passed count rest i.left more i.occurs within plain in
        fits (take count rest) (flat_map byte_text p.left ++ closing_quote colon) i.underway (run_split colon i.left (take count rest) p.left p.is plain)

    pub run_written : (mid : List ℕ) → mid ≡ now ++ take count rest → WritesInside colon bytes (drop count rest) old mid
    run_written mid is = λ text more e.
        let i = so_far text more e in
        let p = passed count rest i.left more i.occurs within plain in
        record { left = p.left; occurs = p.occurs; underway = goes_on mid (take count rest) (flat_map byte_text p.left ++ closing_quote colon) i.underway (run_split colon i.left (take count rest) p.left p.is plain) is }

  -- the text ends
  module _ (after : List ℕ) (read : rest ≡ 0 ∷ 1 ∷ after) (text more : List ℕ) (e : bytes ≡ text_key text ++ more) where
    over : ((so_far text more e).left ≡ []) × (after ≡ more)
    over = text_over (so_far text more e).left rest after more read (so_far text more e).occurs

    last : flat_map byte_text (so_far text more e).left ++ closing_quote colon ≡ closing_quote colon ++ []
    last = ap (λ t. flat_map byte_text t ++ closing_quote colon) over.0 ∙ sym (append-nil (closing_quote colon))

    pub end_fits : length now + length (closing_quote colon) ≤ length old + length (flat_map byte_text text ++ closing_quote colon)
    end_fits = fits (closing_quote colon) [] (so_far text more e).underway last

    pub end_written : (new : List ℕ) → new ≡ now ++ closing_quote colon → (after ≡ more) × (new ≡ old ++ (flat_map byte_text text ++ closing_quote colon))
    end_written new is =
        let u = goes_on new (closing_quote colon) [] (so_far text more e).underway last is in
        (over.1, u.appended ∙ ap (λ t. old ++ t) (sym (u.whole ∙ append-nil u.front)))

  -- it doesn't, and there is a byte
  pub some_byte : ((tail : List ℕ) → rest ≡ 0 ∷ 1 ∷ tail → None ≡ Some tail) → None ≡ byte_of rest → (text more : List ℕ) → bytes ≡ text_key text ++ more → ⊥
  some_byte none no_byte text more e = let i = so_far text more e in no_end i.left rest more i.occurs none no_byte

  module _ (byte : ℕ) (others : List ℕ) (read : read_as byte others ≡ byte_of rest) where
    pub byte_fits : (text more : List ℕ) → bytes ≡ text_key text ++ more → length now + length (byte_text byte) ≤ length old + length (flat_map byte_text text ++ closing_quote colon)
    byte_fits text more e =
        let i = so_far text more e in
        let n = next_byte i.left rest more others byte i.occurs read in
        fits (byte_text byte) (flat_map byte_text n.0 ++ closing_quote colon) i.underway (byte_split colon i.left n.0 byte n.1)

    pub byte_written : (new : List ℕ) → new ≡ now ++ byte_text byte → WritesInside colon bytes others old new
    byte_written new is = λ text more e.
        let i = so_far text more e in
        let n = next_byte i.left rest more others byte i.occurs read in
        record { left = n.0; occurs = n.2; underway = goes_on new (byte_text byte) (flat_map byte_text n.0 ++ closing_quote colon) i.underway (byte_split colon i.left n.0 byte n.1) is }

-- ---- a short string

-- a run and what closes it are in a row
closed : (front tail : List ℕ) (x y run : ℕ) → length front ≡ run → set (set (front ++ x ∷ y ∷ tail) run 34) (run + 1) 58 ≡ front ++ 34 ∷ 58 ∷ tail
closed front tail x y run long =
    let first : set (front ++ x ∷ y ∷ tail) run 34 ≡ (front ++ 34 ∷ []) ++ y ∷ tail =
    ap (λ i. set (front ++ x ∷ y ∷ tail) i 34) (sym long) ∙ set-append_seam front x (y ∷ tail) 34 ∙ sym (append_assoc front (34 ∷ []) (y ∷ tail)) in
    let next : run + 1 ≡ length (front ++ 34 ∷ []) = omega (arith, length-append front (34 ∷ []), long) in
    ap₂ (λ row i. set row i 58) first next ∙ set-append_seam (front ++ 34 ∷ []) y tail 58 ∙ append_assoc front (34 ∷ []) (58 ∷ tail)

two_there : (chunk : List ℕ) (run : ℕ) → run + 2 ≤ length chunk → chunk ≡ take run chunk ++ get_or chunk run 0 ∷ get_or chunk (run + 1) 0 ∷ drop (run + 1 + 1) chunk
two_there chunk run space =
    let one : suc run ≡ run + 1 = omega arith in
    let two : suc (run + 1) ≡ run + 1 + 1 = omega arith in
    sym (take-append-drop run chunk)
    ∙ ap (λ t. take run chunk ++ t) (drop-cons chunk run 0 (omega (arith, space)) ∙ ap (λ n. get_or chunk run 0 ∷ drop n chunk) one
    ∙ ap (λ t. get_or chunk run 0 ∷ t) (drop-cons chunk (run + 1) 0 (omega (arith, space)) ∙ ap (λ n. get_or chunk (run + 1) 0 ∷ drop n chunk) two))

closing_taken : (colon : Bool) (front tail : List ℕ) (count : ℕ) → count ≡ length front + length (closing_quote colon) → take count (front ++ 34 ∷ 58 ∷ tail) ≡ front ++ closing_quote colon
closing_taken true front tail count is = ap (λ n. take n (front ++ 34 ∷ 58 ∷ tail)) is ∙ take-append-add front (34 ∷ 58 ∷ tail) 2
closing_taken false front tail count is = ap (λ n. take n (front ++ 34 ∷ 58 ∷ tail)) is ∙ take-append-add front (34 ∷ 58 ∷ tail) 1

pub closed_row : (colon : Bool) (chunk : List ℕ) (run count : ℕ) → run + 2 ≤ length chunk → count ≡ run + length (closing_quote colon) → take count (set (set chunk run 34) (run + 1) 58) ≡ take run chunk ++ closing_quote colon
closed_row colon chunk run count space is =
    let front = take run chunk in
    let long : length front ≡ run = length-take-le run chunk (omega (arith, space)) in
    ap (λ c. take count (set (set c run 34) (run + 1) 58)) (two_there chunk run space)
    ∙ ap (take count) (closed front (drop (run + 1 + 1) chunk) (get_or chunk run 0) (get_or chunk (run + 1) 0) run long)
    ∙ closing_taken colon front (drop (run + 1 + 1) chunk) count (omega (arith, is, long))

-- the string that begins with these bytes
pub short_string : (colon : Bool) (bytes chunk : List ℕ) (run : ℕ) → chunk ≡ take 16 bytes → length chunk ≡ 16 → run ≤ 14 → ArePlain (take run bytes) → get_or chunk run 0 ≡ 0 → get_or chunk (run + 1) 0 ≡ 1
    → (text more : List ℕ) → bytes ≡ text_key text ++ more → (drop (run + 2) bytes ≡ more) × (take run chunk ++ closing_quote colon ≡ flat_map byte_text text ++ closing_quote colon)
short_string colon bytes chunk run is long few plain zero_there one_there text more e =
    let most : 16 ≤ length bytes = omega (arith, ap length is, long, length-take 16 bytes) in
    let same : take run chunk ≡ take run bytes = ap (take run) is ∙ take-take run 16 bytes (omega (arith, few)) in
    let p = passed run bytes text more e (omega (arith, most, few)) plain in
    let first : get_or bytes run 0 ≡ 0 = sym (ap (λ c. get_or c run 0) is ∙ get_or-take 16 bytes run 0 (omega (arith, few))) ∙ zero_there in
    let second : get_or bytes (run + 1) 0 ≡ 1 = sym (ap (λ c. get_or c (run + 1) 0) is ∙ get_or-take 16 bytes (run + 1) 0 (omega (arith, few))) ∙ one_there in
    let one : suc run ≡ run + 1 = omega arith in
    let two : suc (run + 1) ≡ run + 2 = omega arith in
    let read : drop run bytes ≡ 0 ∷ 1 ∷ drop (run + 2) bytes =
    drop-cons bytes run 0 (omega (arith, most, few)) ∙ ap₂ (λ x n. x ∷ drop n bytes) first one
    ∙ ap (λ xs. 0 ∷ xs) (drop-cons bytes (run + 1) 0 (omega (arith, most, few)) ∙ ap₂ (λ x n. x ∷ drop n bytes) second two) in
    let over = text_over p.left (drop run bytes) (drop (run + 2) bytes) more read p.occurs in
    let all : text ≡ take run bytes = p.is ∙ ap (λ t. take run bytes ++ t) over.0 ∙ append-nil (take run bytes) in
    (over.1, ap (λ t. t ++ closing_quote colon) (same ∙ sym (ap (flat_map byte_text) all ∙ plain)))
