-- What JSON and standard mode parse of contents, item by item.
use Rattle.std.proofs.Common.{List, [], ◌∷◌, ◌≡◌, ◌≢◌, ℕ, zero, suc, ◌+◌, ◌-◌, ◌<◌, ◌≤◌, ◌↔◌, ◌++◌, MatchBool, bit_and, bit_or, length, drop, get_or, Bool, true, false, cond, eqb, ltb, Some, None, Err, ⊎_elim, inl, sym, ap, ◌∙◌, subst, arith, refl, length-append, eqb-true, All}
use Rattle.std.proofs.lemmas.Bool.{cases_Bool, cases_lt, eqb-false}
use Rattle.std.proofs.lemmas.Grind.{flat_map-append}
use Rattle.std.proofs.lemmas.List.{append_assoc, append-nil, get_or-drop, length-drop}
use Rattle.std.proofs.lemmas.Nat.Bits.{bit_at-zero, bit_at_and, bit_at_or}
use Rattle.std.specs.Int.{bit_at}
use Rattle.std.specs.List.{flat_map, AllByRecursion}
use Rattle.jsonb_spec.specs.Code.{Code, control_character_while_parsing_string, invalid_hex, unexpected_end_of_hex_escape}
use Rattle.jsonb_spec.specs.Grammar.StringBody.{Item, raw, escape, unit, encoding, IsItem, IsHexDigit, escaped_byte}
use Rattle.jsonb_spec.specs.Grammar.StringFault.{cut_unit, bad_digit, cut_escape, unknown_escape, bad_unit, control_character}
use Rattle.jsonb_spec.specs.Mode.{Mode, standard, json, strict}
use Rattle.jsonb_core.proofs.Strings.Meaning.{each-append}
use Rattle.jsonb_spec.specs.Parsing.Decoding.{ParsesUnit, StopsInUnit}
use Rattle.jsonb_spec.specs.Parsing.String.{Body, unit_at, escape_at, item_at, onto, then_items, items_within, meaning_of, body_of}
use Rattle.text_scan.specs.StrictString.{AreClean, ParsesItem, ParsesNoItem}
use Rattle.text_scan.proofs.Strings.ByteMasks.{within}
use Rattle.text_scan.proofs.Strings.Items.{long-bare, escape-letter, escape-u, item-backslash, item-raw, item_parsed, item_faulty, item_sound, items-step, length-encoding}
use Rattle.text_scan.proofs.Strings.Rows.{same_others}

-- ---- one item

unit-alike : (bytes : List ℕ) → get_or bytes 0 0 ≢ 123 → unit_at json bytes ≡ unit_at standard bytes
unfolding unit_at
unit-alike bytes other =
    ap (λ (u : Body Item). cond (ltb (length bytes) 4) (Err (unexpected_end_of_hex_escape, 2)) u) (long-bare json bytes (λ beyond. absurd beyond) ∙ sym (long-bare standard bytes (λ beyond. other)))

brace_first : (bytes : List ℕ) → get_or bytes 0 0 ≡ 123 → bytes ≡ 123 ∷ drop 1 bytes
brace_first [] e = absurd (omega (arith, e))
brace_first (b ∷ bytes) e = ap (λ (c : ℕ). c ∷ bytes) e

escape-alike : (bytes : List ℕ) → ((more : List ℕ) → bytes ≢ 117 ∷ 123 ∷ more) → escape_at json bytes ≡ escape_at standard bytes
unfolding escape_at
escape-alike [] other = refl
escape-alike (letter ∷ bytes) other =
    ⊎_elim
    (λ t.
    let is : letter ≡ 117 = eqb-true letter 117 t in
    let no_brace : get_or bytes 0 0 ≢ 123 = λ e. other (drop 1 bytes) (ap (λ (b : ℕ). b ∷ bytes) is ∙ ap (λ (rest : List ℕ). 117 ∷ rest) (brace_first bytes e)) in
    ap (λ (b : ℕ). escape_at json (b ∷ bytes)) is ∙ escape-u json bytes ∙ unit-alike bytes no_brace ∙ sym (escape-u standard bytes) ∙ sym (ap (λ (b : ℕ). escape_at standard (b ∷ bytes)) is))
    (λ f. let no_u = eqb-false letter 117 f in escape-letter json letter bytes no_u ∙ sym (escape-letter standard letter bytes no_u))
    (cases_Bool (eqb letter 117))

-- An item that is no control character and has no braces is the same, or the fault is.
pub alike : (byte : ℕ) (bytes : List ℕ) → 32 ≤ byte → (byte ≡ 92 → (more : List ℕ) → bytes ≢ 117 ∷ 123 ∷ more) → item_at json byte bytes ≡ item_at standard byte bytes
alike byte bytes high other =
    ⊎_elim
    (λ t.
    let is : byte ≡ 92 = eqb-true byte 92 t in
    ap (λ (b : ℕ). item_at json b bytes) is ∙ item-backslash json bytes ∙ escape-alike bytes (other is) ∙ sym (item-backslash standard bytes) ∙ sym (ap (λ (b : ℕ). item_at standard b bytes) is))
    (λ f. let no_backslash = eqb-false byte 92 f in item-raw json byte bytes no_backslash high ∙ sym (item-raw standard byte bytes no_backslash tt))
    (cases_Bool (eqb byte 92))

-- ---- what JSON alone rejects

pub control_rejected : (byte : ℕ) (bytes : List ℕ) → byte < 32 → item_at json byte bytes ≡ Err (control_character_while_parsing_string, 1)
control_rejected byte bytes low = item_faulty json byte bytes control_character_while_parsing_string 1 (control_character byte bytes refl (λ high. absurd (omega (arith, low, high))) refl refl)

pub braces_cut : (byte : ℕ) (bytes more : List ℕ) → byte ≡ 92 → bytes ≡ 117 ∷ 123 ∷ more → length more < 3 → item_at json byte bytes ≡ Err (unexpected_end_of_hex_escape, 2)
braces_cut byte bytes more is opens short =
    item_faulty json byte bytes unexpected_end_of_hex_escape 2
    (bad_unit (123 ∷ more) 0 (ap (λ (b : ℕ). b ∷ bytes) is ∙ ap (λ (rest : List ℕ). 92 ∷ rest) opens) (cut_unit (inl (omega (arith, short))) refl refl) refl)

pub braces_rejected : (byte : ℕ) (bytes more : List ℕ) → byte ≡ 92 → bytes ≡ 117 ∷ 123 ∷ more → 3 ≤ length more → item_at json byte bytes ≡ Err (invalid_hex 123, 6)
braces_rejected byte bytes [] is opens long = absurd (omega (arith, long))
braces_rejected byte bytes (a ∷ []) is opens long = absurd (omega (arith, long))
braces_rejected byte bytes (a ∷ b ∷ []) is opens long = absurd (omega (arith, long))
braces_rejected byte bytes (a ∷ b ∷ c ∷ more) is opens long =
    item_faulty json byte bytes (invalid_hex 123) 6
    (bad_unit (123 ∷ a ∷ b ∷ c ∷ more) 4 (ap (λ (d : ℕ). d ∷ bytes) is ∙ ap (λ (rest : List ℕ). 92 ∷ rest) opens)
    (bad_digit false (123 ∷ a ∷ b ∷ c ∷ []) more 123 (λ e. cc) refl refl (λ beyond. absurd beyond)
    (record { digits = []; more = a ∷ b ∷ c ∷ []; split = refl; before = none; here = λ low. absurd (omega (arith, low)) }) refl refl) refl)
  where
    none : All IsHexDigit []
    none k d low = absurd (omega (arith, low))

-- ---- items of standard mode

pub raw_item : (byte : ℕ) (bytes : List ℕ) → byte ≢ 92 → ParsesItem standard byte bytes bytes
raw_item byte bytes other = record { item = raw byte; parsed = item_parsed standard (raw byte) byte bytes bytes refl (other, tt); split = refl }

pub escape_item : (letter byte : ℕ) (bytes rest : List ℕ) → bytes ≡ letter ∷ rest → escaped_byte strict letter ≡ Some byte → ParsesItem standard 92 bytes rest
escape_item letter byte bytes rest is means =
    let split : 92 ∷ bytes ≡ encoding (escape letter byte) ++ rest = ap (λ (u : List ℕ). 92 ∷ u) is in
    record { item = escape letter byte; parsed = item_parsed standard (escape letter byte) 92 bytes rest split means; split = split }

pub unit_item : (letter : ℕ) (bytes after digits rest : List ℕ) (value : ℕ) → bytes ≡ letter ∷ after → letter ≡ 117 → ParsesUnit after digits rest value → ParsesItem standard 92 bytes rest
unit_item letter bytes after digits rest value is u r =
    let s = r.splits in
    let split : 92 ∷ bytes ≡ encoding (unit s.braces digits) ++ rest = ap (λ (v : List ℕ). 92 ∷ v) (is ∙ ap (λ (b : ℕ). b ∷ after) u ∙ ap (λ (v : List ℕ). 117 ∷ v) s.split) in
    record { item = unit s.braces digits; parsed = item_parsed standard (unit s.braces digits) 92 bytes rest split (s.four, r.each, λ braces. tt); split = split }

pub cut_none : (bytes : List ℕ) → bytes ≡ [] → ParsesNoItem standard 92 bytes
cut_none bytes none = ((unexpected_end_of_hex_escape, 1), item_faulty standard 92 bytes unexpected_end_of_hex_escape 1 (cut_escape (ap (λ (u : List ℕ). 92 ∷ u) none) refl refl))

pub letter_none : (letter : ℕ) (bytes rest : List ℕ) → bytes ≡ letter ∷ rest → letter ≢ 117 → escaped_byte strict letter ≡ None → ParsesNoItem standard 92 bytes
letter_none letter bytes rest is other none =
    (_, item_faulty standard 92 bytes _ 2 (unknown_escape letter rest (ap (λ (u : List ℕ). 92 ∷ u) is) other none refl refl))

pub unit_none : (letter : ℕ) (bytes after : List ℕ) (code : Code) (left : ℕ) → bytes ≡ letter ∷ after → letter ≡ 117 → StopsInUnit standard after code left → ParsesNoItem standard 92 bytes
unit_none letter bytes after code left is u stop =
    (_, item_faulty standard 92 bytes code (2 + stop.steps) (bad_unit after stop.steps (ap (λ (v : List ℕ). 92 ∷ v) (is ∙ ap (λ (b : ℕ). b ∷ after) u)) stop.bad refl))

-- ---- clean contents

where_true : {P : Type 0} (t : Bool) → (t ≡ true → P) → MatchBool t P (Unit {0})
where_true true p = p refl
where_true false p = tt

-- what the bits of 16 bytes and of the next ones say, where none is set
pub clean_row : (low letters braces : ℕ) (bytes : List ℕ) → ((k : ℕ) → (bit_at low k ≡ 1) ↔ ((k < 16) × (get_or bytes k 0 < 32))) → ((k : ℕ) → (bit_at letters k ≡ 1) ↔ ((k < 16) × (get_or bytes k 0 ≡ 117)))
    → ((k : ℕ) → (bit_at braces k ≡ 1) ↔ ((k < 16) × (get_or (drop 1 bytes) k 0 ≡ 123))) → MatchBool (eqb (bit_or low (bit_and letters braces)) 0) (AreClean bytes 16) (Unit {0})
clean_row low letters braces bytes lows us opens = where_true (eqb (bit_or low (bit_and letters braces)) 0) (λ t k few. (high t k few, bare t k few))
  where
    none : eqb (bit_or low (bit_and letters braces)) 0 ≡ true → (k : ℕ) → bit_at (bit_or low (bit_and letters braces)) k ≡ 0
    none t k = ap (λ (m : ℕ). bit_at m k) (eqb-true (bit_or low (bit_and letters braces)) 0 t) ∙ bit_at-zero k

    high : eqb (bit_or low (bit_and letters braces)) 0 ≡ true → (k : ℕ) → k < 16 → 32 ≤ get_or bytes k 0
    high t k few = ⊎_elim
        (λ below. absurd (let set = (lows k).1 (few, below) in omega (arith, set, none t k, bit_at_or low (bit_and letters braces) k)))
        (λ above. above)
        (cases_lt (get_or bytes k 0) 32)

    bare : eqb (bit_or low (bit_and letters braces)) 0 ≡ true → (k : ℕ) → k < 16 → get_or bytes k 0 ≡ 117 → get_or bytes (k + 1) 0 ≢ 123
    bare t k few u brace =
        let next : 1 + k ≡ k + 1 = omega arith in
        let first = (us k).1 (few, u) in
        let second = (opens k).1 (few, get_or-drop 1 bytes k 0 ∙ ap (λ (i : ℕ). get_or bytes i 0) next ∙ brace) in
        absurd (omega (arith, first, second, none t k, bit_at_or low (bit_and letters braces) k, bit_at_and letters braces k))

-- so many bytes more
pub clean_on : (bytes : List ℕ) (at more : ℕ) → AreClean bytes at → AreClean (drop at bytes) more → AreClean bytes (at + more)
clean_on bytes at more before row k low = ⊎_elim
    (λ near. before k near)
    (λ far.
    let here = row (k - at) (omega (arith, low, far)) in
    let offset : at + (k - at) ≡ k = omega (arith, far) in
    let next : at + (k - at + 1) ≡ k + 1 = omega (arith, far) in
    let same : get_or (drop at bytes) (k - at) 0 ≡ get_or bytes k 0 = get_or-drop at bytes (k - at) 0 ∙ ap (λ (i : ℕ). get_or bytes i 0) offset in
    let same_next : get_or (drop at bytes) (k - at + 1) 0 ≡ get_or bytes (k + 1) 0 = get_or-drop at bytes (k - at + 1) 0 ∙ ap (λ (i : ℕ). get_or bytes i 0) next in
    (subst (λ (b : ℕ). 32 ≤ b) same here.0, λ u brace. here.1 (same ∙ u) (same_next ∙ brace)))
    (cases_lt k at)

-- 16 bytes and one more that is no control character, behind which nothing is
pub clean_end : (bytes : List ℕ) (t : Bool) → length bytes ≡ 17 → 32 ≤ get_or bytes 16 0 → MatchBool t (AreClean bytes 16) (Unit {0}) → MatchBool t (AreClean bytes 17) (Unit {0})
clean_end bytes false long high row = tt
clean_end bytes true long high row = λ k low. ⊎_elim
    (λ near. row k near)
    (λ far.
    let last : 16 ≡ k = omega (arith, low, far) in
    (subst (λ (i : ℕ). 32 ≤ get_or bytes i 0) last high, λ u brace. absurd (omega (arith, long, last, within 123 (omega arith) bytes (k + 1) brace))))
    (cases_lt k 16)

-- up to an index, and the last 17 bytes
pub clean_whole : (bytes : List ℕ) (at : ℕ) (t : Bool) → 17 ≤ length bytes → length bytes ≤ at + 16 → AreClean bytes at → MatchBool t (AreClean (drop (length bytes - 17) bytes) 17) (Unit {0}) → MatchBool t (AreClean bytes (length bytes)) (Unit {0})
clean_whole bytes at false long near before end = tt
clean_whole bytes at true long near before end =
    let sum : length bytes - 17 + 17 ≡ length bytes = omega (arith, long) in
    subst (AreClean bytes) sum (clean_on bytes (length bytes - 17) 17 (λ k low. before k (omega (arith, low, long, near))) end)

clean_left : (bytes : List ℕ) (n : ℕ) → AreClean bytes (length bytes) → AreClean (drop n bytes) (length (drop n bytes))
clean_left bytes n clean k low =
    let here = clean (n + k) (omega (arith, low, length-drop n bytes)) in
    let at : (i : ℕ) → get_or (drop n bytes) i 0 ≡ get_or bytes (n + i) 0 = λ i. get_or-drop n bytes i 0 in
    let next : n + (k + 1) ≡ n + k + 1 = omega arith in
    (subst (λ (b : ℕ). 32 ≤ b) (sym (at k)) here.0, λ u brace. here.1 (sym (at k) ∙ u) (ap (λ (i : ℕ). get_or bytes i 0) (sym next) ∙ sym (at (k + 1)) ∙ brace))

clean_escape : (b : ℕ) (bytes : List ℕ) → AreClean (b ∷ bytes) (length (b ∷ bytes)) → (more : List ℕ) → bytes ≢ 117 ∷ 123 ∷ more
clean_escape b bytes clean more e =
    let u : get_or bytes 0 0 ≡ 117 = ap (λ (xs : List ℕ). get_or xs 0 0) e in
    let brace : get_or bytes 1 0 ≡ 123 = ap (λ (xs : List ℕ). get_or xs 1 0) e in
    (clean 1 (omega (arith, within 117 (omega arith) bytes 0 u))).1 u brace

items-clean : (n : ℕ) (bytes : List ℕ) → AreClean bytes (length bytes) → items_within n json bytes ≡ items_within n standard bytes
unfolding items_within
items-clean n [] clean = refl
items-clean zero (b ∷ bytes) clean = refl
items-clean (suc n) (b ∷ bytes) clean =
    let first = alike b bytes (clean 0 (omega arith)).0 (λ is. clean_escape b bytes clean) in
    ap (λ (r : Body Item). then_items r (λ item. items_within n json (drop (length (encoding item)) (b ∷ bytes)))) first
    ∙ same_others (item_at standard b bytes) _ _ (λ item. items-clean n (drop (length (encoding item)) (b ∷ bytes)) (clean_left (b ∷ bytes) (length (encoding item)) clean))

pub body-clean : (bytes : List ℕ) → AreClean bytes (length bytes) → body_of json bytes ≡ body_of standard bytes
unfolding body_of
body-clean bytes clean = ap (meaning_of bytes) (items-clean (length bytes) bytes clean)

-- ---- items, and then the rest

-- The bytes are items of JSON and then the rest.
pub record LeadsTo (bytes rest : List ℕ) : Type 0 where
  pub items : List Item
  pub each : AllByRecursion (IsItem json) items
  pub encoded : bytes ≡ flat_map encoding items ++ rest

pub leads_start : (bytes : List ℕ) → LeadsTo bytes bytes
leads_start bytes = record { items = []; each = tt; encoded = refl }

pub leads_within : (bytes rest : List ℕ) → LeadsTo bytes rest → length rest ≤ length bytes
leads_within bytes rest p = omega (arith, ap length p.encoded, length-append (flat_map encoding p.items) rest)

-- an item more, where it is the same in both
pub leads_on : (bytes : List ℕ) (byte : ℕ) (after rest : List ℕ) → LeadsTo bytes (byte ∷ after) → item_at json byte after ≡ item_at standard byte after → ParsesItem standard byte after rest → LeadsTo bytes rest
leads_on bytes byte after rest so_far same p =
    let one = item_sound json byte after p.item (same ∙ p.parsed) in record {
      items = so_far.items ++ p.item ∷ [];
      each = each-append json so_far.items (p.item ∷ []) so_far.each (one.is_item, tt);
      encoded = so_far.encoded ∙ ap (λ (u : List ℕ). flat_map encoding so_far.items ++ u) (p.split ∙ ap (λ (u : List ℕ). u ++ rest) (sym (append-nil (encoding p.item))))
          ∙ sym (append_assoc (flat_map encoding so_far.items) (flat_map encoding (p.item ∷ [])) rest) ∙ ap (λ (front : List ℕ). front ++ rest) (sym (flat_map-append encoding so_far.items (p.item ∷ [])));
    }

standard_item : (x : Item) → IsItem json x → IsItem standard x
standard_item (raw byte) is = (is.0, tt)
standard_item (escape letter byte) is = is
standard_item (unit braces digits) is = (is.0, is.1, λ e. tt)

standard_items : (items : List Item) → AllByRecursion (IsItem json) items → AllByRecursion (IsItem standard) items
standard_items [] each = tt
standard_items (x ∷ items) each = (standard_item x each.0, standard_items items each.1)

-- what is parsed behind items
onto_all : List Item → Body (List Item) → Body (List Item)
onto_all [] r = r
onto_all (x ∷ items) r = onto x (onto_all items r)

onto_all-fault : (items : List Item) (code : Code) (read : ℕ) → onto_all items (Err (code, read)) ≡ Err (code, length (flat_map encoding items) + read)
unfolding onto_all
onto_all-fault [] code read = let same : read ≡ 0 + read = omega arith in ap (λ (n : ℕ). Err (code, n)) same
onto_all-fault (x ∷ items) code read =
    let same : length (encoding x) + (length (flat_map encoding items) + read) ≡ length (flat_map encoding (x ∷ items)) + read = omega (arith, length-append (encoding x) (flat_map encoding items)) in
    ap (onto x) (onto_all-fault items code read) ∙ ap (λ (n : ℕ). Err (code, n)) same

items-behind : (mode : Mode) (items : List Item) (n m : ℕ) (rest : List ℕ) → AllByRecursion (IsItem mode) items → n ≡ length items + m → items_within n mode (flat_map encoding items ++ rest) ≡ onto_all items (items_within m mode rest)
unfolding onto_all
items-behind mode [] n m rest each count = let same : n ≡ m = omega (arith, count) in ap (λ (k : ℕ). items_within k mode rest) same
items-behind mode (x ∷ items) zero m rest each count = absurd (omega (arith, count))
items-behind mode (x ∷ items) (suc n) m rest each count =
    ap (items_within (suc n) mode) (append_assoc (encoding x) (flat_map encoding items) rest) ∙ items-step n mode x (flat_map encoding items ++ rest) each.0
    ∙ ap (onto x) (items-behind mode items n m rest each.1 (omega (arith, count)))

no_more_items : (items : List Item) → length items ≤ length (flat_map encoding items)
no_more_items [] = omega arith
no_more_items (x ∷ items) = omega (arith, no_more_items items, length-encoding x, length-append (encoding x) (flat_map encoding items))

-- how many items may be behind
abbrev left : (bytes rest : List ℕ) → LeadsTo bytes rest → ℕ
left bytes rest p = length bytes - length p.items

left_enough : (bytes rest : List ℕ) (p : LeadsTo bytes rest) → (length rest ≤ left bytes rest p) × (length bytes ≡ length p.items + left bytes rest p)
left_enough bytes rest p =
    let sum = ap length p.encoded ∙ length-append (flat_map encoding p.items) rest in
    (omega (arith, sum, no_more_items p.items), omega (arith, sum, no_more_items p.items))

body-behind : (mode : Mode) (bytes rest : List ℕ) (p : LeadsTo bytes rest) → AllByRecursion (IsItem mode) p.items → body_of mode bytes ≡ meaning_of bytes (onto_all p.items (items_within (left bytes rest p) mode rest))
unfolding body_of
body-behind mode bytes rest p each =
    ap (meaning_of bytes) (ap (items_within (length bytes) mode) p.encoded ∙ items-behind mode p.items (length bytes) (left bytes rest p) rest each (left_enough bytes rest p).1)

-- where both parse the same behind items, they do so of all
both-behind : (bytes rest : List ℕ) (p : LeadsTo bytes rest) → items_within (left bytes rest p) json rest ≡ items_within (left bytes rest p) standard rest → body_of json bytes ≡ body_of standard bytes
both-behind bytes rest p same =
    body-behind json bytes rest p p.each ∙ ap (λ (r : Body (List Item)). meaning_of bytes (onto_all p.items r)) same ∙ sym (body-behind standard bytes rest p (standard_items p.items p.each))

pub all_passed : (bytes rest : List ℕ) → LeadsTo bytes rest → rest ≡ [] → body_of json bytes ≡ body_of standard bytes
unfolding items_within
all_passed bytes rest p none =
    both-behind bytes rest p (ap (items_within (left bytes rest p) json) none ∙ sym (ap (items_within (left bytes rest p) standard) none))

-- a fault of the first item
items-fault : (mode : Mode) (n b : ℕ) (bytes : List ℕ) (f : Code × ℕ) → 0 < n → item_at mode b bytes ≡ Err f → items_within n mode (b ∷ bytes) ≡ Err f
unfolding items_within
items-fault mode zero b bytes f some is = absurd (omega (arith, some))
items-fault mode (suc n) b bytes f some is = ap (λ (r : Body Item). then_items r (λ item. items_within n mode (drop (length (encoding item)) (b ∷ bytes)))) is

pub both_reject : (bytes : List ℕ) (byte : ℕ) (after : List ℕ) → LeadsTo bytes (byte ∷ after) → item_at json byte after ≡ item_at standard byte after → ParsesNoItem standard byte after → body_of json bytes ≡ body_of standard bytes
both_reject bytes byte after p same none =
    let some : 0 < left bytes (byte ∷ after) p = omega (arith, (left_enough bytes (byte ∷ after) p).0) in
    both-behind bytes (byte ∷ after) p (items-fault json _ byte after none.0 some (same ∙ none.1) ∙ sym (items-fault standard _ byte after none.0 some none.1))

pub json_rejects : (bytes : List ℕ) (byte : ℕ) (after : List ℕ) (code : Code) (read : ℕ) → LeadsTo bytes (byte ∷ after) → item_at json byte after ≡ Err (code, read) → body_of json bytes ≡ Err (code, length bytes - length (byte ∷ after) + read)
json_rejects bytes byte after code read p is =
    let some : 0 < left bytes (byte ∷ after) p = omega (arith, (left_enough bytes (byte ∷ after) p).0) in
    let count : length (flat_map encoding p.items) + read ≡ length bytes - length (byte ∷ after) + read = omega (arith, ap length p.encoded, length-append (flat_map encoding p.items) (byte ∷ after)) in
    body-behind json bytes (byte ∷ after) p p.each
    ∙ ap (λ (r : Body (List Item)). meaning_of bytes (onto_all p.items r)) (items-fault json _ byte after (code, read) some is)
    ∙ ap (meaning_of bytes) (onto_all-fault p.items code read) ∙ ap (λ (n : ℕ). Err (code, n)) count
