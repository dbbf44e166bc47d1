-- Contents decode to one text at most, and malformed ones to none.
use Rattle.std.proofs.Common.{List, [], ◌∷◌, ◌≡◌, ◌≢◌, ℕ, ◌<◌, ◌++◌, length, take, drop, get_or, Bool, true, false, None, ⊎_elim, sym, ap, ◌∙◌, subst, arith, refl, length-append}
use Rattle.std.proofs.lemmas.List.{append_assoc, take_at, get_or_at, get_or_append_left}
use Rattle.std.specs.Str.{IsUtf8}
use Rattle.std.specs.List.{flat_map, AllByRecursion}
use Rattle.jsonb_spec.specs.Mode.{Mode, strictness}
use Rattle.jsonb_core.proofs.Strings.Writing.{high_may_be_raw}
use Rattle.jsonb_spec.specs.Code.{Code}
use Rattle.jsonb_spec.specs.Grammar.StringBody.{Item, raw, escape, unit, after_u, encoding, IsItem, IsHexDigit, IsBody, MayBeRaw, Decodes, escaped_byte, meaning}
use Rattle.jsonb_spec.specs.Grammar.StringFault.{IsFirstNonDigit, BadUnit, cut_unit, bad_digit, BadItem, cut_escape, unknown_escape, bad_unit, control_character, IsCutShort, IsFaultyBody}
use Rattle.jsonb_core.proofs.Strings.Units.{length-after_u}
use Rattle.jsonb_core.proofs.Strings.Encoding.{same_items, same_front, escape_is_not_u}

pub decodes_one : (mode : Mode) (bytes s t : List ℕ) → Decodes mode bytes s → Decodes mode bytes t → s ≡ t
decodes_one mode bytes s t p q = p.meant ∙ ap meaning (same_items mode p.items q.items p.body.each q.body.each (sym p.body.encoded ∙ q.body.encoded)) ∙ sym q.meant

-- the four bytes after `\u`, in braces or not
same_digits : (p q : Bool) (d f r s : List ℕ) → length d ≡ 4 → length f ≡ 4 → (q ≡ true → p ≡ false → get_or d 0 0 ≢ 123) → (q ≡ false → get_or f 0 0 ≢ 123) → after_u p d ++ r ≡ after_u q f ++ s → d ≡ f
same_digits false false d f r s m n h k e = sym (take_at d r 4 m) ∙ ap (take 4) e ∙ take_at f s 4 n
same_digits true true d f r s m n h k e =
    let inner : d ++ (125 ∷ r) ≡ f ++ (125 ∷ s) = sym (append_assoc d (125 ∷ []) r) ∙ ap (drop 1) e ∙ append_assoc f (125 ∷ []) s in
    sym (take_at d (125 ∷ r) 4 m) ∙ ap (take 4) inner ∙ take_at f (125 ∷ s) 4 n
same_digits false true d f r s m n h k e =
    absurd (h refl refl (sym (get_or_append_left d r 0 0 (omega arith)) ∙ ap (λ xs. get_or xs 0 0) e))
same_digits true false d f r s m n h k e =
    absurd (k refl (sym (get_or_append_left f s 0 0 (omega arith)) ∙ ap (λ xs. get_or xs 0 0) (sym e)))

-- a hexadecimal digit is no brace
no_brace : (mode : Mode) (digits : List ℕ) → IsItem mode (unit false digits) → get_or digits 0 0 ≢ 123
no_brace mode digits item e =
    let low : IsHexDigit (get_or digits 0 0) = item.1 0 0 (omega (arith, item.0)) in
    let high : IsHexDigit 123 = subst IsHexDigit e low in absurd (omega (arith, high))

bare : (mode : Mode) (braces : Bool) (digits : List ℕ) → IsItem mode (unit braces digits) → braces ≡ false → get_or digits 0 0 ≢ 123
bare mode true digits item e = cc
bare mode false digits item e = no_brace mode digits item

non_digit : (digits : List ℕ) (byte : ℕ) → IsFirstNonDigit digits byte → ¬ ((k d : ℕ) → k < length digits → IsHexDigit (get_or digits k d))
non_digit digits byte f all =
    let here : get_or digits (length f.digits) 0 ≡ byte = ap (λ xs. get_or xs (length f.digits) 0) f.split ∙ get_or_at f.digits byte f.more 0 (length f.digits) refl in
    f.here (subst IsHexDigit here (all (length f.digits) 0 (omega (arith, ap length f.split, length-append f.digits (byte ∷ f.more)))))

-- no unit is where one is bad
unit_excluded : (mode : Mode) (bytes : List ℕ) (code : Code) (read : ℕ) (braces : Bool) (digits more : List ℕ) → BadUnit mode bytes code read → IsItem mode (unit braces digits) → bytes ≢ after_u braces digits ++ more
unit_excluded mode bytes code read braces digits more (bad_digit p d r byte may is four first non is_code is_read) item e =
    let same : d ≡ digits = same_digits p braces d digits r more four item.0 (λ q. first (item.2 q)) (bare mode braces digits item) (sym is ∙ e) in
    non_digit digits byte (subst (λ xs. IsFirstNonDigit xs byte) same non) item.1
unit_excluded mode bytes code read braces digits more (cut_unit cut is_code is_read) item e =
    ⊎_elim
    (λ short. absurd (omega (arith, short, ap length e, length-append (after_u braces digits) more, length-after_u braces digits item.0)))
    (λ opened. unclosed braces item e opened.1 opened.2)
    cut
  where
    unclosed : (braces : Bool) → IsItem mode (unit braces digits) → bytes ≡ after_u braces digits ++ more → get_or bytes 0 0 ≡ 123 → get_or bytes 5 0 ≢ 125 → ⊥
    unclosed false item e brace unclosed' = no_brace mode digits item (sym (get_or_append_left digits more 0 0 (omega (arith, item.0))) ∙ sym (ap (λ xs. get_or xs 0 0) e) ∙ brace)
    unclosed true item e brace unclosed' =
        unclosed' (ap (λ xs. get_or xs 5 0) (e ∙ append_assoc (123 ∷ digits) (125 ∷ []) more) ∙ get_or_at (123 ∷ digits) 125 more 0 5 (omega (arith, item.0)))

-- no item is where an escape is bad
item_excluded : (mode : Mode) (bytes : List ℕ) (code : Code) (read : ℕ) (item : Item) (more : List ℕ) → BadItem mode bytes code read → IsItem mode item → bytes ≢ encoding item ++ more
item_excluded mode bytes code read (raw b) more (cut_escape is is_code is_read) item e = item.0 (let first : b ≡ 92 = cc in first)
item_excluded mode bytes code read (raw b) more (unknown_escape letter rest is other none is_code is_read) item e = item.0 (let first : b ≡ 92 = cc in first)
item_excluded mode bytes code read (raw b) more (bad_unit rest steps is bad is_read) item e = item.0 (let first : b ≡ 92 = cc in first)
item_excluded mode bytes code read (raw b) more (control_character byte rest is forbids is_code is_read) item e = forbids (subst (MayBeRaw mode) (let same : b ≡ byte = cc in same) item.1)
item_excluded mode bytes code read (escape l b) more (control_character byte rest is forbids is_code is_read) item e = forbids (subst (MayBeRaw mode) (let same : 92 ≡ byte = cc in same) (high_may_be_raw mode 92 (omega arith)))
item_excluded mode bytes code read (unit h d) more (control_character byte rest is forbids is_code is_read) item e = forbids (subst (MayBeRaw mode) (let same : 92 ≡ byte = cc in same) (high_may_be_raw mode 92 (omega arith)))
item_excluded mode bytes code read (escape l b) more (cut_escape is is_code is_read) item e = cc
item_excluded mode bytes code read (escape l b) more (unknown_escape letter rest is other none is_code is_read) item e =
    let same : letter ≡ l = cc in let none' : escaped_byte (strictness mode) l ≡ None = ap (escaped_byte (strictness mode)) (sym same) ∙ none in cc
item_excluded mode bytes code read (escape l b) more (bad_unit rest steps is bad is_read) item e = escape_is_not_u mode l b item (let same : l ≡ 117 = cc in same)
item_excluded mode bytes code read (unit h d) more (cut_escape is is_code is_read) item e = cc
item_excluded mode bytes code read (unit h d) more (unknown_escape letter rest is other none is_code is_read) item e = other (let same : letter ≡ 117 = cc in same)
item_excluded mode bytes code read (unit h d) more (bad_unit rest steps is bad is_read) item e =
    unit_excluded mode rest code steps h d more bad item (let same : rest ≡ after_u h d ++ more = cc in same)

pub cut_short_excludes : (mode : Mode) (bytes : List ℕ) (code : Code) (read : ℕ) (items : List Item) → IsCutShort mode bytes code read → ¬ (IsBody mode bytes items)
cut_short_excludes mode bytes code read items cut body =
    let front = same_front mode cut.items items cut.rest cut.each body.each (sym cut.encoded ∙ body.encoded) in
    no_first front.tail front.each front.encoded
  where
    no_rest : BadItem mode cut.rest code cut.steps → cut.rest ≢ []
    no_rest (cut_escape is is_code is_read) e = cc
    no_rest (unknown_escape letter rest is other none is_code is_read) e = cc
    no_rest (bad_unit rest steps is bad is_read) e = cc
    no_rest (control_character byte rest is forbids is_code is_read) e = cc

    no_first : (tail : List Item) → AllByRecursion (IsItem mode) tail → cut.rest ≡ flat_map encoding tail → ⊥
    no_first [] each encoded = no_rest cut.bad encoded
    no_first (x ∷ xs) each encoded = item_excluded mode cut.rest code cut.steps x (flat_map encoding xs) cut.bad each.0 encoded

pub fault_excludes : (mode : Mode) (bytes : List ℕ) (code : Code) (read : ℕ) (text : List ℕ) → IsFaultyBody mode bytes code read → ¬ (Decodes mode bytes text)
fault_excludes mode bytes code read text fault d =
    ⊎_elim
    (λ cut. cut_short_excludes mode bytes code read d.items cut d.body)
    (λ none. none.not_utf8 (subst IsUtf8 (d.meant ∙ ap meaning (same_items mode d.items none.items d.body.each none.body.each (sym d.body.encoded ∙ none.body.encoded))) d.utf8))
    fault
