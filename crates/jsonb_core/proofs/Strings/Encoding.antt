-- Contents have one list of items: no item is a prefix of another.
use Rattle.std.proofs.Common.{List, [], ◌∷◌, ◌≡◌, ◌≢◌, ℕ, ◌+◌, ◌<◌, ◌++◌, length, take, drop, get_or, Bool, true, false, cond, eqb, Some, None, sym, ap, ◌∙◌, subst, arith, refl, length-append, ne_eqb}
use Rattle.std.proofs.lemmas.List.{append_assoc, append-nil, take_at, drop_at, append_cancel_right}
use Rattle.std.specs.List.{flat_map, AllByRecursion}
use Rattle.jsonb_spec.specs.Mode.{Mode}
use Rattle.jsonb_spec.specs.Mode.{Strictness, strict, lenient, strictness}
use Rattle.jsonb_spec.specs.Grammar.StringBody.{Item, raw, escape, unit, after_u, encoding, IsItem, IsHexDigit, escaped_byte}
use Rattle.jsonb_core.proofs.Strings.Units.{length-after_u}
use Rattle.jsonb_spec.specs.Grammar.StringStep.{unit_step, escape_step, item_step}

u_is_no_escape : (s : Strictness) → escaped_byte s 117 ≡ None
u_is_no_escape strict = refl
u_is_no_escape lenient = refl

pub escape_is_not_u : (mode : Mode) (letter byte : ℕ) → escaped_byte (strictness mode) letter ≡ Some byte → letter ≢ 117
escape_is_not_u mode letter byte is e =
    let none : escaped_byte (strictness mode) letter ≡ None = ap (escaped_byte (strictness mode)) e ∙ u_is_no_escape (strictness mode) in cc

-- the first of four digits is no brace
first_no_brace : (digits : List ℕ) → length digits ≡ 4 → ((k d : ℕ) → k < length digits → IsHexDigit (get_or digits k d)) → (first : ℕ) (rest : List ℕ) → digits ≡ first ∷ rest → first ≢ 123
first_no_brace digits four each first rest is brace =
    let low : IsHexDigit (get_or digits 0 0) = each 0 0 (omega arith) in
    let high : IsHexDigit 123 = subst IsHexDigit (ap (λ xs. get_or xs 0 0) is ∙ brace) low in
    absurd (omega (arith, high))

pub unit_step-after_u : (mode : Mode) (braces : Bool) (digits more : List ℕ) → IsItem mode (unit braces digits) → unit_step (after_u braces digits ++ more) ≡ length (after_u braces digits)
unit_step-after_u mode true digits more item = omega (arith, item.0, length-append digits (125 ∷ []))
unit_step-after_u mode false [] more item = absurd (omega (arith, item.0))
unit_step-after_u mode false (first ∷ rest) more item =
    let other : eqb first 123 ≡ false = ne_eqb first 123 (first_no_brace (first ∷ rest) item.0 item.1 first rest refl) in
    ap (λ b. cond b 6 4) other ∙ sym item.0

pub item_step-encoding : (mode : Mode) (item : Item) (more : List ℕ) → IsItem mode item → item_step (encoding item ++ more) ≡ length (encoding item)
item_step-encoding mode (raw byte) more is = ap (λ b. cond b (1 + escape_step more) 1) (ne_eqb byte 92 is.0)
item_step-encoding mode (escape letter byte) more is =
    let other : eqb letter 117 ≡ false = ne_eqb letter 117 (escape_is_not_u mode letter byte is) in
    ap (λ b. 1 + cond b (1 + unit_step more) 1) other
item_step-encoding mode (unit braces digits) more is = omega (arith, unit_step-after_u mode braces digits more is)

-- ---- one encoding

same_encoding : (mode : Mode) (x y : Item) → IsItem mode x → IsItem mode y → encoding x ≡ encoding y → x ≡ y
same_encoding mode (raw b) (raw c) p q e = cc
same_encoding mode (raw b) (escape l c) p q e = cc
same_encoding mode (raw b) (unit h d) p q e = cc
same_encoding mode (escape l b) (raw c) p q e = cc
same_encoding mode (escape l b) (escape m c) p q e = cc
same_encoding mode (escape l b) (unit h d) p q e = absurd (omega (arith, ap length e, q.0, length-after_u h d q.0))
same_encoding mode (unit h d) (raw c) p q e = cc
same_encoding mode (unit h d) (escape m c) p q e = absurd (omega (arith, ap length e, p.0, length-after_u h d p.0))
same_encoding mode (unit false d) (unit false f) p q e = cc
same_encoding mode (unit false d) (unit true f) p q e = absurd (omega (arith, ap length e, p.0, q.0, length-append f (125 ∷ [])))
same_encoding mode (unit true d) (unit false f) p q e = absurd (omega (arith, ap length e, p.0, q.0, length-append d (125 ∷ [])))
same_encoding mode (unit true d) (unit true f) p q e =
    let inner : d ++ 125 ∷ [] ≡ f ++ 125 ∷ [] = cc in ap (unit true) (append_cancel_right d f (125 ∷ []) inner)

pub same_first : (mode : Mode) (x y : Item) (r s : List ℕ) → IsItem mode x → IsItem mode y → encoding x ++ r ≡ encoding y ++ s → (x ≡ y) × (r ≡ s)
same_first mode x y r s p q e =
    let long : length (encoding x) ≡ length (encoding y) = sym (item_step-encoding mode x r p) ∙ ap item_step e ∙ item_step-encoding mode y s q in
    let front : encoding x ≡ encoding y = sym (take_at (encoding x) r _ refl) ∙ ap (take (length (encoding x))) e ∙ take_at (encoding y) s _ (sym long) in
    let rest : r ≡ s = sym (drop_at (encoding x) r _ refl) ∙ ap (drop (length (encoding x))) e ∙ drop_at (encoding y) s _ (sym long) in
    (same_encoding mode x y p q front, rest)

pub encoding_not_empty : (x : Item) (rest : List ℕ) → encoding x ++ rest ≢ []
encoding_not_empty (raw b) rest e = cc
encoding_not_empty (escape l b) rest e = cc
encoding_not_empty (unit h d) rest e = cc

-- Items that encode the front of what other items encode are the first of those.
pub record AreFirstItems (mode : Mode) (xs ys : List Item) (rest : List ℕ) : Type 0 where
  pub tail : List Item
  pub split : ys ≡ xs ++ tail
  pub each : AllByRecursion (IsItem mode) tail
  pub encoded : rest ≡ flat_map encoding tail

pub same_front : (mode : Mode) (xs ys : List Item) (rest : List ℕ) → AllByRecursion (IsItem mode) xs → AllByRecursion (IsItem mode) ys → flat_map encoding xs ++ rest ≡ flat_map encoding ys → AreFirstItems mode xs ys rest
same_front mode [] ys rest p q e = record { tail = ys; split = refl; each = q; encoded = e }
same_front mode (x ∷ xs) [] rest p q e = absurd (encoding_not_empty x (flat_map encoding xs ++ rest) (sym (append_assoc (encoding x) (flat_map encoding xs) rest) ∙ e))
same_front mode (x ∷ xs) (y ∷ ys) rest p q e =
    let first = same_first mode x y (flat_map encoding xs ++ rest) (flat_map encoding ys) p.0 q.0 (sym (append_assoc (encoding x) (flat_map encoding xs) rest) ∙ e) in
    let others = same_front mode xs ys rest p.1 q.1 first.1 in
    record { tail = others.tail; split = ap (λ z. z ∷ ys) (sym first.0) ∙ ap (λ zs. x ∷ zs) others.split; each = others.each; encoded = others.encoded }

pub same_items : (mode : Mode) (xs ys : List Item) → AllByRecursion (IsItem mode) xs → AllByRecursion (IsItem mode) ys → flat_map encoding xs ≡ flat_map encoding ys → xs ≡ ys
same_items mode xs ys p q e =
    let front = same_front mode xs ys [] p q (append-nil (flat_map encoding xs) ∙ e) in
    no_more front.tail front.split front.encoded
  where
    no_more : (tail : List Item) → ys ≡ xs ++ tail → [] ≡ flat_map encoding tail → xs ≡ ys
    no_more [] split encoded = sym (split ∙ append-nil xs)
    no_more (z ∷ zs) split encoded = absurd (encoding_not_empty z (flat_map encoding zs) (sym encoded))
