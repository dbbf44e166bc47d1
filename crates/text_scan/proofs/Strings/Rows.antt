-- Strings of grammars that have the same items.
use Rattle.std.proofs.Common.{List, [], ◌∷◌, ◌≡◌, ℕ, zero, suc, length, take, drop, get_or, Bool, false, cond, ◌&&◌, eqb, ltb, Ok, Err, ⊎_elim, sym, ap, ◌∙◌, refl, eqb-true}
use Rattle.std.proofs.lemmas.Bool.{cases_Bool, eqb-false}
use Rattle.jsonb_spec.specs.Code.{unexpected_end_of_hex_escape}
use Rattle.jsonb_spec.specs.Grammar.StringBody.{Item, encoding, escaped_byte}
use Rattle.jsonb_spec.specs.Mode.{Mode, Strictness, strictness, GoesBeyondJson}
use Rattle.jsonb_spec.specs.Tree.{Mark}
use Rattle.jsonb_core.specs.declared.error.Error.{Error}
use Rattle.jsonb_core.specs.declared.error.Error.TheVariants.{Syntax, OutOfMemory}
use Rattle.jsonb_spec.specs.Parsing.String.{Body, unit_of, unit_at, known_escape, escape_at, item_at, onto, then_items, items_within, meaning_of, body_of}
use Rattle.text_scan.specs.QuotedString.{DecodesContents}
use Rattle.text_scan.specs.StrictString.{RejectsContents}
use Rattle.text_scan.proofs.Steps.Modes.{beyond-true, beyond-raw}
use Rattle.text_scan.proofs.Strings.Items.{braced_unit, item-backslash, item-raw}

-- ---- two modes beyond JSON that are equally strict

unit-beyond : (p q : Mode) (bytes : List ℕ) → GoesBeyondJson p → GoesBeyondJson q → unit_at p bytes ≡ unit_at q bytes
unfolding unit_at
unit-beyond p q bytes beyond too =
    ap (λ (t : Bool). cond (ltb (length bytes) 4) (Err (unexpected_end_of_hex_escape, 2)) (cond (t && eqb (get_or bytes 0 0) 123) (braced_unit bytes) (unit_of false (take 4 bytes)))) (beyond-true p beyond ∙ sym (beyond-true q too))

escape-beyond : (p q : Mode) (bytes : List ℕ) → GoesBeyondJson p → GoesBeyondJson q → strictness p ≡ strictness q → escape_at p bytes ≡ escape_at q bytes
unfolding escape_at
escape-beyond p q [] beyond too same = refl
escape-beyond p q (letter ∷ bytes) beyond too same =
    ap (λ (u : Body Item). cond (eqb letter 117) u (known_escape letter (escaped_byte (strictness p) letter))) (unit-beyond p q bytes beyond too)
    ∙ ap (λ (s : Strictness). cond (eqb letter 117) (unit_at q bytes) (known_escape letter (escaped_byte s letter))) same

item-beyond : (p q : Mode) (byte : ℕ) (bytes : List ℕ) → GoesBeyondJson p → GoesBeyondJson q → strictness p ≡ strictness q → item_at p byte bytes ≡ item_at q byte bytes
item-beyond p q byte bytes beyond too same =
    ⊎_elim
    (λ t.
    let is = eqb-true byte 92 t in
    ap (λ (b : ℕ). item_at p b bytes) is ∙ item-backslash p bytes ∙ escape-beyond p q bytes beyond too same ∙ sym (item-backslash q bytes) ∙ sym (ap (λ (b : ℕ). item_at q b bytes) is))
    (λ f. let other = eqb-false byte 92 f in item-raw p byte bytes other (beyond-raw p byte beyond) ∙ sym (item-raw q byte bytes other (beyond-raw q byte too)))
    (cases_Bool (eqb byte 92))

-- ---- what is behind the first item

pub same_others : (r : Body Item) (f g : Item → Body (List Item)) → ((x : Item) → f x ≡ g x) → then_items r f ≡ then_items r g
same_others (Ok x) f g same = ap (onto x) (same x)
same_others (Err e) f g same = refl

items-beyond : (p q : Mode) (n : ℕ) (bytes : List ℕ) → GoesBeyondJson p → GoesBeyondJson q → strictness p ≡ strictness q → items_within n p bytes ≡ items_within n q bytes
unfolding items_within
items-beyond p q n [] beyond too same = refl
items-beyond p q zero (b ∷ bytes) beyond too same = refl
items-beyond p q (suc n) (b ∷ bytes) beyond too same =
    ap (λ (r : Body Item). then_items r (λ item. items_within n p (drop (length (encoding item)) (b ∷ bytes)))) (item-beyond p q b bytes beyond too same)
    ∙ same_others (item_at q b bytes) _ _ (λ item. items-beyond p q n (drop (length (encoding item)) (b ∷ bytes)) beyond too same)

pub body-beyond : (p q : Mode) (bytes : List ℕ) → GoesBeyondJson p → GoesBeyondJson q → strictness p ≡ strictness q → body_of p bytes ≡ body_of q bytes
unfolding body_of
body-beyond p q bytes beyond too same = ap (meaning_of bytes) (items-beyond p q (length bytes) bytes beyond too same)

-- ---- what the check for JSON rejects

pub rejects_decoded : (idx : ℕ) (e : Error) (read : Body (Mark × List ℕ)) → RejectsContents idx e read → DecodesContents idx (Err e) read
rejects_decoded idx (Syntax code offset) read r = r
rejects_decoded idx OutOfMemory read r = tt
rejects_decoded idx other read r = r
