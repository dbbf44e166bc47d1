-- Texts that a comma separates, of which some are written and some remain.
use Rattle.std.proofs.Common.{◌≡◌, Bool, true, false, ◌&&◌, List, ◌∷◌, [], ◌++◌, ℕ, ◌+◌, ◌≤◌, length, refl, sym, ap, ◌∙◌, append_assoc}
use Rattle.std.specs.List.{flat_map}
use Rattle.jsonb_spec.specs.Text.Appending.{comma_before}
use Rattle.jsonb_spec.specs.Text.{with_commas}
use Rattle.jsonb_core.proofs.Appending.Appended.{IsUnderway, goes_on, fits}

-- what is left to write of the texts: each has a comma before it, but the first of all
abbrev pub texts_left : Bool → List (List ℕ) → List ℕ
texts_left true texts = with_commas texts
texts_left false texts = flat_map (λ text. 44 ∷ text) texts

pub texts_left-comma : (is_first : Bool) (text : List ℕ) (texts : List (List ℕ))
    → texts_left is_first (text ∷ texts) ≡ comma_before is_first ++ (text ++ texts_left false texts)
texts_left-comma true text texts = refl
texts_left-comma false text texts = refl

-- the comma before a part is written
pub comma_done : (is_first : Bool) (old now text part close new : List ℕ) (parts others : List (List ℕ)) → parts ≡ part ∷ others → IsUnderway old now text (texts_left is_first parts ++ close)
    → new ≡ now ++ comma_before is_first → IsUnderway old new text (part ++ (texts_left false others ++ close))
comma_done is_first old now text part close new parts others next u more =
    let comma = comma_before is_first in
    let rest = texts_left false others in
    goes_on new comma (part ++ (rest ++ close)) u
    (ap (λ ts. texts_left is_first ts ++ close) next ∙ ap (λ ts. ts ++ close) (texts_left-comma is_first part others) ∙ append_assoc comma (part ++ rest) close ∙ ap (λ ts. comma ++ ts) (append_assoc part rest close))
    more

-- the whole text has space for the comma
pub comma_fits : (is_first : Bool) (old now text part close : List ℕ) (parts others : List (List ℕ)) → parts ≡ part ∷ others → IsUnderway old now text (texts_left is_first parts ++ close)
    → length now + length (comma_before is_first) ≤ length old + length text
comma_fits is_first old now text part close parts others next u =
    let comma = comma_before is_first in
    let rest = texts_left false others in
    fits comma ((part ++ rest) ++ close) u (ap (λ ts. texts_left is_first ts ++ close) next ∙ ap (λ ts. ts ++ close) (texts_left-comma is_first part others) ∙ append_assoc comma (part ++ rest) close)

pub key_split : (key value rest : List ℕ) → (key ++ 58 ∷ value) ++ rest ≡ (key ++ 58 ∷ []) ++ (value ++ rest)
key_split key value rest = append_assoc key (58 ∷ value) rest ∙ sym (append_assoc key (58 ∷ []) (value ++ rest))

-- a member's key and its colon are written
pub key_done : (old now text key value rest new : List ℕ) → IsUnderway old now text ((key ++ 58 ∷ value) ++ rest) → new ≡ now ++ (key ++ 58 ∷ []) → IsUnderway old new text (value ++ rest)
key_done old now text key value rest new u more =
    goes_on new (key ++ 58 ∷ []) (value ++ rest) u (key_split key value rest) more

-- the whole has texts where its first part and the others have
pub texts_left_have : (whole here first others : Bool) → whole ≡ here → here ≡ (first && others) → first ≡ true → whole ≡ others
texts_left_have whole here first others e next has = e ∙ next ∙ ap (λ b. b && others) has

-- the first part has a text where the whole has
pub first_has_text : (whole here first others : Bool) → whole ≡ here → here ≡ (first && others) → whole ≡ true → first ≡ true
first_has_text whole here true others e next has = refl
first_has_text whole here false others e next has = sym next ∙ sym e ∙ has
