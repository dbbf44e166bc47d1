-- The next number of a text.
use Rattle.std.proofs.Common.{◌≡◌, ℕ, Bool, true, false, List, [], ◌∷◌, ◌++◌, Some, ◌==◌, sym, ap, ◌∙◌, append-nil, true≢false}
use Rattle.std.proofs.lemmas.Bool.{cond-true, cond-false, ne_eqb}
use Rattle.jsonb_spec.specs.Text.NumberText.{number_text}
use Rattle.jsonb_spec.specs.Tree.{Num}
use Rattle.jsonb_spec.specs.Document.Scan.{is_number_byte, ending_of}
use Rattle.key_zeros.specs.Scan.{from_number, behind_number, next_number}
use Rattle.key_zeros.proofs.Scanning.{IsGap}
use Rattle.key_zeros.proofs.NumberedTexts.{NumberedText, gap_then, bytes_with, shortest_text, IsNumbered, ends_number}
use Rattle.key_text.proofs.Decimals.{pointed}
use Rattle.key_zeros.proofs.Decimals.{Begins, shortest_begins, shortest_passed, text_begins, ends_there}

-- a number is first
begins_there : (first : ℕ) (others : List ℕ) → is_number_byte first ≡ true → from_number (first ∷ others) ≡ Some (first ∷ others)
begins_there first others e =
    let other : first == 34 ≡ false = ne_eqb first 34 (λ is. true≢false (sym e ∙ ap is_number_byte is)) in
    cond-false (first == 34) _ _ other ∙ cond-true (is_number_byte first) _ _ e

found_there : (text rest : List ℕ) → Begins text → from_number (text ++ rest) ≡ Some (text ++ rest)
found_there text rest b =
    let is : text ++ rest ≡ b.first ∷ (b.others ++ rest) = ap (λ t. t ++ rest) b.is in
    ap from_number is ∙ begins_there b.first (b.others ++ rest) b.begins ∙ ap Some (sym is)

-- no number is left
pub none_found : (gap : List ℕ) → IsGap gap → from_number gap ≡ Some []
none_found gap is = ap from_number (sym (append-nil gap)) ∙ is []

-- the first number of a text
pub number_found : (gap : List ℕ) (n : Num) (k : NumberedText) → IsNumbered (gap_then gap n k) → from_number (bytes_with number_text (gap_then gap n k)) ≡ Some (number_text n ++ bytes_with number_text k)
number_found gap n k h = h.0 (number_text n ++ bytes_with number_text k) ∙ found_there (number_text n) (bytes_with number_text k) (text_begins n h.1)

behind_there : (text rest : List ℕ) (p : Bool) → Begins text → ending_of false 0 (text ++ rest) ≡ (p, (0, rest)) → behind_number (Some (text ++ rest)) ≡ Some (p, rest)
behind_there text rest p b e =
    let is : text ++ rest ≡ b.first ∷ (b.others ++ rest) = ap (λ t. t ++ rest) b.is in
    ap (λ t. behind_number (Some t)) is ∙ ap (λ x. Some (x.0, x.1.1)) (ap (ending_of false 0) (sym is) ∙ e)

-- what is behind the first number of the shortest text
pub shortest_behind : (gap : List ℕ) (n : Num) (k : NumberedText) (h : IsNumbered (gap_then gap n k)) → next_number (bytes_with shortest_text (gap_then gap n k)) ≡ Some (pointed n h.1, bytes_with shortest_text k)
shortest_behind gap n k h =
    let rest = bytes_with shortest_text k in
    ap behind_number (h.0 (shortest_text n ++ rest) ∙ found_there (shortest_text n) rest (shortest_begins n h.1))
    ∙ behind_there (shortest_text n) rest (pointed n h.1) (shortest_begins n h.1) (shortest_passed n h.1 rest ∙ ends_there (pointed n h.1) 0 rest (ends_number shortest_text k h.2))
