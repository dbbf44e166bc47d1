-- Contents that are written as they are mean themselves, in every mode.
use Rattle.std.proofs.Common.{List, [], ◌∷◌, ◌≡◌, ℕ, ◌<◌, ◌≤◌, Bool, true, false, cond, eqb, ltb, length, map, Ok, sym, ap, ◌∙◌, subst, arith, ⊎_elim}
use Rattle.std.proofs.lemmas.Bool.{cases_lt, cond-true, lt-ltb}
use Rattle.std.specs.List.{AllByRecursion}
use Rattle.std.specs.Str.{IsUtf8}
use Rattle.jsonb_spec.specs.Grammar.StringBody.{raw, IsItem, IsBody, meaning}
use Rattle.jsonb_spec.specs.Mode.{Mode}
use Rattle.jsonb_spec.specs.Text.StringText.{ArePlain, byte_text, control_text}
use Rattle.jsonb_spec.specs.Tree.{Mark, plain}
use Rattle.jsonb_core.proofs.Strings.PlainTexts.{no_mark, one_plain, rest_plain}
use Rattle.jsonb_core.proofs.Strings.Writing.{high_may_be_raw}
use Rattle.jsonb_spec.specs.Parsing.String.{body_of}
use Rattle.text_scan.proofs.Strings.Bodies.{meaning-raws, mark_of-raws}
use Rattle.text_scan.proofs.Strings.Decoding.{encoding-raw}
use Rattle.text_scan.proofs.Strings.Items.{body_complete}

chosen_long : (t : Bool) (xs ys : List ℕ) → 2 ≤ length xs → 2 ≤ length ys → 2 ≤ length (cond t xs ys)
chosen_long true xs ys p q = p
chosen_long false xs ys p q = q

-- a control character is written by more bytes
control_long : (b : ℕ) → b < 32 → 2 ≤ length (byte_text b)
control_long b low =
    let control : cond (ltb b 32) (control_text b) (b ∷ []) ≡ control_text b = cond-true (ltb b 32) (control_text b) (b ∷ []) (lt-ltb b 32 low) in
    chosen_long (eqb b 34) _ _ (omega arith) (chosen_long (eqb b 92) _ _ (omega arith) (chosen_long (eqb b 10) _ _ (omega arith) (chosen_long (eqb b 13) _ _ (omega arith) (
    chosen_long (eqb b 9) _ _ (omega arith) (subst (λ (u : List ℕ). 2 ≤ length u) (sym control) (omega arith))
    ))))

plain_high : (b : ℕ) → byte_text b ≡ b ∷ [] → 32 ≤ b
plain_high b is = ⊎_elim (λ low. absurd (omega (arith, control_long b low, ap length is))) (λ high. high) (cases_lt b 32)

pub items-plain : (mode : Mode) (bytes : List ℕ) → ArePlain bytes → AllByRecursion (IsItem mode) (map raw bytes)
items-plain mode [] are = tt
items-plain mode (b ∷ bytes) are =
    let one = one_plain b bytes are in
    ((no_mark 92 b (omega arith) one, high_may_be_raw mode b (plain_high b one)), items-plain mode bytes (rest_plain b bytes are))

pub body-plain : (mode : Mode) (bytes : List ℕ) → ArePlain bytes → IsUtf8 bytes → body_of mode bytes ≡ Ok (plain, bytes)
body-plain mode bytes are utf8 =
    let body : IsBody mode bytes (map raw bytes) = record { encoded = sym (encoding-raw bytes); each = items-plain mode bytes are } in
    body_complete mode bytes (map raw bytes) body (subst IsUtf8 (sym (meaning-raws bytes)) utf8)
    ∙ ap (λ (m : Mark). Ok (m, meaning (map raw bytes))) (mark_of-raws bytes) ∙ ap (λ (t : List ℕ). Ok (plain, t)) (meaning-raws bytes)
