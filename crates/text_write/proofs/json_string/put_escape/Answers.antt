use Rattle.std.proofs.Common.{◌≡◌, ℕ, ◌+◌, List, ◌∷◌, [], ◌++◌, Some, take, refl, sym, ap, subst, inl, inr, ◌∙◌, append_assoc, arith}
use Rattle.std.proofs.lemmas.Grind.{take-set_at}
use Rattle.std.proofs.lemmas.List.{take_more}
use Rattle.jsonb_spec.specs.Grammar.StringBody.{standard_escape}
use Rattle.jsonb_spec.specs.Text.StringText.{byte_text}
use Rattle.text_write.specs.JsonString.{written_byte}
use Rattle.text_write.proofs.JsonStrings.{some_same}
use Rattle.text_write.proofs.json_string.put_escape.Goals as goal

pub returns-then-is_verbatim_letter-clause-known : goal.returns-then-is_verbatim_letter-clause-known
returns-then-is_verbatim_letter-clause-known c = let w = c.if-is_verbatim_letter.ensures in (w.0, w.1)

pub returns-then-is_verbatim_letter-clause-put : goal.returns-then-is_verbatim_letter-clause-put
returns-then-is_verbatim_letter-clause-put c byte is =
    let row : List ℕ = c.args.row.now in
    let letter = c.args.letter in
    let w = c.if-is_verbatim_letter.ensures in
    let space = c.requires.space in
    take-set_at row (c.args.at + 1) (c.args.at + 2) letter (omega arith) (omega (arith, space)) ∙ ap (λ xs. xs ++ letter ∷ []) (take_more row c.args.at 0 (omega (arith, space)) ∙ ap (λ b. take c.args.at row ++ b ∷ []) c.requires.here)
    ∙ append_assoc (take c.args.at row) (92 ∷ []) (letter ∷ [])
    ∙ ap (λ xs. take c.args.at row ++ xs) (sym w.2 ∙ ap byte_text (some_same w.0 byte (sym w.1 ∙ is)) ∙ ap (λ t. written_byte t byte) (sym c.if-as_text.true))
