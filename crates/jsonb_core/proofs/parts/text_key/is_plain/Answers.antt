use Rattle.std.proofs.Common.{◌≡◌, List, ℕ, length, inl, inr, true≢false, sym, ◌∙◌, subst, arith}
use Rattle.std.proofs.lemmas.Bool.{cases_eq, ne_eqb}
use Rattle.std.proofs.lemmas.List.{take_all}
use Rattle.std.specs.List.{flat_map}
use Rattle.jsonb_spec.specs.Text.StringText.{byte_text}
use Rattle.jsonb_core.proofs.SortKeys.Zeros.{plain_key}
use Rattle.jsonb_core.proofs.parts.text_key.is_plain.Goals as goal

pub returns : goal.returns
returns c h =
    let bytes = c.args.bytes.now in
    elim (cases_eq c.run_len.result (length bytes)) [
      | inl e ↦ plain_key bytes (subst (λ (text : List ℕ). flat_map byte_text text ≡ text) (take_all c.run_len.result bytes (omega (arith, e))) c.run_len.ensures.plain)
      | inr n ↦ absurd (true≢false (sym h ∙ ne_eqb c.run_len.result (length bytes) n))
    ]
