use Rattle.std.proofs.Common.{◌≡◌, ℕ, ◌∷◌, [], Some, refl, subst, sym, inl, inr}
use Rattle.jsonb_spec.specs.Grammar.StringBody.{standard_escape}
use Rattle.jsonb_spec.specs.Text.StringText.{byte_text}
use Rattle.text_common.proofs.verbatim.is_verbatim_letter.Goals as goal

-- the letter is of an escape, and its byte is written so
abbrev Writes : ℕ → Type 0
Writes letter = (byte : ℕ) × (standard_escape letter ≡ Some byte) × (byte_text byte ≡ 92 ∷ letter ∷ [])

pub returns-in-34 : goal.returns-in-34
returns-in-34 c = elim c.in-34.is [
  | inl e ↦ subst Writes (sym e) (34, refl, refl)
  | inr (inl e) ↦ subst Writes (sym e) (92, refl, refl)
  | inr (inr (inl e)) ↦ subst Writes (sym e) (10, refl, refl)
  | inr (inr (inr (inl e))) ↦ subst Writes (sym e) (13, refl, refl)
  | inr (inr (inr (inr e))) ↦ subst Writes (sym e) (9, refl, refl)
]
