-- A scalar that is given to be put in, and is held or not.
use Rattle.std.proofs.Common.{◌≡◌, ◌⊎◌, ℕ, List, Option, None, Some, inl, inr, sym, subst}
use Rattle.text_parse.specs.Scalars.{IsVerbatimAs}
use Rattle.jsonb_spec.specs.Text.Encoded.{IsEncodedAt}
use Rattle.jsonb_spec.specs.Source.{Source}
use Rattle.text_write.specs.TextSink.{SeesPart}
use Rattle.text_write.specs.declared.text.Part.{Part}
use Rattle.jsonb.specs.Held.{IsScalarAt}
use Rattle.jsonb.proofs.Encoded.{encoded_part}
use Rattle.text_common.specs.declared.verbatim.Verbatim.{Verbatim}

pub scalar_given : {V : Type 0} {IsVerbatim : Verbatim → V → Type 0} {v : V} (part : Part) (verbatim : Option Verbatim) {from to : ℕ} {text : List ℕ} {s : Source} → ((k : Verbatim) → IsVerbatim k v → verbatim ≡ Some k)
    → (((verbatim ≡ None) × SeesPart part s) × IsEncodedAt text from to s) ⊎ IsVerbatimAs IsVerbatim v from to text s → IsScalarAt part verbatim from to text s
scalar_given part verbatim {from = from} {to = to} {text = text} {s = s} known (inl h) =
    subst (λ o. IsScalarAt part o from to text s) (sym h.0.0) (h.0.1, encoded_part text from to part s h.0.1 h.1)
scalar_given part verbatim {from = from} {to = to} {text = text} {s = s} known (inr h) =
    subst (λ o. IsScalarAt part o from to text s) (sym (known h.verbatim h.is)) h.holds

-- where nothing is held
pub all_made : {V A : Type 0} {v : V} {from to : ℕ} {text : List ℕ} {s : Source} → A ⊎ IsVerbatimAs (λ k w. ⊥) v from to text s → A
all_made (inl h) = h
all_made (inr h) = absurd h.is
