-- The sink after bytes were written.
use Rattle.std.proofs.Common.{◌≡◌, ℕ, Bool, true, false, List, [], ◌∷◌, ◌++◌, refl, sym, ap, ap₂, subst, ◌∙◌, append_assoc, append-nil}
use Rattle.jsonb_spec.specs.Source.Open.{Open, elements_so_far}
use Rattle.jsonb_spec.specs.Source.{Source}
use Rattle.text_members.specs.OpenMembers.{AreOf, all_starts}
use Rattle.jsonb_spec.specs.Text.SoFar.{comma_unless, open_text}
use Rattle.jsonb_spec.specs.Text.SourceText.{source_text}
use Rattle.text_write.specs.Written.{bytes_of}
use Rattle.text_members.proofs.OpenMembers.{same, stay}
use Rattle.text_write.proofs.OpenTexts.{comma_is, led}
use Rattle.text_write.specs.declared.text.Part.{Part}
use Rattle.text_write.specs.declared.text.Part.TheVariants as part
use Rattle.text_write.specs.TextSink.{Held, IsEncoded, items, part_text, SeesPart, TextHolds, TextFilled, HeldFits, IsSinkWith, Writes, base_of, text_layout}
use Rattle.text_write.specs.declared.text.TextSink.{TextSink}

-- More bytes are written, and what is open holds the members that it held.
pub goes_on : {text front bytes now : List ℕ} {r s : TextSink} {due then : Bool} {held verbatim : List Held} {cs ds : List Open} → IsSinkWith text r front due held cs → Writes bytes r s → front ++ bytes ≡ now
    → all_starts (text_layout r.base) due cs ≡ all_starts (text_layout r.base) then ds → HeldFits r.base then verbatim ds → IsSinkWith text s now then verbatim ds
goes_on {text = text} {front = front} {bytes = bytes} {r = r} {s = s} {then = then} {verbatim = verbatim} {ds = ds} sink w joined starts fits = record {
  text_is = w.text ∙ sink.text_is;
  bytes =
      w.written ∙ ap (λ b. b ++ bytes) sink.bytes ∙ append_assoc (base_of r) front bytes
      ∙ ap₂ (λ b n. b ++ n) (sym w.before) joined;
  members = subst (λ b. AreOf (text_layout b) text s.members then ds) (sym w.base) (stay sink.members w.members starts);
  fits = subst (λ b. HeldFits b then verbatim ds) (sym w.base) fits;
}

-- nothing more
pub unchanged : (r : TextSink) → Writes [] r r
unchanged r = record { text = refl; base = refl; before = refl; written = sym (append-nil (bytes_of r.written)); members = same r.members }

-- what is before an item
pub comma_written : {text : List ℕ} {r s : TextSink} {held : List Held} {ss : List Source} {cs : List Open} (b : Bool) → TextHolds text r false (items b ∷ held) (elements_so_far ss ∷ cs) → Writes (comma_unless b) r s
    → TextHolds text s true (items false ∷ held) (elements_so_far ss ∷ cs)
comma_written {ss = ss} {cs = cs} b sink w =
    goes_on sink w (ap (λ c. open_text false (elements_so_far ss ∷ cs) ++ c) (comma_is b ss sink.fits.0) ∙ led (elements_so_far ss) cs) refl (refl, sink.fits.1)

pub sees_text : (p : Part) (s : Source) → SeesPart p s → part_text p ≡ source_text s
sees_text part.Null s h = ap source_text (sym h)
sees_text (part.Bool true) s h = ap source_text (sym h)
sees_text (part.Bool false) s h = ap source_text (sym h)
sees_text (part.Number n) s h = ap source_text (sym h)
sees_text (part.Plain t) s h = ap source_text (sym h.0)
sees_text (part.String t) s h = ap source_text (sym h)
sees_text (part.Contents c) s h = ap source_text (sym h)
sees_text part.Written s h = absurd h

-- what is written of a part that is there in the text
pub part_written : {text written : List ℕ} {r s : TextSink} {due : Bool} {held : List Held} {cs : List Open} (p : Part) (v : Source) (from to : ℕ) → IsSinkWith text r written due held cs → SeesPart p v → IsEncoded text from to p
    → (IsEncoded r.written.text.now from to p → Writes (part_text p) r s) → Writes (source_text v) r s
part_written {r = r} {s = s} p v from to sink sees encoded wrote =
    subst (λ bytes. Writes bytes r s) (sees_text p v sees) (wrote (subst (λ t. IsEncoded t from to p) (sym sink.text_is) encoded))

-- a value where one was due
pub value_written : {text : List ℕ} {r s : TextSink} {held : List Held} {cs : List Open} (v : Source) → TextHolds text r true held cs → Writes (source_text v) r s → TextFilled text s v held cs
value_written v sink w = goes_on sink w refl refl sink.fits
