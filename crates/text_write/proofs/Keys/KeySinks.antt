-- The sink for a sort key after bytes were written.
use Rattle.std.proofs.Common.{◌≡◌, ℕ, ◌+◌, ◌-◌, ◌<◌, ◌≤◌, Bool, true, List, [], ◌∷◌, ◌++◌, length, take, drop, drop-drop, slice_range, refl, sym, ap, ap₂, subst, ◌∙◌, arith, append_assoc, append-nil}
use Rattle.std.proofs.lemmas.List.{take-append-le}
use Rattle.jsonb_spec.specs.SortKey.{text_key}
use Rattle.jsonb_spec.specs.Text.{in_quotes}
use Rattle.jsonb_core.proofs.SortKeys.Zeros.{plain_key}
use Rattle.jsonb_spec.specs.Source.Open.{Open}
use Rattle.jsonb_spec.specs.Source.{Source}
use Rattle.text_write.specs.KeySink.{Held, HeldFits, IsSinkWith, KeyFilled, KeyHolds, Writes, base_of, key_layout, part_key}
use Rattle.jsonb_spec.specs.SortKey.Joined.{source_key}
use Rattle.text_members.specs.OpenMembers.{AreOf, AreSame, all_starts}
use Rattle.jsonb_spec.specs.Text.StringText.{ArePlain}
use Rattle.text_write.specs.TextSink.{IsEncoded, SeesPart}
use Rattle.text_write.specs.declared.key.KeySink.{KeySink}
use Rattle.text_write.specs.declared.text.Part.{Part}
use Rattle.text_write.specs.declared.text.Part.TheVariants as part
use Rattle.text_members.proofs.OpenMembers.{key_there, same, stay}
use Rattle.text_write.proofs.FirstBytes.{behind_first}

-- More bytes are written, and what is open holds the members that it held.
pub goes_on : {text front bytes now : List ℕ} {r s : KeySink} {due then : Bool} {held verbatim : List Held} {cs ds : List Open} → IsSinkWith text r front due held cs → Writes bytes r s → front ++ bytes ≡ now
    → all_starts (key_layout r.base) due cs ≡ all_starts (key_layout r.base) then ds → HeldFits (key_layout r.base) verbatim ds → IsSinkWith text s now then verbatim ds
goes_on {text = text} {front = front} {bytes = bytes} {r = r} {s = s} {then = then} {verbatim = verbatim} {ds = ds} sink w joined starts fits = record {
  bytes =
      w.written ∙ ap (λ b. b ++ bytes) sink.bytes ∙ append_assoc (base_of r) front bytes
      ∙ ap₂ (λ b n. b ++ n) (sym w.before) joined;
  members = subst (λ b. AreOf (key_layout b) text s.members then ds) (sym w.base) (stay sink.members w.members starts);
  fits = subst (λ b. HeldFits (key_layout b) verbatim ds) (sym w.base) fits;
}

-- nothing more
pub unchanged : (r : KeySink) → Writes [] r r
unchanged r = record { base = refl; before = refl; written = sym (append-nil r.out.items); members = same r.members }

sees_key : (p : Part) (s : Source) → SeesPart p s → part_key p ≡ source_key s
sees_key part.Null s h = ap source_key (sym h)
sees_key (part.Bool b) s h = ap source_key (sym h)
sees_key (part.Number n) s h = ap source_key (sym h)
sees_key (part.Plain t) s h = ap source_key (sym h.0)
sees_key (part.String t) s h = ap source_key (sym h)
sees_key (part.Contents c) s h = ap source_key (sym h)
sees_key part.Written s h = absurd h

-- what is written of a part that is there in the text
pub part_written : {text written : List ℕ} {r s : KeySink} {due : Bool} {held : List Held} {cs : List Open} (p : Part) (v : Source) (from to : ℕ) → IsSinkWith text r written due held cs → SeesPart p v → IsEncoded text from to p
    → (IsEncoded r.members.text.now from to p → Writes (part_key p) r s) → Writes (source_key v) r s
part_written {r = r} {s = s} p v from to sink sees encoded wrote =
    subst (λ bytes. Writes bytes r s) (sees_key p v sees) (wrote (subst (λ t. IsEncoded t from to p) (sym sink.members.text_is) encoded))

-- a value where one was due
pub value_written : {text : List ℕ} {r s : KeySink} {held : List Held} {cs : List Open} (v : Source) → KeyHolds text r true held cs → Writes (source_key v) r s → KeyFilled text s v held cs
value_written v sink w = goes_on sink w refl refl sink.fits

-- the sink with another buffer
pub wrote : {bytes : List ℕ} {r s : KeySink} → s.base ≡ r.base → AreSame r.members s.members → s.out.items ≡ r.out.items ++ bytes → Writes bytes r s
wrote {bytes = bytes} {r = r} base members written = record {
  base = base;
  before = ap₂ take base written ∙ take-append-le r.base r.out.items bytes r.based;
  written = written;
  members = members;
}

-- ---- strings in the text

-- bytes without escapes, and what closes them
pub plain_text_key : (bytes : List ℕ) → ArePlain bytes → text_key bytes ≡ bytes ++ 0 ∷ 1 ∷ []
plain_text_key bytes is_plain = ap (λ xs. xs ++ 0 ∷ 1 ∷ []) (plain_key bytes is_plain)

-- a string between double quotes
pub string_there : (text string : List ℕ) (from to : ℕ) → 1 < to - from → to ≤ length text → slice_range text from to ≡ in_quotes string → drop 1 (take (to - from - 1) (drop from text)) ≡ string
string_there text string from to some inside encoded =
    let back : from + 1 - 1 ≡ from = omega arith in
    let there : slice_range text (from + 1 - 1) to ≡ in_quotes string = ap (λ f. slice_range text f to) back ∙ encoded in
    let count : to - from - 1 - 1 ≡ to - 1 - (from + 1) = omega arith in
    sym (behind_first (to - from - 1) (drop from text) (omega arith)) ∙ ap₂ take count (drop-drop 1 from text)
    ∙ key_there text string (from + 1) to (omega arith) (omega arith) inside there
