-- What was parsed from bytes that are written as they are.
use Rattle.std.proofs.Common.{◌≡◌, ℕ, ◌+◌, ◌-◌, List, [], ◌∷◌, ◌++◌, length, take, drop, drop-drop, slice_range, sym, ap, subst, ◌∙◌, append_assoc}
use Rattle.std.proofs.Math.Seq.{take-append_seam}
use Rattle.std.proofs.lemmas.List.{take-append-drop}
use Rattle.std.specs.List.{flat_map}
use Rattle.jsonb_spec.specs.Text.{in_quotes}
use Rattle.jsonb_spec.specs.Text.StringText.{ArePlain, byte_text, quoted_text}
use Rattle.text_write.specs.TextSink.{Writes}
use Rattle.text_write.specs.declared.text.TextSink.{TextSink}

-- a string between double quotes that needs no escapes
pub encoded_string : (text string : List ℕ) (from to : ℕ) → slice_range text from to ≡ in_quotes string → ArePlain (take (length string) (drop (from + 1) text)) → slice_range text from to ≡ quoted_text string
encoded_string text string from to encoded plain =
    let rest = drop (to - from) (drop from text) in
    let split : drop from text ≡ in_quotes string ++ rest = sym (take-append-drop (to - from) (drop from text)) ∙ ap (λ xs. xs ++ rest) encoded in
    let behind : drop (from + 1) text ≡ string ++ (34 ∷ rest) =
    sym (drop-drop 1 from text) ∙ ap (drop 1) split ∙ append_assoc string (34 ∷ []) rest in
    let whole : take (length string) (drop (from + 1) text) ≡ string = ap (take (length string)) behind ∙ take-append_seam string (34 ∷ rest) in
    let here : flat_map byte_text string ≡ string = subst (λ xs. ArePlain xs) whole plain in
    encoded ∙ ap (λ xs. 34 ∷ xs ++ 34 ∷ []) (sym here)

-- and it is held
pub string_verbatim : {r s : TextSink} (string : List ℕ) (from to : ℕ) → ArePlain (take (length string) (drop (from + 1) r.written.text.now)) → Writes (slice_range r.written.text.now from to) r s → slice_range r.written.text.now from to ≡ in_quotes string → Writes (quoted_text string) r s
string_verbatim {r = r} {s = s} string from to plain w encoded =
    subst (λ bytes. Writes bytes r s) (encoded_string r.written.text.now string from to encoded plain) w
