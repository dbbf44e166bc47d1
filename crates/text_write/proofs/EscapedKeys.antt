-- The end of a text in a sort key.
use Rattle.std.proofs.Common.{◌≡◌, ℕ, List, [], ◌∷◌, ◌++◌, None, take, drop, sym, ap, ◌∙◌, append_assoc}
use Rattle.std.proofs.Math.Seq.{take-length}
use Rattle.std.proofs.lemmas.List.{take-append-drop}
use Rattle.std.specs.List.{flat_map}
use Rattle.memchr.specs.Find.{IsFirstByte, is_byte}
use Rattle.jsonb_spec.specs.SortKey.{byte_key, text_key}
use Rattle.jsonb_core.proofs.SortKeys.Zeros.{before_zero}

no_zeros : (bytes : List ℕ) → IsFirstByte (is_byte 0) bytes None → flat_map byte_key bytes ≡ bytes
no_zeros bytes none = ap (flat_map byte_key) (sym (take-length bytes)) ∙ before_zero bytes None none ∙ take-length bytes

pub ends_text : (from : ℕ) (bytes : List ℕ) → IsFirstByte (is_byte 0) (drop from bytes) None → bytes ++ 0 ∷ 1 ∷ [] ≡ take from bytes ++ text_key (drop from bytes)
ends_text from bytes none =
    ap (λ (u : List ℕ). u ++ 0 ∷ 1 ∷ []) (sym (take-append-drop from bytes)) ∙ append_assoc (take from bytes) (drop from bytes) (0 ∷ 1 ∷ [])
    ∙ ap (λ (u : List ℕ). take from bytes ++ (u ++ 0 ∷ 1 ∷ [])) (sym (no_zeros (drop from bytes) none))
