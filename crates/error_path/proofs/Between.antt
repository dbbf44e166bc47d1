-- The bytes of a text between two indexes, and one that begins a character at its end.
use Rattle.std.proofs.Common.{◌≡◌, ℕ, suc, ◌+◌, ◌-◌, ◌<◌, List, [], ◌∷◌, ◌++◌, length, take, drop, sym, ap, ◌∙◌, arith}
use Rattle.std.proofs.lemmas.List.{drop-take, length-drop, take-append-le, take_all}
use Rattle.std.specs.List.{count_by}
use Rattle.jsonb_spec.specs.Characters.{begins_character, character_at}

module _ (text : List ℕ) (first index : ℕ) where
  -- the bytes that are looked at
  abbrev looked_at : List ℕ
  looked_at = drop (suc first) (take (suc index) (text ++ 0 ∷ []))

  -- the bytes behind the first one
  behind_first : take (length text - (first + 1)) (drop (first + 1) text) ≡ drop (suc first) text
  behind_first = take_all (length text - (first + 1)) (drop (first + 1) text) (omega (arith, length-drop (first + 1) text)) ∙ ap (λ n. drop n text) {x = first + 1} {y = suc first} (omega arith)

  within : first < index → index < length text → looked_at ≡ take (index - first) (drop (suc first) text)
  within behind inside =
      let whole : suc index ≡ suc first + (index - first) = omega (arith, behind) in
      ap (drop (suc first)) (take-append-le (suc index) text (0 ∷ []) (omega (arith, inside)) ∙ ap (λ n. take n text) whole)
      ∙ drop-take (suc first) (index - first) text

  pub within_counted : first < index → index < length text → (count : ℕ) → count ≡ count_by begins_character (take (index - first) (take (length text - (first + 1)) (drop (first + 1) text))) → count + 1 ≡ character_at text first index
  within_counted behind inside count is =
      let same = is ∙ ap (λ bytes. count_by begins_character (take (index - first) bytes)) behind_first ∙ sym (ap (count_by begins_character) (within behind inside)) in
      omega (arith, same)
