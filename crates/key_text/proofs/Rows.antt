-- Short strings and names, in rows with what is around them.
use Rattle.std.proofs.Common.{◌≡◌, ℕ, suc, ◌+◌, ◌≤◌, Bool, true, List, [], ◌∷◌, ◌++◌, get_or, set, drop, take, length, refl, sym, subst, ap, ap₂, ◌∙◌, arith, append_assoc, drop-cons, drop_of_length-le}
use Rattle.std.proofs.lemmas.List.{take-take, length-take-le}
use Rattle.std.specs.List.{flat_map}
use Rattle.jsonb_spec.specs.SortKey.Open.{name_key}
use Rattle.jsonb_spec.specs.Text.StringText.{ArePlain, byte_text}
use Rattle.key_text.specs.Writes.{closing_quote, name_text}
use Rattle.key_text.proofs.Strings.{closed_row, short_string}

-- the bytes of a chunk, one by one
abbrev pub sixteen : List ℕ → List ℕ
sixteen chunk = get_or chunk 0 0 ∷ get_or chunk 1 0 ∷ get_or chunk 2 0 ∷ get_or chunk 3 0 ∷ get_or chunk 4 0 ∷ get_or chunk 5 0 ∷ get_or chunk 6 0 ∷ get_or chunk 7 0 ∷ get_or chunk 8 0 ∷ get_or chunk 9 0 ∷ get_or chunk 10 0 ∷ get_or chunk 11 0 ∷ get_or chunk 12 0 ∷ get_or chunk 13 0 ∷ get_or chunk 14 0 ∷ get_or chunk 15 0 ∷ []

one_more : (chunk : List ℕ) (i : ℕ) (left : List ℕ) → suc i ≤ length chunk → drop (suc i) chunk ≡ left → drop i chunk ≡ get_or chunk i 0 ∷ left
one_more chunk i left h e = drop-cons chunk i 0 (omega (arith, h)) ∙ ap (λ t. get_or chunk i 0 ∷ t) e

over : (chunk : List ℕ) → length chunk ≤ 16 → drop 16 chunk ≡ []
over chunk h = drop_of_length-le chunk h

are_all : (chunk : List ℕ) → length chunk ≡ 16 → chunk ≡ sixteen chunk
are_all chunk long =
    one_more chunk 0 _ (omega (arith, long)) (one_more chunk 1 _ (omega (arith, long)) (one_more chunk 2 _ (omega (arith, long)) (one_more chunk 3 _ (omega (arith, long)) (one_more chunk 4 _ (omega (arith, long)) (one_more chunk 5 _ (omega (arith, long)) (one_more chunk 6 _ (omega (arith, long)) (one_more chunk 7 _ (omega (arith, long)) (one_more chunk 8 _ (omega (arith, long)) (one_more chunk 9 _ (omega (arith, long)) (one_more chunk 10 _ (omega (arith, long)) (one_more chunk 11 _ (omega (arith, long)) (one_more chunk 12 _ (omega (arith, long)) (one_more chunk 13 _ (omega (arith, long)) (one_more chunk 14 _ (omega (arith, long)) (one_more chunk 15 _ (omega (arith, long)) (over chunk (omega (arith, long))))))))))))))))))

pub quoted : (colon : Bool) (chunk : List ℕ) (run count : ℕ) → length chunk ≡ 16 → run ≤ 14 → count ≡ run + 1 + length (closing_quote colon)
    → take count (set (set (34 ∷ sixteen chunk) (run + 1) 34) (run + 2) 58) ≡ 34 ∷ (take run chunk ++ closing_quote colon)
quoted colon chunk run count long few is =
    let one : run + 1 ≡ suc run = omega arith in
    let two : run + 2 ≡ suc (run + 1) = omega arith in
    let all : count ≡ suc (run + length (closing_quote colon)) = omega (arith, is) in
    ap (λ c. take count (set (set (34 ∷ c) (run + 1) 34) (run + 2) 58)) (sym (are_all chunk long))
    ∙ ap₂ (λ i j. take count (set (set (34 ∷ chunk) i 34) j 58)) one two
    ∙ ap (λ k. take k (34 ∷ set (set chunk run 34) (run + 1) 58)) all
    ∙ ap (λ t. 34 ∷ t) (closed_row colon chunk run (run + length (closing_quote colon)) (omega (arith, long, few)) refl)

pub after_comma : (chunk : List ℕ) (run : ℕ) → length chunk ≡ 16 → run ≤ 14
    → take (run + 4) (set (set (44 ∷ 34 ∷ sixteen chunk) (run + 2) 34) (run + 3) 58) ≡ 44 ∷ 34 ∷ (take run chunk ++ closing_quote true)
after_comma chunk run long few =
    let two : run + 2 ≡ suc (suc run) = omega arith in
    let three : run + 3 ≡ suc (suc (run + 1)) = omega arith in
    let all : run + 4 ≡ suc (suc (run + 2)) = omega arith in
    ap (λ c. take (run + 4) (set (set (44 ∷ 34 ∷ c) (run + 2) 34) (run + 3) 58)) (sym (are_all chunk long))
    ∙ ap₂ (λ i j. take (run + 4) (set (set (44 ∷ 34 ∷ chunk) i 34) j 58)) two three
    ∙ ap (λ k. take k (44 ∷ 34 ∷ set (set chunk run 34) (run + 1) 58)) all
    ∙ ap (λ t. 44 ∷ 34 ∷ t) (closed_row true chunk run (run + 2) (omega (arith, long, few)) refl)

module _ (bytes chunk : List ℕ) (run : ℕ) (enough : 16 ≤ length bytes) (is : chunk ≡ take 16 bytes) (few : run ≤ 14) where
  pub chunk_long : length chunk ≡ 16
  chunk_long = ap length is ∙ length-take-le 16 bytes enough

  -- a name that is short
  pub short_name : ArePlain (take run chunk) → get_or chunk run 0 ≡ 0 → get_or chunk (run + 1) 0 ≡ 1 → (object : Bool) → object ≡ true → (name more : List ℕ) → bytes ≡ name_key object name ++ more
      → (drop (run + 2) bytes ≡ more) × (34 ∷ (take run chunk ++ closing_quote true) ≡ name_text object name)
  short_name plain zero_there one_there object o name more e =
      let same : take run chunk ≡ take run bytes = ap (take run) is ∙ take-take run 16 bytes (omega (arith, few)) in
      let x = short_string true bytes chunk run is chunk_long few (subst ArePlain same plain) zero_there one_there name more (e ∙ ap (λ b. name_key b name ++ more) o) in
      (x.0, ap (λ t. 34 ∷ t) (x.1 ∙ sym (append_assoc (flat_map byte_text name) (34 ∷ []) (58 ∷ []))) ∙ ap (λ b. name_text b name) (sym o))
