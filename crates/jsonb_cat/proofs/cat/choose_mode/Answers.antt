-- A slice of no words is none, and one of one word is that word alone.
use Rattle.std.proofs.Common.{◌≡◌, ◌<◌, ◌≤◌, map, string_bytes, List, [], ◌∷◌, length, get_or, arith, refl, ap, sym, ◌∙◌}
use Rattle.std.specs.Cmp.Lexicographic.{same_text}
use Rattle.jsonb_spec.specs.Program.{no_words, standard_word}
use Rattle.jsonb_cat.proofs.cat.choose_mode.Goals as goal

only_one : {A : Type 0} (xs : List A) (x : A) → 1 ≤ length xs → length xs < 2 → x ≡ get_or xs 0 x → xs ≡ x ∷ []
only_one [] x least most is = absurd (omega (arith, least))
only_one (y ∷ []) x least most is = ap (λ z. z ∷ []) (sym is)
only_one (y ∷ z ∷ xs) x least most is = absurd (omega (arith, most))

none_at_all : {A : Type 0} (xs : List A) → length xs < 1 → xs ≡ []
none_at_all [] short = refl
none_at_all (x ∷ xs) short = absurd (omega (arith, short))

pub returns-in-empty : goal.returns-in-empty
returns-in-empty c = no_words (ap (map string_bytes) (none_at_all c.args.words.now c.in-empty.len_below))

pub returns-in-len1 : goal.returns-in-len1
returns-in-len1 c = let one = only_one c.args.words.now c.word-item.result c.in-len1.len_at_least c.in-len1.len_below c.word-item.is in standard_word (rw one (ap (λ w. w ∷ []) (sym c.as_str.ensures.value ∙ same_text _ _ (sym c.if-eq.true ∙ c.eq.ensures))))
