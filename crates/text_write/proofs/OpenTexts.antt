-- The text of what is open, with one more part, and the text of a container that ends.
use Rattle.std.proofs.Common.{◌≡◌, ℕ, Bool, true, false, List, [], ◌∷◌, ◌++◌, map, refl, sym, ap, ◌∙◌, append_assoc, append-nil}
use Rattle.std.proofs.lemmas.List.{map-append}
use Rattle.std.proofs.lemmas.List.Concat.{flat_map-append}
use Rattle.std.specs.List.{flat_map}
use Rattle.jsonb_spec.specs.Text.{item_texts, with_commas}
use Rattle.jsonb_spec.specs.Source.Open.{Open, elements_so_far}
use Rattle.jsonb_spec.specs.Source.{Source, array_source_of, sources_of, trees_of_sources}
use Rattle.jsonb_spec.specs.Text.SoFar.{comma_after, comma_unless, is_empty, lead_text, open_text, parts_text}
use Rattle.jsonb_spec.specs.Text.SourceText.{source_text}

-- the comma behind parts is the one before the next
pub comma_is : {A : Type 0} (b : Bool) (xs : List A) → b ≡ is_empty xs → comma_unless b ≡ comma_after xs
comma_is b [] h = ap comma_unless h
comma_is b (x ∷ xs) h = ap comma_unless h

-- one more part
pub more_parts : {A : Type 0} (f : A → List ℕ) (xs : List A) (x : A) → with_commas (map f (xs ++ x ∷ [])) ≡ with_commas (map f xs) ++ (comma_after xs ++ f x)
more_parts f [] x = append-nil (f x)
more_parts f (y ∷ xs) x =
    let comma : List ℕ → List ℕ = λ other. 44 ∷ other in
    ap (λ texts. f y ++ flat_map comma texts) (map-append f xs (x ∷ []))
    ∙ ap (λ texts. f y ++ texts) (flat_map-append comma (map f xs) (f x ∷ []) ∙ ap (λ text. flat_map comma (map f xs) ++ 44 ∷ text) (append-nil (f x)))
    ∙ sym (append_assoc (f y) (flat_map comma (map f xs)) (44 ∷ f x))

-- parts with a part behind them, and what is due before it
pub part_joined : {A : Type 0} (f : A → List ℕ) (first : ℕ) (xs : List A) (x : A) (before : List ℕ)
    → (before ++ (first ∷ with_commas (map f xs) ++ comma_after xs)) ++ f x ≡ before ++ first ∷ with_commas (map f (xs ++ x ∷ []))
part_joined f first xs x before =
    append_assoc before (first ∷ with_commas (map f xs) ++ comma_after xs) (f x)
    ∙ ap (λ rest. before ++ first ∷ rest) (append_assoc (with_commas (map f xs)) (comma_after xs) (f x) ∙ sym (more_parts f xs x))

-- up to where the next part is due
pub led : (c : Open) (cs : List Open) → open_text false (c ∷ cs) ++ lead_text c ≡ open_text true (c ∷ cs)
led c cs = append_assoc (open_text true cs) (parts_text c) (lead_text c)

item_texts_are : (ss : List Source) → item_texts (trees_of_sources (sources_of ss)) ≡ map source_text ss
item_texts_are [] = refl
item_texts_are (s ∷ ss) = ap (λ texts. source_text s ∷ texts) (item_texts_are ss)

-- an array that ends
pub array_ended : (ss : List Source) (cs : List Open) → open_text false (elements_so_far ss ∷ cs) ++ 93 ∷ [] ≡ open_text true cs ++ source_text (array_source_of ss)
array_ended ss cs =
    append_assoc (open_text true cs) (parts_text (elements_so_far ss)) (93 ∷ [])
    ∙ ap (λ texts. open_text true cs ++ (91 ∷ with_commas texts ++ 93 ∷ [])) (sym (item_texts_are ss))
