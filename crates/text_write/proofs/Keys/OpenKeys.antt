-- The sort key of what is open, with one more part, and the sort key of a container that ends.
use Rattle.std.proofs.Common.{◌≡◌, ℕ, true, false, List, [], ◌∷◌, ◌++◌, map, None, refl, sym, ap, ◌∙◌, append_assoc}
use Rattle.std.proofs.lemmas.List.{map-append}
use Rattle.jsonb_spec.specs.SortKey.{items_key, text_key}
use Rattle.jsonb_spec.specs.Source.Open.{Open, elements_so_far}
use Rattle.jsonb_spec.specs.Source.{Found, Source, array_source_of, first_repeat, object_source_of, sort_by, sources_of, spot_of, trees_of_sources}
use Rattle.text_members.specs.Members.{between_after, others_joined}
use Rattle.jsonb_spec.specs.SortKey.Joined.{member_key, source_key}
use Rattle.jsonb_spec.specs.SortKey.SoFar.{keys_joined, open_key, parts_key}
use Rattle.text_members.proofs.Objects.Closing.{all_joined, joined_more, object_key, sort_ascends}

-- ---- one more part

none_between : (keys : List (List ℕ)) → between_after false keys ≡ []
none_between [] = refl
none_between (k ∷ ks) = refl

pub more_keys : {A : Type 0} (f : A → List ℕ) (xs : List A) (x : A) → keys_joined (map f (xs ++ x ∷ [])) ≡ keys_joined (map f xs) ++ f x
more_keys f xs x =
    ap keys_joined (map-append f xs (x ∷ [])) ∙ joined_more false (map f xs) (f x)
    ∙ ap (λ b. keys_joined (map f xs) ++ (b ++ f x)) (none_between (map f xs))

-- a member's value behind its key
pub member_joined : (fs : List Found) (f : Found) (before : List ℕ) → (before ++ ((209 ∷ keys_joined (map member_key fs)) ++ text_key f.key)) ++ source_key f.source ≡ before ++ 209 ∷ keys_joined (map member_key (fs ++ f ∷ []))
member_joined fs f before =
    let keys = 209 ∷ keys_joined (map member_key fs) in
    append_assoc before (keys ++ text_key f.key) (source_key f.source)
    ∙ ap (λ xs. before ++ xs) (append_assoc keys (text_key f.key) (source_key f.source) ∙ ap (λ xs. 209 ∷ xs) (sym (more_keys member_key fs f)))

-- ---- the end

others_key : (ss : List Source) → items_key (trees_of_sources (sources_of ss)) ≡ others_joined false (map source_key ss) ++ 0 ∷ []
others_key [] = refl
others_key (s ∷ ss) =
    ap (λ keys. source_key s ++ keys) (others_key ss) ∙ sym (append_assoc (source_key s) (others_joined false (map source_key ss)) (0 ∷ []))

-- an array that ends
pub array_ended : (ss : List Source) (cs : List Open) → open_key false (elements_so_far ss ∷ cs) ++ 0 ∷ [] ≡ open_key true cs ++ source_key (array_source_of ss)
array_ended ss cs =
    append_assoc (open_key true cs) (parts_key (elements_so_far ss)) (0 ∷ [])
    ∙ ap (λ keys. open_key true cs ++ 210 ∷ keys) (ap (λ keys. keys ++ 0 ∷ []) (all_joined (map source_key ss)) ∙ sym (others_key ss))

-- an object whose members are in the order of their keys
pub object_ended : (fs : List Found) (cs : List Open) → first_repeat (map spot_of fs) ≡ None
    → (open_key true cs ++ 209 ∷ keys_joined (map member_key (sort_by spot_of fs))) ++ 0 ∷ 0 ∷ [] ≡ open_key true cs ++ source_key (object_source_of fs)
object_ended fs cs none =
    append_assoc (open_key true cs) (209 ∷ keys_joined (map member_key (sort_by spot_of fs))) (0 ∷ 0 ∷ [])
    ∙ ap (λ keys. open_key true cs ++ keys) (sym (object_key (sort_by spot_of fs) (sort_ascends fs none)))
