-- The object of members that were put in the order of their keys.
use Rattle.std.proofs.Common.{◌≡◌, ℕ, ◌-◌, ◌≤◌, List, [], ◌∷◌, length, drop, map, Some, None, Ok, Err, IsPermutation, refl, ap, subst, ◌∙◌, arith}
use Rattle.jsonb_spec.specs.Code.Code.{object_duplicate_key}
use Rattle.jsonb_spec.specs.Grammar.{AreDistinct}
use Rattle.jsonb.specs.AstView.{Written}
use Rattle.jsonb.specs.Source.{found_of}
use Rattle.jsonb_spec.specs.Parsing.Container.{object_or_fault}
use Rattle.jsonb_spec.specs.Source.{Found, SpotsAreSorted, Spot, adjacent_repeat, first_repeat, object_source, sort_by, source_members_of, spot_of}
use Rattle.text_common.proofs.Repeats.{distinct}
use Rattle.text_common.proofs.Shuffles.{first_repeat-sorted, none_left, shuffle-map, shuffled, sort-ascending, sort-distinct}
use Rattle.jsonb.proofs.Offsets.Views.{fuse}

abbrev pub spots : List Written → List Spot
spots ms = map spot_of (map found_of ms)

length-map : {X Y : Type 0} (f : X → Y) (xs : List X) → length (map f xs) ≡ length xs
length-map f [] = refl
length-map f (x ∷ xs) = let h = length-map f xs in omega (arith, h)

module _ (old new : List Written) (p : IsPermutation old new) (up : SpotsAreSorted (spots new)) where
  first_is : first_repeat (spots old) ≡ adjacent_repeat (spots new)
  first_is = first_repeat-sorted (spots old) (spots new) (shuffle-map spot_of (shuffle-map found_of (shuffled old new p))) up

  pub repeated : (s : Spot) (rest : List ℕ) → adjacent_repeat (spots new) ≡ Some s → object_or_fault (first_repeat (spots old)) (map found_of old) rest ≡ Err (record { code = object_duplicate_key s.key; offset = s.offset })
  repeated s rest e = ap (λ o. object_or_fault o (map found_of old) rest) (first_is ∙ e)

  pub not_repeated : (rest : List ℕ) → adjacent_repeat (spots new) ≡ None → object_or_fault (first_repeat (spots old)) (map found_of old) rest ≡ Ok (object_source (source_members_of (map found_of new)), rest)
  not_repeated rest e =
      let none : first_repeat (spots old) ≡ None = first_is ∙ e in
      let keys : AreDistinct (map (λ (f : Found). f.key) (map found_of old)) = subst AreDistinct (fuse spot_of (λ (s : Spot). s.key) (map found_of old)) (distinct (spots old) none) in
      let sorted : sort_by spot_of (map found_of old) ≡ map found_of new = sort-distinct spot_of (shuffle-map found_of (shuffled old new p)) keys ∙ sort-ascending spot_of (map found_of new) up in
      ap (λ o. object_or_fault o (map found_of old) rest) none ∙ ap (λ fs. Ok (object_source (source_members_of fs), rest)) sorted

pub no_more_left : (ms : List Written) (i : ℕ) → 1 ≤ i → length ms ≤ i → adjacent_repeat (drop (i - 1) (spots ms)) ≡ None
no_more_left ms i some past = none_left (spots ms) (i - 1) (let one = length-map found_of ms in let two = length-map spot_of (map found_of ms) in omega arith)
