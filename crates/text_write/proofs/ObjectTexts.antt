-- The text of an object whose members are in the order of their keys.
use Rattle.std.proofs.Common.{◌≡◌, true, List, [], ◌∷◌, ◌++◌, map, None, refl, sym, ap, ap₂, ◌∙◌, append_assoc}
use Rattle.jsonb_spec.specs.Text.{member_texts, tree_text, with_commas}
use Rattle.jsonb_spec.specs.Text.StringText.{quoted_text}
use Rattle.jsonb_spec.specs.Tree.{object}
use Rattle.jsonb_spec.specs.Source.Open.{Open}
use Rattle.jsonb_spec.specs.Source.{Found, first_repeat, object_source, object_source_of, sort_by, source_members_of, spot_of}
use Rattle.text_members.specs.Members.{SpotsAscend}
use Rattle.jsonb_spec.specs.Text.SoFar.{member_text, open_text}
use Rattle.jsonb_spec.specs.Text.SourceText.{source_text}
use Rattle.text_members.proofs.Objects.Closing as closing

-- ---- the tree

listed_texts : (fs : List Found) → member_texts (closing.listed fs) ≡ map member_text fs
listed_texts [] = refl
listed_texts (f ∷ fs) =
    ap₂ (λ text texts. text ∷ texts) (sym (append_assoc (quoted_text f.key) (58 ∷ []) (source_text f.source))) (listed_texts fs)

object_text : (fs : List Found) → SpotsAscend (map spot_of fs) → source_text (object_source (source_members_of fs)) ≡ 123 ∷ with_commas (map member_text fs) ++ 125 ∷ []
object_text fs up = ap (λ ms. tree_text (object ms)) (closing.put_listed fs up) ∙ ap (λ texts. 123 ∷ with_commas texts ++ 125 ∷ []) (listed_texts fs)

-- ---- the order

pub sort_ascends : (fs : List Found) → first_repeat (map spot_of fs) ≡ None → SpotsAscend (map spot_of (sort_by spot_of fs))
sort_ascends = closing.sort_ascends

pub stays : (fs : List Found) → SpotsAscend (map spot_of fs) → sort_by spot_of fs ≡ fs
stays = closing.stays

-- ---- an object that ends

pub object_ended : (fs : List Found) (cs : List Open) → SpotsAscend (map spot_of (sort_by spot_of fs)) → (open_text true cs ++ 123 ∷ with_commas (map member_text (sort_by spot_of fs))) ++ 125 ∷ [] ≡ open_text true cs ++ source_text (object_source_of fs)
object_ended fs cs up =
    append_assoc (open_text true cs) (123 ∷ with_commas (map member_text (sort_by spot_of fs))) (125 ∷ [])
    ∙ ap (λ text. open_text true cs ++ text) (sym (object_text (sort_by spot_of fs) up))

-- ---- pieces
