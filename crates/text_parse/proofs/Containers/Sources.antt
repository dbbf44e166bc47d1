-- The trees of sources, by what they are made of.
use Rattle.std.proofs.Common.{◌≡◌, ℕ, List, [], ◌∷◌, map, refl, ap, sym, ◌∙◌}
use Rattle.jsonb_spec.specs.Grammar.Scalar.{IsScalar}
use Rattle.jsonb_spec.specs.Grammar.Scalar.IsLiteral.{false_word, null_word, true_word}
use Rattle.jsonb_spec.specs.Grammar.Scalar.IsScalar.{literal_value, number_value, string_value}
use Rattle.jsonb_spec.specs.Mode.{Mode}
use Rattle.jsonb_spec.specs.Tree.{Members, Tree, more_trees, put, put_all, trees_of}
use Rattle.jsonb_spec.specs.Tree.Members.{no_members}
use Rattle.jsonb_spec.specs.Tree.Tree.{array, boolean, null, number, object, string}
use Rattle.jsonb_spec.specs.Source.{Found, Source, array_source_of, member_of, object_source_of, put_source_members, sort_by, source_alone, source_members_of, sources_of, spot_of, tree_of_source, trees_of_sources}
use Rattle.text_parse.proofs.Containers.MembersShuffled.{put_all-shuffle}
use Rattle.text_common.proofs.Shuffles.{shuffle-map, sort-shuffles}
use Rattle.jsonb_core.proofs.Trees.MembersInOrder.{HaveDistinctKeys}

-- ---- values that hold no others

abbrev IsAlone : Tree → Type 0
IsAlone null = Unit {0}
IsAlone (boolean b) = Unit {0}
IsAlone (string k s) = Unit {0}
IsAlone (number n) = Unit {0}
IsAlone other = ⊥

is_alone : {mode : Mode} {bytes : List ℕ} {t : Tree} (s : IsScalar mode bytes t) → IsAlone t
is_alone (literal_value (null_word is)) = tt
is_alone (literal_value (true_word is)) = tt
is_alone (literal_value (false_word is)) = tt
is_alone (string_value is q) = tt
is_alone (number_value is) = tt

tree_if_alone : (t : Tree) → IsAlone t → tree_of_source (source_alone t) ≡ t
tree_if_alone null h = refl
tree_if_alone (boolean b) h = refl
tree_if_alone (string k s) h = refl
tree_if_alone (number n) h = refl
tree_if_alone other h = absurd h

pub alone_tree : {mode : Mode} {bytes : List ℕ} {t : Tree} → IsScalar mode bytes t → tree_of_source (source_alone t) ≡ t
alone_tree {t = t} s = tree_if_alone t (is_alone s)

-- ---- arrays and objects

pub trees_same : (ss : List Source) → trees_of_sources (sources_of ss) ≡ trees_of (map tree_of_source ss)
trees_same [] = refl
trees_same (s ∷ ss) = ap (λ ts. more_trees (tree_of_source s) ts) (trees_same ss)

pub members_same : (fs : List Found) (ms : Members) → put_source_members (source_members_of fs) ms ≡ put_all (map member_of fs) ms
members_same [] ms = refl
members_same (f ∷ fs) ms = members_same fs (put f.key (tree_of_source f.source) ms)

pub array_tree : (ss : List Source) → tree_of_source (array_source_of ss) ≡ array (trees_of (map tree_of_source ss))
array_tree ss = ap (λ ts. array ts) (trees_same ss)

pub object_tree : (fs : List Found) → HaveDistinctKeys (map member_of fs) → tree_of_source (object_source_of fs) ≡ object (put_all (map member_of fs) no_members)
object_tree fs d =
    ap (λ ms. object ms) (members_same (sort_by spot_of fs) no_members ∙ sym (put_all-shuffle (shuffle-map member_of (sort-shuffles spot_of fs)) no_members d))
