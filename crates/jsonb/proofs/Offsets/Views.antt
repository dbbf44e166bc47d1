-- The source and the tree of a `JsonAst`, level by level.
use Rattle.std.proofs.Common.{◌≡◌, ℕ, List, [], ◌∷◌, map, Vec, Global, rules, refl, sym, ap, ap₂, subst, ◌∙◌}
use Rattle.std.specs.Cow.{cow_str_bytes}
use Rattle.std.specs.declared.borrow.CowStr.{CowStr}
use Rattle.jsonb.specs.declared.parser.ast.JsonAst.{JsonAst, fold-roll-JsonAst, map-JsonAst, the_lemmas, ind-JsonAst}
use Rattle.jsonb.specs.declared.parser.ast.JsonAst as ast
use Rattle.jsonb.specs.declared.parser.ast.JsonAst.TheOpen.{JsonAst-F}
use Rattle.jsonb_spec.specs.Tree.{Members, Tree, more_trees, put, put_all, trees_of}
use Rattle.jsonb_spec.specs.Tree.Members.{no_members}
use Rattle.jsonb_spec.specs.Tree.Tree.{array, object}
use Rattle.jsonb.specs.AstView.{Written, ast_step, ast_view, keyed_trees}
use Rattle.jsonb.specs.Source.{found_from, found_of, source_step, source_view}
use Rattle.jsonb_spec.specs.Source.{Source, array_source_of, object_source, put_source_members, source_members_of, sources_of, tree_of_source, trees_of_sources}

pub fuse : {A B C : Type 0} (f : A → B) (g : B → C) (xs : List A) → map g (map f xs) ≡ map (λ x. g (f x)) xs
fuse f g [] = refl
fuse f g (x ∷ xs) = ap (λ ys. g (f x) ∷ ys) (fuse f g xs)

-- ---- sources

pub source-Array : (v : Vec JsonAst Global) → source_view (ast.Array v) ≡ array_source_of (map source_view v.items)
source-Array v = search (rules, the_lemmas)

level : (v : Vec Written Global) → source_view (ast.Object v) ≡ object_source (source_members_of (map found_from (map (λ m. (m.0, source_view m.1, m.2)) v.items)))
level v = search (rules, the_lemmas)

pub source-Object : (v : Vec Written Global) → source_view (ast.Object v) ≡ object_source (source_members_of (map found_of v.items))
source-Object v =
    level v ∙ ap (λ fs. object_source (source_members_of fs)) (fuse (λ (m : Written). (m.0, source_view m.1, m.2)) found_from v.items)

-- ---- the tree of the source

abbrev Agrees : JsonAst → Type 0
Agrees v = tree_of_source (source_view v) ≡ ast_view v

items_agree : (vs : List ((v : JsonAst) × Agrees v)) → trees_of_sources (sources_of (map source_view (map (λ e. e.0) vs))) ≡ trees_of (map ast_view (map (λ e. e.0) vs))
items_agree [] = refl
items_agree (v ∷ vs) = ap₂ (λ t ts. more_trees t ts) v.1 (items_agree vs)

abbrev Shown : Type 0
Shown = CowStr Global × ((v : JsonAst) × Agrees v) × ℕ

abbrev bare : List Shown → List Written
bare ms = map (λ (m : Shown). (m.0, m.1.0, m.2)) ms

members_agree : (ms : List Shown) (done : Members) → put_source_members (source_members_of (map found_from (map (λ (m : Written). (m.0, source_view m.1, m.2)) (bare ms)))) done
    ≡ put_all (keyed_trees (map (λ (m : Written). (m.0, ast_view m.1, m.2)) (bare ms))) done
members_agree [] done = refl
members_agree (m ∷ ms) done =
    members_agree ms (put (cow_str_bytes m.0) (tree_of_source (source_view m.1.0)) done)
    ∙ ap (λ t. put_all (keyed_trees (map (λ (w : Written). (w.0, ast_view w.1, w.2)) (bare ms))) (put (cow_str_bytes m.0) t done)) m.1.1

layer : (y : JsonAst-F ((v : JsonAst) × Agrees v)) → tree_of_source (source_step (map-JsonAst JsonAst Source source_view (map-JsonAst ((v : JsonAst) × Agrees v) JsonAst (λ e. e.0) y)))
    ≡ ast_step (map-JsonAst JsonAst Tree ast_view (map-JsonAst ((v : JsonAst) × Agrees v) JsonAst (λ e. e.0) y))
layer JsonAst-F.Null = refl
layer (JsonAst-F.Bool b) = refl
layer (JsonAst-F.String s) = refl
layer (JsonAst-F.Number n) = refl
layer (JsonAst-F.Array v) = ap (λ ts. array ts) (items_agree v.items)
layer (JsonAst-F.Object v) = ap (λ ms. object ms) (members_agree v.items no_members)

-- The tree of a `JsonAst` is that of its source.
pub tree_of_view : (v : JsonAst) → tree_of_source (source_view v) ≡ ast_view v
tree_of_view = ind-JsonAst Agrees (λ x y is.
    ap tree_of_source (fold-roll-JsonAst Source source_step x)
    ∙ subst (λ z. tree_of_source (source_step (map-JsonAst JsonAst Source source_view z)) ≡ ast_step (map-JsonAst JsonAst Tree ast_view z)) is (layer y)
    ∙ sym (fold-roll-JsonAst Tree ast_step x))
