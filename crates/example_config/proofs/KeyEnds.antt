-- A member of a `JsonAst` by its key, with the offset of the key's end.
use Rattle.std.proofs.Common.{◌≡◌, inl, inr, ℕ, zero, suc, ◌<◌, List, [], ◌∷◌, length, get_or, Bool, true, false, ◌&&◌, eqb, eqb-true, Vec, Global, refl, ap, subst, sym, ◌∙◌, arith, rules}
use Rattle.std.specs.Cow.{cow_str_bytes}
use Rattle.jsonb.specs.AstView.{Written}
use Rattle.std.specs.Str.{bytes_eq}
use Rattle.jsonb_spec.specs.Mode.{Mode}
use Rattle.jsonb_spec.specs.Located.{IsLocated}
use Rattle.jsonb_spec.specs.Source.{object_source}
use Rattle.jsonb.specs.Source.{source_members_view, source_view}
use Rattle.jsonb.specs.declared.parser.ast.JsonAst.{JsonAst, the_lemmas}
use Rattle.jsonb.specs.declared.parser.ast.JsonAst.TheVariants as ast
use Rattle.example_config.specs.Config.{HasKeyEnd}

-- a member that is found
pub key_found : (ms : List Written) (i : ℕ) (m : Written) (key : List ℕ) → i < length ms → m ≡ get_or ms i m → cow_str_bytes m.0 ≡ key → HasKeyEnd (source_members_view ms) key m.2
key_found [] i m key within is same = absurd (omega (arith, within))
key_found (n ∷ ms) zero m key within is same = inl (ap (λ (w : Written). cow_str_bytes w.0) (sym is) ∙ same, ap (λ (w : Written). w.2) (sym is))
key_found (n ∷ ms) (suc i) m key within is same = inr (key_found ms i m key (omega (arith, within)) is same)

source-Object : (v : Vec Written Global) → source_view (ast.Object v) ≡ object_source (source_members_view v.items)
source-Object v = search (rules, the_lemmas)

-- an object that is in a text
pub object_located : (mode : Mode) (text : List ℕ) (read : JsonAst) (members : Vec Written Global) → read ≡ ast.Object members → IsLocated mode text (source_view read) → IsLocated mode text (object_source (source_members_view members.items))
object_located mode text read members is located = subst (λ s. IsLocated mode text s) (ap source_view is ∙ source-Object members) located

-- bytes that compare as equal
pub same_bytes : (xs ys : List ℕ) → bytes_eq xs ys ≡ true → xs ≡ ys
same_bytes [] [] e = refl
same_bytes [] (y ∷ ys) e = cc
same_bytes (x ∷ xs) [] e = cc
same_bytes (x ∷ xs) (y ∷ ys) e = by_first (eqb x y) refl (same_bytes xs ys) e
  where
    by_first : (b : Bool) → eqb x y ≡ b → (bytes_eq xs ys ≡ true → xs ≡ ys) → (b && bytes_eq xs ys) ≡ true → x ∷ xs ≡ y ∷ ys
    by_first true f behind g = let first = eqb-true x y f in let rest = behind g in cc
    by_first false f behind g = cc
