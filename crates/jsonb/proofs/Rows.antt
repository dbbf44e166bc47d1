-- Two rows of items or members compared from an index on, and copied.
use Rattle.std.proofs.Common.{◌≡◌, ℕ, ◌+◌, ◌<◌, ◌≤◌, List, [], ◌∷◌, ◌++◌, length, take, drop, get_or, leb, refl, sym, ap, ◌∙◌, inl, inr, arith, drop-cons}
use Rattle.std.proofs.Math.Seq.{drop-nil}
use Rattle.std.proofs.lemmas.Bool.{cases_lt, le-leb, lt-leb}
use Rattle.std.proofs.lemmas.List.{drop_all, take_more}
use Rattle.std.specs.Cow.{cow_str_bytes}
use Rattle.jsonb_spec.specs.Tree.{Mark}
use Rattle.jsonb_core.specs.View.{mark_view}
use Rattle.jsonb.specs.AstView.{Written}
use Rattle.jsonb_spec.specs.Source.{Source, SourceMembers, no_source_members, more_source_members}
use Rattle.jsonb.specs.Source.{source_view, sources_view, source_members_view}
use Rattle.jsonb_spec.specs.Source.Equality.{sources_eq, source_members_eq}
use Rattle.jsonb.specs.declared.parser.ast.JsonAst.{JsonAst, Null}

-- the first row has ended: they are the same where the second has too
pub items_ended : (xs ys : List JsonAst) (i : ℕ) → length xs ≤ i → i ≤ length xs
    → leb (length ys) (length xs) ≡ sources_eq (sources_view (drop i xs)) (sources_view (drop i ys))
items_ended xs ys i h k = elim (cases_lt i (length ys)) [
  | inl goes_on ↦ lt-leb (length ys) (length xs) (omega arith) ∙ rw (drop_all i xs h, drop-cons ys i Null goes_on) refl
  | inr ended ↦ le-leb (length ys) (length xs) (omega arith) ∙ rw (drop_all i xs h, drop_all i ys ended) refl
]

ended_by : (xs ys : List Written) (d : Written) (i : ℕ) → length xs ≤ i → i ≤ length xs
    → leb (length ys) (length xs) ≡ source_members_eq (source_members_view (drop i xs)) (source_members_view (drop i ys))
ended_by xs ys d i h k = elim (cases_lt i (length ys)) [
  | inl goes_on ↦ lt-leb (length ys) (length xs) (omega arith) ∙ rw (drop_all i xs h, drop-cons ys i d goes_on) refl
  | inr ended ↦ le-leb (length ys) (length xs) (omega arith) ∙ rw (drop_all i xs h, drop_all i ys ended) refl
]

pub members_ended : (xs ys : List Written) (i : ℕ) → length xs ≤ i → i ≤ length xs
    → leb (length ys) (length xs) ≡ source_members_eq (source_members_view (drop i xs)) (source_members_view (drop i ys))
members_ended xs [] i h k = le-leb 0 (length xs) (omega arith) ∙ rw (drop_all i xs h, drop-nil i) refl
members_ended xs (y ∷ ys) i h k = ended_by xs (y ∷ ys) y i h k

source_members_push : SourceMembers → Mark → List ℕ → Source → ℕ → SourceMembers
source_members_push no_source_members a k s i = more_source_members a k s i no_source_members
source_members_push (more_source_members b l t j ms) a k s i = more_source_members b l t j (source_members_push ms a k s i)

source_members_view-push : (ms : List Written) (m : Written) → source_members_view (ms ++ m ∷ []) ≡ source_members_push (source_members_view ms) (mark_view m.0) (cow_str_bytes m.0) (source_view m.1) m.2
unfolding source_members_push
source_members_view-push [] m = refl
source_members_view-push (l ∷ ms) m = ap (more_source_members (mark_view l.0) (cow_str_bytes l.0) (source_view l.1) l.2) (source_members_view-push ms m)

-- a copy of the next member joins the copies
pub source_members_view-more : (copies more ms : List Written) (i : ℕ) (c m : Written) → more ≡ copies ++ c ∷ [] → i < length ms → m ≡ get_or ms i m → mark_view c.0 ≡ mark_view m.0 → cow_str_bytes c.0 ≡ cow_str_bytes m.0
    → source_view c.1 ≡ source_view m.1 → c.2 ≡ m.2 → source_members_view copies ≡ source_members_view (take i ms) → source_members_view more ≡ source_members_view (take (i + 1) ms)
source_members_view-more copies more ms i c m pushed within is mark text part index so_far =
    ap source_members_view pushed ∙ source_members_view-push copies c
    ∙ (λ j. source_members_push (so_far j) (mark j) (text j) (part j) (index j))
    ∙ sym (source_members_view-push (take i ms) m)
    ∙ ap (λ x. source_members_view (take i ms ++ x ∷ [])) is
    ∙ ap source_members_view (sym (take_more ms i m within))
