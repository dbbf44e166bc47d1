-- Two keys that are walked side by side: what is left of them, and scalars that are equal.
use Rattle.std.proofs.Common.{◌≡◌, ℕ, inl, inr, Bool, true, false, List, ◌++◌, Option, Some, None, Less, Equal, Greater, IsTrue, length, take, drop, nat_eq, refl, sym, ap, ◌∙◌, append_assoc}
use Rattle.std.proofs.Math.Seq.{take-append_seam}
use Rattle.std.proofs.lemmas.List.{append_cancel_left, take-append-drop}
use Rattle.std.specs.Cmp.{tied_itself}
use Rattle.std.specs.Cmp.Lexicographic.{pointwise, nat_list_cmp_total, same_text, other_text}
use Rattle.std.specs.declared.cmp.Ordering.{Ordering}
use Rattle.std.specs.Ordering.{is_eq, ordering_then}
use Rattle.jsonb_spec.specs.SortKey.Readable.{IsReadableAt}
use Rattle.jsonb_spec.specs.Containment.{holds}
use Rattle.jsonb_spec.specs.SortKey.Open.{Open, is_object, open_key, IsOpen, end_key, IsScalar}
use Rattle.key_walk.specs.SideBySide.{EndsWith, IsLeft}
use Rattle.key_walk.proofs.Opens.{no_end}
use Rattle.key_walk.proofs.Occurrence.{over_or_first, regroup, true_false}
use Rattle.jsonb_spec.specs.Order.{bytes_cmp, tree_cmp}
use Rattle.jsonb_spec.specs.SortKey.{key_of}
use Rattle.jsonb_spec.specs.Tree.{Tree, array, object}
use Rattle.jsonb_core.proofs.SortKeys.Trees.{tree_compares, keys_same}
use Rattle.jsonb_spec.specs.Proper.{IsProper}

-- ---- what is reported

pub reported_no : {X : Type 0} (b : Bool) → b ≡ false → (false ≡ b) × (IsTrue b → X)
reported_no b isnt = (sym isnt, λ is. absurd (true_false (sym is ∙ isnt)))

pub reported_yes : {X : Type 0} (b : Bool) → b ≡ true → X → (true ≡ b) × (IsTrue b → X)
reported_yes b is x = (sym is, λ _. x)

pub some_number : (m n : ℕ) → ◌≡◌ {A = Option ℕ} (Some m) (Some n) → m ≡ n
some_number m n e = cc

pub no_number : (n : ℕ) → ◌≡◌ {A = Option ℕ} None (Some n) → ⊥
no_number n e = cc

-- ---- what is left

pub moved_on : (key left part others more : List ℕ) → IsLeft key left (part ++ more) → others ≡ more → IsLeft key others more
moved_on key left part others more l is = record { ends = (l.ends.0 ++ part, l.ends.1 ∙ sym (append_assoc l.ends.0 part more)); is = is }

-- behind a part by which it begins in two ways
pub passed : (key left bytes part others more : List ℕ) → IsLeft key left bytes → left ≡ part ++ more → left ≡ part ++ others → IsLeft key others more
passed key left bytes part others more l occurs cut = record {
  ends = (l.ends.0 ++ part, l.ends.1 ∙ ap (λ b. l.ends.0 ++ b) (sym l.is ∙ occurs) ∙ sym (append_assoc l.ends.0 part more));
  is = append_cancel_left part others more (sym cut ∙ occurs);
}

pub same_end : (key other bytes : List ℕ) → other ≡ key → EndsWith key bytes → EndsWith other bytes
same_end key other bytes is e = (e.0, is ∙ e.1)

pub same_key : (key other left bytes : List ℕ) → other ≡ key → IsLeft key left bytes → IsLeft other left bytes
same_key key other left bytes is l = record { ends = same_end key other bytes is l.ends; is = l.is }

-- where an end is first, nothing is left
pub ended_here : (of_object : Bool) (o : Open) (bytes rest more : List ℕ) → is_object o ≡ of_object → IsOpen o 511 → bytes ≡ open_key o ++ more → bytes ≡ end_key of_object ++ rest → open_key o ≡ end_key of_object
ended_here of_object o bytes rest more is h e over = elim (over_or_first o h) [
  | inl x ↦ x.0 ∙ ap end_key is
  | inr n ↦ absurd (no_end (is_object o) n.name n.value 512 n.readable bytes rest (open_key n.others ++ more) (over ∙ ap (λ b. end_key b ++ rest) (sym is)) (e ∙ ap (λ key. key ++ more) n.is ∙ regroup _ (key_of n.value) (open_key n.others) more))
]

pub end_behind : (of_object : Bool) (o : Open) (bytes rest more : List ℕ) → is_object o ≡ of_object → IsOpen o 511 → bytes ≡ open_key o ++ more → bytes ≡ end_key of_object ++ rest → rest ≡ more
end_behind of_object o bytes rest more is h e over =
    append_cancel_left (end_key of_object) rest more (sym over ∙ e ∙ ap (λ key. key ++ more) (ended_here of_object o bytes rest more is h e over))

-- ---- scalars that are equal

first_ties : (r s : Ordering) → ordering_then r s ≡ Equal → r ≡ Equal
first_ties Less s e = e
first_ties Equal s e = refl
first_ties Greater s e = e

-- bytes that begin with the keys of two values
pub one_key : (t u : Tree) → IsProper t → IsProper u → (more rest : List ℕ) → key_of t ++ more ≡ key_of u ++ rest → (tree_cmp t u ≡ Equal) × (rest ≡ more)
one_key t u p q more rest e =
    let ties : bytes_cmp (key_of t ++ more) (key_of u ++ rest) ≡ Equal = ap (bytes_cmp (key_of t ++ more)) (sym e) ∙ tied_itself nat_list_cmp_total (key_of t ++ more) in
    let same = first_ties (tree_cmp t u) (bytes_cmp more rest) (sym ((tree_compares t u p q).compared more rest) ∙ ties) in
    (same, append_cancel_left (key_of u) rest more (sym e ∙ ap (λ key. key ++ more) ((keys_same t u p q).1 same)))

-- a scalar is held by an equal one
pub scalar_holds : (t u : Tree) → IsScalar u → holds t u ≡ is_eq (tree_cmp t u)
scalar_holds (object ms) (object ns) s = absurd s
scalar_holds (object ms) (array us) s = absurd s
scalar_holds (object ms) u s = refl
scalar_holds (array ts) (object ns) s = absurd s
scalar_holds (array ts) (array us) s = absurd s
scalar_holds (array ts) u s = refl
scalar_holds t u s = refl

not_equal : (r : Ordering) → (r ≡ Equal → ⊥) → is_eq r ≡ false
not_equal Less n = refl
not_equal Equal n = absurd (n refl)
not_equal Greater n = refl

pub record Stripped (t u : Tree) (rest more : List ℕ) : Type 0 where
  pub held : holds t u ≡ true
  pub behind : rest ≡ more

-- the bytes begin with the key of the scalar
pub stripped : (t u : Tree) (d e : ℕ) → IsReadableAt d t → IsReadableAt e u → IsScalar u → (ours wanted rest more : List ℕ) → ours ≡ key_of t ++ more → wanted ≡ key_of u
    → pointwise nat_eq (take (length wanted) ours) wanted ≡ true → rest ≡ drop (length wanted) ours → Stripped t u rest more
stripped t u d e p q s ours wanted rest more occurs is found behind =
    let front = same_text (take (length wanted) ours) wanted (sym found) in
    let cut : ours ≡ key_of u ++ rest = sym (take-append-drop (length wanted) ours) ∙ (λ i. (front ∙ is) i ++ sym behind i) in
    let one = one_key t u p.proper q.proper more rest (sym occurs ∙ cut) in
    record { held = scalar_holds t u s ∙ ap is_eq one.0; behind = one.1 }

-- they begin with another key
pub not_stripped : (t u : Tree) (d e : ℕ) → IsReadableAt d t → IsReadableAt e u → IsScalar u → (ours wanted more : List ℕ) → ours ≡ key_of t ++ more → wanted ≡ key_of u
    → pointwise nat_eq (take (length wanted) ours) wanted ≡ false → holds t u ≡ false
not_stripped t u d e p q s ours wanted more occurs is none =
    scalar_holds t u s ∙ not_equal (tree_cmp t u) (λ same.
    let keys : key_of t ≡ wanted = (keys_same t u p.proper q.proper).1 same ∙ sym is in
    let front : take (length wanted) ours ≡ wanted = ap (take (length wanted)) (occurs ∙ ap (λ key. key ++ more) keys) ∙ take-append_seam wanted more in
    absurd (other_text (take (length wanted) ours) wanted (sym none) front))
