-- Lines compare as their values do, or as the parts that they are sorted by.
use Rattle.std.proofs.Common.{◌≡◌, ℕ, suc, ◌+◌, ◌<◌, Bool, true, false, List, [], ◌∷◌, ◌++◌, Option, Some, None, if◌then◌else◌, IfSome, refl, sym, ap, subst, ◌∙◌, arith, append-nil}
use Rattle.std.specs.List.{AllZip, flat_map}
use Rattle.std.specs.Ordering.{MatchOrdering, nat_cmp, ordering_reverse, ordering_then}
use Rattle.std.specs.declared.cmp.Ordering.{Ordering}
use Rattle.std.specs.declared.cmp.Ordering.TheVariants.{Less, Equal, Greater}
use Rattle.jsonb_spec.specs.Order.{bytes_cmp, tree_cmp}
use Rattle.jsonb_spec.specs.Proper.{IsProper}
use Rattle.jsonb_spec.specs.Tree.{Tree}
use Rattle.jsonb_spec.specs.SortKey.{key_of}
use Rattle.jsonb_spec.specs.Grammar.{max_depth}
use Rattle.jsonb_spec.specs.PartAt.{part_at}
use Rattle.jsonb_core.proofs.SortKeys.Comparing.{Compares, byte_above, byte_below, byte_then, is_equal, is_greater, is_less, nothing, ranks, same_bytes, then_compares}
use Rattle.jsonb_core.proofs.SortKeys.Kinds.{begins}
use Rattle.jsonb_core.proofs.SortKeys.Trees.{keys_order, tree_compares}
use Rattle.jsonb.proofs.Documents.Bounds.{document_proper}
use Rattle.vjson_text.specs.Texts.{IsTextOf}
use Rattle.text_scan.specs.Answer.{grammar_of}
use Rattle.text_scan.specs.declared.parser.Grammar.{Grammar}
use Rattle.vjson_run.proofs.PartKeys.{IsSound, part_sound, text_sound}
use Rattle.vjson_run.specs.Keys.{IsKeyBy, IsKeyOf, IsPiece, by_part, by_parts, sort_cmp}
use Rattle.jsonb_spec.specs.Program.Keys.{IsTurned, keys_of, part_cmp, part_key}
use Rattle.vjson_run.specs.Lines.{IsLineOf, line_cmp}
use Rattle.vjson_run.specs.declared.lines.Line.{Line}
use Rattle.vjson_run.specs.declared.options.Options.{Options}
use Rattle.vjson_run.specs.declared.options.Part.{Part}

-- the tree of a text is well-formed
pub text_proper : (g : Grammar) (text : List ℕ) (t : Tree) → IsTextOf g text t → IsProper t
text_proper g text t h = document_proper (grammar_of g) text t h

pub as_values : (g : Grammar) (l m : Line) (t u : Tree) → IsLineOf g l t → IsLineOf g m u → line_cmp l m ≡ tree_cmp t u
as_values g l m t u first second =
    ap (λ k. bytes_cmp k m.key.items) first.1 ∙ ap (λ k. bytes_cmp (key_of t) k) second.1
    ∙ keys_order t u (text_proper g l.text.items t first.0) (text_proper g m.text.items u second.0)

-- ---- bytes turned round

then_equal : (r : Ordering) → ordering_then r Equal ≡ r
then_equal Less = refl
then_equal Equal = refl
then_equal Greater = refl

-- two lists that end compare so
at_end : (a b : List ℕ) (r : Ordering) → Compares a b r → bytes_cmp a b ≡ r
at_end a b r h = ap (λ l. bytes_cmp l b) (sym (append-nil a)) ∙ ap (bytes_cmp (a ++ [])) (sym (append-nil b)) ∙ h.compared [] [] ∙ then_equal r

-- a list never compares so with one that goes on
no_front : (k : ℕ) (b : List ℕ) (r : Ordering) → Compares [] (k ∷ b) r → ⊥
no_front k b r h =
    let less : r ≡ Less = sym (at_end [] (k ∷ b) r h) in
    let more : ordering_then (nat_cmp (suc k) k) (bytes_cmp [] (b ++ [])) ≡ ordering_then r (bytes_cmp (suc k ∷ []) []) = h.compared (suc k ∷ []) [] in
    other (ap (λ o. ordering_then o (bytes_cmp [] (b ++ []))) (sym (is_greater (suc k) k (omega arith))) ∙ more ∙ ap (λ o. ordering_then o Greater) less)
  where
    other : Greater ≡ Less → ⊥
    other e = cc

no_back : (k : ℕ) (b : List ℕ) (r : Ordering) → Compares (k ∷ b) [] r → ⊥
no_back k b r h =
    let greater : r ≡ Greater = sym (at_end (k ∷ b) [] r h) in
    let more : ordering_then (nat_cmp k (suc k)) (bytes_cmp (b ++ []) []) ≡ ordering_then r (bytes_cmp [] (suc k ∷ [])) = h.compared [] (suc k ∷ []) in
    other (ap (λ o. ordering_then o (bytes_cmp (b ++ []) [])) (sym (is_less k (suc k) (omega arith))) ∙ more ∙ ap (λ o. ordering_then o Less) greater)
  where
    other : Less ≡ Greater → ⊥
    other e = cc

abbrev Turned : List ℕ → List ℕ → Type 0
Turned key bytes = AllZip (λ byte turned. byte + turned ≡ 255) key bytes

turned_compares : (a b x y : List ℕ) (r : Ordering) → Turned a x → Turned b y → Compares a b r → Compares x y (ordering_reverse r)
turned_compares [] [] [] [] r h k c = subst (λ o. Compares [] [] (ordering_reverse o)) (at_end [] [] r c) nothing
turned_compares [] [] [] (n ∷ y) r h k c = absurd k
turned_compares [] [] (m ∷ x) y r h k c = absurd h
turned_compares [] (j ∷ b) x y r h k c = absurd (no_front j b r c)
turned_compares (i ∷ a) [] x y r h k c = absurd (no_back i a r c)
turned_compares (i ∷ a) (j ∷ b) [] y r h k c = absurd h
turned_compares (i ∷ a) (j ∷ b) (m ∷ x) [] r h k c = absurd k
turned_compares (i ∷ a) (j ∷ b) (m ∷ x) (n ∷ y) r h k c = by (nat_cmp i j) refl (ranks i j) (turned_compares a b x y r h.1 k.1)
  where
    first : (o : Ordering) → nat_cmp i j ≡ o → ordering_then o (bytes_cmp a b) ≡ r
    first o is = ap (λ p. ordering_then p (bytes_cmp a b)) (sym is) ∙ at_end (i ∷ a) (j ∷ b) r c

    by : (o : Ordering) → nat_cmp i j ≡ o → MatchOrdering o (i < j) (i ≡ j) (j < i) → (Compares a b r → Compares x y (ordering_reverse r)) → Compares (m ∷ x) (n ∷ y) (ordering_reverse r)
    by Less is below others = subst (λ o. Compares (m ∷ x) (n ∷ y) (ordering_reverse o)) (first Less is) (byte_above m n x y (omega (arith, below, h.0, k.0)))
    by Greater is above others = subst (λ o. Compares (m ∷ x) (n ∷ y) (ordering_reverse o)) (first Greater is) (byte_below m n x y (omega (arith, above, h.0, k.0)))
    by Equal is same others =
        let rest : Compares a b r = record { compared = λ v w. ap (λ o. ordering_then o (bytes_cmp (a ++ v) (b ++ w))) (sym is) ∙ c.compared v w } in
        byte_then m n x y Equal (ordering_reverse r) (is_equal m n (omega (arith, same, h.0, k.0))) (others rest)

-- ---- keys by parts

parts_compare : (t u : Option Tree) → IfSome t IsProper → IfSome u IsProper → Compares (part_key t) (part_key u) (part_cmp t u)
parts_compare None None p q = same_bytes (0 ∷ [])
parts_compare None (Some u) p q =
    let x = begins u q in
    rw x.is (byte_below 0 x.head [] x.tail x.above)
parts_compare (Some t) None p q =
    let x = begins t p in
    rw x.is (byte_above x.head 0 x.tail [] x.above)
parts_compare (Some t) (Some u) p q = tree_compares t u p q

-- what is there in a tree is well-formed
part_proper : (t : Tree) (keys : List (List ℕ)) → IsSound max_depth t → IfSome (part_at keys t) IsProper
part_proper t keys s = by (part_at keys t) refl
  where
    by : (o : Option Tree) → part_at keys t ≡ o → IfSome o IsProper
    by None is = tt
    by (Some part) is = (part_sound keys t part max_depth is s).1

piece_compares : (t u : Tree) (part : Part) (x y : List ℕ) → IsSound max_depth t → IsSound max_depth u → IsPiece t part x → IsPiece u part y → Compares x y (by_part part t u)
piece_compares t u part x y p q h k = by part.down h k
  where
    keys : List (List ℕ)
    keys = keys_of part.path

    both : Compares (part_key (part_at keys t)) (part_key (part_at keys u)) (part_cmp (part_at keys t) (part_at keys u))
    both = parts_compare (part_at keys t) (part_at keys u) (part_proper t keys p) (part_proper u keys q)

    by : (down : Bool) → IsTurned down (part_key (part_at keys t)) x → IsTurned down (part_key (part_at keys u)) y
        → Compares x y (if down then ordering_reverse (part_cmp (part_at keys t) (part_at keys u)) else part_cmp (part_at keys t) (part_at keys u))
    by true h k = turned_compares (part_key (part_at keys t)) (part_key (part_at keys u)) x y (part_cmp (part_at keys t) (part_at keys u)) h k both
    by false h k = rw (h, k) both

pieces_compare : (t u : Tree) (parts : List Part) (xs ys : List (List ℕ)) → IsSound max_depth t → IsSound max_depth u → AllZip (IsPiece t) parts xs → AllZip (IsPiece u) parts ys
    → Compares (flat_map (λ piece. piece) xs) (flat_map (λ piece. piece) ys) (by_parts parts t u)
pieces_compare t u [] [] [] p q h k = nothing
pieces_compare t u [] [] (y ∷ ys) p q h k = absurd k
pieces_compare t u [] (x ∷ xs) ys p q h k = absurd h
pieces_compare t u (part ∷ parts) [] ys p q h k = absurd h
pieces_compare t u (part ∷ parts) (x ∷ xs) [] p q h k = absurd k
pieces_compare t u (part ∷ parts) (x ∷ xs) (y ∷ ys) p q h k =
    then_compares x y (flat_map (λ piece. piece) xs) (flat_map (λ piece. piece) ys) (by_part part t u) (by_parts parts t u)
    (piece_compares t u part x y p q h.0 k.0) (pieces_compare t u parts xs ys p q h.1 k.1)

keys_by : (counts : Bool) (parts : List Part) (t u : Tree) (k l : List ℕ) → IsSound max_depth t → IsSound max_depth u → IsKeyBy counts parts t k → IsKeyBy counts parts u l → bytes_cmp k l ≡ sort_cmp counts parts t u
keys_by true [] t u k l p q h i = ap (λ x. bytes_cmp x l) h ∙ ap (bytes_cmp []) i
keys_by false [] t u k l p q h i = ap (λ x. bytes_cmp x l) h ∙ ap (bytes_cmp (key_of t)) i ∙ keys_order t u p.1 q.1
keys_by counts (part ∷ parts) t u k l p q h i =
    ap (λ x. bytes_cmp x l) h.2 ∙ ap (bytes_cmp (flat_map (λ piece. piece) h.0)) i.2
    ∙ at_end (flat_map (λ piece. piece) h.0) (flat_map (λ piece. piece) i.0) (by_parts (part ∷ parts) t u) (pieces_compare t u (part ∷ parts) h.0 i.0 p q h.1 i.1)

pub as_asked : (o : Options) (x y k l : List ℕ) (h : IsKeyOf o x k) (i : IsKeyOf o y l) → bytes_cmp k l ≡ sort_cmp o.count o.by.items h.tree i.tree
as_asked o x y k l h i = keys_by o.count o.by.items h.tree i.tree k l (text_sound o.grammar x h.tree h.is_text) (text_sound o.grammar y i.tree i.is_text) h.is_key i.is_key
