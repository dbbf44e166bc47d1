-- Texts that are in order aren't out of order.
use Rattle.std.proofs.Common.{◌≡◌, inl, inr, ℕ, suc, ◌+◌, Bool, true, false, true≢false, List, [], ◌∷◌, ◌++◌, get_or, Ordering, Less, Equal, Greater, is_lt, refl, sym, ap, subst, ◌∙◌, arith}
use Rattle.std.proofs.lemmas.List.Elements.{AllZip-get_or}
use Rattle.std.specs.List.{AllZip, flat_map}
use Rattle.std.specs.List.Sorted.{IsSorted, IsStrictlySortedBy}
use Rattle.std.specs.Ordering.{is_le, ordering_reverse}
use Rattle.jsonb_spec.specs.PartAt.{part_at}
use Rattle.jsonb_spec.specs.Tree.{Tree}
use Rattle.jsonb.proofs.Documents.Encodings.{document_unique}
use Rattle.vjson_text.specs.Texts.{IsNoTextOf, IsTextOf}
use Rattle.text_scan.specs.Answer.{grammar_of}
use Rattle.text_scan.specs.declared.parser.Grammar.{Grammar}
use Rattle.vjson_run.proofs.InOrder.{turned}
use Rattle.vjson_run.specs.Keys.{IsKeyBy, IsKeyOf, IsPiece}
use Rattle.jsonb_spec.specs.Program.Keys.{IsTurned, keys_of, part_key}
use Rattle.jsonb_spec.specs.Program.InOrder.{key_order, Ascend, may_follow}
use Rattle.vjson_run.specs.InOrder.{AreOutOfOrder, AreInOrder}
use Rattle.vjson_run.specs.declared.options.Options.{Options}
use Rattle.vjson_run.specs.declared.options.Part.{Part}

-- ---- a text has one key

one_tree : (g : Grammar) (text : List ℕ) (t u : Tree) → IsTextOf g text t → IsTextOf g text u → t ≡ u
one_tree g text t u h k = document_unique (grammar_of g) text t u h k

turned_same : (key a b : List ℕ) → AllZip (λ byte turned. byte + turned ≡ 255) key a → AllZip (λ byte turned. byte + turned ≡ 255) key b → a ≡ b
turned_same [] [] [] h k = refl
turned_same [] [] (y ∷ b) h k = absurd k
turned_same [] (x ∷ a) b h k = absurd h
turned_same (byte ∷ key) [] b h k = absurd h
turned_same (byte ∷ key) (x ∷ a) [] h k = absurd k
turned_same (byte ∷ key) (x ∷ a) (y ∷ b) h k =
    let same : x ≡ y = omega (arith, h.0, k.0) in
    ap (λ n. n ∷ a) same ∙ ap (λ l. y ∷ l) (turned_same key a b h.1 k.1)

piece_same : (down : Bool) (key a b : List ℕ) → IsTurned down key a → IsTurned down key b → a ≡ b
piece_same false key a b h k = h ∙ sym k
piece_same true key a b h k = turned_same key a b h k

pieces_same : (t : Tree) (parts : List Part) (ps qs : List (List ℕ)) → AllZip (IsPiece t) parts ps → AllZip (IsPiece t) parts qs → ps ≡ qs
pieces_same t [] [] [] h k = refl
pieces_same t [] [] (b ∷ qs) h k = absurd k
pieces_same t [] (a ∷ ps) qs h k = absurd h
pieces_same t (part ∷ parts) [] qs h k = absurd h
pieces_same t (part ∷ parts) (a ∷ ps) [] h k = absurd k
pieces_same t (part ∷ parts) (a ∷ ps) (b ∷ qs) h k =
    ap (λ x. x ∷ ps) (piece_same part.down (part_key (part_at (keys_of part.path) t)) a b h.0 k.0) ∙ ap (λ l. b ∷ l) (pieces_same t parts ps qs h.1 k.1)

by_same : (counts : Bool) (parts : List Part) (t : Tree) (k l : List ℕ) → IsKeyBy counts parts t k → IsKeyBy counts parts t l → k ≡ l
by_same counts [] t k l h i = h ∙ sym i
by_same counts (part ∷ parts) t k l h i = h.2 ∙ ap (flat_map (λ piece. piece)) (pieces_same t (part ∷ parts) h.0 i.0 h.1 i.1) ∙ sym i.2

one_key : (o : Options) (text k l : List ℕ) → IsKeyOf o text k → IsKeyOf o text l → k ≡ l
one_key o text k l h i = by_same o.count o.by.items i.tree k l (subst (λ t. IsKeyBy o.count o.by.items t k) (one_tree o.grammar text h.tree i.tree h.is_text i.is_text) h.is_key) i.is_key

-- a text with a key is one of the grammar
is_one : (o : Options) (text key : List ℕ) → IsKeyOf o text key → IsNoTextOf o.grammar text → ⊥
is_one o text key h rejected = rejected h.tree h.is_text

-- ---- neighbours in order

not_above : (r : Ordering) → is_lt (ordering_reverse r) ≡ false → is_le r ≡ true
not_above Less h = refl
not_above Equal h = refl
not_above Greater h = cc

below : (r : Ordering) → r ≡ Less → is_lt r ≡ true
below r e = ap is_lt e

sorted_tail : {K : Type 0} (R : K → K → Ordering) (k : K) (keys : List K) → IsSorted R (k ∷ keys) → IsSorted R keys
sorted_tail R k keys up i d low within =
    let next : suc i + 1 ≡ suc (i + 1) = omega arith in
    ap (λ (n : ℕ). is_lt (R (get_or (k ∷ keys) n d) (get_or keys i d))) (sym next) ∙ up (suc i) d (omega arith) (omega (arith, within))

ascend_tail : (down unique : Bool) (k : List ℕ) (keys : List (List ℕ)) → Ascend down unique (k ∷ keys) → Ascend down unique keys
unfolding IsStrictlySortedBy
ascend_tail down false k keys up = sorted_tail (key_order down) k keys up
ascend_tail down true k keys up = up.1

first_two : (down unique : Bool) (k l : List ℕ) (keys : List (List ℕ)) → Ascend down unique (k ∷ l ∷ keys) → may_follow down unique k l ≡ true
unfolding IsStrictlySortedBy
first_two down false k l keys up = not_above (key_order down k l) (ap is_lt (sym (turned down k l)) ∙ up 0 k (omega arith) (omega arith))
first_two down true k l keys up = below (key_order down k l) up.0.0

-- the keys of two neighbours
record HasNeighbours (o : Options) (x y : List ℕ) : Type 0 where
  key : List ℕ
  other : List ℕ
  is_key : IsKeyOf o x key
  is_other : IsKeyOf o y other
  follows : may_follow o.reverse o.unique key other ≡ true

neighbours : (o : Options) (front : List (List ℕ)) (x y : List ℕ) (back keys : List (List ℕ)) → AllZip (IsKeyOf o) (front ++ x ∷ y ∷ back) keys → Ascend o.reverse o.unique keys → HasNeighbours o x y
neighbours o [] x y back [] all up = absurd all
neighbours o [] x y back (k ∷ []) all up = absurd all.1
neighbours o [] x y back (k ∷ l ∷ keys) all up = record { key = k; other = l; is_key = all.0; is_other = all.1.0; follows = first_two o.reverse o.unique k l keys up }
neighbours o (a ∷ front) x y back [] all up = absurd all
neighbours o (a ∷ front) x y back (k ∷ keys) all up = neighbours o front x y back keys all.1 (ascend_tail o.reverse o.unique k keys up)

follows_or_not : (b : Bool) → b ≡ true → b ≡ false → ⊥
follows_or_not b p q = true≢false (sym p ∙ q)

in_order_not_wrong : (o : Options) (texts keys : List (List ℕ)) → AllZip (IsKeyOf o) texts keys → Ascend o.reverse o.unique keys → AreOutOfOrder o texts → ⊥
in_order_not_wrong o texts keys all up h =
    let n = neighbours o h.front h.first h.second h.back keys (subst (λ l. AllZip (IsKeyOf o) l keys) h.split all) up in
    let first = one_key o h.first n.key h.first_key n.is_key h.is_first in
    let second = one_key o h.second n.other h.second_key n.is_other h.is_second in
    follows_or_not (may_follow o.reverse o.unique h.first_key h.second_key)
    (subst (λ k. may_follow o.reverse o.unique h.first_key k ≡ true) second (subst (λ k. may_follow o.reverse o.unique k n.other ≡ true) first n.follows)) h.wrong

pub one_answer : (o : Options) (texts : List (List ℕ)) → AreInOrder o texts true → AreInOrder o texts false → ⊥
one_answer o texts (keys, all, up) (inl (i, text, inside, is, none)) =
    is_one o text (get_or keys i []) (subst (λ x. IsKeyOf o x (get_or keys i [])) is (AllZip-get_or (IsKeyOf o) texts keys i text [] all inside)) none
one_answer o texts (keys, all, up) (inr wrong) = in_order_not_wrong o texts keys all up wrong
