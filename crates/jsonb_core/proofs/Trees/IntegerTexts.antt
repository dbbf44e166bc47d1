-- Trees of integers that are the same have one text.
use Rattle.std.proofs.Common.{[], ◌∷◌, ◌≡◌, ℕ, zero, suc, ◌<◌, ◌^◌, ◌++◌, true, false, Equal, refl, sym, ap, ◌∙◌, arith, pos, ◌*ℤ◌}
use Rattle.std.specs.Ordering.{ordering_then}
use Rattle.jsonb_spec.specs.Text.NumberText.{text_of_parts, number_text}
use Rattle.jsonb_spec.specs.Order.{num_cmp, bytes_cmp, tree_cmp, trees_cmp, members_cmp, rank}
use Rattle.jsonb_spec.specs.Text.Range.{IsWithin, AreWithin, HaveWithin}
use Rattle.jsonb_spec.specs.Text.StringText.{quoted_text}
use Rattle.jsonb_spec.specs.Text.{tree_text, with_commas, item_texts, member_texts}
use Rattle.jsonb_spec.specs.Tree.{Num, Tree, null, boolean, string, number, array, object, Trees, no_trees, more_trees, Members, no_members, more_members}
use Rattle.jsonb_core.proofs.Order.ByContent.{same_bytes, both_tie, by_content}
use Rattle.jsonb_core.proofs.Numbers.Nearest.{multiple_injective}

-- a number with no digits behind its point
abbrev pub IsUnscaled : Num → Type 0
IsUnscaled n = n.scale ≡ 0

same_number_text : (m n : Num) → IsUnscaled m → IsUnscaled n → num_cmp m n ≡ Equal → number_text m ≡ number_text n
same_number_text m n v w same =
    let crossed : m.whole *ℤ pos (10 ^ n.scale) ≡ n.whole *ℤ pos (10 ^ m.scale) = (by_content.numbers m n).1.0 same in
    let brought : m.whole *ℤ pos 1 ≡ n.whole *ℤ pos 1 = ap (λ (s : ℕ). m.whole *ℤ pos (10 ^ s)) (sym w) ∙ crossed ∙ ap (λ (s : ℕ). n.whole *ℤ pos (10 ^ s)) v in
    let wholes = multiple_injective m.whole n.whole 1 (omega arith) brought in
    let scales : m.scale ≡ n.scale = v ∙ sym w in
    λ i. text_of_parts (scales i) (wholes i)

-- the kinds of JSON are above the others
is_json : (t : Tree) (depth : ℕ) → IsWithin IsUnscaled t depth → 4 < rank t
is_json null depth w = omega arith
is_json (boolean b) depth w = omega arith
is_json (string mark bytes) depth w = omega arith
is_json (number n) depth w = omega arith
is_json (array ts) depth w = omega arith
is_json (object ms) depth w = omega arith
is_json t depth w = absurd w

mutual
  pub same_tree_text : (t u : Tree) (d e : ℕ) → IsWithin IsUnscaled t d → IsWithin IsUnscaled u e → tree_cmp t u ≡ Equal → tree_text t ≡ tree_text u
  same_tree_text null null d e w v same = refl
  same_tree_text (boolean true) (boolean true) d e w v same = refl
  same_tree_text (boolean false) (boolean false) d e w v same = refl
  same_tree_text (boolean true) (boolean false) d e w v same = cc
  same_tree_text (boolean false) (boolean true) d e w v same = cc
  same_tree_text (string mark xs) (string other ys) d e w v same = ap quoted_text ((same_bytes xs ys).0 same)
  same_tree_text (number m) (number n) d e w v same = same_number_text m n w v same
  same_tree_text (array ts) (array us) zero e w v same = absurd w
  same_tree_text (array ts) (array us) (suc d) zero w v same = absurd v
  same_tree_text (array ts) (array us) (suc d) (suc e) w v same = ap (λ parts. 91 ∷ with_commas parts ++ 93 ∷ []) (same_item_texts ts us d e w v same)
  same_tree_text (object ms) (object ns) zero e w v same = absurd w
  same_tree_text (object ms) (object ns) (suc d) zero w v same = absurd v
  same_tree_text (object ms) (object ns) (suc d) (suc e) w v same = ap (λ parts. 123 ∷ with_commas parts ++ 125 ∷ []) (same_member_texts ms ns d e w v same)
  same_tree_text t u d e w v same = absurd (omega (arith, by_content.one_kind t u same, is_json t d w, is_json u e v))

  same_item_texts : (ts us : Trees) (d e : ℕ) → AreWithin IsUnscaled ts d → AreWithin IsUnscaled us e → trees_cmp ts us ≡ Equal → item_texts ts ≡ item_texts us
  same_item_texts no_trees no_trees d e w v same = refl
  same_item_texts no_trees (more_trees u us) d e w v same = cc
  same_item_texts (more_trees t ts) no_trees d e w v same = cc
  same_item_texts (more_trees t ts) (more_trees u us) d e w v same =
      let parts = both_tie (tree_cmp t u) (trees_cmp ts us) same in
      let first = same_tree_text t u d e w.0 v.0 parts.0 in
      let others = same_item_texts ts us d e w.1 v.1 parts.1 in
      λ i. first i ∷ others i

  same_member_texts : (ms ns : Members) (d e : ℕ) → HaveWithin IsUnscaled ms d → HaveWithin IsUnscaled ns e → members_cmp ms ns ≡ Equal → member_texts ms ≡ member_texts ns
  same_member_texts no_members no_members d e w v same = refl
  same_member_texts no_members (more_members l u ns) d e w v same = cc
  same_member_texts (more_members k t ms) no_members d e w v same = cc
  same_member_texts (more_members k t ms) (more_members l u ns) d e w v same =
      let keys = both_tie (bytes_cmp k l) (ordering_then (tree_cmp t u) (members_cmp ms ns)) same in
      let parts = both_tie (tree_cmp t u) (members_cmp ms ns) keys.1 in
      let name = (same_bytes k l).0 keys.0 in
      let first = same_tree_text t u d e w.0 v.0 parts.0 in
      let others = same_member_texts ms ns d e w.1 v.1 parts.1 in
      λ i. (quoted_text (name i) ++ 58 ∷ first i) ∷ others i
