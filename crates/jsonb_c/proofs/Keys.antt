-- The sort key of a text's tree, and how it compares with those of other texts.
use Rattle.std.proofs.Common.{◌≡◌, ℕ, ℤ, List, ◌++◌, sym, ap, subst, ◌∙◌}
use Rattle.std.specs.FinMap.{nat_cmp-IsAntisymmetric, slice_cmp-IsAntisymmetric}
use Rattle.std.specs.declared.cmp.Ordering.TheVariants.{Equal}
use Rattle.jsonb_spec.specs.Grammar.{IsDocument}
use Rattle.jsonb_spec.specs.Order.{bytes_cmp, tree_cmp}
use Rattle.jsonb_spec.specs.SortKey.{key_of}
use Rattle.jsonb_spec.specs.Tree.{Tree}
use Rattle.jsonb_core.proofs.SortKeys.Trees.{keys_order, keys_no_front}
use Rattle.jsonb.proofs.Documents.Bounds.{document_proper}
use Rattle.jsonb_spec.specs.Interface.{sign, IsDocumentOf, IsKeyOf, IsOrdered, IsTextOf}
use Rattle.jsonb_c.proofs.Reasons.{one_mode}
use Rattle.jsonb_c.proofs.Parts.{one_tree}

pub key_is : (number : ℕ) (text bytes : List ℕ) (tree : Tree) → IsDocumentOf number text tree → bytes ≡ key_of tree → IsKeyOf number text bytes
key_is number text bytes tree read is_key =
    let proper = document_proper read.mode text tree read.document in
    record {
      tree = tree;
      read = read;
      is_key = is_key;
      ordered = λ mode other t document. ap (λ key. bytes_cmp key (key_of t)) is_key ∙ keys_order tree t proper (document_proper mode other t document);
      no_front = λ mode other t document more e. keys_no_front tree t proper (document_proper mode other t document) more (e ∙ ap (λ key. key ++ more) is_key);
    }

-- the key of what is written of a text is that of the text
pub key_of_form : (number : ℕ) (text form key : List ℕ) → IsTextOf number text form → IsKeyOf number form key → IsKeyOf number text key
key_of_form number text form key t k =
    let mode = t.read.mode in
    let back = t.reads_back in
    let first : back.tree ≡ k.tree = k.read.only back.tree (subst (λ m. IsDocument m form back.tree) (one_mode t.read.chosen k.read.chosen) back.document) in
    let equal : bytes_cmp (key_of back.tree) (key_of t.tree) ≡ Equal =
    keys_order back.tree t.tree (document_proper mode form back.tree back.document) (document_proper mode text t.tree t.read.document) ∙ back.same in
    key_is number text key t.tree t.read (k.is_key ∙ ap key_of (sym first) ∙ slice_cmp-IsAntisymmetric nat_cmp-IsAntisymmetric (key_of back.tree) (key_of t.tree) equal)

-- the keys of two texts compare as their trees do
pub keys_ordered : (number : ℕ) (left right key other : List ℕ) (order : ℤ) → IsOrdered number left right order → IsKeyOf number left key → IsKeyOf number right other → order ≡ sign (bytes_cmp key other)
keys_ordered number left right key other order o k l =
    let first : o.first ≡ k.tree = one_tree number left o.first k.tree o.first_read k.read in
    let second : o.second ≡ l.tree = one_tree number right o.second l.tree o.second_read l.read in
    o.ordered ∙ (λ i. sign (tree_cmp (first i) (second i))) ∙ ap sign (sym (k.ordered l.read.mode right l.tree l.read.document)) ∙ ap (λ bytes. sign (bytes_cmp key bytes)) (sym l.is_key)
