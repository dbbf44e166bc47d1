-- What the child of a value is, and arrays and objects by the first bytes of their keys.
use Rattle.std.proofs.Common.{◌≡◌, ℕ, ◌≤◌, Bool, true, false, List, ◌∷◌, ◌++◌, Option, Some, None, refl, sym, ap, ◌∙◌, arith}
use Rattle.std.specs.Option.{option_and_then}
use Rattle.jsonb_spec.specs.SortKey.Readable.{IsAnyNumber, IsReadable, IsReadableAt}
use Rattle.jsonb_spec.specs.PartAt.{IsChild, child_at, index_named}
use Rattle.jsonb_path.proofs.PartIndex.{names_index}
use Rattle.jsonb_path.proofs.PartsReadBack.{deeper}
use Rattle.jsonb_spec.specs.SortKey.Open.{Open, items, members, is_object, open_key, IsOpen, opening_byte}
use Rattle.jsonb_spec.specs.SortKey.Parts.{opened_tree}
use Rattle.jsonb_spec.specs.Accessors.{item_at}
use Rattle.jsonb_spec.specs.SortKey.{key_of, items_key, members_key, text_key}
use Rattle.jsonb_spec.specs.Tree.{Tree, null, boolean, string, number, array, object, Trees}
use Rattle.jsonb_core.proofs.SortKeys.Kinds.{is_small, number_begins}
use Rattle.jsonb_core.proofs.Trees.Runs.{heads, tails}

-- ---- children

no_tree : (t : Tree) → None ≡ Some t → ⊥
no_tree t e = cc

named_child : (ts : Trees) (name : List ℕ) (u : Tree) (o : Option ℕ) → index_named name ≡ o → option_and_then (item_at ts) o ≡ Some u → IsChild (array ts) name u
named_child ts name u None is e = absurd (no_tree u e)
named_child ts name u (Some i) is e = (i, names_index name i is, e)

pub child_there : (name : List ℕ) (t u : Tree) → child_at name t ≡ Some u → IsChild t name u
child_there name (object ms) u e = e
child_there name (array ts) u e = named_child ts name u (index_named name) refl e
child_there name t u e = absurd (no_tree u e)

-- ---- an array or an object by what is left of it

-- the array or the object whose key begins with this byte
pub record Parent (t : Tree) (b : Bool) (rest more : List ℕ) : Type 0 where
  pub open_there : Open
  pub is : is_object open_there ≡ b
  pub fits : IsOpen open_there 511
  pub occurs : rest ≡ open_key open_there ++ more
  pub whole : opened_tree open_there ≡ t

between : (b : Bool) → (209 ≤ opening_byte b) × (opening_byte b ≤ 210)
between true = (omega arith, omega arith)
between false = (omega arith, omega arith)

pub parent_of : (t : Tree) → IsReadable t → (first : ℕ) (rest bytes more : List ℕ) → bytes ≡ first ∷ rest → bytes ≡ key_of t ++ more → (b : Bool) → first ≡ opening_byte b → Parent t b rest more
parent_of null r first rest bytes more e occurs b is = absurd (omega (arith, is, between b, heads first 211 rest more (sym e ∙ occurs)))
parent_of (boolean true) r first rest bytes more e occurs b is = absurd (omega (arith, is, between b, heads first 22 rest more (sym e ∙ occurs)))
parent_of (boolean false) r first rest bytes more e occurs b is = absurd (omega (arith, is, between b, heads first 21 rest more (sym e ∙ occurs)))
parent_of (string mark text) r first rest bytes more e occurs b is = absurd (omega (arith, is, between b, heads first 208 rest (text_key text ++ more) (sym e ∙ occurs)))
parent_of (number n) r first rest bytes more e occurs b is =
    let x = number_begins n (is_small n r.proper) in
    absurd (omega (arith, is, between b, x.high, heads first x.head rest (x.tail ++ more) (sym e ∙ occurs ∙ ap (λ key. key ++ more) x.is)))
parent_of (array ts) r first rest bytes more e occurs true is = absurd (omega (arith, is, heads first 210 rest (items_key ts ++ more) (sym e ∙ occurs)))
parent_of (array ts) r first rest bytes more e occurs false is = record { open_there = items ts; is = refl; fits = (r.proper, r.within); occurs = tails first 210 rest (items_key ts ++ more) (sym e ∙ occurs); whole = refl }
parent_of (object ms) r first rest bytes more e occurs true is = record { open_there = members ms; is = refl; fits = (r.proper.1, r.within); occurs = tails first 209 rest (members_key ms ++ more) (sym e ∙ occurs); whole = refl }
parent_of (object ms) r first rest bytes more e occurs false is = absurd (omega (arith, is, heads first 209 rest (members_key ms ++ more) (sym e ∙ occurs)))
parent_of t r first rest bytes more e occurs b is = absurd r.within

-- what is one level further in is readable by itself
pub readable_inside : (t : Tree) → IsReadableAt 511 t → IsReadable t
readable_inside t r = record { proper = r.proper; within = deeper IsAnyNumber t 511 r.within }
