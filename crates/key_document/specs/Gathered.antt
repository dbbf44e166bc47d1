-- Names that are looked for: some are in a set, and the others are left.
use Rattle.std.specs.Prelude.{◌≡◌, ℕ, Bool, ◌||◌, List}
use Rattle.std.specs.Borrow.{Bor}
use Rattle.std.specs.BTreeSet.{BTreeSet, contains_by}
use Rattle.jsonb_spec.specs.Edit.LeftOut.{has_name}
use Rattle.jsonb_spec.specs.Order.{bytes_cmp}
use Rattle.jsonb_spec.specs.SortKey.{members_key, text_key}
use Rattle.jsonb_spec.specs.SortKey.Checked.{HaveReadable}
use Rattle.jsonb_spec.specs.Tree.{Members}

-- A text is one of the names where it is there, or one of those that are left.
pub record NamesAhead (there : Bool) (bytes : List ℕ) (ns : Members) (left : List ℕ) : Type 0 where
  pub names : Members
  pub readable : HaveReadable names
  pub left_is : left ≡ members_key names
  pub same : has_name bytes ns ≡ (there || has_name bytes names)

-- Each of the names is in the set, by its key, or is left.
abbrev pub AreGathered : Members → BTreeSet (Bor (List ℕ)) → List ℕ → Type 0
AreGathered ns set left =
    (bytes : List ℕ) → NamesAhead (contains_by (λ key. bytes_cmp (text_key bytes) key.now) set) bytes ns left
