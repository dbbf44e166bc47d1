-- Of the values with one sort key the one whose numbers have the fewest digits: `1.50` is 1.5 there.
use Rattle.std.specs.Prelude.{◌≡◌, ℕ, zero, suc, ◌-◌, ◌/◌, ◌%◌, ◌^◌, ◌==◌, if◌then◌else◌, List, ◌++◌, unsigned_abs}
use Rattle.std.specs.Int.{is_negative}
use Rattle.jsonb_spec.specs.SortKey.Readable.{HasFewestDigits}
use Rattle.jsonb_spec.specs.Grammar.{max_depth, IsDocument}
use Rattle.jsonb_spec.specs.Mode.{extended}
use Rattle.jsonb_spec.specs.Number.Signed.{signed_by}
use Rattle.jsonb_spec.specs.SortKey.{key_of}
use Rattle.jsonb_spec.specs.Text.{AppendsText}
use Rattle.jsonb_spec.specs.Text.Range.{IsWithin}
use Rattle.jsonb_spec.specs.Tree.{Num, Tree, number, array, object, Trees, no_trees, more_trees, Members, no_members, more_members}

-- how many of the last digits are zeros, of those behind the point
unfoldable pub spare_zeros : ℕ → ℕ → ℕ
spare_zeros zero magnitude = 0
spare_zeros (suc scale) magnitude = if magnitude % 10 == 0 then suc (spare_zeros scale (magnitude / 10)) else 0

-- the number without as many of its last digits
abbrev pub without_digits : ℕ → Num → Num
without_digits count n = record {
  form = n.form;
  scale = n.scale - count;
  whole = signed_by (is_negative n.whole) (unsigned_abs n.whole / 10 ^ count);
}

-- the same number without zeros at the end of its digits behind the point
abbrev pub fewest_digits : Num → Num
fewest_digits n = without_digits (spare_zeros n.scale (unsigned_abs n.whole)) n

abbrev mutual
  -- the same value, and each number in it so
  pub with_fewest_digits : Tree → Tree
  with_fewest_digits (number n) = number (fewest_digits n)
  with_fewest_digits (array ts) = array (items_with_fewest_digits ts)
  with_fewest_digits (object ms) = object (members_with_fewest_digits ms)
  with_fewest_digits t = t

  -- each item so
  pub items_with_fewest_digits : Trees → Trees
  items_with_fewest_digits no_trees = no_trees
  items_with_fewest_digits (more_trees t ts) = more_trees (with_fewest_digits t) (items_with_fewest_digits ts)

  -- each member's value so
  pub members_with_fewest_digits : Members → Members
  members_with_fewest_digits no_members = no_members
  members_with_fewest_digits (more_members key t ms) =
      more_members key (with_fewest_digits t) (members_with_fewest_digits ms)

-- New is old with a text at its end: that of the value with the fewest digits that has the key of t.
pub record AppendsTextOf (t : Tree) (old new : List ℕ) : Type 0 where
  pub text : AppendsText (with_fewest_digits t) old new
  pub is_key : key_of (with_fewest_digits t) ≡ key_of t
  pub fewest : IsWithin HasFewestDigits (with_fewest_digits t) max_depth

-- The text is an extended document, of a value with this key.
pub record IsDocumentWithKey (key text : List ℕ) : Type 0 where
  pub value : Tree
  pub document : IsDocument extended text value
  pub is_key : key_of value ≡ key

-- New is old with such a text at its end.
pub record AppendsDocumentWithKey (key old new : List ℕ) : Type 0 where
  pub text : List ℕ
  pub appended : new ≡ old ++ text
  pub document : IsDocumentWithKey key text
