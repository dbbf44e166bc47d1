-- Parts of keys where they are in the bytes, and how many parts there are.
use Rattle.std.specs.Prelude.{◌≡◌, ℕ, suc, ◌-◌, ℤ, pos, negsuc, nat_lt, Bool, List, ◌++◌, length, Option, Some, None, if◌then◌else◌}
use Rattle.jsonb_spec.specs.SortKey.Readable.{IsReadable}
use Rattle.jsonb_spec.specs.SortKey.Open.{Open, is_object, open_key, IsOpen}
use Rattle.jsonb_spec.specs.SortKey.Parts.{opened_tree}
use Rattle.jsonb_spec.specs.Accessors.{item_at, trees_len}
use Rattle.jsonb_spec.specs.SortKey.{key_of}
use Rattle.jsonb_spec.specs.Tree.{Tree, array, object, Trees, Members, no_members, more_members}

-- how many members there are
abbrev pub members_len : Members → ℕ
members_len no_members = 0
members_len (more_members key t ms) = suc (members_len ms)

-- how many items an array has, or members an object
abbrev pub count_of : Tree → Option ℕ
count_of (array ts) = Some (trees_len ts)
count_of (object ms) = Some (members_len ms)
count_of t = None

-- the item that is so many from the end, where 1 is the last
abbrev pub item_back : Trees → ℕ → Option Tree
item_back ts back = if nat_lt (trees_len ts) back then None else item_at ts (trees_len ts - back)

-- the item of that index; a negative one counts from the end, where -1 is the last
abbrev pub item_from : ℤ → Tree → Option Tree
item_from (pos index) (array ts) = item_at ts index
item_from (negsuc back) (array ts) = item_back ts (suc back)
item_from index t = None

-- The rest of the bytes begins with the key of the part.
pub record PartOccurs (bytes rest : List ℕ) (part : Tree) : Type 0 where
  pub readable : IsReadable part
  pub before : List ℕ
  pub inside : bytes ≡ before ++ rest
  pub behind : List ℕ
  pub occurs : rest ≡ key_of part ++ behind

-- The array or the object of which this is left is the tree.
pub record IsLeftOf (t : Tree) (of_object : Bool) (rest more : List ℕ) : Type 0 where
  pub all : Open
  pub whole : opened_tree all ≡ t
  pub is : is_object all ≡ of_object
  pub fits : IsOpen all 511
  pub occurs : rest ≡ open_key all ++ more

-- The bytes are in the key, at the offset and of the size.
pub record IsRange (key : List ℕ) (offset size : ℕ) (bytes : List ℕ) : Type 0 where
  pub before : List ℕ
  pub behind : List ℕ
  pub occurs : key ≡ before ++ (bytes ++ behind)
  pub offset_is : offset ≡ length before
  pub size_is : size ≡ length bytes
