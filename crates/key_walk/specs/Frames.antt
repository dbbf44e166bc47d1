-- Keys that bytes begin with, and what is known of an array or an object that is open while a key is checked.
use Rattle.std.specs.Prelude.{◌≡◌, ◌≢◌, ◌<◌, ◌≤◌, ◌*◌, ◌^◌, ℕ, Bool, true, false, List, ◌++◌, Option, Some, None, length, map, take, get_or, ⊤, IsUtf8}
use Rattle.std.specs.Ordering.{nat_cmp}
use Rattle.std.specs.Cmp.Lexicographic.{slice_cmp}
use Rattle.std.specs.declared.cmp.Ordering.TheVariants.{Less}
use Rattle.jsonb_spec.specs.Ascii as ascii
use Rattle.jsonb_spec.specs.SortKey.Open.{Open, is_object, open_key, IsScalar}
use Rattle.jsonb_spec.specs.SortKey.Parts.{opened_tree}
use Rattle.jsonb_spec.specs.Grammar.{max_depth}
use Rattle.jsonb_spec.specs.Proper.{IsProper, IsProperNumber}
use Rattle.jsonb_spec.specs.SortKey.{key_of, number_key, digits_key, text_key, invert_if}
use Rattle.jsonb_spec.specs.Text.Range.{HasFewDigits, IsWithin}
use Rattle.jsonb_spec.specs.Tree.{Num, Tree}
use Rattle.jsonb_spec.specs.SortKey.Front.{AreNoZeros}

-- The tree of a value in range, with arrays and objects nested no deeper than the number.
pub record IsInRangeAt (depth : ℕ) (t : Tree) : Type 0 where
  pub proper : IsProper t
  pub within : IsWithin HasFewDigits t depth

-- The bytes begin with the key of a value in range, and these are behind it.
pub record KeyFirst (bytes more : List ℕ) : Type 0 where
  pub value : Tree
  pub in_range : IsInRangeAt max_depth value
  pub occurs : bytes ≡ key_of value ++ more

-- The bytes begin with the key of a scalar in range, and these are behind it.
pub record ScalarFirst (bytes more : List ℕ) : Type 0 where
  pub value : Tree
  pub scalar : IsScalar value
  pub in_range : (depth : ℕ) → IsInRangeAt depth value
  pub occurs : bytes ≡ key_of value ++ more

-- The bytes begin with the key of a number in range, and these are behind it.
pub record NumberFirst (bytes more : List ℕ) : Type 0 where
  pub value : Num
  pub proper : IsProperNumber value
  pub in_range : HasFewDigits value
  pub occurs : bytes ≡ number_key value ++ more

-- The bytes begin with the key of a text, without its first byte, and these are behind it.
pub record TextFirst (bytes more : List ℕ) : Type 0 where
  pub text : List ℕ
  pub utf8 : IsUtf8 text
  pub occurs : bytes ≡ text_key text ++ more

-- The bytes begin with the key of an array or an object in range, without its first byte, and these are behind it.
pub record PartsFirst (object : Bool) (bytes more : List ℕ) : Type 0 where
  pub opened : Open
  pub is : is_object opened ≡ object
  pub in_range : IsInRangeAt max_depth (opened_tree opened)
  pub occurs : bytes ≡ open_key opened ++ more

-- an array, or an object with the last name of those that were passed
pub data Frame : Type 0 where
  in_array : Frame
  in_object : Option (List ℕ) → Frame

-- whether it is an object
abbrev pub is_object_frame : Frame → Bool
is_object_frame in_array = false
is_object_frame (in_object last) = true

-- an array or an object of which nothing was passed
abbrev pub new_frame : Bool → Frame
new_frame true = in_object None
new_frame false = in_array

-- the name is above the last one
abbrev pub IsAbove : Option (List ℕ) → List ℕ → Type 0
IsAbove None name = ⊤
IsAbove (Some last) name = slice_cmp nat_cmp last name ≡ Less

-- A name in order is first, and these bytes behind it; an item has no name.
abbrev pub NameFirst : Frame → List ℕ → List ℕ → List ℕ → Type 0
NameFirst in_array name bytes more = bytes ≡ more
NameFirst (in_object last) name bytes more = IsAbove last name × IsUtf8 name × (bytes ≡ text_key name ++ more)

-- the frame behind that name
abbrev pub frame_behind : Frame → List ℕ → Frame
frame_behind in_array name = in_array
frame_behind (in_object last) name = in_object (Some name)

-- The bytes end with the key of the name and more, which are so many.
pub record NameAt (bytes name : List ℕ) (size : ℕ) : Type 0 where
  pub front : List ℕ
  pub behind : List ℕ
  pub occurs : bytes ≡ front ++ (text_key name ++ behind)
  pub is_size : size ≡ length (text_key name ++ behind)

-- The frame by a number: 0 for an array, 1 for an object with no name passed, or how many bytes the last name's key and
-- all behind it are.
abbrev pub IsFrame : List ℕ → Frame → ℕ → Type 0
IsFrame bytes in_array size = size ≡ 0
IsFrame bytes (in_object None) size = size ≡ 1
IsFrame bytes (in_object (Some name)) size = NameAt bytes name size

-- the first bytes are ASCII and no zeros
abbrev pub ArePlain : List ℕ → ℕ → Type 0
ArePlain bytes count = (k : ℕ) → k < count → (get_or bytes k 0 ≢ 0) × (get_or bytes k 0 < ascii.end)

-- So many of the bytes are first, and are ASCII and no zeros.
pub record PlainRun (bytes : List ℕ) (count : ℕ) : Type 0 where
  pub within : count ≤ length bytes
  pub plain : ArePlain bytes count

-- So many of the first bytes are no zeros.
pub record RunBeforeZero (bytes : List ℕ) (count : ℕ) : Type 0 where
  pub within : count ≤ length bytes
  pub none : AreNoZeros bytes count

-- The first zero is at this index, and the bytes before it are UTF-8.
pub record Utf8UpTo (bytes : List ℕ) (zero : ℕ) : Type 0 where
  pub within : zero < length bytes
  pub none_before : (k : ℕ) → k < zero → get_or bytes k 0 ≢ 0
  pub here : get_or bytes zero 0 ≡ 0
  pub utf8 : IsUtf8 (take zero bytes)

-- The bytes begin with the key of so many digits, of which the first isn't 0, and these are behind it.
pub record DigitsFirst (negative : Bool) (bytes : List ℕ) (count : ℕ) (more : List ℕ) : Type 0 where
  pub digits : ℕ
  pub below : digits < 10 ^ count
  pub least : 10 ^ count ≤ digits * 10
  pub occurs : bytes ≡ map (invert_if negative) (digits_key count digits) ++ more
