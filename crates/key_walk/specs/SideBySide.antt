-- Two keys that are walked side by side.
use Rattle.std.specs.Prelude.{◌≡◌, ◌<◌, ◌≤◌, ℕ, length, IfOk, Bool, true, false, List, ◌++◌, ◌&&◌, None, Result, Ok, Err, IsTrue}
use Rattle.std.specs.Str.{bytes_eq}
use Rattle.jsonb_spec.specs.SortKey.Readable.{IsAnyNumber, IsReadableAt}
use Rattle.key_walk.specs.declared.containment.Walk.{Walk}
use Rattle.key_walk.specs.declared.find.NoKey.{NoKey}
use Rattle.jsonb_spec.specs.Containment.{holds, holds_members}
use Rattle.jsonb_spec.specs.SortKey.Open.{Open, is_object, open_key, IsOpen}
use Rattle.jsonb_spec.specs.Accessors.{find_member}
use Rattle.jsonb_spec.specs.Keys.{IsBelowKeys, KeysAscend}
use Rattle.jsonb_spec.specs.Proper.{AreProper, HaveProperParts}
use Rattle.jsonb_spec.specs.SortKey.{key_of, members_key}
use Rattle.jsonb_spec.specs.Text.Range.{AreWithin, HaveWithin}
use Rattle.jsonb_spec.specs.Tree.{Tree, Trees, Members, more_members}

-- the items of a value that is readable, with as many levels left
pub record AreReadableAt (depth : ℕ) (ts : Trees) : Type 0 where
  pub proper : AreProper ts
  pub within : AreWithin IsAnyNumber ts depth

-- the members of such a value
pub record HaveReadableAt (depth : ℕ) (ms : Members) : Type 0 where
  pub ascend : KeysAscend ms
  pub proper : HaveProperParts ms
  pub within : HaveWithin IsAnyNumber ms depth

-- The bytes end with these.
abbrev pub EndsWith : List ℕ → List ℕ → Type 0
EndsWith bytes last = (before : List ℕ) × (bytes ≡ before ++ last)

-- What is left of the key are these bytes.
pub record IsLeft (key left bytes : List ℕ) : Type 0 where
  pub ends : EndsWith key bytes
  pub is : left ≡ bytes

-- Ours are these bytes of the first key, and theirs are these of the other.
abbrev pub Occurs : Walk → List ℕ → List ℕ → Type 0
Occurs walk ours theirs = IsLeft walk.key.now walk.ours.now ours × IsLeft walk.other.now walk.theirs.now theirs

-- Ours are some parts of an object or an array, and what is behind it.
pub record OccursInside (object : Bool) (walk : Walk) (more behind : List ℕ) : Type 0 where
  pub parts : Open
  pub is : is_object parts ≡ object
  pub fits : IsOpen parts 511
  pub occurs : Occurs walk (open_key parts ++ more) behind

-- Ours are so, and it is held of which kind the object or the array is.
pub record EndsInside (object : Bool) (walk : Walk) (more behind : List ℕ) : Type 0 where
  pub inside : OccursInside object walk more behind
  pub kind : walk.in_object ≡ object

-- The keys as a whole are the same, and as many arrays and objects may be opened.
abbrev pub SameKeys : Walk → Walk → Type 0
SameKeys old new = (new.key.now ≡ old.key.now) × (new.other.now ≡ old.other.now) × (new.depth ≡ old.depth)

-- What is found is passed.
abbrev pub IsPassed : Walk → Walk → Result Bool NoKey → Type 0
IsPassed old new result = IfOk result (λ found. IsTrue found → length new.theirs.now < length old.theirs.now)

-- Where nothing is wrong, the keys as a whole are the same; and what is found is passed.
pub record Walks (old new : Walk) (result : Result Bool NoKey) : Type 0 where
  pub keys : IfOk result (λ found. SameKeys old new)
  pub passed : IsPassed old new result

-- This is what is reported, and where it is yes, the walk is there.
abbrev pub Reported : Bool → Type 0 → Result Bool NoKey → Type 0
Reported answer Behind (Ok reported) = (reported ≡ answer) × (IsTrue answer → Behind)
Reported answer Behind (Err e) = ⊥

-- Whichever two the keys are of that are there, nested no deeper than may be opened, it is reported whether the first
-- holds the other, and where it does, the walk is so.
abbrev pub ReportsHeld : {A : Type 0} → ℕ → (ℕ → A → Type 0) → (A → List ℕ) → (A → A → Bool)
    → (List ℕ → List ℕ → Type 0) → Walk → Result Bool NoKey → Type 0
ReportsHeld most Readable key holds Behind old result =
    (depth : ℕ) → old.depth ≡ depth → depth ≤ most → (a b : _) → Readable depth a → Readable depth b
    → (more behind : List ℕ) → Occurs old (key a ++ more) (key b ++ behind)
    → Reported (holds a b) (Behind more behind) result

-- The member of that name, and those behind it, among which all names are looked for that are above.
pub record MemberFound (depth : ℕ) (ms : Members) (name : List ℕ) (walk : Walk) (more behind : List ℕ) : Type 0 where
  pub value : Tree
  pub readable : IsReadableAt depth value
  pub others : Members
  pub have_readable : HaveReadableAt depth others
  pub same : (u : Tree) → (ns : Members) → IsBelowKeys name ns
      → holds_members ms (more_members name u ns) ≡ (holds value u && holds_members others ns)
  pub occurs : Occurs walk (key_of value ++ (members_key others ++ more)) behind

-- It is reported whether one of the members has the name.
abbrev pub FindsMember : ℕ → Members → List ℕ → Walk → List ℕ → List ℕ → Result Bool NoKey → Type 0
FindsMember depth ms name walk more behind (Ok true) = MemberFound depth ms name walk more behind
FindsMember depth ms name walk more behind (Ok false) = find_member (bytes_eq name) ms ≡ None
FindsMember depth ms name walk more behind (Err e) = ⊥
