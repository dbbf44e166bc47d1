-- What is in the space that a sort key is written to, while arrays and objects are open.
use Rattle.std.specs.Prelude.{◌≡◌, ℕ, ◌+◌, Bool, true, false, List, [], ◌∷◌, ◌++◌, length, map, take, None}
use Rattle.std.specs.Cow.{cow_str_bytes}
use Rattle.jsonb_spec.specs.SortKey.{key_of}
use Rattle.jsonb_spec.specs.SortKey.Kind as kind
use Rattle.jsonb_spec.specs.Tree.{plain, null, boolean, string, number}
use Rattle.jsonb_spec.specs.Tree.Mark.{escaped}
use Rattle.jsonb_core.specs.View.{mark_view, number_view}
use Rattle.jsonb_spec.specs.Source.Open.{Open, elements_so_far, members_so_far}
use Rattle.jsonb_spec.specs.Source.{Found, Source, first_repeat, sort_by, spot_of}
use Rattle.text_write.specs.Contents.{text_of_contents}
use Rattle.jsonb_spec.specs.SortKey.Joined.{member_key, source_key}
use Rattle.text_members.specs.OpenMembers as opened
use Rattle.text_members.specs.OpenMembers.{AreOf, AreSame, Layout, all_starts}
use Rattle.jsonb_spec.specs.SortKey.SoFar.{keys_joined, open_key}
use Rattle.text_write.specs.declared.key.KeySink.{KeySink}
use Rattle.text_write.specs.declared.text.Part.{Part}
use Rattle.text_write.specs.declared.text.Part.TheVariants as part

-- the sort key of a value that holds no others and isn't written yet
abbrev pub part_key : Part → List ℕ
part_key part.Null = key_of null
part_key (part.Bool b) = key_of (boolean b)
part_key (part.Number n) = key_of (number (number_view n))
part_key (part.Plain t) = key_of (string plain t.now)
part_key (part.String t) = key_of (string (mark_view t) (cow_str_bytes t))
part_key (part.Contents c) = key_of (string escaped (text_of_contents c))
part_key part.Written = []

-- ---- what is open

-- What is held of an open container: nothing of an array, of an object the index of its first member.
pub data Held : Type 0 where
  items : Held
  members : ℕ → Held

-- members are behind the byte of their object, and that behind so many bytes
abbrev pub key_layout : ℕ → Layout
key_layout base = record { commas = false; bytes = member_key; begins = λ cs. base + length (open_key true cs) + 1 }

-- What is held fits the containers.
abbrev pub HeldFits : Layout → List Held → List Open → Type 0
HeldFits layout [] [] = Unit {0}
HeldFits layout (items ∷ held) (elements_so_far ss ∷ cs) = HeldFits layout held cs
HeldFits layout (members first ∷ held) (members_so_far fs key offset ∷ cs) =
    (first ≡ length (all_starts layout true cs)) × HeldFits layout held cs
HeldFits layout held cs = ⊥

-- ---- the sink

-- the bytes that the buffer held before
abbrev pub base_of : KeySink → List ℕ
base_of sink = take sink.base sink.out.items

-- Behind them these bytes are written, and the members are those of what is open.
pub record IsSinkWith (text : List ℕ) (sink : KeySink) (written : List ℕ)
    (due : Bool) (held : List Held) (cs : List Open) : Type 0 where
  pub bytes : sink.out.items ≡ base_of sink ++ written
  pub members : AreOf (key_layout sink.base) text sink.members due cs
  pub fits : HeldFits (key_layout sink.base) held cs

-- What is open is written: up to where a value is due, or up to the end of the innermost's last part.
abbrev pub KeyHolds : List ℕ → KeySink → Bool → List Held → List Open → Type 0
KeyHolds text sink due held cs = IsSinkWith text sink (open_key due cs) due held cs

-- A value is written where one was due.
abbrev pub KeyFilled : List ℕ → KeySink → Source → List Held → List Open → Type 0
KeyFilled text sink s held cs = IsSinkWith text sink (open_key true cs ++ source_key s) true held cs

-- The sink has these bytes more.
pub record Writes (bytes : List ℕ) (old new : KeySink) : Type 0 where
  pub base : new.base ≡ old.base
  pub before : base_of new ≡ base_of old
  pub written : new.out.items ≡ old.out.items ++ bytes
  pub members : AreSame old.members new.members

-- The sink has these bytes more, and a member with this key and offset that begins at this index.
pub record Begins (bytes key : List ℕ) (offset start : ℕ) (old new : KeySink) : Type 0 where
  pub base : new.base ≡ old.base
  pub before : base_of new ≡ base_of old
  pub written : new.out.items ≡ old.out.items ++ bytes
  pub members : opened.Begins key offset start old.members new.members

-- ---- the end of an object

-- The sink has the members that it had.
pub record PreservesMembers (old new : KeySink) : Type 0 where
  pub base : new.base ≡ old.base
  pub before : base_of new ≡ base_of old
  pub members : AreSame old.members new.members

-- No key of these members comes twice, and they are in the order of their keys.
pub record IsSettled (old new : KeySink) (fs : List Found) (cs : List Open) : Type 0 where
  pub written : new.out.items ≡ base_of old
      ++ (open_key true cs ++ kind.object ∷ keys_joined (map member_key (sort_by spot_of fs)))
  pub new_keys : first_repeat (map spot_of fs) ≡ None

-- The two zeros at an object's end are written, and the members from an index on are held no longer.
pub record Closes (first : ℕ) (old new : KeySink) : Type 0 where
  pub base : new.base ≡ old.base
  pub before : base_of new ≡ base_of old
  pub written : new.out.items ≡ old.out.items ++ kind.terminator ∷ kind.terminator ∷ []
  pub members : opened.Closes first old.members new.members
