-- What is in the space that the text of a part is written to, while arrays and objects are open.
use Rattle.std.specs.Prelude.{◌≡◌, ◌⊎◌, ℕ, zero, suc, ◌+◌, ◌<◌, ◌≤◌, Bool, true, false, if◌then◌else◌, nat_lt, List, [], ◌∷◌, length, map, drop, take, string_bytes, Option, Some, None, MatchOption}
use Rattle.std.specs.Option.{option_and_then, option_map, option_or}
use Rattle.std.specs.Str.{bytes_eq}
use Rattle.jsonb_spec.specs.Text.{tree_text}
use Rattle.jsonb_spec.specs.Tree.{Tree}
use Rattle.jsonb_spec.specs.Source.Open.{Open, elements_so_far, members_so_far}
use Rattle.jsonb_spec.specs.Source.{Source}
use Rattle.jsonb_spec.specs.PartAt.{index_named}
use Rattle.text_write.specs.CheckSink.{CheckHolds}
use Rattle.text_write.specs.KeySink as key
use Rattle.text_write.specs.TextSink as text
use Rattle.text_write.specs.TextSink.{TextFilled, TextHolds, base_of}
use Rattle.text_write.specs.declared.check.CheckSink.{CheckSink}
use Rattle.text_members.specs.declared.open_members.OpenMembers.{OpenMembers}
use Rattle.text_write.specs.declared.part.PartItems.{PartItems}
use Rattle.text_write.specs.declared.part.PartMembers.{PartMembers}
use Rattle.text_write.specs.declared.part.PartSink.{PartSink}
use Rattle.jsonb_spec.specs.PartAt.SoFar.{path_behind, part_of_ended, part_with_value, part_inside}

-- ---- what is left of the path

-- the keys behind so many, if that is known
abbrev pub rest_at : List (List ℕ) → Option ℕ → Option (List (List ℕ))
rest_at keys level = option_map (λ l. drop l keys) level

-- the first of these keys
abbrev pub first_key : List (List ℕ) → Option (List ℕ)
first_key [] = None
first_key (key ∷ keys) = Some key

-- the others
abbrev pub other_keys : List (List ℕ) → Option (List (List ℕ))
other_keys [] = None
other_keys (key ∷ keys) = Some keys

-- the others, where the first one is this key
abbrev pub follow_key : List ℕ → List (List ℕ) → Option (List (List ℕ))
follow_key name [] = None
follow_key name (key ∷ keys) = if bytes_eq key name then Some keys else None

-- the index that the first of these keys names
abbrev pub first_index : List (List ℕ) → Option ℕ
first_index [] = None
first_index (key ∷ keys) = index_named key

-- the part in what ended of all that is open, or inside a value where one was due
abbrev pub part_with_inside : List (List ℕ) → Source → List Open → Option Tree
part_with_inside keys s cs = option_or (part_of_ended keys cs) (option_and_then (part_inside s) (path_behind keys cs))

-- ---- what is held

-- So many keys of the path lead to what the containers wait for, or it isn't on the path.
abbrev pub Leads : List (List ℕ) → Option ℕ → List Open → Type 0
Leads keys level cs = path_behind keys cs ≡ rest_at keys level

-- So many elements come before the one on the path, or it is among those that there are, or there is none.
abbrev pub IsAhead : Option ℕ → Option ℕ → ℕ → Type 0
IsAhead wanted (Some n) count = wanted ≡ Some (count + n)
IsAhead wanted None count = MatchOption wanted (Unit {0}) (λ i. i < count)

-- one less, and none behind the one on the path
abbrev pub less : Option ℕ → Option ℕ
less None = None
less (Some zero) = None
less (Some (suc n)) = Some n

-- how many items come before the one on the path, if that is still to come
abbrev pub ahead_of : PartItems → Option ℕ
ahead_of f = if f.is_ahead then Some f.ahead else None

-- how many keys of the path lead to an array, if it is on the path
abbrev pub level_of : PartItems → Option ℕ
level_of f = if f.is_on_path then Some f.level else None

-- What is held of an open container.
pub data PartHeld : Type 0 where
  array_held : PartItems → PartHeld
  object_held : PartMembers → PartHeld

-- what is held of it where it is written
abbrev pub text_held : PartHeld → text.Held
text_held (array_held f) = text.items f.is_first
text_held (object_held f) = text.members f.first

-- what is held of it where it is only checked
abbrev pub check_held : PartHeld → key.Held
check_held (array_held f) = key.items
check_held (object_held f) = key.members f.first

-- So many keys of the path lead to the container. It isn't the part, unless the part was found before.
pub record IsOutside (keys : List (List ℕ)) (found : Bool) (level : Option ℕ) (cs : List Open) : Type 0 where
  pub leads : Leads keys level cs
  pub other : rest_at keys level ≡ Some [] → found ≡ true

-- What is held fits the containers.
abbrev pub HeldFits : List (List ℕ) → Bool → List PartHeld → List Open → Type 0
HeldFits keys found [] [] = Unit {0}
HeldFits keys found (array_held f ∷ held) (elements_so_far ss ∷ cs) =
    IsOutside keys found (level_of f) cs
    × (IsAhead (option_and_then first_index (path_behind keys cs)) (ahead_of f) (length ss) × HeldFits keys found held cs)
HeldFits keys found (object_held f ∷ held) (members_so_far fs key offset ∷ cs) =
    IsOutside keys found f.level cs × HeldFits keys found held cs
HeldFits keys found held cs = ⊥

-- ---- around the part

-- The keys of what is open are held, and this is the text of the part, if it ended. So many keys of the path lead to
-- the value that is due.
pub record IsSeeking (document : List ℕ) (check : CheckSink) (keys : List (List ℕ)) (level : Option ℕ) (found : Bool)
    (part : Option (List ℕ)) (due : Bool) (held : List PartHeld) (cs : List Open) : Type 0 where
  pub holds : CheckHolds document check due (map check_held held) cs
  pub fits : HeldFits keys found held cs
  pub leads : due ≡ true → Leads keys level cs
  pub part_is : part ≡ option_map tree_text (part_of_ended keys cs)

-- A value ended where one was due, and this is the text of the part, if it ended.
pub record IsSought (document : List ℕ) (check : CheckSink) (keys : List (List ℕ)) (found : Bool)
    (part : Option (List ℕ)) (s : Source) (held : List PartHeld) (cs : List Open) : Type 0 where
  pub holds : CheckHolds document check true (map check_held held) cs
  pub fits : HeldFits keys found held cs
  pub part_is : part ≡ option_map tree_text (part_with_value keys s cs)

-- ---- the sink

-- the keys of the path
abbrev pub keys_of : PartSink → List (List ℕ)
keys_of sink = map string_bytes sink.path.now

-- the text of the part, if it ended
abbrev pub part_of : PartSink → Option (List ℕ)
part_of sink = if sink.found then Some (drop sink.text.base sink.text.written.out.items) else None

-- what was written before the part, and the keys of the path
abbrev pub base_and_keys : PartSink → List (List ℕ)
base_and_keys sink = base_of sink.text ∷ keys_of sink

-- the members among which those of the innermost object are
abbrev pub members_of : PartSink → OpenMembers
members_of sink = if nat_lt 0 sink.inside then sink.text.members else sink.check.members

-- The value that is due is written: it is the part, or is in it.
abbrev pub IsWritten : PartSink → Type 0
IsWritten sink = (0 < sink.inside)
    ⊎ ((sink.inside ≡ 0) × (sink.found ≡ false) × (rest_at (keys_of sink) sink.due ≡ Some []))

-- The value that is due isn't written. If it is at the path, the part was found before.
abbrev pub IsAround : PartSink → Type 0
IsAround sink = (sink.inside ≡ 0) × (rest_at (keys_of sink) sink.due ≡ Some [] → sink.found ≡ true)

-- So many of the innermost containers are written, around which the part is due.
pub record IsInPart (n : ℕ) (document : List ℕ) (sink : PartSink) (held : List PartHeld) (cs : List Open)
    : Type 0 where
  pub seeks : IsSeeking document sink.check (keys_of sink) sink.due false None true (drop n held) (drop n cs)
  pub open_yet : sink.found ≡ false
  pub here : rest_at (keys_of sink) sink.due ≡ Some []
  pub few : n ≤ length held

-- with so many containers written
abbrev pub HoldsAt : ℕ → List ℕ → PartSink → Bool → List PartHeld → List Open → Type 0
HoldsAt zero document sink due held cs =
    IsSeeking document sink.check (keys_of sink) sink.due sink.found (part_of sink) due held cs
    × (sink.found ≡ false → TextHolds document sink.text true [] [])
HoldsAt (suc n) document sink due held cs =
    IsInPart (suc n) document sink held cs
    × TextHolds document sink.text due (map text_held (take (suc n) held)) (take (suc n) cs)

-- The part is written so far, and of what is open around it the keys are held.
pub record PartHolds (document : List ℕ) (sink : PartSink) (due : Bool) (held : List PartHeld) (cs : List Open)
    : Type 0 where
  pub holds : HoldsAt sink.inside document sink due held cs

-- A value ended with so many containers written around it, the part among them or the value itself.
abbrev pub EndsAt : ℕ → List ℕ → PartSink → Source → List PartHeld → List Open → Type 0
EndsAt n document sink s held cs =
    IsInPart n document sink held cs × TextFilled document sink.text s (map text_held (take n held)) (take n cs)

-- with so many containers written
abbrev pub FilledAt : ℕ → List ℕ → PartSink → Source → List PartHeld → List Open → Type 0
FilledAt zero document sink s held cs =
    IsSought document sink.check (keys_of sink) sink.found (part_of sink) s held cs
    × (sink.found ≡ false → TextHolds document sink.text true [] [])
FilledAt (suc n) document sink s held cs = EndsAt (suc n) document sink s held cs

-- A value ended where one was due, and the part is written so far.
pub record PartFilled (document : List ℕ) (sink : PartSink) (s : Source) (held : List PartHeld) (cs : List Open)
    : Type 0 where
  pub filled : FilledAt sink.inside document sink s held cs

-- A value that is written ended, and is still counted as open.
pub record InnerEnds (document : List ℕ) (sink : PartSink) (s : Source) (held : List PartHeld) (cs : List Open)
    : Type 0 where
  pub outer : ℕ
  pub count : sink.inside ≡ suc outer
  pub ends : EndsAt outer document sink s held cs
