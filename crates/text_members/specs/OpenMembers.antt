-- The members of the objects that are open: what is held of them, and what is known where an object ends.
use Rattle.std.specs.Prelude.{◌≡◌, ℕ, ◌+◌, ◌≤◌, Bool, true, false, List, [], ◌∷◌, ◌++◌, length, map, drop, take, Option, Some, None, MatchOption}
use Rattle.std.specs.Option.{option_map}
use Rattle.std.specs.Str.{IsUtf8}
use Rattle.jsonb_spec.specs.Source.Open.{Open, elements_so_far, members_so_far}
use Rattle.jsonb_spec.specs.Source.{Found, Source, Spot, first_repeat, object_source_of, sort_by, spot_of}
use Rattle.text_members.specs.MemberStarts.{AreEntries, MemberStart, IsVerbatim}
use Rattle.text_members.specs.Members.{AreKeyed, SpotsAscend, spot_at, spot_in}
use Rattle.jsonb_spec.specs.SortKey.Joined.{between, join_pieces}
use Rattle.text_members.specs.declared.members.Member.{Member}
use Rattle.text_members.specs.declared.open_members.OpenMembers.{OpenMembers}
use Rattle.text_members.specs.declared.open_members.Repeat.{Repeat}

-- ---- steps

-- The members are the same.
pub record AreSame (old new : OpenMembers) : Type 0 where
  pub text : new.text.now ≡ old.text.now
  pub entries : new.entries.items ≡ old.entries.items
  pub decoded : new.decoded.items ≡ old.decoded.items

-- There is this member more, and these bytes of its key are decoded.
pub record HasMember (member : Member) (key : List ℕ) (old new : OpenMembers) : Type 0 where
  pub text : new.text.now ≡ old.text.now
  pub entries : new.entries.items ≡ old.entries.items ++ member ∷ []
  pub decoded : new.decoded.items ≡ old.decoded.items ++ key

-- There is a member more, with this key and offset, that begins at this index.
pub record Begins (key : List ℕ) (offset start : ℕ) (old new : OpenMembers) : Type 0 where
  pub member : Member
  pub keys : List ℕ
  pub has : HasMember member keys old new
  pub retained : IsVerbatim old.text.now new.decoded.items member
      (record { spot = record { key = key; offset = offset }; start = start })

-- The members from an index on are held no longer.
pub record Closes (first : ℕ) (old new : OpenMembers) : Type 0 where
  pub text : new.text.now ≡ old.text.now
  pub entries : new.entries.items ≡ take first old.entries.items
  pub decoded : new.decoded.items ≡ old.decoded.items

-- ---- where members begin

-- How members are in what is written: whether with commas between them, the bytes of each, and where the first one
-- begins of an object that is in these containers.
pub record Layout : Type 0 where
  pub commas : Bool
  pub bytes : Found → List ℕ
  pub begins : List Open → ℕ

-- where members begin, of which the first begins at this index
abbrev pub starts_from : Bool → (Found → List ℕ) → ℕ → List Found → List MemberStart
starts_from commas bytes start [] = []
starts_from commas bytes start (f ∷ fs) = record { spot = spot_of f; start = start }
    ∷ starts_from commas bytes (start + length (bytes f) + length (between commas)) fs

-- where the member behind them begins
abbrev pub next_start : Bool → (Found → List ℕ) → ℕ → List Found → ℕ
next_start commas bytes start [] = start
next_start commas bytes start (f ∷ fs) =
    next_start commas bytes (start + length (bytes f) + length (between commas)) fs

-- the members of an object in these containers
abbrev pub starts_in : Layout → List Open → List Found → List MemberStart
starts_in layout cs fs = starts_from layout.commas layout.bytes (layout.begins cs) fs

-- where the member behind them begins
abbrev pub next_in : Layout → List Open → List Found → ℕ
next_in layout cs fs = next_start layout.commas layout.bytes (layout.begins cs) fs

-- the members of one container in others: where a value is due, its key begins one
abbrev pub own_starts : Layout → Bool → List Open → Open → List MemberStart
own_starts layout due cs (elements_so_far ss) = []
own_starts layout false cs (members_so_far fs key offset) = starts_in layout cs fs
own_starts layout true cs (members_so_far fs key offset) =
    let spot : Spot = record { key = key.1; offset = offset } in
    starts_in layout cs fs ++ record { spot = spot; start = next_in layout cs fs } ∷ []

-- the members of all that are open, the outermost's first
abbrev pub all_starts : Layout → Bool → List Open → List MemberStart
all_starts layout due [] = []
all_starts layout due (c ∷ cs) = all_starts layout true cs ++ own_starts layout due cs c

-- The members are those of what is open: up to where a value is due, or up to the end of the innermost's last part.
pub record AreOf (layout : Layout) (text : List ℕ) (ms : OpenMembers) (due : Bool) (cs : List Open) : Type 0 where
  pub text_is : ms.text.now ≡ text
  pub retained : AreEntries text ms.decoded.items ms.entries.items (all_starts layout due cs)

-- ---- the end of an object

-- The members from an index on are these, of which the first begins at another index.
abbrev pub EndIn : Bool → (Found → List ℕ) → OpenMembers → ℕ → ℕ → List Found → Type 0
EndIn commas bytes ms first start fs =
    AreEntries ms.text.now ms.decoded.items (drop first ms.entries.items) (starts_from commas bytes start fs)

-- The keys of the members from an index on ascend, where their prefixes are those of the keys.
abbrev pub KeysAscendFrom : OpenMembers → ℕ → Type 0
KeysAscendFrom ms first =
    AreKeyed ms.text.now ms.decoded.items (drop first ms.entries.items)
    → SpotsAscend (map (spot_in ms.text.now ms.decoded.items) (drop first ms.entries.items))

-- the spot of the member where a key comes twice
abbrev pub spot_at_repeat : OpenMembers → Repeat → Spot
spot_at_repeat ms r = spot_at ms.text.now ms.decoded.items (drop r.first ms.entries.items) r.index

-- the member where a key comes twice, among those from an index on
abbrev pub repeat_among : ℕ → Option ℕ → Option Repeat
repeat_among first found = option_map (λ i. record { first = first; index = i }) found

-- The least key that comes twice is that of this member, and is UTF-8.
pub record ReportsRepeatOf (ms : OpenMembers) (fs : List Found) (r : Repeat) : Type 0 where
  pub repeat : first_repeat (map spot_of fs) ≡ Some (spot_at_repeat ms r)
  pub utf8 : IsUtf8 (spot_at_repeat ms r).key

-- No key comes twice, or the least one that does is reported.
abbrev pub FindsRepeat : OpenMembers → List Found → Option Repeat → Type 0
FindsRepeat ms fs found = MatchOption found (first_repeat (map spot_of fs) ≡ None) (ReportsRepeatOf ms fs)

-- No key comes twice, and behind what is in front the members' bytes are written in the order of the keys.
pub record AreSettled (commas : Bool) (bytes : Found → List ℕ) (front : List ℕ) (fs : List Found) (all : List ℕ)
    : Type 0 where
  pub written : all ≡ front ++ join_pieces commas (map bytes (sort_by spot_of fs))
  pub new_keys : first_repeat (map spot_of fs) ≡ None

-- The members from an index on were written behind what is in front. They are so in the order of their keys, or
-- the least key that comes twice is reported.
abbrev pub PutsInOrder : Bool → ℕ → OpenMembers → OpenMembers → ℕ → List ℕ → List ℕ → Option Repeat → Type 0
PutsInOrder commas floor before after first old new found =
    (bytes : Found → List ℕ) → (front : List ℕ) → (fs : List Found) → floor ≤ length front
    → EndIn commas bytes before first (length front) fs → old ≡ front ++ join_pieces commas (map bytes fs)
    → MatchOption found (AreSettled commas bytes front fs new) (ReportsRepeatOf after fs)

-- No key comes twice, and the object ended, of which this holds.
pub record EndsObject {R H : Type 0} (Filled : R → Source → List H → List Open → Type 0) (sink : R)
    (fs : List Found) (held : List H) (cs : List Open) : Type 0 where
  pub filled : Filled sink (object_source_of fs) held cs
  pub new_keys : first_repeat (map spot_of fs) ≡ None
