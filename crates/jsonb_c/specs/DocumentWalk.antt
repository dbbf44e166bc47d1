-- What the statuses say of a walk over a document.
use Rattle.std.specs.Prelude.{◌≡◌, ℕ, ◌+◌, ◌≤◌, List, [], ◌∷◌, length, is_some, if◌then◌else◌}
use Rattle.jsonb_spec.specs.SortKey.{key_of}
use Rattle.jsonb_spec.specs.Tree.{Tree}
use Rattle.jsonb_c.specs.KeyParts.{kind_number}
use Rattle.jsonb_c.specs.declared.document_walk.Event.{Event}
use Rattle.key_document.specs.Walk.{IsWalkAt, IsWalkBefore, IsMet}
use Rattle.key_document.specs.declared.walk.Met.{Met}
use Rattle.key_document.specs.declared.walk.Walk.{Walk}
use Rattle.jsonb_spec.specs.SortKey.Events.{Event as TreeEvent}
use Rattle.jsonb_spec.specs.SortKey.Open.{Open, items, members}
use Rattle.key_walk.specs.Passing.{first_named, members_from}

-- what is reported of what is met
abbrev pub event_of : Met → Event
event_of met = record {
  kind = kind_number met.kind;
  zeros = met.zeros;
  name_offset = met.name_offset;
  name_size = met.name_size;
  offset = met.offset;
  size = met.size;
}

-- The event is one that is met in the value.
pub record IsEvent (t : Tree) (e : TreeEvent) (event : Event) : Type 0 where
  pub met : Met
  pub is_met : IsMet (key_of t) e met
  pub reported : event ≡ event_of met

-- The status says that the first of these events of the value is reported, and the others are left; or that there is
-- none.
abbrev pub MeetsEvent : Tree → List TreeEvent → ℕ → Event → Walk → Type 0
MeetsEvent t [] status event walk = status ≡ 5
MeetsEvent t (e ∷ es) status event walk = (status ≡ 0) × IsEvent t e event × IsWalkBefore t es walk

-- The status says that what is left of the innermost of these is passed, or that nothing is open.
abbrev pub SkipsOpen : Tree → List Open → ℕ → Walk → Type 0
SkipsOpen t [] status walk = status ≡ 5
SkipsOpen t (o ∷ under) status walk = (status ≡ 0) × IsWalkAt t under walk

-- The status says whether the first of these members whose name isn't below this one has the name, and the walk is
-- before that one. In an array, and where nothing is open, it says that there is none, and the walk stays.
abbrev pub MovesTo : Tree → List ℕ → List Open → ℕ → Walk → Walk → Type 0
MovesTo t name (members ms ∷ under) status old new =
    (status ≡ (if is_some (first_named name (members_from name ms)) then 0 else 5))
    × IsWalkAt t (members (members_from name ms) ∷ under) new
MovesTo t name opens status old new = (status ≡ 5) × (new ≡ old)

-- The ranges that are reported lie within the bytes.
pub record EventWithin (document : List ℕ) (event : Event) : Type 0 where
  pub name : event.name_offset + event.name_size ≤ length document
  pub value : event.offset + event.size ≤ length document
