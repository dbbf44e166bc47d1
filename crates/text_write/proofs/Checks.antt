-- The sink for a text that is only checked: its events, and the end of an object.
use Rattle.std.proofs.Common.{◌≡◌, ℕ, Bool, true, false, List, [], ◌∷◌, ◌++◌, length, Option, Some, None, MatchOption, refl}
use Rattle.std.specs.Option.{is_some}
use Rattle.std.specs.Str.{IsUtf8}
use Rattle.jsonb_spec.specs.Tree.{Mark}
use Rattle.jsonb_spec.specs.Source.Open.{Open, members_so_far}
use Rattle.jsonb_spec.specs.Source.{Found, Source, found_member}
use Rattle.text_write.specs.CheckSink.{CheckEnds, CheckHolds, unwritten}
use Rattle.text_write.specs.KeySink.{Held}
use Rattle.text_write.specs.KeySink.Held.{members}
use Rattle.text_members.specs.OpenMembers.{AreSame, Begins, Closes, EndIn, FindsRepeat, ReportsRepeatOf, next_start}
use Rattle.text_members.specs.declared.open_members.Repeat.{Repeat}
use Rattle.text_write.specs.declared.check.CheckSink.{CheckSink}
use Rattle.text_members.proofs.OpenMembers as opened

pub object_begun : {text : List ℕ} {r : CheckSink} {held : List Held} {cs : List Open} (key : Mark × List ℕ) (offset : ℕ) → CheckHolds text r true held cs → CheckHolds text r false (members (length r.members.entries.items) ∷ held) (members_so_far [] key offset ∷ cs)
object_begun {r = r} {cs = cs} key offset sink =
    record { members = opened.stay sink.members (opened.same r.members) (opened.none_in unwritten key offset cs); fits = (opened.counted sink.members, sink.fits) }

begin_at_none : (fs : List Found) → 0 ≡ next_start false (λ f. []) 0 fs
begin_at_none [] = refl
begin_at_none (f ∷ fs) = begin_at_none fs

-- a key behind the members before it
pub key_begun : {text : List ℕ} {r s : CheckSink} {first : ℕ} {held : List Held} {fs : List Found} {before : Mark × List ℕ} {offset : ℕ} {cs : List Open} (mark : Mark) (key : List ℕ) (after : ℕ)
    → CheckHolds text r false (members first ∷ held) (members_so_far fs before offset ∷ cs) → Begins key after 0 r.members s.members → IsUtf8 key
    → CheckHolds text s true (members first ∷ held) (members_so_far fs (mark, key) after ∷ cs)
key_begun {fs = fs} mark key after sink m utf8 = record { members = opened.key_begun mark key after 0 sink.members (begin_at_none fs) m utf8; fits = sink.fits }

-- a value behind its key
pub value_ended : {text : List ℕ} {r : CheckSink} {first : ℕ} {held : List Held} {fs : List Found} {key : Mark × List ℕ} {offset : ℕ} {cs : List Open} (s : Source) (next : Mark × List ℕ) (other : ℕ) → CheckHolds text r true (members first ∷ held) (members_so_far fs key offset ∷ cs)
    → CheckHolds text r false (members first ∷ held) (members_so_far (fs ++ found_member key s offset ∷ []) next other ∷ cs)
value_ended {r = r} {fs = fs} {key = key} {offset = offset} {cs = cs} s next other sink =
    record { members = opened.stay sink.members (opened.same r.members) (opened.filled_in unwritten fs key next s offset other cs); fits = sink.fits }

-- ---- the end of an object

-- a key that comes twice
pub repeat_reported : {text : List ℕ} {r : CheckSink} {first : ℕ} {held : List Held} {fs : List Found} {key : Mark × List ℕ} {offset : ℕ} {cs : List Open} (s : CheckSink) (found : Option Repeat) → CheckHolds text r false (members first ∷ held) (members_so_far fs key offset ∷ cs)
    → ((commas : Bool) → (bytes : Found → List ℕ) → (start : ℕ) → (gs : List Found) → EndIn commas bytes r.members first start gs → FindsRepeat s.members gs found) → is_some found ≡ true → MatchOption found (CheckEnds text s fs held cs) (ReportsRepeatOf s.members fs)
repeat_reported {fs = fs} {cs = cs} s None sink finds e = absurd cc
repeat_reported {fs = fs} {cs = cs} s (Some i) sink finds e = finds false (λ f. []) 0 fs (opened.ends_in sink.members sink.fits.0)

-- no such key
pub object_ended : {text : List ℕ} {r : CheckSink} {first : ℕ} {held : List Held} {fs : List Found} {key : Mark × List ℕ} {offset : ℕ} {cs : List Open} (s t : CheckSink) (found : Option Repeat) → CheckHolds text r false (members first ∷ held) (members_so_far fs key offset ∷ cs)
    → ((commas : Bool) → (bytes : Found → List ℕ) → (start : ℕ) → (gs : List Found) → EndIn commas bytes r.members first start gs → FindsRepeat s.members gs found) → is_some found ≡ false → AreSame r.members s.members → Closes first s.members t.members
    → MatchOption found (CheckEnds text t fs held cs) (ReportsRepeatOf t.members fs)
object_ended {fs = fs} {cs = cs} s t None sink finds e a closes =
    record { filled = record { members = opened.closed sink.members sink.fits.0 a closes; fits = sink.fits.1 }; new_keys = finds false (λ f. []) 0 fs (opened.ends_in sink.members sink.fits.0) }
object_ended {fs = fs} {cs = cs} s t (Some i) sink finds e a closes = absurd cc
