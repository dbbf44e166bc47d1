-- What is said of a walk over a document.
use Rattle.std.proofs.Common.{◌≡◌, ◌∙◌, ℕ, Bool, Result, ap, if◌then◌else◌, List, [], ◌∷◌, true, false, Some, None, Ok, Err, refl}
use Rattle.jsonb_c.specs.DocumentWalk.{MeetsEvent, MovesTo, SkipsOpen, event_of}
use Rattle.jsonb_c.specs.declared.document_walk.Event.{Event}
use Rattle.jsonb_spec.specs.Tree.{Tree}
use Rattle.key_document.specs.Walk.{MeetsNext, MovesToMember, SkipsFirst}
use Rattle.key_document.specs.declared.error.DocumentError.{DocumentError}
use Rattle.key_document.specs.declared.walk.Met.{Met}
use Rattle.key_document.specs.declared.walk.Walk.{Walk}
use Rattle.jsonb_spec.specs.SortKey.Events.{Event as TreeEvent}
use Rattle.jsonb_spec.specs.SortKey.Open.{Open, items, members}

pub next_met : (t : Tree) (events : List TreeEvent) (met : Met) (event : Event) (walk : Walk) → event ≡ event_of met → MeetsNext t events (Ok (Some met)) walk → MeetsEvent t events 0 event walk
next_met t [] met event walk is x = absurd x
next_met t (e ∷ es) met event walk is x = (refl, record { met = met; is_met = x.0; reported = is }, x.1)

pub none_met : (t : Tree) (events : List TreeEvent) (event : Event) (walk : Walk) → MeetsNext t events (Ok None) walk → MeetsEvent t events 5 event walk
none_met t [] event walk x = refl
none_met t (e ∷ es) event walk x = absurd x

pub never_next : (t : Tree) (events : List TreeEvent) (e : DocumentError) (walk : Walk) → MeetsNext t events (Err e) walk → ⊥
never_next t [] e walk x = x
never_next t (f ∷ es) e walk x = x

pub skips : (t : Tree) (opens : List Open) (walk : Walk) → SkipsFirst t opens (Ok true) walk → SkipsOpen t opens 0 walk
skips t [] walk x = absurd cc
skips t (o ∷ under) walk x = (refl, x.1)

pub skips_none : (t : Tree) (opens : List Open) (walk : Walk) → SkipsFirst t opens (Ok false) walk → SkipsOpen t opens 5 walk
skips_none t [] walk x = refl
skips_none t (o ∷ under) walk x = absurd cc

pub never_skips : (t : Tree) (opens : List Open) (e : DocumentError) (walk : Walk) → SkipsFirst t opens (Err e) walk → ⊥
never_skips t [] e walk x = absurd cc
never_skips t (o ∷ under) e walk x = x

abbrev pub status_of : Bool → ℕ
status_of found = if found then 0 else 5

stays : (found : Bool) → ◌≡◌ {A = Result Bool DocumentError} (Ok found) (Ok false) → found ≡ false
stays found e = cc

pub moves : (t : Tree) (name : List ℕ) (opens : List Open) (old new : Walk) (found : Bool) (status : ℕ) → status ≡ (if found then 0 else 5) → MovesToMember t name opens (Ok found) old new → MovesTo t name opens status old new
moves t name [] old new found status is x = (is ∙ ap status_of (stays found x.0), x.1)
moves t name (items ts ∷ under) old new found status is x = (is ∙ ap status_of (stays found x.0), x.1)
moves t name (members ms ∷ under) old new found status is x = (is ∙ ap status_of x.0, x.1)

pub never_moves : (t : Tree) (name : List ℕ) (opens : List Open) (e : DocumentError) (old new : Walk) → MovesToMember t name opens (Err e) old new → ⊥
never_moves t name [] e old new x = absurd cc
never_moves t name (items ts ∷ under) e old new x = absurd cc
never_moves t name (members ms ∷ under) e old new x = x
