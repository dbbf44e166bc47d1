-- A part that is inserted, or that can't be: what is reported.
use Rattle.std.proofs.Common.{◌≡◌, ℕ, Bool, true, false, List, Option, Some, None, Ok, Err, refl, sym, subst, ◌∙◌}
use Rattle.std.specs.Prelude.{Vec}
use Rattle.std.specs.declared.alloc.Global.{Global}
use Rattle.jsonb_spec.specs.SortKey.Readable.{IsAnyNumber}
use Rattle.jsonb_spec.specs.Grammar.{max_depth}
use Rattle.jsonb_spec.specs.SortKey.{key_of}
use Rattle.jsonb_spec.specs.Text.Range.{IsWithin}
use Rattle.jsonb_spec.specs.Tree.{Tree}
use Rattle.key_document.specs.Changes.{Answers}
use Rattle.key_document.specs.Inserting.{AnswersInsertion}
use Rattle.key_document.specs.declared.error.DocumentError.{DocumentError}
use Rattle.key_document.specs.declared.insert.Insertion.TheVariants.{Inserted, Present, Nowhere}
use Rattle.key_document.proofs.Changing.{false_true}
use Rattle.jsonb_spec.specs.Edit.{Outcome, becomes, remove}
use Rattle.jsonb_spec.specs.Edit.Insert.{add, changed_slot_at, with_inserted, without_member}
use Rattle.jsonb_spec.specs.Edit.Spots.{Answers as SpotAnswers}
use Rattle.key_edit.specs.Spots.{Occurs, SlotIn}
use Rattle.key_edit.specs.declared.slot.Slot.{Slot}
use Rattle.key_edit.proofs.Inserting.{removed_member}

-- the path leads nowhere
pub nowhere : (names : List (List ℕ)) (u t : Tree) (after : Bool) (old : Vec ℕ Global) → ((change : Option Tree → Outcome) → changed_slot_at change after names t ≡ None)
    → AnswersInsertion (with_inserted names u after t) (without_member names t) (Ok Nowhere) old old
nowhere names u t after old none =
    subst (λ o. AnswersInsertion o (without_member names t) (Ok Nowhere) old old) (sym (none (add u)))
    (subst (λ o. AnswersInsertion None o (Ok Nowhere) old old) (sym (sym (removed_member after names t) ∙ none remove)) (refl, refl))

-- a member is there
some_without : (o : Option Tree) (old : Vec ℕ Global) → (object : Bool) (name front behind : List ℕ) (depth_left : ℕ) (w : Tree) → SpotAnswers key_of (λ v. IsWithin IsAnyNumber v max_depth) object name front behind depth_left (remove (Some w)) o → AnswersInsertion None o (Ok Present) old old
some_without None old object name front behind depth_left w h = absurd h
some_without (Some v) old object name front behind depth_left w h = (refl, refl)

none_with : (o : Option Tree) (object : Bool) (name front behind : List ℕ) (depth_left : ℕ) (u w : Tree) → SpotAnswers key_of (λ v. IsWithin IsAnyNumber v max_depth) object name front behind depth_left (add u (Some w)) o → o ≡ None
none_with None object name front behind depth_left u w h = refl
none_with (Some v) object name front behind depth_left u w h = absurd h

pub present : (names : List (List ℕ)) (u t : Tree) (after : Bool) (key : List ℕ) (slot : Slot) (old : Vec ℕ Global) → SlotIn (λ change. changed_slot_at change after names t) key slot → slot.spot.found ≡ true
    → AnswersInsertion (with_inserted names u after t) (without_member names t) (Ok Present) old old
present names u t after key slot old (s, b) found = go s.there s.occurs (s.answers (add u)) (s.answers remove)
  where
    go : (there : Option Tree) → Occurs slot.object s.name slot.spot s.behind there
        → SpotAnswers key_of (λ v. IsWithin IsAnyNumber v max_depth) slot.object s.name s.front s.behind slot.depth_left (add u there) (with_inserted names u after t)
        → SpotAnswers key_of (λ v. IsWithin IsAnyNumber v max_depth) slot.object s.name s.front s.behind slot.depth_left (remove there) (changed_slot_at remove after names t)
        → AnswersInsertion (with_inserted names u after t) (without_member names t) (Ok Present) old old
    go None st h g = absurd (false_true (sym st.0 ∙ found))
    go (Some w) st h g =
        subst (λ o. AnswersInsertion o (without_member names t) (Ok Present) old old) (sym (none_with (with_inserted names u after t) slot.object s.name s.front s.behind slot.depth_left u w h))
        (subst (λ o. AnswersInsertion None o (Ok Present) old old) (removed_member after names t) (some_without (changed_slot_at remove after names t) old slot.object s.name s.front s.behind slot.depth_left w g))

-- a part is put where none is
pub adds : (u : Tree) (object : Bool) (name : List ℕ) (behind : List ℕ) (slot : Slot) (there : Option Tree) → Occurs object name slot.spot behind there → slot.spot.found ≡ false → add u there ≡ becomes u
adds u object name behind slot None st lost = refl
adds u object name behind slot (Some w) st lost = absurd (false_true (sym lost ∙ st.0))

some_with : (o : Option Tree) (object : Bool) (name front behind : List ℕ) (depth_left : ℕ) (u : Tree) (outcome : Outcome) → outcome ≡ becomes u → SpotAnswers key_of (λ v. IsWithin IsAnyNumber v max_depth) object name front behind depth_left outcome o → o ≡ None → ⊥
some_with o object name front behind depth_left u outcome e h none =
    subst (λ o. SpotAnswers key_of (λ v. IsWithin IsAnyNumber v max_depth) object name front behind depth_left (becomes u) o) none (subst (λ c. SpotAnswers key_of (λ v. IsWithin IsAnyNumber v max_depth) object name front behind depth_left c o) e h)

pub is_inserted : (names : List (List ℕ)) (u t : Tree) (after : Bool) (key : List ℕ) (slot : Slot) (s : SlotIn (λ change. changed_slot_at change after names t) key slot) → add u s.0.there ≡ becomes u → with_inserted names u after t ≡ None → ⊥
is_inserted names u t after key slot (s, b) e none = some_with (with_inserted names u after t) slot.object s.name s.front s.behind slot.depth_left u (add u s.there) e (s.answers (add u)) none

pub inserted_ok : (o other : Option Tree) (b : Bool) (old new : Vec ℕ Global) → (o ≡ None → ⊥) → Answers o (Ok b) old new → AnswersInsertion o other (Ok Inserted) old new
inserted_ok None other b old new some h = absurd (some refl)
inserted_ok (Some v) other b old new some h = (record { ok = h.0.ok; fits = h.0.fits; errors = tt }, refl)

pub inserted_err : (o other : Option Tree) (e : DocumentError) (old new : Vec ℕ Global) → (o ≡ None → ⊥) → Answers o (Err e) old new → AnswersInsertion o other (Err e) old new
inserted_err None other e old new some h = absurd (some refl)
inserted_err (Some v) other e old new some h = (record { ok = tt; fits = tt; errors = h.0.errors }, tt)
