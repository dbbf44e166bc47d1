-- A part that is put at a slot.
use Rattle.std.proofs.Common.{◌≡◌, ℕ, ◌+◌, ◌<◌, ◌↔◌, Bool, true, false, List, ◌++◌, Option, Some, None, MatchBool, MatchOption, Result, Ok, Err, is_err, length, Vec, vec_len, Global, refl, sym, ap, subst, ◌∙◌, append_assoc}
use Rattle.std.specs.Vec.{vec_capacity}
use Rattle.std.specs.declared.alloc.AllocError.{AllocError}
use Rattle.jsonb_spec.specs.SortKey.Readable.{IsAnyNumber}
use Rattle.jsonb_spec.specs.SortKey.Open.{name_key}
use Rattle.jsonb_spec.specs.Grammar.{max_depth}
use Rattle.jsonb_spec.specs.SortKey.{key_of}
use Rattle.jsonb_spec.specs.Text.Appending.{AppendsAllOrNothing}
use Rattle.jsonb_spec.specs.Text.Range.{IsWithin}
use Rattle.jsonb_spec.specs.Tree.{Tree}
use Rattle.jsonb_spec.specs.Edit.{Outcome, becomes, set_to}
use Rattle.jsonb_spec.specs.Edit.Spots.{Answers}
use Rattle.key_edit.specs.Spots.{SpotIn, Occurs}
use Rattle.key_edit.specs.declared.spot.Spot.{Spot}
use Rattle.key_edit.proofs.Located.{tree_fits}

false_true : false ≡ true → ⊥
false_true e = cc

pub it_fits : (P Q : Type 0) {b : Bool} → b ≡ true → MatchBool b P Q → P
it_fits P Q e m = subst (λ b. MatchBool b P Q) e m

pub not_fits : (P Q : Type 0) {b : Bool} → b ≡ false → MatchBool b P Q → Q
not_fits P Q e m = subst (λ b. MatchBool b P Q) e m

-- where the value of a part is that is there
pub value_front : (object : Bool) (name front key : List ℕ) (spot : Spot) (behind : List ℕ) (there : Option Tree) → key ≡ front ++ spot.entry.now → Occurs object name spot behind there → spot.found ≡ true → key ≡ (front ++ name_key object name) ++ spot.value.now
value_front object name front key spot behind None e st found = absurd (false_true (sym st.0 ∙ found))
value_front object name front key spot behind (Some t) e st found = e ∙ ap (λ l. front ++ l) st.1 ∙ sym (append_assoc front (name_key object name) spot.value.now)

-- what is answered where this is there
pub put_answered : (P : Tree → Type 0) (changed : (Option Tree → Outcome) → Option Tree) (object : Bool) (asked key : List ℕ) (depth_left : ℕ) (spot : Spot) (behind : List ℕ) (s : SpotIn key_of (tree_fits max_depth) changed object asked key depth_left spot) → s.behind ≡ behind → (u : Tree) (change : Option Tree → Outcome) → change s.there ≡ becomes u
    → ((v : Tree) → key_of v ≡ s.front ++ (name_key object s.name ++ (key_of u ++ behind)) → (IsWithin IsAnyNumber v max_depth ↔ IsWithin IsAnyNumber u depth_left) → P v) → MatchOption (changed change) ⊥ P
put_answered P changed object asked key depth_left spot behind s same u change is then = go (changed change) (subst (λ o. Answers key_of (tree_fits max_depth) object s.name s.front behind depth_left o (changed change)) is (subst (λ b. Answers key_of (tree_fits max_depth) object s.name s.front b depth_left (change s.there) (changed change)) same (s.answers change)))
  where
    go : (x : Option Tree) → Answers key_of (tree_fits max_depth) object s.name s.front behind depth_left (becomes u) x → MatchOption x ⊥ P
    go None h = h
    go (Some v) h = then v h.0 h.1

pub appended : (r : Result (Unit {0}) AllocError) (old new : Vec ℕ Global) (bytes : List ℕ) → is_err r ≡ false → AppendsAllOrNothing r old new bytes → new.items ≡ old.items ++ bytes
appended (Ok x) old new bytes e a = a.ok
appended (Err x) old new bytes e a = absurd (false_true (sym e))

pub lacking : (r : Result (Unit {0}) AllocError) (old new : Vec ℕ Global) (bytes : List ℕ) → is_err r ≡ true → AppendsAllOrNothing r old new bytes → vec_capacity old < vec_len old + length bytes
lacking (Ok x) old new bytes e a = absurd (false_true e)
lacking (Err x) old new bytes e a = a.full

-- ---- set

pub set_there : (object : Bool) (name : List ℕ) (spot : Spot) (behind : List ℕ) (u : Tree) (create : Bool) (there : Option Tree) → Occurs object name spot behind there → spot.found ≡ true → set_to u create there ≡ becomes u
set_there object name spot behind u create None st found = absurd (false_true (sym st.0 ∙ found))
set_there object name spot behind u create (Some t) st found = refl

pub set_made : (u : Tree) (create : Bool) (there : Option Tree) → create ≡ true → set_to u create there ≡ becomes u
set_made u true None e = refl
set_made u false None e = absurd (false_true e)
set_made u create (Some t) e = refl
