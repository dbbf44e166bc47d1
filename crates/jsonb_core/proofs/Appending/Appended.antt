-- A text that is appended to a buffer piece by piece.
use Rattle.std.proofs.Common.{◌≡◌, ℕ, ◌+◌, ◌<◌, ◌≤◌, List, [], ◌++◌, length, refl, sym, subst, ap, ◌∙◌, append_assoc, append-nil, length-append, arith, Result, Ok, Err, OnErr, OnOk, Bool, true, is_ok, if◌then◌else◌}
use Rattle.std.specs.Prelude.{IsErr, Vec, vec_len, vec_capacity}
use Rattle.std.specs.declared.alloc.Global.{Global}
use Rattle.jsonb_spec.specs.Text.Appending.{Extends, Appends, AppendsAllOrNothing, AppendsIf}

-- old became now by a front of the text, of which the rest is left
pub record IsUnderway (old now text left : List ℕ) : Type 0 where
  pub front : List ℕ
  pub appended : now ≡ old ++ front
  pub whole : text ≡ front ++ left

pub begun : (old text : List ℕ) → IsUnderway old old text text
begun old text = record { front = []; appended = sym (append-nil old); whole = refl }

pub goes_on : {old now text left : List ℕ} (new piece rest : List ℕ) → IsUnderway old now text left → left ≡ piece ++ rest → new ≡ now ++ piece → IsUnderway old new text rest
goes_on {old = old} new piece rest u split more = record {
  front = u.front ++ piece;
  appended = more ∙ ap (λ now. now ++ piece) u.appended ∙ append_assoc old u.front piece;
  whole = u.whole ∙ ap (λ left. u.front ++ left) split ∙ sym (append_assoc u.front piece rest);
}

-- what is left has no more bytes than the whole text without its front
pub fits : {old now text left : List ℕ} (piece rest : List ℕ) → IsUnderway old now text left → left ≡ piece ++ rest → length now + length piece ≤ length old + length text
fits {old = old} {now = now} {text = text} {left = left} piece rest u split =
    omega (
      arith,
      ap length u.appended,
      length-append old u.front,
      ap length u.whole,
      length-append u.front left,
      ap length split,
      length-append piece rest,
    )

-- what holds, holds after an answer
pub on_ok : {T E P : Type 0} (r : Result T E) → P → OnOk r P
on_ok (Ok x) p = p
on_ok (Err e) p = tt

-- what holds, holds after an error
pub on_err : {T E P : Type 0} (r : Result T E) → P → OnErr r P
on_err (Ok x) p = tt
on_err (Err e) p = p

-- ---- what a call appends

-- nothing that was there is lost
pub retained_on : {old now text left new : List ℕ} → IsUnderway old now text left → Extends now new → Extends old new
retained_on {old = old} u h = record { more = u.front ++ h.more; extended = h.extended ∙ ap (λ now. now ++ h.more) u.appended ∙ append_assoc old u.front h.more }

-- the same bytes by another name
pub appends_as : {X E : Type 0} (r : Result X E) (old new : Vec ℕ Global) (piece text : List ℕ) → piece ≡ text → Appends r old new piece → Appends r old new text
appends_as r old new piece text e h = subst (Appends r old new) e h

-- a piece behind one that is there
pub appends_then : {X E : Type 0} (r : Result X E) (old mid new : Vec ℕ Global) (first piece text : List ℕ) → text ≡ first ++ piece → mid.items ≡ old.items ++ first → vec_capacity old ≤ vec_capacity mid → Appends r mid new piece → Appends r old new text
appends_then (Ok x) old mid new first piece text split e space h =
    let is = h.ok ∙ ap (λ m. m ++ piece) e ∙ append_assoc old.items first piece ∙ ap (λ t. old.items ++ t) (sym split) in
    record { ok = is; retained = record { more = text; extended = is }; full = tt; capacity = omega (arith, space, h.capacity) }
appends_then (Err x) old mid new first piece text split e space h =
    record {
      ok = tt;
      retained = record { more = first ++ h.retained.more; extended = h.retained.extended ∙ ap (λ m. m ++ h.retained.more) e ∙ append_assoc old.items first h.retained.more };
      full = omega (arith, h.full, space, ap length e, length-append old.items first, ap length split, length-append first piece, old.ok.0, mid.ok.0);
      capacity = omega (arith, space, h.capacity);
    }

-- all that is left
pub appends_rest : {X E : Type 0} (r : Result X E) (old now new : Vec ℕ Global) (text left : List ℕ) → IsUnderway old.items now.items text left → vec_capacity old ≤ vec_capacity now → Appends r now new left → Appends r old new text
appends_rest r old now new text left u space h = appends_then r old now new u.front left text u.whole u.appended space h

-- what a call of `extend_from_slice` appends
pub extended : {X E : Type 0} (r : Result X E) (old new : Vec ℕ Global) (bytes text : List ℕ) → new.items ≡ (if is_ok r then old.items ++ bytes else old.items) → OnErr r (vec_capacity old < vec_len old + length bytes) → vec_capacity old ≤ vec_capacity new → bytes ≡ text → Appends r old new text
extended (Ok x) old new bytes text items full capacity same =
    let is = items ∙ ap (λ t. old.items ++ t) same in
    record { ok = is; retained = record { more = text; extended = is }; full = tt; capacity = capacity }
extended (Err x) old new bytes text items full capacity same =
    record { ok = tt; retained = record { more = []; extended = items ∙ sym (append-nil old.items) }; full = omega (arith, full, ap length same); capacity = capacity }

-- an error of a call is passed on
pub lacks : {X E : Type 0} (r : Result X E) (old new : Vec ℕ Global) (text : List ℕ) → IsErr r → Extends old.items new.items → vec_capacity old ≤ vec_capacity new → vec_capacity old < vec_len old + length text → Appends r old new text
lacks (Ok x) old new text is retained capacity full = cc
lacks (Err e) old new text is retained capacity full = record { ok = tt; retained = retained; full = full; capacity = capacity }

-- the error of the call that appends the first piece
pub lacks_first : {X E : Type 0} (r : Result X E) (old new : Vec ℕ Global) (first piece text : List ℕ) → text ≡ first ++ piece → IsErr r → Extends old.items new.items → vec_capacity old ≤ vec_capacity new → vec_capacity old < vec_len old + length first → Appends r old new text
lacks_first r old new first piece text split is retained capacity full = lacks r old new text is retained capacity (omega (arith, full, ap length split, length-append first piece))

-- what is appended where the test is true
pub appends_if : {X E : Type 0} (test : Bool) (r : Result X E) (old new : Vec ℕ Global) (text : List ℕ) → OnOk r (test ≡ true) → Appends r old new text → AppendsIf test r old new text
appends_if test (Ok x) old new text holds h = record { ok = h.ok; holds = holds; retained = h.retained; full = tt; capacity = h.capacity }
appends_if test (Err e) old new text holds h = record { ok = tt; holds = tt; retained = h.retained; full = λ is. h.full; capacity = h.capacity }

-- what `extend_from_slice` appends where the test is true
pub extended_if : {X E : Type 0} (test : Bool) (r : Result X E) (old new : Vec ℕ Global) (bytes text : List ℕ) → test ≡ true → new.items ≡ (if is_ok r then old.items ++ bytes else old.items) → OnErr r (vec_capacity old < vec_len old + length bytes) → vec_capacity old ≤ vec_capacity new → bytes ≡ text → AppendsIf test r old new text
extended_if test r old new bytes text holds items full capacity same = appends_if test r old new text (on_ok r holds) (extended r old new bytes text items full capacity same)

-- the same bytes by another name, where the test is true
pub appends_as_if : {X E : Type 0} (test : Bool) (r : Result X E) (old new : Vec ℕ Global) (piece text : List ℕ) → test ≡ true → piece ≡ text → Appends r old new piece → AppendsIf test r old new text
appends_as_if test r old new piece text holds same h = appends_if test r old new text (on_ok r holds) (appends_as r old new piece text same h)

-- what is appended as a whole or not at all, where the test is true
pub whole_if : {X E : Type 0} (test : Bool) (r : Result X E) (old new : Vec ℕ Global) (text : List ℕ) → test ≡ true → AppendsAllOrNothing r old new text → AppendsIf test r old new text
whole_if test (Ok x) old new text holds h = record { ok = h.ok; holds = holds; retained = record { more = text; extended = h.ok }; full = tt; capacity = h.capacity }
whole_if test (Err e) old new text holds h = record { ok = tt; holds = tt; retained = record { more = []; extended = h.err ∙ sym (append-nil old.items) }; full = λ is. h.full; capacity = h.capacity }
