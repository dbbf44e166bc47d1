-- Bytes that are appended to a buffer, one piece after the other.
use Rattle.std.proofs.Common.{◌≡◌, ℕ, ◌+◌, ◌<◌, ◌≤◌, List, [], ◌++◌, length, Result, Ok, Err, sym, ap, ◌∙◌, arith, append-nil, append_assoc, length-append}
use Rattle.std.specs.Prelude.{IsErrAnd, OnOk, Vec, vec_len, vec_capacity}
use Rattle.std.specs.declared.alloc.Global.{Global}
use Rattle.key_value.specs.declared.error.KeyError.{KeyError}
use Rattle.key_value.specs.declared.error.KeyError.TheVariants.{OutOfMemory}
use Rattle.jsonb_spec.specs.Text.Appending.{Appends}
use Rattle.jsonb_spec.specs.SortKey.Text.{Preserves}
use Rattle.key_text.specs.Writes.{Writes}

-- ---- two pieces

pub no_capacity_first : (old : Vec ℕ Global) (front back : List ℕ) → vec_capacity old < vec_len old + length front → vec_capacity old < vec_len old + length (front ++ back)
no_capacity_first old front back h = omega (arith, h, length-append front back)

pub no_capacity_second : (old now : Vec ℕ Global) (front back : List ℕ) → now.items ≡ old.items ++ front → vec_capacity old ≤ vec_capacity now → vec_capacity now < vec_len now + length back → vec_capacity old < vec_len old + length (front ++ back)
no_capacity_second old now front back is most h = omega (arith, h, most, ap length is, length-append old.items front, length-append front back)

pub both : (old now new front back : List ℕ) → now ≡ old ++ front → new ≡ now ++ back → new ≡ old ++ (front ++ back)
both old now new front back is more = more ∙ ap (λ t. t ++ back) is ∙ append_assoc old front back

-- ---- errors

-- the error of an append
pub out_of_memory : {X : Type 0} (left : X → List ℕ) (r : Result X KeyError) (old new : Vec ℕ Global) (more text : List ℕ) → IsErrAnd r (λ e. e ≡ OutOfMemory) → vec_capacity old < vec_len old + length text → Writes left r old new more text
out_of_memory left (Ok x) old new more text h full = absurd h
out_of_memory left (Err e) old new more text h full = (h, full)

-- the error of a call that appends, passed on
pub passed_on : {X : Type 0} (left : X → List ℕ) (r : Result X KeyError) (old new : Vec ℕ Global) (more text : List ℕ) (error : KeyError) → IsErrAnd r (λ e. e ≡ error) → error ≡ OutOfMemory → vec_capacity old < vec_len old + length text → Writes left r old new more text
passed_on left (Ok x) old new more text error h is full = absurd h
passed_on left (Err e) old new more text error h is full = (h ∙ is, full)

-- ---- what is held

pub retained : (v : Vec ℕ Global) → Preserves v v
retained v = record { retained = record { more = []; extended = sym (append-nil v.items) }; capacity = omega arith }

pub preserves_on : (u v w : Vec ℕ Global) → Preserves u v → Preserves v w → Preserves u w
preserves_on u v w p q = record {
  retained = record { more = p.retained.more ++ q.retained.more; extended = q.retained.extended ∙ ap (λ t. t ++ q.retained.more) p.retained.extended ∙ append_assoc u.items p.retained.more q.retained.more };
  capacity = omega (arith, p.capacity, q.capacity);
}

pub retained_by : {X E : Type 0} {r : Result X E} {bytes : List ℕ} (v w : Vec ℕ Global) → Appends r v w bytes → Preserves v w
retained_by v w p = record { retained = p.retained; capacity = p.capacity }

-- ---- what follows what was appended

-- the text by another name
pub as_text : {X : Type 0} (left : X → List ℕ) (r : Result X KeyError) (old new : Vec ℕ Global) (more back text : List ℕ) → text ≡ back → Writes left r old new more back → Writes left r old new more text
as_text left (Ok x) old new more back text e h = (h.0, h.1 ∙ ap (λ t. old.items ++ t) (sym e))
as_text left (Err x) old new more back text e h = (h.0, omega (arith, h.1, ap length e))

-- an error says nothing of a success
pub not_ok : (X : Type 0) {T : Type 0} (r : Result T KeyError) (error : KeyError) → IsErrAnd r (λ e. e ≡ error) → OnOk r X
not_ok X (Ok x) error h = absurd h
not_ok X (Err e) error h = tt
