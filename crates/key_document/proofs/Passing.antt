-- Zeros passed from left to right.
use Rattle.std.proofs.Common.{◌≡◌, ℕ, ◌+◌, ◌-◌, ◌^◌, ◌<◌, ◌≤◌, List, ◌∷◌, ◌++◌, sym, ap, ◌∙◌, replicate, take, Bor, Option, Result, Ok, Err, length, drop, refl, arith}
use Rattle.std.specs.Prelude.{IsErrAnd, Vec, vec_len, vec_capacity}
use Rattle.std.specs.declared.alloc.Global.{Global}
use Rattle.key_document.specs.Changes.{CopiesOn}
use Rattle.key_document.specs.declared.error.DocumentError.{DocumentError}
use Rattle.key_document.specs.declared.error.DocumentError.TheVariants.{OutOfMemory}
use Rattle.jsonb_spec.specs.Document.Numbers.{Pends, PendsAt}
use Rattle.jsonb_spec.specs.Document.Zeros.{zeros_of}
use Rattle.key_zeros.proofs.Taking.{SkipLeft, CopyLeft, copies_some, none_skipped, entry_reached, drop_entry}

-- what pends of the counts that are left, of which so many are still to be passed
pub record PassLeft (counts : List ℕ) (bytes left : ℕ) (next : Option (ℕ × ℕ × Bor (List ℕ))) : Type 0 where
  pub rest : List ℕ
  pub skip : SkipLeft counts bytes left rest
  pub pends : Pends skip.others next

pub passes : (counts : List ℕ) (bytes : ℕ) (next : Option (ℕ × ℕ × Bor (List ℕ))) → Pends counts next → bytes ≤ length counts → PassLeft counts bytes bytes next
passes counts bytes next p enough = record { rest = zeros_of 0 counts; skip = record { others = counts; occurs = refl; same = refl; enough = enough; fewer = omega arith }; pends = p }

-- ---- and copied

-- What is left to copy of so many bytes, and what pends of it.
pub record CopyOn (counts : List ℕ) (plain bytes : ℕ) (old now : List ℕ) (left more : ℕ) (next : Option (ℕ × ℕ × Bor (List ℕ))) : Type 0 where
  pub others : List ℕ
  pub pends : Pends others next
  pub copy : CopyLeft plain (take bytes counts) old now others left more
  pub same : drop left others ≡ drop bytes counts
  pub fewer : length others ≤ length counts

pub copies_on : (counts : List ℕ) (plain bytes : ℕ) (old : List ℕ) (next : Option (ℕ × ℕ × Bor (List ℕ))) → Pends counts next → bytes ≤ length counts → length counts < 2 ^ 63 → plain + bytes < 2 ^ 63 → CopyOn counts plain bytes old old bytes plain next
copies_on counts plain bytes old next p enough short fit = record { others = counts; pends = p; copy = copies_some plain bytes counts old enough short fit; same = refl; fewer = omega arith }

abbrev as_skip : (counts : List ℕ) (plain bytes : ℕ) (old now : List ℕ) (left more : ℕ) (next : Option (ℕ × ℕ × Bor (List ℕ))) (x : CopyOn counts plain bytes old now left more next) → SkipLeft counts bytes left (zeros_of 0 x.others)
as_skip counts plain bytes old now left more next x = record { others = x.others; occurs = refl; same = x.same; enough = x.copy.enough; fewer = x.fewer }

pub none_left : (counts : List ℕ) (plain bytes : ℕ) (old now : List ℕ) (left more : ℕ) (next : Option (ℕ × ℕ × Bor (List ℕ))) (x : CopyOn counts plain bytes old now left more next) → x.others ≡ replicate (length x.others) 0 → drop bytes counts ≡ replicate (length (drop bytes counts)) 0
none_left counts plain bytes old now left more next x all = none_skipped counts bytes left (zeros_of 0 x.others) (as_skip counts plain bytes old now left more next x) all

pub one_left : (counts : List ℕ) (plain bytes : ℕ) (old now : List ℕ) (left more : ℕ) (next : Option (ℕ × ℕ × Bor (List ℕ))) (x : CopyOn counts plain bytes old now left more next) (before count : ℕ) (behind : List ℕ) → PendsAt x.others before count behind → (rest : ℕ) → before ≡ rest + left → PendsAt (drop bytes counts) rest count behind
one_left counts plain bytes old now left more next x before count behind p rest e = entry_reached counts bytes left (zeros_of 0 x.others) (as_skip counts plain bytes old now left more next x) before count behind p rest e

pub still_same : (counts others later : List ℕ) (bytes left before count : ℕ) → drop left others ≡ drop bytes counts → others ≡ replicate before 0 ++ count ∷ later → before < left → drop (left - (before + 1)) later ≡ drop bytes counts
still_same counts others later bytes left before count same is less = sym (drop_entry left before count later less) ∙ ap (drop left) (sym is) ∙ same

pub no_capacity_on : (plain : ℕ) (taken left : List ℕ) (r : Result (ℕ × Option (ℕ × ℕ × Bor (List ℕ))) DocumentError) (old new : Vec ℕ Global) → IsErrAnd r (λ e. e ≡ OutOfMemory) → vec_capacity old < vec_len old + length (zeros_of plain taken) → CopiesOn plain taken left r old new
no_capacity_on plain taken left (Ok s) old new is full = absurd is
no_capacity_on plain taken left (Err e) old new is full = (is, full)
