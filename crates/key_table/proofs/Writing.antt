-- Tables that are appended.
use Rattle.std.proofs.Common.{◌≡◌, ℕ, ◌+◌, ◌<◌, ◌≤◌, Bool, List, ◌++◌, Option, Some, None, Result, Ok, Err, length, ap, ◌∙◌, arith, append_assoc, length-append}
use Rattle.std.specs.Prelude.{Vec, vec_len, vec_capacity, IsErrAnd}
use Rattle.std.specs.declared.alloc.Global.{Global}
use Rattle.jsonb_spec.specs.Tree.{Members}
use Rattle.key_walk.specs.declared.find.NoKey.{NoKey}
use Rattle.key_table.specs.Entries.{OfMembers, WritesTable}
use Rattle.jsonb_spec.specs.Table.{table_of_members}
use Rattle.key_table.specs.declared.error.TableError.{TableError}
use Rattle.key_table.specs.declared.error.TableError.TheVariants.{OutOfMemory}
use Rattle.key_table.proofs.Walking.{Walked}

-- ---- how many members

pub same_count : (m n : ℕ) → ◌≡◌ {A = Result (Option ℕ) NoKey} (Ok (Some m)) (Ok (Some n)) → m ≡ n
same_count m n e = cc

pub no_count : (n : ℕ) → ◌≡◌ {A = Result (Option ℕ) NoKey} (Ok None) (Ok (Some n)) → ⊥
no_count n e = cc

pub error_count : (e : NoKey) (n : ℕ) → ◌≡◌ {A = Result (Option ℕ) NoKey} (Err e) (Ok (Some n)) → ⊥
error_count e n x = cc

-- ---- what is left to append

-- with what is left of the table behind it, the buffer has all of it
abbrev pub Completes : Members → List ℕ → List ℕ → List ℕ → Type 0
Completes ms old now left = now ++ left ≡ old ++ table_of_members ms

abbrev pub Writing : List ℕ → List ℕ → List ℕ → List ℕ → ℕ → Type 0
Writing bytes old now left count = OfMembers bytes (λ ms. Walked (Completes ms old now) ms bytes left count)

-- bytes that are left are appended
pub completes_on : (ms : Members) (old now new bytes left : List ℕ) → Completes ms old now (bytes ++ left) → new ≡ now ++ bytes → Completes ms old new left
completes_on ms old now new bytes left all is = ap (λ l. l ++ left) is ∙ append_assoc now bytes left ∙ all

-- their capacity is missing
pub lacks_left : (ms : Members) (old now : Vec ℕ Global) (bytes left : List ℕ) → Completes ms old.items now.items (bytes ++ left) → vec_capacity old ≤ vec_capacity now → vec_capacity now < vec_len now + length bytes → vec_capacity old < vec_len old + length (table_of_members ms)
lacks_left ms old now bytes left all most full =
    omega (arith, most, full, old.ok.0, now.ok.0, ap length all, length-append now.items (bytes ++ left), length-append bytes left, length-append old.items (table_of_members ms))

pub runs_out : (ms : Members) (r : Result Bool TableError) (old new : Vec ℕ Global) → IsErrAnd r (λ e. e ≡ OutOfMemory) → vec_capacity old < vec_len old + length (table_of_members ms) → WritesTable ms r old new
runs_out ms (Ok x) old new h full = absurd h
runs_out ms (Err e) old new h full = (h, full)
