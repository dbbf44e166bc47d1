-- What calls on tables give.
use Rattle.std.specs.Prelude.{◌≡◌, ℕ, ◌+◌, List, ◌++◌, length, IfOk, IfSome, IsTrue, MatchOption, Bool, true, Option, Some, None, Result, Ok, MatchResult, ◌≤◌, Vec, vec_capacity, ⊤}
use Rattle.std.specs.declared.alloc.Global.{Global}
use Rattle.jsonb_spec.specs.Accessors.{get_by_name}
use Rattle.jsonb_spec.specs.SortKey.{key_of}
use Rattle.jsonb_spec.specs.Text.Appending.{Extends}
use Rattle.jsonb_spec.specs.Tree.{Tree}
use Rattle.jsonb_spec.specs.SortKey.Text.{LacksCapacity}
use Rattle.jsonb_spec.specs.SortKey.AtKeys.{OfKey}
use Rattle.jsonb_spec.specs.SortKey.Found.{IsRange}
use Rattle.key_walk.specs.declared.find.NoKey.{NoKey}
use Rattle.jsonb_spec.specs.Table.{has_table, table_of}
use Rattle.key_table.specs.declared.error.TableError.{TableError}
use Rattle.key_table.specs.declared.error.TableError.TheVariants.{OutOfMemory}

-- The table of the value is appended, and it is reported whether it has one. Else memory ran out, as the capacity for
-- the table is missing.
abbrev pub AppendsTable : Tree → Result Bool TableError → Vec ℕ Global → Vec ℕ Global → Type 0
AppendsTable t result old new = MatchResult result
    (λ reported. (reported ≡ has_table t) × (new.items ≡ old.items ++ table_of t))
    (λ e. (e ≡ OutOfMemory) × LacksCapacity old (table_of t))

-- Nothing that was there is lost, and bytes are appended only where a table is reported.
pub record PreservesUnlessTable (result : Result Bool TableError) (old new : Vec ℕ Global) : Type 0 where
  pub retained : Extends old.items new.items
  pub unless : (result ≡ Ok true → ⊥) → new.items ≡ old.items
  pub capacity : vec_capacity old ≤ vec_capacity new

-- What is found is where the part is in the key, or nothing where there is none.
abbrev pub ReportsRange : List ℕ → Option Tree → Result (Option (ℕ × ℕ)) NoKey → Type 0
ReportsRange key (Some part) (Ok (Some r)) = IsRange key r.0 r.1 (key_of part)
ReportsRange key None (Ok None) = ⊤
ReportsRange key part found = ⊥

-- Whichever value's key the bytes are, and these its table, the range of the member's value of that name is found, or
-- nothing where there is none. Of any bytes what is found is within them.
pub record FindsByTable (key table name : List ℕ) (result : Result (Option (ℕ × ℕ)) NoKey) : Type 0 where
  pub found : OfKey key (λ t. IsTrue (has_table t) → table ≡ table_of t → ReportsRange key (get_by_name name t) result)
  pub within : IfOk result (λ answer. IfSome answer (λ r. r.0 + r.1 ≤ length key))

-- The range of these bytes in the key is found.
abbrev pub GivesRange : List ℕ → List ℕ → Result (Option (ℕ × ℕ)) NoKey → Type 0
GivesRange key bytes result =
    MatchResult result (λ answer. MatchOption answer ⊥ (λ r. IsRange key r.0 r.1 bytes)) (λ e. ⊥)
