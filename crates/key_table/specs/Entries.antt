-- What the private parts of the calls on tables give.
use Rattle.std.specs.Prelude.{◌≡◌, ◌≤◌, ℕ, Bool, false, List, ◌++◌, length, nat_le, Option, Result, IsTrue, MatchOption, MatchResult, Vec}
use Rattle.std.specs.Borrow.{Bor}
use Rattle.std.specs.declared.alloc.Global.{Global}
use Rattle.jsonb_spec.specs.SortKey.Readable.{IsAnyNumber}
use Rattle.jsonb_spec.specs.Proper.{HaveProperParts}
use Rattle.jsonb_spec.specs.SortKey.{key_of, members_key}
use Rattle.jsonb_spec.specs.Text.Range.{HaveWithin}
use Rattle.jsonb_spec.specs.Tree.{Tree, object, Members}
use Rattle.jsonb_spec.specs.SortKey.Text.{LacksCapacity}
use Rattle.jsonb_spec.specs.SortKey.Found.{members_len}
use Rattle.jsonb_spec.specs.Table.{has_table, table_of_members}
use Rattle.key_table.specs.declared.error.TableError.{TableError}
use Rattle.key_table.specs.declared.error.TableError.TheVariants.{OutOfMemory}

-- The tree is an object of these members, whose key has at least 256 and at most 65,535 bytes.
pub record IsObjectOf (t : Tree) (key : List ℕ) : Type 0 where
  pub ms : Members
  pub is : t ≡ object ms
  pub occurs : key ≡ members_key ms
  pub least : 256 ≤ length (key_of t)
  pub most : length (key_of t) ≤ 65535

-- The members' key is left where the tree is such an object; else it has no table.
abbrev pub LeavesMembers : Tree → Option (Bor (List ℕ)) → Type 0
LeavesMembers t result = MatchOption result (has_table t ≡ false) (λ members. IsObjectOf t members.now)

-- Whichever members' key the bytes are, this is so of them.
abbrev pub OfMembers : List ℕ → (Members → Type 0) → Type 0
OfMembers bytes Is =
    (ms : Members) → HaveProperParts ms → HaveWithin IsAnyNumber ms 511 → bytes ≡ members_key ms → Is ms

-- It is reported whether there are at least 4 members, and where there are, their table is appended. Else memory ran
-- out, as the capacity for the table is missing.
abbrev pub WritesTable : Members → Result Bool TableError → Vec ℕ Global → Vec ℕ Global → Type 0
WritesTable ms result old new = MatchResult result
    (λ enough. (enough ≡ nat_le 4 (members_len ms)) × (IsTrue enough → new.items ≡ old.items ++ table_of_members ms))
    (λ e. (e ≡ OutOfMemory) × LacksCapacity old (table_of_members ms))
