-- What is appended of a key that is changed, and of two that are merged.
use Rattle.std.specs.Prelude.{◌≡◌, ℕ, ◌+◌, ◌<◌, Bool, List, ◌++◌, length, Result, OnOk, IfErr, MatchBool, MatchResult, Vec, vec_len, codes}
use Rattle.std.specs.Vec.{vec_capacity}
use Rattle.std.specs.Borrow.{Bor}
use Rattle.std.specs.declared.alloc.Global.{Global}
use Rattle.jsonb_spec.specs.SortKey.Readable.{IsAnyNumber, IsReadable}
use Rattle.jsonb_spec.specs.SortKey.Checked.{HaveReadable}
use Rattle.key_walk.specs.declared.find.NoKey.{NoKey as FindsNoKey}
use Rattle.jsonb_spec.specs.Grammar.{max_depth}
use Rattle.jsonb_spec.specs.SortKey.{key_of, members_key}
use Rattle.jsonb_spec.specs.Text.Range.{IsWithin}
use Rattle.jsonb_spec.specs.Tree.{Tree, object, Members}
use Rattle.key_edit.specs.declared.error.EditError.{EditError}
use Rattle.key_edit.specs.declared.error.EditError.TheVariants.{NoKey, TooDeep, OutOfMemory}
use Rattle.jsonb_spec.specs.Edit.{merged_members}

-- ---- what is appended

-- Why the key of the value isn't appended: it has too many arrays and objects in one another, or the capacity for the
-- key is missing.
abbrev pub IsLacking : Tree → Vec ℕ Global → EditError → Type 0
IsLacking t old TooDeep = IsWithin IsAnyNumber t max_depth → ⊥
IsLacking t old OutOfMemory = vec_capacity old < vec_len old + length (key_of t)
IsLacking t old NoKey = ⊥

-- The key of the value is appended, which has no more than 512 arrays and objects in one another.
pub record AppendsKey {X : Type 0} (t : Tree) (result : Result X EditError) (old new : Vec ℕ Global) : Type 0 where
  pub ok : OnOk result (new.items ≡ old.items ++ key_of t)
  pub fits : OnOk result (IsWithin IsAnyNumber t max_depth)
  pub errors : IfErr result (IsLacking t old)

-- Whichever values the two keys are of, the key of both in one is appended, as this says.
abbrev pub AppendsBoth : {X : Type 0} → (Tree → Tree → Tree) → List ℕ → List ℕ → Result X EditError → Vec ℕ Global
    → Vec ℕ Global → Type 0
AppendsBoth both left right result old new =
    (t u : Tree) → IsReadable t → left ≡ key_of t → IsReadable u → right ≡ key_of u
    → AppendsKey (both t u) result old new

-- Whichever members these are the keys of, the key of the object with all of them is appended.
abbrev pub AppendsMembersOfBoth : {X : Type 0} → List ℕ → List ℕ → Result X EditError → Vec ℕ Global → Vec ℕ Global
    → Type 0
AppendsMembersOfBoth left right result old new =
    (ms ns : Members) → HaveReadable ms → HaveReadable ns → left ≡ members_key ms → right ≡ members_key ns
    → AppendsKey (object (merged_members ms ns)) result old new

-- These bytes are what may be in an array; or there are too many arrays and objects in one another.
abbrev pub FitsInside : List ℕ → Type 0 → Result (Bor (List ℕ)) EditError → Type 0
FitsInside bytes Fits result =
    MatchResult result (λ items. (items.now ≡ bytes) × Fits) (λ e. (e ≡ TooDeep) × (Fits → ⊥))

-- It is reported whether this is so.
abbrev pub ReportsWhether : Type 0 → Result Bool FindsNoKey → Type 0
ReportsWhether Holds result = MatchResult result (λ reported. MatchBool reported Holds (Holds → ⊥)) (λ e. ⊥)

-- what is printed of an error
abbrev pub edit_error_text : EditError → List ℕ
edit_error_text NoKey = codes "no sort key"
edit_error_text TooDeep = codes "too many nested arrays and objects"
edit_error_text OutOfMemory = codes "out of memory"
