-- A walk over all that is in an array or an object: what a step passes.
use Rattle.std.specs.Prelude.{◌≡◌, ◌⊎◌, ℕ, ◌+◌, Bool, List, [], ◌∷◌, ◌++◌, set, Option, Some, None, Result, Ok, Err}
use Rattle.jsonb_spec.specs.SortKey.Readable.{IsReadableAt}
use Rattle.jsonb_spec.specs.SortKey.{key_of}
use Rattle.jsonb_spec.specs.Tree.{Tree}
use Rattle.key_walk.specs.declared.find.NoKey.{NoKey}
use Rattle.key_walk.specs.declared.part.ScalarPart.{ScalarPart}
use Rattle.key_walk.specs.declared.steps.Step.{Step}
use Rattle.key_walk.specs.declared.steps.Step.TheVariants as step
use Rattle.key_walk.specs.declared.steps.Steps.{Steps}
use Rattle.jsonb_spec.specs.SortKey.Open.{Open, end_key, is_object, name_key, opening_byte, IsScalar}
use Rattle.jsonb_spec.specs.SortKey.Parts.{opened_tree}
use Rattle.jsonb_spec.specs.SortKey.Steps.{opens_key, AreOpen, Stacks, IsOver, IsPart}

-- The walk is where these are open, and behind them are these bytes.
pub record IsAmid (opens : List Open) (more : List ℕ) (steps : Steps) : Type 0 where
  pub left : ℕ
  pub levels : left + steps.depth ≡ 512
  pub are_open : AreOpen opens left
  pub stacked : Stacks opens steps.objects steps.depth
  pub occurs : steps.rest.now ≡ opens_key opens ++ more

-- The end of the innermost is passed.
pub record PassesEnd (o : Open) (under : List Open) (more : List ℕ) (old new : Steps) : Type 0 where
  pub is_over : IsOver o
  pub passed : old.rest.now ≡ end_key (is_object o) ++ new.rest.now
  pub amid : IsAmid under more new

-- The name of its next part is passed, and the first byte of that, which is an array or an object.
pub record PassesOpening (o : Open) (under : List Open) (more : List ℕ) (old new : Steps) : Type 0 where
  pub name : List ℕ
  pub value : Tree
  pub others : Open
  pub inside : Open
  pub is_part : IsPart o name value others
  pub whole : value ≡ opened_tree inside
  pub passed : old.rest.now ≡ name_key (is_object o) name ++ (opening_byte (is_object inside) ∷ new.rest.now)
  pub amid : IsAmid (inside ∷ others ∷ under) more new

-- Its next part is passed, which is neither.
pub record PassesScalar (o : Open) (under : List Open) (more : List ℕ) (passed : ScalarPart) (old new : Steps)
    : Type 0 where
  pub name : List ℕ
  pub value : Tree
  pub others : Open
  pub left : ℕ
  pub is_part : IsPart o name value others
  pub is_scalar : IsScalar value
  pub readable : IsReadableAt left value
  pub member : passed.is_member ≡ is_object o
  pub tail : List ℕ
  pub begins : passed.value.now ≡ passed.first ∷ tail
  pub from : passed.part.now ≡ old.rest.now
  pub named : passed.part.now ≡ name_key (is_object o) name ++ passed.value.now
  pub occurs : passed.value.now ≡ key_of value ++ passed.after.now
  pub behind : new.rest.now ≡ passed.after.now
  pub amid : IsAmid (others ∷ under) more new

-- What a step reports, and where the walk is then: behind an end, within an array or an object, or behind another value;
-- and at the end of all, where none is open.
abbrev pub StepsOver : List Open → List ℕ → Steps → Result (Option Step) NoKey → Steps → Type 0
StepsOver [] more old result new = result ≡ Ok None
StepsOver (o ∷ under) more old (Ok None) new = ⊥
StepsOver (o ∷ under) more old (Ok (Some step.Edge)) new =
    PassesEnd o under more old new ⊎ PassesOpening o under more old new
StepsOver (o ∷ under) more old (Ok (Some (step.Scalar passed))) new = PassesScalar o under more passed old new
StepsOver (o ∷ under) more old (Err e) new = ⊥

-- One more is open, and these are its parts.
pub record IsWithin (object : Bool) (parts : List ℕ) (old new : Steps) : Type 0 where
  pub space : old.depth + 1 ≡ new.depth
  pub objects : new.objects ≡ set old.objects old.depth object
  pub rest : new.rest.now ≡ parts
