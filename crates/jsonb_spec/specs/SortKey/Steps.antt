-- What is open on a walk over an array or an object, and what its next part is.
use Rattle.std.specs.Prelude.{◌≡◌, ℕ, zero, suc, Bool, false, List, [], ◌∷◌, ◌++◌, get_or, ⊤}
use Rattle.jsonb_spec.specs.Tree.{Tree, no_trees, more_trees, no_members, more_members}
use Rattle.jsonb_spec.specs.SortKey.Open.{Open, items, members, is_object, open_key, IsOpen, end_key}

-- what is left of those that are open, the innermost first
abbrev pub opens_key : List Open → List ℕ
opens_key [] = []
opens_key (o ∷ os) = open_key o ++ opens_key os

-- each is well-formed, with as many levels left
abbrev pub AreOpen : List Open → ℕ → Type 0
AreOpen [] left = ⊤
AreOpen (o ∷ os) left = IsOpen o left × AreOpen os (suc left)

-- which of them are objects is in a list, the outermost first
abbrev pub Stacks : List Open → List Bool → ℕ → Type 0
Stacks [] objects zero = ⊤
Stacks [] objects (suc depth) = ⊥
Stacks (o ∷ os) objects zero = ⊥
Stacks (o ∷ os) objects (suc depth) = (get_or objects depth false ≡ is_object o) × Stacks os objects depth

-- It has no part left.
abbrev pub IsOver : Open → Type 0
IsOver (items no_trees) = ⊤
IsOver (items (more_trees t ts)) = ⊥
IsOver (members no_members) = ⊤
IsOver (members (more_members k t ms)) = ⊥

-- its next part, and the others
abbrev pub IsPart : Open → List ℕ → Tree → Open → Type 0
IsPart (items no_trees) name value others = ⊥
IsPart (items (more_trees t ts)) name value others = (name ≡ []) × (value ≡ t) × (others ≡ items ts)
IsPart (members no_members) name value others = ⊥
IsPart (members (more_members k t ms)) name value others = (name ≡ k) × (value ≡ t) × (others ≡ members ms)

-- It is over, and behind its end are these bytes.
pub record BeginsWithEnd (o : Open) (more bytes after : List ℕ) : Type 0 where
  pub is_over : IsOver o
  pub passed : bytes ≡ end_key (is_object o) ++ after
  pub behind : after ≡ more
