-- Whether texts are in order, by the keys that they are sorted by.
use Rattle.std.specs.Prelude.{◌≡◌, ◌⊎◌, ℕ, Bool, true, false, not, List, [], ◌∷◌, ◌++◌, Option, None, Some, MatchOption, Vec}
use Rattle.std.specs.List.{AllZip, Any}
use Rattle.std.specs.declared.alloc.Global.{Global}
use Rattle.vjson_text.specs.Texts.{IsNoTextOf}
use Rattle.vjson_run.specs.Keys.{IsKeyOf}
use Rattle.vjson_run.specs.declared.options.Options.{Options}
use Rattle.jsonb_spec.specs.Program.InOrder.{Ascend, may_follow}

-- Two of the texts, one right behind the other, are out of order.
pub record AreOutOfOrder (options : Options) (texts : List (List ℕ)) : Type 0 where
  pub front : List (List ℕ)
  pub first : List ℕ
  pub second : List ℕ
  pub back : List (List ℕ)
  pub split : texts ≡ front ++ first ∷ second ∷ back
  pub first_key : List ℕ
  pub second_key : List ℕ
  pub is_first : IsKeyOf options first first_key
  pub is_second : IsKeyOf options second second_key
  pub wrong : may_follow options.reverse options.unique first_key second_key ≡ false

-- Each text is one of the grammar, and their keys are in order; or some text is none, or two are out of order.
abbrev pub AreInOrder : Options → List (List ℕ) → Bool → Type 0
AreInOrder options texts true = (keys : List (List ℕ)) × AllZip (IsKeyOf options) texts keys
    × Ascend options.reverse options.unique keys
AreInOrder options texts false = Any (IsNoTextOf options.grammar) texts ⊎ AreOutOfOrder options texts

-- The texts so far are in order, each one of the grammar, and this is the key of the last one.
pub record EndsInOrder (options : Options) (texts : List (List ℕ)) (key : List ℕ) : Type 0 where
  pub front : List (List ℕ)
  pub keys : AllZip (IsKeyOf options) texts (front ++ key ∷ [])
  pub ascend : Ascend options.reverse options.unique (front ++ key ∷ [])

-- The same of the texts so far, where this is the key of the last one.
abbrev pub AreInOrderSoFar : Options → List (List ℕ) → Option (Vec ℕ Global) → Bool → Type 0
AreInOrderSoFar options texts last true =
    MatchOption last (texts ≡ []) (λ key. EndsInOrder options texts key.items)
AreInOrderSoFar options texts last false = AreInOrder options texts false

-- whether the key may not be right behind that of the text before, if there is one
abbrev pub is_wrong : Options → Option (Vec ℕ Global) → List ℕ → Bool
is_wrong options None key = false
is_wrong options (Some last) key = not (may_follow options.reverse options.unique last.items key)
