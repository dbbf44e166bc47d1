-- What the open containers of a `Value` and of a `JsonAst` hold of what was parsed.
use Rattle.std.specs.Prelude.{◌≡◌, ℕ, Bool, true, List, [], ◌∷◌, map, String, string_bytes, Vec, ◌≢◌}
use Rattle.std.specs.List.{AllByRecursion}
use Rattle.std.specs.declared.alloc.Global.{Global}
use Rattle.jsonb_spec.specs.Grammar.{AreDistinct}
use Rattle.jsonb_spec.specs.Source.{Source, Found, array_source_of, member_of, spot_of}
use Rattle.jsonb_spec.specs.Tree.{Mark, put_all}
use Rattle.jsonb_spec.specs.Tree.Members.{no_members}
use Rattle.jsonb_value.specs.View.{members_view}
use Rattle.jsonb_value.specs.declared.value.Value.{Value}
use Rattle.jsonb_spec.specs.Source.Open.{Open, elements_so_far, members_so_far}
use Rattle.text_parse.specs.declared.parser.frame.Frame.{Frame}
use Rattle.text_parse.specs.declared.parser.frame.Frame.TheVariants as variants

-- ---- what a value and a tree hold

-- of each value in turn
abbrev pub AreSeen : {V : Type 0} → (V → Source → Type 0) → List V → List Source → Type 0
AreSeen Sees [] [] = Unit {0}
AreSeen Sees [] (s ∷ ss) = ⊥
AreSeen Sees (v ∷ vs) [] = ⊥
AreSeen Sees (v ∷ vs) (s ∷ ss) = Sees v s × AreSeen Sees vs ss

module _ {V M K : Type 0} (Sees : V → Source → Type 0) (Names : K → Mark × List ℕ → ℕ → Type 0)
    (Holds : M → List Found → Type 0) where
  -- The parts so far are those that were found, and where a value is due, so is the key that waits for it.
  abbrev pub FrameHolds : Bool → Frame (Vec V Global) M K → Open → Type 0
  FrameHolds due (variants.Array v) (elements_so_far ss) = AreSeen Sees v.items ss
  FrameHolds due (variants.Array v) (members_so_far fs key offset) = ⊥
  FrameHolds due (variants.Object o) (elements_so_far ss) = ⊥
  FrameHolds due (variants.Object o) (members_so_far fs key offset) =
      Holds o.members fs × (due ≡ true → Names o.key key offset)

  -- All that are open hold theirs, and each but the innermost waits for a value.
  abbrev pub FramesHold : Bool → List (Frame (Vec V Global) M K) → List Open → Type 0
  FramesHold due [] [] = Unit {0}
  FramesHold due [] (c ∷ cs) = ⊥
  FramesHold due (f ∷ fs) [] = ⊥
  FramesHold due (f ∷ fs) (c ∷ cs) = FrameHolds due f c × FramesHold true fs cs

-- A container that ended is of this source.
abbrev pub Completes : {V M K : Type 0} → (V → Source → Type 0) → (M → Source → Type 0) → Frame (Vec V Global) M K
    → Source → Type 0
Completes Sees Done (variants.Array v) s = (ss : List Source) × AreSeen Sees v.items ss × (s ≡ array_source_of ss)
Completes Sees Done (variants.Object o) s = Done o.members s

-- ---- the members of a map

-- the keys of a map
abbrev pub names : List (String Global × Value) → List (List ℕ)
names es = map (λ e. string_bytes e.0) es

abbrev pub found_keys : List Found → List (List ℕ)
found_keys fs = map (λ s. s.key) (map spot_of fs)

-- The members that were found, each with another key, are those of the map.
pub record MapHolds (fs : List Found) (es : List (String Global × Value)) : Type 0 where
  pub put : members_view es ≡ put_all (map member_of fs) no_members
  pub distinct : AreDistinct (found_keys fs)
  pub known : (k : List ℕ) → AllByRecursion (λ l. k ≢ l) (names es) → AllByRecursion (λ l. k ≢ l) (found_keys fs)
