-- What the bytes that are left of an array or an object begin with: its end, or a part of it.
use Rattle.std.specs.Prelude.{◌≡◌, ◌<◌, ◌≤◌, ℕ, suc, List, ◌∷◌, ◌++◌, length, Result, Ok, Err, Some}
use Rattle.jsonb_spec.specs.SortKey.Readable.{IsReadableAt}
use Rattle.jsonb_spec.specs.SortKey.{key_of}
use Rattle.jsonb_spec.specs.Tree.{Tree}
use Rattle.key_walk.specs.declared.find.NoKey.{NoKey}
use Rattle.key_walk.specs.declared.part.Opened.{Opened}
use Rattle.key_walk.specs.declared.part.Part.{Part}
use Rattle.key_walk.specs.declared.part.Part.TheVariants as found
use Rattle.key_walk.specs.declared.part.ScalarPart.{ScalarPart}
use Rattle.jsonb_spec.specs.SortKey.Open.{Open, is_object, name_key, open_key, opening_byte, IsOpen, IsScalar}
use Rattle.key_walk.specs.Parts.{kind_of_tree}
use Rattle.jsonb_spec.specs.SortKey.Parts.{opened_tree}
use Rattle.jsonb_spec.specs.SortKey.Steps.{IsPart, BeginsWithEnd}

-- Its next part is an array or an object, behind whose first byte its own parts are.
pub record BeginsWithOpening (o : Open) (left : ℕ) (more bytes : List ℕ) (opened : Opened) : Type 0 where
  pub name : List ℕ
  pub others : Open
  pub inside : Open
  pub inner : ℕ
  pub is_part : IsPart o name (opened_tree inside) others
  pub kind_is : opened.object ≡ is_object inside
  pub deeper : left ≡ suc inner
  pub fits : IsOpen inside inner
  pub others_fit : IsOpen others left
  pub named : bytes ≡ name_key (is_object o) name ++ opened.value.now
  pub begins : opened.value.now ≡ opening_byte (is_object inside) ∷ opened.parts.now
  pub behind : opened.parts.now ≡ open_key inside ++ (open_key others ++ more)

-- Its next part is neither, and is behind its name.
pub record BeginsWithScalar (o : Open) (left : ℕ) (more bytes : List ℕ) (passed : ScalarPart) : Type 0 where
  pub name : List ℕ
  pub value : Tree
  pub others : Open
  pub is_part : IsPart o name value others
  pub is_scalar : IsScalar value
  pub readable : IsReadableAt left value
  pub others_fit : IsOpen others left
  pub member : passed.is_member ≡ is_object o
  pub kind_is : Some passed.kind ≡ kind_of_tree value
  pub tail : List ℕ
  pub begins : passed.value.now ≡ passed.first ∷ tail
  pub from : passed.part.now ≡ bytes
  pub named : bytes ≡ name_key (is_object o) name ++ passed.value.now
  pub occurs : passed.value.now ≡ key_of value ++ passed.after.now
  pub behind : passed.after.now ≡ open_key others ++ more

-- What is left, with so many levels, begins so, and behind it are these bytes.
abbrev pub BeginsWithPart : Open → ℕ → List ℕ → List ℕ → Result Part NoKey → Type 0
BeginsWithPart o left more bytes (Ok (found.End after)) = BeginsWithEnd o more bytes after.now
BeginsWithPart o left more bytes (Ok (found.Opening opened)) = BeginsWithOpening o left more bytes opened
BeginsWithPart o left more bytes (Ok (found.Scalar passed)) = BeginsWithScalar o left more bytes passed
BeginsWithPart o left more bytes (Err e) = ⊥

-- Of any bytes: fewer are behind what they begin with.
abbrev pub IsPartOf : List ℕ → Part → Type 0
IsPartOf bytes (found.End after) = length after.now < length bytes
IsPartOf bytes (found.Opening opened) =
    (length opened.parts.now < length opened.value.now) × (length opened.value.now ≤ length bytes)
IsPartOf bytes (found.Scalar passed) =
    (length passed.after.now < length passed.value.now) × (length passed.value.now ≤ length bytes)
