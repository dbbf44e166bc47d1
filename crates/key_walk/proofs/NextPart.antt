-- What the bytes begin with, which are left of an array or an object.
use Rattle.std.proofs.Common.{◌≡◌, ◌≢◌, ℕ, ◌⊎◌, inl, inr, Bool, List, [], ◌∷◌, ◌++◌, Some, None, refl, sym, ap, subst, ◌∙◌, append_assoc}
use Rattle.jsonb_spec.specs.SortKey.Readable.{IsReadable, IsReadableAt}
use Rattle.key_value.proofs.Texts.{none_some, some_same}
use Rattle.jsonb_spec.specs.SortKey.{key_of, items_key, members_key, text_key}
use Rattle.jsonb_spec.specs.Tree.{Tree, null, boolean, string, number, array, object, no_trees, more_trees, no_members, more_members}
use Rattle.jsonb_spec.specs.SortKey.Open.{Open, items, members, end_key, is_object, name_key, open_key, opening_byte, IsOpen, IsScalar}
use Rattle.jsonb_spec.specs.SortKey.Steps.{BeginsWithEnd, IsOver, IsPart}
use Rattle.key_walk.specs.NextPart.{BeginsWithOpening, BeginsWithScalar}
use Rattle.key_walk.specs.Parts.{kind_of_tree}
use Rattle.key_walk.specs.declared.part.Opened.{Opened}
use Rattle.key_walk.specs.declared.part.ScalarPart.{ScalarPart}
use Rattle.key_walk.specs.declared.walk.Kind.{Kind}
use Rattle.key_walk.proofs.Opens.{no_end}
use Rattle.key_walk.proofs.Scalars.{scalar_there}
use Rattle.key_walk.proofs.Stepping.{opening_there}

-- a part that is first
pub record First (o : Open) (left : ℕ) (more bytes : List ℕ) : Type 0 where
  pub name : List ℕ
  pub value : Tree
  pub others : Open
  pub is_part : IsPart o name value others
  pub readable : IsReadableAt left value
  pub others_fit : IsOpen others left
  pub occurs : bytes ≡ name_key (is_object o) name ++ (key_of value ++ (open_key others ++ more))

regroup : (n k o more : List ℕ) → (n ++ (k ++ o)) ++ more ≡ n ++ (k ++ (o ++ more))
regroup n k o more = simp append_assoc

which : (o : Open) (left : ℕ) (more bytes : List ℕ) → IsOpen o left → bytes ≡ open_key o ++ more → (IsOver o × (bytes ≡ end_key (is_object o) ++ more)) ⊎ First o left more bytes
which (items no_trees) left more bytes h e = inl (tt, e)
which (items (more_trees t ts)) left more bytes h e = inr (record {
  name = [];
  value = t;
  others = items ts;
  is_part = (refl, refl, refl);
  readable = record { proper = h.0.0; within = h.1.0 };
  others_fit = (h.0.1, h.1.1);
  occurs = e ∙ regroup [] (key_of t) (items_key ts) more;
})
which (members no_members) left more bytes h e = inl (tt, e)
which (members (more_members k t ms)) left more bytes h e = inr (record {
  name = k;
  value = t;
  others = members ms;
  is_part = (refl, refl, refl);
  readable = record { proper = h.0.1; within = h.1.0 };
  others_fit = (h.0.2, h.1.1);
  occurs = e ∙ regroup (text_key k) (key_of t) (members_key ms) more;
})

-- a value that is no array and no object needs no level
scalar_readable : (depth : ℕ) (t : Tree) → IsReadableAt depth t → IsScalar t → IsReadable t
scalar_readable depth (array ts) r s = absurd s
scalar_readable depth (object ms) r s = absurd s
scalar_readable depth null r s = record { proper = r.proper; within = r.within }
scalar_readable depth (boolean b) r s = record { proper = r.proper; within = r.within }
scalar_readable depth (string mark text) r s = record { proper = r.proper; within = r.within }
scalar_readable depth (number n) r s = record { proper = r.proper; within = r.within }
scalar_readable depth t r s = absurd r.within

some_kind : (t : Tree) → IsReadable t → None ≡ kind_of_tree t → ⊥
some_kind null r e = none_some _ e
some_kind (boolean b) r e = none_some _ e
some_kind (number n) r e = none_some _ e
some_kind (string mark text) r e = none_some _ e
some_kind (array ts) r e = none_some _ e
some_kind (object ms) r e = none_some _ e
some_kind t r e = r.within

module _ (object : Bool) (bytes : List ℕ) (o : Open) (is : is_object o ≡ object) (left : ℕ) (h : IsOpen o left) (more : List ℕ) (e : bytes ≡ open_key o ++ more) where
  pub ended : (after : List ℕ) → bytes ≡ end_key object ++ after → ((tail : List ℕ) → bytes ≡ end_key object ++ tail → Some after ≡ Some tail) → BeginsWithEnd o more bytes after
  ended after read found =
      let passed : bytes ≡ end_key (is_object o) ++ after = read ∙ ap (λ b. end_key b ++ after) (sym is) in
      elim (which o left more bytes h e) [
        | inl x ↦ record { is_over = x.0; passed = passed; behind = some_same after more (found more (x.1 ∙ ap (λ b. end_key b ++ more) is)) }
        | inr n ↦ absurd (no_end (is_object o) n.name n.value left n.readable bytes after (open_key n.others ++ more) passed n.occurs)
      ]

  module _ (none : (tail : List ℕ) → bytes ≡ end_key object ++ tail → None ≡ Some tail) where
    pub first : First o left more bytes
    first = elim (which o left more bytes h e) [
      | inl x ↦ absurd (none_some more (none more (x.1 ∙ ap (λ b. end_key b ++ more) is)))
      | inr n ↦ n
    ]

    named_so : bytes ≡ name_key object first.name ++ (key_of first.value ++ (open_key first.others ++ more))
    named_so = first.occurs ∙ ap (λ b. name_key b first.name ++ (key_of first.value ++ (open_key first.others ++ more))) is

    pub never : ((name others : List ℕ) → bytes ≡ name_key object name ++ others → None ≡ Some others) → ⊥
    never found = none_some _ (found first.name _ named_so)

    module _ (value : List ℕ) (found : (name others : List ℕ) → bytes ≡ name_key object name ++ others → Some value ≡ Some others) where
      there : value ≡ key_of first.value ++ (open_key first.others ++ more)
      there = some_same value _ (found first.name _ named_so)

      named : bytes ≡ name_key (is_object o) first.name ++ value
      named = first.occurs ∙ ap (λ v. name_key (is_object o) first.name ++ v) (sym there)

      pub at_value : (Is : Tree → List ℕ → Type 0) → ((t : Tree) → IsReadableAt left t → (behind : List ℕ) → value ≡ key_of t ++ behind → Is t behind) → Is first.value (open_key first.others ++ more)
      at_value Is law = law first.value first.readable (open_key first.others ++ more) there

      module _ (byte : ℕ) (parts : List ℕ) (begins : value ≡ byte ∷ parts) where
        pub opened : (inner : Bool) → byte ≡ opening_byte inner → (p : Opened) → p.object ≡ inner → p.value.now ≡ value → p.parts.now ≡ parts → BeginsWithOpening o left more bytes p
        opened inner opens_it p kind at within =
            let x = opening_there left first.value first.readable byte parts value (open_key first.others ++ more) begins there inner opens_it in
            record {
              name = first.name;
              others = first.others;
              inside = x.inside;
              inner = x.inner;
              is_part = subst (λ v. IsPart o first.name v first.others) x.whole first.is_part;
              kind_is = kind ∙ sym x.is;
              deeper = x.deeper;
              fits = x.fits;
              others_fit = first.others_fit;
              named = named ∙ ap (λ v. name_key (is_object o) first.name ++ v) (sym at);
              begins = at ∙ begins ∙ ap (λ b. b ∷ parts) (opens_it ∙ ap opening_byte (sym x.is)) ∙ ap (λ v. opening_byte (is_object x.inside) ∷ v) (sym within);
              behind = within ∙ x.occurs;
            }

        module _ (no_object : byte ≢ 209) (no_array : byte ≢ 210) where
          scalar : IsScalar first.value
          scalar = scalar_there left first.value first.readable byte parts value (open_key first.others ++ more) begins there no_object no_array

          full : IsReadable first.value
          full = scalar_readable left first.value first.readable scalar

          pub never_kind : ((t : Tree) → IsReadable t → (behind : List ℕ) → value ≡ key_of t ++ behind → None ≡ kind_of_tree t) → ⊥
          never_kind kinds = some_kind first.value full (kinds first.value full _ there)

          pub never_ends : ((depth : ℕ) (t : Tree) → IsReadableAt depth t → IsScalar t → (behind : List ℕ) → value ≡ key_of t ++ behind → None ≡ Some behind) → ⊥
          never_ends ends = none_some _ (ends left first.value first.readable scalar _ there)

          pub scalar_read : (after : List ℕ) → ((depth : ℕ) (t : Tree) → IsReadableAt depth t → IsScalar t → (behind : List ℕ) → value ≡ key_of t ++ behind → Some after ≡ Some behind)
              → (kind : Kind) → ((t : Tree) → IsReadable t → (behind : List ℕ) → value ≡ key_of t ++ behind → Some kind ≡ kind_of_tree t)
              → (p : ScalarPart) → p.is_member ≡ object → p.kind ≡ kind → p.first ≡ byte → p.part.now ≡ bytes → p.value.now ≡ value → p.after.now ≡ after → BeginsWithScalar o left more bytes p
          scalar_read after ends kind kinds p member at_kind at_first part at behind =
              let tail : after ≡ open_key first.others ++ more = some_same after _ (ends left first.value first.readable scalar _ there) in
              record {
                name = first.name;
                value = first.value;
                others = first.others;
                is_part = first.is_part;
                is_scalar = scalar;
                readable = first.readable;
                others_fit = first.others_fit;
                member = member ∙ sym is;
                kind_is = ap Some at_kind ∙ kinds first.value full _ there;
                tail = parts;
                begins = at ∙ begins ∙ ap (λ b. b ∷ parts) (sym at_first);
                from = part;
                named = named ∙ ap (λ v. name_key (is_object o) first.name ++ v) (sym at);
                occurs = at ∙ there ∙ ap (λ v. key_of first.value ++ v) (sym tail ∙ sym behind);
                behind = behind ∙ tail;
              }
