-- Arrays and objects that are open while a key is walked, and what is left of their keys.
use Rattle.std.proofs.Common.{◌≡◌, ◌≢◌, ℕ, zero, suc, ◌+◌, ◌<◌, ◌≤◌, ◌⊎◌, inl, inr, Bool, true, false, List, [], ◌∷◌, ◌++◌, Some, None, get_or, set, length, refl, sym, ap, subst, ◌∙◌, arith, append_assoc, append-nil}
use Rattle.std.proofs.lemmas.List.{get_or-set_same, get_or-set_other}
use Rattle.jsonb_spec.specs.SortKey.Readable.{IsReadableAt}
use Rattle.key_value.proofs.FirstBytes.{no_pair, no_zero}
use Rattle.jsonb_spec.specs.SortKey.Open.{Open, items, members, is_object, open_key, IsOpen, end_key, name_key}
use Rattle.jsonb_spec.specs.SortKey.Steps.{AreOpen, Stacks, opens_key}
use Rattle.jsonb_spec.specs.SortKey.{key_of}
use Rattle.jsonb_spec.specs.Tree.{Tree, no_trees, more_trees, no_members, more_members}

pub record OpenLeft (objects : List Bool) (depth : ℕ) (rest more : List ℕ) : Type 0 where
  pub opens : List Open
  pub left : ℕ
  pub levels : left + depth ≡ 512
  pub are_open : AreOpen opens left
  pub stacked : Stacks opens objects depth
  pub occurs : rest ≡ opens_key opens ++ more

-- Whatever is open where the bytes begin, what is left begins with what is left of it.
abbrev pub SkipsParts : Bool → List ℕ → List Bool → ℕ → List ℕ → Type 0
SkipsParts object bytes objects depth rest = (o : Open) → is_object o ≡ object → IsOpen o 511 → (more : List ℕ) → bytes ≡ open_key o ++ more → OpenLeft objects depth rest more

pub stack_retained : (os : List Open) (objects : List Bool) (e : ℕ) (b : Bool) (d : ℕ) → d ≤ e → Stacks os objects d → Stacks os (set objects e b) d
stack_retained [] objects e b zero l s = tt
stack_retained [] objects e b (suc d) l s = absurd s
stack_retained (o ∷ os) objects e b zero l s = absurd s
stack_retained (o ∷ os) objects e b (suc d) l s =
    let other : d ≢ e = omega (arith, l) in
    (get_or-set_other objects e d b false other ∙ s.0, stack_retained os objects e b d (omega (arith, l)) s.1)

pub parts_begun : (objects : List Bool) (object : Bool) (bytes : List ℕ) → get_or objects 0 false ≡ object → SkipsParts object bytes objects 1 bytes
parts_begun objects object bytes top = λ o is h more e. record {
  opens = o ∷ [];
  left = 511;
  levels = omega arith;
  are_open = (h, tt);
  stacked = (top ∙ sym is, tt);
  occurs = e ∙ ap (λ key. key ++ more) (sym (append-nil (open_key o)));
}

-- the next part of what is open
pub record Part (o : Open) (left : ℕ) : Type 0 where
  pub name : List ℕ
  pub value : Tree
  pub others : Open
  pub same : is_object others ≡ is_object o
  pub readable : IsReadableAt left value
  pub open_there : IsOpen others left
  pub is : open_key o ≡ name_key (is_object o) name ++ (key_of value ++ open_key others)

cases_of : (o : Open) (left : ℕ) → IsOpen o left → (open_key o ≡ end_key (is_object o)) ⊎ Part o left
cases_of (items no_trees) left h = inl refl
cases_of (items (more_trees t ts)) left h = inr (record { name = []; value = t; others = items ts; same = refl; readable = record { proper = h.0.0; within = h.1.0 }; open_there = (h.0.1, h.1.1); is = refl })
cases_of (members no_members) left h = inl refl
cases_of (members (more_members k t ms)) left h = inr (record { name = k; value = t; others = members ms; same = refl; readable = record { proper = h.0.1; within = h.1.0 }; open_there = (h.0.2, h.1.1); is = refl })

-- the end of the innermost is first
pub record EndsHere (objects : List Bool) (depth : ℕ) (rest more : List ℕ) (object : Bool) : Type 0 where
  pub under : List Open
  pub occurs : rest ≡ end_key object ++ (opens_key under ++ more)
  pub closed : (others : List ℕ) → others ≡ opens_key under ++ more → OpenLeft objects depth others more

-- a part of the innermost is first
pub record Next (objects : List Bool) (depth : ℕ) (rest more : List ℕ) (object : Bool) : Type 0 where
  pub name : List ℕ
  pub value : Tree
  pub left : ℕ
  pub readable : IsReadableAt left value
  pub others : Open
  pub under : List Open
  pub levels : left + depth ≡ 512
  pub are_open : AreOpen (others ∷ under) left
  pub stacked : Stacks (others ∷ under) objects depth
  pub occurs : rest ≡ name_key object name ++ (key_of value ++ (opens_key (others ∷ under) ++ more))

regroup : (n k o u more : List ℕ) → ((n ++ (k ++ o)) ++ u) ++ more ≡ n ++ (k ++ ((o ++ u) ++ more))
regroup n k o u more = simp append_assoc

pub end_or_next : (objects : List Bool) (depth top : ℕ) (rest more : List ℕ) (object : Bool) → top + 1 ≡ depth → object ≡ get_or objects top false → OpenLeft objects depth rest more → EndsHere objects top rest more object ⊎ Next objects depth rest more object
end_or_next objects depth top rest more object below is_top l = go l.opens l.left depth l.levels l.are_open l.stacked l.occurs below
  where
    go : (opens : List Open) (left depth : ℕ) → left + depth ≡ 512 → AreOpen opens left → Stacks opens objects depth → rest ≡ opens_key opens ++ more → top + 1 ≡ depth → EndsHere objects top rest more object ⊎ Next objects depth rest more object
    go [] left zero levels a s st below = absurd (omega (arith, below))
    go [] left (suc d) levels a s st below = absurd s
    go (o ∷ os) left zero levels a s st below = absurd s
    go (o ∷ os) left (suc d) levels a s st below =
        let same : top ≡ d = omega (arith, below) in
        let kind : is_object o ≡ object = sym s.0 ∙ ap (λ i. get_or objects i false) (sym same) ∙ sym is_top in
        elim (cases_of o left a.0) [
          | inl over ↦ inl (record {
            under = os;
            occurs = st ∙ ap (λ key. (key ++ opens_key os) ++ more) (over ∙ ap end_key kind) ∙ append_assoc (end_key object) (opens_key os) more;
            closed = λ others e. record { opens = os; left = suc left; levels = omega (arith, levels, same); are_open = a.1; stacked = subst (λ i. Stacks os objects i) (sym same) s.1; occurs = e };
          })
          | inr p ↦ inr (record {
            name = p.name;
            value = p.value;
            left = left;
            readable = p.readable;
            others = p.others;
            under = os;
            levels = levels;
            are_open = (p.open_there, a.1);
            stacked = (s.0 ∙ sym p.same, s.1);
            occurs = st ∙ ap (λ key. (key ++ opens_key os) ++ more) (p.is ∙ ap (λ b. name_key b p.name ++ (key_of p.value ++ open_key p.others)) kind) ∙ regroup (name_key object p.name) (key_of p.value) (open_key p.others) (opens_key os) more;
          })
        ]

-- where a part is, nothing ends
pub no_end : (object : Bool) (name : List ℕ) (value : Tree) (left : ℕ) → IsReadableAt left value → (rest tail others : List ℕ) → rest ≡ end_key object ++ tail → rest ≡ name_key object name ++ (key_of value ++ others) → ⊥
no_end true name value left r rest tail others e occurs = no_pair name (key_of value ++ others) rest tail e occurs
no_end false name value left r rest tail others e occurs = no_zero value left others rest 0 tail r.proper r.within e refl occurs

-- behind the part
pub part_skipped : (objects : List Bool) (depth : ℕ) (rest more : List ℕ) (object : Bool) (n : Next objects depth rest more object) (others : List ℕ) → others ≡ opens_key (n.others ∷ n.under) ++ more → OpenLeft objects depth others more
part_skipped objects depth rest more object n others e = record { opens = n.others ∷ n.under; left = n.left; levels = n.levels; are_open = n.are_open; stacked = n.stacked; occurs = e }

-- within the part, which is an array or an object
pub part_opened : (objects : List Bool) (depth : ℕ) (rest more : List ℕ) (object : Bool) (n : Next objects depth rest more object) (o : Open) (inner : ℕ) → n.left ≡ suc inner → IsOpen o inner → (b : Bool) → is_object o ≡ b → depth < length objects
    → (others : List ℕ) → others ≡ open_key o ++ (opens_key (n.others ∷ n.under) ++ more) → OpenLeft (set objects depth b) (depth + 1) others more
part_opened objects depth rest more object n o inner deeper h b is fits others e =
    let there : Stacks (o ∷ n.others ∷ n.under) (set objects depth b) (suc depth) = (get_or-set_same objects depth b false fits ∙ sym is, stack_retained (n.others ∷ n.under) objects depth b depth (omega arith) n.stacked) in
    let one_more : suc depth ≡ depth + 1 = omega arith in
    record {
      opens = o ∷ n.others ∷ n.under;
      left = inner;
      levels = omega (arith, n.levels, deeper);
      are_open = (h, subst (λ d. AreOpen (n.others ∷ n.under) d) deeper n.are_open);
      stacked = subst (λ d. Stacks (o ∷ n.others ∷ n.under) (set objects depth b) d) one_more there;
      occurs = e ∙ sym (append_assoc (open_key o) (opens_key (n.others ∷ n.under)) more);
    }

-- with as many open as may be no part is an array or an object
pub too_deep : (objects : List Bool) (depth : ℕ) (rest more : List ℕ) (object : Bool) (n : Next objects depth rest more object) (inner : ℕ) → n.left ≡ suc inner → depth ≡ 512 → ⊥
too_deep objects depth rest more object n inner deeper full = absurd (omega (arith, n.levels, deeper, full))

-- with none open all is read
pub all_skipped : (objects : List Bool) (rest more : List ℕ) (depth : ℕ) → depth ≡ 0 → OpenLeft objects depth rest more → rest ≡ more
all_skipped objects rest more depth none l = go l.opens depth none l.stacked l.occurs
  where
    go : (opens : List Open) (depth : ℕ) → depth ≡ 0 → Stacks opens objects depth → rest ≡ opens_key opens ++ more → rest ≡ more
    go [] zero n s e = e
    go [] (suc d) n s e = absurd s
    go (o ∷ os) zero n s e = absurd s
    go (o ∷ os) (suc d) n s e = absurd (omega (arith, n))

-- ---- one step of the walk

none_some : (x : List ℕ) → None ≡ Some x → ⊥
none_some x e = cc

some_same : (x y : List ℕ) → Some x ≡ Some y → x ≡ y
some_same x y e = cc

-- where an end was read, it is there
pub end_read : (objects : List Bool) (depth top : ℕ) (rest more others : List ℕ) (object : Bool) → top + 1 ≡ depth → object ≡ get_or objects top false → OpenLeft objects depth rest more → rest ≡ end_key object ++ others → ((tail : List ℕ) → rest ≡ end_key object ++ tail → Some others ≡ Some tail)
    → OpenLeft objects top others more
end_read objects depth top rest more others object below is_top l read found = elim (end_or_next objects depth top rest more object below is_top l) [
  | inl x ↦ x.closed others (some_same others (opens_key x.under ++ more) (found (opens_key x.under ++ more) x.occurs))
  | inr n ↦ absurd (no_end object n.name n.value n.left n.readable rest others (opens_key (n.others ∷ n.under) ++ more) read n.occurs)
]

-- where none was read, a part is there
pub part_there : (objects : List Bool) (depth top : ℕ) (rest more : List ℕ) (object : Bool) → top + 1 ≡ depth → object ≡ get_or objects top false → OpenLeft objects depth rest more → ((tail : List ℕ) → rest ≡ end_key object ++ tail → None ≡ Some tail) → Next objects depth rest more object
part_there objects depth top rest more object below is_top l none = elim (end_or_next objects depth top rest more object below is_top l) [
  | inl x ↦ absurd (none_some (opens_key x.under ++ more) (none (opens_key x.under ++ more) x.occurs))
  | inr n ↦ n
]
