-- One turn of each loop over two keys that are walked side by side.
use Rattle.std.proofs.Common.{◌≡◌, ◌≢◌, ℕ, zero, suc, ◌≤◌, ◌⊎◌, inl, inr, Bool, true, false, ◌&&◌, List, [], ◌∷◌, ◌++◌, Option, Some, None, Result, Ok, Err, length, refl, sym, ap, subst, ◌∙◌, arith, append_assoc}
use Rattle.std.specs.Option.{MatchOption, is_some, option_map_or}
use Rattle.std.specs.Str.{bytes_eq}
use Rattle.jsonb_spec.specs.SortKey.Readable.{IsReadableAt}
use Rattle.key_walk.specs.declared.containment.Walk.{Walk}
use Rattle.key_walk.specs.declared.find.NoKey.{NoKey}
use Rattle.jsonb_spec.specs.Containment.{any_item, contains, holds, holds_items, holds_members}
use Rattle.jsonb_spec.specs.SortKey.Open.{Open, items, members, is_object, open_key, end_key, IsScalar, opening_byte}
use Rattle.jsonb_spec.specs.SortKey.Parts.{opened_tree}
use Rattle.key_walk.specs.SideBySide.{AreReadableAt, HaveReadableAt, EndsWith, IsLeft, Occurs, OccursInside, Reported, MemberFound, FindsMember}
use Rattle.key_walk.proofs.Beside.{ItemsAhead}
use Rattle.key_walk.proofs.Opens.{no_end}
use Rattle.key_walk.proofs.Scalars.{scalar_begins}
use Rattle.key_walk.proofs.Occurrence.{regroup, true_false}
use Rattle.key_walk.proofs.Walked.{passed}
use Rattle.jsonb_spec.specs.Accessors.{find_member}
use Rattle.jsonb_spec.specs.Keys.{IsBelowKeys}
use Rattle.jsonb_spec.specs.SortKey.{key_of, items_key, members_key, text_key}
use Rattle.jsonb_spec.specs.Tree.{Tree, array, object, Trees, no_trees, more_trees, Members, no_members, more_members}
use Rattle.jsonb_core.proofs.Trees.Runs.{heads, tails}

-- ---- an array or an object, by its first byte

pub record ObjectThere (depth : ℕ) (t : Tree) (rest more : List ℕ) : Type 0 where
  pub ms : Members
  pub is : t ≡ object ms
  pub inner : ℕ
  pub deeper : depth ≡ suc inner
  pub have_readable : HaveReadableAt inner ms
  pub occurs : rest ≡ members_key ms ++ more

pub record ArrayThere (depth : ℕ) (t : Tree) (rest more : List ℕ) : Type 0 where
  pub ts : Trees
  pub is : t ≡ array ts
  pub inner : ℕ
  pub deeper : depth ≡ suc inner
  pub are_readable : AreReadableAt inner ts
  pub occurs : rest ≡ items_key ts ++ more

pub object_in : (depth : ℕ) (t : Tree) → IsReadableAt depth t → (first : ℕ) (rest bytes more : List ℕ) → bytes ≡ first ∷ rest → bytes ≡ key_of t ++ more → first ≡ 0xD1 → ObjectThere depth t rest more
object_in zero (object ms) r first rest bytes more e occurs is = absurd r.within
object_in (suc inner) (object ms) r first rest bytes more e occurs is = record {
  ms = ms;
  is = refl;
  inner = inner;
  deeper = refl;
  have_readable = record { ascend = r.proper.0; proper = r.proper.1; within = r.within };
  occurs = tails first 0xD1 rest (members_key ms ++ more) (sym e ∙ occurs);
}
object_in depth (array ts) r first rest bytes more e occurs is = absurd (omega (arith, is, heads first 0xD2 rest (items_key ts ++ more) (sym e ∙ occurs)))
object_in depth t r first rest bytes more e occurs is = absurd ((scalar_begins depth t r tt first rest bytes more e occurs).0 is)

pub array_in : (depth : ℕ) (t : Tree) → IsReadableAt depth t → (first : ℕ) (rest bytes more : List ℕ) → bytes ≡ first ∷ rest → bytes ≡ key_of t ++ more → first ≡ 0xD2 → ArrayThere depth t rest more
array_in zero (array ts) r first rest bytes more e occurs is = absurd r.within
array_in (suc inner) (array ts) r first rest bytes more e occurs is = record {
  ts = ts;
  is = refl;
  inner = inner;
  deeper = refl;
  are_readable = record { proper = r.proper; within = r.within };
  occurs = tails first 0xD2 rest (items_key ts ++ more) (sym e ∙ occurs);
}
array_in depth (object ms) r first rest bytes more e occurs is = absurd (omega (arith, is, heads first 0xD1 rest (members_key ms ++ more) (sym e ∙ occurs)))
array_in depth t r first rest bytes more e occurs is = absurd ((scalar_begins depth t r tt first rest bytes more e occurs).1 is)

pub no_container : (first : ℕ) (r : Option Bool) → is_some r ≡ false → MatchOption r ((first ≢ 0xD1) × (first ≢ 0xD2)) (λ b. first ≡ opening_byte b) → (first ≢ 0xD1) × (first ≢ 0xD2)
no_container first None none reported = reported
no_container first (Some b) none reported = absurd (true_false none)

-- an array or an object begins there
pub record ContainerThere (u : Tree) (b : Bool) : Type 0 where
  pub all : Open
  pub whole : opened_tree all ≡ u
  pub is : is_object all ≡ b

pub container_there : (depth : ℕ) (u : Tree) → IsReadableAt depth u → (first : ℕ) (rest bytes more : List ℕ) → bytes ≡ first ∷ rest → bytes ≡ key_of u ++ more → (b : Bool) → first ≡ opening_byte b → ContainerThere u b
container_there depth u r first rest bytes more e occurs true is = let x = object_in depth u r first rest bytes more e occurs is in record { all = members x.ms; whole = sym x.is; is = refl }
container_there depth u r first rest bytes more e occurs false is = let x = array_in depth u r first rest bytes more e occurs is in record { all = items x.ts; whole = sym x.is; is = refl }

-- an object or an array, and one of its kind, behind their first bytes
pub record BothOpen (inner : ℕ) (b : Bool) (t : Tree) (o : Open) (ours theirs more behind : List ℕ) : Type 0 where
  pub mine : Open
  pub is : is_object mine ≡ b
  pub readable : IsReadableAt (suc inner) (opened_tree mine)
  pub whole : t ≡ opened_tree mine
  pub other_readable : IsReadableAt (suc inner) (opened_tree o)
  pub ours_are : ours ≡ open_key mine ++ more
  pub theirs_are : theirs ≡ open_key o ++ behind

pub both_open : (depth inner : ℕ) → depth ≡ suc inner → (b : Bool) (t : Tree) (o : Open) → is_object o ≡ b → IsReadableAt depth t → IsReadableAt depth (opened_tree o) → (mine other : ℕ) (left right ours theirs more behind : List ℕ)
    → left ≡ mine ∷ ours → left ≡ key_of t ++ more → right ≡ other ∷ theirs → right ≡ key_of (opened_tree o) ++ behind → mine ≡ other → BothOpen inner b t o ours theirs more behind
both_open depth inner deeper true t (items us) is p q mine other left right ours theirs more behind cut occurs other_cut other_occurs same = absurd (true_false (sym is))
both_open depth inner deeper false t (members ns) is p q mine other left right ours theirs more behind cut occurs other_cut other_occurs same = absurd (true_false is)
both_open depth inner deeper true t (members ns) is p q mine other left right ours theirs more behind cut occurs other_cut other_occurs same =
    let first = heads other 0xD1 theirs (members_key ns ++ behind) (sym other_cut ∙ other_occurs) in
    let x = object_in depth t p mine ours left more cut occurs (same ∙ first) in
    record {
      mine = members x.ms;
      is = refl;
      readable = subst (λ d. IsReadableAt d (object x.ms)) deeper (subst (IsReadableAt depth) x.is p);
      whole = x.is;
      other_readable = subst (λ d. IsReadableAt d (object ns)) deeper q;
      ours_are = x.occurs;
      theirs_are = tails other 0xD1 theirs (members_key ns ++ behind) (sym other_cut ∙ other_occurs);
    }
both_open depth inner deeper false t (items us) is p q mine other left right ours theirs more behind cut occurs other_cut other_occurs same =
    let first = heads other 0xD2 theirs (items_key us ++ behind) (sym other_cut ∙ other_occurs) in
    let x = array_in depth t p mine ours left more cut occurs (same ∙ first) in
    record {
      mine = items x.ts;
      is = refl;
      readable = subst (λ d. IsReadableAt d (array x.ts)) deeper (subst (IsReadableAt depth) x.is p);
      whole = x.is;
      other_readable = subst (λ d. IsReadableAt d (array us)) deeper q;
      ours_are = x.occurs;
      theirs_are = tails other 0xD2 theirs (items_key us ++ behind) (sym other_cut ∙ other_occurs);
    }

-- behind the first byte
pub inside : (key left bytes ours more : List ℕ) (first : ℕ) → IsLeft key left bytes → left ≡ first ∷ ours → ours ≡ more → IsLeft key ours more
inside key left bytes ours more first l cut is = passed key left bytes (first ∷ []) ours more l (cut ∙ ap (λ b. first ∷ b) is) cut

pub reported_is : (b : Bool) (B : Type 0) (r : Result Bool NoKey) → Reported b B r → r ≡ Ok b
reported_is b B (Ok x) reported = ap Ok reported.0
reported_is b B (Err e) reported = absurd reported

pub no_ok : {A : Type 0} (e : NoKey) (x : A) → ◌≡◌ {A = Result A NoKey} (Err e) (Ok x) → ⊥
no_ok e x is = cc

-- ---- at the top

pub whole_left : (key bytes : List ℕ) → key ≡ bytes → IsLeft key key bytes
whole_left key bytes e = record { ends = ([], e); is = e }

pub contains_held : (t : Tree) (o : Open) → contains t (opened_tree o) ≡ holds t (opened_tree o)
contains_held t (items us) = refl
contains_held t (members ns) = refl

pub contains_item : (ts : Trees) (u : Tree) → IsScalar u → contains (array ts) u ≡ any_item (λ t. holds t u) ts
contains_item ts (object ns) s = absurd s
contains_item ts (array us) s = absurd s
contains_item ts u s = refl

-- ---- members

pub record MembersBoth (depth : ℕ) (ms ns : Members) (walk : Walk) (more behind : List ℕ) : Type 0 where
  pub ours : Members
  pub theirs : Members
  pub we_have : HaveReadableAt depth ours
  pub they_have : HaveReadableAt depth theirs
  pub same : holds_members ms ns ≡ holds_members ours theirs
  pub occurs : Occurs walk (members_key ours ++ more) (members_key theirs ++ behind)

abbrev pub HoldsMembers : Walk → Walk → Type 0
HoldsMembers start now = (depth : ℕ) → start.depth ≡ depth → depth ≤ 511 → (ms ns : Members) → HaveReadableAt depth ms → HaveReadableAt depth ns → (more behind : List ℕ) → Occurs start (members_key ms ++ more) (members_key ns ++ behind) → MembersBoth depth ms ns now more behind

-- their first member, which is looked for among ours
pub record OneSought (depth : ℕ) (ms ns : Members) (walk : Walk) (more behind : List ℕ) : Type 0 where
  pub ours : Members
  pub we_have : HaveReadableAt depth ours
  pub name : List ℕ
  pub value : Tree
  pub readable : IsReadableAt depth value
  pub others : Members
  pub below : IsBelowKeys name others
  pub they_have : HaveReadableAt depth others
  pub same : holds_members ms ns ≡ holds_members ours (more_members name value others)
  pub occurs : Occurs walk (members_key ours ++ more) (text_key name ++ (key_of value ++ (members_key others ++ behind)))

all_or_one : (depth : ℕ) (ms ns : Members) (walk : Walk) (more behind : List ℕ) → MembersBoth depth ms ns walk more behind
    → ((holds_members ms ns ≡ true) × (walk.theirs.now ≡ end_key true ++ behind)) ⊎ OneSought depth ms ns walk more behind
all_or_one depth ms ns walk more behind b = go b.theirs b.they_have b.same b.occurs.1
  where
    go : (theirs : Members) → HaveReadableAt depth theirs → holds_members ms ns ≡ holds_members b.ours theirs → IsLeft walk.other.now walk.theirs.now (members_key theirs ++ behind)
        → ((holds_members ms ns ≡ true) × (walk.theirs.now ≡ end_key true ++ behind)) ⊎ OneSought depth ms ns walk more behind
    go no_members h same occurs = inl (same, occurs.is)
    go (more_members k t others) h same occurs = inr (record {
      ours = b.ours;
      we_have = b.we_have;
      name = k;
      value = t;
      readable = record { proper = h.proper.1; within = h.within.0 };
      others = others;
      below = h.ascend.0;
      they_have = record { ascend = h.ascend.1; proper = h.proper.2; within = h.within.1 };
      same = same;
      occurs = (b.occurs.0, subst (IsLeft walk.other.now walk.theirs.now) (regroup (text_key k) (key_of t) (members_key others) behind) occurs);
    })

pub one_sought : (depth : ℕ) (ms ns : Members) (walk : Walk) (more behind : List ℕ) → MembersBoth depth ms ns walk more behind → ((tail : List ℕ) → walk.theirs.now ≡ end_key true ++ tail → ⊥) → OneSought depth ms ns walk more behind
one_sought depth ms ns walk more behind b not_over = elim (all_or_one depth ms ns walk more behind b) [
  | inl x ↦ absurd (not_over behind x.1)
  | inr n ↦ n
]

pub all_held : (depth : ℕ) (ms ns : Members) (walk : Walk) (more behind tail : List ℕ) → MembersBoth depth ms ns walk more behind → walk.theirs.now ≡ end_key true ++ tail → (holds_members ms ns ≡ true) × (walk.theirs.now ≡ end_key true ++ behind)
all_held depth ms ns walk more behind tail b over = elim (all_or_one depth ms ns walk more behind b) [
  | inl x ↦ x
  | inr n ↦ absurd (no_end true n.name n.value depth n.readable walk.theirs.now tail (members_key n.others ++ behind) over n.occurs.1.is)
]

pub finds_none : (depth : ℕ) (ms : Members) (name : List ℕ) (walk : Walk) (more behind : List ℕ) (b : Bool) → b ≡ false → FindsMember depth ms name walk more behind (Ok b) → find_member (bytes_eq name) ms ≡ None
finds_none depth ms name walk more behind true e f = absurd (true_false e)
finds_none depth ms name walk more behind false e f = f

pub finds_one : (depth : ℕ) (ms : Members) (name : List ℕ) (walk : Walk) (more behind : List ℕ) (b : Bool) → b ≡ true → FindsMember depth ms name walk more behind (Ok b) → MemberFound depth ms name walk more behind
finds_one depth ms name walk more behind true e f = f
finds_one depth ms name walk more behind false e f = absurd (true_false (sym e))

pub one_missing : (depth : ℕ) (ms ns : Members) (walk : Walk) (more behind : List ℕ) (n : OneSought depth ms ns walk more behind) → find_member (bytes_eq n.name) n.ours ≡ None → holds_members ms ns ≡ false
one_missing depth ms ns walk more behind n none = n.same ∙ ap (λ m. option_map_or (λ t. holds t n.value) m false && holds_members n.ours n.others) none

pub one_not_held : (depth : ℕ) (ms ns : Members) (walk after : Walk) (more behind rest : List ℕ) (n : OneSought depth ms ns walk more behind) (f : MemberFound depth n.ours n.name after more rest) → holds f.value n.value ≡ false → holds_members ms ns ≡ false
one_not_held depth ms ns walk after more behind rest n f isnt = n.same ∙ f.same n.value n.others n.below ∙ ap (λ b. b && holds_members f.others n.others) isnt

pub one_held : (depth : ℕ) (ms ns : Members) (walk after last : Walk) (more behind rest : List ℕ) (n : OneSought depth ms ns walk more behind) (f : MemberFound depth n.ours n.name after more rest) → holds f.value n.value ≡ true → Occurs last (members_key f.others ++ more) (members_key n.others ++ behind)
    → MembersBoth depth ms ns last more behind
one_held depth ms ns walk after last more behind rest n f is occurs = record {
  ours = f.others;
  theirs = n.others;
  we_have = f.have_readable;
  they_have = n.they_have;
  same = n.same ∙ f.same n.value n.others n.below ∙ ap (λ b. b && holds_members f.others n.others) is;
  occurs = occurs;
}

-- ---- items

pub record ItemsBoth (depth : ℕ) (ts us : Trees) (walk : Walk) (more behind : List ℕ) : Type 0 where
  pub theirs : Trees
  pub are_readable : AreReadableAt depth theirs
  pub same : holds_items ts us ≡ holds_items ts theirs
  pub inside : OccursInside false walk more (items_key theirs ++ behind)

abbrev pub HoldsItems : Walk → Walk → Type 0
HoldsItems start now = (depth : ℕ) → start.depth ≡ depth → depth ≤ 511 → (ts us : Trees) → AreReadableAt depth ts → AreReadableAt depth us → (more behind : List ℕ) → Occurs start (items_key ts ++ more) (items_key us ++ behind) → ItemsBoth depth ts us now more behind

pub record ItemSought (depth : ℕ) (ts us : Trees) (walk : Walk) (more behind : List ℕ) : Type 0 where
  pub item : Tree
  pub readable : IsReadableAt depth item
  pub others : Trees
  pub are_readable : AreReadableAt depth others
  pub same : holds_items ts us ≡ (any_item (λ t. holds t item) ts && holds_items ts others)
  pub occurs : IsLeft walk.other.now walk.theirs.now (key_of item ++ (items_key others ++ behind))

all_or_item : (depth : ℕ) (ts us : Trees) (walk : Walk) (more behind : List ℕ) → ItemsBoth depth ts us walk more behind
    → ((holds_items ts us ≡ true) × (walk.theirs.now ≡ end_key false ++ behind)) ⊎ ItemSought depth ts us walk more behind
all_or_item depth ts us walk more behind b = go b.theirs b.are_readable b.same b.inside.occurs.1
  where
    go : (theirs : Trees) → AreReadableAt depth theirs → holds_items ts us ≡ holds_items ts theirs → IsLeft walk.other.now walk.theirs.now (items_key theirs ++ behind)
        → ((holds_items ts us ≡ true) × (walk.theirs.now ≡ end_key false ++ behind)) ⊎ ItemSought depth ts us walk more behind
    go no_trees h same occurs = inl (same, occurs.is)
    go (more_trees u others) h same occurs = inr (record {
      item = u;
      readable = record { proper = h.proper.0; within = h.within.0 };
      others = others;
      are_readable = record { proper = h.proper.1; within = h.within.1 };
      same = same;
      occurs = subst (IsLeft walk.other.now walk.theirs.now) (append_assoc (key_of u) (items_key others) behind) occurs;
    })

pub item_sought : (depth : ℕ) (ts us : Trees) (walk : Walk) (more behind : List ℕ) → ItemsBoth depth ts us walk more behind → ((tail : List ℕ) → walk.theirs.now ≡ end_key false ++ tail → ⊥) → ItemSought depth ts us walk more behind
item_sought depth ts us walk more behind b not_over = elim (all_or_item depth ts us walk more behind b) [
  | inl x ↦ absurd (not_over behind x.1)
  | inr n ↦ n
]

pub all_items_held : (depth : ℕ) (ts us : Trees) (walk : Walk) (more behind tail : List ℕ) → ItemsBoth depth ts us walk more behind → walk.theirs.now ≡ end_key false ++ tail → (holds_items ts us ≡ true) × (walk.theirs.now ≡ end_key false ++ behind)
all_items_held depth ts us walk more behind tail b over = elim (all_or_item depth ts us walk more behind b) [
  | inl x ↦ x
  | inr n ↦ absurd (no_end false [] n.item depth n.readable walk.theirs.now tail (items_key n.others ++ behind) over n.occurs.is)
]

pub item_not_held : (depth : ℕ) (ts us : Trees) (walk : Walk) (more behind : List ℕ) (n : ItemSought depth ts us walk more behind) → any_item (λ t. holds t n.item) ts ≡ false → holds_items ts us ≡ false
item_not_held depth ts us walk more behind n isnt = n.same ∙ ap (λ b. b && holds_items ts n.others) isnt

pub item_held : (depth : ℕ) (ts us : Trees) (walk last : Walk) (more behind : List ℕ) (n : ItemSought depth ts us walk more behind) → any_item (λ t. holds t n.item) ts ≡ true → OccursInside false last more (items_key n.others ++ behind) → ItemsBoth depth ts us last more behind
item_held depth ts us walk last more behind n is inside = record { theirs = n.others; are_readable = n.are_readable; same = n.same ∙ ap (λ b. b && holds_items ts n.others) is; inside = inside }

-- ---- one item

-- Ours are walked to an item, so many bytes from the end of the key; theirs to the value that is looked for.
pub record ItemLookedFor (depth : ℕ) (ts : Trees) (u : Tree) (walk : Walk) (item : ℕ) (more behind : List ℕ) : Type 0 where
  pub left : Trees
  pub are_readable : AreReadableAt depth left
  pub same : any_item (λ t. holds t u) ts ≡ any_item (λ t. holds t u) left
  pub ends : EndsWith walk.key.now (items_key left ++ more)
  pub size : item ≡ length (items_key left ++ more)
  pub theirs : IsLeft walk.other.now walk.theirs.now (key_of u ++ behind)

abbrev pub LooksForItem : Walk → Walk → ℕ → ℕ → Type 0
LooksForItem start now all item = (depth : ℕ) → start.depth ≡ depth → depth ≤ 511 → (ts : Trees) → (u : Tree) → AreReadableAt depth ts → IsReadableAt depth u → (more behind : List ℕ) → EndsWith start.key.now (items_key ts ++ more) → all ≡ length (items_key ts ++ more)
    → IsLeft start.other.now start.theirs.now (key_of u ++ behind) → ItemLookedFor depth ts u now item more behind

pub item_there : (depth : ℕ) (ts : Trees) (u : Tree) (walk : Walk) (item : ℕ) (more behind ours : List ℕ) (l : ItemLookedFor depth ts u walk item more behind) → ours ≡ items_key l.left ++ more → ItemsAhead depth ts u walk.key.now ours more
item_there depth ts u walk item more behind ours l is = record { left = l.left; are_readable = l.are_readable; same = l.same; occurs = record { ends = l.ends; is = is } }
