-- The text of what is open while a key is walked.
use Rattle.std.proofs.Common.{◌≡◌, ℕ, zero, suc, ◌+◌, ◌<◌, ◌≤◌, ◌⊎◌, inl, inr, Bool, true, false, List, [], ◌∷◌, ◌++◌, get_or, set, length, replicate, refl, sym, ap, subst, ◌∙◌, arith, append_assoc, append-nil, length-append}
use Rattle.jsonb_spec.specs.SortKey.Open.{Open, items, members, is_object, open_key, IsOpen, end_key}
use Rattle.std.proofs.lemmas.List.{get_or-set_same}
use Rattle.key_walk.proofs.Opens.{Next, no_end, stack_retained}
use Rattle.jsonb_spec.specs.SortKey.Steps.{opens_key, AreOpen, Stacks}
use Rattle.jsonb_spec.specs.SortKey.{key_of, items_key, members_key, text_key}
use Rattle.jsonb_spec.specs.Text.{tree_text}
use Rattle.jsonb_spec.specs.Text.Appending.{comma_before}
use Rattle.jsonb_spec.specs.Tree.{no_trees, more_trees, no_members, more_members}
use Rattle.jsonb_core.proofs.Appending.Appended.{IsUnderway, goes_on, fits}
use Rattle.key_text.proofs.Counts.{due_as, due_behind, opens_each}
use Rattle.jsonb_spec.specs.Document.Counts.{counts_at, counts_at_items, counts_at_members, counts_open, opens_counts}
use Rattle.key_text.specs.Counts.{IsDue}
use Rattle.key_text.specs.Writes.{items_left, members_left, open_text, name_text, opening_text, closing_text}

-- what is left of the texts of those that are open
abbrev pub opens_text : Bool → List Open → List ℕ
opens_text first [] = []
opens_text first (o ∷ os) = open_text first o ++ opens_text false os

-- These are open, and what is left of their texts and of the counts of their bytes; behind them are the later counts.
pub record TextLeft (Due : List ℕ → Type 0) (later : List ℕ) (objects : List Bool) (depth : ℕ) (rest more : List ℕ) (first : Bool) (o : Open) (start now : List ℕ) : Type 0 where
  pub opens : List Open
  pub left : ℕ
  pub levels : left + depth ≡ 512
  pub are_open : AreOpen opens left
  pub stacked : Stacks opens objects depth
  pub occurs : rest ≡ opens_key opens ++ more
  pub underway : IsUnderway start now (open_text true o) (opens_text first opens)
  pub due : IsDue Due (opens_counts opens ++ later)

abbrev pub WritesParts : (List ℕ → Type 0) → (List ℕ → Type 0) → Bool → List ℕ → List Bool → ℕ → List ℕ → Bool → List ℕ → List ℕ → Type 0
WritesParts DueBefore Due object bytes objects depth rest first start now =
    (o : Open) → is_object o ≡ object → IsOpen o 511 → (more : List ℕ) → bytes ≡ open_key o ++ more → (later : List ℕ) → length later ≡ length more → IsDue DueBefore (counts_open o ++ later)
    → TextLeft Due later objects depth rest more first o start now

pub text_begun : (Due : List ℕ → Type 0) (objects : List Bool) (object : Bool) (bytes start : List ℕ) → get_or objects 0 false ≡ object → WritesParts Due Due object bytes objects 1 bytes true start start
text_begun Due objects object bytes start top = λ o is h more e later each d. record {
  opens = o ∷ [];
  left = 511;
  levels = omega arith;
  are_open = (h, tt);
  stacked = (top ∙ sym is, tt);
  occurs = e ∙ ap (λ key. key ++ more) (sym (append-nil (open_key o)));
  underway = record { front = []; appended = sym (append-nil start); whole = sym (append-nil (open_text true o)) };
  due = due_as Due (counts_open o ++ later) ((counts_open o ++ []) ++ later) (ap (λ cs. cs ++ later) (sym (append-nil (counts_open o)))) d;
}

-- the end of the innermost is first
pub record EndsText (Due : List ℕ → Type 0) (later : List ℕ) (objects : List Bool) (top : ℕ) (rest more : List ℕ) (object : Bool) (o : Open) (start now : List ℕ) : Type 0 where
  pub under : List Open
  pub left : ℕ
  pub levels : left + top ≡ 512
  pub are_open : AreOpen under left
  pub stacked : Stacks under objects top
  pub occurs : rest ≡ end_key object ++ (opens_key under ++ more)
  pub underway : IsUnderway start now (open_text true o) ((closing_text object ∷ []) ++ opens_text false under)
  pub due : IsDue Due (opens_counts under ++ later)

-- what is written before a part
abbrev pub before_part : Bool → Bool → List ℕ → List ℕ
before_part first object name = comma_before first ++ name_text object name

-- a part of the innermost is first
pub record NextText (Due : List ℕ → Type 0) (later : List ℕ) (objects : List Bool) (depth : ℕ) (rest more : List ℕ) (object first : Bool) (o : Open) (start now : List ℕ) : Type 0 where
  pub next : Next objects depth rest more object
  pub underway : IsUnderway start now (open_text true o) (before_part first object next.name ++ (tree_text next.value ++ opens_text false (next.others ∷ next.under)))
  pub due : IsDue Due (counts_at next.value ++ (opens_counts (next.others ∷ next.under) ++ later))

regroup : (n k o u more : List ℕ) → ((n ++ (k ++ o)) ++ u) ++ more ≡ n ++ (k ++ ((o ++ u) ++ more))
regroup n k o u more = simp append_assoc

regroup_counts : (a b c d : List ℕ) → ((a ++ b) ++ c) ++ d ≡ a ++ ((b ++ c) ++ d)
regroup_counts a b c d = simp append_assoc

regroup_named : (n a b c d : List ℕ) → ((n ++ (a ++ b)) ++ c) ++ d ≡ n ++ (a ++ ((b ++ c) ++ d))
regroup_named n a b c d = simp append_assoc

item_split : (comma a b c : List ℕ) → (comma ++ (a ++ b)) ++ c ≡ (comma ++ []) ++ (a ++ (b ++ c))
item_split comma a b c = ap (λ t. t ++ c) (sym (ap (λ t. t ++ (a ++ b)) (append-nil comma))) ∙ simp append_assoc

member_split : (comma name a b c : List ℕ) → (comma ++ (name ++ (a ++ b))) ++ c ≡ (comma ++ name) ++ (a ++ (b ++ c))
member_split comma name a b c = simp append_assoc

left_as : {start now whole left : List ℕ} (other : List ℕ) → IsUnderway start now whole left → left ≡ other → IsUnderway start now whole other
left_as other u e = record { front = u.front; appended = u.appended; whole = u.whole ∙ ap (λ t. u.front ++ t) e }

module _ (Due : List ℕ → Type 0) (later : List ℕ) (objects : List Bool) (top : ℕ) (rest more : List ℕ) (first : Bool) (o : Open) (start now : List ℕ) where
  abbrev Cases : ℕ → Bool → Type 0
  Cases depth object = EndsText Due later objects top rest more object o start now ⊎ NextText Due later objects depth rest more object first o start now

  by_open : (p : Open) (os : List Open) (left d : ℕ) → top ≡ d → left + suc d ≡ 512 → AreOpen (p ∷ os) left → Stacks (p ∷ os) objects (suc d) → rest ≡ opens_key (p ∷ os) ++ more → IsUnderway start now (open_text true o) (opens_text first (p ∷ os)) → IsDue Due (opens_counts (p ∷ os) ++ later) → Cases (suc d) (is_object p)
  by_open (items no_trees) os left d same levels a s st u due = inl (record { under = os; left = suc left; levels = omega (arith, levels, same); are_open = a.1; stacked = subst (λ i. Stacks os objects i) (sym same) s.1; occurs = st; underway = u; due = due_behind Due 1 (opens_counts os ++ later) due })
  by_open (items (more_trees t ts)) os left d same levels a s st u due = inr (record {
    next = record {
      name = [];
      value = t;
      left = left;
      readable = record { proper = a.0.0.0; within = a.0.1.0 };
      others = items ts;
      under = os;
      levels = levels;
      are_open = ((a.0.0.1, a.0.1.1), a.1);
      stacked = s;
      occurs = st ∙ regroup [] (key_of t) (items_key ts) (opens_key os) more;
    };
    underway = left_as _ u (item_split (comma_before first) (tree_text t) (items_left false ts) (opens_text false os));
    due = due_as Due _ _ (regroup_counts (counts_at t) (counts_at_items ts) (opens_counts os) later) due;
  })
  by_open (members no_members) os left d same levels a s st u due = inl (record { under = os; left = suc left; levels = omega (arith, levels, same); are_open = a.1; stacked = subst (λ i. Stacks os objects i) (sym same) s.1; occurs = st; underway = u; due = due_behind Due 2 (opens_counts os ++ later) due })
  by_open (members (more_members k t ms)) os left d same levels a s st u due = inr (record {
    next = record {
      name = k;
      value = t;
      left = left;
      readable = record { proper = a.0.0.1; within = a.0.1.0 };
      others = members ms;
      under = os;
      levels = levels;
      are_open = ((a.0.0.2, a.0.1.1), a.1);
      stacked = s;
      occurs = st ∙ regroup (text_key k) (key_of t) (members_key ms) (opens_key os) more;
    };
    underway = left_as _ u (member_split (comma_before first) (name_text true k) (tree_text t) (members_left false ms) (opens_text false os));
    due = due_behind Due (length (text_key k)) _ (due_as Due _ _ (regroup_named (replicate (length (text_key k)) 0) (counts_at t) (counts_at_members ms) (opens_counts os) later) due);
  })

  by_opens : (opens : List Open) (left depth : ℕ) (object : Bool) → left + depth ≡ 512 → AreOpen opens left → Stacks opens objects depth → rest ≡ opens_key opens ++ more → IsUnderway start now (open_text true o) (opens_text first opens) → IsDue Due (opens_counts opens ++ later) → top + 1 ≡ depth → object ≡ get_or objects top false → Cases depth object
  by_opens [] left zero object levels a s st u due below is_top = absurd (omega (arith, below))
  by_opens [] left (suc d) object levels a s st u due below is_top = absurd s
  by_opens (p ∷ os) left zero object levels a s st u due below is_top = absurd s
  by_opens (p ∷ os) left (suc d) object levels a s st u due below is_top =
      let same : top ≡ d = omega (arith, below) in
      let kind : is_object p ≡ object = sym s.0 ∙ ap (λ i. get_or objects i false) (sym same) ∙ sym is_top in
      subst (λ b. Cases (suc d) b) kind (by_open p os left d same levels a s st u due)

module _ (Due : List ℕ → Type 0) (later : List ℕ) (objects : List Bool) (depth top : ℕ) (rest more : List ℕ) (object first : Bool) (o : Open) (start now : List ℕ) (below : top + 1 ≡ depth) (is_top : object ≡ get_or objects top false) (l : TextLeft Due later objects depth rest more first o start now) where
  end_or_next : EndsText Due later objects top rest more object o start now ⊎ NextText Due later objects depth rest more object first o start now
  end_or_next = by_opens Due later objects top rest more first o start now l.opens l.left depth object l.levels l.are_open l.stacked l.occurs l.underway l.due below is_top

  -- where an end was read
  pub end_there : (others : List ℕ) → rest ≡ end_key object ++ others → EndsText Due later objects top rest more object o start now
  end_there others read = elim end_or_next [
    | inl x ↦ x
    | inr n ↦ absurd (no_end object n.next.name n.next.value n.next.left n.next.readable rest others (opens_key (n.next.others ∷ n.next.under) ++ more) read n.next.occurs)
  ]

  -- where none was read, a part is there
  pub part_there : ((tail : List ℕ) → rest ≡ end_key object ++ tail → ⊥) → NextText Due later objects depth rest more object first o start now
  part_there none = elim end_or_next [
    | inl x ↦ absurd (none (opens_key x.under ++ more) x.occurs)
    | inr n ↦ n
  ]

-- ---- an end

module _ (Due : List ℕ → Type 0) (later : List ℕ) (objects : List Bool) (top : ℕ) (rest more : List ℕ) (object : Bool) (o : Open) (start now : List ℕ) (x : EndsText Due later objects top rest more object o start now) where
  pub end_fits : length now + length (closing_text object ∷ []) ≤ length start + length (open_text true o)
  end_fits = fits (closing_text object ∷ []) (opens_text false x.under) x.underway refl

  pub end_written : (others new : List ℕ) → ((tail : List ℕ) → rest ≡ end_key object ++ tail → others ≡ tail) → new ≡ now ++ closing_text object ∷ [] → TextLeft Due later objects top others more false o start new
  end_written others new found closing = record {
    opens = x.under;
    left = x.left;
    levels = x.levels;
    are_open = x.are_open;
    stacked = x.stacked;
    occurs = found (opens_key x.under ++ more) x.occurs;
    underway = goes_on new (closing_text object ∷ []) (opens_text false x.under) x.underway refl closing;
    due = x.due;
  }

-- ---- a part

stack_more : (os : List Open) (p : Open) (objects : List Bool) (depth : ℕ) (b : Bool) → depth < length objects → is_object p ≡ b → Stacks os objects depth → Stacks (p ∷ os) (set objects depth b) (suc depth)
stack_more os p objects depth b fits is s = (get_or-set_same objects depth b false fits ∙ sym is, stack_retained os objects depth b depth (omega arith) s)

module _ (Due : List ℕ → Type 0) (later : List ℕ) (objects : List Bool) (depth : ℕ) (rest more : List ℕ) (object first : Bool) (o : Open) (start now : List ℕ) (n : NextText Due later objects depth rest more object first o start now) where
  pub each_there : length later ≡ length more → length (opens_counts (n.next.others ∷ n.next.under) ++ later) ≡ length (opens_key (n.next.others ∷ n.next.under) ++ more)
  each_there each =
      omega (
        arith,
        each,
        length-append (opens_counts (n.next.others ∷ n.next.under)) later,
        length-append (opens_key (n.next.others ∷ n.next.under)) more,
        opens_each (n.next.others ∷ n.next.under) n.next.left n.next.are_open,
      )

  pub name_fits : length now + length (before_part first object n.next.name) ≤ length start + length (open_text true o)
  name_fits = fits (before_part first object n.next.name) (tree_text n.next.value ++ opens_text false (n.next.others ∷ n.next.under)) n.underway refl

  module _ (named : List ℕ) (is_named : named ≡ now ++ before_part first object n.next.name) where
    pub due : IsUnderway start named (open_text true o) (tree_text n.next.value ++ opens_text false (n.next.others ∷ n.next.under))
    due = goes_on named (before_part first object n.next.name) (tree_text n.next.value ++ opens_text false (n.next.others ∷ n.next.under)) n.underway refl is_named

    pub value_fits : length named + length (tree_text n.next.value) ≤ length start + length (open_text true o)
    value_fits = fits (tree_text n.next.value) (opens_text false (n.next.others ∷ n.next.under)) due refl

    -- a scalar is written
    pub scalar_written : (DueThen : List ℕ → Type 0) → IsDue DueThen (opens_counts (n.next.others ∷ n.next.under) ++ later) → (others new : List ℕ) → others ≡ opens_key (n.next.others ∷ n.next.under) ++ more → new ≡ named ++ tree_text n.next.value
        → TextLeft DueThen later objects depth others more false o start new
    scalar_written DueThen d others new e is = record {
      opens = n.next.others ∷ n.next.under;
      left = n.next.left;
      levels = n.next.levels;
      are_open = n.next.are_open;
      stacked = n.next.stacked;
      occurs = e;
      underway = goes_on new (tree_text n.next.value) (opens_text false (n.next.others ∷ n.next.under)) due refl is;
      due = d;
    }

    -- an array or an object is opened
    module _ (p : Open) (b : Bool) (text : tree_text n.next.value ≡ opening_text b ∷ open_text true p) (counts : counts_at n.next.value ≡ 0 ∷ counts_open p) where
      split : tree_text n.next.value ++ opens_text false (n.next.others ∷ n.next.under) ≡ (opening_text b ∷ []) ++ (open_text true p ++ opens_text false (n.next.others ∷ n.next.under))
      split = ap (λ t. t ++ opens_text false (n.next.others ∷ n.next.under)) text

      pub opening_fits : length named + length (opening_text b ∷ []) ≤ length start + length (open_text true o)
      opening_fits = fits (opening_text b ∷ []) (open_text true p ++ opens_text false (n.next.others ∷ n.next.under)) due split

      pub part_begun : (inner : ℕ) → n.next.left ≡ suc inner → IsOpen p inner → is_object p ≡ b → depth < length objects → (others new : List ℕ) → others ≡ open_key p ++ (opens_key (n.next.others ∷ n.next.under) ++ more) → new ≡ named ++ opening_text b ∷ [] → TextLeft Due later (set objects depth b) (depth + 1) others more true o start new
      part_begun inner deeper h is space others new e opened =
          let there : Stacks (p ∷ n.next.others ∷ n.next.under) (set objects depth b) (suc depth) = stack_more (n.next.others ∷ n.next.under) p objects depth b space is n.next.stacked in
          let one_more : suc depth ≡ depth + 1 = omega arith in
          record {
            opens = p ∷ n.next.others ∷ n.next.under;
            left = inner;
            levels = omega (arith, n.next.levels, deeper);
            are_open = (h, subst (λ d. AreOpen (n.next.others ∷ n.next.under) d) deeper n.next.are_open);
            stacked = subst (λ d. Stacks (p ∷ n.next.others ∷ n.next.under) (set objects depth b) d) one_more there;
            occurs = e ∙ sym (append_assoc (open_key p) (opens_key (n.next.others ∷ n.next.under)) more);
            underway = goes_on new (opening_text b ∷ []) (open_text true p ++ opens_text false (n.next.others ∷ n.next.under)) due split opened;
            due = due_behind Due 1 ((counts_open p ++ opens_counts (n.next.others ∷ n.next.under)) ++ later)
                (due_as Due _ _ (ap (λ cs. cs ++ (opens_counts (n.next.others ∷ n.next.under) ++ later)) counts ∙ ap (λ cs. 0 ∷ cs) (sym (append_assoc (counts_open p) (opens_counts (n.next.others ∷ n.next.under)) later))) n.due);
          }

-- with none open all is read, and written
pub all_written : (Due : List ℕ → Type 0) (later : List ℕ) (objects : List Bool) (rest more : List ℕ) (depth : ℕ) (first : Bool) (o : Open) (start now : List ℕ) → depth ≡ 0 → TextLeft Due later objects depth rest more first o start now → (rest ≡ more) × (now ≡ start ++ open_text true o)
all_written Due later objects rest more depth first o start now none l = go l.opens depth none l.stacked l.occurs l.underway
  where
    go : (opens : List Open) (depth : ℕ) → depth ≡ 0 → Stacks opens objects depth → rest ≡ opens_key opens ++ more → IsUnderway start now (open_text true o) (opens_text first opens) → (rest ≡ more) × (now ≡ start ++ open_text true o)
    go [] zero n s e u = (e, u.appended ∙ ap (λ t. start ++ t) (sym (u.whole ∙ append-nil u.front)))
    go [] (suc d) n s e u = absurd s
    go (p ∷ os) zero n s e u = absurd s
    go (p ∷ os) (suc d) n s e u = absurd (omega (arith, n))
