-- The walks in which members and items are left out that an object names.
use Rattle.std.proofs.Common.{◌≡◌, ℕ, ◌+◌, ◌<◌, ◌≤◌, Bool, true, false, ◌||◌, if◌then◌else◌, cond, List, [], ◌∷◌, ◌++◌, Some, None, Result, Ok, Err, MatchBool, length, refl, sym, ap, subst, ◌∙◌, arith, append-nil, append_assoc}
use Rattle.std.specs.Prelude.{IsErrAnd, Vec, vec_capacity}
use Rattle.std.specs.Borrow.{Bor}
use Rattle.std.specs.BTreeMap.{is_at}
use Rattle.std.specs.BTreeSet.{BTreeSet, Updates, contains_by}
use Rattle.std.specs.List.{list_any}
use Rattle.std.specs.declared.alloc.Global.{Global}
use Rattle.std.specs.Ordering.{is_eq}
use Rattle.std.specs.Str.{bytes_eq}
use Rattle.jsonb_spec.specs.SortKey.Readable.{IsReadable}
use Rattle.jsonb_spec.specs.Containment.{any_item}
use Rattle.jsonb_spec.specs.Order.{bytes_cmp}
use Rattle.jsonb_spec.specs.SortKey.{items_key, key_of, members_key, text_key}
use Rattle.jsonb_spec.specs.Tree.{Tree, null, boolean, string, number, array, object, Trees, no_trees, more_trees, Members, no_members, more_members}
use Rattle.jsonb_core.proofs.SortKeys.Kinds.{is_small, number_begins}
use Rattle.jsonb_core.proofs.Trees.Runs.{heads, tails}
use Rattle.jsonb_spec.specs.SortKey.Checked.{AreReadable, HaveReadable}
use Rattle.std.proofs.lemmas.Slice.Eq.{bytes_eq-Decides}
use Rattle.key_walk.proofs.Finds.{readable_inside}
use Rattle.key_walk.proofs.Framed.{names_compare}
use Rattle.key_walk.proofs.Occurrence.{equal_names}
use Rattle.key_edit.specs.Merging.{IsStep, StepsOn}
use Rattle.key_edit.specs.declared.merge.Step.{Step}
use Rattle.key_edit.proofs.Merged.{behind_first, joined_key, last_step, next_step}
use Rattle.jsonb_spec.specs.SortKey.Passing.{joined_members}
use Rattle.jsonb_spec.specs.Proper.{HaveProperParts}
use Rattle.jsonb_spec.specs.Edit.LeftOut.{any_named, has_name, is_named, items_beside, members_beside}
use Rattle.key_document.specs.Gathered.{AreGathered, NamesAhead}
use Rattle.key_document.specs.Retaining.{Finishes, IsBegun, Retains, WritesAnswer, output_of, unless}
use Rattle.key_document.specs.declared.error.DocumentError.{DocumentError}
use Rattle.key_document.specs.declared.error.DocumentError.TheVariants.{OutOfMemory}
use Rattle.key_document.specs.declared.retain.Output.{Output}
use Rattle.key_document.specs.declared.retain.Retaining.{Retaining}
use Rattle.key_document.proofs.Beside.{MemberPassed, replaced_passed, run_passed, push_counts, push_key, rest_stays}
use Rattle.key_text.proofs.Counts.{members_each, one_each}
use Rattle.key_document.proofs.Retained.{answer_finished, answer_lacking, next_ready, retains_begun, stays_next}
use Rattle.jsonb_spec.specs.Document.Counts.{counts_at, counts_at_items, counts_at_members}

-- ---- whether anything goes

any_so_far : (any found gone rest : Bool) → any ≡ (found || (gone || rest)) → any ≡ ((found || gone) || rest)
any_so_far any true gone rest e = e
any_so_far any false gone rest e = e

any_here : (any found gone rest : Bool) → any ≡ (found || (gone || rest)) → gone ≡ true → any ≡ true
any_here any true gone rest e g = e
any_here any false true rest e g = e
any_here any false false rest e g = absurd (no_both g)
  where
    no_both : false ≡ true → ⊥
    no_both h = cc

or_none : (found rest : Bool) → rest ≡ false → (found || rest) ≡ found
or_none true rest e = refl
or_none false rest e = e

-- ---- members

abbrev what_stays : Members → Members → Tree
what_stays ms ns = object (members_beside ns ms)

-- What was written of the members, and what is left on both sides.
pub record MembersLeft (first : Output) (ms ns : Members) (retaining : Retaining) (left right old now : List ℕ) : Type 0 where
  pub members : Members
  pub others : Members
  pub readable : HaveReadable members
  pub others_readable : HaveReadable others
  pub left_is : left ≡ members_key members
  pub right_is : right ≡ members_key others
  pub retains : Retains first (key_of (object (members_beside ns ms))) (counts_at (object (members_beside ns ms))) left (counts_at_members members) (members_key (members_beside others members)) (counts_at_members (members_beside others members)) retaining old now
  pub any_is : any_named ns ms ≡ (retaining.found || any_named others members)

pub members_begun : (ms ns : Members) (begun : Retaining) (left right old : List ℕ) → HaveReadable ms → HaveReadable ns → left ≡ members_key ms → right ≡ members_key ns → IsBegun 209 begun left (counts_at_members ms) → MembersLeft begun.output ms ns begun left right old old
members_begun ms ns begun left right old h i e f b = record {
  members = ms;
  others = ns;
  readable = h;
  others_readable = i;
  left_is = e;
  right_is = f;
  retains = retains_begun begun.output (key_of (what_stays ms ns)) (counts_at (what_stays ms ns)) old begun left (counts_at_members ms) (209 ∷ []) (0 ∷ []) (members_key (members_beside ns ms)) (counts_at_members (members_beside ns ms)) refl refl b.pending_is b.are_ahead refl refl;
  any_is = ap (λ found. found || any_named ns ms) (sym b.nothing);
}

readable_behind : (run ms : Members) → HaveReadable (joined_members run ms) → HaveReadable ms
readable_behind no_members ms h = h
readable_behind (more_members k t run) ms h = readable_behind run ms (behind_first k t (joined_members run ms) h)

module _ (first : Output) (ms ns : Members) (retaining : Retaining) (left right old now : List ℕ) (step : Step) (l : MembersLeft first ms ns retaining left right old now) (s : IsStep l.members l.others step) where
  module _ (goes_on : step.over ≡ false) (gone : Bool) (rest : List ℕ) (rest_is : (more : List ℕ) → left ≡ step.run.now ++ more → rest ≡ more) (is_gone : MatchBool gone (length step.members.now < length rest) (length rest ≤ length step.members.now)) where
    pub on : StepsOn l.members l.others step
    on = next_step l.members l.others step goes_on s

    -- those behind the run
    abbrev behind : Members
    behind = joined_members on.replaced on.members

    behind_readable : HaveReadable behind
    behind_readable = readable_behind on.run behind (subst HaveReadable on.left_is l.readable)

    rest_key : rest ≡ members_key behind
    rest_key = rest_is (members_key behind) (l.left_is ∙ ap members_key on.left_is ∙ joined_key on.run behind ∙ ap (λ b. b ++ members_key behind) (sym on.run_is))

    run_is_passed : MemberPassed false l.members l.others behind l.others
    run_is_passed = subst (λ m. MemberPassed false m l.others behind l.others) (sym on.left_is) (run_passed on.run behind l.others on.run_first (subst HaveProperParts on.left_is l.readable.proper))

    run_here : left ≡ run_is_passed.0.one ++ rest
    run_here = l.left_is ∙ run_is_passed.0.key_is ∙ ap (λ b. run_is_passed.0.one ++ b) (sym rest_key)

    behind_retains : Retains first (key_of (what_stays ms ns)) (counts_at (what_stays ms ns)) rest (counts_at_members behind) (members_key (members_beside l.others behind)) (counts_at_members (members_beside l.others behind)) retaining old now
    behind_retains =
        stays_next first (key_of (what_stays ms ns)) (counts_at (what_stays ms ns)) old left (counts_at_members l.members) (members_key (members_beside l.others l.members)) (counts_at_members (members_beside l.others l.members))
        rest (counts_at_members behind) (members_key (members_beside l.others behind)) (counts_at_members (members_beside l.others behind)) retaining now
        (record { one = run_is_passed.0.one; one_counts = run_is_passed.0.one_counts; each = run_is_passed.0.each; key_is = run_here; counts_are = run_is_passed.0.counts_are; later_is = run_is_passed.0.later_is; later_counts_are = run_is_passed.0.later_counts_are }) l.retains

    behind_any : any_named ns ms ≡ (retaining.found || any_named l.others behind)
    behind_any = l.any_is ∙ ap (λ b. retaining.found || b) run_is_passed.1

    pub passed : MemberPassed gone behind l.others on.members on.others
    passed = subst (λ n. MemberPassed gone behind n on.members on.others) (sym on.right_is)
        (replaced_passed gone on.replaced on.members on.part on.others on.are_replaced on.part_first behind_readable.proper
        (subst (λ b. MatchBool gone (length b < length (members_key behind)) (length (members_key behind) ≤ length b)) on.members_are
        (subst (λ b. MatchBool gone (length step.members.now < length b) (length b ≤ length step.members.now)) rest_key is_gone)))

    pub here_is : rest ≡ passed.0.one ++ step.members.now
    here_is = rest_key ∙ passed.0.key_is ∙ ap (λ b. passed.0.one ++ b) (sym on.members_are)

    pub part_each : length passed.0.one_counts ≡ length passed.0.one
    part_each = passed.0.each

    -- what a step reports
    pub goes_wrong : (r : Result Bool DocumentError) (error : DocumentError) (before mid new : Vec ℕ Global) → before.items ≡ old → IsErrAnd r (λ e. e ≡ error) → vec_capacity before ≤ vec_capacity mid
        → (gone ≡ true) × (error ≡ OutOfMemory) × (vec_capacity mid < length old + length (output_of first (key_of (what_stays ms ns)) (counts_at (what_stays ms ns))))
        → WritesAnswer first (if any_named ns ms then Some (what_stays ms ns) else None) r before new
    goes_wrong r error before mid new is h most x =
        answer_lacking first (what_stays ms ns) (any_named ns ms) r error before mid new
        (any_here (any_named ns ms) retaining.found gone (any_named on.others on.members) (behind_any ∙ ap (λ b. retaining.found || b) passed.1) x.0) h x.1 most
        (omega (arith, x.2, ap length is))

    pub ready : Retains first (key_of (what_stays ms ns)) (counts_at (what_stays ms ns)) rest (passed.0.one_counts ++ counts_at_members on.members) (unless gone passed.0.one (members_key (members_beside on.others on.members)))
        (unless gone passed.0.one_counts (counts_at_members (members_beside on.others on.members))) retaining old now
    ready =
        next_ready first (key_of (what_stays ms ns)) (counts_at (what_stays ms ns)) old gone rest (counts_at_members behind) (members_key (members_beside l.others behind)) (counts_at_members (members_beside l.others behind))
        step.members.now (counts_at_members on.members) (members_key (members_beside on.others on.members)) (counts_at_members (members_beside on.others on.members)) retaining now
        (record { one = passed.0.one; one_counts = passed.0.one_counts; each = passed.0.each; key_is = here_is; counts_are = passed.0.counts_are; later_is = passed.0.later_is; later_counts_are = passed.0.later_counts_are }) behind_retains

    pub next_left : (next : Retaining) (new : List ℕ)
        → Retains first (key_of (what_stays ms ns)) (counts_at (what_stays ms ns)) step.members.now (counts_at_members on.members) (members_key (members_beside on.others on.members)) (counts_at_members (members_beside on.others on.members)) next old new
        × (next.found ≡ (retaining.found || gone))
        → MembersLeft first ms ns next step.members.now step.others.now old new
    next_left next new x = record {
      members = on.members;
      others = on.others;
      readable = on.readable;
      others_readable = on.others_readable;
      left_is = on.members_are;
      right_is = on.others_are;
      retains = x.0;
      any_is = any_so_far (any_named ns ms) retaining.found gone (any_named on.others on.members) (behind_any ∙ ap (λ b. retaining.found || b) passed.1) ∙ ap (λ b. b || any_named on.others on.members) (sym x.1);
    }

  module _ (over : step.over ≡ true) where
    last : (members_beside l.others l.members ≡ l.members) × (any_named l.others l.members ≡ false)
    last = rest_stays l.members l.others step (last_step l.members l.others step over s)

    pub last_each : length (counts_at_members l.members) ≡ length left
    last_each = members_each l.members l.readable.proper ∙ sym (ap length l.left_is)

    pub last_retains : Retains first (key_of (what_stays ms ns)) (counts_at (what_stays ms ns)) left (counts_at_members l.members) left (counts_at_members l.members) retaining old now
    last_retains =
        subst (λ c. Retains first (key_of (what_stays ms ns)) (counts_at (what_stays ms ns)) left (counts_at_members l.members) left c retaining old now) (ap counts_at_members last.0)
        (subst (λ b. Retains first (key_of (what_stays ms ns)) (counts_at (what_stays ms ns)) left (counts_at_members l.members) b (counts_at_members (members_beside l.others l.members)) retaining old now) (ap members_key last.0 ∙ sym l.left_is) l.retains)

    pub last_answer : (r : Result Bool DocumentError) (before mid new : Vec ℕ Global) → vec_capacity before ≤ vec_capacity mid → Finishes first (what_stays ms ns) retaining.found before.items r mid new
        → WritesAnswer first (if any_named ns ms then Some (what_stays ms ns) else None) r before new
    last_answer r before mid new most f =
        answer_finished first (what_stays ms ns) (any_named ns ms) retaining.found r before mid new (l.any_is ∙ or_none retaining.found (any_named l.others l.members) last.1) most f

-- ---- items

abbrev items_stay : Trees → Members → Tree
items_stay ts ns = array (items_beside ns ts)

-- What was written of the items, and what is left of them.
pub record ItemsLeft (first : Output) (ts : Trees) (ns : Members) (retaining : Retaining) (left old now : List ℕ) : Type 0 where
  pub items : Trees
  pub readable : AreReadable items
  pub left_is : left ≡ items_key items
  pub retains : Retains first (key_of (array (items_beside ns ts))) (counts_at (array (items_beside ns ts))) left (counts_at_items items) (items_key (items_beside ns items)) (counts_at_items (items_beside ns items)) retaining old now
  pub any_is : any_item (is_named ns) ts ≡ (retaining.found || any_item (is_named ns) items)

pub items_begun : (ts : Trees) (ns : Members) (begun : Retaining) (left old : List ℕ) → AreReadable ts → left ≡ items_key ts → IsBegun 210 begun left (counts_at_items ts) → ItemsLeft begun.output ts ns begun left old old
items_begun ts ns begun left old h e b = record {
  items = ts;
  readable = h;
  left_is = e;
  retains = retains_begun begun.output (key_of (items_stay ts ns)) (counts_at (items_stay ts ns)) old begun left (counts_at_items ts) (210 ∷ []) (0 ∷ []) (items_key (items_beside ns ts)) (counts_at_items (items_beside ns ts)) refl refl b.pending_is b.are_ahead refl refl;
  any_is = ap (λ found. found || any_item (is_named ns) ts) (sym b.nothing);
}

-- An item is first.
pub record ItemFirst (first : Output) (ts : Trees) (ns : Members) (retaining : Retaining) (left old now : List ℕ) : Type 0 where
  pub item : Tree
  pub readable : IsReadable item
  pub others : Trees
  pub others_readable : AreReadable others
  pub occurs : left ≡ items_key (more_trees item others) ++ []
  pub retains : Retains first (key_of (array (items_beside ns ts))) (counts_at (array (items_beside ns ts))) left (counts_at item ++ counts_at_items others) (unless (is_named ns item) (key_of item) (items_key (items_beside ns others)))
      (unless (is_named ns item) (counts_at item) (counts_at_items (items_beside ns others))) retaining old now
  pub any_is : any_item (is_named ns) ts ≡ (retaining.found || (is_named ns item || any_item (is_named ns) others))

module _ (first : Output) (ts : Trees) (ns : Members) (retaining : Retaining) (left old now : List ℕ) where
  pub item_first : (l : ItemsLeft first ts ns retaining left old now) → ((more : List ℕ) → left ≡ items_key no_trees ++ more → ⊥) → ItemFirst first ts ns retaining left old now
  item_first l some = go l.items l.readable l.left_is l.retains l.any_is
    where
      go : (items : Trees) → AreReadable items → left ≡ items_key items → Retains first (key_of (items_stay ts ns)) (counts_at (items_stay ts ns)) left (counts_at_items items) (items_key (items_beside ns items)) (counts_at_items (items_beside ns items)) retaining old now
          → any_item (is_named ns) ts ≡ (retaining.found || any_item (is_named ns) items) → ItemFirst first ts ns retaining left old now
      go no_trees h e r a = absurd (some [] (e ∙ sym (append-nil (items_key no_trees))))
      go (more_trees t us) h e r a =
          record {
            item = t;
            readable = readable_inside t (record { proper = h.proper.0; within = h.within.0 });
            others = us;
            others_readable = record { proper = h.proper.1; within = h.within.1 };
            occurs = e ∙ sym (append-nil (items_key (more_trees t us)));
            retains =
                next_ready first (key_of (items_stay ts ns)) (counts_at (items_stay ts ns)) old (is_named ns t) left (counts_at_items (more_trees t us)) (items_key (items_beside ns (more_trees t us))) (counts_at_items (items_beside ns (more_trees t us)))
                (items_key us) (counts_at_items us) (items_key (items_beside ns us)) (counts_at_items (items_beside ns us)) retaining now
                (record { one = key_of t; one_counts = counts_at t; each = one_each t h.proper.0; key_is = e; counts_are = refl; later_is = push_key (is_named ns t) t (items_beside ns us); later_counts_are = push_counts (is_named ns t) t (items_beside ns us) }) r;
            any_is = a;
          }

  pub next_items : (n : ItemFirst first ts ns retaining left old now) (rest : List ℕ) (next : Retaining) (gone : Bool) (new : List ℕ) → gone ≡ is_named ns n.item → rest ≡ items_key n.others ++ []
      → Retains first (key_of (array (items_beside ns ts))) (counts_at (array (items_beside ns ts))) rest (counts_at_items n.others) (items_key (items_beside ns n.others)) (counts_at_items (items_beside ns n.others)) next old new × (next.found ≡ (retaining.found || gone))
      → ItemsLeft first ts ns next rest old new
  next_items n rest next gone new is e x = record {
    items = n.others;
    readable = n.others_readable;
    left_is = e ∙ append-nil (items_key n.others);
    retains = x.0;
    any_is = any_so_far (any_item (is_named ns) ts) retaining.found (is_named ns n.item) (any_item (is_named ns) n.others) n.any_is ∙ ap (λ b. b || any_item (is_named ns) n.others) (ap (λ b. retaining.found || b) (sym is) ∙ sym x.1);
  }

  pub item_goes_wrong : (n : ItemFirst first ts ns retaining left old now) (gone : Bool) (r : Result Bool DocumentError) (error : DocumentError) (before mid new : Vec ℕ Global) → gone ≡ is_named ns n.item → before.items ≡ old → IsErrAnd r (λ e. e ≡ error) → vec_capacity before ≤ vec_capacity mid
      → (gone ≡ true) × (error ≡ OutOfMemory) × (vec_capacity mid < length old + length (output_of first (key_of (items_stay ts ns)) (counts_at (items_stay ts ns))))
      → WritesAnswer first (if any_item (is_named ns) ts then Some (items_stay ts ns) else None) r before new
  item_goes_wrong n gone r error before mid new is same h most x =
      answer_lacking first (items_stay ts ns) (any_item (is_named ns) ts) r error before mid new
      (any_here (any_item (is_named ns) ts) retaining.found (is_named ns n.item) (any_item (is_named ns) n.others) n.any_is (sym is ∙ x.0)) h x.1 most (omega (arith, x.2, ap length same))

  pub item_ready : (n : ItemFirst first ts ns retaining left old now) (gone : Bool) → gone ≡ is_named ns n.item
      → Retains first (key_of (array (items_beside ns ts))) (counts_at (array (items_beside ns ts))) left (counts_at n.item ++ counts_at_items n.others) (unless gone (key_of n.item) (items_key (items_beside ns n.others)))
      (unless gone (counts_at n.item) (counts_at_items (items_beside ns n.others))) retaining old now
  item_ready n gone is =
      subst (λ b. Retains first (key_of (items_stay ts ns)) (counts_at (items_stay ts ns)) left (counts_at n.item ++ counts_at_items n.others) (unless b (key_of n.item) (items_key (items_beside ns n.others))) (unless b (counts_at n.item) (counts_at_items (items_beside ns n.others))) retaining old now) (sym is) n.retains

  pub item_here : (n : ItemFirst first ts ns retaining left old now) (rest : List ℕ) → rest ≡ items_key n.others ++ [] → left ≡ key_of n.item ++ rest
  item_here n rest e = n.occurs ∙ append_assoc (key_of n.item) (items_key n.others) [] ∙ ap (λ b. key_of n.item ++ b) (sym e)

  -- no item is left
  pub record NoItems : Type 0 where
    pub left_is : left ≡ 0 ∷ []
    pub retains : Retains first (key_of (array (items_beside ns ts))) (counts_at (array (items_beside ns ts))) left (0 ∷ []) left (0 ∷ []) retaining old now
    pub any_is : any_item (is_named ns) ts ≡ retaining.found

  pub no_items : (l : ItemsLeft first ts ns retaining left old now) → ((t : Tree) → IsReadable t → (us : Trees) → (more : List ℕ) → left ≡ items_key (more_trees t us) ++ more → ⊥) → NoItems
  no_items l none = go l.items l.readable l.left_is l.retains l.any_is
    where
      go : (items : Trees) → AreReadable items → left ≡ items_key items → Retains first (key_of (items_stay ts ns)) (counts_at (items_stay ts ns)) left (counts_at_items items) (items_key (items_beside ns items)) (counts_at_items (items_beside ns items)) retaining old now
          → any_item (is_named ns) ts ≡ (retaining.found || any_item (is_named ns) items) → NoItems
      go no_trees h e r a = record {
        left_is = e;
        retains = subst (λ b. Retains first (key_of (items_stay ts ns)) (counts_at (items_stay ts ns)) left (0 ∷ []) b (0 ∷ []) retaining old now) (sym e) r;
        any_is = a ∙ or_none retaining.found false refl;
      }
      go (more_trees t us) h e r a = absurd (none t (readable_inside t (record { proper = h.proper.0; within = h.within.0 })) us [] (e ∙ sym (append-nil (items_key (more_trees t us)))))

-- ---- a name looked for

-- no name is in an empty set
pub none_gathered : (ns : Members) (set : BTreeSet (Bor (List ℕ))) (left : List ℕ) → set.keys ≡ [] → HaveReadable ns → left ≡ members_key ns → AreGathered ns set left
none_gathered ns set left none h e = λ bytes. record { names = ns; readable = h; left_is = e; same = ap (λ keys. list_any (is_at (λ key. bytes_cmp (text_key bytes) key.now)) keys || has_name bytes ns) (sym none) }

-- nothing is put into the set
pub still_gathered : (ns : Members) (set new : BTreeSet (Bor (List ℕ))) (left : List ℕ) → new.keys ≡ set.keys → AreGathered ns set left → AreGathered ns new left
still_gathered ns set new left same g = λ bytes. subst (λ keys. NamesAhead (list_any (is_at (λ key. bytes_cmp (text_key bytes) key.now)) keys) bytes ns left) (sym same) (g bytes)

-- A name is first.
pub record NameFirst (there : Bool) (bytes : List ℕ) (ns : Members) (left : List ℕ) : Type 0 where
  pub name : List ℕ
  pub value : Tree
  pub readable : IsReadable value
  pub others : Members
  pub others_readable : HaveReadable others
  pub occurs : left ≡ members_key (more_members name value others) ++ []
  pub same : has_name bytes ns ≡ (there || (bytes_eq bytes name || has_name bytes others))

pub name_first : (there : Bool) (bytes : List ℕ) (ns : Members) (left : List ℕ) → NamesAhead there bytes ns left → ((more : List ℕ) → left ≡ members_key no_members ++ more → ⊥) → NameFirst there bytes ns left
name_first there bytes ns left l some = go l.names l.readable l.left_is l.same
  where
    go : (names : Members) → HaveReadable names → left ≡ members_key names → has_name bytes ns ≡ (there || has_name bytes names) → NameFirst there bytes ns left
    go no_members h e s = absurd (some [] (e ∙ sym (append-nil (members_key no_members))))
    go (more_members k t ms) h e s = record {
      name = k;
      value = t;
      readable = readable_inside t (record { proper = h.proper.1; within = h.within.0 });
      others = ms;
      others_readable = record { ascend = h.ascend.1; proper = h.proper.2; within = h.within.1 };
      occurs = e ∙ sym (append-nil (members_key (more_members k t ms)));
      same = s;
    }

pub no_name_left : (bytes : List ℕ) (ns : Members) (left : List ℕ) → NamesAhead false bytes ns left → ((name : List ℕ) → (t : Tree) → IsReadable t → (ms : Members) → (more : List ℕ) → left ≡ members_key (more_members name t ms) ++ more → ⊥) → has_name bytes ns ≡ false
no_name_left bytes ns left l none = go l.names l.readable l.left_is l.same
  where
    go : (names : Members) → HaveReadable names → left ≡ members_key names → has_name bytes ns ≡ has_name bytes names → has_name bytes ns ≡ false
    go no_members h e s = s
    go (more_members k t ms) h e s = absurd (none k t (readable_inside t (record { proper = h.proper.1; within = h.within.0 })) ms [] (e ∙ sym (append-nil (members_key (more_members k t ms)))))

-- keys of names compare as these do
names_eq : (k l : List ℕ) → bytes_eq (text_key k) (text_key l) ≡ bytes_eq k l
names_eq k l = equal_names (text_key k) (text_key l) ∙ ap is_eq (names_compare k l) ∙ sym (equal_names k l)

pub name_same : (bytes text name wanted : List ℕ) (b : Bool) → b ≡ bytes_eq name wanted → wanted ≡ text_key bytes → name ≡ text_key text → bytes_eq bytes text ≡ b
name_same bytes text name wanted b is e f = sym (names_eq bytes text) ∙ eq_turned (text_key bytes) (text_key text) ∙ (λ i. bytes_eq (sym f i) (sym e i)) ∙ sym is
  where
    eq_turned : (xs ys : List ℕ) → bytes_eq xs ys ≡ bytes_eq ys xs
    eq_turned xs ys = by (bytes_eq xs ys) (bytes_eq ys xs) (λ h. (bytes_eq-Decides ys xs).1 (sym ((bytes_eq-Decides xs ys).0 h))) (λ h. (bytes_eq-Decides xs ys).1 (sym ((bytes_eq-Decides ys xs).0 h)))
      where
        by : (a b : Bool) → (a ≡ true → b ≡ true) → (b ≡ true → a ≡ true) → a ≡ b
        by true b f g = sym (f refl)
        by false true f g = g refl
        by false false f g = refl

pub name_found : (bytes : List ℕ) (ns : Members) (left : List ℕ) (n : NameFirst false bytes ns left) → bytes_eq bytes n.name ≡ true → has_name bytes ns ≡ true
name_found bytes ns left n e = n.same ∙ ap (λ b. b || has_name bytes n.others) e

pub name_other : (bytes : List ℕ) (ns : Members) (left : List ℕ) (n : NameFirst false bytes ns left) (rest : List ℕ) → bytes_eq bytes n.name ≡ false → rest ≡ members_key n.others ++ [] → NamesAhead false bytes ns rest
name_other bytes ns left n rest e f = record {
  names = n.others;
  readable = n.others_readable;
  left_is = f ∙ append-nil (members_key n.others);
  same = n.same ∙ ap (λ b. b || has_name bytes n.others) e;
}

-- the first name is put into the set
pub name_gathered : (ns : Members) (set new : BTreeSet (Bor (List ℕ))) (left : List ℕ) (key : Bor (List ℕ)) (rest : List ℕ) → Updates (λ x y. bytes_cmp x.now y.now) set new key true → AreGathered ns set left → ((more : List ℕ) → left ≡ members_key no_members ++ more → ⊥)
    → ((name : List ℕ) → (t : Tree) → IsReadable t → (ms : Members) → (more : List ℕ) → left ≡ members_key (more_members name t ms) ++ more → (key.now ≡ text_key name) × (rest ≡ members_key ms ++ more)) → AreGathered ns new rest
name_gathered ns set new left key rest u g some next = λ bytes.
    let there = contains_by (λ k. bytes_cmp (text_key bytes) k.now) set in
    let n = name_first there bytes ns left (g bytes) some in
    let x = next n.name n.value n.readable n.others [] n.occurs in
    let here = name_same bytes n.name key.now (text_key bytes) (is_eq (bytes_cmp key.now (text_key bytes))) (sym (equal_names key.now (text_key bytes))) refl x.0 in
    record {
      names = n.others;
      readable = n.others_readable;
      left_is = x.1 ∙ append-nil (members_key n.others);
      same = n.same ∙ ap (λ b. there || (b || has_name bytes n.others)) here ∙ moved there (is_eq (bytes_cmp key.now (text_key bytes))) (has_name bytes n.others) ∙ ap (λ b. b || has_name bytes n.others) (sym (u.0 (record { ref_ptr = (0, 0); now = text_key bytes })));
    }
  where
    moved : (there here rest : Bool) → (there || (here || rest)) ≡ (cond here true there || rest)
    moved true true rest = refl
    moved true false rest = refl
    moved false true rest = refl
    moved false false rest = refl

-- ---- an item that is a name

-- an item whose key begins as those of strings do is one
pub string_named : (ns : Members) (t : Tree) → IsReadable t → (first : ℕ) (text item : List ℕ) → item ≡ first ∷ text → item ≡ key_of t → first ≡ 208 → (b : Bool) → ((bytes : List ℕ) → text ≡ text_key bytes → b ≡ has_name bytes ns) → b ≡ is_named ns t
string_named ns (string mark bytes) r first text item e f is b h = h bytes (tails first 208 text (text_key bytes) (sym e ∙ f))
string_named ns null r first text item e f is b h = absurd (omega (arith, is, heads first 211 text [] (sym e ∙ f)))
string_named ns (boolean true) r first text item e f is b h = absurd (omega (arith, is, heads first 22 text [] (sym e ∙ f)))
string_named ns (boolean false) r first text item e f is b h = absurd (omega (arith, is, heads first 21 text [] (sym e ∙ f)))
string_named ns (array ts) r first text item e f is b h = absurd (omega (arith, is, heads first 210 text (items_key ts) (sym e ∙ f)))
string_named ns (object ms) r first text item e f is b h = absurd (omega (arith, is, heads first 209 text (members_key ms) (sym e ∙ f)))
string_named ns (number n) r first text item e f is b h =
    let x = number_begins n (is_small n r.proper) in
    absurd (omega (arith, is, heads first x.head text x.tail (sym e ∙ f ∙ x.is), x.high))
string_named ns t r first text item e f is b h = absurd r.within

-- what is left isn't written
pub finish_lacks : (first : Output) (t : Tree) (found : Bool) (old : List ℕ) (r : Result Bool DocumentError) (error : DocumentError) (mid new : Vec ℕ Global) → found ≡ true → IsErrAnd r (λ e. e ≡ error)
    → (error ≡ OutOfMemory) × (vec_capacity mid < length old + length (output_of first (key_of t) (counts_at t))) → Finishes first t found old r mid new
finish_lacks first t found old (Ok x) error mid new f h full = absurd h
finish_lacks first t found old (Err e) error mid new f h full = (f, h ∙ full.0, full.1)
