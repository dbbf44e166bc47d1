-- Members merged one after the other.
use Rattle.std.proofs.Common.{◌≡◌, ℕ, ◌+◌, ◌<◌, ◌≤◌, inl, inr, Bool, true, false, List, [], ◌∷◌, ◌++◌, Ordering, Less, Equal, Greater, MatchBool, MatchOption, Bor, Some, None, Result, Ok, Err, is_err, Vec, vec_len, Global, length, refl, sym, ap, subst, ◌∙◌, arith, append-nil, append_assoc, length-append}
use Rattle.std.specs.Cmp.{tied_itself}
use Rattle.std.specs.Cmp.Lexicographic.{nat_list_cmp_total}
use Rattle.std.specs.Ordering.{match_ordering}
use Rattle.std.specs.Vec.{vec_capacity}
use Rattle.std.specs.declared.alloc.AllocError.{AllocError}
use Rattle.jsonb_spec.specs.SortKey.Readable.{IsAnyNumber, IsReadable}
use Rattle.jsonb_spec.specs.SortKey.Checked.{HaveReadable}
use Rattle.jsonb_spec.specs.SortKey.Passing.{AreBelow, IsFirst, joined_members}
use Rattle.key_walk.specs.Passing.{PassesBelow}
use Rattle.key_walk.specs.declared.pass.Passed.{Passed}
use Rattle.jsonb_spec.specs.SortKey.Open.{end_key}
use Rattle.key_walk.proofs.Finds.{readable_inside}
use Rattle.key_walk.proofs.Passing.{below_others, ended}
use Rattle.jsonb_spec.specs.Keys.{IsBelowKeys, KeysAscend}
use Rattle.jsonb_spec.specs.Order.{bytes_cmp}
use Rattle.jsonb_spec.specs.SortKey.{key_of, members_key, text_key}
use Rattle.jsonb_spec.specs.Text.Appending.{Appends}
use Rattle.jsonb_spec.specs.Text.Range.{IsWithin, HaveWithin}
use Rattle.jsonb_spec.specs.Tree.{Tree, Members, no_members, more_members, put}
use Rattle.jsonb_core.proofs.Trees.MembersInOrder.{turned}
use Rattle.jsonb_spec.specs.Edit.{merged_members}
use Rattle.jsonb_spec.specs.Edit.Merging.{AreFirst, keys_of_members}
use Rattle.key_edit.specs.Merging.{ComeFirst, IsLast, IsStep, StepsOn}
use Rattle.key_edit.specs.declared.merge.Step.{Step}

-- ---- members, merged

put_after : (k l : List ℕ) (t u : Tree) (ms : Members) → bytes_cmp k l ≡ Less → put l u (more_members k t ms) ≡ more_members k t (put l u ms)
put_after k l t u ms h = ap (λ o. match_ordering o (more_members l u (more_members k t ms)) (more_members k u ms) (more_members k t (put l u ms))) (turned k l h)

-- a member whose name is below the others stays first
stays_first : (k : List ℕ) (t : Tree) (ns ms : Members) → IsBelowKeys k ns → merged_members (more_members k t ms) ns ≡ more_members k t (merged_members ms ns)
stays_first k t no_members ms h = refl
stays_first k t (more_members l u ns) ms h = ap (λ m. merged_members m ns) (put_after k l t u ms h.0) ∙ stays_first k t ns (put l u ms) h.1

pub into_none : (ns : Members) → KeysAscend ns → merged_members no_members ns ≡ ns
into_none no_members h = refl
into_none (more_members l u ns) h = stays_first l u ns no_members h.0 ∙ ap (more_members l u) (into_none ns h.1)

picked_within : (o : Ordering) (a b c : Members) (depth : ℕ) → HaveWithin IsAnyNumber a depth → HaveWithin IsAnyNumber b depth → HaveWithin IsAnyNumber c depth → HaveWithin IsAnyNumber (match_ordering o a b c) depth
picked_within Less a b c depth h i j = h
picked_within Equal a b c depth h i j = i
picked_within Greater a b c depth h i j = j

put_within : (k : List ℕ) (t : Tree) (ms : Members) (depth : ℕ) → IsWithin IsAnyNumber t depth → HaveWithin IsAnyNumber ms depth → HaveWithin IsAnyNumber (put k t ms) depth
put_within k t no_members depth w h = (w, tt)
put_within k t (more_members l u ms) depth w h = picked_within (bytes_cmp k l) (more_members k t (more_members l u ms)) (more_members l t ms) (more_members l u (put k t ms)) depth (w, h) (w, h.1) (h.0, put_within k t ms depth w h.1)

pub merged_within : (ms ns : Members) (depth : ℕ) → HaveWithin IsAnyNumber ms depth → HaveWithin IsAnyNumber ns depth → HaveWithin IsAnyNumber (merged_members ms ns) depth
merged_within ms no_members depth h i = h
merged_within ms (more_members k t ns) depth h i = merged_within (put k t ms) ns depth (put_within k t ms depth i.0 h) i.1

-- ---- members after members

pub joined_key : (ms ns : Members) → members_key (joined_members ms ns) ≡ keys_of_members ms ++ members_key ns
joined_key no_members ns = refl
joined_key (more_members k t ms) ns =
    ap (λ l. text_key k ++ (key_of t ++ l)) (joined_key ms ns) ∙ ap (λ l. text_key k ++ l) (sym (append_assoc (key_of t) (keys_of_members ms) (members_key ns)))
    ∙ sym (append_assoc (text_key k) (key_of t ++ keys_of_members ms) (members_key ns))

-- those on the left side that come before all on the right one
run_first : (run ms ns : Members) → AreFirst run ns → merged_members (joined_members run ms) ns ≡ joined_members run (merged_members ms ns)
run_first no_members ms ns h = refl
run_first (more_members k t run) ms ns h = stays_first k t ns (joined_members run ms) h.0 ∙ ap (more_members k t) (run_first run ms ns h.1)

put_first : (k : List ℕ) (t : Tree) (ms : Members) → IsBelowKeys k ms → put k t ms ≡ more_members k t ms
put_first k t no_members h = refl
put_first k t (more_members l u ms) h = ap (λ o. match_ordering o (more_members k t (more_members l u ms)) (more_members l t ms) (more_members l u (put k t ms))) h.0

-- those on the right side that come before all on the left one
part_first : (part ms ns : Members) → AreFirst part ms → KeysAscend (joined_members part ns) → merged_members ms (joined_members part ns) ≡ joined_members part (merged_members ms ns)
part_first no_members ms ns h a = refl
part_first (more_members k t part) ms ns h a =
    ap (λ m. merged_members m (joined_members part ns)) (put_first k t ms h.0) ∙ stays_first k t (joined_members part ns) ms a.0 ∙ ap (more_members k t) (part_first part ms ns h.1 a.1)

-- the one on the right side is instead of the one on the left
same_first : (k : List ℕ) (t u : Tree) (ms ns : Members) → IsBelowKeys k ns → merged_members (more_members k t ms) (more_members k u ns) ≡ more_members k u (merged_members ms ns)
same_first k t u ms ns h =
    ap (λ m. merged_members m ns) (ap (λ o. match_ordering o (more_members k u (more_members k t ms)) (more_members k u ms) (more_members k t (put k u ms))) (tied_itself nat_list_cmp_total k))
    ∙ stays_first k u ns ms h

-- those below the first one come before all
all_first : (run : Members) (name : List ℕ) (t : Tree) (others : Members) → AreBelow run name → IsBelowKeys name others → AreFirst run (more_members name t others)
all_first no_members name t others h b = tt
all_first (more_members k u run) name t others h b = ((h.0, below_others k name others h.0 b), all_first run name t others h.1 b)

pub behind_first : (k : List ℕ) (t : Tree) (ms : Members) → HaveReadable (more_members k t ms) → HaveReadable ms
behind_first k t ms h = record { ascend = h.ascend.1; proper = h.proper.2; within = h.within.1 }

pub first_readable : (k : List ℕ) (t : Tree) (ms : Members) → HaveReadable (more_members k t ms) → IsReadable t
first_readable k t ms h = readable_inside t (record { proper = h.proper.1; within = h.within.0 })

-- ---- one step

-- there is a first member
pub first_of : (ns : Members) → (ns ≡ no_members → ⊥) → (name : List ℕ) × (t : Tree) × (others : Members) × (ns ≡ more_members name t others)
first_of no_members some = absurd (some refl)
first_of (more_members k t ns) some = (k, t, ns, refl)

pub ended_none : (ms : Members) (bytes rest : List ℕ) → HaveReadable ms → bytes ≡ members_key ms → bytes ≡ end_key true ++ rest → ms ≡ no_members
ended_none ms bytes rest h e over = ended ms bytes rest h e over

pub all_left : (ms ns : Members) (members : List ℕ) → HaveReadable ms → members ≡ members_key ms → ComeFirst ms ns members
all_left ms ns members h e = record { first = no_members; left = ms; is = refl; are_first = tt; readable = h; rest_is = e }

pub passed_first : (ms ns : Members) (passed : Passed) → HaveReadable ns → (name : List ℕ) (t : Tree) (others : Members) → ns ≡ more_members name t others → PassesBelow ms name passed → ComeFirst ms ns passed.rest.now
passed_first ms ns passed h name t others is p = record {
  first = p.below;
  left = p.others;
  is = p.is;
  are_first = subst (AreFirst p.below) (sym is) (all_first p.below name t others p.are_below (subst HaveReadable is h).ascend.0);
  readable = p.readable;
  rest_is = p.rest_is;
}

module _ (ms ns : Members) (name : List ℕ) (t : Tree) (others : Members) (h : HaveReadable ns) (is : ns ≡ more_members name t others) where
  ns_readable : HaveReadable (more_members name t others)
  ns_readable = subst HaveReadable is h

  pub others_readable : HaveReadable others
  others_readable = behind_first name t others ns_readable

  run_is_first : (below : Members) → AreBelow below name → AreFirst below ns
  run_is_first below b = subst (AreFirst below) (sym is) (all_first below name t others b ns_readable.ascend.0)

  run_before : (below left : Members) → ms ≡ joined_members below left → AreBelow below name → merged_members ms ns ≡ joined_members below (merged_members left ns)
  run_before below left e b =
      ap (λ m. merged_members m ns) e ∙ run_first below left ns (run_is_first below b)

  -- the name is on the right side alone
  pub steps_above : (step : Step) (passed : Passed) (rest : List ℕ) (p : PassesBelow ms name passed) → IsBelowKeys name p.others → (c : ComeFirst others p.others rest)
      → step.run.now ≡ keys_of_members p.below → step.part.now ≡ text_key name ++ (key_of t ++ keys_of_members c.first) → step.members.now ≡ passed.rest.now → step.others.now ≡ rest → StepsOn ms ns step
  steps_above step passed rest p above c run part members left = record {
    run = p.below;
    replaced = no_members;
    part = more_members name t c.first;
    members = p.others;
    others = c.left;
    left_is = p.is;
    right_is = is ∙ ap (more_members name t) c.is;
    run_first = run_is_first p.below p.are_below;
    part_first = (above, c.are_first);
    are_replaced = tt;
    merged_is =
        let ascend : KeysAscend (joined_members (more_members name t c.first) c.left) = subst (λ m. KeysAscend (more_members name t m)) c.is ns_readable.ascend in
        run_before p.below p.others p.is p.are_below
        ∙ ap (joined_members p.below) (ap (merged_members p.others) (is ∙ ap (more_members name t) c.is) ∙ part_first (more_members name t c.first) p.others c.left (above, c.are_first) ascend);
    run_is = run;
    part_is = part;
    members_are = members ∙ p.rest_is;
    others_are = left ∙ c.rest_is;
    readable = p.readable;
    others_readable = c.readable;
  }

  -- both sides have the name
  pub steps_same : (step : Step) (passed : Passed) (p : PassesBelow ms name passed) (u : Tree) (left : Members) → p.others ≡ more_members name u left
      → step.run.now ≡ keys_of_members p.below → step.part.now ≡ text_key name ++ (key_of t ++ []) → step.members.now ≡ members_key left → step.others.now ≡ members_key others → StepsOn ms ns step
  steps_same step passed p u left same run part members rest = record {
    run = p.below;
    replaced = more_members name u no_members;
    part = more_members name t no_members;
    members = left;
    others = others;
    left_is = p.is ∙ ap (joined_members p.below) same;
    right_is = is;
    run_first = run_is_first p.below p.are_below;
    part_first = ((subst HaveReadable same p.readable).ascend.0, tt);
    are_replaced = (refl, refl);
    merged_is = run_before p.below p.others p.is p.are_below
        ∙ ap (joined_members p.below) ((λ i. merged_members (same i) (is i)) ∙ same_first name u t left others ns_readable.ascend.0);
    run_is = run;
    part_is = part;
    members_are = members;
    others_are = rest;
    readable = behind_first name u left (subst HaveReadable same p.readable);
    others_readable = others_readable;
  }

  -- the bytes of the first member on the right side
  pub first_bytes : (right rest : List ℕ) → right ≡ members_key ns → rest ≡ members_key others → right ≡ (text_key name ++ (key_of t ++ [])) ++ rest
  first_bytes right rest e r =
      e ∙ ap members_key is ∙ ap (λ l. text_key name ++ (l ++ members_key others)) (sym (append-nil (key_of t))) ∙ sym (append_assoc (text_key name) (key_of t ++ []) (members_key others)) ∙ ap (λ l. (text_key name ++ (key_of t ++ [])) ++ l) (sym r)

  -- and of those that come then
  pub part_bytes : (right rest : List ℕ) → right ≡ members_key ns → (c : (first : Members) × (left : Members) × (others ≡ joined_members first left) × (rest ≡ members_key left)) → right ≡ (text_key name ++ (key_of t ++ keys_of_members c.0)) ++ rest
  part_bytes right rest e c =
      e ∙ ap members_key (is ∙ ap (more_members name t) c.2) ∙ joined_key (more_members name t c.0) c.1 ∙ ap (λ l. (text_key name ++ (key_of t ++ keys_of_members c.0)) ++ l) (sym c.3)

pub run_bytes : (ms : Members) (left rest : List ℕ) (below others : Members) → left ≡ members_key ms → ms ≡ joined_members below others → rest ≡ members_key others → left ≡ keys_of_members below ++ rest
run_bytes ms left rest below others e is r = e ∙ ap members_key is ∙ joined_key below others ∙ ap (λ l. keys_of_members below ++ l) (sym r)

-- where nothing has the name on the left side, it is below what is left there
pub is_above : (ms : Members) (name : List ℕ) (passed : Passed) (p : PassesBelow ms name passed) → passed.same ≡ None → IsBelowKeys name p.others
is_above ms name passed p none = subst (λ o. MatchOption o (IsBelowKeys name p.others) (IsFirst name p.others)) none p.same

pub is_same : (ms : Members) (name : List ℕ) (passed : Passed) (replaced : Bor (List ℕ)) (p : PassesBelow ms name passed) → passed.same ≡ Some replaced → IsFirst name p.others replaced
is_same ms name passed replaced p some = subst (λ o. MatchOption o (IsBelowKeys name p.others) (IsFirst name p.others)) some p.same

-- ---- the last step, and the others

pub is_last : (ms ns : Members) (step : Step) → step.over ≡ true → IsLast ms ns step → IsStep ms ns step
is_last ms ns step over l = subst (λ b. MatchBool b (IsLast ms ns step) (StepsOn ms ns step)) (sym over) l

pub is_next : (ms ns : Members) (step : Step) → (step.over ≡ false) × StepsOn ms ns step → IsStep ms ns step
is_next ms ns step s = subst (λ b. MatchBool b (IsLast ms ns step) (StepsOn ms ns step)) (sym s.0) s.1

pub last_step : (ms ns : Members) (step : Step) → step.over ≡ true → IsStep ms ns step → IsLast ms ns step
last_step ms ns step over s = subst (λ b. MatchBool b (IsLast ms ns step) (StepsOn ms ns step)) over s

pub next_step : (ms ns : Members) (step : Step) → step.over ≡ false → IsStep ms ns step → StepsOn ms ns step
next_step ms ns step on s = subst (λ b. MatchBool b (IsLast ms ns step) (StepsOn ms ns step)) on s

-- the last bytes are those of all members
pub last_key : (ms ns : Members) (step : Step) → HaveReadable ns → IsLast ms ns step → step.run.now ++ step.part.now ≡ members_key (merged_members ms ns)
last_key ms ns step h l = elim l [
  | inl r ↦ (λ i. r.1 i ++ r.2 i) ∙ ap members_key (sym (into_none ns h.ascend)) ∙ ap (λ m. members_key (merged_members m ns)) (sym r.0)
  | inr r ↦ (λ i. r.1 i ++ r.2 i) ∙ append-nil (members_key ms) ∙ ap (λ n. members_key (merged_members ms n)) (sym r.0)
]

-- the bytes of a step come first
pub step_key : (ms ns : Members) (step : Step) (s : StepsOn ms ns step) → members_key (merged_members ms ns) ≡ (step.run.now ++ step.part.now) ++ members_key (merged_members s.members s.others)
step_key ms ns step s =
    let rest = members_key (merged_members s.members s.others) in
    ap members_key s.merged_is ∙ joined_key s.run (joined_members s.part (merged_members s.members s.others)) ∙ ap (λ l. keys_of_members s.run ++ l) (joined_key s.part (merged_members s.members s.others))
    ∙ sym (append_assoc (keys_of_members s.run) (keys_of_members s.part) rest) ∙ (λ i. (sym s.run_is i ++ sym s.part_is i) ++ rest)

-- ---- the walk

-- what was appended, and what is left to be merged
pub record MergeLeft (ms ns : Members) (old out left right : List ℕ) : Type 0 where
  pub members : Members
  pub others : Members
  pub readable : HaveReadable members
  pub others_readable : HaveReadable others
  pub left_is : left ≡ members_key members
  pub right_is : right ≡ members_key others
  pub front : List ℕ
  pub appended : out ≡ old ++ 0xD1 ∷ front
  pub key_is : members_key (merged_members ms ns) ≡ front ++ members_key (merged_members members others)

abbrev pub WalksBoth : List ℕ → List ℕ → List ℕ → List ℕ → List ℕ → List ℕ → Type 0
WalksBoth all_left all_right old out left right = (ms ns : Members) → HaveReadable ms → HaveReadable ns → all_left ≡ members_key ms → all_right ≡ members_key ns → MergeLeft ms ns old out left right

pub merge_goes_on : (ms ns : Members) (old out left right next : List ℕ) (step : Step) (l : MergeLeft ms ns old out left right) → step.over ≡ false → IsStep l.members l.others step → next ≡ out ++ (step.run.now ++ step.part.now) → MergeLeft ms ns old next step.members.now step.others.now
merge_goes_on ms ns old out left right next step l on is e =
    let s = next_step l.members l.others step on is in
    let bytes = step.run.now ++ step.part.now in
    record {
      members = s.members;
      others = s.others;
      readable = s.readable;
      others_readable = s.others_readable;
      left_is = s.members_are;
      right_is = s.others_are;
      front = l.front ++ bytes;
      appended = e ∙ ap (λ o. o ++ bytes) l.appended ∙ append_assoc old (0xD1 ∷ l.front) bytes;
      key_is = l.key_is ∙ ap (λ k. l.front ++ k) (step_key l.members l.others step s) ∙ sym (append_assoc l.front bytes (members_key (merged_members s.members s.others)));
    }

pub merge_ended : (ms ns : Members) (old out left right next : List ℕ) (step : Step) (l : MergeLeft ms ns old out left right) → step.over ≡ true → IsStep l.members l.others step → next ≡ out ++ (step.run.now ++ step.part.now) → next ≡ old ++ 0xD1 ∷ members_key (merged_members ms ns)
merge_ended ms ns old out left right next step l over s e =
    let bytes = step.run.now ++ step.part.now in
    let last = last_key l.members l.others step l.others_readable (last_step l.members l.others step over s) in
    e ∙ ap (λ o. o ++ bytes) l.appended ∙ append_assoc old (0xD1 ∷ l.front) bytes ∙ ap (λ k. old ++ 0xD1 ∷ k) (ap (λ k. l.front ++ k) last ∙ sym l.key_is)

-- what comes next is a part of the whole
pub merge_longer : (ms ns : Members) (old out left right : List ℕ) (step : Step) (l : MergeLeft ms ns old out left right) → IsStep l.members l.others step → length out + length (step.run.now ++ step.part.now) ≤ length old + length (0xD1 ∷ members_key (merged_members ms ns))
merge_longer ms ns old out left right step l s = go step.over s
  where
    go : (over : Bool) → MatchBool over (IsLast l.members l.others step) (StepsOn l.members l.others step) → length out + length (step.run.now ++ step.part.now) ≤ length old + length (0xD1 ∷ members_key (merged_members ms ns))
    go true last = omega (arith, ap length l.appended, length-append old (0xD1 ∷ l.front), ap length l.key_is, length-append l.front (members_key (merged_members l.members l.others)), ap length (last_key l.members l.others step l.others_readable last))
    go false on = omega (arith, ap length l.appended, length-append old (0xD1 ∷ l.front), ap length l.key_is, length-append l.front (members_key (merged_members l.members l.others)), ap length (step_key l.members l.others step on), length-append (step.run.now ++ step.part.now) (members_key (merged_members on.members on.others)))

-- ---- what is appended

false_true : false ≡ true → ⊥
false_true e = cc

pub both_appended : (r : Result (Unit {0}) AllocError) (old new : Vec ℕ Global) (bytes : List ℕ) → is_err r ≡ false → Appends r old new bytes → new.items ≡ old.items ++ bytes
both_appended (Ok x) old new bytes e a = a.ok
both_appended (Err x) old new bytes e a = absurd (false_true (sym e))

pub both_lacking : (r : Result (Unit {0}) AllocError) (old new : Vec ℕ Global) (bytes : List ℕ) → is_err r ≡ true → Appends r old new bytes → vec_capacity old < vec_len old + length bytes
both_lacking (Ok x) old new bytes e a = absurd (false_true e)
both_lacking (Err x) old new bytes e a = a.full
