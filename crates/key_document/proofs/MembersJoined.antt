-- The zeros of an object with the members of two, step by step.
use Rattle.std.proofs.Common.{◌≡◌, ℕ, ◌+◌, ◌-◌, ◌<◌, ◌≤◌, ◌^◌, inl, inr, Bool, true, false, List, [], ◌++◌, Bor, MatchBool, Option, length, replicate, drop, take, refl, sym, ap, subst, ◌∙◌, arith, append-nil, append_assoc, length-append}
use Rattle.std.proofs.Math.Seq.{drop-append_seam, take-append_seam, take-length}
use Rattle.std.proofs.lemmas.List.{length-replicate}
use Rattle.jsonb_spec.specs.Proper.{HaveProperParts}
use Rattle.jsonb_spec.specs.SortKey.{key_of, members_key, text_key}
use Rattle.jsonb_spec.specs.Tree.{Members, no_members, more_members}
use Rattle.jsonb_spec.specs.SortKey.Checked.{HaveReadable}
use Rattle.jsonb_spec.specs.SortKey.Passing.{joined_members}
use Rattle.key_document.specs.Merging.{taken_counts}
use Rattle.key_text.proofs.Counts.{members_each, one_each}
use Rattle.key_document.proofs.Joining.{plain_bound}
use Rattle.jsonb_spec.specs.Edit.{merged_members}
use Rattle.key_edit.specs.Merging.{IsLast, IsStep, StepsOn}
use Rattle.jsonb_spec.specs.Edit.Merging.{keys_of_members}
use Rattle.key_edit.proofs.Merged.{into_none, joined_key, last_step, next_step}
use Rattle.key_edit.specs.declared.merge.Step.{Step}
use Rattle.jsonb_spec.specs.Document.Numbers.{Pends}
use Rattle.jsonb_spec.specs.Document.Zeros.{plain_at_end, zeros_of}
use Rattle.key_zeros.proofs.Joining.{plain_joined, zeros_joined}
use Rattle.jsonb_spec.specs.Document.Counts.{counts_at, counts_at_members}

-- ---- members after members

-- the counts of the members, without the end of an object
abbrev pub counts_of_members : Members → List ℕ
counts_of_members no_members = []
counts_of_members (more_members k t ms) = replicate (length (text_key k)) 0 ++ (counts_at t ++ counts_of_members ms)

pub joined_counts : (ms ns : Members) → counts_at_members (joined_members ms ns) ≡ counts_of_members ms ++ counts_at_members ns
joined_counts no_members ns = refl
joined_counts (more_members k t ms) ns =
    ap (λ l. replicate (length (text_key k)) 0 ++ (counts_at t ++ l)) (joined_counts ms ns)
    ∙ ap (λ l. replicate (length (text_key k)) 0 ++ l) (sym (append_assoc (counts_at t) (counts_of_members ms) (counts_at_members ns)))
    ∙ sym (append_assoc (replicate (length (text_key k)) 0) (counts_at t ++ counts_of_members ms) (counts_at_members ns))

pub counts_each : (ms : Members) → HaveProperParts ms → length (counts_of_members ms) ≡ length (keys_of_members ms)
counts_each no_members p = refl
counts_each (more_members k t ms) p =
    omega (
      arith,
      length-append (replicate (length (text_key k)) 0) (counts_at t ++ counts_of_members ms),
      length-replicate {A = ℕ} (length (text_key k)) 0,
      length-append (counts_at t) (counts_of_members ms),
      length-append (text_key k) (key_of t ++ keys_of_members ms),
      length-append (key_of t) (keys_of_members ms),
      one_each t p.1,
      counts_each ms p.2,
    )

pub first_proper : (ms ns : Members) → HaveProperParts (joined_members ms ns) → HaveProperParts ms
first_proper no_members ns p = tt
first_proper (more_members k t ms) ns p = (p.0, p.1, first_proper ms ns p.2)

others_proper : (ms ns : Members) → HaveProperParts (joined_members ms ns) → HaveProperParts ns
others_proper no_members ns p = p
others_proper (more_members k t ms) ns p = others_proper ms ns p.2

-- ---- one step

split_taken : (size : ℕ) (xs one rest : List ℕ) → xs ≡ one ++ rest → size ≡ length one → take size xs ≡ one
split_taken size xs one rest e s = ap (λ n. take n xs) s ∙ ap (take (length one)) e ∙ take-append_seam one rest

split_left : (size : ℕ) (xs one rest : List ℕ) → xs ≡ one ++ rest → size ≡ length one → drop size xs ≡ rest
split_left size xs one rest e s = ap (λ n. drop n xs) s ∙ ap (drop (length one)) e ∙ drop-append_seam one rest

-- What a step takes of the counts on both sides, and what is behind it in those of all.
record StepTaken (run replaced part : ℕ) (xs ys all : List ℕ) : Type 0 where
  one : List ℕ
  rest : List ℕ
  is : all ≡ one ++ rest
  taken : taken_counts run part xs ys ≡ one
  size : run + part ≡ length one
  enough : run + replaced ≤ length xs
  part_enough : part ≤ length ys

module _ (ms ns : Members) (left right : List ℕ) (step : Step) (replaced : ℕ) (h : HaveReadable ms) (i : HaveReadable ns) (left_is : left ≡ members_key ms) (right_is : right ≡ members_key ns) (replaces : replaced ≡ length left - length step.run.now - length step.members.now) where
  -- the last step takes all that is left
  last_counts : IsLast ms ns step → taken_counts (length step.run.now) (length step.part.now) (counts_at_members ms) (counts_at_members ns) ≡ counts_at_members (merged_members ms ns)
  last_counts l = elim l [
    | inl r ↦
        ap (λ n. take n (counts_at_members ms) ++ take (length step.part.now) (counts_at_members ns)) (ap length r.1)
        ∙ ap (λ n. take n (counts_at_members ns)) (ap length r.2 ∙ sym (members_each ns i.proper)) ∙ take-length (counts_at_members ns)
        ∙ ap counts_at_members (sym (into_none ns i.ascend)) ∙ ap (λ m. counts_at_members (merged_members m ns)) (sym r.0)
    | inr r ↦
        ap (λ n. take (length step.run.now) (counts_at_members ms) ++ take n (counts_at_members ns)) (ap length r.2) ∙ append-nil (take (length step.run.now) (counts_at_members ms))
        ∙ ap (λ n. take n (counts_at_members ms)) (ap length r.1 ∙ sym (members_each ms h.proper)) ∙ take-length (counts_at_members ms)
        ∙ ap (λ n. counts_at_members (merged_members ms n)) (sym r.0)
  ]

  last_size : IsLast ms ns step → length step.run.now + length step.part.now ≡ length (counts_at_members (merged_members ms ns))
  last_size l = elim l [
    | inl r ↦ omega (arith, ap length r.1, ap length r.2, members_each ns i.proper, ap length (ap (λ m. counts_at_members (merged_members m ns)) r.0 ∙ ap counts_at_members (into_none ns i.ascend)))
    | inr r ↦ omega (arith, ap length r.1, ap length r.2, members_each ms h.proper, ap length (ap (λ n. counts_at_members (merged_members ms n)) r.0))
  ]

  last_enough : IsLast ms ns step → (length step.run.now + replaced ≤ length (counts_at_members ms)) × (length step.part.now ≤ length (counts_at_members ns))
  last_enough l = elim l [
    | inl r ↦ (omega (arith, replaces, ap length r.1, ap length left_is, members_each ms h.proper), omega (arith, ap length r.2, members_each ns i.proper))
    | inr r ↦ (omega (arith, replaces, ap length r.1, ap length left_is, members_each ms h.proper), omega (arith, ap length r.2))
  ]

  last_taken : IsLast ms ns step → StepTaken (length step.run.now) replaced (length step.part.now) (counts_at_members ms) (counts_at_members ns) (counts_at_members (merged_members ms ns))
  last_taken l = record {
    one = counts_at_members (merged_members ms ns);
    rest = [];
    is = sym (append-nil (counts_at_members (merged_members ms ns)));
    taken = last_counts l;
    size = last_size l;
    enough = (last_enough l).0;
    part_enough = (last_enough l).1;
  }

  module _ (s : StepsOn ms ns step) where
    xs_are : counts_at_members ms ≡ counts_of_members s.run ++ (counts_of_members s.replaced ++ counts_at_members s.members)
    xs_are = ap counts_at_members s.left_is ∙ joined_counts s.run (joined_members s.replaced s.members) ∙ ap (λ l. counts_of_members s.run ++ l) (joined_counts s.replaced s.members)

    ys_are : counts_at_members ns ≡ counts_of_members s.part ++ counts_at_members s.others
    ys_are = ap counts_at_members s.right_is ∙ joined_counts s.part s.others

    left_proper : HaveProperParts (joined_members s.run (joined_members s.replaced s.members))
    left_proper = subst HaveProperParts s.left_is h.proper

    right_proper : HaveProperParts (joined_members s.part s.others)
    right_proper = subst HaveProperParts s.right_is i.proper

    run_size : length step.run.now ≡ length (counts_of_members s.run)
    run_size = ap length s.run_is ∙ sym (counts_each s.run (first_proper s.run (joined_members s.replaced s.members) left_proper))

    part_size : length step.part.now ≡ length (counts_of_members s.part)
    part_size = ap length s.part_is ∙ sym (counts_each s.part (first_proper s.part s.others right_proper))

    replaced_size : replaced ≡ length (counts_of_members s.replaced)
    replaced_size = omega (
      arith,
      replaces,
      ap length s.run_is,
      ap length s.members_are,
      ap length (left_is ∙ ap members_key s.left_is ∙ joined_key s.run (joined_members s.replaced s.members)),
      length-append (keys_of_members s.run) (members_key (joined_members s.replaced s.members)),
      ap length (joined_key s.replaced s.members),
      length-append (keys_of_members s.replaced) (members_key s.members),
      counts_each s.replaced (first_proper s.replaced s.members (others_proper s.run (joined_members s.replaced s.members) left_proper)),
    )

    next_taken : StepTaken (length step.run.now) replaced (length step.part.now) (counts_at_members ms) (counts_at_members ns) (counts_at_members (merged_members ms ns))
    next_taken = record {
      one = counts_of_members s.run ++ counts_of_members s.part;
      rest = counts_at_members (merged_members s.members s.others);
      is = ap counts_at_members s.merged_is ∙ joined_counts s.run (joined_members s.part (merged_members s.members s.others)) ∙ ap (λ l. counts_of_members s.run ++ l) (joined_counts s.part (merged_members s.members s.others))
          ∙ sym (append_assoc (counts_of_members s.run) (counts_of_members s.part) (counts_at_members (merged_members s.members s.others)));
      taken = λ i. split_taken (length step.run.now) (counts_at_members ms) (counts_of_members s.run) (counts_of_members s.replaced ++ counts_at_members s.members) xs_are run_size i
          ++ split_taken (length step.part.now) (counts_at_members ns) (counts_of_members s.part) (counts_at_members s.others) ys_are part_size i;
      size = omega (arith, run_size, part_size, length-append (counts_of_members s.run) (counts_of_members s.part));
      enough = omega (arith, run_size, replaced_size, ap length xs_are, length-append (counts_of_members s.run) (counts_of_members s.replaced ++ counts_at_members s.members), length-append (counts_of_members s.replaced) (counts_at_members s.members));
      part_enough = omega (arith, part_size, ap length ys_are, length-append (counts_of_members s.part) (counts_at_members s.others));
    }

    lefts_are : drop replaced (drop (length step.run.now) (counts_at_members ms)) ≡ counts_at_members s.members
    lefts_are =
        ap (drop replaced) (split_left (length step.run.now) (counts_at_members ms) (counts_of_members s.run) (counts_of_members s.replaced ++ counts_at_members s.members) xs_are run_size)
        ∙ split_left replaced (counts_of_members s.replaced ++ counts_at_members s.members) (counts_of_members s.replaced) (counts_at_members s.members) refl replaced_size

    rights_are : drop (length step.part.now) (counts_at_members ns) ≡ counts_at_members s.others
    rights_are = split_left (length step.part.now) (counts_at_members ns) (counts_of_members s.part) (counts_at_members s.others) ys_are part_size

    lefts_within : length (counts_at_members s.members) ≤ length (counts_at_members ms)
    lefts_within = omega (arith, ap length xs_are, length-append (counts_of_members s.run) (counts_of_members s.replaced ++ counts_at_members s.members), length-append (counts_of_members s.replaced) (counts_at_members s.members))

    rights_within : length (counts_at_members s.others) ≤ length (counts_at_members ns)
    rights_within = omega (arith, ap length ys_are, length-append (counts_of_members s.part) (counts_at_members s.others))

-- ---- the walk

-- What was appended of the zeros of both, and what is left on both sides.
pub record JoinLeft (ms ns : Members) (old now : List ℕ) (plain : ℕ) (ours theirs : Option (ℕ × ℕ × Bor (List ℕ))) (left right : List ℕ) : Type 0 where
  pub members : Members
  pub others : Members
  pub readable : HaveReadable members
  pub others_readable : HaveReadable others
  pub left_is : left ≡ members_key members
  pub right_is : right ≡ members_key others
  pub left_short : length (counts_at_members members) < 2 ^ 63
  pub right_short : length (counts_at_members others) < 2 ^ 63
  pub ours_pend : Pends (counts_at_members members) ours
  pub theirs_pend : Pends (counts_at_members others) theirs
  pub front : List ℕ
  pub counts_are : counts_at_members (merged_members ms ns) ≡ front ++ counts_at_members (merged_members members others)
  pub appended : now ≡ old ++ zeros_of 1 front
  pub plain_is : plain ≡ plain_at_end 1 front

pub join_begun : (ms ns : Members) (old left right : List ℕ) (ours theirs : Option (ℕ × ℕ × Bor (List ℕ))) → HaveReadable ms → HaveReadable ns → left ≡ members_key ms → right ≡ members_key ns
    → length (counts_at_members ms) < 2 ^ 63 → length (counts_at_members ns) < 2 ^ 63 → Pends (counts_at_members ms) ours → Pends (counts_at_members ns) theirs → JoinLeft ms ns old old 1 ours theirs left right
join_begun ms ns old left right ours theirs h i l r a b p q = record {
  members = ms;
  others = ns;
  readable = h;
  others_readable = i;
  left_is = l;
  right_is = r;
  left_short = a;
  right_short = b;
  ours_pend = p;
  theirs_pend = q;
  front = [];
  counts_are = refl;
  appended = sym (append-nil old);
  plain_is = refl;
}

-- what a step takes next
pub record NextTaken (ms ns : Members) (old now : List ℕ) (plain run replaced part : ℕ) (xs ys : List ℕ) : Type 0 where
  pub enough : run + replaced ≤ length xs
  pub part_enough : part ≤ length ys
  pub xs_short : length xs < 2 ^ 63
  pub ys_short : length ys < 2 ^ 63
  pub fit : plain + run + part < 2 ^ 63
  pub depth_left : length now + length (zeros_of plain (taken_counts run part xs ys)) ≤ length old + length (zeros_of 1 (counts_at_members (merged_members ms ns)))

module _ (ms ns : Members) (old now : List ℕ) (plain : ℕ) (ours theirs : Option (ℕ × ℕ × Bor (List ℕ))) (left right : List ℕ) (step : Step) (replaced : ℕ) (l : JoinLeft ms ns old now plain ours theirs left right) (s : IsStep l.members l.others step) (replaces : replaced ≡ length left - length step.run.now - length step.members.now) where
  abbrev Taken : Type 0
  Taken = StepTaken (length step.run.now) replaced (length step.part.now) (counts_at_members l.members) (counts_at_members l.others) (counts_at_members (merged_members l.members l.others))

  -- what the step takes, be it the last one or not
  step_taken : Taken
  step_taken = go step.over s
    where
      go : (over : Bool) → MatchBool over (IsLast l.members l.others step) (StepsOn l.members l.others step) → Taken
      go true last = last_taken l.members l.others left right step replaced l.readable l.others_readable l.left_is l.right_is replaces last
      go false on = next_taken l.members l.others left right step replaced l.readable l.others_readable l.left_is l.right_is replaces on

  -- the zeros so far, of these bytes, and of those behind them
  zeros_split : (t : Taken) → zeros_of 1 (counts_at_members (merged_members ms ns)) ≡ zeros_of 1 l.front ++ (zeros_of plain t.one ++ zeros_of (plain_at_end plain t.one) t.rest)
  zeros_split t =
      ap (zeros_of 1) (l.counts_are ∙ ap (λ c. l.front ++ c) t.is) ∙ zeros_joined 1 l.front (t.one ++ t.rest)
      ∙ ap (λ z. zeros_of 1 l.front ++ z) (ap (λ n. zeros_of n (t.one ++ t.rest)) (sym l.plain_is) ∙ zeros_joined plain t.one t.rest)

  capacity_for : (t : Taken) → length now + length (zeros_of plain t.one) ≤ length old + length (zeros_of 1 (counts_at_members (merged_members ms ns)))
  capacity_for t =
      omega (arith, ap length l.appended, length-append old (zeros_of 1 l.front), ap length (zeros_split t), length-append (zeros_of 1 l.front) (zeros_of plain t.one ++ zeros_of (plain_at_end plain t.one) t.rest), length-append (zeros_of plain t.one) (zeros_of (plain_at_end plain t.one) t.rest))

  pub next : 1 + length (counts_at_members (merged_members ms ns)) < 2 ^ 63 → NextTaken ms ns old now plain (length step.run.now) replaced (length step.part.now) (counts_at_members l.members) (counts_at_members l.others)
  next fit = go step_taken
    where
      go : Taken → NextTaken ms ns old now plain (length step.run.now) replaced (length step.part.now) (counts_at_members l.members) (counts_at_members l.others)
      go t = record {
        enough = t.enough;
        part_enough = t.part_enough;
        xs_short = l.left_short;
        ys_short = l.right_short;
        fit = omega (arith, fit, t.size, l.plain_is, plain_bound 1 l.front, ap length l.counts_are, length-append l.front (counts_at_members (merged_members l.members l.others)), ap length t.is, length-append t.one t.rest);
        depth_left = subst (λ o. length now + length (zeros_of plain o) ≤ length old + length (zeros_of 1 (counts_at_members (merged_members ms ns)))) (sym t.taken) (capacity_for t);
      }

  -- the zeros of what was taken are behind those so far
  appended_on : (one : List ℕ) (new : List ℕ) → new ≡ now ++ zeros_of plain one → new ≡ old ++ zeros_of 1 (l.front ++ one)
  appended_on one new is =
      is ∙ ap (λ b. b ++ zeros_of plain one) l.appended ∙ append_assoc old (zeros_of 1 l.front) (zeros_of plain one)
      ∙ ap (λ z. old ++ z) (ap (λ n. zeros_of 1 l.front ++ zeros_of n one) l.plain_is ∙ sym (zeros_joined 1 l.front one))

  pub goes_on : step.over ≡ false → (new : List ℕ) (more : ℕ) (our_rest their_rest : Option (ℕ × ℕ × Bor (List ℕ))) → new ≡ now ++ zeros_of plain (taken_counts (length step.run.now) (length step.part.now) (counts_at_members l.members) (counts_at_members l.others))
      → more ≡ plain_at_end plain (taken_counts (length step.run.now) (length step.part.now) (counts_at_members l.members) (counts_at_members l.others)) → Pends (drop replaced (drop (length step.run.now) (counts_at_members l.members))) our_rest → Pends (drop (length step.part.now) (counts_at_members l.others)) their_rest
      → JoinLeft ms ns old new more our_rest their_rest step.members.now step.others.now
  unfolding next_taken
  goes_on not_over new more our_rest their_rest is plain_more p q =
      let on = next_step l.members l.others step not_over s in
      let t = next_taken l.members l.others left right step replaced l.readable l.others_readable l.left_is l.right_is replaces on in
      record {
        members = on.members;
        others = on.others;
        readable = on.readable;
        others_readable = on.others_readable;
        left_is = on.members_are;
        right_is = on.others_are;
        left_short = omega (arith, l.left_short, lefts_within l.members l.others left right step replaced l.readable l.others_readable l.left_is l.right_is replaces on);
        right_short = omega (arith, l.right_short, rights_within l.members l.others left right step replaced l.readable l.others_readable l.left_is l.right_is replaces on);
        ours_pend = subst (λ c. Pends c our_rest) (lefts_are l.members l.others left right step replaced l.readable l.others_readable l.left_is l.right_is replaces on) p;
        theirs_pend = subst (λ c. Pends c their_rest) (rights_are l.members l.others left right step replaced l.readable l.others_readable l.left_is l.right_is replaces on) q;
        front = l.front ++ t.one;
        counts_are = l.counts_are ∙ ap (λ c. l.front ++ c) t.is ∙ sym (append_assoc l.front t.one t.rest);
        appended = appended_on t.one new (is ∙ ap (λ o. now ++ zeros_of plain o) t.taken);
        plain_is = plain_more ∙ ap (plain_at_end plain) t.taken ∙ ap (λ n. plain_at_end n t.one) l.plain_is ∙ sym (plain_joined 1 l.front t.one);
      }

  pub ended : step.over ≡ true → (new : List ℕ) → new ≡ now ++ zeros_of plain (taken_counts (length step.run.now) (length step.part.now) (counts_at_members l.members) (counts_at_members l.others)) → new ≡ old ++ zeros_of 1 (counts_at_members (merged_members ms ns))
  ended over new is =
      let last = last_step l.members l.others step over s in
      let all = last_counts l.members l.others left right step replaced l.readable l.others_readable l.left_is l.right_is replaces last in
      appended_on (counts_at_members (merged_members l.members l.others)) new (is ∙ ap (λ o. now ++ zeros_of plain o) all) ∙ ap (λ c. old ++ zeros_of 1 c) (sym l.counts_are)
