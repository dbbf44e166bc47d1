use Rattle.std.proofs.Common.{◌-◌, subst, arith}
use Rattle.key_document.proofs.Passing.{passes}
use Rattle.key_document.proofs.zeros.pass.Goals as goal
use Rattle.jsonb_spec.specs.Document.Numbers.{Pends}
use Rattle.key_zeros.proofs.Taking.{none_skipped, entry_reached, entry_skipped, counts_long}

pub entries-init : goal.entries-init
entries-init c = record { passing = λ counts small p enough. passes counts c.args.bytes c.args.left p enough }

pub returns-in_default : goal.returns-in_default
returns-in_default c = record {
  found = λ counts small p enough.
      let x = c.entries.invariant.passing counts small p enough in
      none_skipped counts c.args.bytes c.entries.todo x.rest x.skip (subst (Pends x.skip.others) c.in_default.is x.pends);
}

pub returns-then-before-todo : goal.returns-then-before-todo
returns-then-before-todo c = record {
  found = λ counts small p enough.
      let x = c.entries.invariant.passing counts small p enough in
      entry_reached counts c.args.bytes c.entries.todo x.rest x.skip c.in-Some.before c.in-Some.count c.in-Some.others.now (subst (Pends x.skip.others) c.in-Some.is x.pends) (c.in-Some.before - c.entries.todo) (omega (arith, c.if-before-todo.true));
}

pub returns-in_default-all_left : goal.returns-in_default-all_left
returns-in_default-all_left c = record {
  found = λ counts small p enough.
      let x = c.entries.invariant.passing counts small p enough in
      let q = subst (Pends x.skip.others) c.in-Some.is x.pends in
      absurd (c.in_default-all_left.ensures.found q.later (omega (arith, small, x.skip.fewer, counts_long x.skip.others c.in-Some.before c.in-Some.count q.later q.is)) q.zeros);
}

pub entries-preserved : goal.entries-preserved
entries-preserved c = record {
  passing = λ counts small p enough.
      let x = c.entries.invariant.passing counts small p enough in
      let q = subst (Pends x.skip.others) c.in-Some.is x.pends in
      let s = entry_skipped counts c.args.bytes c.entries.todo x.rest x.skip c.in-Some.before c.in-Some.count c.in-Some.others.now q c.if-before-todo.false in
      record { rest = c.in-Some.others.now; skip = s; pends = c.in-Ok.ensures.found s.others (omega (arith, small, s.fewer)) s.occurs };
}
