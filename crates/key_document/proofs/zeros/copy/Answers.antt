use Rattle.std.proofs.Common.{◌≡◌, ◌+◌, ◌-◌, ◌<◌, ◌^◌, take, drop, sym, subst, arith}
use Rattle.key_text.proofs.Appending.{preserves_on, retained}
use Rattle.jsonb_spec.specs.Document.Numbers.{Pends}
use Rattle.key_zeros.proofs.Taking.{entry_copied, entry_sink, counts_long, plain_copied, taken_none, taken_plain}
use Rattle.key_document.proofs.Passing.{copies_on, still_same, none_left, one_left, no_capacity_on}
use Rattle.key_document.proofs.zeros.copy.Goals as goal

pub entries-init : goal.entries-init
entries-init c = record { copying = λ counts p enough short fit. copies_on counts c.args.plain c.args.bytes c.args.out.now.items c.args.left p enough short fit; preserves = retained c.args.out.now }

pub entries-preserved : goal.entries-preserved
entries-preserved c = record {
  copying = λ counts p enough short fit.
      let x = c.entries.invariant.copying counts p enough short fit in
      let q = subst (Pends x.others) c.in-Some.is x.pends in
      let long = counts_long x.others c.in-Some.before c.in-Some.count q.later q.is in
      let small : c.entries.plain + c.in-Some.before < 2 ^ 63 = omega (arith, x.copy.fit, c.if-before-todo.false) in
      let gap : c.in-Ok-more_plain-2.gap ≡ c.entries.plain + c.in-Some.before = c.in-Ok-more_plain-2.ensures small in
      let gap_small : c.in-Ok-more_plain-2.gap < 2 ^ 63 = omega (arith, small, gap) in
      record {
        others = q.later;
        pends = c.in-Ok-all_left.ensures.found q.later (omega (arith, x.copy.short, long)) q.zeros;
        copy = entry_copied c.args.plain (take c.args.bytes counts) c.args.out.now.items c.entries.out.items x.others c.entries.todo c.entries.plain c.in-Some.before c.in-Some.count c.in-Some.others.now x.copy q c.if-before-todo.false c.in-Ok-more_plain-2.gap (omega (arith, gap))
            c.append_entry.new.buf.items c.in_ok-plain.plain (c.in_ok-plain.ensures.appends gap_small).ok (c.in_ok-plain.ensures.plain gap_small);
        same = still_same counts x.others q.later c.args.bytes c.entries.todo c.in-Some.before c.in-Some.count x.same q.is c.if-before-todo.false;
        fewer = omega (arith, x.fewer, long);
      };
  preserves = preserves_on c.args.out.now c.entries.out c.append_entry.new.buf c.entries.invariant.preserves c.in_ok-plain.ensures.preserves;
}

pub returns-in_default-clause-found : goal.returns-in_default-clause-found
returns-in_default-clause-found c = λ counts p enough short fit.
    let x = c.entries.invariant.copying counts p enough short fit in
    let all = subst (Pends x.others) c.in_default.is x.pends in
    let sum : c.in-Ok.sum ≡ c.entries.plain + c.entries.todo = c.in-Ok.ensures (omega (arith, x.copy.fit)) in
    let y = plain_copied c.args.plain (take c.args.bytes counts) c.args.out.now.items c.entries.out.items x.others c.entries.todo c.entries.plain c.in-Ok.sum x.copy (taken_none x.others c.entries.todo all x.copy.enough) (sym sum) in
    (y.0, y.1, none_left counts c.args.plain c.args.bytes c.args.out.now.items c.entries.out.items c.entries.todo c.entries.plain c.entries.next x all)

pub returns-then-before-todo-clause-found : goal.returns-then-before-todo-clause-found
returns-then-before-todo-clause-found c = λ counts p enough short fit.
    let x = c.entries.invariant.copying counts p enough short fit in
    let q = subst (Pends x.others) c.in-Some.is x.pends in
    let sum : c.in-Ok-more_plain.sum ≡ c.entries.plain + c.entries.todo = c.in-Ok-more_plain.ensures (omega (arith, x.copy.fit)) in
    let all = taken_plain x.others c.entries.todo c.in-Some.before c.in-Some.count c.in-Some.others.now q c.if-before-todo.true in
    let y = plain_copied c.args.plain (take c.args.bytes counts) c.args.out.now.items c.entries.out.items x.others c.entries.todo c.entries.plain c.in-Ok-more_plain.sum x.copy all (sym sum) in
    (y.0, y.1, one_left counts c.args.plain c.args.bytes c.args.out.now.items c.entries.out.items c.entries.todo c.entries.plain c.entries.next x c.in-Some.before c.in-Some.count c.in-Some.others.now q (c.in-Some.before - c.entries.todo) (omega (arith, c.if-before-todo.true)))

pub returns-in_err-plain-clause-found : goal.returns-in_err-plain-clause-found
returns-in_err-plain-clause-found c = λ counts p enough short fit.
    let x = c.entries.invariant.copying counts p enough short fit in
    let q = subst (Pends x.others) c.in-Some.is x.pends in
    let small : c.entries.plain + c.in-Some.before < 2 ^ 63 = omega (arith, x.copy.fit, c.if-before-todo.false) in
    let gap : c.in-Ok-more_plain-2.gap ≡ c.entries.plain + c.in-Some.before = c.in-Ok-more_plain-2.ensures small in
    let gap_small : c.in-Ok-more_plain-2.gap < 2 ^ 63 = omega (arith, small, gap) in
    let depth_left = entry_sink c.args.plain (take c.args.bytes counts) c.args.out.now.items c.entries.out.items x.others c.entries.todo c.entries.plain c.in-Some.before c.in-Some.count c.in-Some.others.now x.copy q c.if-before-todo.false c.in-Ok-more_plain-2.gap (omega (arith, gap)) in
    no_capacity_on c.args.plain (take c.args.bytes counts) (drop c.args.bytes counts) c.from_residual.result c.args.out.now c.append_entry.new.buf c.from_residual.ensures.1
    (omega (arith, depth_left, c.entries.invariant.preserves.capacity, (c.in_err-plain.ensures.appends gap_small).full))
