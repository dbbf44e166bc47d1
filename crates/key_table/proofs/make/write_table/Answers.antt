use Rattle.std.proofs.Common.{◌+◌, ◌++◌, ◌∷◌, [], Ok, length, refl, sym, ap, subst, ◌∙◌, arith, append-nil}
use Rattle.std.proofs.lemmas.Bool.{le-leb, lt-leb}
use Rattle.jsonb_spec.specs.SortKey.{members_key}
use Rattle.jsonb_spec.specs.SortKey.Found.{members_len}
use Rattle.key_walk.specs.Found.{IsNext}
use Rattle.jsonb_spec.specs.SortKey.Open.{members}
use Rattle.key_walk.proofs.Occurrence.{true_false}
use Rattle.jsonb_spec.specs.Table.{in_two, table_mark}
use Rattle.key_text.proofs.Appending.{preserves_on, retained, retained_by}
use Rattle.key_table.proofs.Walking.{all_walked, begun, first_walked, next_shorter, no_fault, stepped, table_left}
use Rattle.key_table.proofs.Writing.{Completes, completes_on, lacks_left, runs_out}
use Rattle.key_table.proofs.make.write_table.Goals as goal

pub members-init : goal.members-init
members-init c = record { writes = λ ms p w e. begun (Completes ms c.args.out.now.items c.args.out.now.items) ms c.args.members.now p w e refl; within = omega arith; preserves = retained c.args.out.now }

pub returns-in_err-others-clause-written : goal.returns-in_err-others-clause-written
returns-in_err-others-clause-written c = λ ms p w e.
    let x = c.members.invariant.writes ms p w e in
    absurd (no_fault (members x.rest) _ (c.in_err-others.ensures.next (members x.rest) refl (x.proper, x.within) [] (x.occurs ∙ sym (append-nil (members_key x.rest)))))

pub returns-in_err-append_two-clause-written : goal.returns-in_err-append_two-clause-written
returns-in_err-append_two-clause-written c = λ ms p w e.
    let x = c.members.invariant.writes ms p w e in
    let next = c.in_ok-others.ensures.next (members x.rest) refl (x.proper, x.within) [] (x.occurs ∙ sym (append-nil (members_key x.rest))) in
    let f = first_walked (Completes ms c.args.out.now.items c.members.out.items) ms c.args.members.now c.members.left.now c.members.count c.in-Some.field-0-0 c.in-Some.others x (subst (λ a. IsNext (members x.rest) [] (Ok a)) c.in-Some.is next) in
    runs_out ms c.from_residual-in_err-append_two.result c.args.out.now c.append_two.new.out c.from_residual-in_err-append_two.ensures.1
    (lacks_left ms c.args.out.now c.members.out (in_two f.offset) (table_left f.next (c.members.count + 1) f.rest) f.is c.members.invariant.preserves.capacity c.in_err-append_two.ensures.full)

pub members-preserved : goal.members-preserved
members-preserved c = record {
  writes = λ ms p w e.
      let x = c.members.invariant.writes ms p w e in
      let next = c.in_ok-others.ensures.next (members x.rest) refl (x.proper, x.within) [] (x.occurs ∙ sym (append-nil (members_key x.rest))) in
      let f = first_walked (Completes ms c.args.out.now.items c.members.out.items) ms c.args.members.now c.members.left.now c.members.count c.in-Some.field-0-0 c.in-Some.others x (subst (λ a. IsNext (members x.rest) [] (Ok a)) c.in-Some.is next) in
      stepped (Completes ms c.args.out.now.items c.members.out.items) (Completes ms c.args.out.now.items c.append_two.new.out.items) ms c.args.members.now c.members.left.now c.members.count c.in-Some.others.now f
      (completes_on ms c.args.out.now.items c.members.out.items c.append_two.new.out.items (in_two f.offset) (table_left f.next (c.members.count + 1) f.rest) f.is
      (c.in_ok-append_two.ensures.ok ∙ ap (λ n. c.members.out.items ++ in_two n) (omega (arith, f.at))));
  within = omega (arith, c.members.invariant.within, next_shorter (length c.members.left.now) c.in_ok-others.field-0 c.in-Some.field-0-0 c.in-Some.others c.in-Some.is c.in_ok-others.ensures.within);
  preserves = preserves_on c.args.out.now c.members.out c.append_two.new.out c.members.invariant.preserves (retained_by c.members.out c.append_two.new.out c.append_two.ensures);
}

pub returns-then-count-lt-LEAST_MEMBERS-clause-written : goal.returns-then-count-lt-LEAST_MEMBERS-clause-written
returns-then-count-lt-LEAST_MEMBERS-clause-written c = λ ms p w e.
    let x = c.members.invariant.writes ms p w e in
    let next = c.in_ok-others.ensures.next (members x.rest) refl (x.proper, x.within) [] (x.occurs ∙ sym (append-nil (members_key x.rest))) in
    let a = all_walked (Completes ms c.args.out.now.items c.members.out.items) ms c.args.members.now c.members.left.now c.members.count x (subst (λ a. IsNext (members x.rest) [] (Ok a)) c.in_default.is next) in
    (sym (lt-leb 4 (members_len ms) (omega (arith, a.0, c.if-count-lt-LEAST_MEMBERS.true))), λ no. absurd (true_false (sym no)))

pub returns-in_err-append_two-2-clause-written : goal.returns-in_err-append_two-2-clause-written
returns-in_err-append_two-2-clause-written c = λ ms p w e.
    let x = c.members.invariant.writes ms p w e in
    let next = c.in_ok-others.ensures.next (members x.rest) refl (x.proper, x.within) [] (x.occurs ∙ sym (append-nil (members_key x.rest))) in
    let a = all_walked (Completes ms c.args.out.now.items c.members.out.items) ms c.args.members.now c.members.left.now c.members.count x (subst (λ a. IsNext (members x.rest) [] (Ok a)) c.in_default.is next) in
    runs_out ms c.from_residual-in_err-append_two-2.result c.args.out.now c.append_two-2.new.out c.from_residual-in_err-append_two-2.ensures.1
    (lacks_left ms c.args.out.now c.members.out (in_two c.members.count) (table_mark ∷ []) a.1 c.members.invariant.preserves.capacity c.in_err-append_two-2.ensures.full)

pub returns-in_err-extend_from_slice-clause-written : goal.returns-in_err-extend_from_slice-clause-written
returns-in_err-extend_from_slice-clause-written c = λ ms p w e.
    let x = c.members.invariant.writes ms p w e in
    let next = c.in_ok-others.ensures.next (members x.rest) refl (x.proper, x.within) [] (x.occurs ∙ sym (append-nil (members_key x.rest))) in
    let a = all_walked (Completes ms c.args.out.now.items c.members.out.items) ms c.args.members.now c.members.left.now c.members.count x (subst (λ a. IsNext (members x.rest) [] (Ok a)) c.in_default.is next) in
    let then = completes_on ms c.args.out.now.items c.members.out.items c.append_two-2.new.out.items (in_two c.members.count) (table_mark ∷ []) a.1 c.in_ok-append_two-2.ensures.ok in
    runs_out ms c.from_residual-in_err-extend_from_slice.result c.args.out.now c.extend_from_slice.new.self c.from_residual-in_err-extend_from_slice.ensures.1
    (lacks_left ms c.args.out.now c.append_two-2.new.out (table_mark ∷ []) [] then (omega (arith, c.members.invariant.preserves.capacity, c.append_two-2.ensures.capacity)) c.in_err-extend_from_slice.ensures.full)

pub returns-clause-written : goal.returns-clause-written
returns-clause-written c = λ ms p w e.
    let x = c.members.invariant.writes ms p w e in
    let next = c.in_ok-others.ensures.next (members x.rest) refl (x.proper, x.within) [] (x.occurs ∙ sym (append-nil (members_key x.rest))) in
    let a = all_walked (Completes ms c.args.out.now.items c.members.out.items) ms c.args.members.now c.members.left.now c.members.count x (subst (λ a. IsNext (members x.rest) [] (Ok a)) c.in_default.is next) in
    let then = completes_on ms c.args.out.now.items c.members.out.items c.append_two-2.new.out.items (in_two c.members.count) (table_mark ∷ []) a.1 c.in_ok-append_two-2.ensures.ok in
    (sym (le-leb 4 (members_len ms) (omega (arith, a.0, c.if-count-lt-LEAST_MEMBERS.false))), λ yes. c.in_ok-extend_from_slice.ensures.items ∙ then)
