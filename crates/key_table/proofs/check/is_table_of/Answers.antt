use Rattle.std.proofs.Common.{◌+◌, ◌++◌, [], Ok, length, refl, sym, ap, subst, ◌∙◌, arith, append-nil}
use Rattle.std.proofs.lemmas.Bool.{lt-leb}
use Rattle.jsonb_spec.specs.SortKey.{members_key}
use Rattle.key_walk.specs.Found.{IsNext}
use Rattle.jsonb_spec.specs.SortKey.Open.{members}
use Rattle.jsonb_spec.specs.Table.{in_two}
use Rattle.key_table.proofs.Walking.{all_walked, begun, first_walked, next_shorter, no_fault, stepped, table_left}
use Rattle.key_table.proofs.Splitting.{Matches, false_never, matches_on, not_there}
use Rattle.key_table.proofs.check.is_table_of.Goals as goal
use Rattle.key_document.proofs.Checked.{refused}

pub members-init : goal.members-init
members-init c = record { matches = λ ms p w e. begun (Matches ms c.args.table.now c.args.table.now) ms c.args.members.now p w e (λ is. is, λ is. is); within = omega arith }

pub returns-in_default : goal.returns-in_default
returns-in_default c = λ ms p w e.
    let x = c.members.invariant.matches ms p w e in
    absurd (no_fault (members x.rest) _ (c.in_default.ensures.next (members x.rest) refl (x.proper, x.within) [] (x.occurs ∙ sym (append-nil (members_key x.rest)))))

pub returns-then-count-ge-LEAST_MEMBERS : goal.returns-then-count-ge-LEAST_MEMBERS
returns-then-count-ge-LEAST_MEMBERS c = λ ms p w e.
    let x = c.members.invariant.matches ms p w e in
    let next = c.in-Ok.ensures.next (members x.rest) refl (x.proper, x.within) [] (x.occurs ∙ sym (append-nil (members_key x.rest))) in
    let a = all_walked (Matches ms c.args.table.now c.members.entries.now) ms c.args.members.now c.members.left.now c.members.count x (subst (λ a. IsNext (members x.rest) [] (Ok a)) c.in_default-next.is next) in
    (λ yes_there. (omega (arith, a.0, c.if-count-ge-LEAST_MEMBERS.true), a.1.1 (c.is_end.ensures.0 yes_there)), λ both. c.is_end.ensures.1 (a.1.0 both.1))

pub returns-else-count-ge-LEAST_MEMBERS : goal.returns-else-count-ge-LEAST_MEMBERS
returns-else-count-ge-LEAST_MEMBERS c = λ ms p w e.
    let x = c.members.invariant.matches ms p w e in
    let next = c.in-Ok.ensures.next (members x.rest) refl (x.proper, x.within) [] (x.occurs ∙ sym (append-nil (members_key x.rest))) in
    let a = all_walked (Matches ms c.args.table.now c.members.entries.now) ms c.args.members.now c.members.left.now c.members.count x (subst (λ a. IsNext (members x.rest) [] (Ok a)) c.in_default-next.is next) in
    (λ yes_there. absurd (false_never (sym (lt-leb 4 c.members.count (omega (arith, c.if-count-ge-LEAST_MEMBERS.false))) ∙ yes_there)), λ both. absurd (omega (arith, a.0, both.0, c.if-count-ge-LEAST_MEMBERS.false)))

pub returns-in_default-after_two : goal.returns-in_default-after_two
returns-in_default-after_two c = λ ms p w e.
    let x = c.members.invariant.matches ms p w e in
    let next = c.in-Ok.ensures.next (members x.rest) refl (x.proper, x.within) [] (x.occurs ∙ sym (append-nil (members_key x.rest))) in
    let f = first_walked (Matches ms c.args.table.now c.members.entries.now) ms c.args.members.now c.members.left.now c.members.count c.in-Some.field-0-0 c.in-Some.others x (subst (λ a. IsNext (members x.rest) [] (Ok a)) c.in-Some.is next) in
    refused (λ both. not_there ms c.args.table.now c.members.entries.now (table_left f.next (c.members.count + 1) f.rest) f.offset _ c.after_two.result (omega (arith, f.at)) f.is c.after_two.ensures c.in_default-after_two.is both.1)

pub members-preserved : goal.members-preserved
members-preserved c = record {
  matches = λ ms p w e.
      let x = c.members.invariant.matches ms p w e in
      let next = c.in-Ok.ensures.next (members x.rest) refl (x.proper, x.within) [] (x.occurs ∙ sym (append-nil (members_key x.rest))) in
      let f = first_walked (Matches ms c.args.table.now c.members.entries.now) ms c.args.members.now c.members.left.now c.members.count c.in-Some.field-0-0 c.in-Some.others x (subst (λ a. IsNext (members x.rest) [] (Ok a)) c.in-Some.is next) in
      stepped (Matches ms c.args.table.now c.members.entries.now) (Matches ms c.args.table.now c.in-Some-after_two.rest.now) ms c.args.members.now c.members.left.now c.members.count c.in-Some.others.now f
      (matches_on ms c.args.table.now c.members.entries.now (in_two f.offset) c.in-Some-after_two.rest.now (table_left f.next (c.members.count + 1) f.rest) f.is
      ((c.in-Some-after_two.ensures c.in-Some-after_two.rest.now).0 refl ∙ ap (λ n. in_two n ++ c.in-Some-after_two.rest.now) (omega (arith, f.at))));
  within = omega (arith, c.members.invariant.within, next_shorter (length c.members.left.now) c.in-Ok.next c.in-Some.field-0-0 c.in-Some.others c.in-Some.is c.in-Ok.ensures.within);
}
