use Rattle.std.proofs.Common.{length, ap, sym, subst, arith, eqb-true}
use Rattle.std.proofs.lemmas.List.{nil_from_length}
use Rattle.jsonb_core.specs.Error.CodeView.{code_of}
use Rattle.text_scan.proofs.Strings.Strict.{LeadsTo, leads_start, leads_on, all_passed, both_reject, json_rejects, leads_within}
use Rattle.text_scan.proofs.util.decoder.strict.check_items.Goals as goal

pub items-init : goal.items-init
items-init c = leads_start c.args.body.now

pub overflow_add-offset-in-Some-strict_fault : goal.overflow_add-offset-in-Some-strict_fault
overflow_add-offset-in-Some-strict_fault c =
    omega (arith, c.requires, c.in-Some-strict_fault.ensures.within, ap length c.in-Some.ensures.cases.0, leads_within c.args.body.now c.items.rest.now c.items.invariant)

pub returns-in-Some-strict_fault-clause-rejected : goal.returns-in-Some-strict_fault-clause-rejected
returns-in-Some-strict_fault-clause-rejected c =
    let body = c.args.body.now in
    let byte = c.in-Some.byte.now in
    let after = c.in-Some.after.now in
    let fault = c.in-Some-strict_fault.fault in
    let so_far = subst (LeadsTo body) c.in-Some.ensures.cases.0 c.items.invariant in
    (_, json_rejects body byte after (code_of fault.code) fault.read so_far c.in-Some-strict_fault.ensures.some, omega (arith, ap length c.in-Some.ensures.cases.0))

pub returns-in_default-after_item-clause-passed : goal.returns-in_default-after_item-clause-passed
returns-in_default-after_item-clause-passed c =
    let body = c.args.body.now in
    let so_far = subst (LeadsTo body) c.in-Some.ensures.cases.0 c.items.invariant in
    both_reject body c.in-Some.byte.now c.in-Some.after.now so_far c.in_default-strict_fault.ensures.none c.in_default-after_item.ensures.none

pub items-preserved : goal.items-preserved
items-preserved c =
    let body = c.args.body.now in
    let so_far = subst (LeadsTo body) c.in-Some.ensures.cases.0 c.items.invariant in
    leads_on body c.in-Some.byte.now c.in-Some.after.now c.in-Some-after_item.more.now so_far c.in_default-strict_fault.ensures.none c.in-Some-after_item.ensures.some

pub returns-clause-passed : goal.returns-clause-passed
returns-clause-passed c = all_passed c.args.body.now c.items.rest.now c.items.invariant (nil_from_length c.items.rest.now (eqb-true (length c.items.rest.now) 0 (sym c.items-test.ensures)))
