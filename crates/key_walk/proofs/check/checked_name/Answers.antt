use Rattle.key_walk.proofs.CheckedNames.{no_text, not_above, name_above}
use Rattle.key_walk.proofs.check.checked_name.Goals as goal

pub returns-in_default-clause-found : goal.returns-in_default-clause-found
returns-in_default-clause-found c = no_text c.args.bytes.now c.args.rest.now c.args.last c.if-last-eq-ARRAY.false c.in_default.ensures.checks.found

pub returns-then-not-is_above-clause-found : goal.returns-then-not-is_above-clause-found
returns-then-not-is_above-clause-found c =
    not_above c.args.bytes.now c.args.rest.now c.in-Some.value.now c.front.result.now c.args.last c.if-last-eq-ARRAY.false c.in-Some.ensures.checks.found c.front.ensures c.if-not-is_above.ensures

pub returns-clause-found : goal.returns-clause-found
returns-clause-found c =
    name_above c.args.bytes.now c.args.rest.now c.in-Some.value.now c.front.result.now c.args.last c.if-last-eq-ARRAY.false c.in-Some.ensures.checks.found c.front.ensures c.if-not-is_above.ensures
