use Rattle.std.proofs.Common.{List, ℕ, IfNone, Option, Some, None, arith, eqb-true, length, sym}
use Rattle.std.proofs.lemmas.List.{nil_from_length}
use Rattle.jsonb_spec.specs.Path.{IsPlainPath}
use Rattle.key_walk.proofs.PlainPaths.{plain_name_read, plain_path_begun, plain_path_found, plain_path_stopped}
use Rattle.key_walk.proofs.find.find_plain_part.Goals as goal

pub names-init : goal.names-init
names-init c = record { so_far = plain_path_begun c.args.path.now c.args.key; within = omega arith }

pub names-preserved : goal.names-preserved
names-preserved c = record {
  so_far = plain_name_read c.args.path.now c.names.rest.now c.in_ok-name.others.now c.args.key.now c.in_ok-name.ensures.plain.0 c.in_ok-name.name.now c.names.found c.child_of-found.result c.names.invariant.so_far c.in_ok-name.ensures.plain.1 c.in_ok-name.ensures.plain.2 c.in_ok-name.ensures.text c.child_of-found.ensures.found;
  within = c.child_of-found.ensures.within _ c.names.invariant.within;
}

pub returns-clause-found : goal.returns-clause-found
returns-clause-found c = plain_path_found c.args.path.now c.names.rest.now c.args.key.now c.names.found c.names.invariant.so_far (nil_from_length c.names.rest.now (eqb-true (length c.names.rest.now) 0 (sym c.names-test.ensures)))

reported : {A : Type 0} (r : Option A) (P : Type 0) → P → IfNone r P
reported (Some x) P p = tt
reported None P p = p

pub returns-in_err-name-clause-none : goal.returns-in_err-name-clause-none
returns-in_err-name-clause-none c =
    reported c.from_residual.result ((names : List (List ℕ)) → IsPlainPath c.args.path.now names → ⊥) (plain_path_stopped c.args.path.now c.names.rest.now c.args.key.now c.names.found c.names.invariant.so_far (sym c.names-test.ensures) c.in_err-name.ensures.none)
