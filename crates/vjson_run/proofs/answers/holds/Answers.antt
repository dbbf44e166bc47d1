use Rattle.std.proofs.Common.{ap, map, subst, ◌∙◌}
use Rattle.std.specs.Prelude.{string_bytes}
use Rattle.vjson_run.proofs.Chosen.{holds_absent, holds_there}
use Rattle.vjson_run.specs.Chosen.{allows}
use Rattle.vjson_run.specs.Keys.{HasPartKey}
use Rattle.vjson_run.proofs.answers.holds.Goals as goal

pub returns-then-not-found-clause-ok : goal.returns-then-not-found-clause-ok
returns-then-not-found-clause-ok c = holds_absent c.args.grammar c.args.condition.now c.args.text.now c.make_part_key.new.buffers.part_key.items c.in_ok-found.found c.if-not-found.true
    (subst (λ p. HasPartKey c.args.grammar (map string_bytes p) c.args.text.now c.make_part_key.new.buffers.part_key.items c.in_ok-found.found) c.deref.ensures.value c.in_ok-found.ensures.ok)

pub returns-clause-ok : goal.returns-clause-ok
returns-clause-ok c = holds_there c.args.grammar c.args.condition.now c.args.text.now c.make_part_key.new.buffers.part_key.items c.as_slice.result.now c.as_slice-2.result.now c.in_ok-found.found c.allows.result c.if-not-found.false
    (subst (λ p. HasPartKey c.args.grammar (map string_bytes p) c.args.text.now c.make_part_key.new.buffers.part_key.items c.in_ok-found.found) c.deref.ensures.value c.in_ok-found.ensures.ok)
    c.as_slice.ensures.value c.as_slice-2.ensures.value (c.allows.ensures ∙ ap (allows c.args.condition.now) c.cmp.ensures)
