use Rattle.std.proofs.Common.{◌∙◌, sym}
use Rattle.vjson_run.proofs.Parts.{first_pieces, key_by_pieces, next_pieces}
use Rattle.vjson_run.proofs.answers.make_key.Goals as goal

pub parts-init : goal.parts-init
parts-init c = (
  c.in-Some.first.now,
  sym c.deref.ensures.value ∙ c.in-Some.ensures.cases.0,
  first_pieces c.args.options.now.grammar c.args.text.now c.in-Some.first.now c.clear.new.self.items c.append_piece.new.buffers.key.items c.clear.ensures.items c.in_ok-append_piece.ensures.ok,
)

pub parts-preserved : goal.parts-preserved
parts-preserved c = (
  c.parts.invariant.0,
  c.parts.invariant.1,
  next_pieces c.args.options.now.grammar c.args.text.now c.parts.invariant.0 c.in-Some.others.now c.parts.part-index c.part-item.result c.parts.buffers.key.items c.append_piece-in-parts.new.buffers.key.items
      c.parts-test.true c.part-item.is c.parts.invariant.2 c.in_ok-append_piece-2.ensures.ok,
)

pub returns-clause-ok : goal.returns-clause-ok
returns-clause-ok c = key_by_pieces c.args.options.now c.args.text.now c.parts.invariant.0 c.in-Some.others.now c.parts.part-index c.parts.buffers.key.items c.parts.invariant.1 c.parts-test.false c.parts.invariant.2
