use Rattle.std.proofs.Common.{ap, map, subst}
use Rattle.std.specs.Prelude.{string_bytes}
use Rattle.vjson_run.proofs.Parts.{piece_of}
use Rattle.vjson_run.specs.Keys.{AppendsTurned, HasPartKey}
use Rattle.vjson_run.proofs.answers.append_piece.Goals as goal

pub returns-clause-ok : goal.returns-clause-ok
returns-clause-ok c = piece_of c.args.grammar c.args.part.now c.args.text.now c.make_part_key.new.buffers.part_key.items c.deref-2.result.now c.args.buffers.now.key.items c.append_turned.new.out.items c.in_ok-make_part_key.field-0
    (subst (λ p. HasPartKey c.args.grammar (map string_bytes p) c.args.text.now c.make_part_key.new.buffers.part_key.items c.in_ok-make_part_key.field-0) c.deref.ensures.value c.in_ok-make_part_key.ensures.ok) c.deref-2.ensures.value
    (subst (λ old. AppendsTurned c.args.part.now.down c.deref-2.result.now old c.append_turned.new.out.items) (ap (λ k. k.items) c.make_part_key.ensures.key) c.in_ok-append_turned.ensures.ok)
