use Rattle.std.proofs.Common.{sym, ◌∙◌, arith}
use Rattle.key_text.proofs.Appending.{retained, preserves_on}
use Rattle.jsonb_core.proofs.Appending.Appended.{extended, appends_rest, lacks}
use Rattle.key_zeros.proofs.Sevens.{sevens_begun, seven_written, seven_fits, few}
use Rattle.key_zeros.proofs.entry.append_sevens.Goals as goal

pub sevens-init : goal.sevens-init
sevens-init c = record { sevens = λ small. sevens_begun c.args.n c.args.buf.now.items small; preserves = retained c.args.buf.now }

pub returns-in_err-extend_from_slice-clause-appends : goal.returns-in_err-extend_from_slice-clause-appends
returns-in_err-extend_from_slice-clause-appends c = λ small.
    let preserves = c.sevens.invariant.preserves in
    lacks c.from_residual.result c.args.buf.now c.extend_from_slice.new.self _ c.from_residual.ensures.0
    (record { more = preserves.retained.more; extended = c.in_err-extend_from_slice.ensures.items ∙ preserves.retained.extended })
    (omega (arith, preserves.capacity, c.in_err-extend_from_slice.ensures.capacity))
    (omega (arith, seven_fits c.args.n c.sevens.left c.args.buf.now.items c.sevens.buf.items (c.sevens.invariant.sevens small), preserves.capacity, c.in_err-extend_from_slice.ensures.full))

pub sevens-preserved : goal.sevens-preserved
sevens-preserved c = record {
  sevens = λ small. seven_written c.args.n c.sevens.left c.args.buf.now.items c.sevens.buf.items c.extend_from_slice.new.self.items c.sevens-test.true c.in_ok-extend_from_slice.ensures.items (c.sevens.invariant.sevens small);
  preserves = preserves_on c.args.buf.now c.sevens.buf c.extend_from_slice.new.self c.sevens.invariant.preserves (record { retained = record { more = _; extended = c.in_ok-extend_from_slice.ensures.items }; capacity = c.in_ok-extend_from_slice.ensures.capacity });
}

pub returns-clause-appends : goal.returns-clause-appends
returns-clause-appends c = λ small.
    let s = c.sevens.invariant.sevens small in
    appends_rest c.extend_from_slice-2.result c.args.buf.now c.sevens.buf c.extend_from_slice-2.new.self _ _ s.underway c.sevens.invariant.preserves.capacity
    (extended c.extend_from_slice-2.result c.sevens.buf c.extend_from_slice-2.new.self _ _ c.extend_from_slice-2.ensures.items c.extend_from_slice-2.ensures.full c.extend_from_slice-2.ensures.capacity (sym (few s.more c.sevens.left c.sevens-test.false)))
