-- A read puts its bytes behind those that were read before.
use Rattle.std.proofs.Common.{◌≡◌, ◌+◌, ◌≤◌, take, length, arith, ◌∙◌, ap}
use Rattle.jsonb_cat.proofs.BytesRead.{Consumes-trans, filled_front}
use Rattle.jsonb_cat.proofs.cat.read_input.Goals as goal

pub reads-preserved : goal.reads-preserved
reads-preserved g c =
    let count = c.in_ok-count.ensures.bound.0 in
    let size = c.read.auto.buf in
    let len = c.deref_mut.ensures.len in
    let value = c.deref_mut.ensures.value in
    let space = c.in_ok-grow.ensures.space in
    let retained = c.in_ok-grow.ensures.filled in
    let bytes = c.in_ok-count.ensures.bytes.0 in
    let within : c.reads.filled + c.in_ok-count.count ≤ c.grow.new.buffer.len = omega (arith, count, size, len, space) in
    let inside : c.reads.filled ≤ length c.deref_mut.result.now = omega (arith, len, space) in
    let front : take c.reads.filled c.deref_mut.result.now ≡ take c.reads.filled c.reads.buffer.items = ap (λ l. take c.reads.filled l) value ∙ retained in
    record {
      within = within;
      read = rw (filled_front c.reads.filled c.in_ok-count.count c.grow.new.buffer.len c.deref_mut.result.now c.read.new.buf _ _ inside count within)
          (rw front (Consumes-trans _ _ _ _ _ c.reads.invariant.read bytes));
    }
