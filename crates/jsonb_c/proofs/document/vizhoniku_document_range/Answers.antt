use Rattle.std.proofs.Common.{Some, sym}
use Rattle.jsonb_c.proofs.document.vizhoniku_document_range.Goals as goal

pub returns-clause-written : goal.returns-clause-written
returns-clause-written c = λ t d part readable at is_size.
    c.report_document.ensures.written (Some part) c.new-bytes.result c.append_range.new.out c.new-bytes.ensures.items (sym c.deref.ensures.value)
    (c.answer-reported.ensures part c.new-bytes.result c.append_range.new.out (c.append_range.ensures.part t d.readable d.is_document part readable at is_size))
