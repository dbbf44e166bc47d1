use Rattle.std.proofs.Common.{Some, sym}
use Rattle.jsonb_spec.specs.Edit.{merge}
use Rattle.jsonb_c.proofs.document_edit.vizhoniku_document_merge.Goals as goal

pub returns-clause-written : goal.returns-clause-written
returns-clause-written c = λ t d u e.
    c.report_document.ensures.written (Some (merge t u)) c.new-bytes.result c.append_merged.new.out c.new-bytes.ensures.items (sym c.deref.ensures.value)
    (c.answer-reported.ensures (merge t u) c.new-bytes.result c.append_merged.new.out (c.append_merged.ensures.merges t d.readable d.is_document u e.readable e.is_document))
