use Rattle.std.proofs.Common.{◌==◌, Some, sym}
use Rattle.std.specs.Prelude.{not}
use Rattle.jsonb_spec.specs.Edit.LeftOut.{without_nulls}
use Rattle.jsonb_c.proofs.document_without.vizhoniku_document_strip_nulls.Goals as goal

pub returns-clause-written : goal.returns-clause-written
returns-clause-written c = λ t d.
    let v = without_nulls (not (c.args.in_arrays == 0)) t in
    c.report_document.ensures.written (Some v) c.new-bytes.result c.append_without_nulls.new.out c.new-bytes.ensures.items (sym c.deref.ensures.value)
    (c.answer-reported.ensures v c.new-bytes.result c.append_without_nulls.new.out (c.append_without_nulls.ensures.appends t d.readable d.is_document))
