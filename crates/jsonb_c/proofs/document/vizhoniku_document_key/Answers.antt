use Rattle.std.proofs.Common.{◌∙◌, ap, length, sym, subst}
use Rattle.jsonb_spec.specs.Table.{IsUnmarked}
use Rattle.key_table.proofs.Unmarked.{unmarked}
use Rattle.jsonb_c.proofs.document.vizhoniku_document_key.Goals as goal

pub returns-clause-size : goal.returns-clause-size
returns-clause-size c = λ t d.
    let none = c.split_table.ensures.none (subst IsUnmarked (sym d.is_document) (unmarked t d.readable)) in
    ap length (c.split_document.ensures.key t d.readable (none.0 ∙ d.is_document))

pub returns-clause-before_table : goal.returns-clause-before_table
returns-clause-before_table c = λ front t d has e.
    let before = c.split_table.ensures.table front t has e in
    ap length (c.split_document.ensures.key t d.readable (before.0 ∙ d.is_document))
