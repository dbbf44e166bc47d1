use Rattle.jsonb.proofs.EndZeros.Documents.{document_ends}
use Rattle.jsonb.proofs.EndZeros.Marks.{all_passed, mark_passed, nothing_passed}
use Rattle.jsonb.proofs.parser.zeros.may_end_in_zeros.Goals as goal

pub marks-init : goal.marks-init
marks-init c = record { shows = nothing_passed c.args.text.now }

pub marks-preserved : goal.marks-preserved
marks-preserved c = record { shows = mark_passed c.args.text.now c.marks.rest.now c.in-Some.front.now c.in-Some.mark c.in-Some.behind.now c.marks.invariant.shows c.in-Some.ensures (c.shows_zeros.ensures c.if-shows_zeros.false) }

pub returns : goal.returns
returns c = λ none mode t d. document_ends mode c.args.text.now t d (all_passed c.args.text.now c.marks.rest.now c.marks.invariant.shows c.in_default.ensures)
