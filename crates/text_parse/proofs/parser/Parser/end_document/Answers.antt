use Rattle.std.proofs.Common.{false, sym, ◌∙◌}
use Rattle.text_parse.proofs.Document.{ends_comment, ends_trailing, ends_well}
use Rattle.text_parse.proofs.Steps.Failures.{reports_fault}
use Rattle.text_parse.proofs.parser.Parser.end_document.Goals as goal

pub returns-then-self-clause-parses : goal.returns-then-self-clause-parses
returns-then-self-clause-parses c = λ t. ends_well c.args.self.now c.skip_closed_whitespace.new.self t c.skip_closed_whitespace.ensures.rest c.skip_closed_whitespace.ensures.advances c.if-self.true

pub returns-then-opens_comment-clause-parses : goal.returns-then-opens_comment-clause-parses
returns-then-opens_comment-clause-parses c = λ t.
    let p = c.args.self.now in
    let q = c.skip_closed_whitespace.new.self in
    rw (ends_comment p q t c.skip_closed_whitespace.ensures.rest c.skip_closed_whitespace.ensures.advances c.if-self.false (sym c.opens_comment.ensures.value ∙ c.if-opens_comment.true)) (c.end_in_comment.ensures.parses t)

pub returns-clause-parses : goal.returns-clause-parses
returns-clause-parses c = λ t.
    reports_fault false c.fail.new.self.reported _ _ c.fail.ensures.reported (ends_trailing c.args.self.now c.skip_closed_whitespace.new.self t c.skip_closed_whitespace.ensures.rest c.skip_closed_whitespace.ensures.advances c.if-self.false (sym c.opens_comment.ensures.value ∙ c.if-opens_comment.false))
