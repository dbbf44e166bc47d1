use Rattle.std.proofs.Common.{false, inl, inr}
use Rattle.text_parse.proofs.Document.{comment_closed, comment_open}
use Rattle.text_parse.proofs.Steps.Failures.{reports_fault}
use Rattle.text_parse.proofs.parser.Parser.end_in_comment.Goals as goal
use Rattle.text_parse.proofs.parser.Parser.end_in_comment.Goals.{else-next-self-via-then-next-self+else-self-next-eq47, else-next-self-via-else-next-self}

pub returns-then-self-next-eq47-clause-parses : goal.returns-then-self-next-eq47-clause-parses
returns-then-self-next-eq47-clause-parses c = λ t. comment_closed c.args.self.now.buf.now c.args.self.now.offset t c.if-next-self.true c.if-self-next-eq47.true

pub returns-else-next-self-clause-parses : goal.returns-else-next-self-clause-parses
returns-else-next-self-clause-parses c = λ t.
    reports_fault false c.fail.new.self.reported _ _ c.fail.ensures.reported (comment_open c.args.self.now.buf.now c.args.self.now.offset t
    (elim c.else-next-self.branch [
      | else-next-self-via-then-next-self+else-self-next-eq47 w ↦ inr (w.if-next-self.true, w.if-self-next-eq47.false)
      | else-next-self-via-else-next-self w ↦ inl w.if-next-self.false
    ]))
