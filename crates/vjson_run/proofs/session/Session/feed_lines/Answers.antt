use Rattle.std.proofs.Common.{◌≡◌, ◌++◌, ◌∙◌, IfSome, ap, arith, subst}
use Rattle.std.specs.Io.BufRead.{take_through}
use Rattle.vjson_run.proofs.Fed.{all_fed, first_fed, more_fed, none_fed, over_fed}
use Rattle.jsonb_spec.specs.Program.Input.{without_mark}
use Rattle.vjson_run.specs.Runs.{line_texts}
use Rattle.vjson_run.specs.Trouble.{Advances}
use Rattle.vjson_run.proofs.session.Session.feed_lines.Goals as goal

pub lines-init : goal.lines-init
lines-init g c = first_fed g.W.Write.contents (g.R.Read.remaining c.args.input.now) (g.R.Read.remaining c.read_line.new.input) c.args.self.now c.take_line.new.self c.in_ok-read_line.field-0 c.read_line.new.buf.items
    c.if-branch-eq0.false
    (omega (arith, c.in_ok-read_line.ensures.ok, c.read_line.new.buf.ok.0, c.new-bytes.result.ok.0, c.new-bytes.ensures.len))
    (subst (λ old. IfSome (g.R.Read.remaining c.args.input.now) (λ xs. c.read_line.new.buf.items ≡ old ++ take_through 10 xs)) c.new-bytes.ensures.items c.in_ok-read_line.ensures.bytes)
    c.in_ok-read_line.ensures.rest
    (subst (λ line. Advances g.W.Write.contents c.args.self.now (line_texts line) c.take_line.new.self) (c.without_mark.ensures ∙ ap without_mark c.deref.ensures.value) c.take_line.ensures)

pub returns-then-self : goal.returns-then-self
returns-then-self g c = over_fed g.W.Write.contents (g.R.Read.remaining c.args.input.now) (g.R.Read.remaining c.lines.input) c.args.self.now c.lines.self c.lines.invariant c.if-self.true

pub returns-then-branch-eq0-2 : goal.returns-then-branch-eq0-2
returns-then-branch-eq0-2 g c = all_fed g.W.Write.contents (g.R.Read.remaining c.args.input.now) (g.R.Read.remaining c.lines.input) c.args.self.now c.lines.self c.lines.invariant (c.in_ok-read_line-2.ensures.end c.if-branch-eq0-2.true)

pub lines-preserved : goal.lines-preserved
lines-preserved g c = more_fed g.W.Write.contents (g.R.Read.remaining c.args.input.now) (g.R.Read.remaining c.lines.input) (g.R.Read.remaining c.read_line-in-lines.new.input) c.args.self.now c.lines.self c.take_line-in-lines.new.self
    c.in_ok-read_line-2.field-0 c.read_line-in-lines.new.buf.items c.lines.invariant c.if-branch-eq0-2.false
    (omega (arith, c.in_ok-read_line-2.ensures.ok, c.read_line-in-lines.new.buf.ok.0, c.clear.new.self.ok.0, c.clear.ensures.len))
    (subst (λ old. IfSome (g.R.Read.remaining c.lines.input) (λ xs. c.read_line-in-lines.new.buf.items ≡ old ++ take_through 10 xs)) c.clear.ensures.items c.in_ok-read_line-2.ensures.bytes)
    c.in_ok-read_line-2.ensures.rest
    (subst (λ line. Advances g.W.Write.contents c.lines.self (line_texts line) c.take_line-in-lines.new.self) c.deref-in-lines.ensures.value c.take_line-in-lines.ensures)

pub returns-then-branch-eq0 : goal.returns-then-branch-eq0
returns-then-branch-eq0 g c = none_fed g.W.Write.contents (g.R.Read.remaining c.args.input.now) c.args.self.now (c.in_ok-read_line.ensures.end c.if-branch-eq0.true)
