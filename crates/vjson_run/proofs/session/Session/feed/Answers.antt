use Rattle.std.proofs.Common.{OnOk, IfSome, sym, subst}
use Rattle.vjson_run.proofs.Troubled.{fed_takes, fed_troubles}
use Rattle.jsonb_spec.specs.Program.Input.{texts_of}
use Rattle.vjson_run.specs.Trouble.{Advances}
use Rattle.vjson_run.proofs.session.Session.feed.Goals as goal

pub returns-then-self-clause-takes : goal.returns-then-self-clause-takes
returns-then-self-clause-takes g c = fed_takes g.W.Write.contents c.feed_lines.result (g.R.Read.remaining c.args.input.now) c.args.self.now c.feed_lines.new.self (texts_of c.args.self.now.options.now.lines)
    (subst (λ lines. OnOk c.feed_lines.result (IfSome (g.R.Read.remaining c.args.input.now) (λ bytes. Advances g.W.Write.contents c.args.self.now (texts_of lines bytes) c.feed_lines.new.self))) (sym c.if-self.true) c.feed_lines.ensures)

pub returns-then-self-clause-trouble : goal.returns-then-self-clause-trouble
returns-then-self-clause-trouble g c = fed_troubles g.W.Write.contents c.feed_lines.result (g.R.Read.remaining c.args.input.now) c.args.self.now c.feed_lines.new.self (texts_of c.args.self.now.options.now.lines)
    (subst (λ lines. OnOk c.feed_lines.result (IfSome (g.R.Read.remaining c.args.input.now) (λ bytes. Advances g.W.Write.contents c.args.self.now (texts_of lines bytes) c.feed_lines.new.self))) (sym c.if-self.true) c.feed_lines.ensures)

pub returns-else-self-clause-takes : goal.returns-else-self-clause-takes
returns-else-self-clause-takes g c = fed_takes g.W.Write.contents c.feed_whole.result (g.R.Read.remaining c.args.input.now) c.args.self.now c.feed_whole.new.self (texts_of c.args.self.now.options.now.lines)
    (subst (λ lines. OnOk c.feed_whole.result (IfSome (g.R.Read.remaining c.args.input.now) (λ bytes. Advances g.W.Write.contents c.args.self.now (texts_of lines bytes) c.feed_whole.new.self))) (sym c.if-self.false) c.feed_whole.ensures)

pub returns-else-self-clause-trouble : goal.returns-else-self-clause-trouble
returns-else-self-clause-trouble g c = fed_troubles g.W.Write.contents c.feed_whole.result (g.R.Read.remaining c.args.input.now) c.args.self.now c.feed_whole.new.self (texts_of c.args.self.now.options.now.lines)
    (subst (λ lines. OnOk c.feed_whole.result (IfSome (g.R.Read.remaining c.args.input.now) (λ bytes. Advances g.W.Write.contents c.args.self.now (texts_of lines bytes) c.feed_whole.new.self))) (sym c.if-self.false) c.feed_whole.ensures)
