use Rattle.std.proofs.Common.{subst, arith}
use Rattle.std.proofs.lemmas.Result.{err_from_is_err_and}
use Rattle.jsonb_spec.specs.Grammar.{max_depth}
use Rattle.text_parse.specs.Frames.{AtPart}
use Rattle.text_parse.specs.Parser.{parse_at}
use Rattle.jsonb_spec.specs.Parsing.Document.{value_at}
use Rattle.text_parse.proofs.Containers.Frames.{only_one, outermost, outermost_due}
use Rattle.text_parse.proofs.parser.Parser.parse_open_containers.Goals as goal

pub returns-in_err-closed-clause-parses : goal.returns-in_err-closed-clause-parses
returns-in_err-closed-clause-parses g c held =
    let p = c.args.self.now in
    let whole = parse_at (λ size mode. value_at size mode max_depth) p in
    let residual = err_from_is_err_and c.from_residual.result c.from_residual.ensures.1 in
    rw (residual.1) (c.in_err-closed.ensures.parses whole (outermost_due (g.V.Handler.holds p.buf.now c.args.sink.now) p c.args.stack.now.items c.requires.none held))

pub turns-init : goal.turns-init
turns-init g c =
    let p = c.args.self.now in
    record {
      open-stack = c.in_ok-closed.ensures.some;
      depth = c.in_ok-closed.ensures.depth;
      advances = c.open_container.ensures.advances.parser;
      base = c.open_container.ensures.advances.base;
      ahead = λ held. c.in_ok-closed.ensures.parses (parse_at (λ size mode. value_at size mode max_depth) p) (outermost_due (g.V.Handler.holds p.buf.now c.args.sink.now) p c.args.stack.now.items c.requires.none held);
    }

pub returns-then-len-eq1-clause-parses : goal.returns-then-len-eq1-clause-parses
returns-then-len-eq1-clause-parses g c held =
    let p = c.args.self.now in
    let l = c.turns.self in
    let whole = parse_at (λ size mode. value_at size mode max_depth) p in
    let i = c.turns.invariant in
    let fs = c.turns.stack.items in
    let one = only_one fs (omega arith) in
    let holds = g.V.Handler.holds p.buf.now c.turns.sink in
    outermost holds holds l fs one.0 whole one.1 (subst (λ closed. AtPart holds whole l fs closed) c.if-closed.true (i.ahead held)) i.depth
