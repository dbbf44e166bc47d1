use Rattle.std.proofs.Common.{◌≡◌, ◌+◌, ◌-◌, ◌<◌, length, take, set, refl, subst, arith, rules}
use Rattle.std.specs.Vec.{vec_len}
use Rattle.std.proofs.lemmas.Result.{err_from_is_err_and}
use Rattle.text_parse.specs.Frames.{AtPart, BeforeValue, ParsesParts}
use Rattle.text_parse.specs.Handler.{ElseFails}
use Rattle.text_scan.specs.Answer.{grammar_of}
use Rattle.text_parse.specs.Parser.{rest_of, size_of}
use Rattle.text_parse.specs.Stack.{next_part_at}
use Rattle.text_parse.proofs.Containers.Frames.{last-is, last-set, part_misses, read_to_end, stopped_due}
use Rattle.text_parse.proofs.parser.Parser.parse_parts.Goals as goal

pub returns-in_err-fill : goal.returns-in_err-fill
returns-in_err-fill g c =
    record {
      parses = λ whole ahead.
          let p = c.args.self.now in
          let fs = c.args.stack.now.items in
          let n = vec_len c.args.stack.now - 1 in
          let some : 0 < vec_len c.args.stack.now = c.in-Some.ensures.variant.0 refl in
          let last : n + 1 ≡ length fs = omega arith in
          let f = c.in-Some.frame.now in
          let residual = err_from_is_err_and c.from_residual.result c.from_residual.ensures.1 in
          rw (residual.1) (part_misses (g.V.Handler.holds p.buf.now c.args.sink.now) (g.V.Handler.holds p.buf.now c.args.sink.now) p fs (take n fs) f whole g.V.Handler.silent c.fill.new.self.reported (last-is fs n f last c.in-Some.ensures.value) c.in_err-fill.ensures.parses ahead);
      onward = search rules;
      depth = search rules;
      some = search rules;
      advances = search rules;
    }

pub returns-then-branch : goal.returns-then-branch
returns-then-branch g c =
    record {
      parses = λ whole ahead.
          let p = c.args.self.now in
          let q = c.fill.new.self in
          let fs = c.args.stack.now.items in
          let n = vec_len c.args.stack.now - 1 in
          let some : 0 < vec_len c.args.stack.now = c.in-Some.ensures.variant.0 refl in
          let last : n + 1 ≡ length fs = omega arith in
          let f = c.in-Some.frame.now in
          let h = c.fill.new.frame in
          read_to_end (g.V.Handler.holds p.buf.now c.args.sink.now) (g.V.Handler.holds p.buf.now c.fill.new.sink) p q fs _ (take n fs) f h whole c.fill.ensures.advances.parser (last-is fs n f last c.in-Some.ensures.value) (last-set fs n h last)
          (λ depth o ks cs fits held. subst (λ closed. ParsesParts (g.V.Handler.holds p.buf.now c.fill.new.sink) (size_of p) (grammar_of p.grammar) depth (next_part_at (size_of p) (grammar_of p.grammar) depth o (rest_of p)) closed h ks cs (rest_of q)) c.if-branch.true (c.in_ok-fill.ensures.parses depth o ks cs fits held))
          ahead;
      onward = search rules;
      depth = search rules;
      some = search rules;
      advances = search rules;
    }

pub returns : goal.returns
returns g c =
    record {
      parses = λ whole ahead.
          let p = c.args.self.now in
          let q = c.fill.new.self in
          let fs = c.args.stack.now.items in
          let n = vec_len c.args.stack.now - 1 in
          let some : 0 < vec_len c.args.stack.now = c.in-Some.ensures.variant.0 refl in
          let last : n + 1 ≡ length fs = omega arith in
          let f = c.in-Some.frame.now in
          let h = c.fill.new.frame in
          subst (λ b. BeforeValue (g.V.Handler.holds b.now c.fill.new.sink) whole q (set fs n h) → ElseFails g.V.Handler.silent c.open_container.new.self.reported c.open_container.result whole (AtPart (g.V.Handler.holds b.now c.open_container.new.sink) whole c.open_container.new.self c.open_container.new.stack.items)) c.fill.ensures.advances.parser.buf (c.open_container.ensures.parses whole)
          (stopped_due (g.V.Handler.holds p.buf.now c.args.sink.now) (g.V.Handler.holds p.buf.now c.fill.new.sink) p q fs _ (take n fs) f h whole c.fill.ensures.advances.parser (last-is fs n f last c.in-Some.ensures.value) (last-set fs n h last)
          (λ depth o ks cs fits held. subst (λ closed. ParsesParts (g.V.Handler.holds p.buf.now c.fill.new.sink) (size_of p) (grammar_of p.grammar) depth (next_part_at (size_of p) (grammar_of p.grammar) depth o (rest_of p)) closed h ks cs (rest_of q)) c.if-branch.false (c.in_ok-fill.ensures.parses depth o ks cs fits held))
          ahead);
      onward = search rules;
      depth = search rules;
      some = search rules;
      advances = search rules;
    }
