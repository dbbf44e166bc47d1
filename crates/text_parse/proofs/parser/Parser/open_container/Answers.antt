use Rattle.std.proofs.Common.{◌≡◌, Err, ◌+◌, ◌∷◌, [], refl, ap, sym, ◌∙◌, arith, drop, length, length-drop, reverse, rules}
use Rattle.jsonb_spec.specs.Code.Code.{depth_limit_exceeded}
use Rattle.jsonb_spec.specs.Parsing.{Fault}
use Rattle.jsonb_spec.specs.Tree.Mark.{plain}
use Rattle.text_parse.specs.declared.parser.Parser.{Parser}
use Rattle.text_parse.specs.Parser.{Advances, size_of}
use Rattle.text_parse.proofs.Containers.Frames.{after_brace, array_opened, object_opened, opens_within, too_many}
use Rattle.text_parse.proofs.Steps.Advancing.{fails, goes_on}
use Rattle.text_parse.proofs.Steps.Cursors.{fault_at-inside}
use Rattle.text_parse.proofs.Steps.Failures.{reports_fault}
use Rattle.text_parse.proofs.parser.Parser.open_container.Goals as goal

pub returns-then-len-eq-MAX_DEPTH : goal.returns-then-len-eq-MAX_DEPTH
returns-then-len-eq-MAX_DEPTH g c =
    record {
      parses = λ whole due.
          let p = c.args.self.now in
          let error = c.fault_at_next-error in
          let within = opens_within p c.requires.opens in
          reports_fault g.V.Handler.silent c.fail.new.self.reported error.result whole c.fail.ensures.reported
          (fails error.result _ whole error.ensures (too_many (g.V.Handler.holds p.buf.now c.args.sink.now) p c.args.stack.now.items whole (omega arith) c.requires.opens due ∙ ap (λ (f : Fault). Err f) (sym (fault_at-inside p.buf.now p.offset depth_limit_exceeded 1 within))));
      onward = search rules;
      depth = search rules;
      some = search rules;
      advances = search rules;
    }

pub returns-then-take_byte : goal.returns-then-take_byte
returns-then-take_byte g c =
    record {
      parses = λ whole due.
          let p = c.args.self.now in
          let o = c.take_byte.new.self in
          let s = c.skip_whitespace.new.self in
          let q = c.take_byte-then-take_byte.new.self in
          let a = c.take_byte.ensures.advances in
          let h = g.V.Handler in
          let fs = c.args.stack.now.items in
          array_opened (h.holds p.buf.now c.args.sink.now) (h.holds p.buf.now c.items.new.sink) p o s q fs c.push.new.self.items c.in-Ok.items c.take_byte-then-take_byte.result whole a (goes_on p o q a (goes_on o s q c.skip_whitespace.ensures.advances c.take_byte-then-take_byte.ensures.advances))
          c.if-take_byte.ensures.rest c.skip_whitespace.ensures.rest c.take_byte-then-take_byte.ensures.found c.take_byte-then-take_byte.ensures.rest (λ cs. c.in-Ok.ensures.opened p.buf.now (reverse fs) cs) c.in-Ok-push.ensures.items (omega arith) due;
      onward = search rules;
      depth = search rules;
      some = search rules;
      advances = search rules;
    }

pub returns : goal.returns
returns g c =
    record {
      parses = λ whole due.
          let p = c.args.self.now in
          let n = c.take_byte.new.self in
          let s = c.skip_whitespace-2.new.self in
          let q = c.take_byte-2.new.self in
          let unmoved : n ≡ p = c.if-take_byte.ensures.rest in
          let brace = after_brace p c.requires.opens (sym c.if-take_byte.ensures.found) ∙ ap (λ r. 123 ∷ drop (r.offset + 1) r.buf.now) (sym unmoved) in
          let o : Parser = record n { offset = n.offset + 1; inside = omega (arith, ap length brace, length-drop p.offset p.buf.now, ap (λ r. r.offset) unmoved, ap (λ r. size_of r) unmoved) } in
          let past : Advances n o = record { buf = refl; mode = refl; grammar = refl; onward = omega arith } in
          let more = goes_on _ s q c.skip_whitespace-2.ensures.advances c.take_byte-2.ensures.advances in
          let a = goes_on p n o c.take_byte.ensures.advances past in
          let h = g.V.Handler in
          let fs = c.args.stack.now.items in
          object_opened (h.holds p.buf.now c.args.sink.now) (h.holds p.buf.now c.members.new.sink) p o s q fs c.push-2.new.self.items c.in-Ok-members.object (plain, []) 0 c.take_byte-2.result whole a (goes_on p o q a (record { buf = more.buf; mode = more.mode; grammar = more.grammar; onward = more.onward }))
          brace c.skip_whitespace-2.ensures.rest c.take_byte-2.ensures.found c.take_byte-2.ensures.rest (λ cs. c.in-Ok-members.ensures.opened p.buf.now (reverse fs) cs) c.in-Ok-push-2.ensures.items (omega arith) due;
      onward = search rules;
      depth = search rules;
      some = search rules;
      advances = search rules;
    }
