use Rattle.std.proofs.Common.{◌∷◌, false, inl, subst, sym, ◌∙◌, rules}
use Rattle.text_parse.specs.Slots.{Fits}
use Rattle.text_parse.proofs.Containers.Frames.{array_awaits}
use Rattle.text_parse.proofs.parser.Parser.fill.Goals as goal

pub returns-in-Ok : goal.returns-in-Ok
returns-in-Ok g c =
    let p = c.args.self.now in
    let h = g.V.Handler in
    let text = p.buf.now in
    let next = sym c.next_is.ensures ∙ c.if-next_is.true in
    record {
      parses = λ depth o fs cs fits held.
          array_awaits (h.holds text c.args.sink.now) (h.holds text c.next_item.new.sink) p c.in-Array.items c.next_item.new.items next depth o fs cs (λ ss so_far. c.in-Ok.ensures.due text ss fs cs so_far)
          (subst (λ f. Fits f o) c.in-Array.is fits) (subst (λ f. h.holds text c.args.sink.now false (f ∷ fs) (o ∷ cs)) c.in-Array.is held);
      onward = search rules;
      opens = inl next;
      advances = search rules;
    }
