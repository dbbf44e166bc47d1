use Rattle.std.proofs.Common.{◌∷◌, false, subst}
use Rattle.text_parse.specs.declared.parser.frame.Frame.TheVariants as variants
use Rattle.text_parse.specs.Slots.{Fits}
use Rattle.text_parse.proofs.Containers.Frames.{object_ended}
use Rattle.text_parse.proofs.parser.value.finish.Goals as goal

pub returns-in-Object-clause-ended : goal.returns-in-Object-clause-ended
returns-in-Object-clause-ended g c = λ text o rest fs cs fits held.
    let h = g.V.Handler in
    let old = c.in-Object.object in
    object_ended (λ ds. h.holds text c.args.sink.now false (variants.Object old ∷ fs) ds) (λ s. h.completes text c.finish.new.sink (variants.Object (record { members = c.finish.new.members; key = old.key })) s fs cs) h.silent c.finish.new.reported c.finish.result o rest cs
    (subst (λ f. Fits f o) c.in-Object.is fits) (subst (λ f. h.holds text c.args.sink.now false (f ∷ fs) (o ∷ cs)) c.in-Object.is held)
    (λ front k offset here. c.finish.ensures.ended text front old.key k offset fs cs rest here)
