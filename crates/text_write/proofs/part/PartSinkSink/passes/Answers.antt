use Rattle.std.proofs.Common.{◌≡◌, ◌∷◌, ◌++◌, [], ℕ, Bool, true, false, not, List, None, Some, refl, ap, arith}
use Rattle.std.specs.Prelude.{MatchBool, if◌then◌else◌}
use Rattle.jsonb_spec.specs.Source.{Source}
use Rattle.jsonb_spec.specs.Source.Open.{Open, elements_so_far}
use Rattle.jsonb_spec.specs.PartAt.SoFar.{HasNoParts}
use Rattle.text_write.specs.PartSink.{PartHeld, PartHolds, array_held}
use Rattle.text_write.specs.declared.part.PartItems.{PartItems}
use Rattle.text_write.specs.declared.part.PartSink.{PartSink}
use Rattle.text_write.proofs.PartSinks.{item_passes}
use Rattle.text_write.proofs.part.PartSinkSink.passes.Goals as goal

-- an item that holds no others changes nothing
abbrev Passes : PartSink → PartItems → Type 0
Passes r f = (text : List ℕ) → (s : Source) → (held : List PartHeld) → (ss : List Source) → (cs : List Open) → HasNoParts s → PartHolds text r false (array_held f ∷ held) (elements_so_far ss ∷ cs) → PartHolds text r false (array_held f ∷ held) (elements_so_far (ss ++ s ∷ []) ∷ cs)

by_ahead : (r : PartSink) (f : PartItems) (is_ahead : Bool) → f.is_ahead ≡ is_ahead → r.inside ≡ 0 → r.due ≡ None → MatchBool (not is_ahead) (Passes r f) (Unit {0})
by_ahead r f true is none away = tt
by_ahead r f false is none away = λ text s held ss cs nothing sink. item_passes f ss s none away (ap (λ b. if b then Some f.ahead else None) is) nothing sink

pub returns-in-None : goal.returns-in-None
returns-in-None c = record { holds = by_ahead c.args.self.now c.args.items.now c.args.items.now.is_ahead refl (omega arith) c.in-None.is }
