use Rattle.std.proofs.Common.{◌∷◌, ℕ, List, Option, None, Some, map}
use Rattle.jsonb.specs.Held.{IsScalarAt, held_by}
use Rattle.jsonb_spec.specs.Source.{Source}
use Rattle.jsonb_spec.specs.Source.Open.{elements_so_far}
use Rattle.text_common.specs.declared.verbatim.Verbatim.{Verbatim}
use Rattle.jsonb_spec.specs.PartAt.SoFar.{HasNoParts}
use Rattle.text_write.specs.declared.text.Part.{Part}
use Rattle.text_write.proofs.PartSinks.{alone, verbatim_alone}
use Rattle.jsonb.proofs.Given.{scalar_given}
use Rattle.jsonb.proofs.parser.handler.sink.SinkPartHandler.push.Goals as goal

-- a scalar holds no others
scalar_alone : (part : Part) (verbatim : Option Verbatim) (from to : ℕ) (text : List ℕ) (s : Source) → IsScalarAt part verbatim from to text s → HasNoParts s
scalar_alone part None from to text s is = alone part s is.0
scalar_alone part (Some kind) from to text s is = verbatim_alone kind text from to s is

pub returns-then-passes-clause-put : goal.returns-then-passes-clause-put
returns-then-passes-clause-put g c = λ text s ss fs cs holds is.
    let value = c.args.value in
    let nothing = scalar_alone value.part value.verbatim c.args.from c.args.to text s (scalar_given value.part value.verbatim (λ k e. e) is) in
    c.if-passes.ensures.holds text s (map (held_by g.S.Sink.array g.S.Sink.object) fs) ss cs nothing holds

pub returns-clause-put : goal.returns-clause-put
returns-clause-put g c = λ text s ss fs cs holds is.
    let held = map (held_by g.S.Sink.array g.S.Sink.object) fs in
    let due = c.in_ok-next_item.ensures.holds text held ss cs holds in
    c.push_inner.ensures.holds text s held ss cs (c.in_ok-fill.ensures.filled text s (g.S.Sink.array c.next_item.new.items ∷ held) (elements_so_far ss ∷ cs) due (scalar_given c.args.value.part c.args.value.verbatim (λ k e. e) is))
