use Rattle.std.proofs.Common.{rules, ◌∙◌, ◌≡◌, true, false}
use Rattle.std.specs.Prelude.{slice_index, ◌==◌}
use Rattle.jsonb_spec.specs.PartAt.{leads_well}
use Rattle.jsonb_path.proofs.PartIndex.{index_there, no_index_there, parsed}
use Rattle.jsonb_path.proofs.index.index_of.Goals as goal

pub returns-clause-named : goal.returns-clause-named
returns-clause-named c =
    let leads : leads_well c.args.key.now ≡ true = search rules in
    let plus : (slice_index c.args.key.now 0 == 43) ≡ false = search rules in
    c.ok.ensures.value ∙ parsed c.args.key.now c.parse.result leads plus c.parse.ensures.value.0

pub returns-clause-some : goal.returns-clause-some
returns-clause-some c = index_there c.args.key.now c.ok.result (returns-clause-named c)

pub returns-clause-none : goal.returns-clause-none
returns-clause-none c = no_index_there c.args.key.now c.ok.result (returns-clause-named c)
