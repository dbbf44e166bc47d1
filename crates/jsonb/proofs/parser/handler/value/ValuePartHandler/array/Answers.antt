use Rattle.std.proofs.Common.{refl, ap, sym, ◌∙◌}
use Rattle.jsonb_spec.specs.Source.{tree_of_source}
use Rattle.jsonb.proofs.Containers.Built.{array_of_values}
use Rattle.jsonb.proofs.parser.handler.value.ValuePartHandler.array.Goals as goal

pub returns : goal.returns
returns g c = λ text s fs cs done. (array_of_values c.args.items c.args.items done.0.0 refl done.0.1 ∙ ap tree_of_source (sym done.0.2), done.1)
