use Rattle.std.proofs.Common.{option_map, sym, ap, ◌∙◌}
use Rattle.jsonb_spec.specs.Accessors.{get_by_name}
use Rattle.jsonb_value.specs.View.{view}
use Rattle.jsonb_value.proofs.Values.Accessors.{seen, view-Object, option_map-lookup}
use Rattle.jsonb_value.proofs.value.Value.get_by_name.Goals as goal

pub returns-in-Object : goal.returns-in-Object
returns-in-Object c =
    let name = c.args.name.now in
    let members = c.in-Object.members in
    seen c.get.result ∙ ap (option_map view) c.get.ensures.value ∙ option_map-lookup name members.entries
    ∙ sym (ap (get_by_name name) (ap view c.in-Object.is ∙ view-Object members))
