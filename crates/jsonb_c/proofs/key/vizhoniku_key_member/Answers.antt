use Rattle.std.proofs.Common.{rules, []}
use Rattle.jsonb_spec.specs.Accessors.{get_by_name}
use Rattle.jsonb_c.proofs.KeyParts.{all_of_it}
use Rattle.jsonb_c.proofs.key.vizhoniku_key_member.Goals as goal

pub returns : goal.returns
returns c = record {
  finds = record {
    known = search rules;
    found = λ t k. c.report_range.ensures.found (get_by_name c.args.name.now t) (c.find_member.ensures.finds.found t k.readable [] (all_of_it c.args.key.now t k));
    within = search rules;
  };
}
