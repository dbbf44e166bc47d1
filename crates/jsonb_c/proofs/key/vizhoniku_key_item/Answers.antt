use Rattle.std.proofs.Common.{rules, [], subst}
use Rattle.std.proofs.lemmas.Int.{to_z-of_z}
use Rattle.std.specs.Int.{w64}
use Rattle.jsonb_spec.specs.SortKey.Found.{item_from}
use Rattle.key_walk.specs.Found.{Finds}
use Rattle.jsonb_c.proofs.KeyParts.{all_of_it}
use Rattle.jsonb_c.proofs.key.vizhoniku_key_item.Goals as goal

pub returns : goal.returns
returns c = record {
  finds = record {
    known = search rules;
    found = λ t k. c.report_range.ensures.found (item_from c.args.index t)
        (subst (λ index. Finds c.args.key.now (item_from index t) c.find_item.result) (to_z-of_z w64 c.args.index c.ranges.index) (c.find_item.ensures.finds.found t k.readable [] (all_of_it c.args.key.now t k)));
    within = search rules;
  };
}
