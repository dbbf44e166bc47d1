use Rattle.jsonb_core.proofs.SortKeys.Trees.{tree_compares, keys_order, keys_same, keys_no_front}
use Rattle.jsonb_value.proofs.value.sort_key.sort_keys_order.Goals as goal

pub returns : goal.returns
returns c = record {
  order = keys_order;
  same = keys_same;
  no_front = keys_no_front;
  joined = λ t u p q. (tree_compares t u p q).compared;
}
