use Rattle.jsonb_core.specs.Order.Laws.{trees_one_order}
use Rattle.jsonb_core.proofs.Order.ByContent.{by_content}
use Rattle.jsonb_value.proofs.value.order.order_is_total.Goals as goal

pub returns : goal.returns
returns c = record { total = trees_one_order; by_content = by_content }
