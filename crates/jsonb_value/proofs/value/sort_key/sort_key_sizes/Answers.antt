use Rattle.jsonb_value.proofs.SortKeys.Sizes.{zero_len, number_len, form_len, string_len, array_len, object_len}
use Rattle.jsonb_value.proofs.value.sort_key.sort_key_sizes.Goals as goal

pub returns : goal.returns
returns c = record { zero = zero_len; digits = number_len; number = form_len; string = string_len; array = array_len; object = object_len }
