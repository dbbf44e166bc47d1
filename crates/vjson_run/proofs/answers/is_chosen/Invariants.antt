use Rattle.std.proofs.Common.{◌≡◌, true, take}
use Rattle.std.specs.List.{list_all}
use Rattle.jsonb_spec.specs.Tree.{Tree}
use Rattle.vjson_text.specs.Texts.{IsTextOf}
use Rattle.vjson_run.specs.Chosen.{holds_of}
use Rattle.vjson_run.proofs.answers.is_chosen.Given as goal

-- the conditions so far hold
abbrev pub invariant-conditions : goal.invariant-conditions
invariant-conditions l = (t : Tree) → IsTextOf l.options.grammar l.text t → list_all (holds_of t) (take l.condition-index l.options.conditions.items) ≡ true
