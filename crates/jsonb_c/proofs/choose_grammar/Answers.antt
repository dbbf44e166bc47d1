use Rattle.jsonb_spec.specs.Interface.{standard_mode, extended_mode, json_mode, extended_json_mode}
use Rattle.jsonb_c.proofs.choose_grammar.Goals as goal

pub returns-in-0 : goal.returns-in-0
returns-in-0 c = standard_mode c.in-0.is

pub returns-in-1 : goal.returns-in-1
returns-in-1 c = extended_mode c.in-1.is

pub returns-in-2 : goal.returns-in-2
returns-in-2 c = json_mode c.in-2.is

pub returns-in-3 : goal.returns-in-3
returns-in-3 c = extended_json_mode c.in-3.is
