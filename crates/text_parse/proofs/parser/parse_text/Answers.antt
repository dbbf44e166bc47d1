use Rattle.jsonb_spec.specs.Parsing.Document.{source_of}
use Rattle.text_parse.proofs.parser.parse_text.Goals as goal

pub returns-in-Ok-clause-parses : goal.returns-in-Ok-clause-parses
unfolding source_of
returns-in-Ok-clause-parses g c held = c.in-Ok.ensures.parses held

pub returns-in-Err-clause-parses : goal.returns-in-Err-clause-parses
unfolding source_of
returns-in-Err-clause-parses g c held = c.in-Err.ensures.parses held

pub returns-in-Err-clause-memory : goal.returns-in-Err-clause-memory
unfolding source_of
returns-in-Err-clause-memory g c = c.in-Err.ensures.memory
