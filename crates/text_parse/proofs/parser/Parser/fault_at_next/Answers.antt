use Rattle.jsonb_core.specs.Error.CodeView.{code_of}
use Rattle.text_parse.proofs.Steps.Cursors.{fault_at-inside}
use Rattle.text_parse.proofs.parser.Parser.fault_at_next.Goals as goal

pub returns-then-self : goal.returns-then-self
returns-then-self c = fault_at-inside c.args.self.now.buf.now c.args.self.now.offset (code_of c.args.code) c.args.step c.if-self.true
