use Rattle.std.proofs.Common.{sym, ◌∙◌, arith}
use Rattle.text_scan.proofs.Strings.BareKeys.{key_goes_past, key_onward, key_start, key_stops}
use Rattle.text_scan.proofs.parser.key.find_key_end.Goals as goal

pub characters-init : goal.characters-init
characters-init c = (key_start c.args.bytes.now, omega arith)

pub returns-then-len-eq0 : goal.returns-then-len-eq0
returns-then-len-eq0 c = key_stops c.args.bytes.now c.characters.at c.characters-test.true (sym c.character_len-len.ensures.value ∙ c.if-len-eq0.true) c.characters.invariant.0

pub characters-preserved : goal.characters-preserved
characters-preserved c = (
  key_onward c.args.bytes.now c.characters.at c.character_len-len.result c.characters-test.true (sym c.character_len-len.ensures.value) (omega (arith, c.if-len-eq0.false)) c.characters.invariant.0,
  omega (arith, c.character_len-len.ensures.bound),
)

pub returns : goal.returns
returns c = (key_goes_past c.args.bytes.now c.characters.at c.characters-test.false c.characters.invariant.0, c.characters.invariant.1)
