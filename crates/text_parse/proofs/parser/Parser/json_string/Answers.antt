use Rattle.std.proofs.Common.{subst}
use Rattle.std.specs.Str.{IsUtf8}
use Rattle.text_parse.specs.JsonString.{IsJsonEnd}
use Rattle.text_parse.proofs.Scalars.JsonStrings.{passes_json}
use Rattle.text_parse.proofs.parser.Parser.json_string.Goals as goal
use Rattle.text_common.specs.declared.verbatim.Verbatim.TheVariants as verbatim

pub returns-then-found-clause-passes : goal.returns-then-found-clause-passes
returns-then-found-clause-passes c =
    let found = c.in_ok-found.found in
    let cut = c.in_ok-_body.ensures.cuts in
    passes_json c.args.self.now _ verbatim.Same found.end found.is_same c.if-found.true c.requires.opened (subst (λ u. IsJsonEnd u found.end found.is_same) c.rest.ensures c.in_ok-found.ensures) (subst IsUtf8 cut.is cut.utf8) c.cut.ensures.advances.buf cut.offset

pub returns-clause-passes : goal.returns-clause-passes
returns-clause-passes c =
    let found = c.in_ok-found.found in
    let cut = c.in_ok-_body.ensures.cuts in
    passes_json c.args.self.now _ verbatim.Escaped found.end found.is_same tt c.requires.opened (subst (λ u. IsJsonEnd u found.end found.is_same) c.rest.ensures c.in_ok-found.ensures) (subst IsUtf8 cut.is cut.utf8) c.cut.ensures.advances.buf cut.offset
