use Rattle.std.proofs.Common.{false, ◌∷◌, ◌++◌, ap, ◌∙◌}
use Rattle.key_text.proofs.Rows.{chunk_long}
use Rattle.key_text.proofs.Strings.{short_string}
use Rattle.key_text.proofs.string.append_short_string.Goals as goal

pub returns-then-append_quoted-clause-found : goal.returns-then-append_quoted-clause-found
returns-then-append_quoted-clause-found c = λ some text more e.
    let ends = c.ends_at.ensures c.if-not-ends_at.false in
    let long = chunk_long c.args.bytes.now c.in-Some.chunk.now c.args.run c.in-Some.ensures.cases.enough c.in-Some.ensures.cases.same ends.0 in
    let x = short_string false c.args.bytes.now c.in-Some.chunk.now c.args.run c.in-Some.ensures.cases.same long ends.0 c.requires.plain ends.1 ends.2 text more e in
    (x.0, c.append_quoted.ensures.appended c.if-append_quoted.true ∙ ap (λ t. c.args.buf.now.items ++ 34 ∷ t) x.1)
