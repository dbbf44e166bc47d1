use Rattle.std.proofs.Common.{◌∷◌, ◌++◌, ap, sym, ◌∙◌}
use Rattle.jsonb_spec.specs.Text.Appending.{comma_before}
use Rattle.key_text.specs.Writes.{name_text}
use Rattle.key_text.proofs.Rows.{short_name}
use Rattle.key_text.proofs.string.append_short_name.Goals as goal

pub returns-then-append_quoted-clause-found : goal.returns-then-append_quoted-clause-found
returns-then-append_quoted-clause-found c = λ some name more e.
    let ends = c.ends_at.ensures c.if-not-ends_at.false in
    let x = short_name c.args.bytes.now c.in-Some.chunk.now c.run_of_sixteen-run.result c.in-Some.ensures.cases.enough c.in-Some.ensures.cases.same ends.0 c.run_of_sixteen-run.ensures.plain ends.1 ends.2 c.args.object c.if-not-object.false name more e in
    (x.0, c.append_quoted.ensures.appended c.if-append_quoted.true ∙ ap (λ t. c.args.buf.now.items ++ t) (x.1 ∙ ap (λ b. comma_before b ++ name_text c.args.object name) (sym c.if-is_first.true)))

pub returns-then-append_after_comma-clause-found : goal.returns-then-append_after_comma-clause-found
returns-then-append_after_comma-clause-found c = λ some name more e.
    let ends = c.ends_at.ensures c.if-not-ends_at.false in
    let x = short_name c.args.bytes.now c.in-Some.chunk.now c.run_of_sixteen-run.result c.in-Some.ensures.cases.enough c.in-Some.ensures.cases.same ends.0 c.run_of_sixteen-run.ensures.plain ends.1 ends.2 c.args.object c.if-not-object.false name more e in
    (x.0, c.append_after_comma.ensures.appended c.if-append_after_comma.true ∙ ap (λ t. c.args.buf.now.items ++ t) (ap (λ t. 44 ∷ t) x.1 ∙ ap (λ b. comma_before b ++ name_text c.args.object name) (sym c.if-is_first.false)))
