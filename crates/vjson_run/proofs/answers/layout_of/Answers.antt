use Rattle.std.proofs.Common.{sym, ap, ◌∙◌, if◌then◌else◌, unwrap_or}
use Rattle.vjson_text.specs.declared.reader.Layout.TheVariants.{Compact, Indent}
use Rattle.vjson_run.proofs.answers.layout_of.Goals as goal

pub returns-in-Some : goal.returns-in-Some
returns-in-Some c = ap (λ o. unwrap_or o (if c.args.options.now.lines then Compact else Indent 2)) (sym c.in-Some.is)

pub returns-then-options : goal.returns-then-options
returns-then-options c = ap (λ b. if b then Compact else Indent 2) (sym c.if-options.true) ∙ ap (λ o. unwrap_or o (if c.args.options.now.lines then Compact else Indent 2)) (sym c.in-None.is)

pub returns-else-options : goal.returns-else-options
returns-else-options c = ap (λ b. if b then Compact else Indent 2) (sym c.if-options.false) ∙ ap (λ o. unwrap_or o (if c.args.options.now.lines then Compact else Indent 2)) (sym c.in-None.is)
