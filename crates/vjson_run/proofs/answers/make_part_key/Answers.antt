use Rattle.std.proofs.Common.{[], map, subst}
use Rattle.std.specs.Prelude.{string_bytes}
use Rattle.text_scan.specs.declared.parser.Grammar.TheVariants.{Extended}
use Rattle.vjson_text.specs.Texts.{AppendsKeyOf}
use Rattle.vjson_run.proofs.Parts.{key_there}
use Rattle.vjson_run.proofs.answers.make_part_key.Goals as goal

pub returns-clause-ok : goal.returns-clause-ok
returns-clause-ok c = key_there c.args.grammar (map string_bytes c.args.path.now) c.args.text.now c.find_part.new.buffers.part.items c.append_key.new.out.items c.in_ok-found.found c.if-not-found.false c.in_ok-found.ensures.ok
    (subst (λ part. AppendsKeyOf Extended part [] c.append_key.new.out.items) c.deref.ensures.value
    (subst (λ old. AppendsKeyOf Extended c.deref.result.now old c.append_key.new.out.items) c.clear.ensures.items c.in-Ok.ensures.ok))
