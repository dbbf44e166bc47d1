use Rattle.std.proofs.Common.{refl, sym, subst, ap}
use Rattle.std.proofs.lemmas.List.Elements.{same_from_all_zip}
use Rattle.std.proofs.lemmas.Result.{err_from_is_err_and}
use Rattle.vjson_text.specs.Texts.{Rejects}
use Rattle.vjson_run.proofs.Parts.{line_alone}
use Rattle.vjson_run.specs.Answers.{AppendsLine}
use Rattle.vjson_run.specs.Keys.{IsKeyOf}
use Rattle.vjson_text.specs.declared.fault.Fault.TheVariants.{NoMemory}
use Rattle.std.proofs.Common.{◌≡◌, inr, rules, Err}
use Rattle.vjson_run.proofs.Troubled.{keyed_one}
use Rattle.vjson_run.proofs.session.Session.take_sort.Goals as goal

pub returns-clause-ok : goal.returns-clause-ok
returns-clause-ok g c = λ _. record {
  options = refl;
  out = refl;
  status = refl;
  over = refl;
  line = record { key = c.in_ok-key.key; text = c.append_line.new.out };
  is_line = record {
    is_key = subst (IsKeyOf c.args.self.now.options.now c.args.text.now) (sym (same_from_all_zip _ _ _ c.in_ok-key.ensures.cases.0 (λ x y e. e))) c.in_ok-make_key.ensures.ok;
    is_line = line_alone c.args.self.now.options.now c.args.text.now c.append_line.new.out.items
        (subst (λ old. AppendsLine c.args.self.now.options.now c.args.text.now old c.append_line.new.out.items) c.new-line.ensures.items c.in_ok-append_line.ensures.ok);
  };
  lines = c.in_ok-push.ensures.items;
}

pub returns-then-self-clause-checked : goal.returns-then-self-clause-checked
returns-then-self-clause-checked g c = λ _. record {
  options = ap (λ x. x.options) c.check_order.ensures;
  out = ap (λ x. x.out) c.check_order.ensures;
  over = ap (λ x. x.over) c.check_order.ensures;
  key = c.in_ok-key.key;
  is_key = subst (IsKeyOf c.args.self.now.options.now c.args.text.now) (sym (same_from_all_zip _ _ _ c.in_ok-key.ensures.cases.0 (λ x y e. e))) c.in_ok-make_key.ensures.ok;
  last = ap (λ x. x.last) c.check_order.ensures;
  status = ap (λ x. x.status) c.check_order.ensures;
}

pub returns-in_err-push-clause-rejected : goal.returns-in_err-push-clause-rejected
returns-in_err-push-clause-rejected g c =
    let p = err_from_is_err_and c.from_residual-in_err-push.result c.from_residual-in_err-push.ensures.1 in
    subst (Rejects c.args.self.now.options.now.grammar c.args.text.now) (sym p.1) (λ other. absurd (other p.2))

pub returns-in_err-make_key-clause-memory : goal.returns-in_err-make_key-clause-memory
returns-in_err-make_key-clause-memory g c = λ is.
    let lack : c.make_key.result ≡ Err NoMemory = search rules in
    c.make_key.ensures.memory lack

pub returns-in_err-key-clause-memory : goal.returns-in_err-key-clause-memory
returns-in_err-key-clause-memory g c = λ is. inr (keyed_one c.args.self.now.options.now c.args.text.now c.make_key.new.buffers.key.items c.in_ok-make_key.ensures.ok)

pub returns-in_err-append_line-clause-memory : goal.returns-in_err-append_line-clause-memory
returns-in_err-append_line-clause-memory g c = λ is. inr (keyed_one c.args.self.now.options.now c.args.text.now c.make_key.new.buffers.key.items c.in_ok-make_key.ensures.ok)

pub returns-in_err-push-clause-memory : goal.returns-in_err-push-clause-memory
returns-in_err-push-clause-memory g c = λ is. inr (keyed_one c.args.self.now.options.now c.args.text.now c.make_key.new.buffers.key.items c.in_ok-make_key.ensures.ok)
