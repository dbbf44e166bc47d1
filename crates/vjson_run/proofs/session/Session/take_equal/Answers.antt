use Rattle.std.proofs.Common.{true, false, [], Some, ap, refl, sym, subst}
use Rattle.std.proofs.lemmas.List.Elements.{same_from_all_zip}
use Rattle.std.proofs.lemmas.Result.{err_from_is_err_and}
use Rattle.vjson_text.specs.Texts.{AppendsKeyOf, Rejects}
use Rattle.vjson_run.specs.Runs.{Differs}
use Rattle.vjson_text.specs.declared.fault.Fault.TheVariants.{NoMemory}
use Rattle.std.proofs.Common.{◌≡◌, inr, rules, Err}
use Rattle.vjson_run.proofs.Troubled.{once_denied}
use Rattle.vjson_run.proofs.session.Session.take_equal.Goals as goal

pub returns-then-differs-clause-ok : goal.returns-then-differs-clause-ok
returns-then-differs-clause-ok g c = record {
  options = ap (λ x. x.options) c.deny.ensures;
  out = ap (λ x. x.out) c.deny.ensures;
  key = c.in_ok-key.key;
  is_key = subst (AppendsKeyOf c.args.self.now.options.now.grammar c.args.text.now []) (sym (same_from_all_zip _ _ _ c.in_ok-key.ensures.cases.0 (λ x y e. e))) c.in_ok-make_whole_key.ensures.ok;
  last = refl;
  differs = true;
  found = subst (λ key. Differs c.args.self.now.last key true) c.deref.ensures.value (subst (Differs c.args.self.now.last c.deref.result.now) c.if-differs.true c.differs.ensures);
  status = ap (λ x. x.status) c.deny.ensures;
  over = λ e. cc;
}

pub returns-clause-ok : goal.returns-clause-ok
returns-clause-ok g c = record {
  options = refl;
  out = refl;
  key = c.in_ok-key.key;
  is_key = subst (AppendsKeyOf c.args.self.now.options.now.grammar c.args.text.now []) (sym (same_from_all_zip _ _ _ c.in_ok-key.ensures.cases.0 (λ x y e. e))) c.in_ok-make_whole_key.ensures.ok;
  last = refl;
  differs = false;
  found = subst (λ key. Differs c.args.self.now.last key false) c.deref.ensures.value (subst (Differs c.args.self.now.last c.deref.result.now) c.if-differs.false c.differs.ensures);
  status = refl;
  over = λ _. refl;
}

pub returns-in_err-make_whole_key-clause-memory : goal.returns-in_err-make_whole_key-clause-memory
returns-in_err-make_whole_key-clause-memory g c = λ is.
    let lack : c.make_whole_key.result ≡ Err NoMemory = search rules in
    c.make_whole_key.ensures.memory lack

pub returns-in_err-key-clause-rejected : goal.returns-in_err-key-clause-rejected
returns-in_err-key-clause-rejected g c =
    let p = err_from_is_err_and c.from_residual-in_err-key.result c.from_residual-in_err-key.ensures.1 in
    subst (Rejects c.args.self.now.options.now.grammar c.args.text.now) (sym p.1) (λ other. absurd (other p.2))

pub returns-in_err-key-clause-memory : goal.returns-in_err-key-clause-memory
returns-in_err-key-clause-memory g c = λ is. inr (c.in_ok-make_whole_key.ensures.ok.tree, c.in_ok-make_whole_key.ensures.ok.is_text)

pub returns-then-differs-clause-calm : goal.returns-then-differs-clause-calm
returns-then-differs-clause-calm g c = once_denied c.args.self.now (record c.deny.new.self { over = true; last = Some c.in_ok-key.key }) (ap (λ x. x.options) c.deny.ensures) (ap (λ x. x.status) c.deny.ensures)
