use Rattle.std.proofs.Common.{◌≡◌, [], ◌||◌, None, Some, ap, subst, sym, ◌∙◌}
use Rattle.std.specs.BTreeSet.{contains_by}
use Rattle.jsonb_spec.specs.Order.{bytes_cmp}
use Rattle.jsonb_spec.specs.Edit.LeftOut.{has_name}
use Rattle.key_document.specs.Gathered.{NamesAhead}
use Rattle.key_document.proofs.NamesLeft.{name_first, name_found, name_other, name_same, no_name_left}
use Rattle.key_document.proofs.names.is_among.Goals as goal
use Rattle.key_document.proofs.Reaching.{some_none}

pub returns-then-is_in : goal.returns-then-is_in
returns-then-is_in c = λ bytes e ns g.
    let is = c.if-is_in.ensures ∙ ap (λ text. contains_by (λ key. bytes_cmp text key.now) c.args.set.now) e in
    sym ((g bytes).same ∙ ap (λ b. b || has_name bytes (g bytes).names) (sym is))

pub names-init : goal.names-init
names-init c = record {
  ahead = λ bytes e ns g.
      let is = c.if-is_in.ensures ∙ ap (λ text. contains_by (λ key. bytes_cmp text key.now) c.args.set.now) e in
      subst (λ there. NamesAhead there bytes ns c.args.names.now) (sym is) (g bytes);
}

pub returns-then-eq : goal.returns-then-eq
returns-then-eq c = λ bytes e ns g.
    let l = c.names.invariant.ahead bytes e ns g in
    let n = name_first _ bytes ns c.names.rest.now l (λ more h. some_none (c.in-Some.ensures.over more h)) in
    let x = c.in-Some.ensures.next n.name n.value n.readable n.others [] n.occurs in
    sym (name_found bytes ns c.names.rest.now n (name_same bytes n.name c.in-Some.name.now c.args.text.now _ c.if-eq.ensures e x.0))

pub names-preserved : goal.names-preserved
names-preserved c = record {
  ahead = λ bytes e ns g.
      let l = c.names.invariant.ahead bytes e ns g in
      let n = name_first _ bytes ns c.names.rest.now l (λ more h. some_none (c.in-Some.ensures.over more h)) in
      let x = c.in-Some.ensures.next n.name n.value n.readable n.others [] n.occurs in
      name_other bytes ns c.names.rest.now n c.in-Some.others.now (name_same bytes n.name c.in-Some.name.now c.args.text.now _ c.if-eq.ensures e x.0) x.2;
}

pub returns : goal.returns
returns c = λ bytes e ns g.
    let l = c.names.invariant.ahead bytes e ns g in
    sym (no_name_left bytes ns c.names.rest.now l (λ name t r ms more h. c.in_default.ensures.next name t r ms more h))
