use Rattle.std.proofs.Common.{◌≡◌, ◌+◌, ◌-◌, ◌∷◌, ◌++◌, length, length-append, set, ap, arith, refl, rules, ◌∙◌}
use Rattle.jsonb_spec.specs.SortKey.{key_of}
use Rattle.jsonb_spec.specs.Document.Walk.{kind_mark}
use Rattle.key_document.proofs.Walks.{opening_met, part_key}
use Rattle.key_document.proofs.walk.enter.Goals as goal
use Rattle.jsonb_spec.specs.SortKey.Open.{is_object, name_key}
use Rattle.jsonb_spec.specs.SortKey.Parts.{opened_tree}
use Rattle.jsonb_spec.specs.SortKey.Steps.{opens_key}

pub returns-clause-entered : goal.returns-clause-entered
returns-clause-entered c = λ t o under at more x.
    let walk = c.args.walk.now in
    let long : length walk.objects ≡ 512 = search rules in
    let value = opened_tree x.inside in
    let rest = opens_key (x.others ∷ under) in
    let name = name_key (is_object o) x.name in
    let from = key_of value ++ rest in
    let size : length c.args.bytes.now - length c.args.opened.value.now ≡ length (name ++ from) - length from =
    omega (arith, ap length x.named, length-append name c.args.opened.value.now, length-append name from) in
    opening_met t o under walk at x.name value x.others x.is_part (name ++ from) from (part_key o x.name value x.others under x.is_part) refl rest refl
    x.inside refl x.inner x.deeper x.fits x.others_fit refl _ (c.kind_opened.ensures x.inside x.kind_is) refl size (ap (λ n. walk.offset + n) size) refl refl _ refl refl
    (ap (set walk.objects walk.depth) (c.mark_of.ensures ∙ ap kind_mark x.kind_is)) (omega (arith, long, c.if-walk-ge-MAX_DEPTH.false)) refl
