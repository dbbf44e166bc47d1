use Rattle.std.proofs.Common.{◌+◌, ◌<◌, ◌++◌, ◌∷◌, [], length, vec_len, ap, subst, sym, ◌∙◌}
use Rattle.std.specs.Vec.{vec_capacity}
use Rattle.jsonb_spec.specs.Tree.{array}
use Rattle.jsonb_spec.specs.Edit.{as_items, joined_items}
use Rattle.key_edit.specs.Edit.{IsLacking}
use Rattle.key_edit.proofs.Joined.{joined_is, joined_within, second_within}
use Rattle.key_edit.proofs.Putting.{appended, lacking}
use Rattle.key_edit.proofs.merge.join_items.Goals as goal

pub returns-in-Err-item_keys-clause-joins : goal.returns-in-Err-item_keys-clause-joins
returns-in-Err-item_keys-clause-joins c = λ t u r l i e.
    let h = c.in-Err-item_keys.ensures u i e in
    record { ok = tt; fits = tt; errors = subst (IsLacking (array (joined_items (as_items t) (as_items u))) c.args.out.now) (sym h.0) (λ w. h.1 (second_within (as_items t) (as_items u) 511 w)) }

pub returns-then-is_err-clause-joins : goal.returns-then-is_err-clause-joins
returns-then-is_err-clause-joins c = λ t u r l i e.
    let h = c.in-Ok.ensures t r l in
    let k = c.in-Ok-item_keys.ensures u i e in
    let items = c.in-Ok.items.now in
    let others = c.in-Ok-item_keys.items.now in
    let full = lacking c.splice.result c.args.out.now c.splice.new.out (0xD2 ∷ (items ++ (others ++ 0 ∷ []))) (sym c.is_err.ensures.value ∙ c.if-is_err.true) c.splice.ensures in
    record { ok = tt; fits = tt; errors = subst (λ key. vec_capacity c.args.out.now < vec_len c.args.out.now + length key) (joined_is (as_items t) (as_items u) items others h.0 k.0) full }

pub returns-clause-joins : goal.returns-clause-joins
returns-clause-joins c = λ t u r l i e.
    let h = c.in-Ok.ensures t r l in
    let k = c.in-Ok-item_keys.ensures u i e in
    let items = c.in-Ok.items.now in
    let others = c.in-Ok-item_keys.items.now in
    let done = appended c.splice.result c.args.out.now c.splice.new.out (0xD2 ∷ (items ++ (others ++ 0 ∷ []))) (sym c.is_err.ensures.value ∙ c.if-is_err.false) c.splice.ensures in
    record {
      ok = done ∙ ap (λ key. c.args.out.now.items ++ key) (joined_is (as_items t) (as_items u) items others h.0 k.0);
      fits = joined_within (as_items t) (as_items u) 511 h.1 k.1;
      errors = tt;
    }
