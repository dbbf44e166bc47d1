use Rattle.std.proofs.Common.{◌≡◌, List, [], ◌∷◌, length, sym, ap, refl, arith}
use Rattle.std.specs.BTreeMap.{is_at}
use Rattle.std.specs.List.{list_any}
use Rattle.jsonb_spec.specs.Order.{bytes_cmp}
use Rattle.key_document.proofs.names.is_in.Goals as goal

none : {A : Type 0} (keys : List A) → length keys ≡ 0 → keys ≡ []
none [] e = refl
none (key ∷ keys) e = absurd (omega (arith, e))

pub returns-then-is_empty : goal.returns-then-is_empty
returns-then-is_empty c = ap (list_any (is_at (λ key. bytes_cmp c.args.text.now key.now))) (sym (none c.args.set.now.keys (c.is_empty.ensures.0 c.if-is_empty.true)))
