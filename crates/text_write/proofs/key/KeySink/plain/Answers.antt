use Rattle.std.proofs.Common.{◌-◌, ◌++◌, ◌∷◌, [], take, drop, refl, sym, ap, ◌∙◌, arith}
use Rattle.std.proofs.lemmas.List.{take_rest}
use Rattle.text_write.proofs.Keys.KeySinks.{plain_text_key, string_there, wrote}
use Rattle.text_members.proofs.OpenMembers.{same}
use Rattle.text_members.proofs.Outcomes.{on_ok}
use Rattle.text_write.proofs.key.KeySink.plain.Goals as goal

pub returns-then-to-from-gt1-clause-bytes : goal.returns-then-to-from-gt1-clause-bytes
returns-then-to-from-gt1-clause-bytes c =
    let r = c.args.self.now in
    on_ok c.append_with_kind.result c.append_with_kind.ensures.bytes (λ e encoded.
    let there_plain = encoded c.if-has_range.ensures.0 in
    let there = string_there r.members.text.now c.args.string.now c.args.from c.args.to (omega arith) c.if-has_range.ensures.1 there_plain.0 in
    let is_plain = there_plain.1 in
    wrote refl (same r.members)
    (e ∙ ap (λ xs. r.out.items ++ 208 ∷ xs) (ap (λ xs. drop 1 (take (c.args.to - c.args.from - 1) xs) ++ 0 ∷ 1 ∷ []) (take_rest r.members.text.now c.args.from) ∙ ap (λ xs. xs ++ 0 ∷ 1 ∷ []) there ∙ sym (plain_text_key c.args.string.now is_plain))))
