use Rattle.std.proofs.Common.{◌-◌, ◌++◌, ◌∷◌, [], slice_range, take, refl, sym, ap, ◌∙◌}
use Rattle.std.proofs.lemmas.List.{take_rest}
use Rattle.text_write.proofs.Keys.KeySinks.{plain_text_key, wrote}
use Rattle.text_members.proofs.OpenMembers.{same}
use Rattle.text_members.proofs.Outcomes.{on_ok}
use Rattle.text_write.proofs.key.KeySink.preserve_text.Goals as goal

pub returns-clause-bytes : goal.returns-clause-bytes
returns-clause-bytes c =
    let r = c.args.self.now in
    on_ok c.append_key_text.result c.append_key_text.ensures.bytes (λ e is_plain.
    wrote refl (same r.members)
    (e ∙ ap (λ xs. r.out.items ++ xs) (ap (λ xs. take (c.args.to - c.args.from) xs ++ 0 ∷ 1 ∷ []) (take_rest r.members.text.now c.args.from) ∙ sym (plain_text_key (slice_range r.members.text.now c.args.from c.args.to) is_plain))))
