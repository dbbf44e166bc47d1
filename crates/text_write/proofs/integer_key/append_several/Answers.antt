use Rattle.std.proofs.Common.{◌++◌, ◌∷◌, [], ◌∙◌, ap}
use Rattle.text_write.proofs.IntegerKeys.{appended}
use Rattle.text_members.proofs.Outcomes.{on_ok}
use Rattle.text_write.proofs.integer_key.append_several.Goals as goal

pub returns-clause-bytes : goal.returns-clause-bytes
returns-clause-bytes c =
    let ds = c.args.digits.now in
    let cut = c.significant_len-len.ensures in
    on_ok c.append_pairs.result c.append_pairs.ensures.bytes (λ e all.
    appended c.args.negative ds c.args.out.now.items c.push_reserved.new.self.items c.append_pairs.new.out.items c.args.count c.significant_len-len.result c.invert_if.result c.requires.some.0 c.requires.some.1 c.requires.inside c.requires.leads
    (record { some = cut.some; within = cut.within; zeros = cut.zeros; last = cut.last }) (c.push_reserved.ensures.items ∙ ap (λ xs. xs ++ c.invert_if.result ∷ []) c.in_ok-try_reserve.ensures.items) c.invert_if.ensures e all)
