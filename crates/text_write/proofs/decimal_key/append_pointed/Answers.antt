use Rattle.std.proofs.Common.{◌++◌, ◌∷◌, [], ◌∙◌, ap, arith}
use Rattle.text_write.proofs.IntegerKeys.{scaled_appended}
use Rattle.text_members.proofs.Outcomes.{on_ok}
use Rattle.text_write.proofs.decimal_key.append_pointed.Goals as goal

pub returns-clause-bytes : goal.returns-clause-bytes
returns-clause-bytes c =
    let ds = c.args.digits.now in
    let cut = c.significant_len-len.ensures in
    on_ok c.append_pairs.result c.append_pairs.ensures.bytes (λ e all near.
    scaled_appended c.args.negative ds.scale ds.row c.args.out.now.items c.push_reserved.new.self.items c.append_pairs.new.out.items ds.count c.significant_len-len.result c.invert_if.result c.requires.some c.requires.few.0 near (omega (arith, c.requires.few)) c.requires.leads
    (record { some = cut.some; within = cut.within; zeros = cut.zeros; last = cut.last }) (c.push_reserved.ensures.items ∙ ap (λ xs. xs ++ c.invert_if.result ∷ []) c.in_ok-try_reserve.ensures.items) c.invert_if.ensures e all)
