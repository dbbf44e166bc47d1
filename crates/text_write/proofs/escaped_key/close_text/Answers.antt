use Rattle.std.proofs.Common.{◌≡◌, List, ℕ, None, drop, ap, ◌∙◌, subst}
use Rattle.std.specs.Result.{OnOk}
use Rattle.std.proofs.lemmas.List.{take_rest}
use Rattle.memchr.specs.Find.{IsFirstByte, is_byte}
use Rattle.text_write.proofs.EscapedKeys.{ends_text}
use Rattle.text_members.proofs.Fronts.{extends_on}
use Rattle.text_members.proofs.Objects.Pieces.{front_verbatim}
use Rattle.text_write.proofs.escaped_key.close_text.Goals as goal

pub returns-clause-bytes : goal.returns-clause-bytes
returns-clause-bytes c =
    let from = c.args.from in
    let old : List ℕ = c.args.out.now.items in
    let rest = take_rest c.deref.result.now from ∙ ap (drop from) c.deref.ensures.value in
    let none : IsFirstByte (is_byte 0) (drop from old) None = subst (λ (u : List ℕ). IsFirstByte (is_byte 0) u None) rest c.in-None.ensures in
    subst (λ (u : List ℕ). OnOk c.append_end.result (c.append_end.new.out.items ≡ u)) (ends_text from old none) c.append_end.ensures.bytes

pub returns-clause-retained : goal.returns-clause-retained
returns-clause-retained c = extends_on (front_verbatim c.args.from c.args.out.now.items) c.append_end.ensures.retained
