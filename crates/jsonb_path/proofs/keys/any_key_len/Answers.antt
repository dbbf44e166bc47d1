use Rattle.std.proofs.Common.{subst, sym, ◌∙◌, IsUtf8, true≢false}
use Rattle.jsonb_path.proofs.PlainKeys.{same_key}
use Rattle.jsonb_path.proofs.keys.any_key_len.Goals as goal

pub returns-then-not-is_utf8-clause-none : goal.returns-then-not-is_utf8-clause-none
returns-then-not-is_utf8-clause-none c = λ more key keys e utf8 plain.
    let read = same_key c.args.text.now _ _ key keys c.in-Some.ensures.plain e plain in
    absurd (true≢false (sym (c.if-not-is_utf8.ensures.1 (subst IsUtf8 (sym (c.split_at.ensures.front ∙ read)) utf8))))
