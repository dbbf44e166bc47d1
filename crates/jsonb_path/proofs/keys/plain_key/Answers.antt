use Rattle.std.proofs.Common.{◌≡◌, ℕ, List, ◌∷◌, ◌++◌, ap, arith, ◌∙◌}
use Rattle.jsonb_spec.specs.Path.{encoded_keys}
use Rattle.jsonb_path.proofs.PlainKeys.{behind_slash, plain_itself}
use Rattle.jsonb_path.proofs.keys.plain_key.Goals as goal

slash_first : (path text : List ℕ) (slash : ℕ) → path ≡ slash ∷ text → slash ≡ 47 → path ≡ 47 ∷ text
slash_first path text slash first is = first ∙ ap (λ b. b ∷ text) is

pub returns-then-len-text-clause-none : goal.returns-then-len-text-clause-none
returns-then-len-text-clause-none c = λ key keys is_path plain.
    let path = c.args.path.now in
    let text = c.in_ok-slash.text.now in
    let first = slash_first path text c.in_ok-slash.slash.now c.in_ok-slash.ensures.cases.0 c.if-slash-ne47.false in
    c.key_len-len.ensures.none (omega arith) key keys (behind_slash path text key keys first is_path ∙ ap (λ l. l ++ encoded_keys keys) (plain_itself key plain)) is_path.texts.0 plain
