use Rattle.std.proofs.Common.{ap, refl, sym, ◌∙◌}
use Rattle.jsonb_spec.specs.Path.KeyEncoding.{byte_of}
use Rattle.jsonb_path.proofs.PlainKeys.{ascii_key}
use Rattle.jsonb_path.proofs.keys.key_len.Goals as goal

pub returns-then-is_ended-clause-plain : goal.returns-then-is_ended-clause-plain
returns-then-is_ended-clause-plain c =
    λ within. ascii_key c.args.text.now c.ascii_len-len.result c.ascii_len-len.ensures (ap byte_of (sym c.split_at.ensures.back) ∙ c.if-is_ended.ensures refl)
