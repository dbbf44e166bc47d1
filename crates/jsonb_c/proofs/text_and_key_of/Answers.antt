use Rattle.std.proofs.Common.{inr, subst}
use Rattle.std.proofs.lemmas.Result.{err_from_is_err_and}
use Rattle.jsonb_spec.specs.Interface.{IsKeyOf}
use Rattle.jsonb_c.specs.Interface.{IsReason, IsRejected}
use Rattle.jsonb_c.proofs.Keys.{key_of_form}
use Rattle.jsonb_c.proofs.Texts.{form_reason}
use Rattle.jsonb_c.proofs.text_and_key_of.Goals as goal

pub returns-clause-key : goal.returns-clause-key
returns-clause-key c =
    key_of_form c.args.mode c.args.text.now c.in_ok-bytes.bytes.items c.in_ok-key.key.items c.in_ok-bytes.ensures.text
    (subst (λ form. IsKeyOf c.args.mode form c.in_ok-key.key.items) c.deref.ensures.value c.in_ok-key.ensures.key)

pub returns-in_err-key-clause-fails : goal.returns-in_err-key-clause-fails
returns-in_err-key-clause-fails c =
    let residual = err_from_is_err_and c.from_residual-in_err-key.result c.from_residual-in_err-key.ensures.1 in
    record {
      reason = rw (residual.1, residual.2) (form_reason c.args.mode c.args.text.now c.in_ok-bytes.bytes.items c.in_err-key.field-0.0 c.in_ok-bytes.ensures.text
          (subst (λ form. IsReason c.args.mode (IsRejected c.args.mode form 1) c.in_err-key.field-0.0) c.deref.ensures.value c.in_err-key.ensures.fails.reason));
      memory = λ is. inr (record { tree = c.in_ok-bytes.ensures.text.tree; read = c.in_ok-bytes.ensures.text.read });
    }
