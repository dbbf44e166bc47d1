use Rattle.std.proofs.Common.{◌≡◌, ◌++◌, Some, sym, subst, arith}
use Rattle.jsonb_spec.specs.Path.{encoded_key}
use Rattle.jsonb_spec.specs.Path.KeyEncoding.{byte_of}
use Rattle.jsonb_path.proofs.KeyEncoding.{next_byte}
use Rattle.jsonb_path.proofs.keys.read_key.Goals as goal

pub bytes-preserved : goal.bytes-preserved
bytes-preserved c =
    let text = c.args.text.now in
    let more = c.in-Some.more.now in
    let read : byte_of c.bytes.rest.now ≡ Some (c.in-Some.byte, more) = sym c.in-Some.ensures.byte in
    let next = next_byte text c.bytes.key.items c.bytes.rest.now more c.in-Some.byte c.bytes.invariant.0 read in (
      subst (λ key. text ≡ encoded_key key ++ more) (sym c.in_ok-push.ensures.items) next,
      omega (arith, c.in-Some.ensures.shorter, c.bytes.invariant.1),
    )
