use Rattle.std.proofs.Common.{◌≡◌}
use Rattle.jsonb_spec.specs.Grammar.{IsDocument}
use Rattle.jsonb_spec.specs.Mode.{standard}
use Rattle.jsonb_spec.specs.Tree.{Tree}
use Rattle.bench_calls.proofs.jsonb_bench_reject.Given as goal

-- No round has rejected the text, where it is a document.
abbrev pub invariant-loop-round : goal.invariant-loop-round
invariant-loop-round l = (t : Tree) → IsDocument standard l.text t → l.round ≡ 0
