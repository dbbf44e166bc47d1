use Rattle.std.proofs.Common.{◌≡◌}
use Rattle.jsonb_spec.specs.Grammar.{IsNoDocument}
use Rattle.jsonb_spec.specs.Mode.{standard}
use Rattle.bench_calls.proofs.jsonb_bench_check.Given as goal

-- No round has gone well, where the text is no document.
abbrev pub invariant-loop-round : goal.invariant-loop-round
invariant-loop-round l = IsNoDocument standard l.text → l.round ≡ 0
