-- Codes are equal where their views are.
use Rattle.std.proofs.Common.{◌≡◌, ◌↔◌, IsTrue, rules}
use Rattle.jsonb_core.specs.Error.CodeView.{code_of}
use Rattle.jsonb_core.specs.contracts.error.ParseErrorCodePartialEq.TheImpl as derived
use Rattle.jsonb_core.specs.declared.error.ParseErrorCode.{ParseErrorCode}

pub codes_equal : (a b : ParseErrorCode) → IsTrue (derived.ghosts.eq a b) ↔ (code_of a ≡ code_of b)
codes_equal a b = search rules
