-- Errors are equal where their views are: by cases on the variants, with equality of codes as a lemma.
use Rattle.std.proofs.Common.{◌≡◌, ◌↔◌, ℕ, ◌==◌, ◌&&◌, Bool, IsTrue, rules}
use Rattle.jsonb_spec.specs.Code.{Code}
use Rattle.jsonb_core.specs.Error.CodeView.{code_of}
use Rattle.jsonb_core.specs.Error.ErrorView.{error_view}
use Rattle.jsonb_spec.specs.ErrorView.{syntax}
use Rattle.jsonb_core.specs.contracts.error.ErrorPartialEq.TheImpl as derived
use Rattle.jsonb_core.specs.contracts.error.ParseErrorCodePartialEq.TheImpl as derived_code
use Rattle.jsonb_core.specs.contracts.error.ErrorHash.TheImpl.Laws as hash_laws
use Rattle.jsonb_core.specs.declared.error.Error.{Error}
use Rattle.jsonb_core.specs.declared.error.Error.TheVariants as variants
use Rattle.jsonb_core.specs.declared.error.ParseErrorCode.{ParseErrorCode}
use Rattle.jsonb_core.proofs.ErrorCodes.{codes_equal}
use Rattle.jsonb_core.proofs.error.errors_compare_by_parts.Goals as goal

pair_equal : (t u : Code) (e : Bool) (p q : ℕ) → (IsTrue e ↔ t ≡ u) → IsTrue (e && (p == q)) ↔ (syntax t p ≡ syntax u q)
pair_equal t u e p q h = search rules

faults_equal : (code : ParseErrorCode) (offset : ℕ) (r : Error) → IsTrue (derived.ghosts.eq (variants.Syntax code offset) r) ↔ (error_view (variants.Syntax code offset) ≡ error_view r)
faults_equal code offset variants.InvalidUtf8 = search rules
faults_equal code offset variants.InvalidEOF = search rules
faults_equal code offset variants.InvalidToken = search rules
faults_equal code offset variants.InvalidCast = search rules
faults_equal code offset variants.InvalidJson = search rules
faults_equal code offset variants.InvalidJsonb = search rules
faults_equal code offset variants.InvalidJsonbHeader = search rules
faults_equal code offset variants.InvalidJsonbJEntry = search rules
faults_equal code offset variants.InvalidJsonbNumber = search rules
faults_equal code offset variants.InvalidJsonbExtension = search rules
faults_equal code offset variants.InvalidJsonPath = search rules
faults_equal code offset variants.InvalidJsonPathPredicate = search rules
faults_equal code offset variants.InvalidKeyPath = search rules
faults_equal code offset variants.InvalidJsonType = search rules
faults_equal code offset variants.InvalidObject = search rules
faults_equal code offset variants.ObjectDuplicateKey = search rules
faults_equal code offset variants.UnexpectedType = search rules
faults_equal code offset (variants.Message m) = search rules
faults_equal code offset (variants.Syntax other q) = pair_equal (code_of code) (code_of other) (derived_code.ghosts.eq code other) offset q (codes_equal code other)
faults_equal code offset variants.OutOfMemory = search rules

errors_equal : (l r : Error) → IsTrue (derived.ghosts.eq l r) ↔ (error_view l ≡ error_view r)
errors_equal variants.InvalidUtf8 r = search rules
errors_equal variants.InvalidEOF r = search rules
errors_equal variants.InvalidToken r = search rules
errors_equal variants.InvalidCast r = search rules
errors_equal variants.InvalidJson r = search rules
errors_equal variants.InvalidJsonb r = search rules
errors_equal variants.InvalidJsonbHeader r = search rules
errors_equal variants.InvalidJsonbJEntry r = search rules
errors_equal variants.InvalidJsonbNumber r = search rules
errors_equal variants.InvalidJsonbExtension r = search rules
errors_equal variants.InvalidJsonPath r = search rules
errors_equal variants.InvalidJsonPathPredicate r = search rules
errors_equal variants.InvalidKeyPath r = search rules
errors_equal variants.InvalidJsonType r = search rules
errors_equal variants.InvalidObject r = search rules
errors_equal variants.ObjectDuplicateKey r = search rules
errors_equal variants.UnexpectedType r = search rules
errors_equal (variants.Message m) r = search rules
errors_equal (variants.Syntax code offset) r = faults_equal code offset r
errors_equal variants.OutOfMemory r = search rules

pub returns-clause-equal : goal.returns-clause-equal
returns-clause-equal c = errors_equal c.args.left.now c.args.right.now

pub returns-clause-hash : goal.returns-clause-hash
returns-clause-hash c = λ same. hash_laws.respects_eq-law c.args.left.now c.args.right.now ((errors_equal c.args.left.now c.args.right.now).1 same)
