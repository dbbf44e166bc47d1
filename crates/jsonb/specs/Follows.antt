-- What a call returns that parses a whole text, by the executable specification.
use Rattle.std.specs.Prelude.{ℕ, List, Result, IfErr}
use Rattle.jsonb_spec.specs.Mode.{Mode}
use Rattle.jsonb_spec.specs.Tree.{Tree}
use Rattle.jsonb_core.specs.declared.error.Error.{Error}
use Rattle.text_scan.specs.Answer.{Fails, Gives}
use Rattle.jsonb_spec.specs.Parsing.Document.{document_of}
use Rattle.jsonb.specs.Explained.{IsExplained}

-- What is returned, seen by view, is what the executable specification gives, and so are the code and the offset of an
-- error, unless memory ran out. The text has there what the code says.
pub record FollowsSpecification {V : Type 0} (mode : Mode) (view : V → Tree) (text : List ℕ) (result : Result V Error) : Type 0 where
  pub exact : Gives view result (document_of mode text)
  pub explained : IfErr result (IsExplained mode text)

-- The code and the offset of an error are those of the executable specification, unless memory ran out. The text has
-- there what the code says.
pub record FailsAsSpecified {X : Type 0} (mode : Mode) (text : List ℕ) (result : Result X Error) : Type 0 where
  pub exact : IfErr result (λ e. Fails e (document_of mode text))
  pub explained : IfErr result (IsExplained mode text)
