-- Where a buffer has no space, from what the library says of its calls.
use Rattle.std.proofs.Common.{◌≡◌, ◌⊎◌, inl, inr, ℕ, ◌+◌, ◌<◌, List, length, Some, None}
use Rattle.jsonb.proofs.Documents.Straight.{text_there}
use Rattle.jsonb_spec.specs.Parsing.Appends.{LacksCapacityForKey, LacksCapacityForText}
use Rattle.jsonb_spec.specs.SortKey.{key_of}
use Rattle.jsonb_spec.specs.Text.{text_of, tree_text}
use Rattle.jsonb_spec.specs.Tree.{Tree}
use Rattle.jsonb_core.specs.declared.error.Error.{Error}
use Rattle.jsonb_core.specs.declared.error.Error.TheVariants.{OutOfMemory, UnexpectedType}
use Rattle.text_scan.specs.Answer.{grammar_of}
use Rattle.jsonb_spec.specs.Parsing.Memory.{MayAllocate}
use Rattle.text_scan.specs.declared.parser.Grammar.{Grammar}
use Rattle.vjson_text.specs.Memory.{LacksSpace}
use Rattle.vjson_text.specs.Texts.{IsTextOf}

pub text_lacks : (g : Grammar) (text : List ℕ) (capacity len : ℕ) → MayAllocate text ⊎ LacksCapacityForText (grammar_of g) text capacity len → MayAllocate text ⊎ LacksSpace g tree_text text capacity len
text_lacks g text capacity len (inl may) = inl may
text_lacks g text capacity len (inr lacks) = inr (record { tree = lacks.tree; is_text = lacks.document; too_short = lacks.too_short })

pub key_lacks : (g : Grammar) (text : List ℕ) (capacity len : ℕ) → MayAllocate text ⊎ LacksCapacityForKey (grammar_of g) text capacity len → MayAllocate text ⊎ LacksSpace g key_of text capacity len
key_lacks g text capacity len (inl may) = inl may
key_lacks g text capacity len (inr lacks) = inr (record { tree = lacks.tree; is_text = lacks.document; too_short = lacks.too_short })

none_there : (t : Tree) (bytes : List ℕ) → text_of t ≡ None → text_of t ≡ Some bytes → ⊥
none_there t bytes none some = cc

-- a document's value has a text, so where it isn't written over lines the space is missing
pub lines_lack : (g : Grammar) (made : Tree → List ℕ) (text : List ℕ) (t : Tree) (capacity len : ℕ) (e : Error) → IsTextOf g text t → (e ≡ UnexpectedType) ⊎ (e ≡ OutOfMemory) → (e ≡ UnexpectedType → text_of t ≡ None)
    → (e ≡ OutOfMemory → capacity < len + length (made t)) → LacksSpace g made text capacity len
lines_lack g made text t capacity len e is_text (inl no_text) none full = absurd (none_there t (tree_text t) (none no_text) (text_there (grammar_of g) text t is_text))
lines_lack g made text t capacity len e is_text (inr lack) none full = record { tree = t; is_text = is_text; too_short = full lack }
