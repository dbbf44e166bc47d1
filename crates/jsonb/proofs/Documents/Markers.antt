-- A document of an array or an object holds the bracket or the brace that opens it.
use Rattle.std.proofs.Common.{ℕ, zero, suc, List, [], ◌∷◌, ◌++◌, length, Contains, inl, inr, arith, refl, length-append}
use Rattle.std.proofs.lemmas.List.{get_or_at}
use Rattle.jsonb_spec.specs.Grammar.{Derives, IsDocument, max_depth}
use Rattle.jsonb_spec.specs.Grammar.IsDocument.{whitespace_alone, value_alone}
use Rattle.jsonb_spec.specs.Grammar.IsValue.{empty_array, empty_object, full_array, full_object, scalar}
use Rattle.jsonb_spec.specs.Mode.{Mode}
use Rattle.jsonb_spec.specs.Grammar.Scalar.IsLiteral.{false_word, null_word, true_word}
use Rattle.jsonb_spec.specs.Grammar.Scalar.IsScalar.{literal_value, number_value, string_value}
use Rattle.jsonb_spec.specs.Tree.{Tree}
use Rattle.jsonb_spec.specs.Accessors.{IsContainer}
use Rattle.jsonb_spec.specs.Parsing.Memory.{MayAllocate}

contains_at : (front : List ℕ) (b : ℕ) (more : List ℕ) → Contains (front ++ b ∷ more) b
contains_at front b more = (length front, omega (arith, length-append front (b ∷ more)), get_or_at front b more b (length front) refl)

opened_by : (mode : Mode) (depth : ℕ) (core front after : List ℕ) (t : Tree) → Derives mode depth core t → IsContainer t → MayAllocate (front ++ (core ++ after))
opened_by mode zero core front after t (literal_value (null_word w)) is = absurd is
opened_by mode zero core front after t (literal_value (true_word w)) is = absurd is
opened_by mode zero core front after t (literal_value (false_word w)) is = absurd is
opened_by mode zero core front after t (string_value q s) is = absurd is
opened_by mode zero core front after t (number_value n) is = absurd is
opened_by mode (suc depth) core front after t (scalar (literal_value (null_word w))) is = absurd is
opened_by mode (suc depth) core front after t (scalar (literal_value (true_word w))) is = absurd is
opened_by mode (suc depth) core front after t (scalar (literal_value (false_word w))) is = absurd is
opened_by mode (suc depth) core front after t (scalar (string_value q s)) is = absurd is
opened_by mode (suc depth) core front after t (scalar (number_value n)) is = absurd is
opened_by mode (suc depth) core front after t (empty_array {whitespace = bs} b) is = inl (contains_at front 91 ((bs ++ 93 ∷ []) ++ after))
opened_by mode (suc depth) core front after t (full_array {body = body} j n) is = inl (contains_at front 91 ((body ++ 93 ∷ []) ++ after))
opened_by mode (suc depth) core front after t (empty_object {whitespace = bs} b) is = inr (inl (contains_at front 123 ((bs ++ 125 ∷ []) ++ after)))
opened_by mode (suc depth) core front after t (full_object {body = body} j d) is = inr (inl (contains_at front 123 ((body ++ 125 ∷ []) ++ after)))

pub document_opened : (mode : Mode) (bytes : List ℕ) (t : Tree) → IsDocument mode bytes t → IsContainer t → MayAllocate bytes
document_opened mode bytes t (value_alone {before = front} {core = core} {after = after} b s c) is = opened_by mode max_depth core front after t s is
document_opened mode bytes t (whitespace_alone extended_mode b) is = absurd is
