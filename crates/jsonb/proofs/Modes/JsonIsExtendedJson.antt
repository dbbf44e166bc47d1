-- Each document of JSON is one of extended JSON, of the same tree.
use Rattle.std.proofs.Common.{◌≡◌, ℕ, List, Bool, true, false, cond, eqb, eqb-true, Some, None, refl, ap, inl, map}
use Rattle.std.specs.Char.{to_ascii_lowercase}
use Rattle.jsonb_spec.specs.Grammar.{IsDocument}
use Rattle.jsonb_spec.specs.Grammar.Scalar.{IsLiteral, null_word, true_word, false_word}
use Rattle.jsonb_spec.specs.Grammar.StringBody.{Item, raw, escape, unit, escaped_byte, IsItem, standard_escape}
use Rattle.jsonb_spec.specs.Mode.{json, extended_json, strict, lenient}
use Rattle.jsonb_spec.specs.Tree.{Tree}
use Rattle.jsonb.proofs.Modes.LeafByLeaf.{HasLeaves, same_document}

-- what a backslash and a letter mean in a strict mode, they mean in a lenient one
same_escape : (letter byte : ℕ) → escaped_byte strict letter ≡ Some byte → escaped_byte lenient letter ≡ Some byte
same_escape letter byte is = picked (eqb letter 39) (eqb-true letter 39)
  where
    picked : (b : Bool) → (b ≡ true → letter ≡ 39) → cond b (Some 39) (standard_escape letter) ≡ Some byte
    picked true quote = let none : escaped_byte strict letter ≡ None = ap (escaped_byte strict) (quote refl) in cc
    picked false quote = is

same_item : (item : Item) → IsItem json item → IsItem extended_json item
same_item (raw byte) is = (is.0, tt)
same_item (escape letter byte) is = same_escape letter byte is
same_item (unit braces digits) is = (is.0, is.1, λ _. tt)

same_literal : (bytes : List ℕ) (t : Tree) → IsLiteral json bytes t → IsLiteral extended_json bytes t
same_literal bytes t (null_word w) = null_word (ap (map to_ascii_lowercase) w)
same_literal bytes t (true_word w) = true_word (ap (map to_ascii_lowercase) w)
same_literal bytes t (false_word w) = false_word (ap (map to_ascii_lowercase) w)

leaves : HasLeaves json extended_json
leaves = record {
  lenient = λ never. cc;
  beyond = λ never. tt;
  quote = λ byte is. inl is;
  item = same_item;
  literal = same_literal;
}

pub json_is_extended_json : (bytes : List ℕ) (t : Tree) → IsDocument json bytes t → IsDocument extended_json bytes t
json_is_extended_json = same_document json extended_json leaves (λ bytes x is. inl is.1)
