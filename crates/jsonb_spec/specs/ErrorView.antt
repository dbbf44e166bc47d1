-- Errors, independent of representation.
use Rattle.std.specs.Prelude.{ℕ, List, ⊤}
use Rattle.jsonb_spec.specs.Code.{Code, NamesNoKey}

-- an error, with its message, or with the code and the position of a fault of a text
pub data ErrorView : Type 0 where
  invalid_utf8 : ErrorView
  invalid_eof : ErrorView
  invalid_token : ErrorView
  invalid_cast : ErrorView
  invalid_json : ErrorView
  invalid_jsonb : ErrorView
  invalid_jsonb_header : ErrorView
  invalid_jsonb_jentry : ErrorView
  invalid_jsonb_number : ErrorView
  invalid_jsonb_extension : ErrorView
  invalid_json_path : ErrorView
  invalid_json_path_predicate : ErrorView
  invalid_key_path : ErrorView
  invalid_json_type : ErrorView
  invalid_object : ErrorView
  object_duplicate_key : ErrorView
  unexpected_type : ErrorView
  message : List ℕ → ErrorView
  syntax : Code → ℕ → ErrorView
  out_of_memory : ErrorView

-- it holds no text, so that a copy takes no memory
abbrev pub HoldsNoText : ErrorView → Type 0
HoldsNoText (message text) = ⊥
HoldsNoText (syntax code offset) = NamesNoKey code
HoldsNoText error = ⊤
