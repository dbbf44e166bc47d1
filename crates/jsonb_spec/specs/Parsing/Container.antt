-- Parts joined by commas, arrays, objects, repeated keys.
use Rattle.std.specs.Prelude.{ℕ, zero, suc, ◌-◌, Bool, false, ◌||◌, List, [], ◌∷◌, length, Option, Some, None, Ok, map, ◌==◌, if◌then◌else◌}
use Rattle.jsonb_spec.specs.Ascii as ascii
use Rattle.jsonb_spec.specs.Mode.{Mode, Strictness, strict, lenient, strictness}
use Rattle.jsonb_spec.specs.Tree.{Mark}
use Rattle.jsonb_spec.specs.Code.{Code, invalid_eof, expected_colon, expected_array_comma_or_end, expected_object_comma_or_end, object_duplicate_key}
use Rattle.jsonb_spec.specs.Source.{Source, null_source, array_source, object_source, no_sources, no_source_members, Found, Spot, found_member, spot_of, first_repeat, array_source_of, object_source_of}
use Rattle.jsonb_spec.specs.Parsing.{Parse, ◌>>=◌, on_byte, fault, reject}
use Rattle.jsonb_spec.specs.Parsing.Whitespace.{skip_whitespace}
use Rattle.jsonb_spec.specs.Parsing.Scalar.{key_at}

-- ---- parts joined by commas, up to the closing byte

module _ {A : Type 0} (size : ℕ) (code : Code) (close : ℕ) (part : List ℕ → Parse A) where
  abbrev pub after_part : (List ℕ → Parse (List A)) → A → List ℕ → Parse (List A)
  after_part others a bytes =
      on_byte ascii.comma bytes (λ rest. others rest >>= λ x. Ok (a ∷ x.0, x.1))
      (on_byte close bytes (λ rest. Ok (a ∷ [], rest)) (reject size code 0 bytes))

  -- The number bounds the parts. One more than the bytes is always enough.
  unfoldable pub joined_at : ℕ → List ℕ → Parse (List A)
  joined_at zero bytes = fault invalid_eof size
  joined_at (suc turns) bytes = part bytes >>= λ x. after_part (joined_at turns) x.0 x.1

-- what is parsed, with the whitespace round it passed
abbrev pub padded_at : {A : Type 0} → Mode → (List ℕ → Parse A) → List ℕ → Parse A
padded_at mode read bytes = read (skip_whitespace mode bytes) >>= λ x. Ok (x.0, skip_whitespace mode x.1)

-- ---- arrays

abbrev pub ends_element : List ℕ → Bool
ends_element [] = false
ends_element (b ∷ bytes) = (b == ascii.comma) || (b == ascii.close_bracket)

-- whether an element is left out here
abbrev pub is_left_out : Strictness → List ℕ → Bool
is_left_out strict bytes = false
is_left_out lenient bytes = ends_element bytes

abbrev pub value_or_null : Strictness → (List ℕ → Parse Source) → List ℕ → Parse Source
value_or_null strictness value bytes = if is_left_out strictness bytes then Ok (null_source, bytes) else value bytes

abbrev pub element_at : Mode → (List ℕ → Parse Source) → List ℕ → Parse Source
element_at mode value = padded_at mode (value_or_null (strictness mode) value)

abbrev pub elements_at : ℕ → Mode → (List ℕ → Parse Source) → List ℕ → Parse Source
elements_at size mode value bytes =
    joined_at size expected_array_comma_or_end ascii.close_bracket (element_at mode value) (suc (length bytes))
    (skip_whitespace mode bytes) >>= λ x. Ok (array_source_of x.0, x.1)

-- an array, from the byte after the bracket on
abbrev pub array_at : ℕ → Mode → (List ℕ → Parse Source) → List ℕ → Parse Source
array_at size mode value bytes =
    on_byte ascii.close_bracket (skip_whitespace mode bytes) (λ rest. Ok (array_source no_sources, rest))
    (elements_at size mode value bytes)

-- ---- objects

abbrev pub found_at : Mark × List ℕ → ℕ → Source × List ℕ → Parse Found
found_at key offset x = Ok (found_member key x.0 offset, x.1)

abbrev pub after_key : ℕ → Mode → (List ℕ → Parse Source) → Mark × List ℕ → ℕ → List ℕ → Parse Found
after_key size mode value key offset bytes =
    on_byte ascii.colon bytes (λ rest. padded_at mode value rest >>= found_at key offset)
    (reject size expected_colon 0 bytes)

abbrev pub member_at : ℕ → Mode → (List ℕ → Parse Source) → List ℕ → Parse Found
member_at size mode value bytes =
    key_at size mode (skip_whitespace mode bytes) >>= λ k. after_key size mode value k.0 (size - length k.1)
    (skip_whitespace mode k.1)

abbrev pub object_or_fault : Option Spot → List Found → List ℕ → Parse Source
object_or_fault None fs rest = Ok (object_source_of fs, rest)
object_or_fault (Some s) fs rest = fault (object_duplicate_key s.key) s.offset

abbrev pub members_at : ℕ → Mode → (List ℕ → Parse Source) → List ℕ → Parse Source
members_at size mode value bytes =
    joined_at size expected_object_comma_or_end ascii.close_brace (member_at size mode value) (suc (length bytes))
    (skip_whitespace mode bytes) >>= λ x. object_or_fault (first_repeat (map spot_of x.0)) x.0 x.1

-- an object, from the byte after the brace on
abbrev pub object_at : ℕ → Mode → (List ℕ → Parse Source) → List ℕ → Parse Source
object_at size mode value bytes =
    on_byte ascii.close_brace (skip_whitespace mode bytes) (λ rest. Ok (object_source no_source_members, rest))
    (members_at size mode value bytes)
