-- Parsing by the open containers: what remains once a value inside them was parsed.
use Rattle.std.specs.Prelude.{ℕ, zero, suc, ◌-◌, Bool, true, false, List, [], ◌∷◌, ◌++◌, length, Ok, map}
use Rattle.jsonb_spec.specs.Ascii as ascii
use Rattle.jsonb_spec.specs.Code.{Code}
use Rattle.jsonb_spec.specs.Code.Code.{expected_array_comma_or_end, expected_colon, expected_object_comma_or_end}
use Rattle.jsonb_spec.specs.Mode.{Mode}
use Rattle.jsonb_spec.specs.Tree.{Mark}
use Rattle.jsonb_spec.specs.Source.Open.{Open, add_part, elements_so_far, members_so_far}
use Rattle.jsonb_spec.specs.Source.{Source, Found, spot_of, first_repeat, array_source_of}
use Rattle.jsonb_spec.specs.Parsing.{Parse, on_byte, reject, ◌>>=◌}
use Rattle.jsonb_spec.specs.Parsing.Whitespace.{skip_whitespace}
use Rattle.jsonb_spec.specs.Parsing.Container.{array_at, element_at, joined_at, member_at, object_at, object_or_fault}
use Rattle.jsonb_spec.specs.Parsing.Document.{too_deep, value_at}
use Rattle.jsonb_spec.specs.Parsing.Scalar.{key_at}

-- ---- parts joined by commas, after those that were parsed

module _ {A : Type 0} (size : ℕ) (code : Code) (close : ℕ) (part : List ℕ → Parse A)
    (finish : List A → List ℕ → Parse Source) where
  -- from the beginning of a part on
  abbrev pub parts_from : List A → List ℕ → Parse Source
  parts_from front bytes = joined_at size code close part (suc (length bytes)) bytes >>= λ x. finish (front ++ x.0) x.1

  -- from the end of a part on
  abbrev pub parts_after : List A → List ℕ → Parse Source
  parts_after front bytes =
      on_byte ascii.comma bytes (parts_from front) (on_byte close bytes (finish front) (reject size code 0 bytes))

-- the comma after a part, or the closing byte
abbrev pub part_end : ℕ → Code → ℕ → List ℕ → Parse Bool
part_end size code close bytes =
    on_byte ascii.comma bytes (λ rest. Ok (false, rest)) (on_byte close bytes (λ rest. Ok (true, rest))
    (reject size code 0 bytes))

abbrev pub array_end : List Source → List ℕ → Parse Source
array_end ss rest = Ok (array_source_of ss, rest)

abbrev pub object_end : List Found → List ℕ → Parse Source
object_end fs rest = object_or_fault (first_repeat (map spot_of fs)) fs rest

-- a key with its colon, the offset after the key, and what comes after the whitespace after the colon
abbrev pub member_start : ℕ → Mode → List ℕ → Parse ((Mark × List ℕ) × ℕ)
member_start size mode bytes =
    key_at size mode (skip_whitespace mode bytes) >>= λ k. on_byte ascii.colon (skip_whitespace mode k.1)
    (λ rest. Ok ((k.0, size - length k.1), skip_whitespace mode rest))
    (reject size expected_colon 0 (skip_whitespace mode k.1))

module _ (size : ℕ) (mode : Mode) (depth : ℕ) where
  abbrev pub elements_from : List Source → List ℕ → Parse Source
  elements_from =
      parts_from size expected_array_comma_or_end ascii.close_bracket (element_at mode (value_at size mode depth))
      array_end

  abbrev pub object_members_from : List Found → List ℕ → Parse Source
  object_members_from =
      parts_from size expected_object_comma_or_end ascii.close_brace (member_at size mode (value_at size mode depth))
      object_end

  -- the rest of a container, from the end of a part on
  abbrev pub resume_after_part : Open → List ℕ → Parse Source
  resume_after_part (elements_so_far front) =
      parts_after size expected_array_comma_or_end ascii.close_bracket (element_at mode (value_at size mode depth))
      array_end front
  resume_after_part (members_so_far front key offset) =
      parts_after size expected_object_comma_or_end ascii.close_brace (member_at size mode (value_at size mode depth))
      object_end
      front

  -- the container, once the value that it waits for was parsed
  abbrev pub finish_open : Open → Source × List ℕ → Parse Source
  finish_open c x = resume_after_part (add_part c x.0) (skip_whitespace mode x.1)

-- The outermost value, once the value that the innermost container waits for was parsed. The innermost container comes
-- first, and the number is how deep what is in it may nest.
unfoldable pub resume : ℕ → Mode → ℕ → List Open → Source × List ℕ → Parse Source
resume size mode depth [] x = Ok x
resume size mode depth (c ∷ cs) x = finish_open size mode depth c x >>= resume size mode (suc depth) cs

-- an array, from the byte after the bracket on, where arrays and objects may nest this deep
abbrev pub array_within : ℕ → Mode → ℕ → List ℕ → Parse Source
array_within size mode zero = too_deep size
array_within size mode (suc depth) = array_at size mode (value_at size mode depth)

-- an object, from the byte after the brace on
abbrev pub object_within : ℕ → Mode → ℕ → List ℕ → Parse Source
object_within size mode zero = too_deep size
object_within size mode (suc depth) = object_at size mode (value_at size mode depth)

-- the container from the beginning of a part on
abbrev pub next_part_at : ℕ → Mode → ℕ → Open → List ℕ → Parse Source
next_part_at size mode depth (elements_so_far front) bytes = elements_from size mode depth front bytes
next_part_at size mode depth (members_so_far front key offset) bytes = object_members_from size mode depth front bytes
