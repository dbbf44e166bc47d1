-- What is held of a text while it is written to a sink, or only checked.
use Rattle.std.specs.Prelude.{ℕ, List, Option, Some, None}
use Rattle.text_parse.specs.declared.parser.frame.Frame.{Frame}
use Rattle.text_parse.specs.declared.parser.frame.Frame.TheVariants as frames
use Rattle.jsonb_spec.specs.Source.{Source}
use Rattle.text_write.specs.KeySink as key
use Rattle.text_write.specs.TextSink.{IsEncoded, SeesPart}
use Rattle.text_write.specs.declared.text.Part.{Part}
use Rattle.text_common.specs.VerbatimScalar.{IsVerbatimAt}
use Rattle.text_common.specs.declared.verbatim.Verbatim.{Verbatim}

-- what is held of an open container, from what is held of an array and of an object
abbrev pub held_by : {I M K H : Type 0} → (I → H) → (M → H) → Frame I M K → H
held_by of_items of_members (frames.Array items) = of_items items
held_by of_items of_members (frames.Object o) = of_members o.members

-- of a check: nothing of an array, of an object the index of its first member
abbrev pub key_held : {I K : Type 0} → Frame I ℕ K → key.Held
key_held (frames.Array items) = key.items
key_held (frames.Object o) = key.members o.members

-- of a check: a value is any value
abbrev pub IsAnyValue : {V : Type 0} → V → Source → Type 0
IsAnyValue v s = Unit {0}

-- The scalar that isn't written yet is of this source, or is there in the text.
abbrev pub IsScalarAt : Part → Option Verbatim → ℕ → ℕ → List ℕ → Source → Type 0
IsScalarAt part None from to text s = SeesPart part s × IsEncoded text from to part
IsScalarAt part (Some verbatim) from to text s = IsVerbatimAt verbatim text from to s
