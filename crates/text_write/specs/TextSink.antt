-- What is in the space that serialized text is written to, while arrays and objects are open.
use Rattle.std.specs.Prelude.{◌≡◌, ℕ, ◌+◌, ◌<◌, Bool, true, false, List, [], ◌∷◌, ◌++◌, length, map, take, slice_range, codes, None}
use Rattle.std.specs.Cow.{cow_str_bytes}
use Rattle.std.specs.declared.alloc.Global.{Global}
use Rattle.std.specs.declared.borrow.CowStr.{CowStr}
use Rattle.std.specs.declared.borrow.CowStr.TheVariants.{Borrowed, Owned}
use Rattle.jsonb_spec.specs.Grammar.StandardNumber.{IsStandardNumber}
use Rattle.jsonb_spec.specs.Ascii as ascii
use Rattle.jsonb_spec.specs.Text.{in_quotes, with_commas}
use Rattle.jsonb_spec.specs.Text.NumberText.{number_text}
use Rattle.jsonb_spec.specs.Text.StringText.{ArePlain, quoted_text}
use Rattle.jsonb_spec.specs.Tree.Mark.{escaped}
use Rattle.jsonb_spec.specs.Tree.{plain}
use Rattle.jsonb_core.specs.View.{mark_view, number_view}
use Rattle.jsonb_spec.specs.Source.Open.{Open, elements_so_far, members_so_far}
use Rattle.jsonb_spec.specs.Source.{Found, Source, null_source, boolean_source, string_source, number_source, first_repeat, sort_by, spot_of}
use Rattle.text_write.specs.Contents.{text_of_contents}
use Rattle.text_members.specs.OpenMembers as opened
use Rattle.text_members.specs.OpenMembers.{AreOf, AreSame, Layout, all_starts}
use Rattle.jsonb_spec.specs.Text.SoFar.{is_empty, member_text, open_text}
use Rattle.jsonb_spec.specs.Text.SourceText.{source_text}
use Rattle.text_write.specs.Written.{bytes_of}
use Rattle.text_write.specs.declared.text.Part.{Part}
use Rattle.text_write.specs.declared.text.Part.TheVariants as part
use Rattle.text_write.specs.declared.text.TextSink.{TextSink}

-- ---- values that hold no others

-- the source of a value that isn't written yet
abbrev pub SeesPart : Part → Source → Type 0
SeesPart part.Null s = s ≡ null_source
SeesPart (part.Bool b) s = s ≡ boolean_source b
SeesPart (part.Number n) s = s ≡ number_source (number_view n)
SeesPart (part.Plain t) s = (s ≡ string_source plain t.now) × ArePlain t.now
SeesPart (part.String t) s = s ≡ string_source (mark_view t) (cow_str_bytes t)
SeesPart (part.Contents c) s = s ≡ string_source escaped (text_of_contents c)
SeesPart part.Written s = ⊥

-- its text
abbrev pub part_text : Part → List ℕ
part_text part.Null = codes "null"
part_text (part.Bool true) = codes "true"
part_text (part.Bool false) = codes "false"
part_text (part.Number n) = number_text (number_view n)
part_text (part.Plain t) = quoted_text t.now
part_text (part.String t) = quoted_text (cow_str_bytes t)
part_text (part.Contents c) = quoted_text (text_of_contents c)
part_text part.Written = []

-- a string without escapes is in double quotes, and nothing is said of others
abbrev pub EncodesString : CowStr Global → List ℕ → Type 0
EncodesString (Borrowed t) bytes = bytes ≡ in_quotes t.now
EncodesString (Owned t) bytes = Unit {0}

-- What is known of bytes that a value was parsed from: a word in small letters, an integer of a standard text, or a
-- string.
abbrev pub Encodes : Part → List ℕ → Type 0
Encodes part.Null bytes = bytes ≡ codes "null"
Encodes (part.Bool true) bytes = bytes ≡ codes "true"
Encodes (part.Bool false) bytes = bytes ≡ codes "false"
Encodes (part.Number n) bytes = IsStandardNumber bytes (number_view n)
Encodes (part.Plain t) bytes = (bytes ≡ in_quotes t.now) × ArePlain t.now
Encodes (part.String t) bytes = EncodesString t bytes
Encodes (part.Contents c) bytes = Unit {0}
Encodes part.Written bytes = Unit {0}

-- The value was parsed from this range of the text, or from none where it is empty.
abbrev pub IsEncoded : List ℕ → ℕ → ℕ → Part → Type 0
IsEncoded text from to p = from < to → Encodes p (slice_range text from to)

-- ---- what is open

-- What is held of an open container: of an array whether it has no items, of an object the index of its first member.
pub data Held : Type 0 where
  items : Bool → Held
  members : ℕ → Held

-- members are with commas between them, behind the brace, and that behind so many bytes
abbrev pub text_layout : ℕ → Layout
text_layout base = record { commas = true; bytes = member_text; begins = λ cs. base + length (open_text true cs) + 1 }

-- whether the next item is the first: none is where a value is due, whose comma is written
abbrev pub none_before : Bool → List Source → Bool
none_before true ss = false
none_before false ss = is_empty ss

-- What is held fits the containers.
abbrev pub HeldFits : ℕ → Bool → List Held → List Open → Type 0
HeldFits base due [] [] = Unit {0}
HeldFits base due (items is_first ∷ held) (elements_so_far ss ∷ cs) =
    (is_first ≡ none_before due ss) × HeldFits base true held cs
HeldFits base due (members first ∷ held) (members_so_far fs key offset ∷ cs) =
    (first ≡ length (all_starts (text_layout base) true cs)) × HeldFits base true held cs
HeldFits base due held cs = ⊥

-- ---- the sink

-- the bytes that the buffer held before
abbrev pub base_of : TextSink → List ℕ
base_of sink = take sink.base sink.written.out.items

-- Behind them these bytes are written, and the members are those of what is open.
pub record IsSinkWith (text : List ℕ) (sink : TextSink) (written : List ℕ)
    (due : Bool) (held : List Held) (cs : List Open) : Type 0 where
  pub text_is : sink.written.text.now ≡ text
  pub bytes : bytes_of sink.written ≡ base_of sink ++ written
  pub members : AreOf (text_layout sink.base) text sink.members due cs
  pub fits : HeldFits sink.base due held cs

-- What is open is written: up to where a value is due, or up to the end of the innermost's last part.
abbrev pub TextHolds : List ℕ → TextSink → Bool → List Held → List Open → Type 0
TextHolds text sink due held cs = IsSinkWith text sink (open_text due cs) due held cs

-- A value is written where one was due.
abbrev pub TextFilled : List ℕ → TextSink → Source → List Held → List Open → Type 0
TextFilled text sink s held cs = IsSinkWith text sink (open_text true cs ++ source_text s) true held cs

-- The sink has these bytes more.
pub record Writes (bytes : List ℕ) (old new : TextSink) : Type 0 where
  pub text : new.written.text.now ≡ old.written.text.now
  pub base : new.base ≡ old.base
  pub before : base_of new ≡ base_of old
  pub written : bytes_of new.written ≡ bytes_of old.written ++ bytes
  pub members : AreSame old.members new.members

-- The sink has these bytes more, and a member with this key and offset that begins at this index.
pub record Begins (bytes key : List ℕ) (offset start : ℕ) (old new : TextSink) : Type 0 where
  pub text : new.written.text.now ≡ old.written.text.now
  pub base : new.base ≡ old.base
  pub before : base_of new ≡ base_of old
  pub written : bytes_of new.written ≡ bytes_of old.written ++ bytes
  pub members : opened.Begins key offset start old.members new.members

-- ---- the end of an object

-- The sink has the members that it had.
pub record PreservesMembers (old new : TextSink) : Type 0 where
  pub text : new.written.text.now ≡ old.written.text.now
  pub base : new.base ≡ old.base
  pub before : base_of new ≡ base_of old
  pub members : AreSame old.members new.members

-- No key of these members comes twice, and their texts are in the order of their keys.
pub record IsSettled (old new : TextSink) (fs : List Found) (cs : List Open) : Type 0 where
  pub written : bytes_of new.written ≡ base_of old
      ++ (open_text true cs ++ ascii.open_brace ∷ with_commas (map member_text (sort_by spot_of fs)))
  pub new_keys : first_repeat (map spot_of fs) ≡ None

-- The closing brace is written, and the members from an index on are held no longer.
pub record Closes (first : ℕ) (old new : TextSink) : Type 0 where
  pub text : new.written.text.now ≡ old.written.text.now
  pub base : new.base ≡ old.base
  pub before : base_of new ≡ base_of old
  pub written : bytes_of new.written ≡ bytes_of old.written ++ ascii.close_brace ∷ []
  pub members : opened.Closes first old.members new.members
