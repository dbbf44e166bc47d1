-- What a run has made of the texts that it has taken.
use Rattle.std.specs.Prelude.{◌≡◌, ◌≢◌, ℕ, Bool, true, false, not, ◌&&◌, List, [], ◌∷◌, ◌++◌, Option, None, Some, MatchBool, MatchOption, Vec, if◌then◌else◌, ⊤}
use Rattle.std.specs.Io.KnownBytes.{Appends}
use Rattle.std.specs.List.{All, AllZip, Any, filter, flat_map, list_all}
use Rattle.std.specs.declared.alloc.Global.{Global}
use Rattle.vjson_text.specs.Texts.{AppendsDifferences, AppendsKeyOf, IsNoTextOf}
use Rattle.vjson_run.specs.Answers.{Answers, IsFound, IsKeyed, LacksSome}
use Rattle.jsonb_spec.specs.Program.Printed.{Prints}
use Rattle.vjson_run.specs.Chosen.{Chooses}
use Rattle.jsonb_spec.specs.Program.Input.{is_blank_line, without_end, without_mark}
use Rattle.vjson_run.specs.InOrder.{AreInOrder, AreInOrderSoFar, is_wrong}
use Rattle.vjson_run.specs.Keys.{IsKeyOf}
use Rattle.vjson_run.specs.Lines.{IsArranged, counts_of, line_text}
use Rattle.vjson_run.specs.Output.{PrintsPart, output}
use Rattle.vjson_run.specs.declared.lines.Line.{Line}
use Rattle.vjson_run.specs.declared.options.Command.{Command}
use Rattle.vjson_run.specs.declared.options.Command.TheVariants.{Sort, Equal}
use Rattle.vjson_run.specs.declared.options.Options.{Options}
use Rattle.vjson_run.specs.declared.session.Session.{Session}
use Rattle.vjson_run.specs.declared.session.Status.{Status}
use Rattle.vjson_run.specs.declared.session.Status.TheVariants.{Yes, No, Trouble}
use Rattle.jsonb_spec.specs.Program.Answer.{Answer}

-- the command answers so
abbrev pub IsAnswer : Options → List ℕ → Answer → Type 0
IsAnswer options text answer = Answers options text answer.yes answer.part

-- The output grew from start to end by what is printed of each text in turn, and good says whether each answer is yes.
pub record AreAnswered (options : Options) (texts : List (List ℕ)) (start end : Option (List ℕ)) (good : Bool) : Type 0
  where
    pub answers : List Answer
    pub each : AllZip (IsAnswer options) texts answers
    pub written : Appends start end (flat_map (λ answer. answer.part) answers)
    pub all : good ≡ list_all (λ answer. answer.yes) answers

-- The line is that of the text, with the key that it is sorted by.
abbrev pub IsLineFor : Options → List ℕ → Line → Type 0
IsLineFor options text line = IsKeyed options text line.key.items line.text.items

-- The lines are those of the texts, in turn, where each text is one of the grammar.
abbrev pub AreLinesFor : Options → List (List ℕ) → List Line → Bool → Type 0
AreLinesFor options texts lines true = AllZip (IsLineFor options) texts lines
AreLinesFor options texts lines false = Any (IsNoTextOf options.grammar) texts

-- whether there is nothing
abbrev pub is_empty : {A : Type 0} → List A → Bool
is_empty [] = true
is_empty (x ∷ xs) = false

-- whether the first line of each key is left alone: `count` has all, and prints how many they are
abbrev pub first_alone : Options → Bool
first_alone options = if options.count then false else options.unique

-- what is printed of the lines in order: each line, or by `count` how often each key is there
abbrev pub sorted_text : Options → List Line → List ℕ
sorted_text options sorted =
    if options.count then counts_of (not (is_empty options.by.items)) sorted else flat_map line_text sorted

-- The output grew from start to end by the lines of the texts in order; or some text is none of the grammar, and
-- nothing is written.
abbrev pub AreSorted : Options → List (List ℕ) → Option (List ℕ) → Option (List ℕ) → Bool → Type 0
AreSorted options texts start end true =
    (lines sorted : List Line) × AllZip (IsLineFor options) texts lines
    × IsArranged options.reverse (first_alone options) lines sorted × Appends start end (sorted_text options sorted)
AreSorted options texts start end false = Any (IsNoTextOf options.grammar) texts × Appends start end []

-- some text is one of the grammar with this key, and each is
abbrev pub SomeHas : Options → List ℕ → List (List ℕ) → Type 0
SomeHas options key texts = Any (λ text. AppendsKeyOf options.grammar text [] key) texts

abbrev pub EachHas : Options → List ℕ → List (List ℕ) → Type 0
EachHas options key texts = All (λ text. AppendsKeyOf options.grammar text [] key) texts

-- The values of the texts are equal: each is one of the grammar, with the same key; or two have different keys.
abbrev pub AreEqual : Options → List (List ℕ) → Bool → Type 0
AreEqual options texts true = (key : List ℕ) × EachHas options key texts
AreEqual options texts false =
    (key other : List ℕ) × (key ≢ other) × SomeHas options key texts × SomeHas options other texts

-- The same of the texts so far, where this is the key of the last one.
abbrev pub AreEqualSoFar : Options → List (List ℕ) → Option (Vec ℕ Global) → Bool → Type 0
AreEqualSoFar options texts last true =
    MatchOption last (texts ≡ []) (λ key. SomeHas options key.items texts × EachHas options key.items texts)
AreEqualSoFar options texts last false = AreEqual options texts false

-- yes, where there was neither a no nor trouble
abbrev pub is_yes : Status → Bool
is_yes Yes = true
is_yes status = false

-- by `sort` without `--check`, where there was neither a no nor trouble
abbrev pub ends_sorted : Command → Bool → Status → Bool
ends_sorted Sort check status = not check && is_yes status
ends_sorted command check status = false

-- after an answer that is no
abbrev pub denied : Status → Status
denied Yes = No
denied status = status

-- the texts of one line: its own, unless it is blank
abbrev pub line_texts : List ℕ → List (List ℕ)
line_texts line = filter (λ text. not (is_blank_line text)) (without_end line ∷ [])

-- All that counts is the same in both sessions, but for what is printed.
pub record IsRetained {W E : Type 0} (s t : Session W E) : Type 0 where
  pub options : t.options ≡ s.options
  pub writer : t.out.writer ≡ s.out.writer
  pub error : t.out.error ≡ s.out.error
  pub status : t.status ≡ s.status
  pub over : t.over ≡ s.over
  pub lines : t.lines.items ≡ s.lines.items
  pub last : t.last ≡ s.last

-- And nothing is printed.
pub record IsSame {W E : Type 0} (s t : Session W E) : Type 0 where
  pub retained : IsRetained s t
  pub bytes : t.out.bytes.items ≡ s.out.bytes.items

-- whether a key differs from that of the text before, if there is one
abbrev pub Differs : Option (Vec ℕ Global) → List ℕ → Bool → Type 0
Differs last key true = (before : Vec ℕ Global) × (last ≡ Some before) × (before.items ≢ key)
Differs last key false = MatchOption last ⊤ (λ before. before.items ≡ key)

-- A line is added, that of the text, and nothing else that counts changes.
pub record AddsLine {W E : Type 0} (text : List ℕ) (s t : Session W E) : Type 0 where
  pub options : t.options ≡ s.options
  pub out : t.out ≡ s.out
  pub status : t.status ≡ s.status
  pub over : t.over ≡ s.over
  pub line : Line
  pub is_line : IsLineFor s.options.now text line
  pub lines : t.lines.items ≡ s.lines.items ++ line ∷ []

-- The text is one of the grammar, with this key, which is the last one now. Where it differs from the one before, the
-- status is no; else nothing that counts changes.
pub record Compares {W E : Type 0} (text : List ℕ) (s t : Session W E) : Type 0 where
  pub options : t.options ≡ s.options
  pub out : t.out ≡ s.out
  pub key : Vec ℕ Global
  pub is_key : AppendsKeyOf s.options.now.grammar text [] key.items
  pub last : t.last ≡ Some key
  pub differs : Bool
  pub found : Differs s.last key.items differs
  pub status : t.status ≡ (if differs then denied s.status else s.status)
  pub over : differs ≡ false → t.over ≡ s.over

-- The text is one of the grammar, with this key, which is the last one now. Where it may not be right behind the one
-- before, the status is no; nothing else that counts changes.
pub record ChecksOrder {W E : Type 0} (text : List ℕ) (s t : Session W E) : Type 0 where
  pub options : t.options ≡ s.options
  pub out : t.out ≡ s.out
  pub over : t.over ≡ s.over
  pub key : Vec ℕ Global
  pub is_key : IsKeyOf s.options.now text key.items
  pub last : t.last ≡ Some key
  pub status : t.status ≡ (if is_wrong s.options.now s.last key.items then denied s.status else s.status)

-- The text's part is printed, or the default; or there is neither, and the status is no.
pub record Gets {W E : Type 0} (s : Session W E) (text : List ℕ) (t : Session W E) : Type 0 where
  pub options : t.options ≡ s.options
  pub writer : t.out.writer ≡ s.out.writer
  pub error : t.out.error ≡ s.out.error
  pub over : t.over ≡ s.over
  pub lines : t.lines.items ≡ s.lines.items
  pub good : Bool
  pub part : MatchBool good
      (Prints (IsFound s.options.now text) s.out.bytes.items t.out.bytes.items × (t.status ≡ s.status))
      (LacksSome s.options.now text × (s.options.now.default ≡ None) × (t.out.bytes.items ≡ s.out.bytes.items)
      × (t.status ≡ denied s.status))

-- The lines on where the text differs from the one that it is compared with are printed; where it does, the status is no.
pub record Tells {W E : Type 0} (s : Session W E) (text : List ℕ) (t : Session W E) : Type 0 where
  pub options : t.options ≡ s.options
  pub writer : t.out.writer ≡ s.out.writer
  pub error : t.out.error ≡ s.out.error
  pub over : t.over ≡ s.over
  pub good : Bool
  pub told : AppendsDifferences s.options.now.grammar (without_mark s.options.now.base.items) text s.out.bytes.items
      t.out.bytes.items good
  pub status : t.status ≡ (if good then s.status else denied s.status)

module _ {W E : Type 0} (contents : W → Option (List ℕ)) where
  -- What the session's command has made of texts, since the output was at start: each is answered; or their lines are
  -- there to be sorted, or they are in order so far, or their keys are compared, and nothing is printed.
  abbrev pub HasMade : Option (List ℕ) → List (List ℕ) → Session W E → Command → Type 0
  HasMade start texts s Sort = MatchBool s.options.now.check
      (AreInOrderSoFar s.options.now texts s.last (is_yes s.status)
      × Appends start (output contents s.out) [] × (s.status ≡ Yes → s.over ≡ false))
      (AreLinesFor s.options.now texts s.lines.items (is_yes s.status)
      × Appends start (output contents s.out) [] × (s.over ≡ false))
  HasMade start texts s Equal = AreEqualSoFar s.options.now texts s.last (is_yes s.status)
      × Appends start (output contents s.out) [] × (s.status ≡ Yes → s.over ≡ false)
  HasMade start texts s command =
      AreAnswered s.options.now texts start (output contents s.out) (is_yes s.status) × (s.over ≡ false)

  -- The session has taken these texts since the output was at start, unless there was trouble or the output failed.
  abbrev pub HasTaken : Option (List ℕ) → List (List ℕ) → Session W E → Type 0
  HasTaken start texts s = s.status ≢ Trouble → s.out.error ≡ None → HasMade start texts s s.options.now.command

  -- After what s had taken, t has taken these texts too.
  abbrev pub Takes : Session W E → List (List ℕ) → Session W E → Type 0
  Takes s texts t = (start : Option (List ℕ)) (before : List (List ℕ)) → HasTaken start before s → HasTaken start (before ++ texts) t

  -- After what s had taken, t has taken those of the texts that aren't left out.
  abbrev pub TakesChosen : Session W E → List (List ℕ) → Session W E → Type 0
  TakesChosen s texts t = (chosen : List ℕ → Bool) → Chooses s.options.now chosen → Takes s (filter chosen texts) t

-- What the command prints of the texts, from start to end of the output, and whether its status is yes.
abbrev pub IsDone : Options → List (List ℕ) → Option (List ℕ) → Option (List ℕ) → Bool → Command → Type 0
IsDone options texts start end good Sort = MatchBool options.check (AreInOrder options texts good × Appends start end [])
    (AreSorted options texts start end good)
IsDone options texts start end good Equal = AreEqual options texts good × Appends start end []
IsDone options texts start end good command = AreAnswered options texts start end good

-- The lines are written in order, as far as the output doesn't fail.
pub record WritesSorted {W E : Type 0} (contents : W → Option (List ℕ)) (s t : Session W E) : Type 0 where
  pub options : t.options ≡ s.options
  pub status : t.status ≡ s.status
  pub sorted : List Line
  pub arranged : IsArranged s.options.now.reverse (first_alone s.options.now) s.lines.items sorted
  pub printed : PrintsPart contents s.out t.out (sorted_text s.options.now sorted)

-- whether lines are sorted at the end: by `sort`, where each text was one of the grammar
abbrev pub sorts : {W E : Type 0} → Session W E → Bool
sorts s = ends_sorted s.options.now.command s.options.now.check s.status
