-- The open containers of the parser.
use Rattle.std.specs.Prelude.{◌≡◌, ◌⊎◌, ℕ, suc, ◌-◌, Bool, true, false, List, [], ◌∷◌, length, Option, Result, Ok, reverse, not, if◌then◌else◌}
use Rattle.jsonb_spec.specs.Ascii as ascii
use Rattle.jsonb_core.specs.declared.error.Error.{Error}
use Rattle.jsonb_spec.specs.Grammar.{max_depth}
use Rattle.jsonb_spec.specs.Mode.{Mode, strictness}
use Rattle.jsonb_spec.specs.Tree.{Tree}
use Rattle.jsonb_spec.specs.Tree.Tree.{null}
use Rattle.text_parse.specs.Handler.{ElseFails}
use Rattle.text_parse.specs.declared.parser.Parser.{Parser}
use Rattle.text_parse.specs.declared.parser.frame.Frame.{Frame}
use Rattle.text_scan.specs.Answer.{grammar_of}
use Rattle.text_parse.specs.Parser.{rest_of, size_of}
use Rattle.jsonb_spec.specs.Parsing.{Parse, begins, ◌>>=◌}
use Rattle.jsonb_spec.specs.Parsing.Container.{is_left_out}
use Rattle.jsonb_spec.specs.Parsing.Scalar.{scalar_at}
use Rattle.jsonb_spec.specs.Parsing.Document.{value_at}
use Rattle.jsonb_spec.specs.Source.{Source, null_source, source_alone}
use Rattle.text_parse.specs.Stack.{array_end, finish_open, next_part_at, object_end, resume}
use Rattle.jsonb_spec.specs.Source.Open.{Open, elements_so_far, members_so_far}
use Rattle.text_parse.specs.Slots.{Fits}

-- an array or an object begins here
abbrev pub OpensContainer : List ℕ → Type 0
OpensContainer bytes = (begins ascii.open_bracket bytes ≡ true) ⊎ (begins ascii.open_brace bytes ≡ true)

-- a value that holds no others, or null where an element is left out
abbrev pub scalar_or_null : ℕ → Mode → List ℕ → Parse Tree
scalar_or_null size mode bytes =
    if is_left_out (strictness mode) bytes then Ok (null, bytes) else scalar_at size mode bytes

-- ---- what is left to parse

-- the container, from after its closing byte on
abbrev pub finish_container : Open → List ℕ → Parse Source
finish_container (elements_so_far ss) rest = array_end ss rest
finish_container (members_so_far fs key offset) rest = object_end fs rest

-- the container, from its end or from the beginning of a part on
abbrev pub resume_part : ℕ → Mode → ℕ → Bool → Open → List ℕ → Parse Source
resume_part size mode depth true c rest = finish_container c rest
resume_part size mode depth false c rest = next_part_at size mode depth c rest

-- the container, from its end or from where a value is due on
abbrev pub resume_value : ℕ → Mode → ℕ → Bool → Open → List ℕ → Parse Source
resume_value size mode depth true c rest = finish_container c rest
resume_value size mode depth false c rest = value_at size mode depth rest >>= finish_open size mode depth c

-- the outermost container, from the end or from a part of the innermost on
abbrev pub resume_stack : ℕ → Mode → ℕ → Bool → List Open → List ℕ → Parse Source
resume_stack size mode depth closed [] rest = Ok (null_source, rest)
resume_stack size mode depth closed (c ∷ cs) rest =
    resume_part size mode depth closed c rest >>= resume size mode (suc depth) cs

-- ---- what a step leaves

-- A scalar was put in, and is what is parsed.
abbrev pub IsPut : {X F : Type 0} → Bool → Option Error → (Source → Type 0) → Result X F → Parse Tree → List ℕ
    → Type 0
IsPut silent reported IsIn result read rest =
    ElseFails silent reported result read (λ _. (t : Tree) × (read ≡ Ok (t, rest)) × IsIn (source_alone t))

-- ---- the containers that are open

-- Each frame fits its container.
abbrev pub AllFit : {I M K : Type 0} → List (Frame I M K) → List Open → Type 0
AllFit [] [] = Unit {0}
AllFit [] (c ∷ cs) = ⊥
AllFit (f ∷ fs) [] = ⊥
AllFit (f ∷ fs) (c ∷ cs) = Fits f c × AllFit fs cs

-- how deep a value may nest inside of these
abbrev pub depth_within : {I M K : Type 0} → List (Frame I M K) → ℕ
depth_within frames = max_depth - length frames

module _ {I M K : Type 0} (Holds : Bool → List (Frame I M K) → List Open → Type 0) where
  -- Parts were parsed, up to the end of the container or up to a part that is a container itself and is due.
  pub record ParsesParts (size : ℕ) (mode : Mode) (depth : ℕ) (whole : Parse Source) (closed : Bool)
      (frame : Frame I M K) (fs : List (Frame I M K)) (cs : List Open) (rest : List ℕ) : Type 0 where
    pub so_far : Open
    pub fits : Fits frame so_far
    pub held : Holds (not closed) (frame ∷ fs) (so_far ∷ cs)
    pub parses : whole ≡ resume_value size mode depth closed so_far rest

  -- With the containers that are open, this is left to parse of the whole. The parser's stack has the outermost first.
  pub record Remains (whole : Parse Source) (due : Bool) (stack : List (Frame I M K)) (left : List Open → Parse Source)
      : Type 0 where
    pub opens : List Open
    pub fit : AllFit (reverse stack) opens
    pub held : Holds due (reverse stack) opens
    pub parses : whole ≡ left opens

  -- A value is due.
  abbrev pub BeforeValue : Parse Source → Parser → List (Frame I M K) → Type 0
  BeforeValue whole p stack =
      Remains whole true stack
      (λ cs. value_at (size_of p) (grammar_of p.grammar) (depth_within stack) (rest_of p) >>= resume (size_of p)
      (grammar_of p.grammar) (depth_within stack) cs)

  -- The innermost container was parsed to its end, or a part of it begins.
  abbrev pub AtPart : Parse Source → Parser → List (Frame I M K) → Bool → Type 0
  AtPart whole p stack closed =
      Remains whole false stack
      (λ cs. resume_stack (size_of p) (grammar_of p.grammar) (depth_within stack) closed cs (rest_of p))

  -- A part of the innermost container begins.
  abbrev pub AtNextPart : Parse Source → Parser → List (Frame I M K) → Type 0
  AtNextPart whole p stack = AtPart whole p stack false

  -- The innermost container was parsed to its end.
  abbrev pub AtEnd : Parse Source → Parser → List (Frame I M K) → Type 0
  AtEnd whole p stack = AtPart whole p stack true

  -- The outermost container was parsed to its end, and no other is open.
  abbrev pub IsParsedToEnd : Parse Source → List (Frame I M K) → List ℕ → Type 0
  IsParsedToEnd whole stack rest = (f : Frame I M K) × (c : Open) × (stack ≡ f ∷ []) × Fits f c
      × Holds false (f ∷ []) (c ∷ []) × (whole ≡ finish_container c rest)
