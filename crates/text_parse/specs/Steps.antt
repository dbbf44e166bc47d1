-- What a call of the parser leaves, and what a handler made of it.
use Rattle.std.specs.Prelude.{◌≡◌, ◌⊎◌, ℕ, ◌<◌, ◌≤◌, Bool, true, false, List, ◌∷◌, length, Contains, MatchBool, Ok, Some, Result, IfErr, IfOk, OnOk}
use Rattle.jsonb_spec.specs.Ascii as ascii
use Rattle.jsonb_spec.specs.Code.{Code}
use Rattle.jsonb_spec.specs.Grammar.{max_depth}
use Rattle.jsonb_spec.specs.Mode.{Mode, strictness}
use Rattle.jsonb_spec.specs.Tree.{Mark, Tree}
use Rattle.jsonb_spec.specs.Source.{Source, source_alone}
use Rattle.jsonb_core.specs.declared.error.Error.TheVariants.{OutOfMemory}
use Rattle.text_scan.specs.Answer.{grammar_of}
use Rattle.jsonb_spec.specs.Source.Open.{Open}
use Rattle.jsonb_spec.specs.Parsing.{Parse, begins}
use Rattle.jsonb_spec.specs.Parsing.Container.{is_left_out}
use Rattle.jsonb_spec.specs.Parsing.Whitespace.{skip_whitespace}
use Rattle.text_parse.specs.Frames.{AtPart, IsPut, OpensContainer, ParsesParts, scalar_or_null}
use Rattle.text_parse.specs.Handler.{AsKey, AsScalar, Begins, Builds, ElseFails, IsUnreported, Misses}
use Rattle.text_parse.specs.Parser.{Advances, AdvancesOver, Skips, parse_at, rest_of, size_of}
use Rattle.text_parse.specs.Scalars.{IsGiven}
use Rattle.text_parse.specs.Slots.{Fits, Takes, TakesPart}
use Rattle.text_parse.specs.Stack.{next_part_at, part_end}
use Rattle.text_parse.specs.declared.parser.Parser.{Parser}
use Rattle.text_parse.specs.declared.parser.frame.Frame.{Frame}
use Rattle.text_parse.specs.declared.parser.frame.OpenObject.{OpenObject}
use Rattle.text_parse.specs.declared.parser.handler.Handler.{Ghosts}
use Rattle.text_parse.specs.declared.parser.slot.Given.{Given}

-- After a part its comma was passed, or the closing byte of its container (true).
pub record EndsPart {F : Type 0} (code : Code) (close : ℕ) (result : Result Bool F) (old new : Parser) : Type 0 where
  -- what was returned is what the executable specification says, or the fault is reported
  pub parses : Builds false new.reported (λ x y. x ≡ y) result
      (part_end (size_of old) code close (skip_whitespace (grammar_of old.grammar) (rest_of old))) (rest_of new)
  -- a byte was passed
  pub onward : IfOk result (λ closed. old.offset < new.offset)
  -- the parser has gone on in its input
  pub advances : Advances old new

-- No container begins here.
abbrev pub NoneOpens : Parser → Type 0
NoneOpens p = (begins ascii.open_bracket (rest_of p) ≡ false) × (begins ascii.open_brace (rest_of p) ≡ false)

module _ {V R I M K : Type 0} (h : Ghosts V R I M K) where
  -- ---- scalars

  -- A scalar is made of what this function parses, and isn't put in yet.
  pub record MakesScalar {F : Type 0} (read : ℕ → Mode → List ℕ → Parse Tree) (result : Result V F) (old new : Parser)
      : Type 0 where
    -- What was made is of the tree that is parsed, or what was reported is the fault.
    pub parses : Builds h.silent new.reported (AsScalar h.sees) result (parse_at read old) (rest_of new)
    -- Memory runs out only where the text has a backslash.
    pub memory : IfErr result (λ _. new.reported ≡ Some OutOfMemory → Contains old.buf.now ascii.backslash)
    -- the parser has gone on in its input
    pub advances : Advances old new

  -- The value of the text was given, and is of this source.
  abbrev pub IsRoot : Given V → List ℕ → Source → Type 0
  IsRoot root text s = IsGiven h.sees h.is_verbatim root.value root.from root.to text s

  -- A value of a source of which this holds was put in, and the parser stays; or memory ran out, or nothing was
  -- reported.
  pub record PutsIn {X F : Type 0} (Is : List ℕ → Source → Type 0) (result : Result X F) (old new : Parser)
      (sink filled : R) (IsIn : List ℕ → Source → Type 0) (writes : Bool) : Type 0 where
    -- the source is in
    pub put : OnOk result (Takes Is IsIn)
    -- the parser stays
    pub same : OnOk result (new ≡ old)
    -- a failure is want of memory, or nothing was reported of it
    pub reported : IfErr result (λ _. IsUnreported h.silent new.reported)
    -- Memory runs out only where the slot takes some.
    pub memory : IfErr result (λ _. new.reported ≡ Some OutOfMemory → writes ≡ true)
    -- the input is the same, and so is what was in the sink before the text
    pub advances : AdvancesOver h.base old new sink filled

  -- A scalar that this function parses was put in.
  pub record Puts {X F : Type 0} (read : ℕ → Mode → List ℕ → Parse Tree) (result : Result X F)
      (old new : Parser) (sink filled : R) (IsIn : List ℕ → Source → Type 0) (writes : Bool) : Type 0 where
    -- the scalar is in, or what was reported is its fault
    pub parses : IsPut h.silent new.reported (IsIn old.buf.now) result (parse_at read old) (rest_of new)
    -- Memory runs out only where the text has a backslash, or the slot takes some.
    pub memory : IfErr result (λ _. new.reported ≡ Some OutOfMemory → Contains old.buf.now ascii.backslash
        ⊎ (writes ≡ true))
    -- the parser has gone on, and what was in the sink before the text stays
    pub advances : AdvancesOver h.base old new sink filled

  -- A container begins here, and nothing was put in.
  pub record StopsAt (start new : Parser) (sink filled : R) (before after : Frame I M K) : Type 0 where
    pub stays : new ≡ start
    pub same_sink : filled ≡ sink
    pub same_frame : after ≡ before
    pub opens : OpensContainer (rest_of start)
    pub is_there : is_left_out (strictness (grammar_of start.grammar)) (rest_of start) ≡ false

  -- A scalar that this function parses here was put in.
  pub record PutsThere (read : ℕ → Mode → List ℕ → Parse Tree) (start new : Parser) (sink filled : R)
      (before after : Frame I M K) : Type 0 where
    pub none_opens : NoneOpens start
    pub tree : Tree
    pub parses : parse_at read start ≡ Ok (tree, rest_of new)
    pub put : TakesPart h.holds sink before filled after start.buf.now (source_alone tree)

  -- A scalar that this function parses was put in, or the parser stops where a container begins (true).
  pub record PutsOrStops {F : Type 0} (read : ℕ → Mode → List ℕ → Parse Tree) (result : Result Bool F)
      (start new : Parser) (sink filled : R) (before after : Frame I M K) : Type 0 where
    pub puts : IfOk result (λ is_inner. MatchBool is_inner (StopsAt start new sink filled before after)
        (PutsThere read start new sink filled before after))
    -- what was reported is the fault of a value that is no container
    pub fails : IfErr result (λ _. NoneOpens start × Misses h.silent new.reported (parse_at read start))

  -- The next element of an array was put in, behind whitespace; or the parser stops where a container begins (true).
  pub record PutsNext {F : Type 0} (result : Result Bool F) (old new : Parser) (sink filled : R)
      (before after : Frame I M K) : Type 0 where
    -- the parser behind the whitespace
    pub start : Parser
    pub skips : Skips skip_whitespace old start
    -- the element is what is parsed there
    pub element : PutsOrStops scalar_or_null result start new sink filled before after
    -- the parser has gone on, and what was in the sink before the text stays
    pub advances : AdvancesOver h.base old new sink filled

  -- ---- keys

  -- A member began with the key that this function parses, and its value is due.
  pub record BeginsWith {F : Type 0} (read : ℕ → Mode → List ℕ → Parse (Mark × List ℕ)) (result : Result K F)
      (old new : Parser) (sink begun : R) (object more : OpenObject M K) : Type 0 where
    -- a member with the key that is parsed waits for its value, or what was reported is the fault
    pub parses : Builds h.silent new.reported
        (AsKey (Begins (h.holds old.buf.now) sink object begun more) (size_of old) (rest_of new)) result
        (parse_at read old) (rest_of new)
    -- the parser has gone on, and what was in the sink before the text stays
    pub advances : AdvancesOver h.base old new sink begun

  -- ---- arrays and objects

  -- Parts of an open container are parsed, up to its end, or up to one that is a container. True at the end.
  pub record FillsFrame {F : Type 0} (result : Result Bool F) (old new : Parser) (sink filled : R)
      (frame more : Frame I M K) : Type 0 where
    -- What is left to parse is what the executable specification parses from there on, or what was reported is its
    -- fault.
    pub parses : (depth : ℕ) → (c : Open) → (fs : List (Frame I M K)) → (cs : List Open) → Fits frame c
        → h.holds old.buf.now sink false (frame ∷ fs) (c ∷ cs)
        → ElseFails h.silent new.reported result
        (next_part_at (size_of old) (grammar_of old.grammar) depth c (rest_of old))
        (λ closed. ParsesParts (h.holds old.buf.now filled) (size_of old) (grammar_of old.grammar) depth
        (next_part_at (size_of old) (grammar_of old.grammar) depth c (rest_of old)) closed more fs cs (rest_of new))
    -- A closing byte was passed, or a container opens here.
    pub onward : IfOk result (λ closed. MatchBool closed (old.offset < new.offset) (Unit {0}))
    -- where the container did not end, another opens here
    pub opens : IfOk result (λ closed. MatchBool closed (Unit {0}) (OpensContainer (rest_of new)))
    -- the parser has gone on, and what was in the sink before the text stays
    pub advances : AdvancesOver h.base old new sink filled

  -- A step of the loop over the open containers, from where this is left to parse: up to where a container was parsed
  -- to its end (true), or where a part of one begins.
  pub record Turns {F : Type 0}
      (Before : (Bool → List (Frame I M K) → List Open → Type 0) → Parse Source → Parser → List (Frame I M K) → Type 0)
      (result : Result Bool F) (old new : Parser) (sink after : R) (stack more : List (Frame I M K)) : Type 0 where
    -- The whole is what the containers that are open have and what is left to parse, or what was reported is its fault.
    pub parses : (whole : Parse Source) → Before (h.holds old.buf.now sink) whole old stack
        → ElseFails h.silent new.reported result whole (AtPart (h.holds old.buf.now after) whole new more)
    -- So the loop ends.
    pub onward : IfOk result (λ closed. old.offset < new.offset)
    -- No more are open than may be, and one is.
    pub depth : IfOk result (λ closed. length more ≤ max_depth)
    -- one is open
    pub some : IfOk result (λ closed. 0 < length more)
    -- the parser has gone on, and what was in the sink before the text stays
    pub advances : AdvancesOver h.base old new sink after
