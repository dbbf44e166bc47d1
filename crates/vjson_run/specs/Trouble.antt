-- What a run may end in trouble for: a text, and what is left to do at its end.
use Rattle.std.specs.Prelude.{◌≡◌, ◌≢◌, ◌⊎◌, ℕ, true, List, Option, None}
use Rattle.std.specs.List.{Any}
use Rattle.jsonb_spec.specs.Parsing.Memory.{MayAllocate}
use Rattle.text_scan.specs.declared.parser.Grammar.{Grammar}
use Rattle.vjson_text.specs.Texts.{IsNoTextOf}
use Rattle.vjson_run.specs.Answers.{IsOne, compares}
use Rattle.vjson_run.specs.Runs.{TakesChosen, sorts}
use Rattle.vjson_run.specs.declared.options.Command.{Command}
use Rattle.vjson_run.specs.declared.options.Command.TheVariants.{Check}
use Rattle.vjson_run.specs.declared.options.Options.{Options}
use Rattle.vjson_run.specs.declared.report.Output.{Output}
use Rattle.vjson_run.specs.declared.session.Session.{Session}
use Rattle.vjson_run.specs.declared.session.Status.TheVariants.{Trouble}

-- Memory may run out at a text: while it is read, or for what is printed or kept of one of the grammar.
abbrev pub MayTakeMemory : Grammar → List ℕ → Type 0
MayTakeMemory grammar text = MayAllocate text ⊎ IsOne grammar text

-- The same by a command: `check` prints and keeps nothing.
abbrev pub MayRunOutBy : Command → Grammar → List ℕ → Type 0
MayRunOutBy Check grammar text = MayAllocate text
MayRunOutBy command grammar text = MayTakeMemory grammar text

-- A run may end in trouble at a text: memory may run out there, or it is to be compared and is none of the grammar.
abbrev pub MayTrouble : Options → List ℕ → Type 0
MayTrouble options text = MayRunOutBy options.command options.grammar text
    ⊎ ((compares options.command ≡ true) × IsNoTextOf options.grammar text)

-- The session t has the options of s, and is in trouble only where s was, or where a run may be at one of the texts.
pub record Troubles {W E : Type 0} (s : Session W E) (texts : List (List ℕ)) (t : Session W E) : Type 0 where
  pub options : t.options ≡ s.options
  pub only : t.status ≡ Trouble → (s.status ≡ Trouble) ⊎ Any (MayTrouble s.options.now) texts

-- What else a run may end in trouble for: its output failed, or lines are sorted, which takes memory.
abbrev pub MayTroubleAtEnd : {W E : Type 0} → Session W E → Output W → Type 0
MayTroubleAtEnd s out = (out.error ≢ None) ⊎ (sorts s ≡ true)

-- After what s had taken, t has taken those of these texts that aren't left out, and it is in trouble only so.
pub record Advances {W E : Type 0} (contents : W → Option (List ℕ)) (s : Session W E) (texts : List (List ℕ))
    (t : Session W E) : Type 0 where
  pub takes : TakesChosen contents s texts t
  pub troubles : Troubles s texts t
