-- The grammar of the code's modes, and how a result relates to the executable specification.
use Rattle.std.specs.Prelude.{◌≡◌, Result, Ok, Err}
use Rattle.jsonb_spec.specs.Mode.{Mode, standard, extended, json, extended_json}
use Rattle.jsonb_core.specs.Error.CodeView.{code_of}
use Rattle.jsonb_core.specs.declared.error.Error.{Error}
use Rattle.jsonb_core.specs.declared.error.Error.TheVariants.{Syntax, OutOfMemory}
use Rattle.text_scan.specs.declared.parser.Grammar.{Grammar}
use Rattle.text_scan.specs.declared.parser.Grammar.TheVariants as grammars
use Rattle.text_scan.specs.declared.parser.Mode as parser
use Rattle.text_scan.specs.declared.parser.Mode.TheVariants.{Standard, Extended}
use Rattle.jsonb_spec.specs.Parsing.{Fault}

-- the grammar that a parser's mode means
abbrev pub mode_of : parser.Mode → Mode
mode_of Standard = standard
mode_of Extended = extended

-- the grammar that a parser's grammar means
abbrev pub grammar_of : Grammar → Mode
grammar_of grammars.Standard = standard
grammar_of grammars.Extended = extended
grammar_of grammars.Json = json
grammar_of grammars.ExtendedJson = extended_json

-- the error names this fault
abbrev pub NamesFault : Error → Fault → Type 0
NamesFault (Syntax code offset) f = f ≡ record { code = code_of code; offset = offset }
NamesFault other f = ⊥

-- The error is the fault that parsing gives, or want of memory.
abbrev pub Fails : {Y : Type 0} → Error → Result Y Fault → Type 0
Fails (Syntax code offset) read = read ≡ Err (record { code = code_of code; offset = offset })
Fails OutOfMemory read = Unit {0}
Fails other read = ⊥

-- What a function returned, seen by view, is what parsing gives, unless memory ran out.
abbrev pub Gives : {X Y : Type 0} → (X → Y) → Result X Error → Result Y Fault → Type 0
Gives view (Ok x) read = read ≡ Ok (view x)
Gives view (Err e) read = Fails e read

-- a fault of the text, or want of memory
abbrev pub IsTextError : Error → Type 0
IsTextError (Syntax code offset) = Unit {0}
IsTextError OutOfMemory = Unit {0}
IsTextError other = ⊥
