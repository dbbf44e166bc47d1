-- What the scan of an extended number guarantees.
use Rattle.std.specs.Prelude.{◌≡◌, ◌≤◌, ℕ, List, length, Option, Some, None, Result, Ok, Err}
use Rattle.jsonb_spec.specs.Code.{Code}
use Rattle.jsonb_core.specs.Error.CodeView.{code_of}
use Rattle.jsonb_spec.specs.Tree.{Num}
use Rattle.jsonb_core.specs.View.{number_view}
use Rattle.jsonb_core.specs.declared.number.Number.{Number}
use Rattle.text_scan.specs.declared.parser.extended_number.decimal.DecimalEnds.{DecimalEnds}
use Rattle.text_scan.specs.declared.parser.extended_number.NumberFault.{NumberFault}
use Rattle.text_scan.specs.declared.parser.extended_number.NumberText.{NumberText}
use Rattle.jsonb_spec.specs.Parsing.ExtendedNumber.{Scanned, core_start, zeros_end, front_end, point_end, behind_end}

-- the number, if there is one
abbrev pub number_views : Option Number → Option Num
number_views (Some n) = Some (number_view n)
number_views None = None

abbrev pub scanned_view : Result NumberText NumberFault → Scanned
scanned_view (Ok text) = Ok (number_views text.number, text.end)
scanned_view (Err f) = Err (code_of f.code, f.offset)

abbrev pub letters_view : Result ℕ NumberFault → Result ℕ (Code × ℕ)
letters_view (Ok end) = Ok end
letters_view (Err f) = Err (code_of f.code, f.offset)

-- where the parts of the decimal end that the bytes begin with
pub record AreEnds (bytes : List ℕ) (ends : DecimalEnds) : Type 0 where
  pub start : ends.start ≡ core_start bytes
  pub zeros : ends.zeros_end ≡ zeros_end bytes
  pub front : ends.front_end ≡ front_end bytes
  pub point : ends.point_end ≡ point_end bytes
  pub behind : ends.behind_end ≡ behind_end bytes
  pub ordered : ends.zeros_end ≤ ends.front_end
  pub behind_ordered : ends.point_end ≤ ends.behind_end
  pub within : ends.behind_end ≤ length bytes
