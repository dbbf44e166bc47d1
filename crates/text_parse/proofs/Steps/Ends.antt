-- The end of a part, before which no whitespace is.
use Rattle.std.proofs.Common.{◌≡◌, ℕ, true, false, List, ◌∷◌, Ok, refl, ap, ◌∙◌}
use Rattle.jsonb_spec.specs.Code.{Code}
use Rattle.jsonb_spec.specs.Mode.{Mode}
use Rattle.jsonb_spec.specs.Parsing.{begins, on_byte, reject}
use Rattle.jsonb_spec.specs.Parsing.Whitespace.{is_whitespace_start, skip_whitespace}
use Rattle.text_parse.specs.Stack.{part_end}
use Rattle.text_scan.proofs.Containers.JoinedParts.{on_byte-found, on_byte-none}
use Rattle.text_scan.proofs.Text.Whitespace.{skip-stop}

module _ (size : ℕ) (code : Code) (close : ℕ) (mode : Mode) (bytes rest : List ℕ) where
  pub comma_ends : bytes ≡ 44 ∷ rest → part_end size code close (skip_whitespace mode bytes) ≡ Ok (false, rest)
  comma_ends e =
      ap (λ bs. part_end size code close (skip_whitespace mode bs)) e ∙ ap (part_end size code close) (skip-stop mode 44 rest refl)
      ∙ on_byte-found 44 rest (λ r. Ok (false, r)) (on_byte close (44 ∷ rest) (λ r. Ok (true, r)) (reject size code 0 (44 ∷ rest)))

  pub close_ends : is_whitespace_start close ≡ false → begins 44 (close ∷ rest) ≡ false → bytes ≡ close ∷ rest → part_end size code close (skip_whitespace mode bytes) ≡ Ok (true, rest)
  close_ends stops other e =
      ap (λ bs. part_end size code close (skip_whitespace mode bs)) e ∙ ap (part_end size code close) (skip-stop mode close rest stops)
      ∙ on_byte-none 44 (close ∷ rest) (λ r. Ok (false, r)) (on_byte close (close ∷ rest) (λ r. Ok (true, r)) (reject size code 0 (close ∷ rest))) other
      ∙ on_byte-found close rest (λ r. Ok (true, r)) (reject size code 0 (close ∷ rest))
