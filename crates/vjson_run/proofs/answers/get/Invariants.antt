use Rattle.std.proofs.Common.{◌∷◌, map, take}
use Rattle.vjson_run.proofs.Parts.{AreCells}
use Rattle.jsonb_spec.specs.Program.Printed.{first_keys}
use Rattle.jsonb_spec.specs.Program.Keys.{keys_of}
use Rattle.vjson_run.proofs.answers.get.Given as goal

-- the cells of the paths so far are in the row
abbrev pub invariant-paths : goal.invariant-paths
invariant-paths l = AreCells l.options l.text (first_keys l.options.paths.items ∷ map keys_of (take l.path-index l.path-items)) l.buffers.row.items
