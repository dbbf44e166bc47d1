use Rattle.std.proofs.Common.{◌≡◌, ◌∷◌, take}
use Rattle.vjson_run.proofs.Parts.{ArePieces}
use Rattle.vjson_run.specs.declared.options.Part.{Part}
use Rattle.vjson_run.proofs.answers.make_key.Given as goal

-- the pieces of the parts so far are the key
abbrev pub invariant-parts : goal.invariant-parts
invariant-parts l = (first : Part) × (l.options.by.items ≡ first ∷ l.others) × ArePieces l.grammar l.text (first ∷ take l.part-index l.others) l.buffers.key.items
