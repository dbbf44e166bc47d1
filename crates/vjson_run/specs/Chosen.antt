-- Which texts are left out.
use Rattle.std.specs.Prelude.{◌≡◌, ◌↔◌, ℕ, Bool, true, false, List, Option, None, Some}
use Rattle.std.specs.List.{list_all}
use Rattle.std.specs.declared.cmp.Ordering.{Ordering}
use Rattle.std.specs.declared.cmp.Ordering.TheVariants.{Less, Equal, Greater}
use Rattle.jsonb_spec.specs.Order.{bytes_cmp}
use Rattle.jsonb_spec.specs.PartAt.{part_at}
use Rattle.jsonb_spec.specs.SortKey.{key_of}
use Rattle.jsonb_spec.specs.Tree.{Tree}
use Rattle.vjson_text.specs.Texts.{IsTextOf}
use Rattle.text_scan.specs.declared.parser.Grammar.{Grammar}
use Rattle.jsonb_spec.specs.Program.Keys.{keys_of}
use Rattle.vjson_run.specs.declared.options.Command.{Command}
use Rattle.vjson_run.specs.declared.options.Command.TheVariants.{Check}
use Rattle.vjson_run.specs.declared.options.Condition.{Condition}
use Rattle.vjson_run.specs.declared.options.Options.{Options}

-- whether a part may be so beside the value of the condition
abbrev pub allows : Condition → Ordering → Bool
allows condition Less = condition.less
allows condition Equal = condition.equal
allows condition Greater = condition.greater

-- whether the condition holds of a part, which may be absent; values order as their sort keys
abbrev pub holds : Condition → Option Tree → Bool
holds condition None = condition.absent
holds condition (Some part) = allows condition (bytes_cmp (key_of part) condition.key.items)

-- whether the condition holds of a tree
abbrev pub holds_of : Tree → Condition → Bool
holds_of tree condition = holds condition (part_at (keys_of condition.path) tree)

-- `check` leaves out no text
abbrev pub leaves_out : Command → Bool
leaves_out Check = false
leaves_out command = true

-- The text is one of the grammar, some condition doesn't hold of it, and the command leaves such texts out.
pub record IsLeftOut (options : Options) (text : List ℕ) : Type 0 where
  pub leaves : leaves_out options.command ≡ true
  pub tree : Tree
  pub is_text : IsTextOf options.grammar text tree
  pub fails : list_all (holds_of tree) options.conditions.items ≡ false

-- false says exactly of those texts that they are left out
abbrev pub Chooses : Options → (List ℕ → Bool) → Type 0
Chooses options chosen = (text : List ℕ) → (chosen text ≡ false) ↔ IsLeftOut options text

-- The text is one of the grammar, and the condition holds of it or doesn't.
pub record Holds (grammar : Grammar) (condition : Condition) (text : List ℕ) (held : Bool) : Type 0 where
  pub tree : Tree
  pub is_text : IsTextOf grammar text tree
  pub is : held ≡ holds_of tree condition
