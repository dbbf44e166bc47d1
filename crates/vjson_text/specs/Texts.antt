-- Which texts the program takes, and what is appended of them.
use Rattle.std.specs.Prelude.{◌≡◌, ◌≢◌, ℕ, Bool, MatchBool, List, [], ◌++◌, None, Some, Result, IfErr}
use Rattle.std.specs.Ordering.{is_eq}
use Rattle.jsonb_spec.specs.Parsing.Appends.{AppendsPart}
use Rattle.jsonb_spec.specs.Grammar.{IsDocument}
use Rattle.jsonb_spec.specs.Indented.{indented_text}
use Rattle.jsonb_spec.specs.Order.{tree_cmp}
use Rattle.jsonb_spec.specs.PartAt.{part_at}
use Rattle.jsonb_spec.specs.Program.Differences.{differences}
use Rattle.jsonb_spec.specs.SortKey.{key_of}
use Rattle.jsonb_spec.specs.Text.{AppendsText}
use Rattle.jsonb_spec.specs.Tree.{Tree}
use Rattle.text_scan.specs.Answer.{grammar_of}
use Rattle.text_scan.specs.declared.parser.Grammar.{Grammar}
use Rattle.vjson_text.specs.declared.fault.Fault.{Fault}
use Rattle.vjson_text.specs.declared.fault.Fault.TheVariants.{NoMemory}
use Rattle.vjson_text.specs.declared.reader.Layout.{Layout}
use Rattle.vjson_text.specs.declared.reader.Layout.TheVariants.{Compact, Indent}

-- the text is one of the grammar, and this is its tree
abbrev pub IsTextOf : Grammar → List ℕ → Tree → Type 0
IsTextOf grammar text t = IsDocument (grammar_of grammar) text t

-- the text is none of the grammar
abbrev pub IsNoTextOf : Grammar → List ℕ → Type 0
IsNoTextOf grammar text = (t : Tree) → IsTextOf grammar text t → ⊥

-- What is rejected is no text of the grammar, unless memory ran out.
abbrev pub Rejects : {X : Type 0} → Grammar → List ℕ → Result X Fault → Type 0
Rejects grammar text result = IfErr result (λ f. f ≢ NoMemory → IsNoTextOf grammar text)

-- the text of the tree is appended, on one line or over lines
abbrev pub AppendsLaidOut : Layout → Tree → List ℕ → List ℕ → Type 0
AppendsLaidOut Compact t old new = AppendsText t old new
AppendsLaidOut (Indent width) t old new = new ≡ old ++ indented_text width 0 t

-- The text is one of the grammar, and what is appended is its tree's text in this layout.
pub record AppendsTextOf (grammar : Grammar) (layout : Layout) (text old new : List ℕ) : Type 0 where
  pub tree : Tree
  pub is_text : IsTextOf grammar text tree
  pub appended : AppendsLaidOut layout tree old new

-- The text is one of the grammar, and what is appended is its tree's sort key.
pub record AppendsKeyOf (grammar : Grammar) (text old new : List ℕ) : Type 0 where
  pub tree : Tree
  pub is_text : IsTextOf grammar text tree
  pub appended : new ≡ old ++ key_of tree

-- The text is one of the grammar, and what is appended is the text of its tree's part at the keys; or it has no such
-- part, and nothing is appended.
pub record AppendsPartOf (grammar : Grammar) (keys : List (List ℕ)) (text old new : List ℕ) (is_there : Bool) : Type 0
  where
    pub tree : Tree
    pub is_text : IsTextOf grammar text tree
    pub part : MatchBool is_there (AppendsPart tree keys old new) ((part_at keys tree ≡ None) × (new ≡ old))

-- Both texts are of the grammar, and what is appended are the lines on where their values differ, if they do.
pub record AppendsDifferences (grammar : Grammar) (one other old new : List ℕ) (equal : Bool) : Type 0 where
  pub t : Tree
  pub u : Tree
  pub is_one : IsTextOf grammar one t
  pub is_other : IsTextOf grammar other u
  pub appended : new ≡ old ++ differences [] t (Some u)
  pub are_equal : equal ≡ is_eq (tree_cmp t u)
