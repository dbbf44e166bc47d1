-- What is at a path of a document: a part or nothing, and not both.
use Rattle.std.proofs.Common.{◌≡◌, ℕ, List, subst, sym, ◌∙◌}
use Rattle.jsonb_spec.specs.Grammar.{IsDocument}
use Rattle.jsonb_spec.specs.Tree.{Tree}
use Rattle.jsonb_spec.specs.PartAt.{IsAt}
use Rattle.jsonb_path.proofs.KeyEncoding.{one_path}
use Rattle.jsonb_spec.specs.Interface.{IsAccepted, IsDocumentOf, HasPartAt, HasNoPartAt}
use Rattle.jsonb_c.proofs.Reasons.{one_mode}

-- a text is a document of one tree
pub one_tree : (number : ℕ) (text : List ℕ) (t u : Tree) → IsDocumentOf number text t → IsDocumentOf number text u → t ≡ u
one_tree number text t u a b = b.only t (subst (λ mode. IsDocument mode text t) (one_mode a.chosen b.chosen) a.document)

-- a part is there, or none is
pub disagree : (number : ℕ) (path text : List ℕ) → HasPartAt number path text → HasNoPartAt number path text → ⊥
disagree number path text has lacks =
    let same_keys : has.keys ≡ lacks.keys = one_path has.keys lacks.keys (sym has.is_path.encoded ∙ lacks.is_path.encoded) in
    let there : IsAt has.tree lacks.keys has.part = subst (λ keys. IsAt has.tree keys has.part) same_keys has.at in
    lacks.none has.part (subst (λ t. IsAt t lacks.keys has.part) (one_tree number text has.tree lacks.tree has.read lacks.read) there)

pub has_accepted : (number : ℕ) (path text : List ℕ) → HasPartAt number path text → IsAccepted number text
has_accepted number path text has = record { tree = has.tree; read = has.read }

pub lacks_accepted : (number : ℕ) (path text : List ℕ) → HasNoPartAt number path text → IsAccepted number text
lacks_accepted number path text lacks = record { tree = lacks.tree; read = lacks.read }
