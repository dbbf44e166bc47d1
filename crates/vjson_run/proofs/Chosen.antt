-- Whether a text is left out.
use Rattle.std.proofs.Common.{◌≡◌, ℕ, zero, suc, ◌+◌, ◌<◌, ◌≤◌, ◌&&◌, Bool, true, false, List, [], ◌∷◌, ◌++◌, Option, None, Some, take, length, get_or, Result, Ok, Err, refl, sym, ap, ◌∙◌, arith, true≢false}
use Rattle.std.proofs.lemmas.List.{take_all, take_more}
use Rattle.std.specs.List.{list_all}
use Rattle.std.specs.Option.{is_some}
use Rattle.jsonb.proofs.Documents.Encodings.{document_complete, document_unique}
use Rattle.jsonb_spec.specs.Order.{bytes_cmp}
use Rattle.jsonb_spec.specs.PartAt.{part_at}
use Rattle.jsonb_spec.specs.Tree.{Tree}
use Rattle.text_scan.specs.Answer.{grammar_of}
use Rattle.text_scan.specs.declared.parser.Grammar.{Grammar}
use Rattle.text_parse.proofs.Containers.Values.{document_sound}
use Rattle.jsonb_spec.specs.Parsing.{Fault}
use Rattle.jsonb_spec.specs.Parsing.Document.{document_of}
use Rattle.vjson_text.specs.Texts.{IsTextOf}
use Rattle.vjson_run.specs.Chosen.{Chooses, Holds, IsLeftOut, allows, holds, holds_of, leaves_out}
use Rattle.vjson_run.specs.Keys.{HasPartKey}
use Rattle.jsonb_spec.specs.Program.Keys.{keys_of, part_key}
use Rattle.vjson_run.specs.declared.options.Command.{Command}
use Rattle.vjson_run.specs.declared.options.Command.TheVariants.{Check}
use Rattle.vjson_run.specs.declared.options.Condition.{Condition}
use Rattle.vjson_run.specs.declared.options.Options.{Options}

-- ---- one condition

of_absent : (c : Condition) (o : Option Tree) → false ≡ is_some o → c.absent ≡ holds c o
of_absent c None e = refl
of_absent c (Some part) e = absurd (true≢false (sym e))

of_part : (c : Condition) (o : Option Tree) (key : List ℕ) → true ≡ is_some o → key ≡ part_key o → allows c (bytes_cmp key c.key.items) ≡ holds c o
of_part c None key e is = absurd (true≢false e)
of_part c (Some part) key e is = ap (λ k. allows c (bytes_cmp k c.key.items)) is

pub holds_absent : (g : Grammar) (c : Condition) (text key : List ℕ) (found : Bool) → found ≡ false → HasPartKey g (keys_of c.path) text key found → Holds g c text c.absent
holds_absent g c text key found is h = record { tree = h.tree; is_text = h.is_text; is = of_absent c (part_at (keys_of c.path) h.tree) (sym is ∙ h.there) }

pub holds_there : (g : Grammar) (c : Condition) (text key shown value : List ℕ) (found held : Bool) → found ≡ true → HasPartKey g (keys_of c.path) text key found → shown ≡ key → value ≡ c.key.items
    → held ≡ allows c (bytes_cmp shown value) → Holds g c text held
holds_there g c text key shown value found held is h same beside e = record {
  tree = h.tree;
  is_text = h.is_text;
  is = e ∙ ap (λ k. allows c (bytes_cmp k value)) same ∙ ap (λ k. allows c (bytes_cmp key k)) beside
      ∙ of_part c (part_at (keys_of c.path) h.tree) key (sym is ∙ h.there) h.is_key;
}

-- ---- all conditions

one_tree : (g : Grammar) (text : List ℕ) (t u : Tree) → IsTextOf g text t → IsTextOf g text u → t ≡ u
one_tree g text t u h k = document_unique (grammar_of g) text t u h k

all_and : (p : Condition → Bool) (xs : List Condition) (x : Condition) → list_all p xs ≡ true → p x ≡ true → list_all p (xs ++ x ∷ []) ≡ true
all_and p [] x h k = ap (λ b. b && true) k
all_and p (y ∷ xs) x h k = by (p y) h (λ rest. all_and p xs x rest k)
  where
    by : (b : Bool) → (b && list_all p xs) ≡ true → (list_all p xs ≡ true → list_all p (xs ++ x ∷ []) ≡ true) → (b && list_all p (xs ++ x ∷ [])) ≡ true
    by true h others = others h
    by false h others = absurd (true≢false (sym h))

some_fails : (p : Condition → Bool) (xs : List Condition) (i : ℕ) (d : Condition) → i < length xs → p (get_or xs i d) ≡ false → list_all p xs ≡ false
some_fails p [] i d within h = absurd (omega (arith, within))
some_fails p (x ∷ xs) zero d within h = ap (λ b. b && list_all p xs) h
some_fails p (x ∷ xs) (suc i) d within h = by (p x) (some_fails p xs i d (omega (arith, within)) h)
  where
    by : (b : Bool) → list_all p xs ≡ false → (b && list_all p xs) ≡ false
    by true fails = fails
    by false fails = refl

pub holds_more : (g : Grammar) (text : List ℕ) (conditions : List Condition) (i : ℕ) (c : Condition) (held : Bool) → i < length conditions → c ≡ get_or conditions i c → Holds g c text held → held ≡ true
    → ((t : Tree) → IsTextOf g text t → list_all (holds_of t) (take i conditions) ≡ true) → (t : Tree) → IsTextOf g text t → list_all (holds_of t) (take (i + 1) conditions) ≡ true
holds_more g text conditions i c held within at h is all t is_text =
    ap (list_all (holds_of t)) (take_more conditions i c within)
    ∙ all_and (holds_of t) (take i conditions) (get_or conditions i c) (all t is_text)
    (ap (holds_of t) (sym at) ∙ ap (λ u. holds_of u c) (one_tree g text t h.tree is_text h.is_text) ∙ sym h.is ∙ is)

pub left_out : (o : Options) (text : List ℕ) (conditions : List Condition) (i : ℕ) (c : Condition) (held : Bool) → leaves_out o.command ≡ true → conditions ≡ o.conditions.items → i < length conditions → c ≡ get_or conditions i c
    → Holds o.grammar c text held → held ≡ false → IsLeftOut o text
left_out o text conditions i c held leaves same within at h is = record {
  leaves = leaves;
  tree = h.tree;
  is_text = h.is_text;
  fails = ap (list_all (holds_of h.tree)) (sym same) ∙ some_fails (holds_of h.tree) conditions i c within (ap (holds_of h.tree) (sym at) ∙ sym h.is ∙ is);
}

pub not_left_out : (o : Options) (text : List ℕ) (conditions : List Condition) (i : ℕ) → conditions ≡ o.conditions.items → length conditions ≤ i
    → ((t : Tree) → IsTextOf o.grammar text t → list_all (holds_of t) (take i conditions) ≡ true) → IsLeftOut o text → ⊥
not_left_out o text conditions i same all hold left =
    true≢false (sym (hold left.tree left.is_text) ∙ ap (list_all (holds_of left.tree)) (take_all i conditions all ∙ same) ∙ left.fails)

-- ---- there is a test that chooses

abbrev tested : Options → Bool → Result Tree Fault → Bool
tested o false answer = true
tested o true (Err fault) = true
tested o true (Ok tree) = list_all (holds_of tree) o.conditions.items

abbrev test : Options → List ℕ → Bool
test o text = tested o (leaves_out o.command) (document_of (grammar_of o.grammar) text)

rejects : (o : Options) (text : List ℕ) (leaves : Bool) (answer : Result Tree Fault) → leaves_out o.command ≡ leaves → document_of (grammar_of o.grammar) text ≡ answer → tested o leaves answer ≡ false → IsLeftOut o text
rejects o text false answer leaves is e = absurd (true≢false e)
rejects o text true (Err fault) leaves is e = absurd (true≢false e)
rejects o text true (Ok tree) leaves is e = record { leaves = leaves; tree = tree; is_text = document_sound (grammar_of o.grammar) text tree is; fails = e }

left : (o : Options) (text : List ℕ) → IsLeftOut o text → test o text ≡ false
left o text h =
    ap (λ b. tested o b (document_of (grammar_of o.grammar) text)) h.leaves
    ∙ ap (tested o true) (document_complete (grammar_of o.grammar) text h.tree h.is_text) ∙ h.fails

pub some_test : (o : Options) → (chosen : List ℕ → Bool) × Chooses o chosen
some_test o = (
  test o,
  λ text. (λ e. rejects o text (leaves_out o.command) (document_of (grammar_of o.grammar) text) refl refl e, left o text),
)

-- a command that leaves texts out isn't `check`
pub unchecked : (command : Command) → leaves_out command ≡ true → command ≡ Check → ⊥
unchecked command leaves is = true≢false (sym leaves ∙ ap leaves_out is)
