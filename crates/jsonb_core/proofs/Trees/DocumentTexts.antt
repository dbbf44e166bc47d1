-- Each tree of a document has a text.
use Rattle.std.proofs.Common.{◌≡◌, ℕ, zero, suc, Bool, true, false, List, [], ◌∷◌, Some, None, IsSome, refl, ap, subst, sym, if◌then◌else◌}
use Rattle.std.specs.Cmp.Lexicographic.{slice_cmp}
use Rattle.std.specs.Ordering.{nat_cmp, match_ordering}
use Rattle.std.specs.declared.cmp.Ordering.{Ordering}
use Rattle.std.specs.declared.cmp.Ordering.TheVariants.{Less, Equal, Greater}
use Rattle.std.specs.List.{AllByRecursion}
use Rattle.std.proofs.lemmas.Bool.{and_parts, and_from}
use Rattle.jsonb_spec.specs.Mode.{Mode}
use Rattle.jsonb_spec.specs.Tree.{Tree, Members, no_members, more_members, Member, trees_of, put, put_all}
use Rattle.jsonb_spec.specs.Grammar.Scalar.{IsScalar, literal_value, string_value, number_value, null_word, true_word, false_word}
use Rattle.jsonb_spec.specs.Grammar.{IsPadded, padded, IsJoined, one_part, more_parts, IsElement, whole_element, empty_element, IsMember, key_and_value, IsValue, scalar, empty_array, full_array, empty_object, full_object, Derives, max_depth, IsDocument, value_alone, whitespace_alone}
use Rattle.jsonb_spec.specs.Text.{has_text, items_have_texts, members_have_texts, tree_text, text_of}

-- ---- items and members

items-all : (ts : List Tree) → AllByRecursion (λ t. has_text t ≡ true) ts → items_have_texts (trees_of ts) ≡ true
items-all [] all = refl
items-all (t ∷ ts) all = and_from (has_text t) (items_have_texts (trees_of ts)) all.0 (items-all ts all.1)

members-match_ordering : (o : Ordering) (a b c : Members) → members_have_texts a ≡ true → members_have_texts b ≡ true → members_have_texts c ≡ true → members_have_texts (match_ordering o a b c) ≡ true
members-match_ordering Less a b c h k l = h
members-match_ordering Equal a b c h k l = k
members-match_ordering Greater a b c h k l = l

members-put : (key : List ℕ) (t : Tree) (ms : Members) → has_text t ≡ true → members_have_texts ms ≡ true → members_have_texts (put key t ms) ≡ true
members-put key t no_members h all = and_from (has_text t) true h refl
members-put key t (more_members l u ms) h all =
    let parts = and_parts (has_text u) (members_have_texts ms) all in
    members-match_ordering (slice_cmp nat_cmp key l) _ _ _
    (and_from (has_text t) (members_have_texts (more_members l u ms)) h all)
    (and_from (has_text t) (members_have_texts ms) h parts.1)
    (and_from (has_text u) (members_have_texts (put key t ms)) parts.0 (members-put key t ms h parts.1))

members-put_all : (es : List Member) (ms : Members) → AllByRecursion (λ e. has_text e.1 ≡ true) es → members_have_texts ms ≡ true → members_have_texts (put_all es ms) ≡ true
members-put_all [] ms all h = h
members-put_all (e ∷ es) ms all h = members-put_all es (put e.0 e.1 ms) all.1 (members-put e.0 e.1 ms all.0 h)

pub joined-all : {A : Type 0} (P : A → Type 0) (Encodes : List ℕ → A → Type 0) → ((bytes : List ℕ) (a : A) → Encodes bytes a → P a) → (bytes : List ℕ) (parts : List A) → IsJoined Encodes bytes parts → AllByRecursion P parts
joined-all P Encodes each bytes parts (one_part s) = (each _ _ s, tt)
joined-all P Encodes each bytes parts (more_parts s more) = (each _ _ s, joined-all P Encodes each _ _ more)

-- ---- the grammar

-- each tree that bytes encode has a text
abbrev HaveTexts : (List ℕ → Tree → Type 0) → Type 0
HaveTexts Encodes = (bytes : List ℕ) (t : Tree) → Encodes bytes t → has_text t ≡ true

scalar_has_text : (mode : Mode) → HaveTexts (IsScalar mode)
scalar_has_text mode bytes t (literal_value (null_word w)) = refl
scalar_has_text mode bytes t (literal_value (true_word w)) = refl
scalar_has_text mode bytes t (literal_value (false_word w)) = refl
scalar_has_text mode bytes t (string_value q s) = refl
scalar_has_text mode bytes t (number_value n) = refl

padded_has_text : (mode : Mode) (Value : List ℕ → Tree → Type 0) → HaveTexts Value → HaveTexts (IsPadded mode Value)
padded_has_text mode Value each bytes t (padded before v after) = each _ _ v

element_has_text : (mode : Mode) (Value : List ℕ → Tree → Type 0) → HaveTexts Value → HaveTexts (IsElement mode Value)
element_has_text mode Value each bytes t (whole_element p) = padded_has_text mode Value each _ _ p
element_has_text mode Value each bytes t (empty_element m _) = refl

member_has_text : (mode : Mode) (Value : List ℕ → Tree → Type 0) → HaveTexts Value → (bytes : List ℕ) (m : Member) → IsMember mode Value bytes m → has_text m.1 ≡ true
member_has_text mode Value each bytes m (key_and_value key value) = padded_has_text mode Value each _ _ value

value_has_text : (mode : Mode) (Value : List ℕ → Tree → Type 0) → HaveTexts Value → HaveTexts (IsValue mode Value)
value_has_text mode Value each bytes t (scalar s) = scalar_has_text mode _ _ s
value_has_text mode Value each bytes t (empty_array _) = refl
value_has_text mode Value each bytes t (full_array {ts = ts} body some) =
    items-all ts (joined-all (λ t. has_text t ≡ true) (IsElement mode Value) (element_has_text mode Value each) _ ts body)
value_has_text mode Value each bytes t (empty_object _) = refl
value_has_text mode Value each bytes t (full_object {ms = ms} body distinct) =
    members-put_all ms no_members (joined-all (λ m. has_text m.1 ≡ true) (IsMember mode Value) (member_has_text mode Value each) _ ms body) refl

derived_has_text : (mode : Mode) (depth : ℕ) → HaveTexts (Derives mode depth)
derived_has_text mode zero bytes t d = scalar_has_text mode bytes t d
derived_has_text mode (suc depth) bytes t d = value_has_text mode (Derives mode depth) (derived_has_text mode depth) bytes t d

pub text_of-has_text : (t : Tree) → has_text t ≡ true → text_of t ≡ Some (tree_text t)
text_of-has_text t h = ap (λ b. if b then Some (tree_text t) else None) h

-- each tree of a document has a text
pub document_has_text : (mode : Mode) (bytes : List ℕ) (t : Tree) → IsDocument mode bytes t → IsSome (text_of t)
document_has_text mode bytes t (value_alone {core = core} before d after) =
    subst IsSome (sym (text_of-has_text t (derived_has_text mode max_depth core t d))) refl
document_has_text mode bytes t (whitespace_alone m _) = refl

-- a tree that has a text has this one
pub some_text : (t : Tree) → IsSome (text_of t) → text_of t ≡ Some (tree_text t)
some_text t = tested (has_text t)
  where
    tested : (b : Bool) → IsSome (if b then Some (tree_text t) else None) → (if b then Some (tree_text t) else None) ≡ Some (tree_text t)
    tested true some = refl
    tested false some = cc
