-- What the clauses of key_walk say of the key of a value.
use Rattle.std.proofs.Common.{◌≡◌, ℕ, ◌+◌, ◌-◌, Bool, List, [], ◌∷◌, ◌++◌, Bor, Option, Some, None, Result, Ok, Err, drop, length, if◌then◌else◌, ◌==◌, sym, subst, refl, ap, ◌∙◌, arith, append_assoc, append-nil}
use Rattle.std.proofs.Math.Seq.{drop-append_seam}
use Rattle.std.proofs.lemmas.List.{length-append}
use Rattle.jsonb_spec.specs.SortKey.Readable.{IsReadable}
use Rattle.jsonb_spec.specs.SortKey.{key_of, items_key, members_key, text_key}
use Rattle.jsonb_spec.specs.Tree.{Tree, null, boolean, string, number, array, object, no_trees, more_trees, no_members, more_members}
use Rattle.key_walk.specs.declared.find.NoKey.{NoKey}
use Rattle.jsonb_spec.specs.SortKey.Found.{IsLeftOf}
use Rattle.key_walk.specs.Found.{IsNext}
use Rattle.jsonb_spec.specs.SortKey.Open.{Open, items, members, is_object, open_key, opening_byte, IsOpen, IsScalar}
use Rattle.key_walk.specs.Parts.{kind_of_tree}
use Rattle.jsonb_spec.specs.SortKey.Parts.{opened_tree}
use Rattle.jsonb_c.specs.declared.key.Cursor.{Cursor}
use Rattle.jsonb_c.specs.declared.key.Entry.{Entry}
use Rattle.jsonb_c.specs.KeyParts.{kind_number, IsBegun, IsNextPart, OccursBefore}
use Rattle.jsonb_spec.specs.Interface.KeyParts.{open_number, text_of_tree, IsCounted, IsTreeKey, IsWritten}

-- nothing is behind the key
pub all_of_it : (key : List ℕ) (t : Tree) → IsTreeKey key t → key ≡ key_of t ++ []
all_of_it key t k = k.is_key ∙ sym (append-nil (key_of t))

-- ---- counts

reported : (a c : Option ℕ) → ◌≡◌ {A = Result (Option ℕ) NoKey} (Ok a) (Ok c) → a ≡ c
reported a c e = cc

pub parts_counted : (a c : Option ℕ) (n : ℕ) → a ≡ Some n → ◌≡◌ {A = Result (Option ℕ) NoKey} (Ok a) (Ok c) → IsCounted c 0 n
parts_counted a c n is e = subst (λ parts. IsCounted parts 0 n) (sym is ∙ reported a c e) (refl, refl)

pub no_parts : (a c : Option ℕ) (n : ℕ) → a ≡ None → ◌≡◌ {A = Result (Option ℕ) NoKey} (Ok a) (Ok c) → IsCounted c 5 n
no_parts a c n is e = subst (λ parts. IsCounted parts 5 n) (sym is ∙ reported a c e) refl

pub no_fault : (x : NoKey) (c : Option ℕ) → ◌≡◌ {A = Result (Option ℕ) NoKey} (Err x) (Ok c) → ⊥
no_fault x c e = cc

-- ---- texts

pub string_written : (t : Tree) → IsReadable t → (key : List ℕ) (kind status size : ℕ) (old new : List ℕ) → key ≡ key_of t → kind ≡ kind_number (kind_of_tree t) → kind ≡ 4
    → ((text : List ℕ) → key ≡ 0xD0 ∷ text_key text → IsWritten (Some text) status size old new) → IsWritten (text_of_tree t) status size old new
string_written null r key kind status size old new e is four written = absurd (omega (arith, is, four))
string_written (boolean b) r key kind status size old new e is four written = absurd (omega (arith, is, four))
string_written (number n) r key kind status size old new e is four written = absurd (omega (arith, is, four))
string_written (string mark text) r key kind status size old new e is four written = written text e
string_written (array ts) r key kind status size old new e is four written = absurd (omega (arith, is, four))
string_written (object ms) r key kind status size old new e is four written = absurd (omega (arith, is, four))
string_written t r key kind status size old new e is four written = absurd r.within

pub none_written : (t : Tree) (kind size : ℕ) (old new : List ℕ) → kind ≡ kind_number (kind_of_tree t) → (kind ≡ 4 → ⊥) → IsWritten (text_of_tree t) 5 size old new
none_written (string mark text) kind size old new is no_string = absurd (no_string is)
none_written t kind size old new is no_string = refl

pub some_kind : (t : Tree) → IsReadable t → (kind : ℕ) → kind ≡ kind_number (kind_of_tree t) → kind ≡ 0 → ⊥
some_kind null r kind is none = absurd (omega (arith, is, none))
some_kind (boolean b) r kind is none = absurd (omega (arith, is, none))
some_kind (number n) r kind is none = absurd (omega (arith, is, none))
some_kind (string mark text) r kind is none = absurd (omega (arith, is, none))
some_kind (array ts) r kind is none = absurd (omega (arith, is, none))
some_kind (object ms) r kind is none = absurd (omega (arith, is, none))
some_kind t r kind is none = absurd r.within

-- ---- one part after the other

pub begun : (key : List ℕ) (t : Tree) (b : Bool) (rest : List ℕ) (n : ℕ) → IsLeftOf t b rest [] → key ≡ opening_byte b ∷ rest → n ≡ (if b then 6 else 5) → IsBegun key t 0 (record { kind = n; offset = 1 })
begun key t b rest n l first numbered = go l.all l.whole l.is l.fits (first ∙ ap (λ xs. opening_byte b ∷ xs) (l.occurs ∙ append-nil (open_key l.all)))
  where
    go : (o : Open) → opened_tree o ≡ t → is_object o ≡ b → IsOpen o 511 → key ≡ opening_byte b ∷ open_key o → IsBegun key t 0 (record { kind = n; offset = 1 })
    go (items ts) whole is fits e = subst (λ u. IsBegun key u 0 (record { kind = n; offset = 1 })) whole
        (refl, record { fits = fits; kind_is = numbered ∙ ap (λ x. if x then 6 else 5) (sym is); before = opening_byte b ∷ []; occurs = e; offset_is = refl })
    go (members ms) whole is fits e = subst (λ u. IsBegun key u 0 (record { kind = n; offset = 1 })) whole
        (refl, record { fits = fits; kind_is = numbered ∙ ap (λ x. if x then 6 else 5) (sym is); before = opening_byte b ∷ []; occurs = e; offset_is = refl })

pub not_begun : (key : List ℕ) (t : Tree) (cursor : Cursor) → IsScalar t → IsBegun key t 5 cursor
not_begun key (array ts) cursor s = absurd s
not_begun key (object ms) cursor s = absurd s
not_begun key t cursor s = refl

pub kind_agrees : (o : Open) (kind : ℕ) → kind ≡ open_number o → is_object o ≡ (kind == 6)
kind_agrees (items ts) kind is = ap (λ k. k == 6) (sym is)
kind_agrees (members ms) kind is = ap (λ k. k == 6) (sym is)

pub left_there : (key : List ℕ) (cursor : Cursor) (o : Open) (back : List ℕ) → OccursBefore key cursor o → back ≡ drop cursor.offset key → back ≡ open_key o ++ []
left_there key cursor o back s is =
    is ∙ ap (λ n. drop n key) s.offset_is ∙ ap (drop (length s.before)) s.occurs ∙ drop-append_seam s.before (open_key o) ∙ sym (append-nil (open_key o))

pub next_known : (o : Open) (e : NoKey) → IsNext o [] (Err e) → ⊥
next_known (items no_trees) e n = n
next_known (items (more_trees t ts)) e n = n
next_known (members no_members) e n = n
next_known (members (more_members k t ms)) e n = n

pub none_next : (key : List ℕ) (o : Open) (entry : Entry) (cursor : Cursor) → IsNext o [] (Ok None) → IsNextPart key o 5 entry cursor
none_next key (items no_trees) entry cursor n = refl
none_next key (items (more_trees t ts)) entry cursor n = absurd n
none_next key (members no_members) entry cursor n = refl
none_next key (members (more_members k t ms)) entry cursor n = absurd n

pub next_reported : (key : List ℕ) (cursor : Cursor) (o : Open) (back : List ℕ) (value others : Bor (List ℕ)) → OccursBefore key cursor o → back ≡ open_key o ++ [] → IsNext o [] (Ok (Some (value, others)))
    → IsNextPart key o 0 (record { name_offset = cursor.offset; name_size = length back - length value.now; offset = length key - length value.now; size = length value.now - length others.now }) (record { kind = cursor.kind; offset = length key - length others.now })
next_reported key cursor (items no_trees) back value others s e n = absurd n
next_reported key cursor (members no_members) back value others s e n = absurd n
next_reported key cursor (items (more_trees t ts)) back value others s e n =
    let rest = items_key ts in
    let left : length others.now ≡ length rest = ap length (n.1 ∙ append-nil rest) in
    let long : length value.now ≡ length (key_of t) + length rest = ap length (n.0 ∙ ap (λ l. key_of t ++ l) (append-nil rest)) ∙ length-append (key_of t) rest in
    let whole : length back ≡ length value.now = ap length (e ∙ append_assoc (key_of t) rest [] ∙ sym n.0) in
    let all : length key ≡ length s.before + (length (key_of t) + length rest) = ap length s.occurs ∙ length-append s.before (key_of t ++ rest) ∙ ap (λ m. length s.before + m) (length-append (key_of t) rest) in (
      refl,
      omega (arith, whole),
      record { before = s.before; behind = rest; occurs = s.occurs; offset_is = omega (arith, all, long); size_is = omega (arith, long, left) },
      record { fits = (s.fits.0.1, s.fits.1.1); kind_is = s.kind_is; before = s.before ++ key_of t; occurs = s.occurs ∙ sym (append_assoc s.before (key_of t) rest); offset_is = omega (arith, all, left, length-append s.before (key_of t)) },
    )
next_reported key cursor (members (more_members k t ms)) back value others s e n =
    let rest = members_key ms in
    let left : length others.now ≡ length rest = ap length (n.1 ∙ append-nil rest) in
    let long : length value.now ≡ length (key_of t) + length rest = ap length (n.0 ∙ ap (λ l. key_of t ++ l) (append-nil rest)) ∙ length-append (key_of t) rest in
    let inner : length (key_of t ++ rest) ≡ length (key_of t) + length rest = length-append (key_of t) rest in
    let whole : length back ≡ length (text_key k) + length (key_of t ++ rest) = ap length (e ∙ append-nil (text_key k ++ (key_of t ++ rest))) ∙ length-append (text_key k) (key_of t ++ rest) in
    let all : length key ≡ length s.before + (length (text_key k) + length (key_of t ++ rest)) = ap length s.occurs ∙ length-append s.before (text_key k ++ (key_of t ++ rest)) ∙ ap (λ m. length s.before + m) (length-append (text_key k) (key_of t ++ rest)) in
    let named : length (s.before ++ text_key k) ≡ length s.before + length (text_key k) = length-append s.before (text_key k) in
    let occurs : key ≡ (s.before ++ text_key k) ++ (key_of t ++ rest) = s.occurs ∙ sym (append_assoc s.before (text_key k) (key_of t ++ rest)) in (
      refl,
      record { before = s.before; behind = key_of t ++ rest; occurs = s.occurs; offset_is = s.offset_is; size_is = omega (arith, whole, inner, long) },
      record { before = s.before ++ text_key k; behind = rest; occurs = occurs; offset_is = omega (arith, all, inner, long, named); size_is = omega (arith, long, left) },
      record { fits = (s.fits.0.2, s.fits.1.1); kind_is = s.kind_is; before = (s.before ++ text_key k) ++ key_of t; occurs = occurs ∙ sym (append_assoc (s.before ++ text_key k) (key_of t) rest); offset_is = omega (arith, all, inner, left, named, length-append (s.before ++ text_key k) (key_of t)) },
    )
