-- The parts of a document that are left at a cursor.
use Rattle.std.proofs.Common.{◌≡◌, ℕ, ◌+◌, ◌≤◌, inl, List, ◌++◌, Option, Some, None, MatchOption, Result, Ok, Err, IfErr, length, take, drop, replicate, refl, sym, ap, ap₂, subst, ◌∙◌, arith, append_assoc, length-append}
use Rattle.std.specs.Prelude.{IsErrAnd, Vec}
use Rattle.std.specs.declared.alloc.Global.{Global}
use Rattle.std.proofs.lemmas.List.{drop-drop, drop_at, length-replicate, length-take-le, take-append-drop}
use Rattle.jsonb_spec.specs.SortKey.Readable.{IsAnyNumber, IsReadable}
use Rattle.jsonb_spec.specs.SortKey.Open.{Open, items, members, IsScalar}
use Rattle.key_walk.proofs.Finds.{readable_inside}
use Rattle.jsonb_spec.specs.Grammar.{max_depth}
use Rattle.jsonb_spec.specs.Proper.{IsProper}
use Rattle.jsonb_spec.specs.SortKey.{key_of, items_key, members_key, text_key}
use Rattle.jsonb_spec.specs.Text.Range.{IsWithin}
use Rattle.jsonb_spec.specs.Tree.{Tree, null, boolean, string, number, array, object, binary, date, timestamp, timestamp_tz, interval, no_trees, more_trees, no_members, more_members}
use Rattle.key_document.specs.Changes.{IsLacking}
use Rattle.jsonb_spec.specs.Document.PartAt.{IsPartAt}
use Rattle.key_document.specs.Cursor.{IsLeftBehind}
use Rattle.jsonb_spec.specs.Document.{document_of}
use Rattle.key_document.specs.declared.error.DocumentError.{DocumentError}
use Rattle.key_document.specs.declared.error.DocumentError.TheVariants.{NoDocument, TooDeep, OutOfMemory}
use Rattle.key_text.proofs.Counts.{one_each}
use Rattle.jsonb_spec.specs.Interface.Document.{IsDocumentAnswer}
use Rattle.jsonb_spec.specs.Interface.DocumentCursor.{all_parts, behind_first, first_part}
use Rattle.jsonb_c.specs.DocumentCursor.{zeros_left, IsBefore, IsBegunBefore}
use Rattle.jsonb_c.specs.KeyParts.{IsBegun, IsNextPart, OccursBefore}
use Rattle.jsonb_spec.specs.Interface.KeyParts.{IsWritten}
use Rattle.jsonb_c.specs.declared.document_cursor.DocumentCursor.{DocumentCursor}
use Rattle.jsonb_c.specs.declared.key.Cursor.{Cursor}
use Rattle.jsonb_c.specs.declared.key.Entry.{Entry}
use Rattle.jsonb_spec.specs.Document.Counts.{counts_at, counts_at_items, counts_at_members}

-- ---- the cursor before all parts

pub begun_before : (key : List ℕ) (t : Tree) (cursor : DocumentCursor) → key ≡ key_of t → IsBegun key t 0 cursor.parts → cursor.parts.offset ≡ 1 → IsLeftBehind t (zeros_left cursor) → IsBegunBefore t (all_parts t) 0 cursor
begun_before key (array ts) cursor e b one z = (refl, record { parts = subst (λ k. OccursBefore k cursor.parts (items ts)) e b.1; counts = ap (λ n. drop n (counts_at (array ts))) one; zeros = z })
begun_before key (object ms) cursor e b one z = (refl, record { parts = subst (λ k. OccursBefore k cursor.parts (members ms)) e b.1; counts = ap (λ n. drop n (counts_at (object ms))) one; zeros = z })
begun_before key null cursor e b one z = absurd (omega (arith, b))
begun_before key (boolean x) cursor e b one z = absurd (omega (arith, b))
begun_before key (string mark text) cursor e b one z = absurd (omega (arith, b))
begun_before key (number n) cursor e b one z = absurd (omega (arith, b))
begun_before key (binary bytes) cursor e b one z = absurd (omega (arith, b))
begun_before key (date days) cursor e b one z = absurd (omega (arith, b))
begun_before key (timestamp micros) cursor e b one z = absurd (omega (arith, b))
begun_before key (timestamp_tz offset micros) cursor e b one z = absurd (omega (arith, b))
begun_before key (interval months days micros) cursor e b one z = absurd (omega (arith, b))

pub no_parts : (t : Tree) → IsScalar t → all_parts t ≡ None
no_parts (array ts) s = absurd s
no_parts (object ms) s = absurd s
no_parts null s = refl
no_parts (boolean b) s = refl
no_parts (string mark text) s = refl
no_parts (number n) s = refl
no_parts (binary bytes) s = refl
no_parts (date days) s = refl
no_parts (timestamp micros) s = refl
no_parts (timestamp_tz offset micros) s = refl
no_parts (interval months days micros) s = refl

-- ---- the part at the cursor

-- The first part that is left is at this range, and the cursor is behind it.
pub record NextThere (t : Tree) (left : Open) (cursor : DocumentCursor) (entry : Entry) (parts : Cursor) : Type 0 where
  pub part : Tree
  pub first : first_part left ≡ Some part
  pub readable : IsReadable part
  pub at : IsPartAt t entry.offset part
  pub size_is : entry.size ≡ length (key_of part)
  pub after : cursor.parts.offset ≤ entry.offset
  pub behind : (next : DocumentCursor) → next.parts ≡ parts → IsLeftBehind t (zeros_left next) → IsBefore t (behind_first left) next

-- the counts behind some more
counts_behind : (counts first rest : List ℕ) (offset size end : ℕ) → drop offset counts ≡ first ++ rest → length first ≡ size → end ≡ offset + size → drop end counts ≡ rest
counts_behind counts first rest offset size end e long is = ap (λ n. drop n counts) is ∙ sym (drop-drop size offset counts) ∙ ap (drop size) e ∙ drop_at first rest size long

pub next_there : (t : Tree) (left : Open) (cursor : DocumentCursor) (entry : Entry) (parts : Cursor) → IsProper t → IsBefore t left cursor → IsNextPart (key_of t) left 0 entry parts → entry.offset + entry.size ≡ parts.offset → NextThere t left cursor entry parts
next_there t (items no_trees) cursor entry parts p b n joined = absurd (omega (arith, n))
next_there t (members no_members) cursor entry parts p b n joined = absurd (omega (arith, n))
next_there t (items (more_trees u us)) cursor entry parts p b n joined =
    let s = b.parts in
    let counts = counts_at t in
    let q = s.fits.0.0 in
    let one = one_each t p in
    let all : length (key_of t) ≡ length s.before + (length (key_of u) + length (items_key us)) = ap length s.occurs ∙ length-append s.before (key_of u ++ items_key us) ∙ ap (λ m. length s.before + m) (length-append (key_of u) (items_key us)) in
    let later : length (key_of t) ≡ length n.3.before + length (items_key us) = ap length n.3.occurs ∙ length-append n.3.before (items_key us) in
    let at : length s.before ≡ entry.offset = omega (arith, joined, n.2.size_is, all, later, n.3.offset_is) in
    let taken : length (take cursor.parts.offset counts) ≡ cursor.parts.offset = length-take-le cursor.parts.offset counts (omega (arith, one, all, s.offset_is)) in
    record {
      part = u;
      first = refl;
      readable = readable_inside u (record { proper = q; within = s.fits.1.0 });
      at = (
        s.before,
        at,
        record {
          counts_before = take cursor.parts.offset counts;
          one_each = omega (arith, taken, s.offset_is);
          behind = items_key us;
          counts_behind = counts_at_items us;
          key_is = s.occurs;
          counts_are = sym (take-append-drop cursor.parts.offset counts) ∙ ap (λ l. take cursor.parts.offset counts ++ l) b.counts;
        },
      );
      size_is = n.2.size_is;
      after = omega (arith, at, s.offset_is);
      behind = λ next e z. record {
        parts = subst (λ c. OccursBefore (key_of t) c (items us)) (sym e) n.3;
        counts = counts_behind counts (counts_at u) (counts_at_items us) cursor.parts.offset (length (key_of u)) next.parts.offset b.counts (one_each u q) (ap (λ c. c.offset) e ∙ omega (arith, joined, n.2.size_is, at, s.offset_is));
        zeros = z;
      };
    }
next_there t (members (more_members k u ms)) cursor entry parts p b n joined =
    let s = b.parts in
    let counts = counts_at t in
    let q = s.fits.0.1 in
    let one = one_each t p in
    let inner : length (key_of u ++ members_key ms) ≡ length (key_of u) + length (members_key ms) = length-append (key_of u) (members_key ms) in
    let all : length (key_of t) ≡ length s.before + (length (text_key k) + length (key_of u ++ members_key ms)) =
    ap length s.occurs ∙ length-append s.before (text_key k ++ (key_of u ++ members_key ms)) ∙ ap (λ m. length s.before + m) (length-append (text_key k) (key_of u ++ members_key ms)) in
    let later : length (key_of t) ≡ length n.3.before + length (members_key ms) = ap length n.3.occurs ∙ length-append n.3.before (members_key ms) in
    let named : length (s.before ++ text_key k) ≡ length s.before + length (text_key k) = length-append s.before (text_key k) in
    let at : length (s.before ++ text_key k) ≡ entry.offset = omega (arith, joined, n.2.size_is, all, inner, later, n.3.offset_is, named) in
    let taken : length (take cursor.parts.offset counts) ≡ cursor.parts.offset = length-take-le cursor.parts.offset counts (omega (arith, one, all, s.offset_is)) in
    let none : List ℕ = replicate (length (text_key k)) 0 in
    let first = take cursor.parts.offset counts in
    let entry_long : length (none ++ counts_at u) ≡ length (text_key k) + length (key_of u) = length-append none (counts_at u) ∙ ap₂ (λ m o. m + o) (length-replicate {A = ℕ} (length (text_key k)) 0) (one_each u q) in
    record {
      part = u;
      first = refl;
      readable = readable_inside u (record { proper = q; within = s.fits.1.0 });
      at = (
        s.before ++ text_key k,
        at,
        record {
          counts_before = first ++ none;
          one_each = omega (arith, length-append first none, taken, length-replicate {A = ℕ} (length (text_key k)) 0, named, s.offset_is);
          behind = members_key ms;
          counts_behind = counts_at_members ms;
          key_is = s.occurs ∙ sym (append_assoc s.before (text_key k) (key_of u ++ members_key ms));
          counts_are = sym (take-append-drop cursor.parts.offset counts) ∙ ap (λ l. first ++ l) b.counts ∙ sym (append_assoc first none (counts_at u ++ counts_at_members ms));
        },
      );
      size_is = n.2.size_is;
      after = omega (arith, at, named, s.offset_is);
      behind = λ next e z. record {
        parts = subst (λ c. OccursBefore (key_of t) c (members ms)) (sym e) n.3;
        counts = counts_behind counts (none ++ counts_at u) (counts_at_members ms) cursor.parts.offset (length (text_key k) + length (key_of u)) next.parts.offset
            (b.counts ∙ sym (append_assoc none (counts_at u) (counts_at_members ms))) entry_long (ap (λ c. c.offset) e ∙ omega (arith, joined, n.2.size_is, at, named, s.offset_is));
        zeros = z;
      };
    }

pub none_left : (key : List ℕ) (left : Open) (entry : Entry) (parts : Cursor) → IsNextPart key left 5 entry parts → first_part left ≡ None
none_left key (items no_trees) entry parts n = refl
none_left key (items (more_trees u us)) entry parts n = absurd (omega (arith, n.0))
none_left key (members no_members) entry parts n = refl
none_left key (members (more_members k u ms)) entry parts n = absurd (omega (arith, n.0))

-- only capacity may be missing for a part
pub only_memory : (part : Tree) (old : Vec ℕ Global) (e : DocumentError) → IsWithin IsAnyNumber part max_depth → IsLacking part old e → e ≡ OutOfMemory
only_memory part old NoDocument w h = absurd h
only_memory part old TooDeep w h = absurd (h w)
only_memory part old OutOfMemory w h = refl

pub out_of_memory : {A : Type 0} (r : Result A DocumentError) (error : DocumentError) → IsErrAnd r (λ e. e ≡ error) → error ≡ OutOfMemory → IfErr r (λ e. e ≡ OutOfMemory)
out_of_memory (Ok a) error h is = absurd h
out_of_memory (Err e) error h is = h ∙ is

-- ---- what is written

-- What is reported of the part at the cursor.
abbrev pub ReportsPart : Tree → Open → List ℕ → List ℕ → Option (Entry × DocumentCursor) → Type 0
ReportsPart t left old new answer = MatchOption answer (first_part left ≡ None) (λ reported. (part : Tree) × IsReadable part × (first_part left ≡ Some part) × (new ≡ old ++ document_of part) × IsNextPart (key_of t) left 0 reported.0 reported.1.parts × IsBefore t (behind_first left) reported.1)

pub part_written : (left : Open) (part : Tree) (status size : ℕ) (old new : List ℕ) → first_part left ≡ Some part → IsReadable part → IsWritten (Some (document_of part)) status size old new → IsDocumentAnswer (first_part left) status size old new
part_written left part status size old new first r w = subst (λ o. IsDocumentAnswer o status size old new) (sym first) (inl (r.within, w))

pub no_part_written : (left : Open) (size : ℕ) (old new : List ℕ) → first_part left ≡ None → IsDocumentAnswer (first_part left) 5 size old new
no_part_written left size old new none = subst (λ o. IsDocumentAnswer o 5 size old new) (sym none) refl
