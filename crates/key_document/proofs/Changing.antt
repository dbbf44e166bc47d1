-- Documents of changed values, from what is appended of their keys and their zeros.
use Rattle.std.proofs.Common.{◌≡◌, ℕ, ◌+◌, ◌^◌, ◌<◌, ◌≤◌, Bool, true, false, ◌⊎◌, inl, inr, List, [], ◌++◌, Option, Some, None, MatchOption, Result, Ok, Err, length, take, refl, sym, ap, subst, ◌∙◌, arith, append_assoc, length-append}
use Rattle.std.specs.Prelude.{IfOk, IsErrAnd, Vec, vec_len, vec_capacity}
use Rattle.std.specs.declared.alloc.Global.{Global}
use Rattle.std.proofs.Math.Seq.{take-append_seam}
use Rattle.jsonb_spec.specs.SortKey.Readable.{IsAnyNumber}
use Rattle.jsonb_spec.specs.Grammar.{max_depth}
use Rattle.jsonb_spec.specs.Proper.{IsProper}
use Rattle.jsonb_spec.specs.SortKey.{key_of}
use Rattle.jsonb_spec.specs.Text.Appending.{Extends}
use Rattle.jsonb_spec.specs.Text.Range.{IsWithin}
use Rattle.jsonb_spec.specs.Tree.{Tree}
use Rattle.key_document.specs.Changes.{Answers, AppendsDocument, IsLacking, as_document_error}
use Rattle.jsonb_spec.specs.Document.PartAt.{PreservesOnError}
use Rattle.jsonb_spec.specs.Document.{behind_key, document_of, zeros_at}
use Rattle.key_document.specs.Splices.{AppendsZeros, CutsOnError, AreSpliced, PutsPart, spliced_counts}
use Rattle.jsonb_spec.specs.Edit.Splices.{Cut, IsSplice, Spliced, entry_counts}
use Rattle.key_document.specs.declared.error.DocumentError.{DocumentError}
use Rattle.key_document.specs.declared.error.DocumentError.TheVariants.{OutOfMemory}
use Rattle.key_document.specs.declared.splice.Lengths.{Lengths}
use Rattle.key_document.proofs.Agreeing.{agree}
use Rattle.key_text.proofs.Counts.{one_each}
use Rattle.jsonb_spec.specs.Edit.Insert.{add}
use Rattle.jsonb_spec.specs.Edit.{Outcome, stays, goes, becomes, changed_at, remove, set_to, without_part}
use Rattle.key_edit.specs.Edit.{IsLacking as KeyLacks}
use Rattle.jsonb_spec.specs.Edit.Spots.{Answers as SpotAnswers}
use Rattle.key_edit.specs.Spots.{SlotIn, Occurs}
use Rattle.key_edit.specs.declared.error.EditError.{EditError}
use Rattle.key_edit.specs.declared.error.EditError.TheVariants as edits
use Rattle.key_edit.specs.declared.slot.Slot.{Slot}
use Rattle.jsonb_spec.specs.Document.Zeros.{zeros_of}
use Rattle.jsonb_spec.specs.Document.Counts.{counts_at}

pub false_true : false ≡ true → ⊥
false_true e = cc

pub none_some : {A : Type 0} {a : A} → None ≡ Some a → ⊥
none_some e = cc

-- ---- the counts of a changed value

-- A value was changed at a slot: the counts of its key's bytes before the slot and behind it stay, and those of the
-- part are between them, behind the name, which has none.
pub record ChangedAt (t v : Tree) (part : List ℕ) (front behind : ℕ) : Type 0 where
  pub first : List ℕ
  pub entry : List ℕ
  pub last : List ℕ
  pub name : ℕ
  pub counts_are : counts_at t ≡ first ++ (entry ++ last)
  pub changed_are : counts_at v ≡ spliced_counts first name part last
  pub first_is : length first ≡ front
  pub last_is : length last ≡ behind
  pub long : length (key_of v) ≡ front + (name + (length part + behind))

put_splice : (cut : Cut) (u v : Tree) (outcome : Outcome) → (outcome ≡ becomes u) ⊎ (outcome ≡ stays) → IsSplice key_of counts_at cut outcome (Some v) → IsSplice key_of counts_at cut (becomes u) (Some v)
put_splice cut u v outcome (inl e) h = subst (λ o. IsSplice key_of counts_at cut o (Some v)) e h
put_splice cut u v outcome (inr e) h = absurd (subst (λ o. IsSplice key_of counts_at cut o (Some v)) e h)

pub set_puts : (u : Tree) (create : Bool) → PutsPart u (set_to u create)
set_puts u create (Some w) = inl refl
set_puts u true None = inl refl
set_puts u false None = inr refl

pub add_puts : (u : Tree) → PutsPart u (add u)
add_puts u (Some w) = inr refl
add_puts u None = inl refl

remove_splice : (cut : Cut) (v : Tree) (there : Option Tree) → IsSplice key_of counts_at cut (remove there) (Some v) → IsSplice key_of counts_at cut goes (Some v)
remove_splice cut v (Some w) h = h
remove_splice cut v None h = absurd h

module _ (t v : Tree) (changed : (Option Tree → Outcome) → Option Tree) (key : List ℕ) (slot : Slot) (splices : Spliced key_of counts_at t changed) (s : SlotIn changed key slot) where
  pub put_changes : (u : Tree) (change : Option Tree → Outcome) → PutsPart u change → IsProper u → changed change ≡ Some v → ChangedAt t v (counts_at u) (length s.0.front) (length slot.behind.now)
  put_changes u change puts q is = elim splices [
    | inl none ↦ absurd (none_some (sym (none change) ∙ is))
    | inr x ↦
        let a = agree t changed key slot s x in
        let h = put_splice x.cut u v (change x.there) (puts x.there) (subst (λ o. IsSplice key_of counts_at x.cut (change x.there) o) is (x.answers change)) in
        record {
          first = x.cut.counts_front;
          entry = entry_counts x.cut.name x.there;
          last = x.cut.counts_behind;
          name = length x.cut.name;
          counts_are = x.counts_are;
          changed_are = h.1;
          first_is = omega (arith, x.one_each, ap length a.front_is);
          last_is = omega (arith, x.each_behind, ap length a.behind_is);
          long = omega (arith, ap length h.0, ap length a.front_is, ap length a.behind_is, one_each u q, length-append x.cut.front (x.cut.name ++ (key_of u ++ x.cut.behind)), length-append x.cut.name (key_of u ++ x.cut.behind), length-append (key_of u) x.cut.behind);
        }
  ]

  pub remove_changes : changed remove ≡ Some v → ChangedAt t v [] (length s.0.front) (length slot.behind.now)
  remove_changes is = elim splices [
    | inl none ↦ absurd (none_some (sym (none remove) ∙ is))
    | inr x ↦
        let a = agree t changed key slot s x in
        let h = remove_splice x.cut v x.there (subst (λ o. IsSplice key_of counts_at x.cut (remove x.there) o) is (x.answers remove)) in
        record {
          first = x.cut.counts_front;
          entry = entry_counts x.cut.name x.there;
          last = x.cut.counts_behind;
          name = 0;
          counts_are = x.counts_are;
          changed_are = h.1;
          first_is = omega (arith, x.one_each, ap length a.front_is);
          last_is = omega (arith, x.each_behind, ap length a.behind_is);
          long = omega (arith, ap length h.0, ap length a.front_is, ap length a.behind_is, length-append x.cut.front x.cut.behind);
        }
  ]

module _ {t v : Tree} {part : List ℕ} {front behind : ℕ} (x : ChangedAt t v part front behind) where
  pub are_spliced : (zeros part_zeros : List ℕ) (key_len : ℕ) (lengths : Lengths) → IsProper t → zeros ≡ zeros_at t → part_zeros ≡ zeros_of 0 part → key_len ≡ length (key_of t)
      → lengths.front ≡ front → lengths.name ≡ x.name → lengths.part ≡ length part → lengths.behind ≡ behind → key_len < 2 ^ 63 → length (key_of v) < 2 ^ 63
      → AreSpliced key_len zeros part_zeros lengths x.first x.entry part x.last
  are_spliced zeros part_zeros key_len lengths p z pz k f n l b small fit = record {
    zeros_are = z ∙ ap (zeros_of 0) x.counts_are;
    part_are = pz;
    key_is = omega (arith, k, one_each t p, ap length x.counts_are, length-append x.first (x.entry ++ x.last), length-append x.entry x.last);
    front_is = omega (arith, f, x.first_is);
    part_is = l;
    behind_is = omega (arith, b, x.last_is);
    small = small;
    fit = omega (arith, fit, x.long, n, x.first_is, x.last_is);
  }

  pub as_tail : (name : ℕ) → name ≡ x.name → behind_key (zeros_of 0 (spliced_counts x.first name part x.last)) ≡ behind_key (zeros_at v)
  as_tail name e = ap (λ n. behind_key (zeros_of 0 (spliced_counts x.first n part x.last))) e ∙ ap (λ counts. behind_key (zeros_of 0 counts)) (sym x.changed_are)

-- ---- what is reported

-- There is an answer, of which this is so.
pub record Reported (answer : Option Tree) (P : Tree → Type 0) : Type 0 where
  pub tree : Tree
  pub is : answer ≡ Some tree
  pub holds : P tree

pub reported : (answer : Option Tree) (P : Tree → Type 0) → MatchOption answer ⊥ P → Reported answer P
reported None P h = absurd h
reported (Some v) P h = record { tree = v; is = refl; holds = h }

pub removed : (names : List (List ℕ)) (t : Tree) (key : List ℕ) (slot : Slot) (s : SlotIn (λ change. changed_at change names t) key slot) → slot.spot.found ≡ true
    → Reported (without_part names t) (λ v. (key_of v ≡ s.0.front ++ slot.behind.now) × IsWithin IsAnyNumber v max_depth)
removed names t key slot s found = go s.0.there s.0.occurs (without_part names t) refl (s.0.answers remove)
  where
    go : (there : Option Tree) → Occurs slot.object s.0.name slot.spot s.0.behind there → (o : Option Tree) → without_part names t ≡ o
        → SpotAnswers key_of (λ u. IsWithin IsAnyNumber u max_depth) slot.object s.0.name s.0.front s.0.behind slot.depth_left (remove there) o
        → Reported (without_part names t) (λ v. (key_of v ≡ s.0.front ++ slot.behind.now) × IsWithin IsAnyNumber v max_depth)
    go None st o e a = absurd (false_true (sym st.0 ∙ found))
    go (Some w) st None e a = absurd a
    go (Some w) st (Some v) e a = record { tree = v; is = e; holds = (a.0 ∙ ap (λ b. s.0.front ++ b) s.1, a.1) }

-- the document is appended, and that is reported
answered : (answer : Option Tree) (v : Tree) (reported : Bool) (old mid new : Vec ℕ Global) (tail : List ℕ) → answer ≡ Some v → IsWithin IsAnyNumber v max_depth → mid.items ≡ old.items ++ key_of v → tail ≡ behind_key (zeros_at v) → new.items ≡ mid.items ++ tail → reported ≡ true → Answers answer (Ok reported) old new
answered answer v reported old mid new tail is fits appended e more so = subst (λ o. Answers o (Ok reported) old new) (sym is)
    (record { ok = more ∙ ap (λ t. mid.items ++ t) e ∙ ap (λ m. m ++ behind_key (zeros_at v)) appended ∙ append_assoc old.items (key_of v) (behind_key (zeros_at v)); fits = fits; errors = tt }, so)

-- the capacity for the zeros is missing
lacking : (answer : Option Tree) (v : Tree) (error : DocumentError) (old mid new : Vec ℕ Global) (tail : List ℕ) → answer ≡ Some v → mid.items ≡ old.items ++ key_of v → vec_capacity old ≤ vec_capacity mid → tail ≡ behind_key (zeros_at v)
    → (error ≡ OutOfMemory) × (vec_capacity mid < vec_len mid + length tail) → Answers answer (Err error) old new
lacking answer v error old mid new tail is appended depth_left e full =
    let short : vec_capacity old < vec_len old + length (document_of v) = omega (arith, full.1, depth_left, ap length e, old.ok.0, mid.ok.0, ap length appended, length-append old.items (key_of v), length-append (key_of v) (behind_key (zeros_at v))) in
    subst (λ o. Answers o (Err error) old new) (sym is) (record { ok = tt; fits = tt; errors = subst (λ error. IsLacking v old error) (sym full.0) short }, tt)

-- the zeros follow the key that was appended, or the capacity for them is missing
pub finished : (answer : Option Tree) (v : Tree) (r : Result Bool DocumentError) (old mid new : Vec ℕ Global) (tail : List ℕ) → answer ≡ Some v → IsWithin IsAnyNumber v max_depth → mid.items ≡ old.items ++ key_of v → vec_capacity old ≤ vec_capacity mid → tail ≡ behind_key (zeros_at v)
    → AppendsZeros r mid new tail → IfOk r (λ reported. reported ≡ true) → Answers answer r old new
finished answer v (Ok reported) old mid new tail is fits appended depth_left e more so = answered answer v reported old mid new tail is fits appended e more so
finished answer v (Err error) old mid new tail is fits appended depth_left e full so = lacking answer v error old mid new tail is appended depth_left e full

-- the key isn't appended
key_lacks : (v : Tree) (old : Vec ℕ Global) (error : EditError) → KeyLacks v old error → IsLacking v old (as_document_error error)
key_lacks v old edits.NoKey h = absurd h
key_lacks v old edits.TooDeep h = h
key_lacks v old edits.OutOfMemory h = omega (arith, h, length-append (key_of v) (behind_key (zeros_at v)))

pub no_key_appended : (answer : Option Tree) (v : Tree) (r : Result Bool DocumentError) (error : EditError) (old new : Vec ℕ Global) → answer ≡ Some v → IsErrAnd r (λ e. e ≡ as_document_error error) → KeyLacks v old error → Answers answer r old new
no_key_appended answer v (Ok b) error old new is h lacks = absurd h
no_key_appended answer v (Err e) error old new is h lacks = subst (λ o. Answers o (Err e) old new) (sym is) (record { ok = tt; fits = tt; errors = subst (λ e. IsLacking v old e) (sym h) (key_lacks v old error lacks) }, tt)

-- the buffer is cut to what was in it
pub cut_back : (before mid new : List ℕ) → Extends before mid → Extends mid new → (n : ℕ) → length before ≡ n → take n new ≡ before
cut_back before mid new first second n is =
    ap (take n) (second.extended ∙ ap (λ m. m ++ second.more) first.extended ∙ append_assoc before first.more second.more)
    ∙ ap (λ k. take k (before ++ (first.more ++ second.more))) (sym is) ∙ take-append_seam before (first.more ++ second.more)

pub cuts : (start : ℕ) (r : Result Bool DocumentError) (old mid new : Vec ℕ Global) → CutsOnError start r mid new → start ≡ vec_len old → Extends old.items mid.items → vec_capacity old ≤ vec_capacity mid → PreservesOnError r old new
cuts start (Ok reported) old mid new c is more depth_left = record { err = tt; capacity = omega (arith, c.capacity, depth_left) }
cuts start (Err error) old mid new c is more depth_left = record { err = c.err old.items (omega (arith, is, old.ok.0)) more; capacity = omega (arith, c.capacity, depth_left) }

-- there is no answer
pub nothing_appended : (answer : Option Tree) (old : Vec ℕ Global) → answer ≡ None → Answers answer (Ok false) old old
nothing_appended answer old e = subst (λ o. Answers o (Ok false) old old) (sym e) (refl, refl)

-- the capacity for the key is missing
pub key_lacking : {X : Type 0} (v : Tree) (r : Result X DocumentError) (old new : Vec ℕ Global) → IsErrAnd r (λ e. e ≡ OutOfMemory) → vec_capacity old < vec_len old + length (key_of v) → AppendsDocument v r old new
key_lacking v (Ok x) old new is full = absurd is
key_lacking v (Err e) old new is full = record { ok = tt; fits = tt; errors = subst (λ e. IsLacking v old e) (sym is) (omega (arith, full, length-append (key_of v) (behind_key (zeros_at v)))) }

-- the key of the changed value isn't appended
pub edit_lacking : {X : Type 0} (v : Tree) (r : Result X DocumentError) (error : EditError) (old new : Vec ℕ Global) → IsErrAnd r (λ e. e ≡ as_document_error error) → KeyLacks v old error → AppendsDocument v r old new
edit_lacking v (Ok x) error old new h lacks = absurd h
edit_lacking v (Err e) error old new h lacks = record { ok = tt; fits = tt; errors = subst (λ e. IsLacking v old e) (sym h) (key_lacks v old error lacks) }

-- the capacity for the key of the answer is missing
pub answer_lacking : (answer : Option Tree) (v : Tree) (r : Result Bool DocumentError) (old new : Vec ℕ Global) → answer ≡ Some v → IsErrAnd r (λ e. e ≡ OutOfMemory) → vec_capacity old < vec_len old + length (key_of v) → Answers answer r old new
answer_lacking answer v (Ok b) old new is h full = absurd h
answer_lacking answer v (Err e) old new is h full = subst (λ o. Answers o (Err e) old new) (sym is) (key_lacking v (Err e) old new h full, tt)
