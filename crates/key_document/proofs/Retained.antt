-- What is written of a key that is walked while parts of it are left out.
use Rattle.std.proofs.Common.{◌≡◌, ℕ, ◌+◌, ◌<◌, ◌≤◌, Bool, true, false, ◌||◌, if◌then◌else◌, List, [], ◌++◌, Bor, Option, Some, None, Result, Ok, Err, length, take, drop, refl, sym, ap, ap₂, subst, ◌∙◌, arith, append-nil, append_assoc, length-append}
use Rattle.std.specs.Prelude.{IsErrAnd, MatchResult, Vec, vec_len, vec_capacity}
use Rattle.std.specs.declared.alloc.Global.{Global}
use Rattle.std.proofs.Math.Seq.{drop-append_seam, take-append_seam}
use Rattle.jsonb_spec.specs.SortKey.{key_of}
use Rattle.jsonb_spec.specs.Tree.{Tree}
use Rattle.key_document.specs.Retaining.{AreAhead, Finishes, LeavesOut, Retains, WritesAll, WritesAnswer, WritesOn, output_of, unless}
use Rattle.key_document.specs.declared.error.DocumentError.{DocumentError}
use Rattle.key_document.specs.declared.error.DocumentError.TheVariants.{OutOfMemory}
use Rattle.key_document.specs.declared.retain.Output.{Output}
use Rattle.key_document.specs.declared.retain.Output.TheVariants.{Bytes, Zeros}
use Rattle.key_document.specs.declared.retain.Retaining.{Retaining}
use Rattle.key_document.proofs.Joining.{plain_bound}
use Rattle.jsonb_spec.specs.Document.Numbers.{Pends}
use Rattle.jsonb_spec.specs.Document.Zeros.{plain_at_end, zeros_of}
use Rattle.key_zeros.proofs.Joining.{zeros_joined}
use Rattle.jsonb_spec.specs.Document.Counts.{counts_at}

-- ---- bytes written, and left out

module _ (plain : ℕ) (left : Option (ℕ × ℕ × Bor (List ℕ))) (counts behind : List ℕ) (size : ℕ) (long : length counts ≡ size) where
  pub taken : take size (counts ++ behind) ≡ counts
  taken = ap (λ n. take n (counts ++ behind)) (sym long) ∙ take-append_seam counts behind

  pub dropped : drop size (counts ++ behind) ≡ behind
  dropped = ap (λ n. drop n (counts ++ behind)) (sym long) ∙ drop-append_seam counts behind

  pub zeros_written : (o : Output) (bytes : List ℕ) (old new : Vec ℕ Global) (more : ℕ) (rest : Option (ℕ × ℕ × Bor (List ℕ))) → o ≡ Zeros plain left → AreAhead (Zeros plain left) (counts ++ behind)
      → (new.items ≡ old.items ++ zeros_of plain (take size (counts ++ behind))) × (more ≡ plain_at_end plain (take size (counts ++ behind))) × Pends (drop size (counts ++ behind)) rest
      → WritesOn o bytes counts behind (Ok (Zeros more rest)) old new
  zeros_written o bytes old new more rest is a x =
      let more_is : more ≡ plain_at_end plain counts = x.1 ∙ ap (plain_at_end plain) taken in
      subst (λ y. WritesOn y bytes counts behind (Ok (Zeros more rest)) old new) (sym is) (
        x.0 ∙ ap (λ l. old.items ++ zeros_of plain l) taken,
        (subst (λ l. Pends l rest) dropped x.2, omega (arith, a.1, more_is, plain_bound plain counts, length-append counts behind)),
        λ later later_counts. zeros_joined plain counts later_counts ∙ ap (λ n. zeros_of plain counts ++ zeros_of n later_counts) (sym more_is),
      )

-- what is written of bytes is part of what is written of more
pub front_output : (o : Output) (bytes more counts more_counts : List ℕ) → length (output_of o bytes counts) ≤ length (output_of o (bytes ++ more) (counts ++ more_counts))
front_output Bytes bytes more counts more_counts = omega (arith, length-append bytes more)
front_output (Zeros plain left) bytes more counts more_counts = omega (arith, ap length (zeros_joined plain counts more_counts), length-append (zeros_of plain counts) (zeros_of (plain_at_end plain counts) more_counts))

-- ---- bytes passed

module _ (first : Output) (bytes counts : List ℕ) (old : List ℕ) where
  pub retains_begun : (retaining : Retaining) (ahead ahead_counts before before_counts later later_counts : List ℕ) → retaining.output ≡ first → length before_counts ≡ length before → retaining.pending.now ≡ before ++ ahead → AreAhead first (before_counts ++ ahead_counts)
      → bytes ≡ before ++ later → counts ≡ before_counts ++ later_counts → Retains first bytes counts ahead ahead_counts later later_counts retaining old old
  retains_begun retaining ahead ahead_counts before before_counts later later_counts same each e a b c = record {
    waiting = before;
    waiting_counts = before_counts;
    each = each;
    pending_is = e;
    are_ahead = subst (λ o. AreAhead o (before_counts ++ ahead_counts)) (sym same) a;
    piece = [];
    appended = sym (append-nil old);
    whole = ap₂ (output_of first) b c ∙ ap (λ o. output_of o (before ++ later) (before_counts ++ later_counts)) (sym same);
    nothing = λ h. refl;
  }

  module _ (one one_counts behind ahead_counts later later_counts : List ℕ) (each : length one_counts ≡ length one) where
    pub stays : (retaining : Retaining) (here new : List ℕ) → here ≡ one ++ behind → Retains first bytes counts here (one_counts ++ ahead_counts) (one ++ later) (one_counts ++ later_counts) retaining old new
        → Retains first bytes counts behind ahead_counts later later_counts retaining old new
    stays retaining here new e r = record {
      waiting = r.waiting ++ one;
      waiting_counts = r.waiting_counts ++ one_counts;
      each = omega (arith, r.each, each, length-append r.waiting one, length-append r.waiting_counts one_counts);
      pending_is = r.pending_is ∙ ap (λ b. r.waiting ++ b) e ∙ sym (append_assoc r.waiting one behind);
      are_ahead = subst (AreAhead retaining.output) (sym (append_assoc r.waiting_counts one_counts ahead_counts)) r.are_ahead;
      piece = r.piece;
      appended = r.appended;
      whole = r.whole ∙ ap₂ (λ b c. r.piece ++ output_of retaining.output b c) (sym (append_assoc r.waiting one later)) (sym (append_assoc r.waiting_counts one_counts later_counts));
      nothing = r.nothing;
    }

    -- what was written before what goes
    pub goes : (retaining : Retaining) (here : List ℕ) (mid new : List ℕ) (output : Output) (next : Retaining) → (r : Retains first bytes counts here (one_counts ++ ahead_counts) later later_counts retaining old mid)
        → new ≡ mid ++ output_of retaining.output r.waiting r.waiting_counts
        → ((more more_counts : List ℕ) → output_of retaining.output (r.waiting ++ more) (r.waiting_counts ++ more_counts) ≡ output_of retaining.output r.waiting r.waiting_counts ++ output_of output more more_counts)
        → AreAhead next.output ahead_counts → ((more more_counts : List ℕ) → output_of next.output more more_counts ≡ output_of output more more_counts)
        → next.pending.now ≡ behind → next.found ≡ true → Retains first bytes counts behind ahead_counts later later_counts next old new
    goes retaining here mid new output next r e on a same is found =
        let written = output_of retaining.output r.waiting r.waiting_counts in
        record {
          waiting = [];
          waiting_counts = [];
          each = refl;
          pending_is = is;
          are_ahead = a;
          piece = r.piece ++ written;
          appended = e ∙ ap (λ l. l ++ written) r.appended ∙ append_assoc old r.piece written;
          whole = r.whole ∙ ap (λ l. r.piece ++ l) (on later later_counts ∙ ap (λ l. written ++ l) (sym (same later later_counts))) ∙ sym (append_assoc r.piece written (output_of next.output later later_counts));
          nothing = λ h. absurd (no_false next.found found h);
        }
      where
        no_false : (b : Bool) → b ≡ true → b ≡ false → ⊥
        no_false b e f = cc

-- what is written next is a part of the whole
pub within : (first : Output) (bytes counts old ahead ahead_counts later later_counts : List ℕ) (retaining : Retaining) (new : List ℕ) (r : Retains first bytes counts ahead ahead_counts later later_counts retaining old new)
    → length new + length (output_of retaining.output r.waiting r.waiting_counts) ≤ length old + length (output_of first bytes counts)
within first bytes counts old ahead ahead_counts later later_counts retaining new r =
    omega (arith, ap length r.appended, length-append old r.piece, ap length r.whole, length-append r.piece (output_of retaining.output (r.waiting ++ later) (r.waiting_counts ++ later_counts)), front_output retaining.output r.waiting later r.waiting_counts later_counts)

-- ---- what is reported

-- bytes are passed, which stay or go
abbrev Passes : Output → List ℕ → List ℕ → List ℕ → List ℕ → List ℕ → List ℕ → List ℕ → Bool → Retaining → Result Retaining DocumentError → Vec ℕ Global → Vec ℕ Global → Type 0
Passes first bytes counts old behind ahead_counts later later_counts gone retaining r mid new = MatchResult r
    (λ next. Retains first bytes counts behind ahead_counts later later_counts next old new.items × (next.found ≡ (retaining.found || gone)))
    (λ e. (gone ≡ true) × (e ≡ OutOfMemory) × (vec_capacity mid < length old + length (output_of first bytes counts)))

-- bytes before others are written, which go
abbrev Writes : Output → List ℕ → List ℕ → List ℕ → List ℕ → List ℕ → List ℕ → List ℕ → Result Retaining DocumentError → Vec ℕ Global → Vec ℕ Global → Type 0
Writes first bytes counts old behind ahead_counts later later_counts r mid new = MatchResult r
    (λ next. Retains first bytes counts behind ahead_counts later later_counts next old new.items × (next.found ≡ true))
    (λ e. (e ≡ OutOfMemory) × (vec_capacity mid < length old + length (output_of first bytes counts)))

or_false : (a b : Bool) → b ≡ false → a ≡ (a || b)
or_false true b e = refl
or_false false b e = sym e

or_true : (a : Bool) → true ≡ (a || true)
or_true true = refl
or_true false = refl

no_both : (b : Bool) → b ≡ true → b ≡ false → ⊥
no_both b e f = cc

module _ (first : Output) (bytes counts old one one_counts here behind ahead_counts later later_counts : List ℕ) (retaining : Retaining) (mid new : Vec ℕ Global) (here_is : here ≡ one ++ behind) (each : length one_counts ≡ length one) where
  pub pass_stays : (gone : Bool) → gone ≡ false → Retains first bytes counts here (one_counts ++ ahead_counts) (unless gone one later) (unless gone one_counts later_counts) retaining old mid.items
      → Passes first bytes counts old behind ahead_counts later later_counts gone retaining (Ok retaining) mid mid
  pass_stays true is r = absurd (no_both true refl is)
  pass_stays false is r = (stays first bytes counts old one one_counts behind ahead_counts later later_counts each retaining here mid.items here_is r, or_false retaining.found false refl)

  pub pass_goes : (gone : Bool) → gone ≡ true → (r : Result Retaining DocumentError) → Retains first bytes counts here (one_counts ++ ahead_counts) (unless gone one later) (unless gone one_counts later_counts) retaining old mid.items
      → (Retains first bytes counts here (one_counts ++ ahead_counts) later later_counts retaining old mid.items → Writes first bytes counts old behind ahead_counts later later_counts r mid new)
      → Passes first bytes counts old behind ahead_counts later later_counts gone retaining r mid new
  pass_goes true is (Ok next) s w = let x = w s in (x.0, x.1 ∙ or_true retaining.found)
  pass_goes true is (Err e) s w = let x = w s in (refl, x.0, x.1)
  pass_goes false is r s w = absurd (no_both false is refl)

  pub write_lacks : (s : Retains first bytes counts here (one_counts ++ ahead_counts) later later_counts retaining old mid.items) (r : Result Retaining DocumentError) (error : DocumentError) (written : List ℕ) → IsErrAnd r (λ e. e ≡ error)
      → written ≡ s.waiting → (error ≡ OutOfMemory) × (vec_capacity mid < vec_len mid + length (output_of retaining.output written s.waiting_counts)) → Writes first bytes counts old behind ahead_counts later later_counts r mid new
  write_lacks s (Ok x) error written h same full = absurd h
  write_lacks s (Err e) error written h same full = (
    h ∙ full.0,
    omega (arith, full.1, ap (λ w. length (output_of retaining.output w s.waiting_counts)) same, mid.ok.0, within first bytes counts old here (one_counts ++ ahead_counts) later later_counts retaining mid.items s),
  )

  pub write_goes : (s : Retains first bytes counts here (one_counts ++ ahead_counts) later later_counts retaining old mid.items) (output : Output) (next : Retaining) (written : List ℕ) → written ≡ s.waiting
      → WritesOn retaining.output written s.waiting_counts (one_counts ++ ahead_counts) (Ok output) mid new → LeavesOut output ahead_counts (Ok next.output) → next.pending.now ≡ behind → next.found ≡ true
      → Writes first bytes counts old behind ahead_counts later later_counts (Ok next) mid new
  write_goes s output next written same w l p f =
      let x = subst (λ b. WritesOn retaining.output b s.waiting_counts (one_counts ++ ahead_counts) (Ok output) mid new) same w in
      (goes first bytes counts old one one_counts behind ahead_counts later later_counts each retaining here mid.items new.items output next s x.0 x.2 l.0 l.1 p f, f)

-- all that is left is written
module _ (first : Output) (bytes counts old last last_counts : List ℕ) (retaining : Retaining) (mid new : Vec ℕ Global) (s : Retains first bytes counts last last_counts last last_counts retaining old mid.items) where
  pub rest_ahead : AreAhead retaining.output ((s.waiting_counts ++ last_counts) ++ [])
  rest_ahead = subst (AreAhead retaining.output) (sym (append-nil (s.waiting_counts ++ last_counts))) s.are_ahead

  pub rest_each : length last_counts ≡ length last → length (s.waiting_counts ++ last_counts) ≡ length retaining.pending.now
  rest_each each = omega (arith, each, s.each, ap length s.pending_is, length-append s.waiting_counts last_counts, length-append s.waiting last)

  whole_output : output_of first bytes counts ≡ s.piece ++ output_of retaining.output retaining.pending.now (s.waiting_counts ++ last_counts)
  whole_output = s.whole ∙ ap (λ b. s.piece ++ output_of retaining.output b (s.waiting_counts ++ last_counts)) (sym s.pending_is)

  pub rest_written : new.items ≡ mid.items ++ output_of retaining.output retaining.pending.now (s.waiting_counts ++ last_counts) → new.items ≡ old ++ output_of first bytes counts
  rest_written e = e ∙ ap (λ m. m ++ output_of retaining.output retaining.pending.now (s.waiting_counts ++ last_counts)) s.appended ∙ append_assoc old s.piece (output_of retaining.output retaining.pending.now (s.waiting_counts ++ last_counts)) ∙ ap (λ w. old ++ w) (sym whole_output)

  pub rest_lacks : {X : Type 0} (r : Result X DocumentError) (error : DocumentError) → IsErrAnd r (λ e. e ≡ error) → (error ≡ OutOfMemory) × (vec_capacity mid < vec_len mid + length (output_of retaining.output retaining.pending.now (s.waiting_counts ++ last_counts)))
      → MatchResult r (λ x. new.items ≡ old ++ output_of first bytes counts) (λ e. (e ≡ OutOfMemory) × (vec_capacity mid < length old + length (output_of first bytes counts)))
  rest_lacks (Ok x) error h full = absurd h
  rest_lacks (Err e) error h full =
      (h ∙ full.0, omega (arith, full.1, mid.ok.0, ap length s.appended, length-append old s.piece, ap length whole_output, length-append s.piece (output_of retaining.output retaining.pending.now (s.waiting_counts ++ last_counts))))

-- ---- one step

-- The next bytes of a key with counts stay or go; so much of all stays then, and so much of what is behind them.
pub record PassedNext (gone : Bool) (key counts later later_counts behind behind_counts rest rest_counts : List ℕ) : Type 0 where
  pub one : List ℕ
  pub one_counts : List ℕ
  pub each : length one_counts ≡ length one
  pub key_is : key ≡ one ++ behind
  pub counts_are : counts ≡ one_counts ++ behind_counts
  pub later_is : later ≡ unless gone one rest
  pub later_counts_are : later_counts ≡ unless gone one_counts rest_counts

pub next_ready : (first : Output) (bytes all old : List ℕ) (gone : Bool) (key counts later later_counts behind behind_counts rest rest_counts : List ℕ) (retaining : Retaining) (new : List ℕ)
    → (p : PassedNext gone key counts later later_counts behind behind_counts rest rest_counts) → Retains first bytes all key counts later later_counts retaining old new
    → Retains first bytes all key (p.one_counts ++ behind_counts) (unless gone p.one rest) (unless gone p.one_counts rest_counts) retaining old new
next_ready first bytes all old gone key counts later later_counts behind behind_counts rest rest_counts retaining new p r =
    subst (λ l. Retains first bytes all key (p.one_counts ++ behind_counts) (unless gone p.one rest) l retaining old new) p.later_counts_are
    (subst (λ l. Retains first bytes all key (p.one_counts ++ behind_counts) l later_counts retaining old new) p.later_is
    (subst (λ l. Retains first bytes all key l later later_counts retaining old new) p.counts_are r))

-- bytes that stay
pub stays_next : (first : Output) (bytes all old : List ℕ) (key counts later later_counts behind behind_counts rest rest_counts : List ℕ) (retaining : Retaining) (new : List ℕ)
    → PassedNext false key counts later later_counts behind behind_counts rest rest_counts → Retains first bytes all key counts later later_counts retaining old new → Retains first bytes all behind behind_counts rest rest_counts retaining old new
stays_next first bytes all old key counts later later_counts behind behind_counts rest rest_counts retaining new p r =
    stays first bytes all old p.one p.one_counts behind behind_counts rest rest_counts p.each retaining key new p.key_is
    (next_ready first bytes all old false key counts later later_counts behind behind_counts rest rest_counts retaining new p r)

-- ---- the end

abbrev answer_if : Bool → Tree → Option Tree
answer_if b t = if b then Some t else None

pub answer_finished : (first : Output) (t : Tree) (any found : Bool) (r : Result Bool DocumentError) (old mid new : Vec ℕ Global) → any ≡ found → vec_capacity old ≤ vec_capacity mid → Finishes first t found old.items r mid new → WritesAnswer first (if any then Some t else None) r old new
answer_finished first t any found (Ok true) old mid new same most h =
    subst (λ b. WritesAnswer first (answer_if b t) (Ok true) old new) (h.0 ∙ sym same) (refl, h.1)
answer_finished first t any found (Ok false) old mid new same most h =
    subst (λ b. WritesAnswer first (answer_if b t) (Ok false) old new) (h.0 ∙ sym same) (refl, h.1)
answer_finished first t any found (Err e) old mid new same most h =
    subst (λ b. WritesAnswer first (answer_if b t) (Err e) old new) (sym (same ∙ h.0)) (h.1, omega (arith, h.2, most, old.ok.0))

-- the capacity for what stays is missing
pub answer_lacking : (first : Output) (t : Tree) (any : Bool) (r : Result Bool DocumentError) (error : DocumentError) (old mid new : Vec ℕ Global) → any ≡ true → IsErrAnd r (λ e. e ≡ error) → error ≡ OutOfMemory → vec_capacity old ≤ vec_capacity mid
    → vec_capacity mid < length old.items + length (output_of first (key_of t) (counts_at t)) → WritesAnswer first (if any then Some t else None) r old new
answer_lacking first t any (Ok x) error old mid new goes is out most full = absurd is
answer_lacking first t any (Err e) error old mid new goes is out most full =
    subst (λ b. WritesAnswer first (answer_if b t) (Err e) old new) (sym goes) (is ∙ out, omega (arith, full, most, old.ok.0))

pub nothing_written : (first : Output) (answer : Option Tree) (old : Vec ℕ Global) → answer ≡ None → WritesAnswer first answer (Ok false) old old
nothing_written first answer old e = subst (λ o. WritesAnswer first o (Ok false) old old) (sym e) (refl, refl)

-- what is written where there is an answer
pub some_written : (first : Output) (answer : Option Tree) (t : Tree) (changed : Bool) (old new : Vec ℕ Global) → answer ≡ Some t → WritesAnswer first answer (Ok changed) old new → (changed ≡ true) × (new.items ≡ old.items ++ output_of first (key_of t) (counts_at t))
some_written first answer t changed old new e w = subst (λ o. WritesAnswer first o (Ok changed) old new) e w

pub some_lacks : (first : Output) (answer : Option Tree) (t : Tree) (error : DocumentError) (old new : Vec ℕ Global) → answer ≡ Some t → WritesAnswer first answer (Err error) old new → (error ≡ OutOfMemory) × (vec_capacity old < vec_len old + length (output_of first (key_of t) (counts_at t)))
some_lacks first answer t error old new e w = subst (λ o. WritesAnswer first o (Err error) old new) e w

-- all that was asked for is written
pub all_written : {X : Type 0} (first : Output) (t : Tree) (r : Result X DocumentError) (old mid new : Vec ℕ Global) → vec_capacity old ≤ vec_capacity mid
    → MatchResult r (λ x. new.items ≡ old.items ++ output_of first (key_of t) (counts_at t)) (λ e. (e ≡ OutOfMemory) × (vec_capacity mid < length old.items + length (output_of first (key_of t) (counts_at t)))) → WritesAll first t r old new
all_written first t (Ok x) old mid new most h = h
all_written first t (Err e) old mid new most h = (h.0, omega (arith, h.1, most, old.ok.0))

pub all_lacks : {X : Type 0} (first : Output) (t : Tree) (r : Result X DocumentError) (error : DocumentError) (old mid new : Vec ℕ Global) → IsErrAnd r (λ e. e ≡ error) → vec_capacity old ≤ vec_capacity mid
    → (error ≡ OutOfMemory) × (vec_capacity mid < length old.items + length (output_of first (key_of t) (counts_at t))) → WritesAll first t r old new
all_lacks first t (Ok x) error old mid new h most full = absurd h
all_lacks first t (Err e) error old mid new h most full = (h ∙ full.0, omega (arith, full.1, most, old.ok.0))
