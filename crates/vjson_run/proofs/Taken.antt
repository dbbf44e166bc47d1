-- A text more that a session has taken.
use Rattle.std.proofs.Common.{◌≡◌, ◌≢◌, ℕ, ◌&&◌, Bool, true, false, List, [], ◌∷◌, ◌++◌, Option, None, Some, MatchBool, MatchOption, Vec, All, not, if◌then◌else◌, refl, sym, ap, subst, ◌∙◌, append_assoc, append-nil}
use Rattle.std.proofs.lemmas.List.{flat_map_more}
use Rattle.std.specs.Io.KnownBytes.{Appends, Keeps, append_known}
use Rattle.std.proofs.lemmas.List.Elements.{All-nil, All-cons, All-push}
use Rattle.std.specs.Bool.{⊤}
use Rattle.std.specs.declared.alloc.Global.{Global}
use Rattle.std.specs.List.{flat_map, list_all}
use Rattle.vjson_text.specs.Texts.{AppendsKeyOf, IsNoTextOf}
use Rattle.vjson_run.proofs.InOrder.{disordered_more, in_order_more, out_of_order, rejected_order}
use Rattle.vjson_run.proofs.Lists.{any_before, any_last, zipped_more}
use Rattle.vjson_run.specs.Answers.{Answers, IsFound, IsLaidOut, IsOne, LacksSome, PrintsKeyed, asked, checked, checks_order, compares, found, keyed, lacking, laid_out, rejected, told}
use Rattle.jsonb_spec.specs.Program.Differences.{differences}
use Rattle.jsonb_spec.specs.Program.Printed.{Prints, printed}
use Rattle.vjson_run.specs.InOrder.{AreInOrderSoFar, is_wrong}
use Rattle.jsonb_spec.specs.Program.KeyLine.{key_line}
use Rattle.vjson_run.specs.Output.{output, PrintsNothing, PrintsPart}
use Rattle.vjson_run.specs.declared.report.Output.{Output}
use Rattle.jsonb_spec.specs.Program.Answer.{Answer}
use Rattle.vjson_run.specs.Runs.{AreAnswered, AreLinesFor, IsAnswer, IsLineFor, HasMade, HasTaken, Gets, AddsLine, AreEqual, AreEqualSoFar, ChecksOrder, Compares, Differs, IsRetained, IsSame, Takes, Tells, denied, is_yes}
use Rattle.vjson_run.specs.declared.lines.Line.{Line}
use Rattle.vjson_run.specs.declared.options.Command.{Command}
use Rattle.vjson_run.specs.declared.options.Command.TheVariants.{Check, Format, Get, Sort, Equal, Diff, Keys}
use Rattle.vjson_run.specs.declared.options.Options.{Options}
use Rattle.vjson_run.specs.declared.session.Session.{Session}
use Rattle.vjson_run.specs.declared.session.Status.{Status}
use Rattle.vjson_run.specs.declared.session.Status.TheVariants.{Yes, No, Trouble}

-- known bytes, with a part more to be written
grown : (start c : Option (List ℕ)) (w old part : List ℕ) → Appends start (append_known c old) w → Appends start (append_known c (old ++ part)) (w ++ part)
grown None c w old part h = tt
grown (Some xs) None w old part h = absurd h
grown (Some xs) (Some ys) w old part h = sym (append_assoc ys old part) ∙ ap (λ l. l ++ part) h ∙ append_assoc xs w part

pub retained_along : (start a b : Option (List ℕ)) (w : List ℕ) → Appends start a w → Keeps a b → Appends start b w
retained_along None a b w h k = tt
retained_along (Some xs) None b w h k = absurd h
retained_along (Some xs) (Some ys) None w h k = absurd k
retained_along (Some xs) (Some ys) (Some zs) w h k = k ∙ h

and_assoc : (a b c : Bool) → (a && (b && c)) ≡ ((a && b) && c)
and_assoc true b c = refl
and_assoc false b c = refl

and_true : (a : Bool) → (a && true) ≡ a
and_true true = refl
and_true false = refl

all_more : {A : Type 0} (p : A → Bool) (xs : List A) (x : A) → list_all p (xs ++ x ∷ []) ≡ (list_all p xs && p x)
all_more p [] x = and_true (p x)
all_more p (a ∷ xs) x = ap (λ b. p a && b) (all_more p xs x) ∙ and_assoc (p a) (list_all p xs) (p x)

more_answered : (o : Options) (texts : List (List ℕ)) (start now next : Option (List ℕ)) (good : Bool) (text : List ℕ) (this : Bool) (part : List ℕ) → AreAnswered o texts start now good
    → Answers o text this part → ((w : List ℕ) → Appends start now w → Appends start next (w ++ part)) → AreAnswered o (texts ++ text ∷ []) start next (good && this)
more_answered o texts start now next good text this part h answer grows =
    let last : Answer = record { yes = this; part = part } in
    record {
      answers = h.answers ++ last ∷ [];
      each = zipped_more (IsAnswer o) texts h.answers text last h.each answer;
      written = subst (λ w. Appends start next w) (flat_map_more (λ a. a.part) [] h.answers last) (grows (flat_map (λ a. a.part) h.answers) h.written);
      all = ap (λ b. b && this) h.all ∙ sym (all_more (λ a. a.yes) h.answers last);
    }

pub same_answered : (o : Options) (texts : List (List ℕ)) (start now next : Option (List ℕ)) (good : Bool) → AreAnswered o texts start now good
    → ((w : List ℕ) → Appends start now w → Appends start next w) → AreAnswered o texts start next good
same_answered o texts start now next good h grows = record { answers = h.answers; each = h.each; written = grows (flat_map (λ a. a.part) h.answers) h.written; all = h.all }

-- the status after an answer
abbrev pub after : Bool → Status → Status
after true status = status
after false status = denied status

chosen : (wrong : Bool) (status : Status) → (if wrong then denied status else status) ≡ after (not wrong) status
chosen true status = refl
chosen false status = refl

by_good : (good : Bool) (status : Status) → (if good then status else denied status) ≡ after good status
by_good true status = refl
by_good false status = refl

untroubled : (good : Bool) (s t : Status) → t ≡ after good s → t ≢ Trouble → s ≢ Trouble
untroubled true s t is h e = h (is ∙ e)
untroubled false s t is h e = h (is ∙ ap denied e)

is_yes_after : (good : Bool) (s : Status) → is_yes (after good s) ≡ (is_yes s && good)
is_yes_after true s = sym (and_true (is_yes s))
is_yes_after false Yes = refl
is_yes_after false No = refl
is_yes_after false Trouble = refl

one_line : (o : Options) (before : List (List ℕ)) (text : List ℕ) (good : Bool) (lines : List Line) (line : Line) → IsLineFor o text line → AreLinesFor o before lines good → AreLinesFor o (before ++ text ∷ []) (lines ++ line ∷ []) good
one_line o before text true lines line one all = zipped_more (IsLineFor o) before lines text line all one
one_line o before text false lines line one all = any_before (IsNoTextOf o.grammar) before (text ∷ []) all

not_yes : (status : Status) → is_yes (denied status) ≡ false
not_yes Yes = refl
not_yes No = refl
not_yes Trouble = refl

differ_more : (o : Options) (texts more : List (List ℕ)) → AreEqual o texts false → AreEqual o (texts ++ more) false
differ_more o texts more h = (h.0, h.1, h.2, any_before (λ text. AppendsKeyOf o.grammar text [] h.0) texts more h.3, any_before (λ text. AppendsKeyOf o.grammar text [] h.1) texts more h.4)

equal_over : (o : Options) (texts more : List (List ℕ)) (last : Option (Vec ℕ Global)) (status : Status) → (status ≡ Yes → ⊥) → AreEqualSoFar o texts last (is_yes status) → AreEqualSoFar o (texts ++ more) last (is_yes status)
equal_over o texts more last Yes not_yes h = absurd (not_yes refl)
equal_over o texts more last No not_yes h = differ_more o texts more h
equal_over o texts more last Trouble not_yes h = differ_more o texts more h

order_over : (o : Options) (texts more : List (List ℕ)) (last : Option (Vec ℕ Global)) (status : Status) → (status ≡ Yes → ⊥) → AreInOrderSoFar o texts last (is_yes status) → AreInOrderSoFar o (texts ++ more) last (is_yes status)
order_over o texts more last Yes not_yes h = absurd (not_yes refl)
order_over o texts more last No not_yes h = disordered_more o texts more h
order_over o texts more last Trouble not_yes h = disordered_more o texts more h

-- one text more that has the key of those before
same_more : (o : Options) (before : List (List ℕ)) (text : List ℕ) (last : Option (Vec ℕ Global)) (key : Vec ℕ Global) (good : Bool) → AppendsKeyOf o.grammar text [] key.items → MatchOption last ⊤ (λ k. k.items ≡ key.items)
    → AreEqualSoFar o before last good → AreEqualSoFar o (before ++ text ∷ []) (Some key) good
same_more o before text last key false has same h = differ_more o before (text ∷ []) h
same_more o before text None key true has same h =
    let P = λ (t : List ℕ). AppendsKeyOf o.grammar t [] key.items in
    (any_last P before text has, subst (λ l. All P (l ++ text ∷ [])) (sym h) (All-cons P text [] has (All-nil P)))
same_more o before text (Some k) key true has same h =
    let P = λ (t : List ℕ). AppendsKeyOf o.grammar t [] key.items in
    (any_last P before text has, All-push P before text (subst (λ items. All (λ t. AppendsKeyOf o.grammar t [] items) before) same h.1) has)

-- one that has another key
other_more : (o : Options) (before : List (List ℕ)) (text : List ℕ) (last : Option (Vec ℕ Global)) (key k : Vec ℕ Global) (good : Bool) → AppendsKeyOf o.grammar text [] key.items → last ≡ Some k → k.items ≢ key.items
    → AreEqualSoFar o before last good → AreEqual o (before ++ text ∷ []) false
other_more o before text last key k false has is other h = differ_more o before (text ∷ []) h
other_more o before text last key k true has is other h =
    let had = subst (λ l. AreEqualSoFar o before l true) is h in
    (k.items, key.items, other, any_before (λ t. AppendsKeyOf o.grammar t [] k.items) before (text ∷ []) had.0, any_last (λ t. AppendsKeyOf o.grammar t [] key.items) before text has)

-- the commands that answer each text by itself
abbrev pub IsByText : Command → Type 0
IsByText Sort = ⊥
IsByText Equal = ⊥
IsByText command = ⊤

module _ {W E : Type 0} (contents : W → Option (List ℕ)) where
  -- Unless it failed or there is trouble, t has answered what s had and one more text, of which this part is printed;
  -- no line is added.
  pub record Moves (s t : Session W E) (good : Bool) (part : List ℕ) : Type 0 where
    pub options : t.options ≡ s.options
    pub failed : t.out.error ≡ None → s.out.error ≡ None
    pub grows : t.out.error ≡ None → (start : Option (List ℕ)) (w : List ℕ) → Appends start (output contents s.out) w → Appends start (output contents t.out) (w ++ part)
    pub status : t.status ≢ Trouble → t.status ≡ after good s.status
    pub over : t.out.error ≡ None → checks_order s.options.now ≡ false → t.over ≡ s.over

  abbrev Made : Option (List ℕ) → List (List ℕ) → Session W E → Command → Type 0
  Made start texts s command = HasMade contents start texts s command

  moved_answered : (s t : Session W E) (good : Bool) (part text : List ℕ) (start : Option (List ℕ)) (before : List (List ℕ)) → Moves s t good part → t.status ≢ Trouble → t.out.error ≡ None
      → checks_order s.options.now ≡ false → Answers s.options.now text good part
      → AreAnswered s.options.now before start (output contents s.out) (is_yes s.status) × (s.over ≡ false)
      → AreAnswered t.options.now (before ++ text ∷ []) start (output contents t.out) (is_yes t.status) × (t.over ≡ false)
  moved_answered s t good part text start before h calm fine unchecked answer had =
      let more = more_answered s.options.now before start (output contents s.out) (output contents t.out) (is_yes s.status) text good part had.0 answer (h.grows fine start) in (
        subst (λ o. AreAnswered o.now (before ++ text ∷ []) start (output contents t.out) (is_yes t.status)) (sym h.options)
            (subst (λ b. AreAnswered s.options.now (before ++ text ∷ []) start (output contents t.out) b) (sym (ap is_yes (h.status calm) ∙ is_yes_after good s.status)) more),
        h.over fine unchecked ∙ had.1,
      )

  by_command : (command : Command) (s t : Session W E) (good : Bool) (part text : List ℕ) (start : Option (List ℕ)) (before : List (List ℕ)) → s.options.now.command ≡ command → IsByText command
      → Moves s t good part → t.status ≢ Trouble → t.out.error ≡ None → Answers s.options.now text good part → Made start before s command → Made start (before ++ text ∷ []) t command
  by_command Check s t good part text start before is by h calm fine answer had = moved_answered s t good part text start before h calm fine (ap (λ c. asked c s.options.now.check) is) answer had
  by_command Format s t good part text start before is by h calm fine answer had = moved_answered s t good part text start before h calm fine (ap (λ c. asked c s.options.now.check) is) answer had
  by_command Get s t good part text start before is by h calm fine answer had = moved_answered s t good part text start before h calm fine (ap (λ c. asked c s.options.now.check) is) answer had
  by_command Keys s t good part text start before is by h calm fine answer had = moved_answered s t good part text start before h calm fine (ap (λ c. asked c s.options.now.check) is) answer had
  by_command Diff s t good part text start before is by h calm fine answer had = moved_answered s t good part text start before h calm fine (ap (λ c. asked c s.options.now.check) is) answer had
  by_command Sort s t good part text start before is by h calm fine answer had = absurd by
  by_command Equal s t good part text start before is by h calm fine answer had = absurd by

  pub takes_answered : (s t : Session W E) (good : Bool) (part text : List ℕ) → Moves s t good part → IsByText s.options.now.command → Answers s.options.now text good part → Takes contents s (text ∷ []) t
  takes_answered s t good part text h by answer start before had calm fine =
      subst (λ o. Made start (before ++ text ∷ []) t o.now.command) (sym h.options)
      (by_command s.options.now.command s t good part text start before refl by h calm fine answer (had (untroubled good s.status t.status (h.status calm) calm) (h.failed fine)))

  -- a part is printed, and nothing else that counts changes but the status
  printed_moves : (s t : Session W E) (good : Bool) (part : List ℕ) → t.options ≡ s.options → t.out.writer ≡ s.out.writer → t.out.error ≡ s.out.error → t.over ≡ s.over → t.status ≡ after good s.status
      → t.out.bytes.items ≡ s.out.bytes.items ++ part → Moves s t good part
  printed_moves s t good part options writer error over status bytes = record {
    options = options;
    failed = λ fine. sym error ∙ fine;
    grows = λ _ start w h. subst (λ x. Appends start (append_known (contents x) t.out.bytes.items) (w ++ part)) (sym writer)
        (subst (λ b. Appends start (append_known (contents s.out.writer) b) (w ++ part)) (sym bytes) (grown start (contents s.out.writer) w s.out.bytes.items part h));
    status = λ _. status;
    over = λ _ _. over;
  }

  pub retained_moves : (s t : Session W E) (part : List ℕ) → IsRetained s t → t.out.bytes.items ≡ s.out.bytes.items ++ part → Moves s t true part
  retained_moves s t part k bytes = printed_moves s t true part k.options k.writer k.error k.over k.status bytes

  pub checked_taken : (s t : Session W E) (text : List ℕ) → s.options.now.command ≡ Check → IsOne s.options.now.grammar text → IsSame s t → Takes contents s (text ∷ []) t
  checked_taken s t text is one same =
      takes_answered s t true [] text (retained_moves s t [] same.retained (same.bytes ∙ sym (append-nil s.out.bytes.items))) (subst IsByText (sym is) tt) (checked is one)

  pub laid_taken : (s t : Session W E) (text : List ℕ) → s.options.now.command ≡ Format → Prints (IsLaidOut s.options.now text) s.out.bytes.items t.out.bytes.items → IsRetained s t → Takes contents s (text ∷ []) t
  laid_taken s t text is laid retained =
      takes_answered s t true (printed laid.bytes) text (retained_moves s t (printed laid.bytes) retained laid.appended) (subst IsByText (sym is) tt) (laid_out laid.bytes is laid.is_printed)

  pub keyed_taken : (s t : Session W E) (text : List ℕ) → s.options.now.command ≡ Keys → PrintsKeyed s.options.now text s.out.bytes.items t.out.bytes.items → IsRetained s t → Takes contents s (text ∷ []) t
  keyed_taken s t text is h retained =
      takes_answered s t true (key_line h.key h.line) text (retained_moves s t (key_line h.key h.line) retained h.appended) (subst IsByText (sym is) tt) (keyed h.key h.line is h.keyed)

  got : (s t : Session W E) (text : List ℕ) (good : Bool) → s.options.now.command ≡ Get → Gets s text t
      → MatchBool good (Prints (IsFound s.options.now text) s.out.bytes.items t.out.bytes.items × (t.status ≡ s.status))
      (LacksSome s.options.now text × (s.options.now.default ≡ None) × (t.out.bytes.items ≡ s.out.bytes.items) × (t.status ≡ denied s.status))
      → Takes contents s (text ∷ []) t
  got s t text true is h part =
      takes_answered s t true (printed part.0.bytes) text (printed_moves s t true (printed part.0.bytes) h.options h.writer h.error h.over part.1 part.0.appended) (subst IsByText (sym is) tt) (found part.0.bytes is part.0.is_printed)
  got s t text false is h part =
      takes_answered s t false [] text (printed_moves s t false [] h.options h.writer h.error h.over part.3 (part.2 ∙ sym (append-nil s.out.bytes.items))) (subst IsByText (sym is) tt) (lacking is part.0 part.1)

  pub gets_taken : (s t : Session W E) (text : List ℕ) → s.options.now.command ≡ Get → Gets s text t → Takes contents s (text ∷ []) t
  gets_taken s t text is h = got s t text h.good is h h.part

  pub told_taken : (s t : Session W E) (text : List ℕ) → s.options.now.command ≡ Diff → Tells s text t → Takes contents s (text ∷ []) t
  told_taken s t text is h =
      let part = differences [] h.told.t (Some h.told.u) in
      takes_answered s t h.good part text (printed_moves s t h.good part h.options h.writer h.error h.over (h.status ∙ by_good h.good s.status) h.told.appended) (subst IsByText (sym is) tt)
      (told h.good part is (record { t = h.told.t; u = h.told.u; is_one = h.told.is_one; is_other = h.told.is_other; appended = refl; are_equal = h.told.are_equal }))

  -- what `sort` has of some texts
  abbrev Collected : Options → Option (List ℕ) → List (List ℕ) → Session W E → Type 0
  Collected o start texts s = AreLinesFor o texts s.lines.items (is_yes s.status) × Appends start (output contents s.out) [] × (s.over ≡ false)

  -- what `sort --check` has found of them
  abbrev Ordered : Options → Option (List ℕ) → List (List ℕ) → Session W E → Type 0
  Ordered o start texts s = AreInOrderSoFar o texts s.last (is_yes s.status) × Appends start (output contents s.out) [] × (s.status ≡ Yes → s.over ≡ false)

  -- either, as is asked for
  abbrev ByCheck : Bool → Options → Option (List ℕ) → List (List ℕ) → Session W E → Type 0
  ByCheck check o start texts s = MatchBool check (Ordered o start texts s) (Collected o start texts s)

  collected_more : (s t : Session W E) (text : List ℕ) (start : Option (List ℕ)) (before : List (List ℕ)) → AddsLine text s t → Collected s.options.now start before s → Collected s.options.now start (before ++ text ∷ []) t
  collected_more s t text start before a m = (
    subst (λ lines. AreLinesFor s.options.now (before ++ text ∷ []) lines (is_yes t.status)) (sym a.lines)
        (subst (λ status. AreLinesFor s.options.now (before ++ text ∷ []) (s.lines.items ++ a.line ∷ []) (is_yes status)) (sym a.status)
        (one_line s.options.now before text (is_yes s.status) s.lines.items a.line a.is_line m.0)),
    subst (λ out. Appends start (output contents out) []) (sym a.out) m.1,
    a.over ∙ m.2,
  )

  ordered_by : (wrong : Bool) (s t : Session W E) (text : List ℕ) (start : Option (List ℕ)) (before : List (List ℕ)) (h : ChecksOrder text s t) → is_wrong s.options.now s.last h.key.items ≡ wrong
      → Ordered s.options.now start before s → Ordered s.options.now start (before ++ text ∷ []) t
  ordered_by false s t text start before h is m =
      let status : t.status ≡ s.status = h.status ∙ ap (λ b. if b then denied s.status else s.status) is in (
        subst (λ last. AreInOrderSoFar s.options.now (before ++ text ∷ []) last (is_yes t.status)) (sym h.last)
            (subst (λ x. AreInOrderSoFar s.options.now (before ++ text ∷ []) (Some h.key) (is_yes x)) (sym status) (in_order_more s.options.now before text s.last h.key (is_yes s.status) h.is_key is m.0)),
        subst (λ out. Appends start (output contents out) []) (sym h.out) m.1,
        λ calm. h.over ∙ m.2 (sym status ∙ calm),
      )
  ordered_by true s t text start before h is m =
      let status : t.status ≡ denied s.status = h.status ∙ ap (λ b. if b then denied s.status else s.status) is in
      let no : is_yes t.status ≡ false = ap is_yes status ∙ not_yes s.status in (
        subst (AreInOrderSoFar s.options.now (before ++ text ∷ []) t.last) (sym no) (out_of_order s.options.now before text s.last h.key.items (is_yes s.status) h.is_key is m.0),
        subst (λ out. Appends start (output contents out) []) (sym h.out) m.1,
        λ calm. cc,
      )

  ordered_more : (s t : Session W E) (text : List ℕ) (start : Option (List ℕ)) (before : List (List ℕ)) → ChecksOrder text s t → Ordered s.options.now start before s → Ordered s.options.now start (before ++ text ∷ []) t
  ordered_more s t text start before h m = ordered_by (is_wrong s.options.now s.last h.key.items) s t text start before h refl m

  ordered_calm : (s t : Session W E) (text : List ℕ) → ChecksOrder text s t → t.status ≢ Trouble → s.status ≢ Trouble
  ordered_calm s t text h calm =
      let wrong = is_wrong s.options.now s.last h.key.items in
      untroubled (not wrong) s.status t.status (h.status ∙ chosen wrong s.status) calm

  sorted_by_check : (check : Bool) (s t : Session W E) (text : List ℕ) (start : Option (List ℕ)) (before : List (List ℕ)) → s.options.now.check ≡ check → (s.options.now.check ≡ false → AddsLine text s t)
      → (s.options.now.check ≡ true → ChecksOrder text s t) → t.status ≢ Trouble → t.out.error ≡ None → (s.status ≢ Trouble → s.out.error ≡ None → Made start before s Sort)
      → ByCheck check s.options.now start (before ++ text ∷ []) t
  sorted_by_check true s t text start before is added checks calm fine had =
      let h = checks is in
      ordered_more s t text start before h
      (subst (λ b. ByCheck b s.options.now start before s) is (had (ordered_calm s t text h calm) (sym (ap (λ out. out.error) h.out) ∙ fine)))
  sorted_by_check false s t text start before is added checks calm fine had =
      let a = added is in
      collected_more s t text start before a
      (subst (λ b. ByCheck b s.options.now start before s) is (had (λ e. calm (a.status ∙ e)) (sym (ap (λ out. out.error) a.out) ∙ fine)))

  made_sort : (check : Bool) (s t : Session W E) (start : Option (List ℕ)) (texts : List (List ℕ)) → s.options.now.check ≡ check → t.options ≡ s.options → ByCheck check s.options.now start texts t → Made start texts t Sort
  made_sort check s t start texts is options h =
      subst (λ o. ByCheck o.now.check o.now start texts t) (sym options) (subst (λ b. ByCheck b s.options.now start texts t) (sym is) h)

  pub sorted_taken : (s t : Session W E) (text : List ℕ) → s.options.now.command ≡ Sort → t.options ≡ s.options → (s.options.now.check ≡ false → AddsLine text s t)
      → (s.options.now.check ≡ true → ChecksOrder text s t) → Takes contents s (text ∷ []) t
  sorted_taken s t text is options added checks start before had calm fine =
      subst (λ o. Made start (before ++ text ∷ []) t o.now.command) (sym options) (subst (Made start (before ++ text ∷ []) t) (sym is)
      (made_sort s.options.now.check s t start (before ++ text ∷ []) refl options
      (sorted_by_check s.options.now.check s t text start before refl added checks calm fine (λ quiet none. subst (Made start before s) is (had quiet none)))))

  -- a text is rejected
  pub record Rejected (s t : Session W E) : Type 0 where
    pub options : t.options ≡ s.options
    pub printed : PrintsNothing contents s.out t.out
    pub status : compares s.options.now.command ≡ false → t.status ≡ denied s.status
    pub compared : compares s.options.now.command ≡ true → t.status ≡ Trouble
    pub over : checks_order s.options.now ≡ false → t.over ≡ s.over

  rejected_moves : (s t : Session W E) → Rejected s t → compares s.options.now.command ≡ false → Moves s t false []
  rejected_moves s t h other = record {
    options = h.options;
    failed = h.printed.failed;
    grows = λ fine start w had. subst (λ l. Appends start (output contents t.out) l) (sym (append-nil w)) (retained_along start (output contents s.out) (output contents t.out) w had (h.printed.same fine));
    status = λ _. h.status other;
    over = λ _ unchecked. h.over unchecked;
  }

  calm_before : (s t : Session W E) → t.status ≡ denied s.status → t.status ≢ Trouble → s.status ≢ Trouble
  calm_before s t is calm = untroubled false s.status t.status is calm

  rejected_by_check : (check : Bool) (s t : Session W E) (text : List ℕ) (start : Option (List ℕ)) (before : List (List ℕ)) → s.options.now.check ≡ check → s.options.now.command ≡ Sort → IsNoTextOf s.options.now.grammar text
      → Rejected s t → t.status ≡ denied s.status → t.out.error ≡ None → Made start before s Sort → ByCheck check s.options.now start (before ++ text ∷ []) t
  rejected_by_check true s t text start before is command none h status fine had =
      let m : Ordered s.options.now start before s = subst (λ b. ByCheck b s.options.now start before s) is had in
      let no : is_yes t.status ≡ false = ap is_yes status ∙ not_yes s.status in (
        subst (AreInOrderSoFar s.options.now (before ++ text ∷ []) t.last) (sym no) (rejected_order s.options.now before text none),
        retained_along start (output contents s.out) (output contents t.out) [] m.1 (h.printed.same fine),
        λ calm. cc,
      )
  rejected_by_check false s t text start before is command none h status fine had =
      let m : Collected s.options.now start before s = subst (λ b. ByCheck b s.options.now start before s) is had in (
        subst (AreLinesFor s.options.now (before ++ text ∷ []) t.lines.items) (sym (ap is_yes status ∙ not_yes s.status)) (any_last (IsNoTextOf s.options.now.grammar) before text none),
        retained_along start (output contents s.out) (output contents t.out) [] m.1 (h.printed.same fine),
        h.over (ap (λ c. asked c s.options.now.check) command ∙ is) ∙ m.2,
      )

  rejected_by : (command : Command) (s t : Session W E) (text : List ℕ) (start : Option (List ℕ)) (before : List (List ℕ)) → s.options.now.command ≡ command → IsNoTextOf s.options.now.grammar text → Rejected s t
      → t.status ≢ Trouble → t.out.error ≡ None → HasTaken contents start before s → Made start (before ++ text ∷ []) t command
  rejected_by Equal s t text start before is none h calm fine had = absurd (calm (h.compared (ap compares is)))
  rejected_by Diff s t text start before is none h calm fine had = absurd (calm (h.compared (ap compares is)))
  rejected_by Sort s t text start before is none h calm fine had =
      let status = h.status (ap compares is) in
      made_sort s.options.now.check s t start (before ++ text ∷ []) refl h.options
      (rejected_by_check s.options.now.check s t text start before refl is none h status fine (subst (Made start before s) is (had (calm_before s t status calm) (h.printed.failed fine))))
  rejected_by Check s t text start before is none h calm fine had = subst (Made start (before ++ text ∷ []) t) (ap (λ o. o.now.command) h.options ∙ is) (takes_answered s t false [] text (rejected_moves s t h (ap compares is)) (subst IsByText (sym is) tt) (rejected none) start before had calm fine)
  rejected_by Format s t text start before is none h calm fine had = subst (Made start (before ++ text ∷ []) t) (ap (λ o. o.now.command) h.options ∙ is) (takes_answered s t false [] text (rejected_moves s t h (ap compares is)) (subst IsByText (sym is) tt) (rejected none) start before had calm fine)
  rejected_by Get s t text start before is none h calm fine had = subst (Made start (before ++ text ∷ []) t) (ap (λ o. o.now.command) h.options ∙ is) (takes_answered s t false [] text (rejected_moves s t h (ap compares is)) (subst IsByText (sym is) tt) (rejected none) start before had calm fine)
  rejected_by Keys s t text start before is none h calm fine had = subst (Made start (before ++ text ∷ []) t) (ap (λ o. o.now.command) h.options ∙ is) (takes_answered s t false [] text (rejected_moves s t h (ap compares is)) (subst IsByText (sym is) tt) (rejected none) start before had calm fine)

  pub rejected_taken : (s t : Session W E) (text : List ℕ) → IsNoTextOf s.options.now.grammar text → Rejected s t → Takes contents s (text ∷ []) t
  rejected_taken s t text none h start before had calm fine =
      subst (λ o. Made start (before ++ text ∷ []) t o.now.command) (sym h.options) (rejected_by s.options.now.command s t text start before refl none h calm fine had)

  -- some texts, and then others
  pub takes_then : (s t u : Session W E) (xs ys : List (List ℕ)) → Takes contents s xs t → Takes contents t ys u → Takes contents s (xs ++ ys) u
  takes_then s t u xs ys first second start before had = subst (λ l. HasTaken contents start l u) (append_assoc before xs ys) (second start (before ++ xs) (first start before had))

  -- what is in trouble has taken anything
  pub trouble_taken : (s t : Session W E) (texts : List (List ℕ)) → t.status ≡ Trouble → Takes contents s texts t
  trouble_taken s t texts is start before had calm fine = absurd (calm is)

  -- of two sessions one has printed the same, and nothing else that counts differs
  pub record Flushed (s t : Session W E) : Type 0 where
    pub options : t.options ≡ s.options
    pub status : t.status ≡ s.status
    pub over : t.over ≡ s.over
    pub lines : t.lines.items ≡ s.lines.items
    pub last : t.last ≡ s.last
    pub printed : PrintsNothing contents s.out t.out

  flushed_answered : (s t : Session W E) (start : Option (List ℕ)) (texts : List (List ℕ)) → Flushed s t → t.out.error ≡ None → AreAnswered s.options.now texts start (output contents s.out) (is_yes s.status) × (s.over ≡ false)
      → AreAnswered t.options.now texts start (output contents t.out) (is_yes t.status) × (t.over ≡ false)
  flushed_answered s t start texts h fine had = (
    subst (λ o. AreAnswered o.now texts start (output contents t.out) (is_yes t.status)) (sym h.options)
        (subst (λ status. AreAnswered s.options.now texts start (output contents t.out) (is_yes status)) (sym h.status)
        (same_answered s.options.now texts start (output contents s.out) (output contents t.out) (is_yes s.status) had.0 (λ w k. retained_along start (output contents s.out) (output contents t.out) w k (h.printed.same fine)))),
    h.over ∙ had.1,
  )

  flushed_by_check : (check : Bool) (s t : Session W E) (start : Option (List ℕ)) (texts : List (List ℕ)) → Flushed s t → t.out.error ≡ None → ByCheck check s.options.now start texts s → ByCheck check s.options.now start texts t
  flushed_by_check true s t start texts h fine had = (
    subst (λ last. AreInOrderSoFar s.options.now texts last (is_yes t.status)) (sym h.last) (subst (λ status. AreInOrderSoFar s.options.now texts s.last (is_yes status)) (sym h.status) had.0),
    retained_along start (output contents s.out) (output contents t.out) [] had.1 (h.printed.same fine),
    λ calm. h.over ∙ had.2 (sym h.status ∙ calm),
  )
  flushed_by_check false s t start texts h fine had = (
    subst (λ lines. AreLinesFor s.options.now texts lines (is_yes t.status)) (sym h.lines) (subst (λ status. AreLinesFor s.options.now texts s.lines.items (is_yes status)) (sym h.status) had.0),
    retained_along start (output contents s.out) (output contents t.out) [] had.1 (h.printed.same fine),
    h.over ∙ had.2,
  )

  flushed_made : (command : Command) (s t : Session W E) (start : Option (List ℕ)) (texts : List (List ℕ)) → Flushed s t → t.out.error ≡ None → Made start texts s command → Made start texts t command
  flushed_made Check s t start texts h fine had = flushed_answered s t start texts h fine had
  flushed_made Format s t start texts h fine had = flushed_answered s t start texts h fine had
  flushed_made Get s t start texts h fine had = flushed_answered s t start texts h fine had
  flushed_made Keys s t start texts h fine had = flushed_answered s t start texts h fine had
  flushed_made Diff s t start texts h fine had = flushed_answered s t start texts h fine had
  flushed_made Sort s t start texts h fine had = made_sort s.options.now.check s t start texts refl h.options (flushed_by_check s.options.now.check s t start texts h fine had)
  flushed_made Equal s t start texts h fine had = (
    subst (λ o. AreEqualSoFar o.now texts t.last (is_yes t.status)) (sym h.options)
        (subst (λ last. AreEqualSoFar s.options.now texts last (is_yes t.status)) (sym h.last)
        (subst (λ status. AreEqualSoFar s.options.now texts s.last (is_yes status)) (sym h.status) had.0)),
    retained_along start (output contents s.out) (output contents t.out) [] had.1 (h.printed.same fine),
    λ calm. h.over ∙ had.2 (sym h.status ∙ calm),
  )

  pub flushed_taken : (s t : Session W E) → Flushed s t → Takes contents s [] t
  flushed_taken s t h start before had calm fine =
      subst (λ texts. Made start texts t t.options.now.command) (sym (append-nil before))
      (subst (λ o. Made start before t o.now.command) (sym h.options)
      (flushed_made s.options.now.command s t start before h fine (had (λ e. calm (h.status ∙ e)) (h.printed.failed fine))))

  pub nothing_taken : (s : Session W E) → Takes contents s [] s
  nothing_taken s start before had = subst (λ l. HasTaken contents start l s) (sym (append-nil before)) had

  never : (t : Session W E) → t.over ≡ true → t.over ≡ false → ⊥
  never t over not_over = cc

  answered_same : (s t : Session W E) (start : Option (List ℕ)) (texts : List (List ℕ)) → IsSame s t → AreAnswered s.options.now texts start (output contents s.out) (is_yes s.status) × (s.over ≡ false)
      → AreAnswered t.options.now texts start (output contents t.out) (is_yes t.status) × (t.over ≡ false)
  answered_same s t start texts h had = (
    subst (λ o. AreAnswered o.now texts start (output contents t.out) (is_yes t.status)) (sym h.retained.options)
        (subst (λ status. AreAnswered s.options.now texts start (output contents t.out) (is_yes status)) (sym h.retained.status)
        (subst (λ writer. AreAnswered s.options.now texts start (append_known (contents writer) t.out.bytes.items) (is_yes s.status)) (sym h.retained.writer)
        (subst (λ items. AreAnswered s.options.now texts start (append_known (contents s.out.writer) items) (is_yes s.status)) (sym h.bytes) had.0))),
    h.retained.over ∙ had.1,
  )

  -- of two sessions that are the same one has taken what the other has
  made_same : (command : Command) (s t : Session W E) (start : Option (List ℕ)) (texts : List (List ℕ)) → IsSame s t → Made start texts s command → Made start texts t command
  made_same Equal s t start texts h had = (
    subst (λ o. AreEqualSoFar o.now texts t.last (is_yes t.status)) (sym h.retained.options)
        (subst (λ last. AreEqualSoFar s.options.now texts last (is_yes t.status)) (sym h.retained.last)
        (subst (λ status. AreEqualSoFar s.options.now texts s.last (is_yes status)) (sym h.retained.status) had.0)),
    subst (λ writer. Appends start (append_known (contents writer) t.out.bytes.items) []) (sym h.retained.writer) (subst (λ items. Appends start (append_known (contents s.out.writer) items) []) (sym h.bytes) had.1),
    λ calm. h.retained.over ∙ had.2 (sym h.retained.status ∙ calm),
  )
  made_same Sort s t start texts h had =
      made_sort s.options.now.check s t start texts refl h.retained.options (at s.options.now.check had)
    where
      moved : Collected s.options.now start texts s → Collected s.options.now start texts t
      moved m = (
        subst (λ lines. AreLinesFor s.options.now texts lines (is_yes t.status)) (sym h.retained.lines) (subst (λ status. AreLinesFor s.options.now texts s.lines.items (is_yes status)) (sym h.retained.status) m.0),
        subst (λ writer. Appends start (append_known (contents writer) t.out.bytes.items) []) (sym h.retained.writer) (subst (λ items. Appends start (append_known (contents s.out.writer) items) []) (sym h.bytes) m.1),
        h.retained.over ∙ m.2,
      )

      ordered : Ordered s.options.now start texts s → Ordered s.options.now start texts t
      ordered m = (
        subst (λ last. AreInOrderSoFar s.options.now texts last (is_yes t.status)) (sym h.retained.last) (subst (λ status. AreInOrderSoFar s.options.now texts s.last (is_yes status)) (sym h.retained.status) m.0),
        subst (λ writer. Appends start (append_known (contents writer) t.out.bytes.items) []) (sym h.retained.writer) (subst (λ items. Appends start (append_known (contents s.out.writer) items) []) (sym h.bytes) m.1),
        λ calm. h.retained.over ∙ m.2 (sym h.retained.status ∙ calm),
      )

      at : (check : Bool) → ByCheck check s.options.now start texts s → ByCheck check s.options.now start texts t
      at true m = ordered m
      at false m = moved m
  made_same Check s t start texts h had = answered_same s t start texts h had
  made_same Format s t start texts h had = answered_same s t start texts h had
  made_same Get s t start texts h had = answered_same s t start texts h had
  made_same Keys s t start texts h had = answered_same s t start texts h had
  made_same Diff s t start texts h had = answered_same s t start texts h had

  pub same_taken : (s t : Session W E) → IsSame s t → Takes contents s [] t
  same_taken s t h start before had calm fine =
      subst (λ texts. Made start texts t t.options.now.command) (sym (append-nil before))
      (subst (λ o. Made start before t o.now.command) (sym h.retained.options)
      (made_same s.options.now.command s t start before h (had (λ e. calm (h.retained.status ∙ e)) (sym h.retained.error ∙ fine))))

  over_made : (command : Command) (check : Bool) (t : Session W E) (start : Option (List ℕ)) (texts more : List (List ℕ)) → t.over ≡ true → t.options.now.check ≡ check → Made start texts t command → Made start (texts ++ more) t command
  over_made Equal check t start texts more over is had = (
    equal_over t.options.now texts more t.last t.status (λ calm. never t over (had.2 calm)) had.0,
    had.1,
    had.2,
  )
  over_made Sort true t start texts more over is had =
      let m : Ordered t.options.now start texts t = subst (λ b. ByCheck b t.options.now start texts t) is had in
      subst (λ b. ByCheck b t.options.now start (texts ++ more) t) (sym is)
      (order_over t.options.now texts more t.last t.status (λ calm. never t over (m.2 calm)) m.0, m.1, m.2)
  over_made Sort false t start texts more over is had =
      let m : Collected t.options.now start texts t = subst (λ b. ByCheck b t.options.now start texts t) is had in
      absurd (never t over m.2)
  over_made Check check t start texts more over is had = absurd (never t over had.1)
  over_made Format check t start texts more over is had = absurd (never t over had.1)
  over_made Get check t start texts more over is had = absurd (never t over had.1)
  over_made Keys check t start texts more over is had = absurd (never t over had.1)
  over_made Diff check t start texts more over is had = absurd (never t over had.1)

  -- what is over has taken what follows
  pub over_taken : (s t : Session W E) (texts more : List (List ℕ)) → t.over ≡ true → Takes contents s texts t → Takes contents s (texts ++ more) t
  over_taken s t texts more over takes start before had calm fine =
      subst (λ l. Made start l t t.options.now.command) (append_assoc before texts more)
      (over_made t.options.now.command t.options.now.check t start (before ++ texts) more over refl (takes start before had calm fine))

  compared : (good : Bool) (differs : Bool) (s t : Session W E) (text : List ℕ) (start : Option (List ℕ)) (before : List (List ℕ)) (h : Compares text s t) → h.differs ≡ differs → is_yes s.status ≡ good
      → Differs s.last h.key.items differs → Made start before s Equal → AreEqualSoFar s.options.now (before ++ text ∷ []) t.last (is_yes t.status) × Appends start (output contents t.out) [] × (t.status ≡ Yes → t.over ≡ false)
  compared good false s t text start before h is e apart had =
      let status : t.status ≡ s.status = h.status ∙ ap (λ b. if b then denied s.status else s.status) is in (
        subst (λ last. AreEqualSoFar s.options.now (before ++ text ∷ []) last (is_yes t.status)) (sym h.last)
            (subst (λ x. AreEqualSoFar s.options.now (before ++ text ∷ []) (Some h.key) (is_yes x)) (sym status) (same_more s.options.now before text s.last h.key (is_yes s.status) h.is_key apart had.0)),
        subst (λ out. Appends start (output contents out) []) (sym h.out) had.1,
        λ calm. h.over is ∙ had.2 (sym status ∙ calm),
      )
  compared good true s t text start before h is e apart had =
      let status : t.status ≡ denied s.status = h.status ∙ ap (λ b. if b then denied s.status else s.status) is in
      let no : is_yes t.status ≡ false = ap is_yes status ∙ not_yes s.status in (
        subst (AreEqualSoFar s.options.now (before ++ text ∷ []) t.last) (sym no) (other_more s.options.now before text s.last h.key apart.0 (is_yes s.status) h.is_key apart.1 apart.2 had.0),
        subst (λ out. Appends start (output contents out) []) (sym h.out) had.1,
        λ calm. cc,
      )

  pub compared_taken : (s t : Session W E) (text : List ℕ) → s.options.now.command ≡ Equal → Compares text s t → Takes contents s (text ∷ []) t
  compared_taken s t text is h start before had calm fine =
      let was = subst (Made start before s) is (had (untroubled (not h.differs) s.status t.status (h.status ∙ chosen h.differs s.status) calm) (sym (ap (λ out. out.error) h.out) ∙ fine)) in
      let now = compared (is_yes s.status) h.differs s t text start before h refl refl h.found was in
      subst (λ o. Made start (before ++ text ∷ []) t o.now.command) (sym h.options) (subst (Made start (before ++ text ∷ []) t) (sym is)
      (subst (λ o. AreEqualSoFar o.now (before ++ text ∷ []) t.last (is_yes t.status) × Appends start (output contents t.out) [] × (t.status ≡ Yes → t.over ≡ false)) (sym h.options) now))

module _ {W : Type 0} (contents : W → Option (List ℕ)) where
  pub appended_more : (a b c : Option (List ℕ)) (part one : List ℕ) → Appends a b part → Appends b c one → Appends a c (part ++ one)
  appended_more None b c part one h k = tt
  appended_more (Some xs) None c part one h k = absurd h
  appended_more (Some xs) (Some ys) None part one h k = absurd k
  appended_more (Some xs) (Some ys) (Some zs) part one h k = k ∙ ap (λ l. l ++ one) h ∙ append_assoc xs part one

  one_more : (known : Option (List ℕ)) (old one : List ℕ) → Appends (append_known known old) (append_known known (old ++ one)) one
  one_more None old one = tt
  one_more (Some xs) old one = sym (append_assoc xs old one)

  pub preserves_self : (known : Option (List ℕ)) → Keeps known known
  preserves_self None = tt
  preserves_self (Some xs) = refl

  pub prints_same : (out : Output W) → PrintsNothing contents out out
  prints_same out = record { failed = λ fine. fine; same = λ _. preserves_self (output contents out) }

  -- bytes are added to an output, which is then written
  pub prints_more : (a b c d : Output W) (part one whole : List ℕ) → PrintsPart contents a b part → c.writer ≡ b.writer → c.error ≡ b.error → c.bytes.items ≡ b.bytes.items ++ one
      → PrintsNothing contents c d → whole ≡ part ++ one → PrintsPart contents a d whole
  prints_more a b c d part one whole h writer error bytes k is = record {
    failed = λ fine. h.failed (sym error ∙ k.failed fine);
    printed = λ fine.
        let added : Appends (output contents b) (output contents c) one =
        subst (λ x. Appends (output contents b) (append_known (contents x) c.bytes.items) one) (sym writer)
        (subst (λ items. Appends (output contents b) (append_known (contents b.writer) items) one) (sym bytes) (one_more (contents b.writer) b.bytes.items one)) in
        subst (λ w. Appends (output contents a) (output contents d) w) (sym is)
        (retained_along (output contents a) (output contents c) (output contents d) (part ++ one)
        (appended_more (output contents a) (output contents b) (output contents c) part one (h.printed (sym error ∙ k.failed fine)) added) (k.same fine));
  }
