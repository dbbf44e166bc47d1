-- What a session has written once it is finished.
use Rattle.std.proofs.Common.{◌≡◌, ◌≢◌, ℕ, ◌&&◌, Bool, true, false, not, List, [], Option, None, Some, MatchBool, All, Vec, refl, sym, ap, subst, ◌∙◌}
use Rattle.std.proofs.lemmas.List.Elements.{All-nil}
use Rattle.std.specs.declared.alloc.Global.{Global}
use Rattle.vjson_text.specs.Texts.{AppendsKeyOf}
use Rattle.std.specs.Io.KnownBytes.{Appends, Keeps}
use Rattle.vjson_run.proofs.Taken.{appended_more, retained_along, same_answered}
use Rattle.vjson_run.proofs.InOrder.{order_done}
use Rattle.vjson_run.specs.InOrder.{AreInOrder, AreInOrderSoFar}
use Rattle.vjson_run.specs.Output.{IsWritten, output}
use Rattle.vjson_run.specs.Runs.{AreAnswered, AreEqual, AreEqualSoFar, AreLinesFor, AreSorted, HasMade, HasTaken, IsDone, WritesSorted, ends_sorted, is_yes, sorted_text, sorts}
use Rattle.vjson_run.specs.declared.options.Command.{Command}
use Rattle.vjson_run.specs.declared.options.Command.TheVariants.{Check, Format, Get, Sort, Equal, Diff, Keys}
use Rattle.vjson_run.specs.declared.options.Options.{Options}
use Rattle.vjson_run.specs.declared.session.Session.{Session}
use Rattle.vjson_run.specs.declared.session.Status.{Status}
use Rattle.vjson_run.specs.declared.session.Status.TheVariants.{Yes, Trouble}

equal_done : (o : Options) (texts : List (List ℕ)) (last : Option (Vec ℕ Global)) (good : Bool) → AreEqualSoFar o texts last good → AreEqual o texts good
equal_done o texts last false h = h
equal_done o texts None true h = ([], subst (λ l. All (λ text. AppendsKeyOf o.grammar text [] []) l) (sym h) (All-nil (λ text. AppendsKeyOf o.grammar text [] [])))
equal_done o texts (Some key) true h = (key.items, h.1)

-- what `sort` and `sort --check` have made of texts
abbrev ByDone : Bool → Options → List (List ℕ) → Option (List ℕ) → Option (List ℕ) → Bool → Type 0
ByDone check o texts start end good = MatchBool check (AreInOrder o texts good × Appends start end []) (AreSorted o texts start end good)

module _ {W E : Type 0} (contents : W → Option (List ℕ)) where
  -- what `sort` and `sort --check` have of some texts
  abbrev BySort : Bool → Option (List ℕ) → List (List ℕ) → Session W E → Type 0
  BySort check start texts s = MatchBool check (AreInOrderSoFar s.options.now texts s.last (is_yes s.status) × Appends start (output contents s.out) [] × (s.status ≡ Yes → s.over ≡ false))
      (AreLinesFor s.options.now texts s.lines.items (is_yes s.status) × Appends start (output contents s.out) [] × (s.over ≡ false))

  -- nothing is to be sorted: what is printed is written
  unsorted_sort : (check good : Bool) (s : Session W E) (start end : Option (List ℕ)) (texts : List (List ℕ)) → s.options.now.check ≡ check → is_yes s.status ≡ good → (not check && good) ≡ false
      → Keeps (output contents s.out) end → HasMade contents start texts s Sort → IsDone s.options.now texts start end good Sort
  unsorted_sort true good s start end texts is status unsorted retained had =
      let m : AreInOrderSoFar s.options.now texts s.last (is_yes s.status) × Appends start (output contents s.out) [] × (s.status ≡ Yes → s.over ≡ false) =
      subst (λ b. BySort b start texts s) is had in
      subst (λ b. ByDone b s.options.now texts start end good) (sym is)
      (order_done s.options.now texts s.last good (subst (AreInOrderSoFar s.options.now texts s.last) status m.0), retained_along start (output contents s.out) end [] m.1 retained)
  unsorted_sort false true s start end texts is status unsorted retained had = cc
  unsorted_sort false false s start end texts is status unsorted retained had =
      let m : AreLinesFor s.options.now texts s.lines.items (is_yes s.status) × Appends start (output contents s.out) [] × (s.over ≡ false) =
      subst (λ b. BySort b start texts s) is had in
      subst (λ b. ByDone b s.options.now texts start end false) (sym is)
      (subst (AreLinesFor s.options.now texts s.lines.items) status m.0, retained_along start (output contents s.out) end [] m.1 retained)

  answered_done : (s : Session W E) (start end : Option (List ℕ)) (texts : List (List ℕ)) → Keeps (output contents s.out) end
      → AreAnswered s.options.now texts start (output contents s.out) (is_yes s.status) × (s.over ≡ false) → AreAnswered s.options.now texts start end (is_yes s.status)
  answered_done s start end texts retained had =
      same_answered s.options.now texts start (output contents s.out) end (is_yes s.status) had.0 (λ w h. retained_along start (output contents s.out) end w h retained)

  pub unsorted_done : (command : Command) (s : Session W E) (start end : Option (List ℕ)) (texts : List (List ℕ)) → ends_sorted command s.options.now.check s.status ≡ false → Keeps (output contents s.out) end
      → HasMade contents start texts s command → IsDone s.options.now texts start end (is_yes s.status) command
  unsorted_done Check s start end texts unsorted retained had = answered_done s start end texts retained had
  unsorted_done Format s start end texts unsorted retained had = answered_done s start end texts retained had
  unsorted_done Get s start end texts unsorted retained had = answered_done s start end texts retained had
  unsorted_done Keys s start end texts unsorted retained had = answered_done s start end texts retained had
  unsorted_done Diff s start end texts unsorted retained had = answered_done s start end texts retained had
  unsorted_done Equal s start end texts unsorted retained had = (equal_done s.options.now texts s.last (is_yes s.status) had.0, retained_along start (output contents s.out) end [] had.1 retained)
  unsorted_done Sort s start end texts unsorted retained had = unsorted_sort s.options.now.check (is_yes s.status) s start end texts refl refl unsorted retained had

  -- the lines are written in order
  sorted_sort : (check good : Bool) (s t : Session W E) (start end : Option (List ℕ)) (texts : List (List ℕ)) → s.options.now.check ≡ check → is_yes s.status ≡ good → (not check && good) ≡ true
      → WritesSorted contents s t → t.out.error ≡ None → Keeps (output contents t.out) end → HasMade contents start texts s Sort → IsDone s.options.now texts start end good Sort
  sorted_sort true good s t start end texts is status unsorted w fine retained had = cc
  sorted_sort false false s t start end texts is status unsorted w fine retained had = cc
  sorted_sort false true s t start end texts is status unsorted w fine retained had =
      let m : AreLinesFor s.options.now texts s.lines.items (is_yes s.status) × Appends start (output contents s.out) [] × (s.over ≡ false) =
      subst (λ b. BySort b start texts s) is had in
      subst (λ b. ByDone b s.options.now texts start end true) (sym is) (
        s.lines.items,
        w.sorted,
        subst (AreLinesFor s.options.now texts s.lines.items) status m.0,
        w.arranged,
        retained_along start (output contents t.out) end (sorted_text s.options.now w.sorted)
            (appended_more contents start (output contents s.out) (output contents t.out) [] (sorted_text s.options.now w.sorted) m.1 (w.printed.printed fine)) retained,
      )

  pub sorted_done : (command : Command) (s t : Session W E) (start end : Option (List ℕ)) (texts : List (List ℕ)) → ends_sorted command s.options.now.check s.status ≡ true → WritesSorted contents s t
      → t.out.error ≡ None → Keeps (output contents t.out) end → HasMade contents start texts s command → IsDone s.options.now texts start end (is_yes s.status) command
  sorted_done Sort s t start end texts sorted w fine retained had = sorted_sort s.options.now.check (is_yes s.status) s t start end texts refl refl sorted w fine retained had
  sorted_done Check s t start end texts sorted w fine retained had = cc
  sorted_done Format s t start end texts sorted w fine retained had = cc
  sorted_done Get s t start end texts sorted w fine retained had = cc
  sorted_done Keys s t start end texts sorted w fine retained had = cc
  sorted_done Equal s t start end texts sorted w fine retained had = cc
  sorted_done Diff s t start end texts sorted w fine retained had = cc

  by_sorts : (sorted : Bool) (s m t : Session W E) (start : Option (List ℕ)) (texts : List (List ℕ)) → sorts s ≡ sorted → (sorts s ≡ false → m ≡ s) → (sorts s ≡ true → m.status ≢ Trouble → WritesSorted contents s m)
      → m.status ≢ Trouble → IsWritten contents m.out t.out → HasTaken contents start texts s
      → IsDone s.options.now texts start (contents t.out.writer) (is_yes m.status) s.options.now.command
  by_sorts false s m t start texts is nothing sorted calm written had =
      let same = nothing is in
      subst (λ x. IsDone s.options.now texts start (contents t.out.writer) (is_yes x.status) s.options.now.command) (sym same)
      (unsorted_done s.options.now.command s start (contents t.out.writer) texts is (subst (λ x. Keeps (output contents x.out) (contents t.out.writer)) same written.written)
      (had (λ e. calm (ap (λ x. x.status) same ∙ e)) (sym (ap (λ x. x.out.error) same) ∙ written.fine)))
  by_sorts true s m t start texts is nothing sorted calm written had =
      let w = sorted is calm in
      subst (λ status. IsDone s.options.now texts start (contents t.out.writer) (is_yes status) s.options.now.command) (sym w.status)
      (sorted_done s.options.now.command s m start (contents t.out.writer) texts is w written.fine written.written
      (had (λ e. calm (w.status ∙ e)) (w.printed.failed written.fine)))

  pub finished : (s m t : Session W E) (status : Status) → (sorts s ≡ false → m ≡ s) → (sorts s ≡ true → m.status ≢ Trouble → WritesSorted contents s m) → (t.status ≢ Trouble → t.status ≡ m.status)
      → (t.status ≢ Trouble → IsWritten contents m.out t.out) → t.status ≡ status → status ≢ Trouble → (start : Option (List ℕ)) (texts : List (List ℕ)) → HasTaken contents start texts s
      → IsDone s.options.now texts start (contents t.out.writer) (is_yes status) s.options.now.command
  finished s m t status nothing sorted same written is calm start texts had =
      let quiet : t.status ≢ Trouble = λ e. calm (sym is ∙ e) in
      let mid : m.status ≡ status = sym (same quiet) ∙ is in
      subst (λ x. IsDone s.options.now texts start (contents t.out.writer) (is_yes x) s.options.now.command) mid
      (by_sorts (sorts s) s m t start texts refl nothing sorted (λ e. calm (sym mid ∙ e)) (written quiet) had)
