use Rattle.std.proofs.Common.{◌≡◌, List, ℕ, ◌≤◌, drop, map, length, refl, ap, subst, sym, ◌∙◌}
use Rattle.std.proofs.lemmas.List.{take-append-drop}
use Rattle.text_members.specs.Members.{AreInOrder, AreKeyed, AreWritten, Piece, ReportsRepeat, bytes_of_pieces, spot_in, spots_of_pieces}
use Rattle.text_members.specs.OpenMembers.{PutsInOrder}
use Rattle.text_members.proofs.OpenMembers.{put}
use Rattle.text_members.proofs.open_members.OpenMembers.put_in_order.Goals as goal

pub returns-then-self-clause-retained : goal.returns-then-self-clause-retained
returns-then-self-clause-retained c =
    let old = c.args.out.now.items in
    record { more = drop c.args.site.now.floor old; extended = sym (take-append-drop c.args.site.now.floor old) }

pub returns-clause-order : goal.returns-clause-order
returns-clause-order c =
    let keys = c.new-keys.result in
    let site = c.args.site.now in
    let old : List ℕ = c.args.out.now.items in
    let new : List ℕ = c.put_in_order.new.out.items in
    let index = c.in_ok-found.found in
    let text = ap (λ t. t.now) c.new-keys.ensures.text in
    subst (PutsInOrder site.commas site.floor c.args.self.now _ c.args.first old new) (sym c.repeat_from.ensures)
    (put site.commas site.floor c.args.self.now _ c.args.first old new keys.decoded.now keys.members.now index (ap (λ d. d.now) c.new-keys.ensures.decoded ∙ c.deref.ensures.value) (ap (λ m. m.now) c.new-keys.ensures.members ∙ c.members_from-members.ensures)
    (record { text = refl; entries = refl; decoded = refl })
    (subst (λ t. AreKeyed t keys.decoded.now keys.members.now → ReportsRepeat t keys.decoded.now keys.members.now index) text c.in_ok-found.ensures.repeat)
    (subst (λ t. AreKeyed t keys.decoded.now keys.members.now → (front : List ℕ) → (pieces : List Piece) → site.floor ≤ length front → spots_of_pieces pieces ≡ map (spot_in t keys.decoded.now) keys.members.now
    → AreWritten site.commas keys.members.now front (bytes_of_pieces pieces) old → AreInOrder site.commas front pieces index new) text c.in_ok-found.ensures.bytes))
