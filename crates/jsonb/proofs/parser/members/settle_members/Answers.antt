use Rattle.std.proofs.Common.{◌≡◌, ◌+◌, ◌-◌, ◌<◌, List, ℕ, length, drop, Some, Err, ap, sym, subst, ◌∙◌, arith}
use Rattle.jsonb_spec.specs.Code.Code.{object_duplicate_key}
use Rattle.jsonb.specs.AstView.{Written}
use Rattle.jsonb.specs.Source.{found_of}
use Rattle.jsonb_spec.specs.Source.{Spot, adjacent_repeat, spot_of}
use Rattle.jsonb.proofs.Containers.Members.{no_more_left, not_repeated, repeated, spots}
use Rattle.text_common.proofs.Shuffles.{agree_if, differ_if, neighbours_agree, neighbours_differ}
use Rattle.jsonb.proofs.Offsets.Views.{fuse}
use Rattle.jsonb.proofs.parser.members.settle_members.Goals as goal

pub returns-then-eq : goal.returns-then-eq
returns-then-eq c =
    record {
      parses = λ rest.
          let new = c.sort_members.new.members.items in
          let i = c.loop-i.i in
          let a = c.index-earlier.result.now in
          let b = c.index-later.result.now in
          let s = spot_of (found_of b) in
          let same = agree_if (spot_of (found_of a)) s c.as_bytes.result.now c.as_bytes-in-loop-i.result.now (c.as_bytes.ensures.value ∙ c.as_str.ensures.value)
          (c.as_bytes-in-loop-i.ensures.value ∙ c.as_str-in-loop-i.ensures.value) c.if-eq.ensures in
          let within : i < length new = omega arith in
          let here = neighbours_agree (λ (x : Written). spot_of (found_of x)) new i (omega arith) within a b c.index-earlier.ensures c.index-later.ensures same in
          let found : adjacent_repeat (spots new) ≡ Some s = c.loop-i.invariant ∙ subst (λ (ss : List Spot). adjacent_repeat (drop (i - 1) ss) ≡ Some s) (sym (fuse found_of spot_of new)) here in
          repeated c.args.members.now.items new c.sort_members.ensures.permutation c.sort_members.ensures.ascending s rest found
          ∙ ap (λ (k : List ℕ). Err (record { code = object_duplicate_key k; offset = b.2 })) (sym (c.in_ok-key.ensures.ok ∙ c.as_str-then-eq.ensures.value));
    }

pub loop-i-preserved : goal.loop-i-preserved
loop-i-preserved c =
    let new = c.sort_members.new.members.items in
    let i = c.loop-i.i in
    let a = c.index-earlier.result.now in
    let b = c.index-later.result.now in
    let other = differ_if (spot_of (found_of a)) (spot_of (found_of b)) c.as_bytes.result.now c.as_bytes-in-loop-i.result.now (c.as_bytes.ensures.value ∙ c.as_str.ensures.value)
    (c.as_bytes-in-loop-i.ensures.value ∙ c.as_str-in-loop-i.ensures.value) c.if-eq.ensures in
    let within : i < length new = omega arith in
    let here = neighbours_differ (λ (x : Written). spot_of (found_of x)) new i (omega arith) within a b c.index-earlier.ensures c.index-later.ensures other in
    c.loop-i.invariant ∙ subst (λ (ss : List Spot). adjacent_repeat (drop (i - 1) ss) ≡ adjacent_repeat (drop (i + 1 - 1) ss)) (sym (fuse found_of spot_of new)) here

pub returns : goal.returns
returns c =
    record {
      parses = λ rest.
          let new = c.sort_members.new.members.items in
          not_repeated c.args.members.now.items new c.sort_members.ensures.permutation c.sort_members.ensures.ascending rest
          (c.loop-i.invariant ∙ no_more_left new c.loop-i.i (omega arith) (omega arith));
    }
