use Rattle.std.proofs.Common.{◌≡◌, ℕ, ◌+◌, ◌<◌, Bool, List, [], ◌∷◌, ◌++◌, length, get_or, take, sym, ap, ap₂, ◌∙◌, arith}
use Rattle.std.specs.Prelude.{filter}
use Rattle.fp_model.specs.declared.parts.Shipment.{Shipment}
use Rattle.fp_model.specs.Problem.{Problem}
use Rattle.fp_flatnet.specs.Tables.{windows_in}
use Rattle.fp_prices.specs.declared.tables.Weight.{Weight}
use Rattle.fp_prices_knapsack.specs.declared.items.Item.{Item}
use Rattle.fp_prices_spans.specs.MomentRuns.{can_leave}
use Rattle.fp_prices_spans.specs.SpanCharges.{item_of, items_of}
use Rattle.fp_prices_spans.specs.Spans.{ClassSpan}
use Rattle.fp_prices_spans.proofs.GroupItems.{items-with, items-without}
use Rattle.fp_prices_spans.proofs.PlaceSets.{no_weight, weight_at}
use Rattle.fp_prices_spans.proofs.rules.charge_rule.fill_items.Goals as goal
use Rattle.fp_prices_spans.proofs.rules.charge_rule.fill_items.Goals.{then-can_leave+in_ok-push, else-can_leave}

pub loop-weight-preserved : goal.loop-weight-preserved
loop-weight-preserved c =
    let p : Problem = c.args.instance.now in
    let weights : List Weight = c.args.span.now.weights in
    let i : ℕ = c.loop-weight.weight-index in
    let can : ℕ → ℕ → Bool = can_leave (windows_in c.args.windows.now) c.args.run in
    let test : Weight → Bool = λ w. can c.args.span.now.arc w.shipment in
    let same : c.deref-weight-items.result.now ≡ weights = c.deref-weight-items.ensures.value ∙ ap (λ (s : ClassSpan). s.weights) c.span.view_is in
    let inside : i < length weights = omega (arith, c.loop-weight-test.true, ap (λ (l : List Weight). length l) same) in
    let read : get_or c.deref-weight-items.result.now i no_weight ≡ weight_at weights i = ap (λ (l : List Weight). get_or l i no_weight) same in
    let told : c.can_leave.result ≡ test (weight_at weights i) =
    c.can_leave.ensures ∙ ap₂ (λ (a : ℕ) (w : Weight). can a w.shipment) (ap (λ (s : ClassSpan). s.arc) c.span.view_is) read in
    elim c.if-can_leave.branch as (λ _. c.if-can_leave.items.items ≡ items_of p (filter test (take (i + 1) weights))) [
      | then-can_leave+in_ok-push w ↦
          let item : record { size = w.shipment.result.now.size; weight = (get_or c.deref-weight-items.result.now i no_weight).w } ≡ item_of p (weight_at weights i) =
          ap (λ (s : Shipment). record { size = s.size; weight = (get_or c.deref-weight-items.result.now i no_weight).w }) w.shipment.ensures.same ∙ ap (item_of p) read in
          ap (λ v. v.items) w.items-is ∙ w.in_ok-push.ensures.items ∙ ap₂ (λ (l : List Item) (x : Item). l ++ x ∷ []) c.loop-weight.invariant item
          ∙ sym (items-with p test weights i inside (sym told ∙ w.if-can_leave.true))
      | else-can_leave w ↦ ap (λ v. v.items) w.items-is ∙ c.loop-weight.invariant ∙ sym (items-without p test weights i inside (sym told ∙ w.if-can_leave.false))
    ]
