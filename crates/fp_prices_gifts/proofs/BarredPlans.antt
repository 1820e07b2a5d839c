-- The plans of a leaf that cost less than an amount obey the leaf's bars by it.
use Rattle.std.proofs.Common.{◌≡◌, ℕ, ◌*◌, ◌<◌, ◌≤◌, Bool, List, [], length, map, ⊎_elim, sym, subst, arith}
use Rattle.std.specs.Prelude.{Contains, Option, slice_index_or}
use Rattle.std.specs.Int.{div_ceil}
use Rattle.std.proofs.lemmas.List.{get_or-map, length-map}
use Rattle.std.proofs.lemmas.List.Elements.{Contains-get_or}
use Rattle.std.proofs.lemmas.Slice.Zip.{AllZip-long}
use Rattle.fp_base_lists.proofs.Ceilings.{div_ceil-least}
use Rattle.fp_base_lists.proofs.Elements.{AllByRecursion-from_map, AllByRecursion-get_or}
use Rattle.fp_base_lists.proofs.Numbered.{AllZip-get_or}
use Rattle.fp_model.specs.declared.parts.Leg.{Leg}
use Rattle.fp_model.specs.Costs.{cost}
use Rattle.fp_model.specs.Numbered.{no_shipment, route_at, shipment_at}
use Rattle.fp_model.specs.Problem.{IsValid, Problem}
use Rattle.fp_model.specs.Routes.{Carries, arcs_of}
use Rattle.fp_model.proofs.Bounds.{Leads-exist}
use Rattle.fp_flatnet.specs.declared.window_tables.Window.{Window}
use Rattle.fp_flatnet.specs.Tables.{windows_in}
use Rattle.fp_longestarcs.specs.Classes.{class_of}
use Rattle.fp_tree.specs.declared.sides.Side.{Side}
use Rattle.fp_allowed.specs.Allowed.{PlanObeys, is_allowed}
use Rattle.fp_prices.specs.declared.leaf_prices.Kind.{Kind}
use Rattle.fp_prices.specs.Leaves.{IsPlanOfLeaf}
use Rattle.fp_prices.specs.Prices.{AllKeepRule}
use Rattle.fp_prices.specs.Shares.{ClassShare}
use Rattle.fp_prices.proofs.LeafPlans.{leaf_windows-keep_plans}
use Rattle.fp_prices.proofs.OneValue.{chains-unique}
use Rattle.fp_prices_spans.specs.MomentRuns.{AreAmong}
use Rattle.fp_prices_spans.specs.SpanBars.{AreBarsOf, HasNoWalkThrough}
use Rattle.fp_prices_spans.specs.SpanLeaves.{ChargedKeepSetRule, leaf_heads}
use Rattle.fp_prices_spans.specs.Spans.{ClassSpan}
use Rattle.fp_prices_spans.proofs.ObeyedBars.{obeys-bars}
use Rattle.fp_prices_spans.proofs.SoundSpans.{charged_pay-keep_set_rule}
use Rattle.fp_prices_spans.proofs.SpanBounds.{sets-charged}
use Rattle.fp_prices_spans.proofs.ThroughBounds.{GoesThrough, through-some}
use Rattle.fp_prices_gifts.specs.declared.gifts.Gift.{Gift}
use Rattle.fp_prices_gifts.specs.GiftBars.{CheaperPlansObeyBars, IsGiftBarred, IsGiftValueThrough, IsMomentBarred}
use Rattle.fp_prices_gifts.specs.Gifts.{KeepMoneyRule}
use Rattle.fp_prices_gifts.proofs.GiftBounds.{through_gifts-within}

module _ (p : Problem) (windows : ℕ → ℕ → Option Window) (first points : ℕ → List ℕ) (sides : List Side) (tables : List (List ClassShare)) (spans : List ClassSpan) (gifts : List Gift) (kind : Kind) (forced : Bool) (money : ℕ) (valid : IsValid p)
    (among : AreAmong p first points) (keep : AllKeepRule p tables) (rule : KeepMoneyRule p spans gifts) (d : ℕ) (plan : List (List Leg)) (of_leaf : IsPlanOfLeaf p windows sides d plan) (cheap : cost p plan < money) where
  -- a cheaper plan uses no class that is barred, where the spans that are charged keep the set rule
  class-unused : (k : ℕ) (class : Leg) (barred : IsGiftBarred p windows points sides tables spans gifts kind forced money k class) →
      ChargedKeepSetRule p windows first (is_allowed p windows points sides) barred.leaf.by_spans.chains spans → GoesThrough p windows points sides spans k class d plan → ⊥
  class-unused k class barred sets goes =
      ⊎_elim
      (λ (none : HasNoWalkThrough p (leaf_heads p windows points spans k) (is_allowed p windows points sides k) (shipment_at p k) class). through-some p windows points sides spans k class d plan barred.exists of_leaf goes none)
      (λ (worth : (through : ℕ) × IsGiftValueThrough p windows points sides tables spans gifts kind forced k class through × (money ≤ div_ceil through p.scale)).
      let chains : barred.leaf.by_spans.chains ≡ worth.1.by_spans.chains =
      chains-unique p (is_allowed p windows points sides) forced 0 p.shipments barred.leaf.by_spans.chains worth.1.by_spans.chains barred.leaf.by_spans.are_chains worth.1.by_spans.are_chains in
      let within : worth.0 ≤ p.scale * cost p plan =
      through_gifts-within p points sides spans gifts rule d plan windows first tables kind forced worth.0 valid among keep of_leaf k class worth.1
      (subst (λ (legs : List (List Leg)). ChargedKeepSetRule p windows first (is_allowed p windows points sides) legs spans) chains sets) goes in
      let few : div_ceil worth.0 p.scale ≤ cost p plan = div_ceil-least worth.0 p.scale (cost p plan) (omega (arith, valid.scale.0)) (omega (arith, within)) in
      absurd (omega (arith, few, worth.2, cheap)))
      barred.why

  -- so it obeys sides that bar such classes alone
  obeys-barred : (IsBarred : (shipment : ℕ) → Leg → Type 0) → ((k : ℕ) (class : Leg) → IsBarred k class → GoesThrough p windows points sides spans k class d plan → ⊥) →
      (bars : List Side) → AreBarsOf p points IsBarred bars → PlanObeys p d bars plan
  obeys-barred IsBarred unused bars are =
      obeys-bars p points IsBarred bars d plan are (omega (arith, of_leaf.denominator)) (omega (arith, AllZip-long (Carries p d) p.shipments plan of_leaf.plan)) exist
      (λ k i none exists at barred. unused k (class_of p points d (slice_index_or (route_at plan k) i none)) barred (goes k i none at))
    where
      goes : (k i : ℕ) (none : Leg) → i < length (route_at plan k) → GoesThrough p windows points sides spans k (class_of p points d (slice_index_or (route_at plan k) i none)) d plan
      goes k i none at =
          subst (λ (c : Leg). Contains (map (class_of p points d) (route_at plan k)) c) (get_or-map (class_of p points d) (route_at plan k) i none (class_of p points d none) at)
          (Contains-get_or (map (class_of p points d) (route_at plan k)) i (class_of p points d none) (omega (arith, at, length-map (route_at plan k) (class_of p points d))))

      exist : (k i : ℕ) (none : Leg) → k < length p.shipments → i < length (route_at plan k) → (slice_index_or (route_at plan k) i none).arc < length p.arcs
      exist k i none exists at =
          let route = AllZip-get_or (Carries p d) p.shipments plan k no_shipment [] of_leaf.plan exists in
          AllByRecursion-get_or (λ (l : Leg). l.arc < length p.arcs) (route_at plan k) i none
          (AllByRecursion-from_map (λ (a : ℕ). a < length p.arcs) (λ (l : Leg). l.arc) (route_at plan k) (Leads-exist p (shipment_at p k).from (arcs_of (route_at plan k)) (shipment_at p k).to route.route.leads)) at

-- so cheaper plans obey the bars, also by moments, where the first points are the leaf's own
pub cheaper_plans-obey-bars : CheaperPlansObeyBars
cheaper_plans-obey-bars = record {
  gifts = λ p windows first points sides tables spans gifts kind forced money bars valid among keep rules are d routes of_leaf cheap.
      obeys-barred p windows first points sides tables spans gifts kind forced money valid among keep rules.money d routes of_leaf cheap (IsGiftBarred p windows points sides tables spans gifts kind forced money)
      (λ k class barred.
      class-unused p windows first points sides tables spans gifts kind forced money valid among keep rules.money d routes of_leaf cheap k class barred
      (sets-charged p windows first (is_allowed p windows points sides) barred.leaf.by_spans.chains spans rules.sets)) bars are;
  moments = λ p windows points sides tables spans gifts kind forced money bars valid keep of ordered rule are d routes of_leaf cheap.
      obeys-barred p windows points points sides tables spans gifts kind forced money valid (λ terminal q exists has. has) keep rule d routes of_leaf cheap (IsMomentBarred p windows points sides tables spans gifts kind forced money)
      (λ k class barred.
      class-unused p (windows_in barred.narrower) points points sides tables spans gifts kind forced money valid (λ terminal q exists has. has) keep rule d routes
      (leaf_windows-keep_plans p windows sides barred.narrower barred.under d routes of_leaf) cheap k class barred.barred
      (charged_pay-keep_set_rule p (windows_in barred.narrower) points (is_allowed p (windows_in barred.narrower) points sides) barred.barred.leaf.by_spans.chains spans valid of ordered barred.paid)) bars are;
}
