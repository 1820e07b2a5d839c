use Rattle.std.proofs.Common.{◌≡◌, ℕ, ◌+◌, Bool, List, length, sym, ap, ◌∙◌, subst, arith}
use Rattle.std.specs.Prelude.{not}
use Rattle.fp_longestarcs.specs.Networks.{class_count}
use Rattle.fp_model.specs.declared.parts.Leg.{Leg}
use Rattle.fp_model.specs.Costs.{all_legs, has_leg, load}
use Rattle.fp_allowed.specs.Listing.{class_at}
use Rattle.fp_prices.specs.LeafPricings.{AreChainsOf}
use Rattle.fp_prices_spans.proofs.MarkedBits.{AreMarked, load-told, marked-none, marked-set, marked-skip}
use Rattle.fp_prices_spans.proofs.values.spanned_rows.mark.Goals as goal
use Rattle.fp_prices_spans.proofs.values.spanned_rows.mark.Goals.{then-is_none, else-is_none}

pub loop-class-init : goal.loop-class-init
loop-class-init c = record {
  from = omega arith;
  until = omega (arith, c.requires.order);
  long = omega arith;
  told = λ chains are.
      marked-none c.args.row.now c.args.range.first (class_count c.args.pricing.now.leaf.setting.network) (λ n. not (has_leg (class_at c.args.pricing.now.leaf.setting.network n) (all_legs chains)));
}

pub set-requires : goal.set-requires
set-requires c = omega (arith, c.loop-class.invariant.long, c.requires.long, c.requires.within)

pub loop-class-preserved : goal.loop-class-preserved
loop-class-preserved c = record {
  from = omega (arith, c.loop-class.invariant.from);
  until = omega arith;
  long = long;
  told = told;
}
  where
    long : length c.if-is_none.row ≡ length c.args.row.now
    long = elim c.if-is_none.branch as (λ _. length c.if-is_none.row ≡ length c.args.row.now) [
      | then-is_none w ↦ ap (λ (r : List Bool). length r) w.row-is ∙ w.set.ensures.len ∙ c.loop-class.invariant.long
      | else-is_none w ↦ ap (λ (r : List Bool). length r) w.row-is ∙ c.loop-class.invariant.long
    ]

    told : (chains : List (List Leg)) → AreChainsOf c.args.pricing.now.leaf c.args.pricing.now.forced chains →
        AreMarked c.args.row.now c.if-is_none.row c.args.range.first (c.loop-class.class + 1) (class_count c.args.pricing.now.leaf.setting.network)
        (λ n. not (has_leg (class_at c.args.pricing.now.leaf.setting.network n) (all_legs chains)))
    told chains are =
        let k : ℕ = c.loop-class.class in
        let row : List Bool = c.loop-class.row in
        let count : ℕ = class_count c.args.pricing.now.leaf.setting.network in
        let has : ℕ → Bool = λ n. has_leg (class_at c.args.pricing.now.leaf.setting.network n) (all_legs chains) in
        let so_far : AreMarked c.args.row.now row c.args.range.first k count (λ n. not (has n)) = c.loop-class.invariant.told chains are in
        let loaded = load-told c.forced_load.result (has k) (λ size. size ≡ load c.args.pricing.now.leaf.setting.problem.shipments chains (class_at c.args.pricing.now.leaf.setting.network k)) (c.forced_load.ensures chains are) in
        let none : has k ≡ not c.is_none.result = sym loaded ∙ c.is_none.ensures in
        elim c.if-is_none.branch as (λ _. AreMarked c.args.row.now c.if-is_none.row c.args.range.first (k + 1) count (λ n. not (has n))) [
          | then-is_none w ↦
              subst (λ (r : List Bool). AreMarked c.args.row.now r c.args.range.first (k + 1) count (λ n. not (has n))) (sym (w.row-is ∙ w.set.ensures.bits))
              (marked-set c.args.row.now row c.args.range.first k count (λ n. not (has n)) c.loop-class.invariant.from so_far (omega (arith, c.loop-class.invariant.long, c.requires.long, c.requires.within))
              (ap not (none ∙ ap not w.if-is_none.true)))
          | else-is_none w ↦
              subst (λ (r : List Bool). AreMarked c.args.row.now r c.args.range.first (k + 1) count (λ n. not (has n))) (sym w.row-is)
              (marked-skip c.args.row.now row c.args.range.first k count (λ n. not (has n)) c.loop-class.invariant.from so_far (ap not (none ∙ ap not w.if-is_none.false)))
        ]

pub returns-clause-told : goal.returns-clause-told
returns-clause-told c chains are n within =
    let whole : c.loop-class.class ≡ c.args.range.end = omega (arith, c.loop-class.invariant.until) in
    subst (λ (k : ℕ). AreMarked c.args.row.now c.loop-class.row c.args.range.first k (class_count c.args.pricing.now.leaf.setting.network)
    (λ m. not (has_leg (class_at c.args.pricing.now.leaf.setting.network m) (all_legs chains)))) whole (c.loop-class.invariant.told chains are) n within
