use Rattle.std.proofs.Common.{◌≡◌, ◌<◌, ◌≤◌, ◌∙◌, ◌∷◌, ℕ, Some, None, List, length, sym, ap, subst, ⊎_elim, arith}
use Rattle.std.specs.Prelude.{Option, slice_index_or}
use Rattle.std.proofs.lemmas.Bool.{cases_lt, false≢true}
use Rattle.fp_labels.specs.Labels.{cost_to}
use Rattle.fp_labels.specs.Walks.{cost_of}
use Rattle.fp_model.specs.declared.parts.Arc.{Arc}
use Rattle.fp_model.specs.Problem.{arc_at}
use Rattle.fp_model.proofs.Validity.{IsArc-valid}
use Rattle.fp_replan.specs.Starts.{BeginsPast, open_costs}
use Rattle.fp_replan.proofs.OnwardWalks.{IsPastDistance, adds-from_begins, begins-from_adds, label-past}
use Rattle.fp_replan.proofs.onward.first_onward.Goals as goal
use Rattle.fp_replan.proofs.onward.first_onward.Goals.{else-arc-here-via-then-arc-here+else-is_on_way, else-arc-here-via-else-arc-here}

pub returns-in_err-left : goal.returns-in_err-left
returns-in_err-left c =
    let p = c.args.instance.now in
    let gone : List ℕ = c.args.gone.now in
    let here = c.args.here in
    let there = c.args.shipment.now.to in
    let none : IsPastDistance p gone here there None =
    subst (λ (o : Option ℕ). IsPastDistance p gone here there o) (sym c.in_err-left.ensures.label) (label-past p gone there c.args.labels.now c.requires.labels here c.requires.here) in
    rw c.from_residual.ensures (λ a lt begins. none (a ∷ begins.rest) begins.leads begins.avoids)

pub returns-then-is_on_way : goal.returns-then-is_on_way
returns-then-is_on_way c =
    let p = c.args.instance.now in
    let gone : List ℕ = c.args.gone.now in
    let here = c.args.here in
    let there = c.args.shipment.now.to in
    let n = c.loop-number.number in
    let t = c.in_ok-left.left in
    let labels = c.args.labels.now in
    let valid = c.arcs-known.ensures.valid in
    let lt : n < length p.arcs = rw (← c.arcs.ensures.same) c.loop-number-test.true in
    let from : (arc_at p n).from ≡ here = ap (λ (a : Arc). a.from) (sym c.arc.ensures.same) ∙ c.if-arc-here.true in
    let least : IsPastDistance p gone here there (Some t) =
    subst (λ (o : Option ℕ). IsPastDistance p gone here there o) (sym c.in_ok-left.ensures.label) (label-past p gone there labels c.requires.labels here c.requires.here) in
    let onward : IsPastDistance p gone (arc_at p n).to there (cost_to labels (arc_at p n).to) =
    label-past p gone there labels c.requires.labels (arc_at p n).to (IsArc-valid p n valid lt).to in
    let cost : slice_index_or c.args.costs.now n None ≡ cost_of (open_costs p gone) n = ap (λ (xs : List (Option ℕ)). slice_index_or xs n None) c.requires.costs in
    record {
      begins =
          begins-from_adds p gone here there n t (cost_to labels (arc_at p n).to) (slice_index_or c.args.costs.now n None) valid lt from least onward cost
          (c.is_on_way.ensures.0 c.if-is_on_way.true);
      first = c.loop-number.invariant;
    }

pub loop-number-preserved : goal.loop-number-preserved
loop-number-preserved c =
    λ a more begins.
    let p = c.args.instance.now in
    let gone : List ℕ = c.args.gone.now in
    let here = c.args.here in
    let there = c.args.shipment.now.to in
    let n = c.loop-number.number in
    let t = c.in_ok-left.left in
    let labels = c.args.labels.now in
    let valid = c.arcs-known.ensures.valid in
    let lt : n < length p.arcs = rw (← c.arcs.ensures.same) c.loop-number-test.true in
    let least : IsPastDistance p gone here there (Some t) =
    subst (λ (o : Option ℕ). IsPastDistance p gone here there o) (sym c.in_ok-left.ensures.label) (label-past p gone there labels c.requires.labels here c.requires.here) in
    let onward : IsPastDistance p gone (arc_at p n).to there (cost_to labels (arc_at p n).to) =
    label-past p gone there labels c.requires.labels (arc_at p n).to (IsArc-valid p n valid lt).to in
    let cost : slice_index_or c.args.costs.now n None ≡ cost_of (open_costs p gone) n = ap (λ (xs : List (Option ℕ)). slice_index_or xs n None) c.requires.costs in
    ⊎_elim
    (λ (before : a < n). c.loop-number.invariant a before begins)
    (λ (after : n ≤ a).
    let same : a ≡ n = omega (arith, more, after) in
    let here_begins : BeginsPast p gone here there n = subst (λ (b : ℕ). BeginsPast p gone here there b) same begins in
    elim c.else-arc-here.branch [
      | else-arc-here-via-then-arc-here+else-is_on_way w ↦
          false≢true
          (sym w.if-is_on_way.false
          ∙ w.is_on_way.ensures.1
          (adds-from_begins p gone here there n t (cost_to labels (arc_at p n).to) (slice_index_or c.args.costs.now n None) valid least onward cost here_begins))
      | else-arc-here-via-else-arc-here w ↦ w.if-arc-here.false (ap (λ (x : Arc). x.from) c.arc.ensures.same ∙ here_begins.leads.1)
    ])
    (cases_lt a n)

pub returns : goal.returns
returns c =
    λ a lt begins.
    let all : length c.args.instance.now.arcs ≤ c.loop-number.number = rw (← c.arcs.ensures.same) c.loop-number-test.false in
    c.loop-number.invariant a (omega (arith, lt, all)) begins
