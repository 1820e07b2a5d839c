use Rattle.std.proofs.Common.{ℕ, false, sym, subst}
use Rattle.fp_model.specs.Problem.{Problem}
use Rattle.fp_timenodes.specs.Points.{points_at}
use Rattle.fp_flatnet.specs.Belonging.{FitsInstance}
use Rattle.fp_flatnet.specs.Tables.{windows_in}
use Rattle.fp_flatnet.proofs.WindowTimes.{BelongsTo-FitsInstance}
use Rattle.fp_longestarcs.specs.Networks.{points_in}
use Rattle.fp_longestarcs.specs.Whole.{IsNetworkOf}
use Rattle.fp_prices.specs.declared.leaf_prices.Kind.{Kind}
use Rattle.fp_prices.specs.KnownCosts.{AreKnownCosts}
use Rattle.fp_prices.specs.Leaves.{BoundsPlans, IsBoundOf, IsSmallBound}
use Rattle.fp_prices.specs.Tables.{AreTables}
use Rattle.fp_prices.proofs.SamePoints.{bound-same}
use Rattle.fp_prices.proofs.values.round_bounds.RoundBounds.bound.Goals as goal

pub bound_over-requires-clause-fits : goal.bound_over-requires-clause-fits
bound_over-requires-clause-fits c =
    let is = c.in_ok-bounds.ensures.holds c.args.tables.now c.requires.holds in
    subst (λ (p : Problem). FitsInstance p c.args.windows.now) (sym is.instance) (BelongsTo-FitsInstance c.args.instance.now c.args.windows.now c.requires.belongs)

pub bound_over-requires-clause-tables : goal.bound_over-requires-clause-tables
bound_over-requires-clause-tables c =
    let is = c.in_ok-bounds.ensures.holds c.args.tables.now c.requires.holds in
    subst (λ (p : Problem). AreTables p c.args.tables.now) (sym is.instance) c.requires.tables

pub bound_over-requires-clause-known : goal.bound_over-requires-clause-known
bound_over-requires-clause-known c =
    let is = c.in_ok-bounds.ensures.holds c.args.tables.now c.requires.holds in
    let bounds = c.in_ok-bounds.bounds in
    subst (λ (p : Problem). AreKnownCosts p bounds.network.network c.args.tables.now c.args.price.kind false bounds.known.items) (sym is.instance)
    (subst (λ (k : Kind). AreKnownCosts c.args.instance.now bounds.network.network c.args.tables.now k false bounds.known.items) c.in_ok-bounds.ensures.kind is.known)

pub returns-clause-exact : goal.returns-clause-exact
returns-clause-exact c =
    let p = c.args.instance.now in
    let is = c.in_ok-bounds.ensures.holds c.args.tables.now c.requires.holds in
    let bounds = c.in_ok-bounds.bounds in
    let net = bounds.network.network in
    let of = subst (λ (round : ℕ). IsNetworkOf p c.args.points.now round net) c.in_ok-bounds.ensures.round is.network in
    bound-same p c.requires.belongs.valid (windows_in c.args.windows.now) (points_in net) (λ terminal. points_at c.args.points.now terminal c.args.price.round) of.points c.args.sides.now c.args.tables.now c.args.price.kind
    c.args.price.forced c.in_ok-bound.bound
    (subst (λ (q : Problem). IsBoundOf q (windows_in c.args.windows.now) (points_in net) c.args.sides.now c.args.tables.now c.args.price.kind c.args.price.forced c.in_ok-bound.bound) is.instance c.in_ok-bound.ensures.exact)

pub returns-clause-plans : goal.returns-clause-plans
returns-clause-plans c =
    let is = c.in_ok-bounds.ensures.holds c.args.tables.now c.requires.holds in
    subst (λ (q : Problem). BoundsPlans q (windows_in c.args.windows.now) c.args.sides.now c.in_ok-bound.bound) is.instance c.in_ok-bound.ensures.plans

pub returns-clause-small : goal.returns-clause-small
returns-clause-small c =
    let is = c.in_ok-bounds.ensures.holds c.args.tables.now c.requires.holds in
    subst (λ (q : Problem). IsSmallBound q c.in_ok-bound.bound) is.instance c.in_ok-bound.ensures.small

pub returns-clause-holds : goal.returns-clause-holds
returns-clause-holds c =
    let is = c.in_ok-bounds.ensures.holds c.args.tables.now c.requires.holds in
    let bounds = c.in_ok-bounds.bounds in
    record {
      instance = is.instance;
      network = is.network;
      known =
          subst (λ (k : Kind). AreKnownCosts c.args.instance.now bounds.network.network c.args.tables.now k false c.bound_over.new.known.items) (sym c.in_ok-bounds.ensures.kind)
          (subst (λ (q : Problem). AreKnownCosts q bounds.network.network c.args.tables.now c.args.price.kind false c.bound_over.new.known.items) is.instance c.in_ok-bound.ensures.known);
    }
