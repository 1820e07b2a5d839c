-- What is found over the network is the bound of the leaf.
use Rattle.std.proofs.Common.{◌≡◌, ℕ, ◌+◌, ◌*◌, ◌^◌, ◌<◌, ◌≤◌, Bool, false, List, [], length, sym, ap, ◌∙◌, subst, arith}
use Rattle.std.specs.Prelude.{All, IfOk, Option, Result, Ok, Err, sum_by}
use Rattle.std.specs.declared.alloc.AllocError.{AllocError}
use Rattle.std.proofs.Math.Nat.{mul-le-mul_left}
use Rattle.std.proofs.lemmas.List.Elements.{All-from_get_or}
use Rattle.fp_model.specs.declared.parts.Leg.{Leg}
use Rattle.fp_model.specs.Costs.{all_legs, departures_cost}
use Rattle.fp_base_lists.specs.Numbered.{AllZipFrom}
use Rattle.fp_model.specs.Numbered.{shipment_at}
use Rattle.fp_model.specs.Problem.{Problem, alone_total}
use Rattle.fp_flatnet.specs.declared.window_tables.Window.{Window}
use Rattle.fp_flatnet.specs.Tables.{WindowTable, windows_in}
use Rattle.fp_longestarcs.specs.Networks.{TimedNetwork, class_count, points_in}
use Rattle.fp_tree.specs.declared.sides.Side.{Side}
use Rattle.fp_allowed.specs.Settings.{Setting}
use Rattle.fp_allowed.proofs.RowClasses.{allowed_in-IsClass}
use Rattle.fp_prices.specs.declared.classes.bases.ForcedClasses.{ForcedClasses}
use Rattle.fp_prices.specs.declared.values.bounds.LeafBound.{LeafBound}
use Rattle.fp_prices.specs.declared.values.bounds.LeafBound.TheVariants.{Empty, Value}
use Rattle.fp_prices.specs.declared.classes.class_prices.ClassPricing.{ClassPricing}
use Rattle.fp_prices.specs.declared.values.known_costs.KnownCost.{KnownCost}
use Rattle.fp_prices.specs.ClassCosts.{AllowsClasses}
use Rattle.fp_prices.specs.Forced.{AreForcedClasses, AreForcedOf, AreRowsUnder, row_cost}
use Rattle.fp_prices.specs.Found.{IsFoundAtLeaf, IsFoundOver, IsPricedLeaf}
use Rattle.fp_prices.specs.FoundWalks.{AreLeastOver, AreWalksAtLeaf, HasPreferredAtLeaf, IsEmptyAtLeaf, IsEmptyOver}
use Rattle.fp_prices.specs.KnownCosts.{AreKnownCosts, AreKnownUnder, IsPlainPricing, IsSharedKind}
use Rattle.fp_prices.specs.LeafPricings.{IsLeafPricing, PricingModel, allowed_at}
use Rattle.fp_prices.specs.LeastWalks.{AreLeastWalks, HasPreferred, IsLeastWalk}
use Rattle.fp_prices.specs.Leaves.{BoundsPlans, IsBoundOf, IsChain, IsLeafEmpty, IsSmallBound, leaf_price}
use Rattle.fp_prices.specs.Prices.{AllKeepRule}
use Rattle.fp_prices.specs.Pricings.{IsPricing, TellsForced}
use Rattle.fp_prices.specs.Rounds.{IsLeafOver, LeafModel, RoundModel}
use Rattle.fp_prices.specs.Rows.{AreRowsOf}
use Rattle.fp_prices.proofs.BasesCost.{row_cost-chains}
use Rattle.fp_prices.proofs.KnownCosts.{known-same, plain-pricing}
use Rattle.fp_prices.proofs.OneValue.{chains-unique}
use Rattle.fp_prices.proofs.PlainChains.{all_legs-plain}
use Rattle.fp_prices.proofs.PlanBounds.{bounds-plans}
use Rattle.fp_prices.proofs.PricedClasses.{alone-fits}
use Rattle.fp_prices.proofs.SmallBounds.{bases-small, value-small}

-- the instance, its windows and a network together
abbrev pub setting_of : Problem → WindowTable → TimedNetwork → Setting
setting_of p windows net = record { problem = p; windows = windows; network = net }

-- a leaf as a contract sees it, of an instance, windows, a network and sides
abbrev pub leaf_of : Problem → WindowTable → TimedNetwork → List Side → LeafModel
leaf_of p windows net sides = record { setting = setting_of p windows net; sides = sides }

pub leaf-is : (p : Problem) (windows : WindowTable) (sides : List Side) (r : RoundModel) (l : LeafModel) → r.problem ≡ p → l.setting ≡ setting_of r.problem windows r.network → l.sides ≡ sides → l ≡ leaf_of p windows r.network sides
leaf-is p windows sides r l same setting own =
    ap (λ (s : Setting). leaf_with s l.sides) (setting ∙ ap (λ (q : Problem). setting_of q windows r.network) same) ∙ ap (leaf_with (setting_of p windows r.network)) own
  where
    leaf_with : Setting → List Side → LeafModel
    leaf_with s ss = record { setting = s; sides = ss }

-- rows under sides have one bit per class
pub rows-long : (s : Setting) (sides : List Side) (rows : List (List Bool)) → AreRowsUnder s sides rows → All (λ (row : List Bool). length row ≡ class_count s.network) rows
rows-long s sides rows under = All-from_get_or (λ (row : List Bool). length row ≡ class_count s.network) rows [] (λ k h. (under k h).long)

-- a pricing by the forced classes of a leaf is that of the leaf
pub leaf-pricing : (m : PricingModel) (p : Problem) (net : TimedNetwork) (rows others : List (List Bool)) (forced : ForcedClasses) (r : Result ClassPricing AllocError) → IsLeafOver m.leaf rows →
    p ≡ m.leaf.setting.problem → net ≡ m.leaf.setting.network → others ≡ rows → AreForcedOf m.leaf.setting rows m.forced forced →
    IfOk r (λ pricing. (pricing.instance.now ≡ p) × (pricing.network.now ≡ net) × (pricing.forced ≡ forced)) →
    ((allowed : ℕ → Leg → Bool) (chains : List (List Leg)) → AreRowsOf net allowed others → TellsForced net chains forced.row → IfOk r (IsPricing m.tables allowed m.kind chains)) → IfOk r (IsLeafPricing m)
leaf-pricing m p net rows others forced (Err e) over instance network same forced_of is prices = tt
leaf-pricing m p net rows others forced (Ok pricing) over instance network same forced_of is prices = record {
  setting = over.setting;
  instance = is.0 ∙ instance;
  network = is.1 ∙ network;
  chains = forced_of.chains;
  are_chains = forced_of.are_chains m.leaf.sides over.under;
  is = prices (allowed_at m.leaf) forced_of.chains
      (subst (λ (l : List (List Bool)). AreRowsOf net (allowed_at m.leaf) l) (sym same)
      (subst (λ (n : TimedNetwork). AreRowsOf n (allowed_at m.leaf) rows) (sym network) (record { long = λ k h. (over.under k h).long; exact = λ k c h class. (over.under k h).exact c class })))
      (subst (λ (n : TimedNetwork). TellsForced n forced_of.chains forced.row) (sym network) (record { long = forced_of.are.row_long; exact = forced_of.are.told }));
  forced = subst (AreForcedClasses m.leaf.setting.problem m.leaf.setting.network forced_of.chains) (sym is.2) forced_of.are;
}

module _ (m : PricingModel) (pricing : ClassPricing) (is : IsLeafPricing m pricing) where
  abbrev own : Problem
  own = m.leaf.setting.problem

  abbrev net : TimedNetwork
  net = m.leaf.setting.network

  abbrev windows : ℕ → ℕ → Option Window
  windows = windows_in m.leaf.setting.windows

  abbrev here : Problem
  here = pricing.instance.now

  abbrev net_here : TimedNetwork
  net_here = pricing.network.now

  -- what the trucks of the forced classes cost
  abbrev cost_of_trucks : Problem → TimedNetwork → ℕ
  cost_of_trucks p n = row_cost p n pricing.forced.loads.items pricing.forced.row

  cost-is : cost_of_trucks own net ≡ departures_cost own is.chains (all_legs is.chains)
  cost-is = row_cost-chains own net is.chains pricing.forced is.setting.whole.valid is.forced

  cost-small : departures_cost own is.chains (all_legs is.chains) ≤ alone_total own.arcs own.shipments
  cost-small = bases-small own windows (points_in net) m.leaf.sides m.forced is.chains is.are_chains

  base-same : here.scale * cost_of_trucks here net_here ≡ own.scale * cost_of_trucks own net
  base-same = ap (λ (q : Problem). q.scale * cost_of_trucks q net_here) is.instance ∙ ap (λ (n : TimedNetwork). own.scale * cost_of_trucks own n) is.network

  base-le : own.scale * cost_of_trucks own net ≤ own.scale * alone_total own.arcs own.shipments
  base-le = mul-le-mul_left own.scale (let e : cost_of_trucks own net ≤ alone_total own.arcs own.shipments = omega (arith, cost-is, cost-small) in e)

  -- the bases are small
  pub base-fits : here.scale * cost_of_trucks here net_here < 2 ^ 127
  base-fits = omega (arith, base-same, base-le, alone-fits own is.setting.belongs.valid)

  pub base-small : (base : ℕ) → base ≡ here.scale * cost_of_trucks here net_here → base ≤ here.scale * alone_total here.arcs here.shipments
  base-small base base_is = subst (λ (q : Problem). base ≤ q.scale * alone_total q.arcs q.shipments) (sym is.instance) (let e : base ≤ own.scale * alone_total own.arcs own.shipments = omega (arith, base_is, base-same, base-le) in e)

  pub loads-long : length pricing.forced.loads.items ≡ class_count net_here
  loads-long = is.forced.loads_long ∙ ap (λ (n : TimedNetwork). class_count n) (sym is.network)

  pub row-long : length pricing.forced.row ≡ class_count net_here
  row-long = is.forced.row_long ∙ ap (λ (n : TimedNetwork). class_count n) (sym is.network)

  classes-there : (k : ℕ) → AllowsClasses net_here (allowed_at m.leaf k)
  classes-there k = subst (λ (n : TimedNetwork). AllowsClasses n (allowed_at m.leaf k)) (sym is.network) (λ c h. allowed_in-IsClass m.leaf.setting m.leaf.sides k c is.setting h)

  -- where no class is forced, the pricing is that of plain leaves
  leaf-plain : m.forced ≡ false → IsSharedKind m.kind → IsPlainPricing own net m.tables m.kind pricing
  leaf-plain plain shared =
      plain-pricing own net m.tables m.kind pricing (allowed_at m.leaf) is.chains is.instance is.network shared is.is
      (all_legs-plain own (allowed_at m.leaf) 0 own.shipments is.chains (subst (λ (b : Bool). AllZipFrom (λ k. IsChain own (allowed_at m.leaf k) b) 0 own.shipments is.chains) plain is.are_chains))

  -- so what is known from earlier leaves holds under it
  pub known-before : (known : List KnownCost) → AreKnownCosts own net m.tables m.kind m.forced known → AreKnownUnder pricing known
  known-before known are = λ k entry got.
      let one = are k entry got in
      one.holds pricing (leaf-plain one.plain one.shared)

  -- and what is found under it is known at later leaves
  pub known-after : (known : List KnownCost) → IsSharedKind m.kind → m.forced ≡ false → AreKnownUnder pricing known → AreKnownCosts own net m.tables m.kind m.forced known
  known-after known shared plain are = λ k entry got. record {
    plain = plain;
    shared = shared;
    holds = λ other is_other. known-same own net m.tables m.kind pricing other (leaf-plain plain shared) is_other k entry (are k entry got);
  }

  module _ (rows : List (List Bool)) (under : AreRowsUnder m.leaf.setting m.leaf.sides rows) where
    rows-there : AreRowsOf net_here (allowed_at m.leaf) rows
    rows-there = subst (λ (n : TimedNetwork). AreRowsOf n (allowed_at m.leaf) rows) (sym is.network) (record { long = λ k h. (under k h).long; exact = λ k c h class. (under k h).exact c class })

    -- the rows are priced
    pub leaf-priced : IsPricedLeaf pricing rows
    leaf-priced = record {
      tables = m.tables;
      allowed = allowed_at m.leaf;
      kind = m.kind;
      chains = is.chains;
      is = is.is;
      rows_of = rows-there;
      classes = classes-there;
    }

    -- what is found is the bound over the network's points
    found-bound : (base : ℕ) (b : LeafBound) → base ≡ own.scale * cost_of_trucks own net → IsFoundOver own (points_in net) (allowed_at m.leaf) (leaf_price own m.tables (allowed_at m.leaf) m.kind is.chains) base b →
        IsBoundOf own windows (points_in net) m.leaf.sides m.tables m.kind m.forced b
    found-bound base (Empty shipment) base_is found = record { exists = found.exists; none = found.none; before = found.before }
    found-bound base (Value value) base_is found = record {
      chains = is.chains;
      costs = found.costs;
      are_chains = is.are_chains;
      are_least = found.least;
      value_is = found.is ∙ ap (λ (n : ℕ). n + sum_by (λ (m : ℕ). m) found.costs) (base_is ∙ ap (λ (n : ℕ). own.scale * n) cost-is);
    }

    found-small : (base : ℕ) (b : LeafBound) → base ≡ own.scale * cost_of_trucks own net → IsFoundOver own (points_in net) (allowed_at m.leaf) (leaf_price own m.tables (allowed_at m.leaf) m.kind is.chains) base b → IsSmallBound own b
    found-small base (Empty shipment) base_is found = tt
    found-small base (Value value) base_is found =
        let value_is : value ≡ own.scale * departures_cost own is.chains (all_legs is.chains) + sum_by (λ (m : ℕ). m) found.costs =
        found.is ∙ ap (λ (n : ℕ). n + sum_by (λ (m : ℕ). m) found.costs) (base_is ∙ ap (λ (n : ℕ). own.scale * n) cost-is) in
        subst (λ (n : ℕ). IsSmallBound own (Value n)) (sym value_is) (value-small own (departures_cost own is.chains (all_legs is.chains)) found.costs cost-small found.small)

    ok-weaker : (r : Result LeafBound AllocError) (P Q : LeafBound → Type 0) → ((b : LeafBound) → P b → Q b) → IfOk r P → IfOk r Q
    ok-weaker (Ok b) P Q on h = on b h
    ok-weaker (Err e) P Q on h = tt

    -- what is found at every leaf whose pricing this is, is found at this one
    found-over : (base : ℕ) (b : LeafBound) → IsFoundAtLeaf pricing rows base b → IsFoundOver own (points_in net) (allowed_at m.leaf) (leaf_price own m.tables (allowed_at m.leaf) m.kind is.chains) base b
    found-over base b found =
        subst (λ (q : Problem). IsFoundOver q (points_in net) (allowed_at m.leaf) (leaf_price q m.tables (allowed_at m.leaf) m.kind is.chains) base b) is.instance
        (subst (λ (n : TimedNetwork). IsFoundOver here (points_in n) (allowed_at m.leaf) (leaf_price here m.tables (allowed_at m.leaf) m.kind is.chains) base b) is.network
        (found m.tables (allowed_at m.leaf) m.kind is.chains is.is rows-there classes-there))

    -- the bound of the leaf over the network's points
    pub bound-exact : (base : ℕ) (r : Result LeafBound AllocError) → base ≡ here.scale * cost_of_trucks here net_here → IfOk r (IsFoundAtLeaf pricing rows base) →
        IfOk r (IsBoundOf own windows (points_in net) m.leaf.sides m.tables m.kind m.forced)
    bound-exact base r base_is promised =
        ok-weaker r (IsFoundAtLeaf pricing rows base) (IsBoundOf own windows (points_in net) m.leaf.sides m.tables m.kind m.forced) (λ b found. found-bound base b (base_is ∙ base-same) (found-over base b found)) promised

    -- it bounds the plans
    pub bound-plans : (base : ℕ) (r : Result LeafBound AllocError) → base ≡ here.scale * cost_of_trucks here net_here → AllKeepRule own m.tables → IfOk r (IsFoundAtLeaf pricing rows base) → IfOk r (BoundsPlans own windows m.leaf.sides)
    bound-plans base r base_is keep promised =
        ok-weaker r (IsFoundAtLeaf pricing rows base) (BoundsPlans own windows m.leaf.sides)
        (λ b found. bounds-plans own windows (points_in net) m.leaf.sides m.tables m.kind m.forced b is.setting.belongs.valid keep (found-bound base b (base_is ∙ base-same) (found-over base b found))) promised

    -- and is small
    pub bound-small : (base : ℕ) (r : Result LeafBound AllocError) → base ≡ here.scale * cost_of_trucks here net_here → IfOk r (IsFoundAtLeaf pricing rows base) → IfOk r (IsSmallBound own)
    bound-small base r base_is promised =
        ok-weaker r (IsFoundAtLeaf pricing rows base) (IsSmallBound own) (λ b found. found-small base b (base_is ∙ base-same) (found-over base b found)) promised

    -- walks that are found at every leaf whose pricing this is are walks of least cost of this one
    pub walks-found : (walks : List (List Leg)) → AreWalksAtLeaf pricing rows walks → AreLeastWalks own windows (points_in net) m.leaf.sides m.tables m.kind m.forced walks
    walks-found walks promised = record {
      chains = is.chains;
      are_chains = is.are_chains;
      are_least =
          subst (λ (q : Problem). AreLeastOver q (points_in net) (allowed_at m.leaf) (leaf_price q m.tables (allowed_at m.leaf) m.kind is.chains) 0 q.shipments walks) is.instance
          (subst (λ (n : TimedNetwork). AreLeastOver here (points_in n) (allowed_at m.leaf) (leaf_price here m.tables (allowed_at m.leaf) m.kind is.chains) 0 here.shipments walks) is.network
          (promised m.tables (allowed_at m.leaf) m.kind is.chains is.is rows-there classes-there));
    }

    -- and where every such leaf is empty, this one is
    pub empty-found : IsEmptyAtLeaf pricing rows → IsLeafEmpty own windows (points_in net) m.leaf.sides
    empty-found promised =
        let empty =
        subst (λ (q : Problem). IsEmptyOver q (points_in net) (allowed_at m.leaf)) is.instance
        (subst (λ (n : TimedNetwork). IsEmptyOver here (points_in n) (allowed_at m.leaf)) is.network (promised m.tables (allowed_at m.leaf) m.kind is.chains is.is rows-there classes-there)) in
        record { shipment = empty.shipment; exists = empty.exists; none = empty.none }

    -- and the preferred walks that are among those found at every such leaf are among those of this one
    pub preferred-found : (preferred walks : List (List Leg)) → HasPreferredAtLeaf pricing rows preferred walks → HasPreferred own windows (points_in net) m.leaf.sides m.tables m.kind m.forced preferred walks
    preferred-found preferred walks promised chains are k walk exists wanted least =
        let same : is.chains ≡ chains = chains-unique own (allowed_at m.leaf) m.forced 0 own.shipments is.chains chains is.are_chains are in
        let L : Problem → TimedNetwork → Type 0 = λ q n. IsLeastWalk q (points_in n) (allowed_at m.leaf k) (shipment_at q k) (leaf_price q m.tables (allowed_at m.leaf) m.kind is.chains k (shipment_at q k).size) walk in
        let own_least : L own net = subst (λ (legs : List (List Leg)). IsLeastWalk own (points_in net) (allowed_at m.leaf k) (shipment_at own k) (leaf_price own m.tables (allowed_at m.leaf) m.kind legs k (shipment_at own k).size) walk) (sym same) least in
        promised m.tables (allowed_at m.leaf) m.kind is.chains is.is rows-there classes-there k walk (subst (λ (q : Problem). k < length q.shipments) (sym is.instance) exists) wanted
        (subst (λ (q : Problem). L q net_here) (sym is.instance) (subst (λ (n : TimedNetwork). L own n) (sym is.network) own_least))
