-- What is known of routes and windows before any leg has a moment.
use Rattle.std.proofs.Common.{◌≡◌, ◌∙◌, ℕ, suc, ◌*◌, ◌<◌, ◌≤◌, Option, Some, None, List, [], ◌∷◌, length, refl, sym, ap, subst, arith}
use Rattle.std.specs.Prelude.{All, Contains, IfSome, IsSomeAnd}
use Rattle.std.specs.List.{AllByRecursion, AllZip}
use Rattle.std.proofs.Math.ListN.{length-map}
use Rattle.std.proofs.Math.Nat.{mul-le-mul_left}
use Rattle.std.proofs.lemmas.List.Elements.{All-cons, All-from_recursion, All-nil}
use Rattle.fp_base_lists.specs.Distinct.{AreDistinct}
use Rattle.fp_base_lists.proofs.DistinctSums.{length-distinct-le}
use Rattle.fp_base_lists.proofs.Elements.{AllByRecursion-map, AllByRecursion-weaker}
use Rattle.fp_model.specs.declared.limits.TheConstants.{LATEST, MOST_TERMINALS}
use Rattle.fp_model.specs.declared.parts.Member.{Member}
use Rattle.fp_model.specs.declared.parts.Shipment.{Shipment}
use Rattle.fp_model.specs.Members.{IsMemberOf, member_arc}
use Rattle.fp_model.specs.Numbered.{no_shipment, shipment_at}
use Rattle.fp_model.specs.Problem.{IsValid, Problem, arc_at, no_arc}
use Rattle.fp_model.specs.Routes.{IsRoute, ends_of}
use Rattle.fp_model.proofs.Bounds.{Leads-exist}
use Rattle.fp_flatnet.specs.declared.window_tables.Window.{Window}
use Rattle.fp_flatnet.specs.Belonging.{BelongsTo}
use Rattle.fp_flatnet.specs.Tables.{WindowTable, tail_of, windows_in}
use Rattle.fp_flatnet.proofs.WindowTimes.{IsBelonging, IsBelonging-BelongsTo}
use Rattle.fp_dispatch.specs.Rising.{AreLower, HaveWindows, IsBetween, State, value_at}
use Rattle.fp_dispatch.specs.Times.{window_of}

-- a route enters each terminal at most once
IsRoute-short : (p : Problem) (s : Shipment) (arcs : List ℕ) → IsValid p → IsRoute p s arcs → length arcs ≤ MOST_TERMINALS
IsRoute-short p s arcs valid route =
    let ends : AllByRecursion (λ n. n < length p.terminals) (ends_of p arcs) =
    AllByRecursion-map (λ n. n < length p.terminals) (λ a. (arc_at p a).to) arcs
    (AllByRecursion-weaker (λ a. a < length p.arcs) (λ a. (arc_at p a).to < length p.terminals) (λ a lt. (valid.parts.arcs a no_arc lt).to) arcs
    (Leads-exist p s.from arcs s.to route.leads)) in
    let apart : AreDistinct (ends_of p arcs) = tail s.from (ends_of p arcs) route.once in
    let few : length (ends_of p arcs) ≤ length p.terminals = length-distinct-le (length p.terminals) (ends_of p arcs) ends apart in
    omega (arith, few, length-map arcs (λ (a : ℕ). (arc_at p a).to), valid.parts.few_terminals)
  where
    tail : (n : ℕ) (ns : List ℕ) → AreDistinct (n ∷ ns) → AreDistinct ns
    tail n ns distinct i j d less lt = distinct (suc i) (suc j) d (omega (arith, less)) (omega (arith, lt))

-- what holds of each route
each-route : (p : Problem) (P : List ℕ → Type 0) → ((s : Shipment) (arcs : List ℕ) → IsRoute p s arcs → P arcs) → (ss : List Shipment) (routes : List (List ℕ)) →
    AllZip (IsRoute p) ss routes → All P routes
each-route p P each [] [] all = All-nil P
each-route p P each [] (r ∷ routes) all = absurd all
each-route p P each (s ∷ ss) [] all = absurd all
each-route p P each (s ∷ ss) (r ∷ routes) all = All-cons P r routes (each s r all.0) (each-route p P each ss routes all.1)

pub routes-long : (p : Problem) (ss : List Shipment) (routes : List (List ℕ)) → AllZip (IsRoute p) ss routes → length routes ≡ length ss
routes-long p [] [] all = refl
routes-long p [] (r ∷ routes) all = absurd all
routes-long p (s ∷ ss) [] all = absurd all
routes-long p (s ∷ ss) (r ∷ routes) all = omega (arith, routes-long p ss routes all.1)

module _ (p : Problem) (table : WindowTable) (routes : List (List ℕ)) (belongs : BelongsTo p table) (are : AllZip (IsRoute p) p.shipments routes) where
  -- no route has more legs than there can be terminals
  pub routes-short : All (λ route. length route ≤ MOST_TERMINALS) routes
  routes-short = each-route p (λ route. length route ≤ MOST_TERMINALS) (λ s arcs route. IsRoute-short p s arcs belongs.valid route) p.shipments routes are

  -- as many arcs have tails
  pub tails-long : length table.tails ≡ length p.arcs
  tails-long = ap (λ (tails : List ℕ). length tails) belongs.tails ∙ length-map p.arcs tail_of

  -- the arcs of the routes exist
  pub routes-exist : All (All (λ a. a < length table.tails)) routes
  routes-exist =
      each-route p (All (λ a. a < length table.tails))
      (λ s arcs route. All-from_recursion (λ a. a < length table.tails) arcs
      (AllByRecursion-weaker (λ a. a < length p.arcs) (λ a. a < length table.tails) (λ a lt. omega (arith, lt, tails-long)) arcs
      (Leads-exist p s.from arcs s.to route.leads))) p.shipments routes are

  pub rows-long : length table.rows ≡ length routes
  rows-long = omega (arith, belongs.shipments, routes-long p p.shipments routes are)

  -- the tables are small
  pub tables-small : (width : ℕ) → width ≤ MOST_TERMINALS → length routes * width ≤ 50000
  tables-small width narrow =
      let few : length routes ≤ 500 = omega (arith, routes-long p p.shipments routes are, belongs.valid.parts.few_shipments) in
      let h : length routes * width ≤ length routes * 100 = mul-le-mul_left (length routes) (let e : width ≤ 100 = narrow in e) in
      omega (arith, few, h)

  -- a window is not empty, and ends by the latest time
  window-sound : (m : Member) (w : Window) → windows_in table m.shipment (member_arc routes m) ≡ Some w → (w.lo ≤ w.hi) × (w.hi ≤ LATEST)
  window-sound m w is =
      let there : IsBelonging p table m.shipment (member_arc routes m) w = IsBelonging-BelongsTo p table m.shipment (member_arc routes m) w belongs is in
      let due : (shipment_at p m.shipment).due ≤ LATEST = (belongs.valid.parts.shipments m.shipment no_shipment there.shipment).within.due in
      (there.narrowed.some, omega (arith, due, there.narrowed.hi, there.narrowed.is_window.hi))

  module _ (groups : List (List Member)) (width : ℕ) (values : List ℕ)
      (starts : (m : Member) → IsMemberOf routes m → IsSomeAnd (window_of (windows_in table) routes m) (λ w. value_at width values m ≡ w.lo)) where
    pub HaveWindows-start : HaveWindows (windows_in table) routes
    HaveWindows-start m is = sound (window_of (windows_in table) routes m) refl (starts m is)
      where
        sound : (o : Option Window) → window_of (windows_in table) routes m ≡ o → IsSomeAnd o (λ w. value_at width values m ≡ w.lo) → IsSomeAnd o (λ w. w.hi ≤ LATEST)
        sound None e here = here
        sound (Some w) e here = (window-sound m w e).1

    -- the moments at which the windows begin are what moments have to be
    pub AreLower-start : (s : State) → s.values ≡ values → length values ≡ length routes * width → length s.waits ≡ length routes * width →
        ((m : Member) → IsMemberOf routes m → Contains s.waiting m) → All (IsMemberOf routes) s.waiting → AreLower p (windows_in table) routes groups width s
    AreLower-start s same long waits every members = record {
      values = ap (λ (vs : List ℕ). length vs) same ∙ long;
      waits = waits;
      between = λ m is.
          subst (λ (vs : List ℕ). IsSomeAnd (window_of (windows_in table) routes m) (IsBetween (value_at width vs m))) (sym same)
          (between m (window_of (windows_in table) routes m) refl (starts m is));
      lower = λ m is d times meets.
          subst (λ (vs : List ℕ). d * value_at width vs m ≤ times m) (sym same)
          (below d (times m) (value_at width values m) (window_of (windows_in table) routes m) (starts m is) (meets.start m is));
      queued = λ m is marked. every m is;
      members = members;
    }
      where
        between : (m : Member) (o : Option Window) → window_of (windows_in table) routes m ≡ o → IsSomeAnd o (λ w. value_at width values m ≡ w.lo) →
            IsSomeAnd o (IsBetween (value_at width values m))
        between m None e here = here
        between m (Some w) e here = (omega (arith, here), omega (arith, here, (window-sound m w e).0))

        below : (d n v : ℕ) (o : Option Window) → IsSomeAnd o (λ w. v ≡ w.lo) → IfSome o (λ w. d * w.lo ≤ n) → d * v ≤ n
        below d n v None here from = absurd here
        below d n v (Some w) here from = let e : d * v ≡ d * w.lo = ap (λ (k : ℕ). d * k) here in omega (arith, e, from)
