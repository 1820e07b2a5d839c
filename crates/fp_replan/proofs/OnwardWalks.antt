-- Walks of least steps among those that avoid terminals, and a shipment that goes on along one.
use Rattle.std.proofs.Common.{◌≡◌, ◌≢◌, ℕ, ◌+◌, ◌*◌, ◌<◌, ◌≤◌, true, false, Some, None, Option, List, [], ◌∷◌, ◌++◌, length, map, reverse, take, refl, sym, ap, ◌∙◌, subst, arith, append_assoc, append-nil, ⊎_elim}
use Rattle.std.specs.Prelude.{MatchOption, All, IsSome, IsSomeAnd, cond, slice_index_or, unwrap_or}
use Rattle.std.specs.List.{AllByRecursion}
use Rattle.std.proofs.Math.Nat.{mul-le-mul}
use Rattle.std.proofs.lemmas.Bool.{cases_Bool}
use Rattle.std.proofs.lemmas.List.{get_or-map, length-map, take_more}
use Rattle.std.proofs.lemmas.List.Elements.{All-map}
use Rattle.std.proofs.lemmas.List.Sums.{sum_by-cons}
use Rattle.fp_base_lists.specs.Distinct.{AreDistinct}
use Rattle.fp_base_lists.specs.Membership.{list_has}
use Rattle.fp_base_lists.proofs.Distinct.{AreDistinct-cons, AreDistinct-nil}
use Rattle.fp_base_lists.proofs.Elements.{AllByRecursion-append}
use Rattle.fp_labels.specs.declared.graphs.Edge.{Edge}
use Rattle.fp_labels.specs.Graphs.{edge_at}
use Rattle.fp_labels.specs.Labels.{AreLabels, Distances, IsSmallFor, cost_to}
use Rattle.fp_labels.specs.Walks.{Leads as EdgesLead, IsDistance as IsCostDistance, IsOpen, cost_of, walk_cost}
use Rattle.fp_model.specs.declared.limits.TheConstants.{LONGEST_STEP, MOST_TERMINALS}
use Rattle.fp_model.specs.declared.parts.Arc.{Arc}
use Rattle.fp_model.specs.declared.parts.Leg.{Leg}
use Rattle.fp_model.specs.declared.parts.Shipment.{Shipment}
use Rattle.fp_model.specs.Problem.{IsShipment, IsValid, Problem, arc_at, hold_at, no_arc}
use Rattle.fp_model.specs.Routes.{Leads, arcs_of, ends_of, step, walk_time}
use Rattle.fp_model.proofs.Validity.{IsArc-valid, hold_at-le}
use Rattle.fp_flatnet.specs.ArcGraphs.{arc_step, backward_edge, backward_shape}
use Rattle.fp_flatnet.proofs.LeastWalks.{Leads-append, first-time, steps, steps-append, steps-held}
use Rattle.fp_replan.specs.KeptLegs.{place_after}
use Rattle.fp_replan.specs.Starts.{AddsTo, Avoids, BeginsPast, BeginsPastFirst, GoesOnPast, IsOnward, open_cost, open_costs, ready_after}
use Rattle.fp_flatnet.proofs.ArcWalks.{backward-at, edges-append, reverse-cons}

-- a walk that avoids terminals, of whose steps no other such walk has fewer
pub record IsLeastPast (p : Problem) (gone : List ℕ) (here there : ℕ) (arcs : List ℕ) : Type 0 where
  pub leads : Leads p here arcs there
  pub avoids : Avoids p gone arcs
  pub least : (others : List ℕ) → Leads p here others there → Avoids p gone others → steps p arcs ≤ steps p others

-- the least steps of such a walk, or that there is none
abbrev pub IsPastDistance : Problem → List ℕ → ℕ → ℕ → Option ℕ → Type 0
IsPastDistance p gone here there o =
    MatchOption o ((arcs : List ℕ) → Leads p here arcs there → Avoids p gone arcs → ⊥) (λ n. (arcs : List ℕ) × IsLeastPast p gone here there arcs × (steps p arcs ≡ n))

-- the cost of an arc's edge
cost-at : (p : Problem) (gone : List ℕ) (a : ℕ) → a < length p.arcs → cost_of (open_costs p gone) a ≡ open_cost p gone (arc_at p a)
cost-at p gone a lt = get_or-map (open_cost p gone) p.arcs a no_arc None lt

pub cost-open : (p : Problem) (gone : List ℕ) (a : ℕ) → a < length p.arcs → list_has gone (arc_at p a).to ≡ false → cost_of (open_costs p gone) a ≡ Some (step p a)
cost-open p gone a lt free = cost-at p gone a lt ∙ ap (λ b. cond b None (Some (step p a))) free

pub cost-barred : (p : Problem) (gone : List ℕ) (a : ℕ) → a < length p.arcs → list_has gone (arc_at p a).to ≡ true → cost_of (open_costs p gone) a ≡ None
cost-barred p gone a lt barred = cost-at p gone a lt ∙ ap (λ b. cond b None (Some (step p a))) barred

-- an open edge enters none of the terminals
open-free : (p : Problem) (gone : List ℕ) (a : ℕ) → a < length p.arcs → IsSome (cost_of (open_costs p gone) a) → list_has gone (arc_at p a).to ≡ false
open-free p gone a lt some =
    ⊎_elim
    (λ (barred : list_has gone (arc_at p a).to ≡ true). let none = cost-barred p gone a lt barred in absurd (cc (rw none at some)))
    (λ (free : list_has gone (arc_at p a).to ≡ false). free)
    (cases_Bool (list_has gone (arc_at p a).to))

-- walks that avoid the terminals, one after the other
pub ends-append : (p : Problem) (gone : List ℕ) (xs ys : List ℕ) → Avoids p gone xs → Avoids p gone ys → Avoids p gone (xs ++ ys)
ends-append p gone [] ys first later = later
ends-append p gone (a ∷ xs) ys first later = (first.0, ends-append p gone xs ys first.1 later)

-- a walk turned round
pub record IsTurned (p : Problem) (gone : List ℕ) (here there : ℕ) (walk : List ℕ) : Type 0 where
  pub leads : Leads p here (reverse walk) there
  pub avoids : Avoids p gone (reverse walk)
  pub same : steps p (reverse walk) ≡ walk_cost (open_costs p gone) walk

turned : (p : Problem) (gone : List ℕ) (there here : ℕ) (walk : List ℕ) → EdgesLead (map backward_edge p.arcs) there walk here → IsOpen (open_costs p gone) walk →
    IsTurned p gone here there walk
turned p gone there here [] leads opens = record { leads = sym leads; avoids = tt; same = refl }
turned p gone there here (a ∷ walk) leads opens =
    let lt : a < length p.arcs = omega (arith, leads.0, length-map p.arcs backward_edge) in
    let edge : edge_at (map backward_edge p.arcs) a ≡ backward_edge (arc_at p a) = backward-at p a lt in
    let P : Edge → Type 0 = λ x. (x.from ≡ there) × EdgesLead (map backward_edge p.arcs) x.to walk here in
    let on : P (backward_edge (arc_at p a)) = subst P edge (leads.1, leads.2) in
    let before : IsTurned p gone here (arc_at p a).from walk = turned p gone (arc_at p a).from here walk on.1 opens.1 in
    let free : list_has gone (arc_at p a).to ≡ false = open-free p gone a lt opens.0 in
    let cost : unwrap_or (cost_of (open_costs p gone) a) 0 ≡ step p a = ap (λ (o : Option ℕ). unwrap_or o 0) (cost-open p gone a lt free) in
    let turn : reverse (a ∷ walk) ≡ reverse walk ++ (a ∷ []) = reverse-cons a walk in
    record {
      leads = subst (λ (xs : List ℕ). Leads p here xs there) (sym turn) (Leads-append p here (arc_at p a).from there (reverse walk) (a ∷ []) before.leads (lt, refl, on.0));
      avoids = subst (Avoids p gone) (sym turn) (ends-append p gone (reverse walk) (a ∷ []) before.avoids (free, tt));
      same =
          ap (steps p) turn
          ∙ omega (arith, steps-append p (reverse walk) (a ∷ []), before.same, cost, sum_by-cons (λ e. unwrap_or (cost_of (open_costs p gone) e) 0) a walk);
    }

-- and a walk that avoids the terminals, turned round
pub record IsTurnedBack (p : Problem) (gone : List ℕ) (here there : ℕ) (arcs : List ℕ) : Type 0 where
  pub leads : EdgesLead (map backward_edge p.arcs) there (reverse arcs) here
  pub opens : IsOpen (open_costs p gone) (reverse arcs)
  pub same : walk_cost (open_costs p gone) (reverse arcs) ≡ steps p arcs

turned-back : (p : Problem) (gone : List ℕ) (here there : ℕ) (arcs : List ℕ) → Leads p here arcs there → Avoids p gone arcs → IsTurnedBack p gone here there arcs
turned-back p gone here there [] leads avoids = record { leads = sym leads; opens = tt; same = refl }
turned-back p gone here there (a ∷ arcs) leads avoids =
    let edges : List Edge = map backward_edge p.arcs in
    let costs : List (Option ℕ) = open_costs p gone in
    let edge : edge_at edges a ≡ backward_edge (arc_at p a) = backward-at p a leads.0 in
    let P : Edge → Type 0 = λ x. (x.from ≡ (arc_at p a).to) × (x.to ≡ here) in
    let last : P (edge_at edges a) = subst P (sym edge) (refl, leads.1) in
    let before : IsTurnedBack p gone (arc_at p a).to there arcs = turned-back p gone (arc_at p a).to there arcs leads.2 avoids.1 in
    let is : cost_of costs a ≡ Some (step p a) = cost-open p gone a leads.0 avoids.0 in
    let some : IsSome (cost_of costs a) = subst (λ (o : Option ℕ). IsSome o) (sym is) refl in
    let cost : unwrap_or (cost_of costs a) 0 ≡ step p a = ap (λ (o : Option ℕ). unwrap_or o 0) is in
    let turn : reverse (a ∷ arcs) ≡ reverse arcs ++ (a ∷ []) = reverse-cons a arcs in
    record {
      leads =
          subst (λ (xs : List ℕ). EdgesLead edges there xs here) (sym turn)
          (edges-append edges there (arc_at p a).to here (reverse arcs) (a ∷ []) before.leads (omega (arith, leads.0, length-map p.arcs backward_edge), last.0, last.1));
      opens = subst (IsOpen costs) (sym turn) (AllByRecursion-append (λ e. IsSome (cost_of costs e)) (reverse arcs) (a ∷ []) before.opens (some, tt));
      same = ap (walk_cost costs) turn ∙ pushed costs a (reverse arcs) ∙ omega (arith, before.same, cost);
    }
  where
    pushed : (costs : List (Option ℕ)) (e : ℕ) (walk : List ℕ) → walk_cost costs (walk ++ (e ∷ [])) ≡ walk_cost costs walk + unwrap_or (cost_of costs e) 0
    pushed costs e [] = omega (arith, sum_by-cons (λ f. unwrap_or (cost_of costs f) 0) e [])
    pushed costs e (f ∷ walk) =
        omega (
          arith,
          pushed costs e walk,
          sum_by-cons (λ g. unwrap_or (cost_of costs g) 0) f walk,
          sum_by-cons (λ g. unwrap_or (cost_of costs g) 0) f (walk ++ (e ∷ [])),
        )

-- a label of the arcs turned round is the least steps of a walk that avoids the terminals
past-distance : (p : Problem) (gone : List ℕ) (here there : ℕ) (o : Option ℕ) → IsCostDistance (map backward_edge p.arcs) (open_costs p gone) there here o → IsPastDistance p gone here there o
past-distance p gone here there None none =
    λ arcs leads avoids. let back = turned-back p gone here there arcs leads avoids in none (reverse arcs) back.leads back.opens
past-distance p gone here there (Some n) is =
    let walk : List ℕ = is.attained.0 in
    let turn : IsTurned p gone here there walk = turned p gone there here walk is.attained.1.leads is.attained.1.open_edges in (
      reverse walk,
      record {
        leads = turn.leads;
        avoids = turn.avoids;
        least = λ others leads avoids.
            let back = turned-back p gone here there others leads avoids in
            omega (arith, turn.same, is.attained.1.costs_so, is.least (reverse others) back.leads back.opens, back.same);
      },
      turn.same ∙ is.attained.1.costs_so,
    )

pub label-past : (p : Problem) (gone : List ℕ) (there : ℕ) (labels : Distances) → AreLabels (backward_shape p) (open_costs p gone) there labels → (here : ℕ) → here < length p.terminals →
    IsPastDistance p gone here there (cost_to labels here)
label-past p gone there labels are here lt = past-distance p gone here there (cost_to labels here) (are.exact here lt)

-- among walks that are not empty, the least steps are the least time
least-time : (p : Problem) (gone : List ℕ) (here there a : ℕ) (rest : List ℕ) → IsValid p → Leads p here (a ∷ rest) there →
    ((others : List ℕ) → Leads p here others there → Avoids p gone others → steps p (a ∷ rest) ≤ steps p others) →
    (others : List ℕ) → Leads p here others there → Avoids p gone others → walk_time p (a ∷ rest) ≤ walk_time p others
least-time p gone here there a rest valid leads least [] along avoids =
    let within : 1 ≤ (arc_at p a).time = (IsArc-valid p a valid leads.0).within.time.0 in
    absurd (omega (arith, within, least [] along avoids))
least-time p gone here there a rest valid leads least (b ∷ others) along avoids =
    omega (arith, steps-held p here there a rest leads, steps-held p here there b others along, least (b ∷ others) along avoids)

-- and the walk that an arc begins has the least steps
pub IsLeastPast-begins : (p : Problem) (gone : List ℕ) (here there a : ℕ) → IsValid p → (begins : BeginsPast p gone here there a) → IsLeastPast p gone here there (a ∷ begins.rest)
IsLeastPast-begins p gone here there a valid begins = record { leads = begins.leads; avoids = begins.avoids; least = fewest }
  where
    fewest : (others : List ℕ) → Leads p here others there → Avoids p gone others → steps p (a ∷ begins.rest) ≤ steps p others
    fewest [] along avoids =
        let within : 1 ≤ (arc_at p a).time = (IsArc-valid p a valid begins.leads.0).within.time.0 in
        absurd (omega (arith, within, first-time p a begins.rest, begins.least [] along avoids))
    fewest (b ∷ others) along avoids =
        omega (arith, steps-held p here there a begins.rest begins.leads, steps-held p here there b others along, begins.least (b ∷ others) along avoids)

-- it goes on by such a walk
pub IsLeastPast-next : (p : Problem) (gone : List ℕ) (here there a : ℕ) (arcs : List ℕ) → IsLeastPast p gone here there (a ∷ arcs) → IsLeastPast p gone (arc_at p a).to there arcs
IsLeastPast-next p gone here there a arcs least = record {
  leads = least.leads.2;
  avoids = least.avoids.1;
  least = λ others along avoids. omega (arith, least.least (a ∷ others) (least.leads.0, least.leads.1, along) (least.avoids.0, avoids));
}

-- the label of a terminal is the steps of each walk of least steps
pub label-steps : (p : Problem) (gone : List ℕ) (here there : ℕ) (o : Option ℕ) (arcs : List ℕ) → IsPastDistance p gone here there o → IsLeastPast p gone here there arcs →
    unwrap_or o 0 ≡ steps p arcs
label-steps p gone here there None arcs none least = absurd (none arcs least.leads least.avoids)
label-steps p gone here there (Some n) arcs is least =
    omega (arith, is.2, is.1.least arcs least.leads least.avoids, least.least is.0 is.1.leads is.1.avoids)

-- an arc whose cost and label add to the label of its tail begins a walk of least time
pub begins-from_adds : (p : Problem) (gone : List ℕ) (here there a t : ℕ) (o cost : Option ℕ) → IsValid p → a < length p.arcs → (arc_at p a).from ≡ here →
    IsPastDistance p gone here there (Some t) → IsPastDistance p gone (arc_at p a).to there o → cost ≡ cost_of (open_costs p gone) a → AddsTo t cost o → BeginsPast p gone here there a
begins-from_adds p gone here there a t o cost valid lt from least onward is adds =
    ⊎_elim
    (λ (barred : list_has gone (arc_at p a).to ≡ true). absurd (subst (λ (c : Option ℕ). AddsTo t c o) (is ∙ cost-barred p gone a lt barred) adds))
    (λ (free : list_has gone (arc_at p a).to ≡ false). begun o onward free (subst (λ (c : Option ℕ). AddsTo t c o) (is ∙ cost-open p gone a lt free) adds))
    (cases_Bool (list_has gone (arc_at p a).to))
  where
    begun : (q : Option ℕ) → IsPastDistance p gone (arc_at p a).to there q → list_has gone (arc_at p a).to ≡ false → AddsTo t (Some (step p a)) q → BeginsPast p gone here there a
    begun None far free sum = absurd sum
    begun (Some u) far free sum =
        let along : Leads p here (a ∷ far.0) there = (lt, from, far.1.leads) in record {
          rest = far.0;
          leads = along;
          avoids = (free, far.1.avoids);
          least = least-time p gone here there a far.0 valid along (λ others leads avoids. omega (arith, sum, far.2, least.2, least.1.least others leads avoids));
        }

-- and only such an arc does
pub adds-from_begins : (p : Problem) (gone : List ℕ) (here there a t : ℕ) (o cost : Option ℕ) → IsValid p → IsPastDistance p gone here there (Some t) →
    IsPastDistance p gone (arc_at p a).to there o → cost ≡ cost_of (open_costs p gone) a → BeginsPast p gone here there a → AddsTo t cost o
adds-from_begins p gone here there a t o cost valid least onward is begins =
    subst (λ (c : Option ℕ). AddsTo t c o) (sym (is ∙ cost-open p gone a begins.leads.0 begins.avoids.0)) (sum o onward)
  where
    whole : IsLeastPast p gone here there (a ∷ begins.rest)
    whole = IsLeastPast-begins p gone here there a valid begins

    sum : (q : Option ℕ) → IsPastDistance p gone (arc_at p a).to there q → AddsTo t (Some (step p a)) q
    sum None none = absurd (none begins.rest begins.leads.2 begins.avoids.1)
    sum (Some u) far =
        let next : IsLeastPast p gone (arc_at p a).to there begins.rest = IsLeastPast-next p gone here there a begins.rest whole in
        omega (
          arith,
          far.2,
          far.1.least begins.rest begins.leads.2 begins.avoids.1,
          next.least far.0 far.1.leads far.1.avoids,
          least.2,
          least.1.least (a ∷ begins.rest) begins.leads begins.avoids,
          whole.least least.0 least.1.leads least.1.avoids,
        )

-- the costs leave room for a walk over all terminals
pub open-small : (p : Problem) (gone : List ℕ) (nodes : ℕ) → IsValid p → nodes ≡ length p.terminals → All (IsSmallFor nodes) (open_costs p gone)
open-small p gone nodes valid same = All-map (IsSmallFor nodes) (open_cost p gone) p.arcs (λ k d lt.
    let a : Arc = slice_index_or p.arcs k d in
    let small : arc_step p a ≤ LONGEST_STEP = omega (arith, (valid.parts.arcs k d lt).within.time.1, hold_at-le p a.to valid) in
    let few : nodes ≤ MOST_TERMINALS = omega (arith, same, valid.parts.few_terminals) in
    let product : nodes * arc_step p a ≤ MOST_TERMINALS * LONGEST_STEP = mul-le-mul few small in
    ⊎_elim
    (λ (barred : list_has gone a.to ≡ true). subst (λ b. IsSmallFor nodes (cond b None (Some (arc_step p a)))) (sym barred) tt)
    (λ (free : list_has gone a.to ≡ false). subst (λ b. IsSmallFor nodes (cond b None (Some (arc_step p a)))) (sym free) (omega (arith, product)))
    (cases_Bool (list_has gone a.to)))

-- the costs of so many arcs, and of one more
pub costs-more : (p : Problem) (gone : List ℕ) (n : ℕ) (cost : Option ℕ) (costs more : List (Option ℕ)) → n < length p.arcs → costs ≡ take n (open_costs p gone) →
    cost ≡ open_cost p gone (arc_at p n) → more ≡ costs ++ (cost ∷ []) → more ≡ take (n + 1) (open_costs p gone)
costs-more p gone n cost costs more lt so_far same pushed =
    let long : n < length (open_costs p gone) = omega (arith, lt, length-map p.arcs (open_cost p gone)) in
    pushed
    ∙ ap (λ (xs : List (Option ℕ)). xs ++ (cost ∷ [])) so_far
    ∙ ap (λ (o : Option ℕ). take n (open_costs p gone) ++ (o ∷ [])) (same ∙ sym (cost-at p gone n lt))
    ∙ sym (take_more (open_costs p gone) n None long)

-- a shipment is here and ready after legs that begin with others, can be in time by a walk of least
-- steps, and goes on from those by what it goes on by from here
pub record IsUnderway (p : Problem) (gone : List ℕ) (s : Shipment) (front : List Leg) (here ready : ℕ) (legs : List Leg) : Type 0 where
  pub inside : here < length p.terminals
  pub left : List ℕ
  pub least : IsLeastPast p gone here s.to left
  pub in_time : here ≢ s.to → ready + steps p left ≤ s.due + hold_at p s.to
  pub so_far : (rest : List Leg) → IsOnward p gone s.to here ready rest → GoesOnPast p gone s front (legs ++ rest)

-- where a shipment is after legs is a terminal
pub place-inside : (p : Problem) (origin : ℕ) (legs : List Leg) (there : ℕ) → IsValid p → origin < length p.terminals → Leads p origin (arcs_of legs) there →
    place_after p origin legs < length p.terminals
place-inside p origin [] there valid inside leads = inside
place-inside p origin (l ∷ legs) there valid inside leads = place-inside p (arc_at p l.arc).to legs there valid (IsArc-valid p l.arc valid leads.0).to leads.2

-- it is underway after those legs
pub underway-start : (p : Problem) (gone : List ℕ) (s : Shipment) (front : List Leg) (o : Option ℕ) → place_after p s.from front < length p.terminals →
    IsPastDistance p gone (place_after p s.from front) s.to o → IsSomeAnd o (λ n. ready_after p s.release front + n ≤ s.due + hold_at p s.to) →
    IsUnderway p gone s front (place_after p s.from front) (ready_after p s.release front) front
underway-start p gone s front None inside is in_time = absurd in_time
underway-start p gone s front (Some n) inside is in_time = record {
  inside = inside;
  left = is.0;
  least = is.1;
  in_time = λ away. omega (arith, in_time, is.2);
  so_far = λ rest on. (rest, refl, on);
}

-- an arc that begins such a walk leaves no destination
begins-away : (p : Problem) (gone : List ℕ) (here there a : ℕ) → IsValid p → BeginsPast p gone here there a → here ≢ there
begins-away p gone here there a valid begins =
    λ same.
    let within : 1 ≤ (arc_at p a).time = (IsArc-valid p a valid begins.leads.0).within.time.0 in
    omega (arith, within, first-time p a begins.rest, begins.least [] same tt)

-- one leg on it still is
pub underway-more : (p : Problem) (gone : List ℕ) (s : Shipment) (front : List Leg) (here ready a : ℕ) (legs : List Leg) → IsValid p → IsUnderway p gone s front here ready legs →
    BeginsPastFirst p gone here s.to a → IsUnderway p gone s front (arc_at p a).to (ready + step p a) (legs ++ (record { arc = a; depart = ready } ∷ []))
underway-more p gone s front here ready a legs valid under first =
    let leg : Leg = record { arc = a; depart = ready } in
    let away : here ≢ s.to = begins-away p gone here s.to a valid first.begins in
    let whole : IsLeastPast p gone here s.to (a ∷ first.begins.rest) = IsLeastPast-begins p gone here s.to a valid first.begins in
    record {
      inside = (IsArc-valid p a valid first.begins.leads.0).to;
      left = first.begins.rest;
      least = IsLeastPast-next p gone here s.to a first.begins.rest whole;
      in_time = λ further. omega (arith, under.in_time away, whole.least under.left under.least.leads under.least.avoids);
      so_far = λ rest on. subst (GoesOnPast p gone s front) (sym (append_assoc legs (leg ∷ []) rest)) (under.so_far (leg ∷ rest) (away, first, refl, on));
    }

-- while it is underway its times stay small
pub underway-small : (p : Problem) (gone : List ℕ) (s : Shipment) (front : List Leg) (here ready a : ℕ) (legs : List Leg) → IsValid p → IsShipment (length p.terminals) s → IsUnderway p gone s front here ready legs →
    BeginsPastFirst p gone here s.to a → ready + step p a ≤ 1000000
underway-small p gone s front here ready a legs valid shipment under first =
    let away : here ≢ s.to = begins-away p gone here s.to a valid first.begins in
    omega (
      arith,
      under.in_time away,
      shipment.within.due,
      hold_at-le p s.to valid,
      (IsArc-valid p a valid first.begins.leads.0).within.time.1,
      hold_at-le p (arc_at p a).to valid,
    )

-- where no arc begins such a walk it has arrived
pub underway-end : (p : Problem) (gone : List ℕ) (s : Shipment) (front : List Leg) (here ready : ℕ) (legs : List Leg) → IsValid p → IsUnderway p gone s front here ready legs →
    ((a : ℕ) → a < length p.arcs → BeginsPast p gone here s.to a → ⊥) → GoesOnPast p gone s front legs
underway-end p gone s front here ready legs valid under none =
    subst (GoesOnPast p gone s front) (append-nil legs) (under.so_far [] (stay under.left under.least))
  where
    stay : (arcs : List ℕ) → IsLeastPast p gone here s.to arcs → here ≡ s.to
    stay [] least = least.leads
    stay (a ∷ arcs) least =
        absurd (none a least.leads.0 (record {
          rest = arcs;
          leads = least.leads;
          avoids = least.avoids;
          least = least-time p gone here s.to a arcs valid least.leads least.least;
        }))

-- its label falls, leg by leg
pub label-falls : (p : Problem) (gone : List ℕ) (here there a : ℕ) (o q : Option ℕ) → IsValid p → IsPastDistance p gone here there o → IsPastDistance p gone (arc_at p a).to there q →
    BeginsPast p gone here there a → unwrap_or q 0 < unwrap_or o 0
label-falls p gone here there a o q valid here_is next_is begins =
    let whole : IsLeastPast p gone here there (a ∷ begins.rest) = IsLeastPast-begins p gone here there a valid begins in
    let within : 1 ≤ (arc_at p a).time = (IsArc-valid p a valid begins.leads.0).within.time.0 in
    omega (
      arith,
      within,
      label-steps p gone here there o (a ∷ begins.rest) here_is whole,
      label-steps p gone (arc_at p a).to there q begins.rest next_is (IsLeastPast-next p gone here there a begins.rest whole),
    )

-- a walk of fewer steps than each from x never enters x
never-enters : (p : Problem) (gone : List ℕ) (x here there : ℕ) (arcs : List ℕ) → Leads p here arcs there → Avoids p gone arcs →
    ((others : List ℕ) → Leads p x others there → Avoids p gone others → steps p arcs < steps p others) → AllByRecursion (λ y. y ≢ x) (ends_of p arcs)
never-enters p gone x here there [] leads avoids shorter = tt
never-enters p gone x here there (a ∷ arcs) leads avoids shorter = (
  (λ (e : (arc_at p a).to ≡ x).
      let from_x : Leads p x arcs there = subst (λ (n : ℕ). Leads p n arcs there) e leads.2 in
      omega (arith, shorter arcs from_x avoids.1)),
  never-enters p gone x (arc_at p a).to there arcs leads.2 avoids.1 (λ others along past. omega (arith, shorter others along past)),
)

-- such a walk visits no terminal twice
pub past-apart : (p : Problem) (gone : List ℕ) (here there : ℕ) (arcs : List ℕ) → IsValid p → IsLeastPast p gone here there arcs → AreDistinct (here ∷ ends_of p arcs)
past-apart p gone here there [] valid least = AreDistinct-cons here [] tt AreDistinct-nil
past-apart p gone here there (a ∷ arcs) valid least =
    let within : 1 ≤ (arc_at p a).time = (IsArc-valid p a valid least.leads.0).within.time.0 in
    AreDistinct-cons here (ends_of p (a ∷ arcs))
    (never-enters-first within)
    (past-apart p gone (arc_at p a).to there arcs valid (IsLeastPast-next p gone here there a arcs least))
  where
    never-enters-first : 1 ≤ (arc_at p a).time → AllByRecursion (λ y. y ≢ here) (ends_of p (a ∷ arcs))
    never-enters-first within = (
      (λ (e : (arc_at p a).to ≡ here).
          let from_here : Leads p here arcs there = subst (λ (n : ℕ). Leads p n arcs there) e least.leads.2 in
          omega (arith, within, least.least arcs from_here least.avoids.1)),
      never-enters p gone here (arc_at p a).to there arcs least.leads.2 least.avoids.1 (λ others along past. omega (arith, within, least.least others along past)),
    )
