-- Where each forced chain reaches its shipment's destination, a value of the leaf that is at least the one that pays forced
-- classes whole is the scale times what the chains cost.
use Rattle.std.proofs.Common.{◌≡◌, ◌≢◌, ℕ, suc, ◌+◌, ◌*◌, ◌≤◌, Bool, true, false, List, [], ◌∷◌, ◌++◌, length, refl, sym, ap, ap₂, ◌∙◌, subst, arith}
use Rattle.std.specs.Prelude.{sum_by, slice_index_or, All, Option, ◌==◌}
use Rattle.std.specs.List.{AllByRecursion}
use Rattle.std.proofs.lemmas.Bool.{and_left, or_from, ne_eqb}
use Rattle.std.proofs.lemmas.List.{append-nil}
use Rattle.std.proofs.lemmas.List.Elements.{All-get_or, All-head, All-tail}
use Rattle.fp_base_lists.specs.Numbered.{AllFrom, AllZipFrom}
use Rattle.fp_base_lists.proofs.Numbered.{AllFrom-from_get_or}
use Rattle.fp_model.specs.declared.parts.Leg.{Leg}
use Rattle.fp_model.specs.declared.parts.Shipment.{Shipment}
use Rattle.fp_model.specs.Numbered.{no_shipment, shipment_at}
use Rattle.fp_model.specs.Problem.{Problem, IsValid, IsArc, IsShipment, arc_at, no_arc}
use Rattle.fp_model.specs.Routes.{Leads, arcs_of}
use Rattle.fp_model.specs.Costs.{all_legs, cost, departures_cost, flow_total, has_leg, same_leg}
use Rattle.fp_model.proofs.TruckCounts.{sizes-some}
use Rattle.fp_flatnet.specs.declared.window_tables.Window.{Window}
use Rattle.fp_flatnet.specs.Belonging.{FitsInstance}
use Rattle.fp_flatnet.specs.Tables.{WindowTable, windows_in}
use Rattle.fp_tree.specs.declared.sides.Side.{Side}
use Rattle.fp_allowed.specs.Allowed.{AreForced, IsForcedChain, is_allowed, tails_of}
use Rattle.fp_allowed.specs.Chains.{NoneLeaves}
use Rattle.fp_allowed.specs.Walks.{IsTimedWalk}
use Rattle.fp_allowed.proofs.ForcedWalks.{AreForced-walk, NoneLeaves-destination, Reached-only_walk}
use Rattle.fp_prices.specs.declared.leaf_prices.Kind.{Kind}
use Rattle.fp_prices.specs.declared.leaf_prices.Kind.TheVariants.{Linear}
use Rattle.fp_prices.specs.Shares.{ClassShare}
use Rattle.fp_prices.specs.Prices.{AllKeepRule}
use Rattle.fp_prices.specs.Leaves.{IsChain, IsLeafValue, IsLeastCost, leaf_price}
use Rattle.fp_prices.proofs.TakenByClasses.{NoneTwice, NoneTwiceInAny, paid}
use Rattle.fp_prices.proofs.Users.{AgreesFrom, users-few}
use Rattle.fp_prices.proofs.ClassPrices.{AreWalks}
use Rattle.fp_prices.proofs.LeafSums.{bases-and-paid, costs-le}
use Rattle.fp_prices.proofs.PlanBounds.{size_at, sizes-agree}
use Rattle.fp_prices.proofs.ForcedValues.{IsReached, value-reached}
use Rattle.fp_prices.proofs.WalkClasses.{AreTimedWalks, used-allowed, used-exist, chains-among}
use Rattle.fp_duals.specs.Improvements.{IsReachedChain}

-- the value of a leaf is at most the scaled cost of allowed timed walks, one for each shipment, none of which has a class twice
pub value-le_walks : (p : Problem) (windows : ℕ → ℕ → Option Window) (points : ℕ → List ℕ) (sides : List Side) (tables : List (List ClassShare)) (kind : Kind) (forced : Bool) (value : ℕ) (walks : List (List Leg)) →
    IsValid p → AllKeepRule p tables → IsLeafValue p windows points sides tables kind forced value → length walks ≡ length p.shipments →
    AreTimedWalks p points (is_allowed p windows points sides) 0 p.shipments walks → NoneTwiceInAny walks → value ≤ p.scale * cost p walks
value-le_walks p windows points sides tables kind forced value walks valid keep leaf long timed once =
    let allowed : ℕ → Leg → Bool = is_allowed p windows points sides in
    let price : ℕ → ℕ → Leg → ℕ = λ k size. leaf_price p tables allowed kind leaf.chains k size in
    let are : AreWalks p allowed (size_at p) leaf.chains walks = record {
      long = long;
      sizes = sizes-agree p;
      sized = sizes-some (length p.terminals) p.shipments valid.parts.shipments;
      capacity = λ c h. (All-get_or (IsArc (length p.terminals)) p.arcs c.arc no_arc (used-exist p points allowed 0 p.shipments walks c timed h) valid.parts.arcs).within.capacity.0;
      few = λ c. users-few (λ j. allowed j c) 0 p.shipments walks c long (used-allowed p points allowed 0 p.shipments walks c timed);
      among = chains-among p points allowed forced 0 p.shipments leaf.chains walks leaf.are_chains timed;
    } in
    let bases : p.scale * departures_cost p leaf.chains (all_legs leaf.chains) + paid (λ c k. price k (size_at p k) c) 0 walks ≤ p.scale * departures_cost p walks (all_legs walks) =
    bases-and-paid p tables allowed kind (size_at p) leaf.chains walks keep are once in
    let least : sum_by (λ (n : ℕ). n) leaf.costs ≤ paid (λ c k. price k (size_at p k) c) 0 walks + p.scale * flow_total p p.shipments walks =
    costs-le p points allowed price (size_at p) 0 p.shipments leaf.costs walks (sizes-agree p) leaf.are_least timed in
    omega (arith, leaf.value_is, bases, least)

module _ (p : Problem) (allowed : Leg → Bool) (there : ℕ) where
  -- forced classes leave no terminal that was met before
  leaves-new : (t : ℕ) (met : List ℕ) (here : ℕ) (chain : List Leg) → ((n : ℕ) → AllByRecursion (λ m. m ≢ n) met → t ≢ n) → AreForced p allowed there met here chain → AllByRecursion (λ (l : Leg). t ≢ tails_of p l.arc) chain
  leaves-new t met here [] among forced = tt
  leaves-new t met here (c ∷ chain) among forced = (
    subst (λ (n : ℕ). t ≢ n) (sym forced.2.leaves) (among here forced.1),
    leaves-new t (here ∷ met) (arc_at p c.arc).to chain (λ n others. among n others.1) forced.3,
  )

  not-among : (c : Leg) (legs : List Leg) → AllByRecursion (λ (l : Leg). tails_of p c.arc ≢ tails_of p l.arc) legs → has_leg c legs ≡ false
  not-among c [] others = refl
  not-among c (l ∷ legs) others =
      or_from (same_leg c l) (has_leg c legs) (and_left (c.arc == l.arc) (c.depart == l.depart) (ne_eqb c.arc l.arc (λ e. others.0 (ap (tails_of p) e)))) (not-among c legs others.1)

  -- so none stands twice in a forced chain
  forced-once : (met : List ℕ) (here : ℕ) (chain : List Leg) → AreForced p allowed there met here chain → NoneTwice chain
  forced-once met here [] forced = tt
  forced-once met here (c ∷ chain) forced =
      let t : ℕ = tails_of p c.arc in
      let left : t ≡ here = forced.2.leaves in (
        not-among c chain (leaves-new t (here ∷ met) (arc_at p c.arc).to chain (λ n others. subst (λ (m : ℕ). m ≢ n) (sym left) others.0) forced.3),
        forced-once (here ∷ met) (arc_at p c.arc).to chain forced.3,
      )

-- chains that reach their shipments' destinations have no class twice
reached-once : (p : Problem) (allowed : ℕ → Leg → Bool) (i : ℕ) (shipments : List Shipment) (chains : List (List Leg)) → AllZipFrom (λ k. IsReachedChain p (allowed k)) i shipments chains → NoneTwiceInAny chains
reached-once p allowed i [] [] are = tt
reached-once p allowed i [] (chain ∷ chains) are = absurd are
reached-once p allowed i (s ∷ shipments) [] are = absurd are
reached-once p allowed i (s ∷ shipments) (chain ∷ chains) are =
    (forced-once p (allowed i) s.to [] s.from chain are.0.chain.forced, reached-once p allowed (i + 1) shipments chains are.1)

-- they are as many as the shipments
reached-long : (p : Problem) (allowed : ℕ → Leg → Bool) (i : ℕ) (shipments : List Shipment) (chains : List (List Leg)) → AllZipFrom (λ k. IsReachedChain p (allowed k)) i shipments chains → length chains ≡ length shipments
reached-long p allowed i [] [] are = refl
reached-long p allowed i [] (chain ∷ chains) are = absurd are
reached-long p allowed i (s ∷ shipments) [] are = absurd are
reached-long p allowed i (s ∷ shipments) (chain ∷ chains) are = ap suc (reached-long p allowed (i + 1) shipments chains are.1)

-- forced classes up to one of them
forced-front : (p : Problem) (allowed : Leg → Bool) (there : ℕ) (met : List ℕ) (here : ℕ) (front : List Leg) (c : Leg) (rest : List Leg) → AreForced p allowed there met here (front ++ (c ∷ rest)) →
    AreForced p allowed there met here (front ++ (c ∷ []))
forced-front p allowed there met here [] c rest forced = (forced.0, forced.1, forced.2, tt)
forced-front p allowed there met here (f ∷ front) c rest forced = (forced.0, forced.1, forced.2, forced-front p allowed there (here ∷ met) (arc_at p f.arc).to front c rest forced.3)

module _ (p : Problem) (allowed : Leg → Bool) (s : Shipment) (chain reached walk : List Leg) (is : IsForcedChain p allowed s chain) (ends : IsReachedChain p allowed s reached) (none : NoneLeaves p allowed s.to)
    (leads : Leads p s.from (arcs_of walk) s.to) (all : AllByRecursion (λ c. allowed c ≡ true) walk) where
  -- the chain that reaches the destination is the only walk
  reached-walk : walk ≡ reached
  reached-walk = Reached-only_walk p allowed s reached walk ends.chain ends.reached none leads all

  -- and the only forced chain
  reached-chain : chain ≡ reached
  reached-chain = let begins = AreForced-walk p allowed s.to [] s.from chain walk is.forced leads all in ended begins.rest begins.is
    where
      ended : (rest : List Leg) → walk ≡ chain ++ rest → chain ≡ reached
      ended [] at = sym (at ∙ append-nil chain) ∙ reached-walk
      ended (c ∷ rest) at = absurd (is.whole c (forced-front p allowed s.to [] s.from chain c rest (subst (λ (legs : List Leg). AreForced p allowed s.to [] s.from legs) (sym reached-walk ∙ at) ends.chain.forced)))

-- what is known of chains that reach their shipments' destinations, beside those of a leaf that has a value
record AreOnlyWalks (p : Problem) (points : ℕ → List ℕ) (allowed : ℕ → Leg → Bool) (i : ℕ) (shipments : List Shipment) (chains reached : List (List Leg)) : Type 0 where
  same : chains ≡ reached
  timed : AreTimedWalks p points allowed i shipments reached
  ends : AllZipFrom (λ k. IsReached p (allowed k)) i shipments reached

only-walks : (p : Problem) (points : ℕ → List ℕ) (allowed : ℕ → Leg → Bool) (price : ℕ → ℕ → Leg → ℕ) (i : ℕ) (shipments : List Shipment) (chains reached : List (List Leg)) (costs : List ℕ) →
    AllFrom (λ k (s : Shipment). NoneLeaves p (allowed k) s.to) i shipments → AllZipFrom (λ k. IsChain p (allowed k) true) i shipments chains → AllZipFrom (λ k. IsReachedChain p (allowed k)) i shipments reached →
    AllZipFrom (λ k (s : Shipment) n. IsLeastCost p points (allowed k) s (price k s.size) n) i shipments costs → AreOnlyWalks p points allowed i shipments chains reached
only-walks p points allowed price i [] [] [] costs none are ends least = record { same = refl; timed = tt; ends = tt }
only-walks p points allowed price i [] [] (r ∷ reached) costs none are ends least = absurd ends
only-walks p points allowed price i [] (chain ∷ chains) reached costs none are ends least = absurd are
only-walks p points allowed price i (s ∷ shipments) [] reached costs none are ends least = absurd are
only-walks p points allowed price i (s ∷ shipments) (chain ∷ chains) [] costs none are ends least = absurd ends
only-walks p points allowed price i (s ∷ shipments) (chain ∷ chains) (r ∷ reached) [] none are ends least = absurd least
only-walks p points allowed price i (s ∷ shipments) (chain ∷ chains) (r ∷ reached) (n ∷ costs) none are ends least =
    let timed : IsTimedWalk p points (allowed i) s least.0.walk = least.0.timed in
    let walk : least.0.walk ≡ r = reached-walk p (allowed i) s chain r least.0.walk are.0 ends.0 none.0 timed.leads timed.allowed_all in
    let first : chain ≡ r = reached-chain p (allowed i) s chain r least.0.walk are.0 ends.0 none.0 timed.leads timed.allowed_all in
    let rest : AreOnlyWalks p points allowed (i + 1) shipments chains reached = only-walks p points allowed price (i + 1) shipments chains reached costs none.1 are.1 ends.1 least.1 in
    record {
      same = ap₂ (λ (c : List Leg) (cs : List (List Leg)). c ∷ cs) first rest.same;
      timed = (subst (λ (w : List Leg). IsTimedWalk p points (allowed i) s w) walk timed, rest.timed);
      ends = ((ends.0.reached, none.0), rest.ends);
    }

-- no allowed class leaves a shipment's destination
none-leave : (p : Problem) (table : WindowTable) (points : ℕ → List ℕ) (sides : List Side) → FitsInstance p table → AllFrom (λ k (s : Shipment). NoneLeaves p (is_allowed p (windows_in table) points sides k) s.to) 0 p.shipments
none-leave p table points sides fits =
    AllFrom-from_get_or (λ k (s : Shipment). NoneLeaves p (is_allowed p (windows_in table) points sides k) s.to) p.shipments no_shipment 0 (λ k lt.
    let number : k ≡ 0 + k = omega arith in
    subst (λ (j : ℕ). NoneLeaves p (is_allowed p (windows_in table) points sides j) (shipment_at p k).to) number (NoneLeaves-destination p table points sides k fits lt))

-- so a value that is at least the one by linear prices with forced classes paid whole is the scale times what the chains cost
pub reached-value : (p : Problem) (table : WindowTable) (points : ℕ → List ℕ) (sides : List Side) (tables after : List (List ClassShare)) (kind : Kind) (forced : Bool) (first value : ℕ) (chains : List (List Leg)) →
    FitsInstance p table → AllKeepRule p after → IsLeafValue p (windows_in table) points sides tables Linear true first → IsLeafValue p (windows_in table) points sides after kind forced value → first ≤ value →
    AllZipFrom (λ k. IsReachedChain p (is_allowed p (windows_in table) points sides k)) 0 p.shipments chains → value ≡ p.scale * cost p chains
reached-value p table points sides tables after kind forced first value chains fits keep whole leaf above reached =
    let windows : ℕ → ℕ → Option Window = windows_in table in
    let allowed : ℕ → Leg → Bool = is_allowed p windows points sides in
    let only : AreOnlyWalks p points allowed 0 p.shipments whole.chains chains =
    only-walks p points allowed (λ k size. leaf_price p tables allowed Linear whole.chains k size) 0 p.shipments whole.chains chains whole.costs (none-leave p table points sides fits) whole.are_chains reached whole.are_least in
    let least : first ≡ p.scale * cost p whole.chains =
    value-reached p windows points sides tables Linear first whole (subst (λ (cs : List (List Leg)). AllZipFrom (λ k. IsReached p (allowed k)) 0 p.shipments cs) (sym only.same) only.ends) in
    let same : p.scale * cost p whole.chains ≡ p.scale * cost p chains = ap (λ (cs : List (List Leg)). p.scale * cost p cs) only.same in
    let most : value ≤ p.scale * cost p chains =
    value-le_walks p windows points sides after kind forced value chains fits.valid keep leaf (reached-long p allowed 0 p.shipments chains reached) only.timed (reached-once p allowed 0 p.shipments chains reached) in
    omega (arith, least, same, most, above)
