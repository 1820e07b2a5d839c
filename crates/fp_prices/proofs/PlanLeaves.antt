-- Each plan obeys all sides of some leaf of a tree.
use Rattle.std.proofs.Common.{◌≡◌, ◌≢◌, ℕ, ◌+◌, Bool, true, false, ◌&&◌, List, [], ◌∷◌, map, refl, sym, subst, arith}
use Rattle.std.specs.Prelude.{nat_eq, not, Option, slice_index_or}
use Rattle.std.specs.List.{AllByRecursion, AllZip}
use Rattle.std.proofs.lemmas.Bool.{eq-eqb, ne_eqb}
use Rattle.fp_base_lists.proofs.Distinct.{AreDistinct-head, AreDistinct-tail}
use Rattle.fp_model.specs.declared.parts.Leg.{Leg}
use Rattle.fp_model.specs.declared.parts.Shipment.{Shipment}
use Rattle.fp_model.specs.Plans.{IsPlan}
use Rattle.fp_model.specs.Problem.{IsValid, Problem, arc_at}
use Rattle.fp_model.specs.Routes.{Carries, Leads, arcs_of, ends_of}
use Rattle.fp_model.specs.TruckCounts.{trucks_between}
use Rattle.fp_base_lists.specs.Distinct.{AreDistinct}
use Rattle.fp_base_lists.proofs.Elements.{AllByRecursion-from_map, AllByRecursion-get_or_default, AnyByRecursion-weaker}
use Rattle.fp_base_lists.proofs.Maps.{get_or-map_default}
use Rattle.fp_base_lists.proofs.Numbered.{AllFrom-from_get_or}
use Rattle.fp_tree.specs.declared.sides.Side.{Side}
use Rattle.fp_tree.specs.Sides.{Exit, Fork, HasCounts, HasWays, MeetsAll, Obeys}
use Rattle.fp_tree.specs.Trees.{AreNoRivals, HaveTails, IsTree, Leaf, LeaveApart, tree_leaves}
use Rattle.fp_base_lists.specs.Elements.{AnyByRecursion}
use Rattle.fp_tree.proofs.Cover.{CoversAll-tree_leaves}
use Rattle.fp_allowed.specs.Allowed.{PlanObeys, exit_of, is_rival, tails_of}
use Rattle.fp_allowed.proofs.PlanCounts.{plan-counts}

-- what holds of the terminals of a walk but its last holds of the tails of its legs
tails-among : (p : Problem) (P : ℕ → Type 0) (here there : ℕ) (legs : List Leg) → Leads p here (arcs_of legs) there → P here → AllByRecursion P (ends_of p (arcs_of legs)) →
    AllByRecursion (λ (e : Exit). P e.tail) (map (exit_of p) legs)
tails-among p P here there [] leads first all = tt
tails-among p P here there (l ∷ legs) leads first all =
    (subst P (sym leads.1) first, tails-among p P (arc_at p l.arc).to there legs leads.2 all.0 all.1)

-- an arc that leaves and enters other terminals than another is no rival of it
no-rival : (p : Problem) (arc other : ℕ) → (arc_at p arc).from ≢ (arc_at p other).from → (arc_at p arc).to ≢ (arc_at p other).to → is_rival p arc other ≡ false
no-rival p arc other tails heads =
    rw (ne_eqb (arc_at p arc).from (arc_at p other).from tails, ne_eqb (arc_at p arc).to (arc_at p other).to heads) (nothing (not (nat_eq arc other)))
  where
    nothing : (b : Bool) → (b && false) ≡ false
    nothing true = refl
    nothing false = refl

-- and no arc is its own
no-own-rival : (p : Problem) (arc : ℕ) → is_rival p arc arc ≡ false
no-own-rival p arc = rw (eq-eqb arc arc refl) refl

-- the arcs of legs that leave and enter other terminals than a leg are no rivals of its arc, nor it of theirs
no-rivals : (p : Problem) (l : Leg) (legs : List Leg) → AllByRecursion (λ (e : Exit). e.tail ≢ tails_of p l.arc) (map (exit_of p) legs) → AllByRecursion (λ t. t ≢ (arc_at p l.arc).to) (ends_of p (arcs_of legs)) →
    AllByRecursion (AreNoRivals (exit_of p l)) (map (exit_of p) legs)
no-rivals p l [] tails heads = tt
no-rivals p l (m ∷ legs) tails heads = (
  record {
    one = no-rival p l.arc m.arc (λ same. tails.0 (sym same)) (λ same. heads.0 (sym same));
    other = no-rival p m.arc l.arc tails.0 heads.0;
  },
  no-rivals p l legs tails.1 heads.1,
)

-- a route leaves each terminal once, and enters each once
route-apart : (p : Problem) (here there : ℕ) (legs : List Leg) → Leads p here (arcs_of legs) there → AreDistinct (here ∷ ends_of p (arcs_of legs)) →
    LeaveApart (tails_of p) (map (exit_of p) legs)
route-apart p here there [] leads apart = tt
route-apart p here there (l ∷ legs) leads apart =
    let next : ℕ = (arc_at p l.arc).to in
    let first : AllByRecursion (λ y. y ≢ here) (ends_of p (arcs_of (l ∷ legs))) = AreDistinct-head here (ends_of p (arcs_of (l ∷ legs))) apart in
    let others : AllByRecursion (λ (e : Exit). e.tail ≢ here) (map (exit_of p) legs) = tails-among p (λ t. t ≢ here) next there legs leads.2 first.0 first.1 in
    let tails : AllByRecursion (λ (e : Exit). e.tail ≢ tails_of p l.arc) (map (exit_of p) legs) =
    subst (λ (t : ℕ). AllByRecursion (λ (e : Exit). e.tail ≢ t) (map (exit_of p) legs)) (sym leads.1) others in
    let rest : AreDistinct (next ∷ ends_of p (arcs_of legs)) = AreDistinct-tail here (ends_of p (arcs_of (l ∷ legs))) apart in (
      refl,
      tails,
      route-apart p next there legs leads.2 rest,
      no-own-rival p l.arc,
      no-rivals p l legs tails (AreDistinct-head next (ends_of p (arcs_of legs)) rest),
    )

plan-apart : (p : Problem) (d : ℕ) (shipments : List Shipment) (plan : List (List Leg)) → AllZip (Carries p d) shipments plan → AllByRecursion (LeaveApart (tails_of p)) (map (map (exit_of p)) plan)
plan-apart p d [] [] is = tt
plan-apart p d [] (r ∷ plan) is = absurd is
plan-apart p d (s ∷ shipments) [] is = absurd is
plan-apart p d (s ∷ shipments) (r ∷ plan) is = (route-apart p s.from s.to r is.0.route.leads is.0.route.once, plan-apart p d shipments plan is.1)

-- a plan obeys sides where its legs do, as a tree sees them, so many trucks leave as they ask, and shipments go by the arcs that they
-- ask for
obeys-plan : (p : Problem) (d : ℕ) (sides : List Side) (plan : List (List Leg)) → Obeys d (map (map (exit_of p)) plan) sides × HasCounts (trucks_between p d plan) sides × HasWays (map (map (exit_of p)) plan) sides → PlanObeys p d sides plan
obeys-plan p d sides plan kept = record {
  trucks = kept.1;
  ways = kept.2;
  legs = AllFrom-from_get_or (λ k r. AllByRecursion (λ (l : Leg). MeetsAll d k sides (exit_of p l)) r) plan [] 0 (λ k lt.
      let route : List Leg = slice_index_or plan k [] in
      let there : AllByRecursion (MeetsAll d k sides) (map (exit_of p) route) =
      subst (λ (exits : List Exit). AllByRecursion (MeetsAll d k sides) exits) (get_or-map_default (map (exit_of p)) plan k []) (kept.0 k) in
      let number : k ≡ 0 + k = omega arith in
      subst (λ (j : ℕ). AllByRecursion (λ (l : Leg). MeetsAll d j sides (exit_of p l)) route) number (AllByRecursion-from_map (MeetsAll d k sides) (exit_of p) route there));
}

-- every plan, over whatever denominator, obeys all sides of some leaf of any tree whose splits by arcs have the arcs' tails
pub plan-obeys-leaf : {X : Type 0} (p : Problem) (fork_of : X → Option Fork) (nodes : List X) (d : ℕ) (plan : List (List Leg)) → HaveTails (tails_of p) fork_of nodes → IsTree fork_of nodes →
    IsValid p → IsPlan p d plan → AnyByRecursion (λ (l : Leaf X). PlanObeys p d l.sides plan) (tree_leaves fork_of nodes)
plan-obeys-leaf {X} p fork_of nodes d plan told tree valid is =
    let routes : List (List Exit) = map (map (exit_of p)) plan in
    AnyByRecursion-weaker (λ (l : Leaf X). Obeys d routes l.sides × HasCounts (trucks_between p d plan) l.sides × HasWays routes l.sides) (λ (l : Leaf X). PlanObeys p d l.sides plan) (λ l. obeys-plan p d l.sides plan)
    (tree_leaves fork_of nodes)
    (CoversAll-tree_leaves (tails_of p) fork_of nodes told tree d routes (trucks_between p d plan)
    (λ k. AllByRecursion-get_or_default (LeaveApart (tails_of p)) routes k [] (plan-apart p d p.shipments plan is) tt) (plan-counts p d plan valid is))
