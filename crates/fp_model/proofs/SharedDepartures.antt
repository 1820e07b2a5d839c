-- Routes in which legs that are one leg of other routes leave together cost no more than those.
use Rattle.std.proofs.Common.{◌≡◌, ◌∙◌, ℕ, ◌<◌, ◌≤◌, List, [], ◌∷◌, length, get_or, map, refl, sym, ap, ap₂, subst, arith}
use Rattle.std.specs.Prelude.{All, Contains}
use Rattle.std.proofs.Math.ListN.{length-map}
use Rattle.std.proofs.lemmas.List.{ext_get_or, get_or-map}
use Rattle.fp_model.specs.declared.parts.Leg.{Leg}
use Rattle.fp_model.specs.declared.parts.Member.{Member}
use Rattle.fp_model.specs.Costs.{cost}
use Rattle.fp_model.specs.Members.{IsMemberOf, LeaveTogether, member_leg, members_in}
use Rattle.fp_model.specs.Numbered.{leg_at, no_leg, route_at}
use Rattle.fp_model.specs.Problem.{Problem}
use Rattle.fp_model.specs.Routes.{arcs_of}
use Rattle.fp_model.proofs.Joins.{cost_joins}
use Rattle.fp_model.proofs.Members.{IsMemberAt, members_in-contain, members_in-each}

-- when the first of some members leaves, or a leg's own time where there is none
abbrev first_depart : List (List Leg) → Leg → List Member → ℕ
first_depart routes l [] = l.depart
first_depart routes l (m ∷ members) = (member_leg routes m).depart

-- a leg of the others, at the time at which the routes have it leave
abbrev moved : (others routes : List (List Leg)) → Leg → Leg
moved others routes l = record { arc = l.arc; depart = first_depart routes l (members_in others l) }

-- where a member is among some, the first of them leaves when it does
first-departs : (others routes : List (List Leg)) (m : Member) (members : List Member) → LeaveTogether others routes → IsMemberOf others m →
    All (IsMemberAt others (member_leg others m)) members → Contains members m → first_depart routes (member_leg others m) members ≡ (member_leg routes m).depart
first-departs others routes m [] together is all there = absurd (omega (arith, there.1))
first-departs others routes m (n ∷ members) together is all there =
    let first : IsMemberAt others (member_leg others m) n = all 0 n (omega arith) in
    together n m first.member is first.same

-- a leg of routes by the same arcs is that of the others, moved
member_leg-moved : (others routes : List (List Leg)) (m : Member) → LeaveTogether others routes → IsMemberOf others m →
    (member_leg routes m).arc ≡ (member_leg others m).arc → moved others routes (member_leg others m) ≡ member_leg routes m
member_leg-moved others routes m together is arc =
    let leg : ℕ → ℕ → Leg = λ a n. record { arc = a; depart = n } in
    ap₂ leg (sym arc)
    (first-departs others routes m (members_in others (member_leg others m)) together is (members_in-each others (member_leg others m)) (members_in-contain others m is))

module _ (others routes : List (List Leg)) (same : map arcs_of routes ≡ map arcs_of others) where
  as-many : length routes ≡ length others
  as-many = sym (length-map routes arcs_of) ∙ ap (λ (xs : List (List ℕ)). length xs) same ∙ length-map others arcs_of

  route-arcs : (k : ℕ) → k < length others → arcs_of (route_at routes k) ≡ arcs_of (route_at others k)
  route-arcs k lt =
      sym (get_or-map arcs_of routes k [] [] (omega (arith, lt, as-many)))
      ∙ ap (λ (xs : List (List ℕ)). get_or xs k []) same
      ∙ get_or-map arcs_of others k [] [] lt

  as-long : (k : ℕ) → k < length others → length (route_at routes k) ≡ length (route_at others k)
  as-long k lt =
      sym (length-map (route_at routes k) (λ (l : Leg). l.arc)) ∙ ap (λ (xs : List ℕ). length xs) (route-arcs k lt) ∙ length-map (route_at others k) (λ (l : Leg). l.arc)

  leg-arc : (k i : ℕ) → k < length others → i < length (route_at others k) → (leg_at (route_at routes k) i).arc ≡ (leg_at (route_at others k) i).arc
  leg-arc k i lt there =
      sym (get_or-map (λ (l : Leg). l.arc) (route_at routes k) i no_leg 0 (omega (arith, there, as-long k lt)))
      ∙ ap (λ (xs : List ℕ). get_or xs i 0) (route-arcs k lt)
      ∙ get_or-map (λ (l : Leg). l.arc) (route_at others k) i no_leg 0 there

  -- the routes are the others with each leg moved
  routes-moved : LeaveTogether others routes → map (map (moved others routes)) others ≡ routes
  routes-moved together = ext_get_or [] (map (map (moved others routes)) others) routes (length-map others (map (moved others routes)) ∙ sym as-many) (λ k lt.
      let exists : k < length others = omega (arith, lt, length-map others (map (moved others routes))) in
      let all : List Leg = route_at others k in
      get_or-map (map (moved others routes)) others k [] [] exists
      ∙ ext_get_or no_leg (map (moved others routes) all) (route_at routes k) (length-map all (moved others routes) ∙ sym (as-long k exists)) (λ i less.
      let there : i < length all = omega (arith, less, length-map all (moved others routes)) in
      let m : Member = record { shipment = k; leg = i } in
      get_or-map (moved others routes) all i no_leg no_leg there
      ∙ member_leg-moved others routes m together (record { shipment = exists; leg = there }) (leg-arc k i exists there)))

-- so they cost no more
pub cost_together : (p : Problem) (others routes : List (List Leg)) → map arcs_of routes ≡ map arcs_of others → LeaveTogether others routes →
    cost p routes ≤ cost p others
cost_together p others routes same together =
    subst (λ (R : List (List Leg)). cost p R ≤ cost p others) (routes-moved others routes same together) (cost_joins p (moved others routes) (λ k. refl) others)
