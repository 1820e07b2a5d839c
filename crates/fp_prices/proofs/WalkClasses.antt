-- What is known of the classes of allowed timed walks, one for each shipment, and of the classes of a plan.
use Rattle.std.proofs.Common.{◌≡◌, ◌≢◌, ℕ, ◌+◌, ◌<◌, Bool, true, false, List, [], ◌∷◌, length, map, ⊎_elim, sym, ◌∙◌, subst, refl}
use Rattle.std.specs.Prelude.{◌==◌}
use Rattle.std.specs.List.{AllByRecursion, AllZip}
use Rattle.std.proofs.lemmas.Bool.{and_left, or_from, or_cases, ne_eqb, false≢true}
use Rattle.std.proofs.lemmas.List.Folds.{list_any-append}
use Rattle.fp_model.specs.declared.parts.Leg.{Leg}
use Rattle.fp_model.specs.declared.parts.Shipment.{Shipment}
use Rattle.fp_base_lists.specs.Numbered.{AllZipFrom, AllFrom}
use Rattle.fp_model.specs.Problem.{Problem, arc_at}
use Rattle.fp_model.specs.Routes.{Carries, arcs_of, ends_of}
use Rattle.fp_base_lists.specs.Distinct.{AreDistinct}
use Rattle.fp_model.specs.Costs.{same_leg, has_leg, all_legs}
use Rattle.fp_model.proofs.Bounds.{Leads-exist}
use Rattle.fp_base_lists.proofs.Distinct.{AreDistinct-from_map, AreDistinct-head, AreDistinct-tail}
use Rattle.fp_model.proofs.Distinct.{same_leg-true}
use Rattle.fp_base_lists.proofs.Elements.{AllByRecursion-from_map}
use Rattle.fp_longestarcs.specs.Classes.{class_of}
use Rattle.fp_allowed.specs.Walks.{IsTimedWalk}
use Rattle.fp_allowed.proofs.PlanClasses.{arcs_of-classes}
use Rattle.fp_prices.specs.Leaves.{IsChain}
use Rattle.fp_prices.proofs.TakenByClasses.{NoneTwice, NoneTwiceInAny}
use Rattle.fp_prices.proofs.ForcedClasses.{AreAmong, chain-among}

-- an allowed timed walk of each shipment, numbered from i
abbrev pub AreTimedWalks : Problem → (ℕ → List ℕ) → (ℕ → Leg → Bool) → ℕ → List Shipment → List (List Leg) → Type 0
AreTimedWalks p points allowed i shipments walks = AllZipFrom (λ k (s : Shipment) walk. IsTimedWalk p points (allowed k) s walk) i shipments walks

not-among : (k : Leg) (legs : List Leg) → AllByRecursion (λ a. a ≢ k.arc) (arcs_of legs) → has_leg k legs ≡ false
not-among k [] others = refl
not-among k (l ∷ legs) others =
    or_from (same_leg k l) (has_leg k legs) (and_left (k.arc == l.arc) (k.depart == l.depart) (ne_eqb k.arc l.arc (λ e. others.0 (sym e)))) (not-among k legs others.1)

-- legs by different arcs are different
pub none-twice : (legs : List Leg) → AreDistinct (arcs_of legs) → NoneTwice legs
none-twice [] apart = tt
none-twice (k ∷ legs) apart = (not-among k legs (AreDistinct-head k.arc (arcs_of legs) apart), none-twice legs (AreDistinct-tail k.arc (arcs_of legs) apart))

-- a plan has no class twice in a route, since a route enters no terminal twice
pub classes-once : (p : Problem) (points : ℕ → List ℕ) (d : ℕ) (shipments : List Shipment) (plan : List (List Leg)) → AllZip (Carries p d) shipments plan →
    NoneTwiceInAny (map (map (class_of p points d)) plan)
classes-once p points d [] [] is = tt
classes-once p points d [] (r ∷ plan) is = absurd is
classes-once p points d (s ∷ shipments) [] is = absurd is
classes-once p points d (s ∷ shipments) (r ∷ plan) is =
    let apart : AreDistinct (arcs_of r) = AreDistinct-from_map (λ a. (arc_at p a).to) (arcs_of r) (AreDistinct-tail s.from (ends_of p (arcs_of r)) is.0.route.once) in
    (none-twice (map (class_of p points d) r) (subst AreDistinct (sym (arcs_of-classes p points d r)) apart), classes-once p points d shipments plan is.1)

-- P of a leg that the legs have
each-has : (P : Leg → Type 0) (legs : List Leg) (c : Leg) → AllByRecursion P legs → has_leg c legs ≡ true → P c
each-has P [] c all h = absurd (false≢true h)
each-has P (l ∷ legs) c all h =
    ⊎_elim
    (λ (first : same_leg c l ≡ true). subst P (sym (same_leg-true c l first)) all.0)
    (λ (rest : has_leg c legs ≡ true). each-has P legs c all.1 rest)
    (or_cases (same_leg c l) (has_leg c legs) h)

-- what timed walks use is allowed
pub used-allowed : (p : Problem) (points : ℕ → List ℕ) (allowed : ℕ → Leg → Bool) (i : ℕ) (shipments : List Shipment) (walks : List (List Leg)) (c : Leg) →
    AreTimedWalks p points allowed i shipments walks → AllFrom (λ k walk. has_leg c walk ≡ true → allowed k c ≡ true) i walks
used-allowed p points allowed i [] [] c timed = tt
used-allowed p points allowed i [] (walk ∷ walks) c timed = absurd timed
used-allowed p points allowed i (s ∷ shipments) [] c timed = absurd timed
used-allowed p points allowed i (s ∷ shipments) (walk ∷ walks) c timed =
    (each-has (λ l. allowed i l ≡ true) walk c timed.0.allowed_all, used-allowed p points allowed (i + 1) shipments walks c timed.1)

-- and goes by arcs that exist
pub used-exist : (p : Problem) (points : ℕ → List ℕ) (allowed : ℕ → Leg → Bool) (i : ℕ) (shipments : List Shipment) (walks : List (List Leg)) (c : Leg) →
    AreTimedWalks p points allowed i shipments walks → has_leg c (all_legs walks) ≡ true → c.arc < length p.arcs
used-exist p points allowed i [] [] c timed h = absurd (false≢true h)
used-exist p points allowed i [] (walk ∷ walks) c timed h = absurd timed
used-exist p points allowed i (s ∷ shipments) [] c timed h = absurd timed
used-exist p points allowed i (s ∷ shipments) (walk ∷ walks) c timed h =
    ⊎_elim
    (λ (here : has_leg c walk ≡ true).
    each-has (λ l. l.arc < length p.arcs) walk c
    (AllByRecursion-from_map (λ a. a < length p.arcs) (λ (l : Leg). l.arc) walk (Leads-exist p s.from (arcs_of walk) s.to timed.0.leads)) here)
    (λ (later : has_leg c (all_legs walks) ≡ true). used-exist p points allowed (i + 1) shipments walks c timed.1 later)
    (or_cases (has_leg c walk) (has_leg c (all_legs walks)) (sym (list_any-append (same_leg c) walk (all_legs walks)) ∙ h))

-- each shipment's walk has its forced classes
pub chains-among : (p : Problem) (points : ℕ → List ℕ) (allowed : ℕ → Leg → Bool) (forced : Bool) (i : ℕ) (shipments : List Shipment) (chains walks : List (List Leg)) →
    AllZipFrom (λ k. IsChain p (allowed k) forced) i shipments chains → AreTimedWalks p points allowed i shipments walks → AllZip AreAmong chains walks
chains-among p points allowed forced i [] [] [] are timed = tt
chains-among p points allowed forced i [] [] (walk ∷ walks) are timed = absurd timed
chains-among p points allowed forced i [] (chain ∷ chains) walks are timed = absurd are
chains-among p points allowed forced i (s ∷ shipments) [] walks are timed = absurd are
chains-among p points allowed forced i (s ∷ shipments) (chain ∷ chains) [] are timed = absurd timed
chains-among p points allowed forced i (s ∷ shipments) (chain ∷ chains) (walk ∷ walks) are timed =
    (chain-among p (allowed i) forced s chain walk are.0 timed.0.leads timed.0.allowed_all, chains-among p points allowed forced (i + 1) shipments chains walks are.1 timed.1)
