-- A route that repeats no terminal stays off the tails of legs that it has gone by.
use Rattle.std.proofs.Common.{◌≡◌, ◌≢◌, ℕ, true, List, [], ◌∷◌, ◌++◌, sym, ap, ◌∙◌, ⊎_elim}
use Rattle.std.specs.List.{AllByRecursion}
use Rattle.fp_base_lists.specs.Distinct.{AreDistinct}
use Rattle.fp_base_lists.specs.Membership.{list_has}
use Rattle.fp_base_lists.proofs.Distinct.{AreDistinct-head, AreDistinct-tail}
use Rattle.fp_base_lists.proofs.Elements.{AllByRecursion-always, AllByRecursion-both, AllByRecursion-from_map, AllByRecursion-weaker}
use Rattle.fp_base_lists.proofs.Membership.{list_has-cons_cases, AllByRecursion-list_has}
use Rattle.fp_model.specs.declared.parts.Leg.{Leg}
use Rattle.fp_model.specs.Problem.{Problem, arc_at}
use Rattle.fp_model.specs.Routes.{Leads, arcs_of, ends_of}
use Rattle.fp_replan.specs.KeptWindows.{StaysOff}
use Rattle.fp_replan.proofs.ListParts.{AllByRecursion-right}

-- the arc neither leaves nor enters a terminal
abbrev IsOff : Problem → ℕ → ℕ → Type 0
IsOff p x a = ((arc_at p a).from ≢ x) × ((arc_at p a).to ≢ x)

-- a walk that neither begins at a terminal nor enters it stays off it
stays-off : (p : Problem) (x here : ℕ) (arcs : List ℕ) (there : ℕ) → Leads p here arcs there → here ≢ x → AllByRecursion (λ y. y ≢ x) (ends_of p arcs) → AllByRecursion (IsOff p x) arcs
stays-off p x here [] there leads away ends = tt
stays-off p x here (a ∷ arcs) there leads away ends =
    (((λ e. away (sym leads.1 ∙ e)), ends.0), stays-off p x (arc_at p a).to arcs there leads.2 ends.0 ends.1)

-- after its first arc a route stays off where it began
off-first : (p : Problem) (here a : ℕ) (arcs : List ℕ) (there : ℕ) → Leads p here (a ∷ arcs) there → AreDistinct (here ∷ ends_of p (a ∷ arcs)) → AllByRecursion (IsOff p here) arcs
off-first p here a arcs there leads once =
    let ends = AreDistinct-head here (ends_of p (a ∷ arcs)) once in
    stays-off p here (arc_at p a).to arcs there leads.2 ends.0 ends.1

-- the legs after others of a route stay off the tails of those
pub off-tails : (p : Problem) (here : ℕ) (legs rest : List Leg) (there : ℕ) → Leads p here (arcs_of legs ++ arcs_of rest) there →
    AreDistinct (here ∷ ends_of p (arcs_of legs ++ arcs_of rest)) → AllByRecursion (λ (m : Leg). AllByRecursion (StaysOff p m.arc) legs) rest
off-tails p here [] rest there leads once = AllByRecursion-always (λ (m : Leg). Unit {0}) (λ m. tt) rest
off-tails p here (l ∷ legs) rest there leads once =
    let arcs : List ℕ = arcs_of legs ++ arcs_of rest in
    let off : AllByRecursion (IsOff p here) arcs = off-first p here l.arc arcs there leads once in
    let rest_off : AllByRecursion (λ (m : Leg). IsOff p here m.arc) rest =
    AllByRecursion-from_map (IsOff p here) (λ (m : Leg). m.arc) rest (AllByRecursion-right (IsOff p here) (arcs_of legs) (arcs_of rest) off) in
    let from_first : AllByRecursion (λ (m : Leg). StaysOff p m.arc l) rest =
    AllByRecursion-weaker (λ (m : Leg). IsOff p here m.arc) (λ (m : Leg). StaysOff p m.arc l)
    (λ m is_off. ((λ e. is_off.0 (e ∙ leads.1)), (λ e. is_off.1 (e ∙ leads.1)))) rest rest_off in
    AllByRecursion-both (λ (m : Leg). StaysOff p m.arc l) (λ (m : Leg). AllByRecursion (StaysOff p m.arc) legs) rest from_first
    (off-tails p (arc_at p l.arc).to legs rest there leads.2 (AreDistinct-tail here (ends_of p (l.arc ∷ arcs)) once))

-- of the legs of a route only one leaves a terminal
pub one-leaves : (p : Problem) (here : ℕ) (legs : List Leg) (there a : ℕ) → Leads p here (arcs_of legs) there → AreDistinct (here ∷ ends_of p (arcs_of legs)) →
    list_has (arcs_of legs) a ≡ true → AllByRecursion (λ (l : Leg). (arc_at p a).from ≡ (arc_at p l.arc).from → a ≡ l.arc) legs
one-leaves p here [] there a leads once has = tt
one-leaves p here (l ∷ legs) there a leads once has =
    let off : AllByRecursion (IsOff p here) (arcs_of legs) = off-first p here l.arc (arcs_of legs) there leads once in
    let off_legs : AllByRecursion (λ (m : Leg). IsOff p here m.arc) legs = AllByRecursion-from_map (IsOff p here) (λ (m : Leg). m.arc) legs off in
    ⊎_elim
    (λ (same : l.arc ≡ a). (
      (λ e. sym same),
      AllByRecursion-weaker (λ (m : Leg). IsOff p here m.arc) (λ (m : Leg). (arc_at p a).from ≡ (arc_at p m.arc).from → a ≡ m.arc)
          (λ m is_off e. absurd (is_off.0 (sym e ∙ ap (λ b. (arc_at p b).from) (sym same) ∙ leads.1))) legs off_legs,
    ))
    (λ (later : list_has (arcs_of legs) a ≡ true). (
      (λ e. absurd ((AllByRecursion-list_has (IsOff p here) (arcs_of legs) a off later).0 (e ∙ leads.1))),
      one-leaves p (arc_at p l.arc).to legs there a leads.2 (AreDistinct-tail here (ends_of p (arcs_of (l ∷ legs))) once) later,
    ))
    (list_has-cons_cases l.arc (arcs_of legs) a has)

-- an arc that stays off the tails of legs of a route is none of theirs
pub off-no_arc : (p : Problem) (legs : List Leg) (a : ℕ) → AllByRecursion (StaysOff p a) legs → AllByRecursion (λ b. b ≢ a) (arcs_of legs)
off-no_arc p [] a off = tt
off-no_arc p (l ∷ legs) a off = ((λ e. off.0.0 (ap (λ b. (arc_at p b).from) (sym e))), off-no_arc p legs a off.1)
