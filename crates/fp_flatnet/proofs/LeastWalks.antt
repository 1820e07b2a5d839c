-- Walks of least time: their steps, that they visit no terminal twice, and that they are short.
use Rattle.std.proofs.Common.{◌≡◌, ◌≢◌, ℕ, ◌+◌, ◌*◌, ◌<◌, ◌≤◌, min, List, [], ◌∷◌, ◌++◌, length, get_or, refl, sym, ap, subst, arith}
use Rattle.std.specs.Prelude.{sum_by, All, Option, Some}
use Rattle.std.specs.List.{AllByRecursion}
use Rattle.std.proofs.lemmas.List.Sums.{sum_by-cons, sum_by-le}
use Rattle.fp_model.specs.declared.limits.TheConstants.{GREATEST_HOLD, LONGEST_STEP}
use Rattle.fp_flatnet.specs.declared.least_times.TheConstants.{LONGEST_LEAST_TIME}
use Rattle.fp_model.specs.declared.parts.Arc.{Arc}
use Rattle.fp_model.specs.Problem.{Problem, IsValid, no_arc, arc_at, hold_at}
use Rattle.fp_model.specs.Routes.{Leads, walk_time, step, ends_of}
use Rattle.fp_base_lists.specs.Distinct.{AreDistinct}
use Rattle.fp_model.specs.Times.{IsLeastTime, IsDistance}
use Rattle.fp_model.proofs.Bounds.{Leads-exist}
use Rattle.fp_base_lists.proofs.Distinct.{AreDistinct-from_map, AreDistinct-cons, AreDistinct-nil, AreDistinct-tail}
use Rattle.fp_base_lists.proofs.DistinctSums.{sum_by-places-le}
use Rattle.fp_model.proofs.Validity.{IsArc-valid, hold_at-le}

-- the sum of the steps of a walk: so long after its first departure a shipment can leave the walk's
-- end
abbrev pub steps : Problem → List ℕ → ℕ
steps p [] = 0
steps p (a ∷ arcs) = step p a + steps p arcs

pub steps-append : (p : Problem) (xs ys : List ℕ) → steps p (xs ++ ys) ≡ steps p xs + steps p ys
steps-append p [] ys = omega arith
steps-append p (a ∷ xs) ys = omega (arith, steps-append p xs ys)

pub Leads-append : (p : Problem) (here mid there : ℕ) (xs ys : List ℕ) → Leads p here xs mid → Leads p mid ys there → Leads p here (xs ++ ys) there
Leads-append p here mid there [] ys first later = subst (λ (n : ℕ). Leads p n ys there) (sym first) later
Leads-append p here mid there (a ∷ xs) ys first later = (first.0, first.1, Leads-append p (arc_at p a).to mid there xs ys first.2 later)

-- the steps of a walk are its time and the hold at its end
pub steps-held : (p : Problem) (here there a : ℕ) (arcs : List ℕ) → Leads p here (a ∷ arcs) there → steps p (a ∷ arcs) ≡ walk_time p (a ∷ arcs) + hold_at p there
steps-held p here there a [] leads =
    let held : hold_at p (arc_at p a).to ≡ hold_at p there = ap (hold_at p) leads.2 in
    omega (arith, held)
steps-held p here there a (b ∷ arcs) leads = omega (arith, steps-held p (arc_at p a).to there b arcs leads.2)

pub time-steps : (p : Problem) (here there : ℕ) (arcs : List ℕ) → here ≢ there → Leads p here arcs there → steps p arcs ≡ walk_time p arcs + hold_at p there
time-steps p here there [] apart leads = absurd (apart leads)
time-steps p here there (a ∷ arcs) apart leads = steps-held p here there a arcs leads

-- a walk whose steps no other walk with these ends undercuts
pub record IsLeastWalk (p : Problem) (here there : ℕ) (arcs : List ℕ) : Type 0 where
  pub leads : Leads p here arcs there
  pub least : (others : List ℕ) → Leads p here others there → steps p arcs ≤ steps p others

-- the first arc of a walk takes no longer than the walk
pub first-time : (p : Problem) (a : ℕ) (arcs : List ℕ) → (arc_at p a).time ≤ walk_time p (a ∷ arcs)
first-time p a [] = omega arith
first-time p a (b ∷ arcs) = omega arith

pub IsLeastWalk-from_time : (p : Problem) (here there t : ℕ) → IsValid p → (least : IsLeastTime p here there t) → IsLeastWalk p here there least.arcs
IsLeastWalk-from_time p here there t valid least = record { leads = least.leads; least = fewest least.arcs least.leads least.time }
  where
    fewest : (arcs : List ℕ) → Leads p here arcs there → walk_time p arcs ≡ t → (others : List ℕ) → Leads p here others there → steps p arcs ≤ steps p others
    fewest [] leads time others there_too = omega arith
    fewest (a ∷ arcs) leads time [] there_too =
        let within : 1 ≤ (arc_at p a).time = (IsArc-valid p a valid leads.0).within.time.0 in
        let none : t ≤ 0 = least.least [] there_too in
        absurd (omega (arith, within, none, time, first-time p a arcs))
    fewest (a ∷ arcs) leads time (b ∷ others) there_too =
        omega (arith, steps-held p here there a arcs leads, steps-held p here there b others there_too, least.least (b ∷ others) there_too, time)

pub IsLeastTime-from_walk : (p : Problem) (here there : ℕ) (arcs : List ℕ) → IsValid p → IsLeastWalk p here there arcs → IsLeastTime p here there (walk_time p arcs)
IsLeastTime-from_walk p here there arcs valid least = record { arcs = arcs; leads = least.leads; time = refl; least = fewest arcs least.leads least.least }
  where
    fewest : (arcs : List ℕ) → Leads p here arcs there → ((others : List ℕ) → Leads p here others there → steps p arcs ≤ steps p others) →
        (others : List ℕ) → Leads p here others there → walk_time p arcs ≤ walk_time p others
    fewest [] leads least others there_too = omega arith
    fewest (a ∷ arcs) leads least [] there_too =
        let within : 1 ≤ (arc_at p a).time = (IsArc-valid p a valid leads.0).within.time.0 in
        absurd (omega (arith, within, least [] there_too))
    fewest (a ∷ arcs) leads least (b ∷ others) there_too =
        omega (arith, steps-held p here there a arcs leads, steps-held p here there b others there_too, least (b ∷ others) there_too)

-- a least walk goes on by a least walk
pub IsLeastWalk-next : (p : Problem) (here there a : ℕ) (arcs : List ℕ) → IsLeastWalk p here there (a ∷ arcs) → IsLeastWalk p (arc_at p a).to there arcs
IsLeastWalk-next p here there a arcs least = record {
  leads = least.leads.2;
  least = λ others leads. omega (arith, least.least (a ∷ others) (least.leads.0, least.leads.1, leads));
}

-- a walk that is shorter than each walk from x never enters x
never-enters : (p : Problem) (x here there : ℕ) (arcs : List ℕ) → Leads p here arcs there → ((others : List ℕ) → Leads p x others there → steps p arcs < steps p others) →
    AllByRecursion (λ y. y ≢ x) (ends_of p arcs)
never-enters p x here there [] leads shorter = tt
never-enters p x here there (a ∷ arcs) leads shorter = (
  (λ (e : (arc_at p a).to ≡ x).
      let from_x : Leads p x arcs there = subst (λ (n : ℕ). Leads p n arcs there) e leads.2 in
      omega (arith, shorter arcs from_x)),
  never-enters p x (arc_at p a).to there arcs leads.2 (λ others from_x. omega (arith, shorter others from_x)),
)

-- a least walk visits no terminal twice
pub least-apart : (p : Problem) (here there : ℕ) (arcs : List ℕ) → IsValid p → IsLeastWalk p here there arcs → AreDistinct (here ∷ ends_of p arcs)
least-apart p here there [] valid least = AreDistinct-cons here [] tt AreDistinct-nil
least-apart p here there (a ∷ arcs) valid least =
    let leads : Leads p here (a ∷ arcs) there = least.leads in
    let within : 1 ≤ (arc_at p a).time = (IsArc-valid p a valid leads.0).within.time.0 in
    AreDistinct-cons here (ends_of p (a ∷ arcs)) (
      (λ (e : (arc_at p a).to ≡ here).
          let from_here : Leads p here arcs there = subst (λ (n : ℕ). Leads p n arcs there) e leads.2 in
          omega (arith, within, least.least arcs from_here)),
      never-enters p here (arc_at p a).to there arcs leads.2 (λ others from_here. omega (arith, within, least.least others from_here)),
    )
    (least-apart p (arc_at p a).to there arcs valid (IsLeastWalk-next p here there a arcs least))

-- the step of an arc as a number that is 0 for the arc that stands for none
abbrev capped_step : Problem → Arc → ℕ
capped_step p a = min (1001 * a.time) (a.time + hold_at p a.to)

-- walks of least time are short
pub steps-small : (p : Problem) (here there : ℕ) (arcs : List ℕ) → IsValid p → IsLeastWalk p here there arcs → steps p arcs ≤ LONGEST_LEAST_TIME
steps-small p here there arcs valid least =
    let at : ℕ → ℕ = λ a. capped_step p (get_or p.arcs a no_arc) in
    let exist : AllByRecursion (λ a. a < length p.arcs) arcs = Leads-exist p here arcs there least.leads in
    let once : AreDistinct arcs = AreDistinct-from_map (λ a. (arc_at p a).to) arcs (AreDistinct-tail here (ends_of p arcs) (least-apart p here there arcs valid least)) in
    let within : sum_by at arcs ≤ sum_by (capped_step p) p.arcs = sum_by-places-le (capped_step p) no_arc (omega arith) arcs p.arcs exist once in
    let each : All (λ (x : Arc). capped_step p x ≤ LONGEST_STEP) p.arcs =
    λ k d lt. omega (arith, hold_at-le p (get_or p.arcs k d).to valid, (valid.parts.arcs k d lt).within.time.1) in
    let few : length p.arcs * LONGEST_STEP ≤ LONGEST_LEAST_TIME = omega (arith, valid.parts.few_arcs) in
    omega (arith, within, few, sum_by-le (capped_step p) LONGEST_STEP p.arcs each, all_steps arcs exist)
  where
    all_steps : (arcs : List ℕ) → AllByRecursion (λ a. a < length p.arcs) arcs → steps p arcs ≡ sum_by (λ a. capped_step p (get_or p.arcs a no_arc)) arcs
    all_steps [] exist = refl
    all_steps (a ∷ arcs) exist =
        let within : 1 ≤ (arc_at p a).time = (IsArc-valid p a valid exist.0).within.time.0 in
        let held : hold_at p (arc_at p a).to ≤ GREATEST_HOLD = hold_at-le p (arc_at p a).to valid in
        omega (arith, within, held, all_steps arcs exist.1, sum_by-cons (λ b. capped_step p (get_or p.arcs b no_arc)) a arcs)

time-le-steps : (p : Problem) (arcs : List ℕ) → walk_time p arcs ≤ steps p arcs
time-le-steps p [] = omega arith
time-le-steps p (a ∷ []) = omega arith
time-le-steps p (a ∷ b ∷ arcs) = omega (arith, time-le-steps p (b ∷ arcs))

pub time-small : (p : Problem) (here there t : ℕ) → IsValid p → IsLeastTime p here there t → t ≤ LONGEST_LEAST_TIME
time-small p here there t valid least =
    omega (arith, least.time, time-le-steps p least.arcs, steps-small p here there least.arcs valid (IsLeastWalk-from_time p here there t valid least))

-- there is only one least time
pub IsLeastTime-unique : (p : Problem) (here there t u : ℕ) → IsLeastTime p here there t → IsLeastTime p here there u → t ≡ u
IsLeastTime-unique p here there t u one two =
    omega (arith, one.least two.arcs two.leads, two.least one.arcs one.leads, one.time, two.time)

-- a distance is short
pub distance-small : (p : Problem) (here there : ℕ) (o : Option ℕ) (t : ℕ) → IsValid p → IsDistance p here there o → o ≡ Some t → t ≤ LONGEST_LEAST_TIME
distance-small p here there o t valid is same =
    let least : IsLeastTime p here there t = subst (λ (x : Option ℕ). IsDistance p here there x) same is in
    time-small p here there t valid least
