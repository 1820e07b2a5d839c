-- Every plan lies within the windows of the problem, over whatever denominator.
use Rattle.std.proofs.Common.{◌≡◌, ◌≢◌, ℕ, ◌+◌, ◌*◌, ◌<◌, ◌≤◌, List, [], ◌∷◌, ◌++◌, length, refl, sym, ap, ◌∙◌, subst, arith}
use Rattle.std.specs.Prelude.{Option}
use Rattle.std.specs.List.{AllByRecursion, AllZip}
use Rattle.fp_base_lists.proofs.Distinct.{AreDistinct-head, AreDistinct-tail}
use Rattle.fp_model.specs.declared.parts.Leg.{Leg}
use Rattle.fp_model.specs.declared.parts.Shipment.{Shipment}
use Rattle.fp_base_lists.specs.Numbered.{AllFrom}
use Rattle.fp_model.specs.Problem.{Problem, arc_at}
use Rattle.fp_model.specs.Routes.{Leads, Carries, LeavesReady, ArrivesBy, step, arcs_of, ends_of}
use Rattle.fp_base_lists.specs.Distinct.{AreDistinct}
use Rattle.fp_flatnet.specs.declared.window_tables.Window.{Window}
use Rattle.fp_flatnet.specs.Windows.{IsWindowOrNone, AreWindows, LiesWithin, CoverPlans}
use Rattle.fp_flatnet.proofs.PlanExistence.{arrives-after}
use Rattle.fp_flatnet.proofs.LegsOnWay.{IsOnWay_within}
use Rattle.fp_flatnet.proofs.LeastWalks.{steps, steps-append, Leads-append}

-- a walk that enters only such terminals ends at such a terminal
end-among : (p : Problem) (P : ℕ → Type 0) (here there a : ℕ) (arcs : List ℕ) → Leads p here (a ∷ arcs) there → AllByRecursion P (ends_of p (a ∷ arcs)) → P there
end-among p P here there a [] leads all = subst P leads.2 all.0
end-among p P here there a (b ∷ arcs) leads all = end-among p P (arc_at p a).to there b arcs leads.2 all.1

arrives-later : (p : Problem) (d due : ℕ) (l : Leg) (legs : List Leg) → ArrivesBy p d due (l ∷ legs) → ArrivesBy p d due legs
arrives-later p d due l [] arrives = tt
arrives-later p d due l (m ∷ legs) arrives = arrives

-- what is left of a route lies within, where `pre` is the way to here
route-within : (p : Problem) (d : ℕ) (s : Shipment) (windows : ℕ → ℕ → Option Window) (k : ℕ) → 0 < d → ((a : ℕ) → a < length p.arcs → IsWindowOrNone p s a (windows k a)) →
    (legs : List Leg) (pre : List ℕ) (here ready : ℕ) → Leads p s.from pre here → d * (s.release + steps p pre) ≤ ready → Leads p here (arcs_of legs) s.to →
    LeavesReady p d ready legs → ArrivesBy p d s.due legs → AreDistinct (here ∷ ends_of p (arcs_of legs)) → AllByRecursion (λ y. y ≢ s.from) (ends_of p (arcs_of legs)) →
    LiesWithin windows d k legs
route-within p d s windows k h are [] pre here ready there after leads leaves arrives apart away = tt
route-within p d s windows k h are (l ∷ legs) pre here ready there after leads leaves arrives apart away =
    let a : ℕ = l.arc in
    let to_tail : Leads p s.from pre (arc_at p a).from = subst (λ (t : ℕ). Leads p s.from pre t) (sym leads.1) there in
    let last : s.to ≢ here = end-among p (λ y. y ≢ here) here s.to a (arcs_of legs) leads (AreDistinct-head here (ends_of p (arcs_of (l ∷ legs))) apart) in
    let step_on : d * (s.release + steps p (pre ++ (a ∷ []))) ≡ d * (s.release + steps p pre + step p a) =
    ap (λ (x : ℕ). d * x) (let e : s.release + steps p (pre ++ (a ∷ [])) ≡ s.release + steps p pre + step p a = omega (arith, steps-append p pre (a ∷ [])) in e) in
    let along : Leads p here (a ∷ []) (arc_at p a).to = (leads.0, leads.1, refl) in (
      IsOnWay_within p d s a l.depart (windows k a) h
          (record {
            pre = pre;
            post = arcs_of legs;
            there = to_tail;
            thence = leads.2;
            ready = omega (arith, after, leaves.0);
            due = arrives-after p d s.due ready l legs leaves arrives;
            leaves = λ e. last (sym e ∙ leads.1);
            enters = away.0;
          })
          (are a leads.0),
      route-within p d s windows k h are legs (pre ++ (a ∷ [])) (arc_at p a).to (l.depart + d * step p a)
          (Leads-append p s.from here (arc_at p a).to pre (a ∷ []) there along)
          (omega (arith, step_on, after, leaves.0))
          leads.2 leaves.1 (arrives-later p d s.due l legs arrives) (AreDistinct-tail here (ends_of p (arcs_of (l ∷ legs))) apart) away.1,
    )

plan-within : (p : Problem) (windows : ℕ → ℕ → Option Window) (d i : ℕ) (ss : List Shipment) (plan : List (List Leg)) → 0 < d →
    AllFrom (λ k (s : Shipment). (a : ℕ) → a < length p.arcs → IsWindowOrNone p s a (windows k a)) i ss → AllZip (Carries p d) ss plan → AllFrom (LiesWithin windows d) i plan
plan-within p windows d i [] [] h are is = tt
plan-within p windows d i [] (r ∷ plan) h are is = absurd is
plan-within p windows d i (s ∷ ss) [] h are is = absurd is
plan-within p windows d i (s ∷ ss) (r ∷ plan) h are is =
    let c : Carries p d s r = is.0 in (
      route-within p d s windows i h are.0 r [] s.from (d * s.release) refl (omega arith) c.route.leads c.ready c.due c.route.once (AreDistinct-head s.from (ends_of p (arcs_of r)) c.route.once),
      plan-within p windows d (i + 1) ss plan h are.1 is.1,
    )

pub CoverPlans-from_windows : (p : Problem) (windows : ℕ → ℕ → Option Window) → AreWindows p windows → CoverPlans p windows
CoverPlans-from_windows p windows are d routes h is = plan-within p windows d 0 p.shipments routes (omega (arith, h)) are is
