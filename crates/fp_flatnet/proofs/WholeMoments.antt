-- Legs at the whole moments at their own or before them: where a plan lies within windows, it does so
-- by its whole moments too.
use Rattle.std.proofs.Common.{◌≡◌, ℕ, ◌+◌, ◌*◌, ◌/◌, ◌<◌, ◌≤◌, List, [], ◌∷◌, map, refl, ap, arith}
use Rattle.std.specs.Prelude.{Option, Some, None, IsSomeAnd}
use Rattle.std.proofs.Math.Nat.{le-div_iff_mul-le, div-lt_iff_lt-mul}
use Rattle.fp_base_lists.specs.Numbered.{AllFrom}
use Rattle.fp_model.specs.declared.parts.Leg.{Leg}
use Rattle.fp_model.specs.Routes.{arcs_of}
use Rattle.fp_flatnet.specs.declared.window_tables.Window.{Window}
use Rattle.fp_flatnet.specs.Windows.{IsInside, LiesWithin, LiesWithinWhole, PlanLiesWithin, PlanLiesWithinWhole, whole_legs}

-- whole legs go by the same arcs
pub arcs_of-whole : (d : ℕ) (legs : List Leg) → arcs_of (whole_legs d legs) ≡ arcs_of legs
arcs_of-whole d [] = refl
arcs_of-whole d (l ∷ legs) = ap (λ (xs : List ℕ). l.arc ∷ xs) (arcs_of-whole d legs)

-- a whole number whose multiple isn't after a number isn't after what that number has of wholes
pub whole-le : (d n m : ℕ) → 0 < d → d * n ≤ m → n ≤ m / d
whole-le d n m some le = (le-div_iff_mul-le some).1 (let e : n * d ≤ m = omega (arith, le) in e)

pub whole-holds : (d m : ℕ) → 0 < d → d * (m / d) ≤ m
whole-holds d m some = let e : (m / d) * d ≤ m = (le-div_iff_mul-le some).0 (let h : m / d ≤ m / d = omega arith in h) in omega (arith, e)

-- what leaves inside a window leaves inside it by its whole moment
pub inside-whole : (d m : ℕ) (o : Option Window) → 0 < d → IsSomeAnd o (IsInside d m) → IsSomeAnd o (IsInside 1 (m / d))
inside-whole d m None some inside = absurd inside
inside-whole d m (Some w) some inside =
    let lo : w.lo ≤ m / d = whole-le d w.lo m some inside.0 in
    let until : m / d < w.hi + 1 = (div-lt_iff_lt-mul some).1 (let h : d * w.hi ≤ d * w.hi = omega arith in let e : m < (w.hi + 1) * d = omega (arith, inside.1, some) in e) in
    let after : 1 * w.lo ≤ m / d = omega (arith, lo) in
    let before : m / d ≤ 1 * w.hi = omega (arith, until) in
    (after, before)

-- and what does so by its whole moment leaves no earlier than the window begins
pub whole-after : (d m : ℕ) (w : Window) → 0 < d → IsInside 1 (m / d) w → d * w.lo ≤ m
whole-after d m w some inside =
    let lo : 1 * w.lo ≤ m / d = inside.0 in
    let e : w.lo * d ≤ m = (le-div_iff_mul-le some).0 (let h : w.lo ≤ m / d = omega (arith, lo) in h) in
    omega (arith, e)

pub LiesWithin-whole : (windows : ℕ → ℕ → Option Window) (d k : ℕ) (legs : List Leg) → 0 < d → LiesWithin windows d k legs → LiesWithinWhole windows d k legs
LiesWithin-whole windows d k [] some within = tt
LiesWithin-whole windows d k (l ∷ legs) some within = (inside-whole d l.depart (windows k l.arc) some within.0, LiesWithin-whole windows d k legs some within.1)

routes-whole : (windows : ℕ → ℕ → Option Window) (d i : ℕ) (routes : List (List Leg)) → 0 < d → AllFrom (LiesWithin windows d) i routes → AllFrom (LiesWithin windows 1) i (map (whole_legs d) routes)
routes-whole windows d i [] some within = tt
routes-whole windows d i (legs ∷ routes) some within = (LiesWithin-whole windows d i legs some within.0, routes-whole windows d (i + 1) routes some within.1)

-- so a plan that lies within windows does so by its whole moments
pub PlanLiesWithin-whole : (windows : ℕ → ℕ → Option Window) (d : ℕ) (routes : List (List Leg)) → 1 ≤ d → PlanLiesWithin windows d routes → PlanLiesWithinWhole windows d routes
PlanLiesWithin-whole windows d routes some within = routes-whole windows d 0 routes (omega (arith, some)) within
