-- A plan without the last shipment, with a route for it put in; and what a plan costs without that
-- shipment's route.
use Rattle.std.proofs.Common.{◌≡◌, ℕ, zero, suc, ◌+◌, ◌-◌, ◌≤◌, List, [], ◌∷◌, length, take, arith}
use Rattle.std.specs.List.{AllZip}
use Rattle.std.proofs.Math.Nat.{min-le_left, min-le_right, le-min}
use Rattle.std.proofs.lemmas.List.{length-take-le}
use Rattle.std.proofs.lemmas.Slice.Zip.{AllZip-long}
use Rattle.fp_model.specs.declared.parts.Leg.{Leg}
use Rattle.fp_model.specs.declared.parts.Shipment.{Shipment}
use Rattle.fp_model.specs.Costs.{cost}
use Rattle.fp_model.specs.Plans.{IsPlan, NoPlanCheaper}
use Rattle.fp_model.specs.Problem.{Problem}
use Rattle.fp_model.specs.Routes.{Carries}
use Rattle.fp_replan.specs.Quotes.{without_last}
use Rattle.fp_replan.proofs.PlansWithout.{IsPlan-front, carries-same, cost-front}
use Rattle.fp_replan_quotes.specs.NamedQuotes.{cost_without, front}
use Rattle.fp_replan_quotes.specs.Starts.{put_in}

-- a front of a list of pairs, and the rest of another
zip-put_in : (P Q : Shipment → List Leg → Type 0) → ((s : Shipment) (r : List Leg) → P s r → Q s r) → (n : ℕ) (ss : List Shipment) (before direct : List (List Leg)) →
    AllZip P (take n ss) before → AllZip Q ss direct → AllZip Q ss (put_in before direct)
zip-put_in P Q more zero ss [] direct first all = all
zip-put_in P Q more zero ss (b ∷ before) direct first all = absurd first
zip-put_in P Q more (suc n) [] [] direct first all = all
zip-put_in P Q more (suc n) [] (b ∷ before) direct first all = absurd first
zip-put_in P Q more (suc n) (s ∷ ss) [] direct first all = absurd first
zip-put_in P Q more (suc n) (s ∷ ss) (b ∷ before) [] first all = absurd all
zip-put_in P Q more (suc n) (s ∷ ss) (b ∷ before) (r ∷ direct) first all = (more s b first.0, zip-put_in P Q more n ss before direct first.1 all.1)

-- how many routes a plan without the last shipment has
pub length-before : (p : Problem) (d : ℕ) (before : List (List Leg)) → IsPlan (without_last p) d before → 1 ≤ length p.shipments → length before + 1 ≡ length p.shipments
length-before p d before plan some =
    let n : ℕ = length p.shipments - 1 in
    let long : length before ≡ length (take n p.shipments) = AllZip-long (Carries (without_last p) d) (take n p.shipments) before plan in
    let fewer : length (take n p.shipments) ≡ n = length-take-le n p.shipments (omega arith) in
    omega (arith, long, fewer, some)

pub IsPlan-put_in : (p : Problem) (d : ℕ) (before direct : List (List Leg)) → IsPlan (without_last p) d before → IsPlan p d direct → IsPlan p d (put_in before direct)
IsPlan-put_in p d before direct first all =
    zip-put_in (Carries (without_last p) d) (Carries p d) (carries-same (without_last p) p.shipments d) (length p.shipments - 1) p.shipments before direct first all

-- what is added is never negative, and lies between what any figures say
pub cost_without-le : (p : Problem) (before after : List (List Leg)) → cost_without p before after ≤ cost p after
cost_without-le p before after =
    omega (arith, min-le_right (cost (without_last p) before) (cost (without_last p) (front p after)), cost-front p (length p.shipments - 1) after)

pub cost_without-le_before : (p : Problem) (before after : List (List Leg)) → cost_without p before after ≤ cost (without_last p) before
cost_without-le_before p before after = min-le_left (cost (without_last p) before) (cost (without_last p) (front p after))

pub low-le_cost_without : (p : Problem) (d low : ℕ) (before after : List (List Leg)) → 1 ≤ d → NoPlanCheaper (without_last p) low → IsPlan (without_last p) d before → IsPlan p d after →
    low ≤ cost_without p before after
low-le_cost_without p d low before after some none first second =
    le-min (none d before some first) (none d (front p after) some (IsPlan-front p d (length p.shipments - 1) after second))
