-- Plans of an instance with one of its shipments as the last one.
use Rattle.std.proofs.Common.{◌≡◌, ℕ, zero, suc, ◌+◌, ◌*◌, Bool, true, false, ◌||◌, List, [], ◌∷◌, ◌++◌, length, refl, sym, ap, ap₂, ◌∙◌, arith}
use Rattle.std.specs.Prelude.{if◌then◌else◌}
use Rattle.std.specs.Int.{div_ceil}
use Rattle.std.specs.List.{AllZip}
use Rattle.std.proofs.lemmas.List.Folds.{list_any-append}
use Rattle.std.proofs.lemmas.Slice.Zip.{AllZip-long}
use Rattle.fp_model.specs.declared.parts.Leg.{Leg}
use Rattle.fp_model.specs.declared.parts.Shipment.{Shipment}
use Rattle.fp_model.specs.Costs.{all_legs, cost, departure_cost, flow_cost, flow_total, has_leg, load, same_leg}
use Rattle.fp_model.specs.Plans.{PlanExists}
use Rattle.fp_model.specs.Problem.{Problem, arc_at}
use Rattle.fp_model.specs.Routes.{Carries}
use Rattle.fp_model.proofs.Distinct.{distinct_sum, distinct_sum-occur, distinct_sum_same}
use Rattle.fp_replan.proofs.PlansWithout.{carries-same}
use Rattle.fp_replan_quotes.specs.LastShipments.{PlansCorrespond, to_last, with_last}

-- one shipment and its route at the end: of a load
load-push : (ss : List Shipment) (R : List (List Leg)) (s : Shipment) (r : List Leg) (l : Leg) → length R ≡ length ss →
    load (ss ++ s ∷ []) (R ++ r ∷ []) l ≡ (if has_leg l r then s.size else 0) + load ss R l
load-push [] [] s r l same = omega arith
load-push [] (q ∷ R) s r l same = absurd (omega (arith, same))
load-push (t ∷ ss) [] s r l same = absurd (omega (arith, same))
load-push (t ∷ ss) (q ∷ R) s r l same =
    let shorter : length R ≡ length ss = omega (arith, same) in
    let here : ℕ = if has_leg l q then t.size else 0 in
    let last : ℕ = if has_leg l r then s.size else 0 in
    let rest = load-push ss R s r l shorter in
    omega (arith, rest)

-- of the flow, in an instance with whatever shipments
flow-push : (p : Problem) (others ss : List Shipment) (R : List (List Leg)) (s : Shipment) (r : List Leg) → length R ≡ length ss →
    flow_total (record p { shipments = others }) (ss ++ s ∷ []) (R ++ r ∷ []) ≡ flow_cost p s.size r + flow_total p ss R
flow-push p others [] [] s r same = omega arith
flow-push p others [] (q ∷ R) s r same = absurd (omega (arith, same))
flow-push p others (t ∷ ss) [] s r same = absurd (omega (arith, same))
flow-push p others (t ∷ ss) (q ∷ R) s r same =
    let shorter : length R ≡ length ss = omega (arith, same) in
    let rest = flow-push p others ss R s r shorter in
    omega (arith, rest)

-- of what legs there are
or-swap : (a b : Bool) → (a || b) ≡ (b || a)
or-swap true true = refl
or-swap true false = refl
or-swap false true = refl
or-swap false false = refl

or-across : (a b c : Bool) → (a || (b || c)) ≡ (b || (a || c))
or-across true true c = refl
or-across true false c = refl
or-across false true c = refl
or-across false false c = refl

has_leg-push : (l : Leg) (R : List (List Leg)) (r : List Leg) → has_leg l (all_legs (R ++ r ∷ [])) ≡ (has_leg l r || has_leg l (all_legs R))
has_leg-push l [] r = list_any-append (same_leg l) r []
has_leg-push l (q ∷ R) r =
    list_any-append (same_leg l) q (all_legs (R ++ r ∷ []))
    ∙ ap (λ (b : Bool). has_leg l q || b) (has_leg-push l R r)
    ∙ or-across (has_leg l q) (has_leg l r) (has_leg l (all_legs R))
    ∙ ap (λ (b : Bool). has_leg l r || b) (sym (list_any-append (same_leg l) q (all_legs R)))

-- the same legs occur in whatever order
has_leg-last : (l : Leg) (k : ℕ) (R : List (List Leg)) → has_leg l (all_legs (to_last k R)) ≡ has_leg l (all_legs R)
has_leg-last l zero [] = refl
has_leg-last l (suc k) [] = refl
has_leg-last l zero (r ∷ R) = has_leg-push l R r ∙ sym (list_any-append (same_leg l) r (all_legs R))
has_leg-last l (suc k) (r ∷ R) =
    list_any-append (same_leg l) r (all_legs (to_last k R))
    ∙ ap (λ (b : Bool). has_leg l r || b) (has_leg-last l k R)
    ∙ sym (list_any-append (same_leg l) r (all_legs R))

-- and they carry the same load
load-last : (k : ℕ) (ss : List Shipment) (R : List (List Leg)) (l : Leg) → length R ≡ length ss → load (to_last k ss) (to_last k R) l ≡ load ss R l
load-last zero [] [] l same = refl
load-last (suc k) [] [] l same = refl
load-last k [] (r ∷ R) l same = absurd (omega (arith, same))
load-last k (s ∷ ss) [] l same = absurd (omega (arith, same))
load-last zero (s ∷ ss) (r ∷ R) l same =
    let shorter : length R ≡ length ss = omega (arith, same) in
    load-push ss R s r l shorter
load-last (suc k) (s ∷ ss) (r ∷ R) l same =
    let shorter : length R ≡ length ss = omega (arith, same) in
    let here : ℕ = if has_leg l r then s.size else 0 in
    ap (λ n. here + n) (load-last k ss R l shorter)

flow-last : (p : Problem) (others : List Shipment) (k : ℕ) (ss : List Shipment) (R : List (List Leg)) → length R ≡ length ss →
    flow_total (record p { shipments = others }) (to_last k ss) (to_last k R) ≡ flow_total p ss R
flow-last p others zero [] [] same = refl
flow-last p others (suc k) [] [] same = refl
flow-last p others k [] (r ∷ R) same = absurd (omega (arith, same))
flow-last p others k (s ∷ ss) [] same = absurd (omega (arith, same))
flow-last p others zero (s ∷ ss) (r ∷ R) same =
    let shorter : length R ≡ length ss = omega (arith, same) in
    flow-push p others ss R s r shorter
flow-last p others (suc k) (s ∷ ss) (r ∷ R) same =
    let shorter : length R ≡ length ss = omega (arith, same) in
    ap (λ n. flow_cost p s.size r + n) (flow-last p others k ss R shorter)

-- so they cost the same
pub cost-last : (p : Problem) (k : ℕ) (R : List (List Leg)) → length R ≡ length p.shipments → cost (with_last p k) (to_last k R) ≡ cost p R
cost-last p k R same =
    let moved : Leg → ℕ = departure_cost (with_last p k) (to_last k R) in
    let whole : Leg → ℕ = departure_cost p R in
    let each : (l : Leg) → moved l ≡ whole l = λ l. ap (λ n. (arc_at p l.arc).truck * div_ceil n (arc_at p l.arc).capacity) (load-last k p.shipments R l same) in
    let there : distinct_sum moved (all_legs (to_last k R)) ≡ distinct_sum whole (all_legs (to_last k R)) = distinct_sum_same moved whole (all_legs (to_last k R)) (λ l has. each l) in
    let all : distinct_sum whole (all_legs (to_last k R)) ≡ distinct_sum whole (all_legs R) = distinct_sum-occur whole (all_legs (to_last k R)) (all_legs R) (λ l. has_leg-last l k R) in
    ap₂ (λ (m n : ℕ). m + n) (there ∙ all) (flow-last p (to_last k p.shipments) k p.shipments R same)

-- one more at the end
AllZip-push : {X Y : Type 0} (Q : X → Y → Type 0) (xs : List X) (ys : List Y) (x : X) (y : Y) → AllZip Q xs ys → Q x y → AllZip Q (xs ++ x ∷ []) (ys ++ y ∷ [])
AllZip-push Q [] [] x y all one = (one, tt)
AllZip-push Q [] (b ∷ ys) x y all one = absurd all
AllZip-push Q (a ∷ xs) [] x y all one = absurd all
AllZip-push Q (a ∷ xs) (b ∷ ys) x y all one = (all.0, AllZip-push Q xs ys x y all.1 one)

AllZip-last : {X Y : Type 0} (Q : X → Y → Type 0) (k : ℕ) (xs : List X) (ys : List Y) → AllZip Q xs ys → AllZip Q (to_last k xs) (to_last k ys)
AllZip-last Q zero [] [] all = tt
AllZip-last Q (suc k) [] [] all = tt
AllZip-last Q k [] (y ∷ ys) all = absurd all
AllZip-last Q k (x ∷ xs) [] all = absurd all
AllZip-last Q zero (x ∷ xs) (y ∷ ys) all = AllZip-push Q xs ys x y all.1 all.0
AllZip-last Q (suc k) (x ∷ xs) (y ∷ ys) all = (all.0, AllZip-last Q k xs ys all.1)

-- and back
AllZip-pushed : {X Y : Type 0} (Q : X → Y → Type 0) (xs : List X) (x : X) (zs : List Y) → AllZip Q (xs ++ x ∷ []) zs → (ys : List Y) × (y : Y) × AllZip Q xs ys × Q x y × (zs ≡ ys ++ y ∷ [])
AllZip-pushed Q [] x [] all = absurd all
AllZip-pushed Q [] x (z ∷ []) all = ([], z, tt, all.0, refl)
AllZip-pushed Q [] x (z ∷ y ∷ zs) all = absurd all.1
AllZip-pushed Q (a ∷ xs) x [] all = absurd all
AllZip-pushed {X} {Y} Q (a ∷ xs) x (z ∷ zs) all =
    let rest = AllZip-pushed Q xs x zs all.1 in
    (z ∷ rest.0, rest.1, (all.0, rest.2), rest.3, ap (λ (more : List Y). z ∷ more) rest.4)

AllZip-back : {X Y : Type 0} (Q : X → Y → Type 0) (k : ℕ) (xs : List X) (zs : List Y) → AllZip Q (to_last k xs) zs → (ys : List Y) × AllZip Q xs ys × (zs ≡ to_last k ys)
AllZip-back Q zero [] [] all = ([], tt, refl)
AllZip-back Q (suc k) [] [] all = ([], tt, refl)
AllZip-back Q zero [] (z ∷ zs) all = absurd all
AllZip-back Q (suc k) [] (z ∷ zs) all = absurd all
AllZip-back Q zero (x ∷ xs) zs all =
    let rest = AllZip-pushed Q xs x zs all in
    (rest.1 ∷ rest.0, (rest.3, rest.2), rest.4)
AllZip-back Q (suc k) (x ∷ xs) [] all = absurd all
AllZip-back {X} {Y} Q (suc k) (x ∷ xs) (z ∷ zs) all =
    let rest = AllZip-back Q k xs zs all.1 in
    (z ∷ rest.0, (all.0, rest.1), ap (λ (more : List Y). z ∷ more) rest.2)

-- what holds of each pair, as something else
AllZip-weaker : {X Y : Type 0} (P Q : X → Y → Type 0) → ((x : X) (y : Y) → P x y → Q x y) → (xs : List X) (ys : List Y) → AllZip P xs ys → AllZip Q xs ys
AllZip-weaker P Q more [] [] all = tt
AllZip-weaker P Q more [] (y ∷ ys) all = absurd all
AllZip-weaker P Q more (x ∷ xs) [] all = absurd all
AllZip-weaker P Q more (x ∷ xs) (y ∷ ys) all = (more x y all.0, AllZip-weaker P Q more xs ys all.1)

pub PlansCorrespond-last : (p : Problem) (k : ℕ) → PlansCorrespond p k (with_last p k)
PlansCorrespond-last p k = record {
  there = λ d routes plan.
      AllZip-weaker (Carries p d) (Carries (with_last p k) d) (carries-same p (to_last k p.shipments) d) (to_last k p.shipments) (to_last k routes)
      (AllZip-last (Carries p d) k p.shipments routes plan);
  back = λ d routes plan.
      AllZip-back (Carries p d) k p.shipments routes
      (AllZip-weaker (Carries (with_last p k) d) (Carries p d) (carries-same (with_last p k) p.shipments d) (to_last k p.shipments) routes plan);
  cost = λ d routes plan. cost-last p k routes (AllZip-long (Carries p d) p.shipments routes plan);
}

-- where there is a plan there is one of the other
pub PlanExists-last : (p : Problem) (k : ℕ) → PlanExists p → PlanExists (with_last p k)
PlanExists-last p k plan = (plan.0, to_last k plan.1, plan.2, (PlansCorrespond-last p k).there plan.0 plan.1 plan.3)
