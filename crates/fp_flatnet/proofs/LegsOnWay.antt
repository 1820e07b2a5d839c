-- A leg on a walk from origin to destination, ready and in time, leaves inside its window.
use Rattle.std.proofs.Common.{◌≡◌, ◌≢◌, ℕ, zero, suc, ◌+◌, ◌-◌, ◌*◌, ◌<◌, ◌≤◌, true, false, List, [], ◌∷◌, ⊎_elim, refl, sym, ap, arith}
use Rattle.std.specs.Prelude.{nat_eq, Option, Some, None, IsSomeAnd}
use Rattle.std.proofs.Math.Nat.{mul-le-mul_left, le_of_mul-le-mul_left}
use Rattle.std.proofs.lemmas.Bool.{cond-true, cond-false}
use Rattle.std.proofs.lemmas.Bool.Decides.{eqb_tells}
use Rattle.fp_model.specs.declared.parts.Shipment.{Shipment}
use Rattle.fp_model.specs.Problem.{Problem, arc_at, hold_at}
use Rattle.fp_model.specs.Routes.{Leads, walk_time}
use Rattle.fp_model.specs.Times.{IsLeastTime}
use Rattle.fp_flatnet.specs.declared.window_tables.Window.{Window}
use Rattle.fp_flatnet.specs.Windows.{IsWindowOrNone, time_before, time_after, IsInside}
use Rattle.fp_flatnet.proofs.OnwardTimes.{onward-le}
use Rattle.fp_flatnet.proofs.LeastWalks.{steps, steps-held}

-- it is not so that there is a walk and no least walk
least_time : (p : Problem) (here there : ℕ) (arcs : List ℕ) → Leads p here arcs there → ((t : ℕ) → IsLeastTime p here there t → ⊥) → ⊥
least_time p here there arcs leads none = omega (arith, above (walk_time p arcs + 1) arcs leads)
  where
    above : (n : ℕ) (others : List ℕ) → Leads p here others there → n ≤ walk_time p others
    above zero others h = omega arith
    above (suc n) others h =
        ⊎_elim
        (λ (same : (nat_eq (walk_time p others) n ≡ true) × (walk_time p others ≡ n)).
        absurd (none n (record { arcs = others; leads = h; time = same.1; least = above n })))
        (λ (other : (nat_eq (walk_time p others) n ≡ false) × (walk_time p others ≢ n)). omega (arith, above n others h, other.1))
        (eqb_tells (walk_time p others) n)

-- the walk to an arc's tail takes at least the least time before it
pub time_before_le : (p : Problem) (s : Shipment) (a : ℕ) (pre : List ℕ) (t : ℕ) → Leads p s.from pre (arc_at p a).from → IsLeastTime p s.from (arc_at p a).from t →
    time_before p s a t ≤ steps p pre
time_before_le p s a pre t leads least =
    ⊎_elim
    (λ (first : (nat_eq (arc_at p a).from s.from ≡ true) × ((arc_at p a).from ≡ s.from)). omega (arith, cond-true (nat_eq (arc_at p a).from s.from) 0 (t + hold_at p (arc_at p a).from) first.0))
    (λ (later : (nat_eq (arc_at p a).from s.from ≡ false) × ((arc_at p a).from ≢ s.from)).
    omega (arith, cond-false (nat_eq (arc_at p a).from s.from) 0 (t + hold_at p (arc_at p a).from) later.0, walked pre leads later.1))
    (eqb_tells (arc_at p a).from s.from)
  where
    walked : (arcs : List ℕ) → Leads p s.from arcs (arc_at p a).from → (arc_at p a).from ≢ s.from → t + hold_at p (arc_at p a).from ≤ steps p arcs
    walked [] h away = absurd (away (sym h))
    walked (b ∷ arcs) h away = omega (arith, steps-held p s.from (arc_at p a).from b arcs h, least.least (b ∷ arcs) h)

-- a leg by an arc on a walk from origin to destination, ready and in time
pub record IsOnWay (p : Problem) (d : ℕ) (s : Shipment) (a n : ℕ) : Type 0 where
  pub pre : List ℕ
  pub post : List ℕ
  pub there : Leads p s.from pre (arc_at p a).from
  pub thence : Leads p (arc_at p a).to post s.to
  pub ready : d * (s.release + steps p pre) ≤ n
  pub due : n + d * walk_time p (a ∷ post) ≤ d * s.due
  pub leaves : (arc_at p a).from ≢ s.to
  pub enters : (arc_at p a).to ≢ s.from

-- it leaves not before the release and the least time to the arc's tail
pub IsOnWay_lo : (p : Problem) (d : ℕ) (s : Shipment) (a n t : ℕ) → IsOnWay p d s a n → IsLeastTime p s.from (arc_at p a).from t → d * (s.release + time_before p s a t) ≤ n
IsOnWay_lo p d s a n t way least =
    let le : s.release + time_before p s a t ≤ s.release + steps p way.pre = omega (arith, time_before_le p s a way.pre t way.there least) in
    omega (arith, mul-le-mul_left d le, way.ready)

-- and so that the arc and the least time from its head end by the due time
pub IsOnWay_hi : (p : Problem) (d : ℕ) (s : Shipment) (a n t : ℕ) → IsOnWay p d s a n → IsLeastTime p (arc_at p a).to s.to t → n + d * time_after p s a t ≤ d * s.due
IsOnWay_hi p d s a n t way least = omega (arith, mul-le-mul_left d (onward-le p s.to a way.post t way.thence least), way.due)

-- it leaves inside the window
pub IsOnWay_within : (p : Problem) (d : ℕ) (s : Shipment) (a n : ℕ) (o : Option Window) → 0 < d → IsOnWay p d s a n → IsWindowOrNone p s a o → IsSomeAnd o (IsInside d n)
IsOnWay_within p d s a n (Some w) h way is =
    let lo : d * w.lo ≡ d * (s.release + time_before p s a is.before) = ap (λ (x : ℕ). d * x) is.lo in
    let hi : d * (w.hi + time_after p s a is.after) ≡ d * s.due = ap (λ (x : ℕ). d * x) is.hi in
    (omega (arith, lo, IsOnWay_lo p d s a n is.before way is.to_tail), omega (arith, hi, IsOnWay_hi p d s a n is.after way is.from_head))
IsOnWay_within p d s a n None h way is =
    least_time p s.from (arc_at p a).from way.pre way.there (λ t to_tail.
    least_time p (arc_at p a).to s.to way.post way.thence (λ u from_head.
    let lo : ℕ = s.release + time_before p s a t in
    let after : ℕ = time_after p s a u in
    let lo_le : d * lo ≤ n = IsOnWay_lo p d s a n t way to_tail in
    let hi_le : n + d * after ≤ d * s.due = IsOnWay_hi p d s a n u way from_head in
    let both : d * (lo + after) ≤ d * s.due = omega (arith, lo_le, hi_le) in
    let room : lo + after ≤ s.due = le_of_mul-le-mul_left both h in
    is (record { lo = lo; hi = s.due - after }) (record {
      before = t;
      after = u;
      to_tail = to_tail;
      from_head = from_head;
      lo = refl;
      hi = omega (arith, room);
      some = omega (arith, room);
      leaves = way.leaves;
      enters = way.enters;
    })))
