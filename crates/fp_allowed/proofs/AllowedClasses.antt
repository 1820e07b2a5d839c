-- What it means that a class is allowed: a whole moment of it lies in the window and meets the
-- sides.
use Rattle.std.proofs.Common.{◌≡◌, ℕ, ◌+◌, ◌*◌, ◌/◌, ◌<◌, ◌≤◌, Bool, true, ◌&&◌, List, length, refl, arith}
use Rattle.std.specs.Prelude.{nat_eq, nat_lt, nat_le, Option, Some, None, IsSomeAnd}
use Rattle.std.proofs.lemmas.Bool.{and_parts, and_from, le-leb, lt-ltb, leb-true, ltb-true, eq-eqb, eqb-true, false≢true}
use Rattle.fp_base_lists.proofs.CountsBelow.{some_below-true, some_below-witness}
use Rattle.fp_model.specs.declared.parts.Leg.{Leg}
use Rattle.fp_model.specs.Problem.{Problem}
use Rattle.fp_timenodes.specs.Floor.{floor_point}
use Rattle.fp_timenodes.proofs.Floors.{floor_whole}
use Rattle.fp_flatnet.specs.declared.window_tables.Window.{Window}
use Rattle.fp_flatnet.specs.Windows.{IsInside}
use Rattle.fp_longestarcs.specs.Classes.{class_of}
use Rattle.fp_tree.specs.declared.sides.Side.{Side}
use Rattle.fp_tree.specs.Sides.{MeetsAll}
use Rattle.fp_allowed.specs.Allowed.{exit_of, has_moment, is_allowed, is_moment, meets_all, tails_of}
use Rattle.fp_allowed.proofs.SideTests.{meets_all_true}

-- a whole moment of a class that lies in a window and meets the sides
pub record HasMoment (p : Problem) (points : ℕ → List ℕ) (sides : List Side) (k : ℕ) (c : Leg) (w : Window) : Type 0 where
  pub moment : ℕ
  pub falls : floor_point (points (tails_of p c.arc)) 1 moment ≡ c.depart
  pub after : w.lo ≤ moment
  pub before : moment ≤ w.hi
  pub met : meets_all k sides (exit_of p (record { arc = c.arc; depart = moment })) ≡ true

has_moment_from : (p : Problem) (points : ℕ → List ℕ) (sides : List Side) (k : ℕ) (c : Leg) (o : Option Window) → IsSomeAnd o (HasMoment p points sides k c) → has_moment p points sides k c o ≡ true
has_moment_from p points sides k c None has = absurd has
has_moment_from p points sides k c (Some w) has =
    some_below-true (w.hi + 1) has.moment (is_moment p points sides k c w) (omega (arith, has.before))
    (rw (
      eq-eqb (floor_point (points (tails_of p c.arc)) 1 has.moment) c.depart has.falls,
      le-leb w.lo has.moment has.after,
      le-leb has.moment w.hi has.before,
      has.met,
    ) refl)

has_moment_parts : (p : Problem) (points : ℕ → List ℕ) (sides : List Side) (k : ℕ) (c : Leg) (o : Option Window) → has_moment p points sides k c o ≡ true → IsSomeAnd o (HasMoment p points sides k c)
has_moment_parts p points sides k c None h = absurd (false≢true h)
has_moment_parts p points sides k c (Some w) h =
    let some = some_below-witness (w.hi + 1) (is_moment p points sides k c w) h in
    let m : ℕ = some.0 in
    let in_class : Bool = nat_eq (floor_point (points (tails_of p c.arc)) 1 m) c.depart in
    let met : Bool = meets_all k sides (exit_of p (record { arc = c.arc; depart = m })) in
    let all = and_parts (in_class && nat_le w.lo m && nat_le m w.hi) met some.2 in
    let inside = and_parts (in_class && nat_le w.lo m) (nat_le m w.hi) all.0 in
    let starts = and_parts in_class (nat_le w.lo m) inside.0 in
    record {
      moment = m;
      falls = eqb-true (floor_point (points (tails_of p c.arc)) 1 m) c.depart starts.0;
      after = leb-true w.lo m starts.1;
      before = leb-true m w.hi inside.1;
      met = all.1;
    }

-- an allowed class goes by an arc, and has such a moment in the shipment's window for it
pub is_allowed_from : (p : Problem) (windows : ℕ → ℕ → Option Window) (points : ℕ → List ℕ) (sides : List Side) (k : ℕ) (c : Leg) → c.arc < length p.arcs →
    IsSomeAnd (windows k c.arc) (HasMoment p points sides k c) → is_allowed p windows points sides k c ≡ true
is_allowed_from p windows points sides k c exists has =
    and_from (nat_lt c.arc (length p.arcs)) (has_moment p points sides k c (windows k c.arc)) (lt-ltb c.arc (length p.arcs) exists)
    (has_moment_from p points sides k c (windows k c.arc) has)

pub is_allowed_parts : (p : Problem) (windows : ℕ → ℕ → Option Window) (points : ℕ → List ℕ) (sides : List Side) (k : ℕ) (c : Leg) → is_allowed p windows points sides k c ≡ true →
    (c.arc < length p.arcs) × IsSomeAnd (windows k c.arc) (HasMoment p points sides k c)
is_allowed_parts p windows points sides k c h =
    let parts = and_parts (nat_lt c.arc (length p.arcs)) (has_moment p points sides k c (windows k c.arc)) h in
    (ltb-true c.arc (length p.arcs) parts.0, has_moment_parts p points sides k c (windows k c.arc) parts.1)

-- the class of a leg whose whole moment lies in its window, and that meets the sides, is allowed
pub class_allowed : (p : Problem) (windows : ℕ → ℕ → Option Window) (points : ℕ → List ℕ) (sides : List Side) (d k : ℕ) (l : Leg) → 0 < d → l.arc < length p.arcs →
    IsSomeAnd (windows k l.arc) (IsInside 1 (l.depart / d)) → MeetsAll d k sides (exit_of p l) → is_allowed p windows points sides k (class_of p points d l) ≡ true
class_allowed p windows points sides d k l h exists inside meets = is_allowed_from p windows points sides k (class_of p points d l) exists (has (windows k l.arc) inside)
  where
    has : (o : Option Window) → IsSomeAnd o (IsInside 1 (l.depart / d)) → IsSomeAnd o (HasMoment p points sides k (class_of p points d l))
    has None within = absurd within
    has (Some w) within =
        let since : 1 * w.lo ≤ l.depart / d = within.0 in
        let until : l.depart / d ≤ 1 * w.hi = within.1 in
        record {
          moment = l.depart / d;
          falls = floor_whole (points (tails_of p l.arc)) d l.depart h;
          after = omega (arith, since);
          before = omega (arith, until);
          met = meets_all_true d k (exit_of p l) sides h meets;
        }
