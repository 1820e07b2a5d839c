-- The departures left at a terminal, arc by arc.
use Rattle.std.proofs.Common.{◌≡◌, ℕ, zero, suc, ◌+◌, ◌*◌, ◌<◌, ◌≤◌, Bool, true, false, ◌&&◌, cond, List, length, refl, sym, ap, ◌∙◌, arith, add-one}
use Rattle.std.specs.Prelude.{nat_eq, nat_le, Option, Some, None, IfSome, option_map}
use Rattle.std.proofs.lemmas.Bool.{and_right, eq-eqb, ne_eqb}
use Rattle.fp_model.specs.declared.parts.Shipment.{Shipment}
use Rattle.fp_model.specs.Numbered.{no_shipment, shipment_at}
use Rattle.fp_model.specs.Problem.{Problem}
use Rattle.fp_timenodes.specs.declared.places.TheConstants.{LATEST}
use Rattle.fp_flatnet.specs.declared.window_tables.Window.{Window}
use Rattle.fp_flatnet.specs.Belonging.{FitsInstance, IsInsideWindow}
use Rattle.fp_flatnet.specs.Tables.{WindowTable, windows_in}
use Rattle.fp_tree.specs.declared.sides.Side.{Side}
use Rattle.fp_allowed.specs.Allowed.{exit_of, meets_all, tails_of}
use Rattle.fp_allowed.specs.Departures.{departures_below, departures_in, is_departure}
use Rattle.fp_base_lists.specs.Below.{count_below}
use Rattle.fp_allowed.specs.Moments.{all_let, concerned, is_barred}
use Rattle.fp_base_lists.proofs.CountsBelow.{count_below-le, count_below-more, count_below-same}
use Rattle.fp_allowed.proofs.OpenMoments.{meets_all-barred, meets_all-concerned}

-- the window is some time up to the latest
abbrev pub IsInTime : Window → Type 0
IsInTime w = (w.lo ≤ w.hi) × (w.hi ≤ LATEST)

inside-in_time : (p : Problem) (s : Shipment) (a : ℕ) (o : Option Window) → s.due ≤ LATEST → IfSome o (IsInsideWindow p s a) → IfSome o IsInTime
inside-in_time p s a None due is = tt
inside-in_time p s a (Some w) due is = (is.some, omega (arith, is.hi, is.is_window.hi, due))

-- windows that fit an instance are in time
pub windows_in_time : (p : Problem) (table : WindowTable) (k a : ℕ) → FitsInstance p table → k < length p.shipments → a < length p.arcs → IfSome (windows_in table k a) IsInTime
windows_in_time p table k a fits shipment arc =
    inside-in_time p (shipment_at p k) a (windows_in table k a) (fits.valid.parts.shipments k no_shipment shipment).within.due (fits.inside k a shipment arc)

-- what the concerned sides let leave in a window are the departures in it
departures-let : (p : Problem) (k arc : ℕ) (sides own : List Side) (w : Window) → own ≡ concerned p k (tails_of p arc) sides → is_barred p k arc sides ≡ false →
    count_below (w.hi + 1) (λ m. nat_le w.lo m && all_let arc m own) ≡ departures_in p sides k arc (Some w)
departures-let p k arc sides own w is free =
    count_below-same (w.hi + 1) (λ m. nat_le w.lo m && all_let arc m own) (is_departure p sides k arc w)
    (λ m h. ap (λ (b : Bool). nat_le w.lo m && b) (ap (λ (l : List Side). all_let arc m l) is ∙ sym (meets_all-concerned p k (record { arc = arc; depart = m }) sides free)))

pub departures_some : (p : Problem) (k arc lo hi n : ℕ) (sides own : List Side) (o : Option Window) → option_map {U = ℕ × ℕ} (λ w. (w.lo, w.hi)) o ≡ Some (lo, hi) → own ≡ concerned p k (tails_of p arc) sides → is_barred p k arc sides ≡ false →
    n ≡ count_below (hi + 1) (λ m. nat_le lo m && all_let arc m own) → n ≡ departures_in p sides k arc o
departures_some p k arc lo hi n sides own None is own_is free n_is = cc is
departures_some p k arc lo hi n sides own (Some w) is own_is free n_is =
    let pair : ◌≡◌ {A = ℕ × ℕ} (w.lo, w.hi) (lo, hi) = cc is in
    let lo_is : w.lo ≡ lo = ap (λ (x : ℕ × ℕ). x.0) pair in
    let hi_is : w.hi ≡ hi = ap (λ (x : ℕ × ℕ). x.1) pair in
    n_is ∙ rw (← lo_is, ← hi_is) (departures-let p k arc sides own w own_is free)

-- none by an arc that is barred
pub departures_in-barred : (p : Problem) (k arc : ℕ) (sides : List Side) (o : Option Window) → is_barred p k arc sides ≡ true → departures_in p sides k arc o ≡ 0
departures_in-barred p k arc sides None barred = refl
departures_in-barred p k arc sides (Some w) barred =
    ap (λ (n : ℕ). count_below n (is_departure p sides k arc w)) (let e : w.hi + 1 ≡ 0 + (w.hi + 1) = omega arith in e) ∙ count_below-more 0 (w.hi + 1) (is_departure p sides k arc w)
    (λ m h. and_right (nat_le w.lo m) (meets_all k sides (exit_of p (record { arc = arc; depart = m }))) (meets_all-barred p k (record { arc = arc; depart = m }) sides barred))

-- at each arc there are at most as many departures as moments
pub departures_in_le : (p : Problem) (k arc : ℕ) (sides : List Side) (o : Option Window) → IfSome o IsInTime → departures_in p sides k arc o ≤ 100001
departures_in_le p k arc sides None in_time = omega arith
departures_in_le p k arc sides (Some w) in_time = omega (arith, count_below-le (w.hi + 1) (is_departure p sides k arc w), in_time.1)

-- one arc more
departures_here : (p : Problem) (windows : ℕ → ℕ → Option Window) (sides : List Side) (k terminal a n : ℕ) → tails_of p a ≡ terminal → n ≡ departures_in p sides k a (windows k a) →
    n + departures_below p windows sides k terminal a ≡ departures_below p windows sides k terminal (a + 1)
departures_here p windows sides k terminal a n here is =
    rw (add-one, eq-eqb (tails_of p a) terminal here) (ap (λ (m : ℕ). m + departures_below p windows sides k terminal a) is)

pub departures_away : (p : Problem) (windows : ℕ → ℕ → Option Window) (sides : List Side) (k terminal a : ℕ) → (tails_of p a ≡ terminal → ⊥) →
    departures_below p windows sides k terminal a ≡ departures_below p windows sides k terminal (a + 1)
departures_away p windows sides k terminal a away = rw (add-one, ne_eqb (tails_of p a) terminal away) (omega arith)

-- the same, where the tail of the arc is given
pub departures_at : (p : Problem) (windows : ℕ → ℕ → Option Window) (sides : List Side) (k terminal a n total : ℕ) → total ≡ departures_below p windows sides k terminal a → tails_of p a ≡ terminal →
    n ≡ departures_in p sides k a (windows k a) → total + n ≡ departures_below p windows sides k terminal (a + 1)
departures_at p windows sides k terminal a n total so_far here is = omega (arith, so_far, departures_here p windows sides k terminal a n here is)

-- so there are few in all
pub departures_below_le : (p : Problem) (table : WindowTable) (sides : List Side) (k terminal a : ℕ) → FitsInstance p table → k < length p.shipments → a ≤ length p.arcs →
    departures_below p (windows_in table) sides k terminal a ≤ a * 100001
departures_below_le p table sides k terminal zero fits shipment within = omega arith
departures_below_le p table sides k terminal (suc a) fits shipment within =
    let rest : departures_below p (windows_in table) sides k terminal a ≤ a * 100001 = departures_below_le p table sides k terminal a fits shipment (omega arith) in
    let here : departures_in p sides k a (windows_in table k a) ≤ 100001 = departures_in_le p k a sides (windows_in table k a) (windows_in_time p table k a fits shipment (omega arith)) in
    omega (arith, rest, here, at-most (nat_eq (tails_of p a) terminal) (departures_in p sides k a (windows_in table k a)))
  where
    at-most : (b : Bool) (n : ℕ) → cond b n 0 ≤ n
    at-most true n = omega arith
    at-most false n = omega arith
