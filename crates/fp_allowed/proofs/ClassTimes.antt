-- When an allowed class stands: within the shipment's window for its arc.
use Rattle.std.proofs.Common.{◌≡◌, ℕ, ◌<◌, ◌≤◌, true, List, length, refl, subst, arith}
use Rattle.std.specs.Prelude.{IfSome, IsSomeAnd, Option, Some, None}
use Rattle.fp_model.specs.declared.parts.Leg.{Leg}
use Rattle.fp_model.specs.Numbered.{shipment_at}
use Rattle.fp_model.specs.Problem.{Problem}
use Rattle.fp_base_lists.specs.Membership.{list_has}
use Rattle.fp_timenodes.proofs.Floors.{floor_le, floor_greatest}
use Rattle.fp_flatnet.specs.declared.window_tables.Window.{Window}
use Rattle.fp_flatnet.specs.Belonging.{BelongsTo, IsNarrowed}
use Rattle.fp_flatnet.specs.Tables.{WindowTable, windows_in}
use Rattle.fp_tree.specs.declared.sides.Side.{Side}
use Rattle.fp_allowed.specs.Allowed.{is_allowed, tails_of}
use Rattle.fp_allowed.specs.InitialPoints.{HasInitialPoints}
use Rattle.fp_allowed.proofs.AllowedClasses.{HasMoment, is_allowed_parts}
use Rattle.fp_allowed.proofs.InitialPoints.{window_begins}

-- an allowed class, and the shipment's window for its arc
pub record HasWindow (windows : ℕ → ℕ → Option Window) (k : ℕ) (c : Leg) : Type 0 where
  pub window : Window
  pub is : windows k c.arc ≡ Some window

module _ (p : Problem) (windows : ℕ → ℕ → Option Window) (points : ℕ → List ℕ) (sides : List Side) (k : ℕ) (c : Leg) (allowed : is_allowed p windows points sides k c ≡ true) where
  moment_in : (o : Option Window) → windows k c.arc ≡ o → IsSomeAnd o (HasMoment p points sides k c)
  moment_in o is = subst (λ (o : Option Window). IsSomeAnd o (HasMoment p points sides k c)) is (is_allowed_parts p windows points sides k c allowed).1

  -- it has an arc
  pub allowed_exists : c.arc < length p.arcs
  allowed_exists = (is_allowed_parts p windows points sides k c allowed).0

  -- and the shipment has a window for it
  pub allowed_window : HasWindow windows k c
  allowed_window = some (windows k c.arc) refl
    where
      some : (o : Option Window) → windows k c.arc ≡ o → HasWindow windows k c
      some None is = absurd (moment_in None is)
      some (Some w) is = record { window = w; is = is }

  -- it does not stand after the window's end
  pub allowed_hi : (w : Window) → windows k c.arc ≡ Some w → c.depart ≤ w.hi
  allowed_hi w is =
      let has : HasMoment p points sides k c w = moment_in (Some w) is in
      omega (arith, has.falls, has.before, floor_le (points (tails_of p c.arc)) 1 has.moment)

  -- nor before its start, where that is a point of the tail
  pub allowed_lo : (w : Window) → windows k c.arc ≡ Some w → list_has (points (tails_of p c.arc)) w.lo ≡ true → w.lo ≤ c.depart
  allowed_lo w is starts =
      let has : HasMoment p points sides k c w = moment_in (Some w) is in
      omega (arith, has.falls, floor_greatest (points (tails_of p c.arc)) 1 has.moment w.lo starts (omega (arith, has.after)))

-- so out of the shipment's origin it does not stand before the release
pub allowed_release : (p : Problem) (table : WindowTable) (points : ℕ → List ℕ) (sides : List Side) (k : ℕ) (c : Leg) → BelongsTo p table → HasInitialPoints p table.anchors points → k < length p.shipments →
    tails_of p c.arc ≡ (shipment_at p k).from → is_allowed p (windows_in table) points sides k c ≡ true → (shipment_at p k).release ≤ c.depart
allowed_release p table points sides k c belongs initial shipment leaves allowed =
    let has : HasWindow (windows_in table) k c = allowed_window p (windows_in table) points sides k c allowed in
    let exists : c.arc < length p.arcs = allowed_exists p (windows_in table) points sides k c allowed in
    let starts : list_has (points (tails_of p c.arc)) has.window.lo ≡ true = window_begins p table points k c.arc has.window belongs initial shipment exists has.is leaves in
    let narrowed : IsNarrowed p (shipment_at p k) c.arc table.anchors has.window = subst (λ (o : Option Window). IfSome o (IsNarrowed p (shipment_at p k) c.arc table.anchors)) has.is (belongs.narrowed k c.arc shipment exists) in
    omega (arith, allowed_lo p (windows_in table) points sides k c allowed has.window has.is starts, narrowed.lo, narrowed.is_window.lo)
