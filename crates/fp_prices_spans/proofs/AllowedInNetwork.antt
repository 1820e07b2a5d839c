-- What is allowed over the points of a whole network are classes of it, whatever the windows.
use Rattle.std.proofs.Common.{◌≡◌, ℕ, ◌<◌, true, List, length, sym, ap, ◌∙◌, subst, arith}
use Rattle.std.specs.Prelude.{IsSomeAnd, None, Option, Some}
use Rattle.fp_base_lists.specs.Membership.{list_has}
use Rattle.fp_model.specs.declared.parts.Leg.{Leg}
use Rattle.fp_model.specs.Problem.{Problem}
use Rattle.fp_timenodes.specs.Floor.{floor_point}
use Rattle.fp_timenodes.proofs.Floors.{IsFloorPoint-floor_point}
use Rattle.fp_flatnet.specs.declared.window_tables.Window.{Window}
use Rattle.fp_longestarcs.specs.Networks.{IsClass, TimedNetwork, points_in, tail_in}
use Rattle.fp_longestarcs.specs.Whole.{IsWholeNetwork}
use Rattle.fp_longestarcs.proofs.ClassNumbers.{tail-points}
use Rattle.fp_longestarcs.proofs.HeadLists.{arc-count, tail-of}
use Rattle.fp_tree.specs.declared.sides.Side.{Side}
use Rattle.fp_allowed.specs.Allowed.{is_allowed, tails_of}
use Rattle.fp_allowed.proofs.AllowedClasses.{HasMoment, is_allowed_parts}

pub allowed-class : (p : Problem) (net : TimedNetwork) (windows : ℕ → ℕ → Option Window) (sides : List Side) (k : ℕ) (c : Leg) → IsWholeNetwork p net → is_allowed p windows (points_in net) sides k c ≡ true → IsClass net c
allowed-class p net windows sides k c whole h =
    let parts = is_allowed_parts p windows (points_in net) sides k c h in
    let exists : c.arc < length net.tails = omega (arith, parts.0, arc-count p net whole.arcs) in
    let tail : tail_in net c.arc ≡ tails_of p c.arc = tail-of p net c.arc whole.arcs parts.0 in
    let qs : List ℕ = points_in net (tail_in net c.arc) in
    (exists, point (windows k c.arc) parts.1 qs (tail-points net c.arc whole.valid exists).zero (ap (points_in net) (sym tail)))
  where
    point : (o : Option Window) → IsSomeAnd o (HasMoment p (points_in net) sides k c) → (qs : List ℕ) → list_has qs 0 ≡ true → points_in net (tails_of p c.arc) ≡ qs → list_has qs c.depart ≡ true
    point None has qs zero same = absurd has
    point (Some w) has qs zero same =
        subst (λ (q : ℕ). list_has qs q ≡ true) (ap (λ (l : List ℕ). floor_point l 1 has.moment) (sym same) ∙ has.falls) (IsFloorPoint-floor_point qs has.moment zero).0
