use Rattle.std.proofs.Common.{◌≡◌, ℕ, List, length, subst, arith}
use Rattle.fp_fleet.specs.declared.arrivals.Arrival.{Arrival}
use Rattle.fp_fleet.specs.Sweeps.{AreServed}
use Rattle.fp_fleet.proofs.FewestFleets.{IsAssigned-served}
use Rattle.fp_fleet.proofs.fewest_trucks.swept.Goals as goal

pub returns : goal.returns
returns c =
    let arrivals : List Arrival = c.in_ok-arrivals.arrivals.items in
    let s = c.loop-number.sweep in
    let all : c.loop-number.number ≡ length c.args.lines.now = omega arith in
    IsAssigned-served c.args.instance.now c.args.lines.now arrivals s.begins.items s.turns.items s.idle.items s.heads.items
    (subst (λ (n : ℕ). AreServed c.args.instance.now c.args.lines.now arrivals n s.begins.items s.turns.items s.idle.items s.heads.items) all c.loop-number.invariant)
