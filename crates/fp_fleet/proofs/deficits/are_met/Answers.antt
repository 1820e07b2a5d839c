use Rattle.std.proofs.Common.{◌≡◌, ◌+◌, ◌<◌, List, length, get_or, take, take_all, subst, refl, arith}
use Rattle.std.specs.Prelude.{All}
use Rattle.std.proofs.lemmas.List.Elements.{All-more}
use Rattle.fp_fleet.specs.declared.fleets.Need.{Need}
use Rattle.fp_fleet.proofs.deficits.are_met.Goals as goal

pub loop-need-preserved : goal.loop-need-preserved
loop-need-preserved c =
    let lt : c.loop-need.need-index < length c.args.needs.now = omega arith in
    All-more (λ (n : Need). (0 < n.trucks) × (get_or c.args.leaving.now n.terminal 0 ≡ get_or c.args.arriving.now n.terminal 0 + n.trucks))
    c.args.needs.now c.loop-need.need-index (record { terminal = 0; trucks = 0; at = 0 }) lt c.loop-need.invariant (omega arith, omega arith)

pub returns : goal.returns
returns c = (
  λ h.
      let all : take c.loop-need.need-index c.args.needs.now ≡ c.args.needs.now = take_all c.loop-need.need-index c.args.needs.now (omega arith) in
      subst (λ (needs : List Need). All (λ (n : Need). (0 < n.trucks) × (get_or c.args.leaving.now n.terminal 0 ≡ get_or c.args.arriving.now n.terminal 0 + n.trucks)) needs)
      all c.loop-need.invariant,
  λ met. refl,
)
