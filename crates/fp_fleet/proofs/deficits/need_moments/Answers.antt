use Rattle.std.proofs.Common.{◌≡◌, ℕ, ◌<◌, List, length, get_or, take, take_all, subst, ◌∙◌, arith, length-set}
use Rattle.std.specs.Prelude.{All}
use Rattle.fp_fleet.specs.declared.fleets.Need.{Need}
use Rattle.fp_fleet.proofs.MetDeficits.{HasMoment, HasMoment-more}
use Rattle.fp_fleet.proofs.deficits.need_moments.Goals as goal

pub loop-need-preserved : goal.loop-need-preserved
loop-need-preserved c =
    let needs : List Need = c.args.needs.now in
    let i : ℕ = c.loop-need.need-index in
    let none : Need = record { terminal = 0; trucks = 0; at = 0 } in
    let lt : i < length needs = omega arith in
    let inside : (get_or needs i none).terminal < length c.args.instance.now.terminals = c.requires.exist i none lt in
    record {
      long = length-set c.loop-need.moments.items (get_or needs i none).terminal (get_or needs i none).at ∙ c.loop-need.invariant.long;
      moments = HasMoment-more needs i none c.loop-need.moments.items c.requires.ascend lt (omega (arith, inside, c.loop-need.invariant.long)) c.loop-need.invariant.moments;
    }

pub returns-clause-moments : goal.returns-clause-moments
returns-clause-moments c =
    let all : take c.loop-need.need-index c.args.needs.now ≡ c.args.needs.now = take_all c.loop-need.need-index c.args.needs.now (omega arith) in
    subst (λ (needs : List Need). All (HasMoment c.loop-need.moments.items) needs) all c.loop-need.invariant.moments
