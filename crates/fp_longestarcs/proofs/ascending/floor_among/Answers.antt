-- The point at the place where it is the time, and else the one before.
use Rattle.std.proofs.Common.{◌≡◌, ℕ, true, sym, subst, arith}
use Rattle.fp_base_lists.specs.Membership.{list_has}
use Rattle.fp_timenodes.proofs.Floors.{floor_itself}
use Rattle.fp_longestarcs.proofs.Places.{floor-before}
use Rattle.fp_base_lists.proofs.Membership.{list_has-get_or}
use Rattle.fp_longestarcs.proofs.ascending.floor_among.Goals as goal
use Rattle.fp_longestarcs.proofs.ascending.floor_among.Goals.{else-place-points-via-then-place-points+else-points-place, else-place-points-via-else-place-points}

pub returns-then-points-place : goal.returns-then-points-place
returns-then-points-place c =
    let there : list_has c.args.points.now c.args.at ≡ true =
    subst (λ (m : ℕ). list_has c.args.points.now m ≡ true) c.if-points-place.true (list_has-get_or c.args.points.now c.place_among-place.result 0 c.if-place-points.true) in
    sym (floor_itself c.args.points.now c.args.at there)

-- on either way here the time does not stand at its place
pub overflow_sub-result : goal.overflow_sub-result
overflow_sub-result c =
    omega (
      arith,
      (floor-before c.args.points.now c.args.at c.place_among-place.result c.requires c.place_among-place.ensures.parts
          (elim c.else-place-points.branch [
            | else-place-points-via-then-place-points+else-points-place w ↦ λ h same. w.if-points-place.false same
            | else-place-points-via-else-place-points w ↦ λ h same. absurd (omega arith)
          ])).0,
    )

pub returns : goal.returns
returns c =
    (floor-before c.args.points.now c.args.at c.place_among-place.result c.requires c.place_among-place.ensures.parts
    (elim c.else-place-points.branch [
      | else-place-points-via-then-place-points+else-points-place w ↦ λ h same. w.if-points-place.false same
      | else-place-points-via-else-place-points w ↦ λ h same. absurd (omega arith)
    ])).1
