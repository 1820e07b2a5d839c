use Rattle.std.proofs.Common.{◌≡◌, ◌+◌, ◌-◌, refl, ap, ◌∙◌, get_or, arith}
use Rattle.std.proofs.lemmas.Bool.{false≢true}
use Rattle.fp_timenodes.specs.declared.places.AddedPoint.{AddedPoint}
use Rattle.fp_certificate_rules.proofs.RoundCounts.{count_in_few, count_in_many}
use Rattle.fp_checker.proofs.rules.added_points.few_in_rounds.Goals as goal

pub returns : goal.returns
returns c =
    (λ _. count_in_few c.args.added.now c.requires (λ i d lt. c.loop-place.invariant i d (omega (arith, lt))), λ _. refl)

pub returns-then-added-place : goal.returns-then-added-place
returns-then-added-place c =
    let none : AddedPoint = record { terminal = 0; at = 0; round = 0 } in
    let on : c.loop-place.place ≡ c.loop-place.place - 8 + 8 = omega arith in (
      λ h. absurd (false≢true h),
      λ few. absurd (count_in_many c.args.added.now (c.loop-place.place - 8) none c.requires (omega arith)
          (c.if-added-place.true ∙ ap (λ k. (get_or c.args.added.now k none).round) on) few),
    )
