use Rattle.std.proofs.Common.{◌≡◌, ℕ, ◌<◌, List, length, get_or, sym, subst, ap, ◌∙◌}
use Rattle.std.specs.Prelude.{All}
use Rattle.std.proofs.lemmas.Bool.{both_ways, false≢true}
use Rattle.std.proofs.lemmas.List.Elements.{All-weaker}
use Rattle.fp_model.specs.Problem.{Problem}
use Rattle.fp_timetable.specs.declared.lines.TruckLine.{TruckLine}
use Rattle.fp_fleet.specs.declared.fleets.Need.{Need}
use Rattle.fp_fleet.specs.Deficits.{IsDeficit, arriving, leaving}
use Rattle.fp_fleet.proofs.MetDeficits.{AreCounted, HasMoment, IsDeficit-exists, IsDeficit-met, IsMet, IsMet-deficit}
use Rattle.fp_fleet.proofs.deficits.are_deficits.Goals as goal
use Rattle.fp_fleet.proofs.deficits.are_deficits.Goals.{then-not-needs_ascend-via-then-not-needs_ascend, then-not-needs_ascend-via-else-not-needs_ascend+then-not-terminals_exist, then-not-needs_ascend-via-else-not-needs_ascend+else-not-terminals_exist+then-not-sums_to}

pub returns-then-not-needs_ascend : goal.returns-then-not-needs_ascend
returns-then-not-needs_ascend c = (
  λ h. absurd (false≢true h),
  λ are.
      elim c.then-not-needs_ascend.branch [
        | then-not-needs_ascend-via-then-not-needs_ascend w ↦ absurd (both_ways c.needs_ascend.result w.if-not-needs_ascend.true (c.needs_ascend.ensures.1 are.ascend))
        | then-not-needs_ascend-via-else-not-needs_ascend+then-not-terminals_exist w ↦
            absurd
            (both_ways w.terminals_exist.result w.if-not-terminals_exist.true
            (w.terminals_exist.ensures.exist.1
            (All-weaker (IsDeficit c.args.instance.now c.args.lines.now) (λ (n : Need). n.terminal < length c.args.instance.now.terminals)
            (λ n is. IsDeficit-exists c.args.instance.now c.args.lines.now n w.terminals_exist.ensures.valid c.requires.exist is) c.args.needs.now are.deficits)))
        | then-not-needs_ascend-via-else-not-needs_ascend+else-not-terminals_exist+then-not-sums_to w ↦
            absurd (both_ways w.sums_to.result w.if-not-sums_to.true (w.sums_to.ensures.1 are.sum))
      ],
)

pub returns : goal.returns
returns c =
    let p : Problem = c.args.instance.now in
    let lines : List TruckLine = c.args.lines.now in
    let needs : List Need = c.args.needs.now in
    let moments : c.as_slice.result.now ≡ c.in_ok-moments.moments.items = c.as_slice.ensures.value in
    let exist : All (λ (n : Need). n.terminal < length p.terminals) needs = c.terminals_exist.ensures.exist.0 c.if-not-terminals_exist.false in
    let at : All (HasMoment c.in_ok-moments.moments.items) needs = c.in_ok-moments.ensures.moments in
    let leaves : List ℕ = c.in_ok-leaving.leaving.items in
    let arrives : List ℕ = c.in_ok-leaving.arriving.items in
    let counted : AreCounted p lines c.in_ok-moments.moments.items leaves arrives = record {
      leaves = λ v lt. c.in_ok-leaving.ensures.leaving v lt ∙ ap (λ (ms : List ℕ). leaving p lines v (get_or ms v 0)) c.as_slice.ensures.value;
      arrives = λ v lt. c.in_ok-leaving.ensures.arriving v lt ∙ ap (λ (ms : List ℕ). arriving p lines v (get_or ms v 0)) c.as_slice.ensures.value;
    } in
    let shown : All (IsMet c.as_slice-2.result.now c.as_slice-3.result.now) needs → All (IsMet leaves arrives) needs =
    λ met.
    subst (λ (xs : List ℕ). All (IsMet xs arrives) needs) c.as_slice-2.ensures.value
    (subst (λ (xs : List ℕ). All (IsMet c.as_slice-2.result.now xs) needs) c.as_slice-3.ensures.value met) in
    let told : All (IsMet leaves arrives) needs → All (IsMet c.as_slice-2.result.now c.as_slice-3.result.now) needs =
    λ met.
    subst (λ (xs : List ℕ). All (IsMet c.as_slice-2.result.now xs) needs) (sym c.as_slice-3.ensures.value)
    (subst (λ (xs : List ℕ). All (IsMet xs arrives) needs) (sym c.as_slice-2.ensures.value) met) in (
      λ yes. record {
        ascend = c.needs_ascend.ensures.0 c.if-not-needs_ascend.false;
        deficits = λ k d lt.
            IsDeficit-met p lines c.in_ok-moments.moments.items leaves arrives (get_or needs k d) counted (exist k d lt) (at k d lt) (shown (c.are_met.ensures.0 yes) k d lt);
        sum = c.sums_to.ensures.0 c.if-not-sums_to.false;
      },
      λ are.
          c.are_met.ensures.1
          (told (λ k d lt. IsMet-deficit p lines c.in_ok-moments.moments.items leaves arrives (get_or needs k d) counted (exist k d lt) (at k d lt) (are.deficits k d lt))),
    )
