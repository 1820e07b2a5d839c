use Rattle.std.proofs.Common.{◌≡◌, ℕ, List, length, sym, subst, ap, ◌∙◌, arith}
use Rattle.std.specs.Prelude.{IsTrue, sum_by}
use Rattle.std.proofs.lemmas.Bool.{both_ways, false≢true}
use Rattle.std.proofs.lemmas.Result.{IfOk-weaker}
use Rattle.fp_model.specs.Problem.{Problem}
use Rattle.fp_timetable.specs.declared.lines.TruckLine.{TruckLine}
use Rattle.fp_fleet.specs.declared.fleets.Begin.{Begin}
use Rattle.fp_fleet.specs.declared.fleets.Need.{Need}
use Rattle.fp_fleet.specs.declared.fleets.Turn.{Turn}
use Rattle.fp_fleet.specs.Counts.{begin_count, turn_count}
use Rattle.fp_fleet.specs.Fleets.{AreDeficits, AreRoster, Assignment, BeginsAscend, IsAccepted, TurnsAscend}
use Rattle.fp_fleet.proofs.CountedRosters.{roster_size-begins, size-le-total}
use Rattle.fp_fleet.proofs.acceptance.accepts_lines.Goals as goal
use Rattle.fp_fleet.proofs.acceptance.accepts_lines.Goals.{then-not-roster-via-then-not-roster, then-not-roster-via-else-not-roster+then-begin_total-fleet}

pub begin_total-requires : goal.begin_total-requires
begin_total-requires c =
    let p : Problem = c.args.instance.now in
    let lines : List TruckLine = c.args.lines.now in
    let begins : List Begin = c.as_slice-begins.result.now in
    let are : AreRoster p lines begins c.as_slice-turns.result.now = c.in_ok-roster.ensures.0 c.if-not-roster.false in
    omega (
      arith,
      roster_size-begins (length lines) begins are.begins_exist,
      size-le-total p lines (begin_count begins) (turn_count c.as_slice-turns.result.now) are.roster,
      c.requires.fits,
    )

pub returns-then-not-roster : goal.returns-then-not-roster
returns-then-not-roster c = (
  λ h. absurd (false≢true h),
  λ accepted.
      let p : Problem = c.args.instance.now in
      let lines : List TruckLine = c.args.lines.now in
      let begins : List Begin = c.as_slice-begins.result.now in
      let b : begins ≡ c.args.fleet.now.begins = c.as_slice-begins.ensures.value ∙ ap (λ (f : Assignment). f.begins) c.fleet.view_is in
      let t : c.as_slice-turns.result.now ≡ c.args.fleet.now.turns = c.as_slice-turns.ensures.value ∙ ap (λ (f : Assignment). f.turns) c.fleet.view_is in
      let are : AreRoster p lines begins c.as_slice-turns.result.now =
      subst (λ (bs : List Begin). AreRoster p lines bs c.as_slice-turns.result.now) (sym b)
      (subst (λ (ts : List Turn). AreRoster p lines c.args.fleet.now.begins ts) (sym t) accepted.roster) in
      elim c.then-not-roster.branch [
        | then-not-roster-via-then-not-roster w ↦ absurd (both_ways c.in_ok-roster.roster w.if-not-roster.true (c.in_ok-roster.ensures.1 are))
        | then-not-roster-via-else-not-roster+then-begin_total-fleet w ↦
            absurd
            (omega (
              arith,
              w.if-begin_total-fleet.true,
              w.begin_total.ensures,
              roster_size-begins (length lines) begins are.begins_exist,
              accepted.size,
              ap (λ (f : Assignment). f.total) c.fleet.view_is,
              ap (λ (bs : List Begin). sum_by (λ (x : Begin). x.count) bs) b,
              roster_size-begins (length lines) c.args.fleet.now.begins accepted.roster.begins_exist,
            ))
      ],
)

pub returns : goal.returns
returns c =
    let p : Problem = c.args.instance.now in
    let lines : List TruckLine = c.args.lines.now in
    let begins : List Begin = c.as_slice-begins.result.now in
    let b : begins ≡ c.args.fleet.now.begins = c.as_slice-begins.ensures.value ∙ ap (λ (f : Assignment). f.begins) c.fleet.view_is in
    let t : c.as_slice-turns.result.now ≡ c.args.fleet.now.turns = c.as_slice-turns.ensures.value ∙ ap (λ (f : Assignment). f.turns) c.fleet.view_is in
    let n : c.as_slice.result.now ≡ c.args.fleet.now.needs = c.as_slice.ensures.value ∙ ap (λ (f : Assignment). f.needs) c.fleet.view_is in
    let total : c.fleet.inside.total ≡ c.args.fleet.now.total = ap (λ (f : Assignment). f.total) c.fleet.view_is in
    let are : AreRoster p lines c.args.fleet.now.begins c.args.fleet.now.turns =
    subst (λ (bs : List Begin). AreRoster p lines bs c.args.fleet.now.turns) b
    (subst (λ (ts : List Turn). AreRoster p lines begins ts) t (c.in_ok-roster.ensures.0 c.if-not-roster.false)) in
    let here : List Need → ℕ → Type 0 = λ needs all. AreDeficits p lines all needs in
    IfOk-weaker c.are_deficits.result (λ yes. (IsTrue yes → here c.as_slice.result.now c.fleet.inside.total) × (here c.as_slice.result.now c.fleet.inside.total → IsTrue yes))
    (λ yes. (IsTrue yes → IsAccepted p lines c.args.fleet.now) × (IsAccepted p lines c.args.fleet.now → IsTrue yes))
    (λ yes iff. (
      λ told. record {
        begins_ascend = subst BeginsAscend b (c.begins_ascend.ensures.0 c.if-not-begins_ascend.false);
        turns_ascend = subst TurnsAscend t (c.turns_ascend.ensures.0 c.if-not-turns_ascend.false);
        roster = are;
        size = omega (
          arith,
          c.if-begin_total-fleet.false,
          c.begin_total.ensures,
          roster_size-begins (length lines) c.args.fleet.now.begins are.begins_exist,
          total,
          ap (λ (bs : List Begin). sum_by (λ (x : Begin). x.count) bs) b,
        );
        needs = subst (λ (all : ℕ). here c.args.fleet.now.needs all) total (subst (λ (needs : List Need). here needs c.fleet.inside.total) n (iff.0 told));
      },
      λ accepted. iff.1 (subst (λ (needs : List Need). here needs c.fleet.inside.total) (sym n) (subst (λ (all : ℕ). here c.args.fleet.now.needs all) (sym total) accepted.needs)),
    ))
    c.are_deficits.ensures
