use Rattle.std.proofs.Common.{◌≡◌, ℕ, ◌<◌, ◌++◌, List, length, get_or, take, drop, refl, sym, ap, ◌∙◌, subst, arith}
use Rattle.std.specs.Prelude.{IsTrue}
use Rattle.std.proofs.Math.ListN.{length-map}
use Rattle.std.proofs.lemmas.Bool.{both_ways}
use Rattle.fp_timetable.specs.declared.lines.TruckLine.{TruckLine}
use Rattle.fp_fleet.specs.Fits.{BeginsFit, TurnsFit}
use Rattle.fp_fleet.proofs.CountedRosters.{AreRoster-counted, CountAsRoster, CountAsRoster-roster}
use Rattle.fp_fleet.proofs.TakenRosters.{AreBegun, AreTurned, CountAsRoster-taken, TurnsFit-counted, none-left, trucks_of, trucks_of-at, whole}
use Rattle.fp_fleet.proofs.rosters.is_roster.Goals as goal
use Rattle.fp_fleet.proofs.rosters.is_roster.Goals.{then-fit, else-fit}

pub returns : goal.returns
returns c =
    let p = c.args.instance.now in
    let lines : List TruckLine = c.args.lines.now in
    let long : length (trucks_of lines) ≡ length lines = rw length-map refl in
    let trucks : c.as_mut_slice.result.now ≡ trucks_of lines = c.as_mut_slice.ensures.value ∙ c.in_ok-lacking.ensures in
    let idle : c.as_mut_slice-3.result.now ≡ trucks_of lines = c.as_mut_slice-3.ensures.value ∙ c.in_ok-idle.ensures in
    let lacking : List ℕ = c.take_begins.new.lacking in
    let left : List ℕ = c.take_turns-fit.new.lacking in
    let len : ℕ = c.in_ok-lacking.lacking.len in
    let items : List ℕ = c.in_ok-lacking.lacking.items in
    let kept : take len (lacking ++ drop (length lacking) items) ≡ lacking =
    whole len lacking items (omega (arith, c.take_begins.auto.lacking, ap length c.as_mut_slice.ensures.value)) c.in_ok-lacking.lacking.ok.0 in
    let lent : c.as_mut_slice-2.result.now ≡ lacking = c.as_mut_slice-2.ensures.value ∙ kept in
    let begins_fit : BeginsFit (trucks_of lines) c.args.begins.now =
    subst (λ (n : List ℕ). BeginsFit n c.args.begins.now) trucks (c.take_begins.ensures.fit.0 c.if-not-take_begins.false) in
    let begun : AreBegun lines c.args.begins.now lacking =
    λ m lt.
    omega (
      arith,
      c.take_begins.ensures.taken c.if-not-take_begins.false m (omega (arith, lt, long, ap length trucks)),
      ap (λ (n : List ℕ). get_or n m 0) trucks,
      trucks_of-at lines m,
    ) in
    let turns_fit : IsTrue c.take_turns-fit.result → TurnsFit p lines lacking (trucks_of lines) c.args.turns.now =
    λ fit.
    subst (λ (n : List ℕ). TurnsFit p lines n (trucks_of lines) c.args.turns.now) lent
    (subst (λ (n : List ℕ). TurnsFit p lines c.as_mut_slice-2.result.now n c.args.turns.now) idle (c.take_turns-fit.ensures.fit.0 fit)) in
    let turns_told : TurnsFit p lines lacking (trucks_of lines) c.args.turns.now → IsTrue c.take_turns-fit.result =
    λ fit.
    c.take_turns-fit.ensures.fit.1
    (subst (λ (n : List ℕ). TurnsFit p lines c.as_mut_slice-2.result.now n c.args.turns.now) (sym idle)
    (subst (λ (n : List ℕ). TurnsFit p lines n (trucks_of lines) c.args.turns.now) (sym lent) fit)) in
    let turned : IsTrue c.take_turns-fit.result → AreTurned lines c.args.turns.now lacking left =
    λ fit m lt. omega (arith, c.take_turns-fit.ensures.taken fit m lt, ap (λ (n : List ℕ). get_or n m 0) lent) in
    elim c.if-fit.branch [
      | then-fit w ↦ (
          let shown : w.as_slice.result.now ≡ left =
          w.as_slice.ensures.value
          ∙ ap (λ (ys : List ℕ). take len (left ++ drop (length left) ys)) kept
          ∙ whole len left lacking (omega (arith, c.take_turns-fit.auto.lacking, ap length lent))
          (omega (arith, c.in_ok-lacking.lacking.ok.0, c.take_begins.auto.lacking, ap length c.as_mut_slice.ensures.value)) in
          let left_long : length left ≡ length lines =
          omega (arith, c.take_turns-fit.auto.lacking, ap length lent, c.take_begins.auto.lacking, ap length trucks, long) in (
            λ yes.
                let none : (m : ℕ) → m < length w.as_slice.result.now → get_or w.as_slice.result.now m 0 ≡ 0 = w.none_lacks.ensures.0 (sym w.result-is ∙ yes) in
                AreRoster-counted p lines c.args.begins.now c.args.turns.now
                (CountAsRoster-taken p lines c.args.begins.now c.args.turns.now lacking left begins_fit begun (turns_fit w.if-fit.true) (turned w.if-fit.true)
                (λ m lt. omega (arith, none m (omega (arith, lt, left_long, ap length shown)), ap (λ (n : List ℕ). get_or n m 0) shown))),
            λ are.
                let counts : CountAsRoster p lines c.args.begins.now c.args.turns.now = CountAsRoster-roster p lines c.args.begins.now c.args.turns.now are in
                w.result-is
                ∙ w.none_lacks.ensures.1
                (λ m lt.
                omega (
                  arith,
                  none-left p lines c.args.begins.now c.args.turns.now lacking left counts begun (turned w.if-fit.true) m (omega (arith, lt, left_long, ap length shown)),
                  ap (λ (n : List ℕ). get_or n m 0) shown,
                )),
          )
          )
      | else-fit w ↦ (
        λ yes. absurd (both_ways c.take_turns-fit.result w.if-fit.false (sym w.result-is ∙ yes)),
        λ are.
            absurd
            (both_ways c.take_turns-fit.result w.if-fit.false
            (turns_told (TurnsFit-counted p lines c.args.begins.now c.args.turns.now lacking (CountAsRoster-roster p lines c.args.begins.now c.args.turns.now are) begun))),
      )
    ]
