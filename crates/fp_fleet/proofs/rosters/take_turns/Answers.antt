use Rattle.std.proofs.Common.{◌≡◌, ℕ, ◌<◌, ◌≤◌, List, length, get_or, take, take_all, subst, refl, arith}
use Rattle.std.specs.Prelude.{All}
use Rattle.std.proofs.lemmas.Bool.{both_ways, false≢true}
use Rattle.std.proofs.lemmas.List.Elements.{All-get_or, All-more}
use Rattle.fp_fleet.specs.declared.fleets.Turn.{Turn}
use Rattle.fp_fleet.specs.Fits.{TurnMeets}
use Rattle.fp_fleet.proofs.Takings.{AreTaken-more, enough-left}
use Rattle.fp_fleet.proofs.rosters.take_turns.Goals as goal
use Rattle.fp_fleet.proofs.rosters.take_turns.Goals.{then-not-meets-via-then-not-meets, then-not-meets-via-else-not-meets+then-not-take, then-not-meets-via-else-not-meets+else-not-take+then-not-take-2}

pub returns-then-not-meets-clause-fit : goal.returns-then-not-meets-clause-fit
returns-then-not-meets-clause-fit c = (
  λ h. absurd (false≢true h),
  λ fit.
      let p = c.args.instance.now in
      let turns : List Turn = c.args.turns.now in
      let i : ℕ = c.loop-turn.turn-index in
      let none : Turn = record { before = 0; after = 0; count = 0 } in
      let t : Turn = get_or turns i none in
      let lt : i < length turns = omega arith in
      let meet : TurnMeets p c.args.lines.now t = All-get_or (TurnMeets p c.args.lines.now) turns i none lt fit.meet in
      let into : t.count ≤ get_or c.loop-turn.lacking t.after 0 =
      enough-left (λ (s : Turn). s.after) (λ (s : Turn). s.count) turns i none c.args.lacking.now c.loop-turn.lacking lt (omega (arith, meet.exists.1, c.requires.lacking))
      (λ m h. c.loop-turn.invariant.into m (omega (arith, h, c.requires.lacking))) (λ m h. fit.into m (omega (arith, h, c.requires.lacking))) in
      let out : t.count ≤ get_or c.loop-turn.idle t.before 0 =
      enough-left (λ (s : Turn). s.before) (λ (s : Turn). s.count) turns i none c.args.idle.now c.loop-turn.idle lt (omega (arith, meet.exists.0, c.requires.idle))
      (λ m h. c.loop-turn.invariant.out m (omega (arith, h, c.requires.idle))) (λ m h. fit.out m (omega (arith, h, c.requires.idle))) in
      elim c.then-not-meets.branch [
        | then-not-meets-via-then-not-meets w ↦ absurd (both_ways c.meets.result w.if-not-meets.true (c.meets.ensures.1 meet))
        | then-not-meets-via-else-not-meets+then-not-take w ↦
            absurd (both_ways w.take.result w.if-not-take.true (w.take.ensures.fits.1 (omega (arith, meet.exists.1, c.loop-turn.invariant.lacking_long), into)))
        | then-not-meets-via-else-not-meets+else-not-take+then-not-take-2 w ↦
            absurd (both_ways w.take-else-not-take.result w.if-not-take-2.true (w.take-else-not-take.ensures.fits.1 (omega (arith, meet.exists.0, c.loop-turn.invariant.idle_long), out)))
      ],
)

pub loop-turn-preserved : goal.loop-turn-preserved
loop-turn-preserved c =
    let p = c.args.instance.now in
    let turns : List Turn = c.args.turns.now in
    let i : ℕ = c.loop-turn.turn-index in
    let none : Turn = record { before = 0; after = 0; count = 0 } in
    let lt : i < length turns = omega arith in
    let lacking = c.take.ensures.fits.0 c.if-not-take.false in
    let idle = c.take-else-not-take.ensures.fits.0 c.if-not-take-2.false in
    record {
      lacking_long = omega arith;
      idle_long = omega arith;
      meet = All-more (TurnMeets p c.args.lines.now) turns i none lt c.loop-turn.invariant.meet (c.meets.ensures.0 c.if-not-meets.false);
      into = λ m h.
          AreTaken-more (λ (s : Turn). s.after) (λ (s : Turn). s.count) turns i none c.args.lacking.now c.loop-turn.lacking c.take.new.trucks lt c.loop-turn.auto.lacking
          lacking.0 lacking.1 (c.take.ensures.taken c.if-not-take.false) (λ k less. c.loop-turn.invariant.into k (omega (arith, less, c.requires.lacking))) m (omega (arith, h, c.requires.lacking));
      out = λ m h.
          AreTaken-more (λ (s : Turn). s.before) (λ (s : Turn). s.count) turns i none c.args.idle.now c.loop-turn.idle c.take-else-not-take.new.trucks lt c.loop-turn.auto.idle
          idle.0 idle.1 (c.take-else-not-take.ensures.taken c.if-not-take-2.false) (λ k less. c.loop-turn.invariant.out k (omega (arith, less, c.requires.idle))) m (omega (arith, h, c.requires.idle));
    }

pub returns-clause-fit : goal.returns-clause-fit
returns-clause-fit c = (
  λ h.
      let p = c.args.instance.now in
      let turns : List Turn = c.args.turns.now in
      let all : take c.loop-turn.turn-index turns ≡ turns = take_all c.loop-turn.turn-index turns (omega arith) in
      record {
        meet = subst (λ (ts : List Turn). All (TurnMeets p c.args.lines.now) ts) all c.loop-turn.invariant.meet;
        into = λ m lt. omega (arith, (rw all at c.loop-turn.invariant.into) m lt);
        out = λ m lt. omega (arith, (rw all at c.loop-turn.invariant.out) m lt);
      },
  λ fit. refl,
)
