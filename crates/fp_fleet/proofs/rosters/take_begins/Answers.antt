use Rattle.std.proofs.Common.{◌≡◌, ℕ, ◌<◌, ◌≤◌, List, length, get_or, take, take_all, subst, refl, arith}
use Rattle.std.specs.Prelude.{All}
use Rattle.std.proofs.lemmas.Bool.{both_ways, false≢true}
use Rattle.std.proofs.lemmas.List.Elements.{All-get_or, All-more}
use Rattle.fp_fleet.specs.declared.fleets.Begin.{Begin}
use Rattle.fp_fleet.specs.Fleets.{BeginExists}
use Rattle.fp_fleet.proofs.Takings.{AreTaken-all, AreTaken-more, enough-left}
use Rattle.fp_fleet.proofs.rosters.take_begins.Goals as goal

pub returns-then-not-take-clause-fit : goal.returns-then-not-take-clause-fit
returns-then-not-take-clause-fit c = (
  λ h. absurd (false≢true h),
  λ fit.
      let begins : List Begin = c.args.begins.now in
      let i : ℕ = c.loop-begin.begin-index in
      let none : Begin = record { line = 0; count = 0 } in
      let lt : i < length begins = omega arith in
      let inside : (get_or begins i none).line < length c.args.lacking.now = All-get_or (BeginExists (length c.args.lacking.now)) begins i none lt fit.exist in
      let enough : (get_or begins i none).count ≤ get_or c.loop-begin.lacking (get_or begins i none).line 0 =
      enough-left (λ (b : Begin). b.line) (λ (b : Begin). b.count) begins i none c.args.lacking.now c.loop-begin.lacking lt inside c.loop-begin.invariant.left fit.fit in
      absurd (both_ways c.take.result c.if-not-take.true (c.take.ensures.fits.1 (omega (arith, inside, c.loop-begin.auto.lacking), enough))),
)

pub loop-begin-preserved : goal.loop-begin-preserved
loop-begin-preserved c =
    let begins : List Begin = c.args.begins.now in
    let i : ℕ = c.loop-begin.begin-index in
    let none : Begin = record { line = 0; count = 0 } in
    let lt : i < length begins = omega arith in
    let fits = c.take.ensures.fits.0 c.if-not-take.false in
    record {
      long = omega arith;
      exist = All-more (BeginExists (length c.args.lacking.now)) begins i none lt c.loop-begin.invariant.exist (omega (arith, fits.0, c.loop-begin.auto.lacking));
      left = AreTaken-more (λ (b : Begin). b.line) (λ (b : Begin). b.count) begins i none c.args.lacking.now c.loop-begin.lacking c.take.new.trucks lt c.loop-begin.auto.lacking
          fits.0 fits.1 (c.take.ensures.taken c.if-not-take.false) c.loop-begin.invariant.left;
    }

pub returns-clause-fit : goal.returns-clause-fit
returns-clause-fit c = (
  λ h.
      let begins : List Begin = c.args.begins.now in
      let all : take c.loop-begin.begin-index begins ≡ begins = take_all c.loop-begin.begin-index begins (omega arith) in
      record {
        exist = subst (λ (bs : List Begin). All (BeginExists (length c.args.lacking.now)) bs) all c.loop-begin.invariant.exist;
        fit = AreTaken-all (λ (b : Begin). b.line) (λ (b : Begin). b.count) begins c.args.lacking.now c.loop-begin.lacking (rw all at c.loop-begin.invariant.left);
      },
  λ fit. refl,
)
