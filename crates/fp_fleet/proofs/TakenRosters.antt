-- Begins and turns that are taken off the trucks of lines, and leave none lacking, are a roster.
use Rattle.std.proofs.Common.{◌≡◌, ℕ, ◌+◌, ◌<◌, List, [], ◌++◌, length, get_or, map, take, drop, take_all, refl, ap, ◌∙◌, subst, arith, append-nil}
use Rattle.std.specs.Prelude.{All}
use Rattle.std.proofs.Math.ListN.{drop_of_length-le, length-map}
use Rattle.fp_base_lists.proofs.Maps.{get_or-map_default}
use Rattle.fp_model.specs.Problem.{Problem}
use Rattle.fp_timetable.specs.declared.lines.TruckLine.{TruckLine}
use Rattle.fp_timetable.specs.Order.{no_line}
use Rattle.fp_fleet.specs.declared.fleets.Begin.{Begin}
use Rattle.fp_fleet.specs.declared.fleets.Turn.{Turn}
use Rattle.fp_fleet.specs.Counts.{begin_count, into_count}
use Rattle.fp_fleet.specs.Fits.{BeginsFit, TurnsFit}
use Rattle.fp_fleet.specs.Fleets.{BeginExists}
use Rattle.fp_fleet.specs.Rosters.{line_at}
use Rattle.fp_fleet.proofs.CountedRosters.{CountAsRoster}

-- the trucks of each line
abbrev pub trucks_of : List TruckLine → List ℕ
trucks_of lines = map (λ (t : TruckLine). t.trucks) lines

pub trucks_of-at : (lines : List TruckLine) (m : ℕ) → get_or (trucks_of lines) m 0 ≡ (line_at lines m).trucks
trucks_of-at lines m = get_or-map_default (λ (t : TruckLine). t.trucks) lines m no_line

-- what lines lack where begins have their trucks
abbrev pub AreBegun : List TruckLine → List Begin → List ℕ → Type 0
AreBegun lines begins lacking = (m : ℕ) → m < length lines → get_or lacking m 0 + begin_count begins m ≡ (line_at lines m).trucks

-- and what they lack then where turns have theirs
abbrev pub AreTurned : List TruckLine → List Turn → (lacking left : List ℕ) → Type 0
AreTurned lines turns lacking left = (m : ℕ) → m < length lines → get_or left m 0 + into_count turns m ≡ get_or lacking m 0

pub CountAsRoster-taken : (p : Problem) (lines : List TruckLine) (begins : List Begin) (turns : List Turn) (lacking left : List ℕ) →
    BeginsFit (trucks_of lines) begins → AreBegun lines begins lacking → TurnsFit p lines lacking (trucks_of lines) turns → AreTurned lines turns lacking left →
    ((m : ℕ) → m < length lines → get_or left m 0 ≡ 0) → CountAsRoster p lines begins turns
CountAsRoster-taken p lines begins turns lacking left begins_fit begun turns_fit turned none =
    let long : length (trucks_of lines) ≡ length lines = rw length-map refl in
    record {
      exist = subst (λ (n : ℕ). All (BeginExists n) begins) long begins_fit.exist;
      meet = turns_fit.meet;
      into = λ m lt. omega (arith, begun m lt, turned m lt, none m lt);
      out = λ l lt. omega (arith, turns_fit.out l lt, trucks_of-at lines l);
    }

pub TurnsFit-counted : (p : Problem) (lines : List TruckLine) (begins : List Begin) (turns : List Turn) (lacking : List ℕ) → CountAsRoster p lines begins turns →
    AreBegun lines begins lacking → TurnsFit p lines lacking (trucks_of lines) turns
TurnsFit-counted p lines begins turns lacking counts begun = record {
  meet = counts.meet;
  into = λ m lt. omega (arith, counts.into m lt, begun m lt);
  out = λ l lt. omega (arith, counts.out l lt, trucks_of-at lines l);
}

pub none-left : (p : Problem) (lines : List TruckLine) (begins : List Begin) (turns : List Turn) (lacking left : List ℕ) → CountAsRoster p lines begins turns →
    AreBegun lines begins lacking → AreTurned lines turns lacking left → (m : ℕ) → m < length lines → get_or left m 0 ≡ 0
none-left p lines begins turns lacking left counts begun turned m lt = omega (arith, counts.into m lt, begun m lt, turned m lt)

-- a vector whose items were lent whole has what was written
pub whole : {X : Type 0} (n : ℕ) (xs ys : List X) → length xs ≡ length ys → n ≡ length ys → take n (xs ++ drop (length xs) ys) ≡ xs
whole {X} n xs ys same all =
    let rest : drop (length xs) ys ≡ [] = drop_of_length-le ys (omega (arith, same)) in
    let joined : xs ++ drop (length xs) ys ≡ xs = ap (λ (zs : List X). xs ++ zs) rest ∙ append-nil xs in
    ap (take n) joined ∙ take_all n xs (omega (arith, same, all))
