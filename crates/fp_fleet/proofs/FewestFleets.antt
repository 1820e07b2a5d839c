-- Lines that are served, with the needs of a table, are a fleet that none undercuts.
use Rattle.std.proofs.Common.{◌≡◌, ℕ, ◌<◌, ◌^◌, List, length, sym, ap, ◌∙◌, subst, arith}
use Rattle.std.specs.Prelude.{All, nat_lt, sum_by}
use Rattle.std.specs.List.{filter}
use Rattle.std.specs.List.Sorted.{IsNonDecreasingBy, IsPermutation}
use Rattle.std.proofs.lemmas.List.Elements.{All-weaker}
use Rattle.fp_model.specs.Problem.{IsValid, Problem}
use Rattle.fp_timetable.specs.declared.lines.TruckLine.{TruckLine}
use Rattle.fp_timetable.specs.Lines.{TruckExists}
use Rattle.fp_fleet.specs.declared.arrivals.Arrival.{Arrival}
use Rattle.fp_fleet.specs.declared.fleets.Begin.{Begin}
use Rattle.fp_fleet.specs.declared.fleets.Need.{Need}
use Rattle.fp_fleet.specs.declared.fleets.Turn.{Turn}
use Rattle.fp_fleet.specs.Counts.{begin_count, turn_count}
use Rattle.fp_fleet.specs.Deficits.{IsDeficit, IsGreatestDeficit}
use Rattle.fp_fleet.specs.Fleets.{AreNeeds, AreRoster, Assignment, IsAccepted, IsFewest}
use Rattle.fp_fleet.specs.NeedTables.{IsNeedTable}
use Rattle.fp_fleet.specs.Rows.{IsShowable}
use Rattle.fp_fleet.specs.Sweeps.{AreServed, IsAssigned, IsBeginBelow, IsTimetable, IsTurnTo, turn_rank}
use Rattle.fp_fleet.proofs.CountedRosters.{AreRoster-counted, roster_size-begins, size-le-total}
use Rattle.fp_fleet.proofs.GreatestDeficits.{CountAsRoster-assigned}
use Rattle.fp_fleet.proofs.MetDeficits.{IsDeficit-exists}
use Rattle.fp_fleet.proofs.MovedTurns.{IsAssigned-moved, TurnsAscend-sorted}
use Rattle.fp_fleet.proofs.NeedsInTables.{AreNeeds-table}
use Rattle.fp_fleet.proofs.StrictSums.{sum_by-some}

-- all lines are served where those below their count are
pub IsAssigned-served : (p : Problem) (lines : List TruckLine) (arrivals : List Arrival) (begins : List Begin) (turns : List Turn) (idle heads : List ℕ) →
    AreServed p lines arrivals (length lines) begins turns idle heads → IsAssigned p lines begins turns
IsAssigned-served p lines arrivals begins turns idle heads served = record {
  turn = served.swept.turn;
  once = served.swept.once;
  out = λ l lt. omega (arith, served.swept.out l lt);
  into = served.into;
  begin = served.begin;
  ascend = served.ascend;
  thrifty = served.thrifty;
}

-- the trucks that begin fit their type
pub begins-fit : (p : Problem) (lines : List TruckLine) (begins : List Begin) (turns : List Turn) → IsTimetable p lines → IsAssigned p lines begins turns →
    sum_by (λ (b : Begin). b.count) begins < 2 ^ 128
begins-fit p lines begins turns timetable is =
    let are : AreRoster p lines begins turns = AreRoster-counted p lines begins turns (CountAsRoster-assigned p lines begins turns is) in
    omega (
      arith,
      roster_size-begins (length lines) begins are.begins_exist,
      size-le-total p lines (begin_count begins) (turn_count turns) are.roster,
      timetable.fits,
    )

pub IsFewest-assigned : (p : Problem) (lines : List TruckLine) (begins : List Begin) (turns new : List Turn) (table needs : List Need) (total : ℕ) → IsTimetable p lines →
    IsAssigned p lines begins turns → IsPermutation turns new → IsNonDecreasingBy turn_rank new → IsNeedTable p lines begins table →
    needs ≡ filter (λ (n : Need). nat_lt 0 n.trucks) table → total ≡ sum_by (λ (b : Begin). b.count) begins →
    IsFewest p lines (record { total = total; needs = needs; begins = begins; turns = new })
IsFewest-assigned p lines begins turns new table needs total timetable before moved sorted told kept sum =
    let is : IsAssigned p lines begins new = IsAssigned-moved p lines begins turns new moved before in
    let are : AreRoster p lines begins new = AreRoster-counted p lines begins new (CountAsRoster-assigned p lines begins new is) in
    let shown : AreNeeds p lines needs = subst (AreNeeds p lines) (sym kept) (AreNeeds-table p lines begins new table timetable is told) in
    record {
      accepted = record {
        begins_ascend = is.ascend;
        turns_ascend = TurnsAscend-sorted p lines new timetable.few is.turn is.once sorted;
        roster = are;
        size = roster_size-begins (length lines) begins are.begins_exist ∙ sym sum;
        needs = record {
          ascend = shown.ascend;
          deficits = All-weaker (IsGreatestDeficit p lines) (IsDeficit p lines) (λ n h. h.is) needs shown.greatest;
          sum = ap (sum_by (λ (n : Need). n.trucks)) kept ∙ sum_by-some (λ (n : Need). n.trucks) table ∙ told.sum ∙ sym sum;
        };
      };
      begins = All-weaker (IsBeginBelow (length lines)) (λ (b : Begin). 0 < b.count) (λ b h. h.1) begins is.begin;
      turns = All-weaker (IsTurnTo p lines (length lines)) (λ (t : Turn). 0 < t.count) (λ t h. h.some) new is.turn;
      needs = shown;
    }

-- the terminals and the lines of an accepted fleet exist
pub IsShowable-accepted : (p : Problem) (lines : List TruckLine) (fleet : Assignment) → IsValid p → All (TruckExists p) lines → IsAccepted p lines fleet →
    IsShowable p lines fleet
IsShowable-accepted p lines fleet valid exist accepted = record {
  needs = All-weaker (IsDeficit p lines) (λ (n : Need). n.terminal < length p.terminals) (λ n is. IsDeficit-exists p lines n valid exist is) fleet.needs accepted.needs.deficits;
  begins = accepted.roster.begins_exist;
  turns = accepted.roster.turns_exist;
}
