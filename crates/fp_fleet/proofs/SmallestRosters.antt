-- Deficits of distinct terminals sum to no more than the size of any roster.
use Rattle.std.proofs.Common.{◌≡◌, ℕ, ◌<◌, ◌≤◌, Bool, true, false, ◌&&◌, List, [], ◌∷◌, length, get_or, map, arith}
use Rattle.std.proofs.Math.ListN.{length-map}
use Rattle.std.specs.Prelude.{◌==◌, nat_le, All, sum_by, if◌then◌else◌}
use Rattle.std.proofs.lemmas.List.{get_or-map as get_or_map}
use Rattle.std.proofs.lemmas.List.Elements.{All-head, All-tail}
use Rattle.std.proofs.lemmas.List.Sums.{sum_by-cons}
use Rattle.fp_base_lists.specs.Below.{sum_below}
use Rattle.fp_base_lists.specs.Distinct.{AreDistinct}
use Rattle.fp_base_lists.proofs.DistinctSums.{sum_by-one-le}
use Rattle.fp_base_lists.proofs.Sums.{sum_by-map}
use Rattle.fp_model.specs.Problem.{Problem}
use Rattle.fp_timetable.specs.declared.lines.TruckLine.{TruckLine}
use Rattle.fp_fleet.specs.declared.fleets.Need.{Need}
use Rattle.fp_fleet.specs.Deficits.{IsDeficit, leaves_by}
use Rattle.fp_fleet.specs.Fleets.{AreDeficits, NeedsAscend}
use Rattle.fp_fleet.specs.Rosters.{IsRoster, NoRosterSmaller, line_at, roster_size, tail_of}
use Rattle.fp_fleet.proofs.NumberSums.{sum_by-sum_below}
use Rattle.fp_fleet.proofs.RosterBounds.{begun_by, leaving-le}
use Rattle.fp_base_lists.proofs.SumsBelow.{sum_below-le}

-- the trucks that begin with lines that leave the terminal
abbrev pub begun_at : Problem → List TruckLine → (ℕ → ℕ) → ℕ → ℕ
begun_at p lines begins terminal = sum_below (length lines) (λ m. if tail_of p (line_at lines m) == terminal then begins m else 0)

kept-le : (a b : Bool) (n : ℕ) → (if a && b then n else 0) ≤ (if a then n else 0)
kept-le true true n = omega arith
kept-le true false n = omega arith
kept-le false b n = omega arith

pub begun_by-le : (p : Problem) (lines : List TruckLine) (begins : ℕ → ℕ) (terminal moment : ℕ) →
    begun_by p lines begins terminal moment ≤ begun_at p lines begins terminal
begun_by-le p lines begins terminal moment =
    sum_below-le (length lines) (λ m. if leaves_by p terminal moment (line_at lines m) then begins m else 0)
    (λ m. if tail_of p (line_at lines m) == terminal then begins m else 0)
    (λ m lt. kept-le (tail_of p (line_at lines m) == terminal) (nat_le (line_at lines m).depart moment) (begins m))

-- trucks that begin at distinct terminals are no more than all
begun-le-size : (p : Problem) (lines : List TruckLine) (begins : ℕ → ℕ) (terminals : List ℕ) → AreDistinct terminals →
    sum_by (begun_at p lines begins) terminals ≤ roster_size (length lines) begins
begun-le-size p lines begins terminals distinct =
    let n : ℕ = length lines in
    let tail : ℕ → ℕ = λ m. tail_of p (line_at lines m) in
    omega (
      arith,
      sum_by-sum_below n (λ v m. if tail m == v then begins m else 0) terminals,
      sum_below-le n (λ m. sum_by (λ v. if tail m == v then begins m else 0) terminals) begins (λ m lt. sum_by-one-le (tail m) (begins m) terminals distinct),
    )

-- each deficit is of trucks that begin at its terminal
deficits-le : (p : Problem) (lines : List TruckLine) (begins : ℕ → ℕ) (turns : ℕ → ℕ → ℕ) (needs : List Need) → IsRoster p lines begins turns → All (IsDeficit p lines) needs →
    sum_by (λ (n : Need). n.trucks) needs ≤ sum_by (λ (n : Need). begun_at p lines begins n.terminal) needs
deficits-le p lines begins turns [] roster deficits = omega arith
deficits-le p lines begins turns (n ∷ needs) roster deficits =
    let here : IsDeficit p lines n = All-head (IsDeficit p lines) n needs deficits in
    omega (
      arith,
      here.deficit,
      leaving-le p lines begins turns n.terminal n.at roster,
      begun_by-le p lines begins n.terminal n.at,
      deficits-le p lines begins turns needs roster (All-tail (IsDeficit p lines) n needs deficits),
      sum_by-cons (λ (m : Need). m.trucks) n needs,
      sum_by-cons (λ (m : Need). begun_at p lines begins m.terminal) n needs,
    )

-- needs that ascend are of distinct terminals
distinct-terminals : (needs : List Need) → NeedsAscend needs → AreDistinct (map (λ (n : Need). n.terminal) needs)
distinct-terminals needs ascend i j d less lt same =
    let none : Need = record { terminal = 0; trucks = 0; at = 0 } in
    let short : j < length needs = rw length-map at lt in
    let before : (get_or needs i none).terminal < (get_or needs j none).terminal = ascend i j none less short in
    let first : get_or (map (λ (n : Need). n.terminal) needs) i d ≡ (get_or needs i none).terminal =
    get_or_map (λ (n : Need). n.terminal) needs i none d (omega (arith, less, short)) in
    let second : get_or (map (λ (n : Need). n.terminal) needs) j d ≡ (get_or needs j none).terminal = get_or_map (λ (n : Need). n.terminal) needs j none d short in
    omega (arith, before, first, second, same)

-- no roster is smaller than deficits that sum to a total
pub NoRosterSmaller-deficits : (p : Problem) (lines : List TruckLine) (total : ℕ) (needs : List Need) → AreDeficits p lines total needs → NoRosterSmaller p lines total
NoRosterSmaller-deficits p lines total needs are = λ begins turns roster.
    omega (
      arith,
      are.sum,
      deficits-le p lines begins turns needs roster are.deficits,
      sum_by-map (begun_at p lines begins) (λ (n : Need). n.terminal) needs,
      begun-le-size p lines begins (map (λ (n : Need). n.terminal) needs) (distinct-terminals needs are.ascend),
    )
