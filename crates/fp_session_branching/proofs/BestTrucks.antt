-- The best arcs to split a leaf by their trucks, arc by arc.
use Rattle.std.proofs.Common.{◌≡◌, ℕ, ◌≤◌, List, [], ◌∷◌, length, map, take, sym, subst, arith}
use Rattle.std.specs.Prelude.{All, insert}
use Rattle.std.specs.List.{AllByRecursion}
use Rattle.std.proofs.lemmas.List.{length-map, length-take}
use Rattle.std.proofs.lemmas.List.Elements.{All-cons, All-from_recursion, All-take, recursion_from_All}
use Rattle.std.proofs.lemmas.List.Sorted.{All-permutation, IsPermutation-insert}
use Rattle.fp_prices.specs.Rounds.{LeafModel}
use Rattle.fp_session_branching.specs.declared.truck_splits.RankedTrucks.{RankedTrucks}
use Rattle.fp_session_branching.specs.declared.truck_splits.TruckCandidate.{TruckCandidate}
use Rattle.fp_session_branching.specs.Trucks.{AreBestTrucks, DividesBy, trucks_in}

-- one that is put in
pub best_trucks-put : (l : LeafModel) (most place : ℕ) (old new : List RankedTrucks) (next : RankedTrucks) → new ≡ take most (insert old place next) → DividesBy l next.candidate → AreBestTrucks l most old → AreBestTrucks l most new
best_trucks-put l most place old new next is divides so_far =
    let Divides : RankedTrucks → Type 0 = λ r. DividesBy l r.candidate in
    subst (λ (ranked : List RankedTrucks). AreBestTrucks l most ranked) (sym is) (record {
      each = All-take Divides most (insert old place next) (All-permutation Divides (next ∷ old) (insert old place next) (IsPermutation-insert old place next) (All-cons Divides next old divides so_far.each));
      few = omega (arith, length-take most (insert old place next));
    })

-- the candidates alone
pub best_trucks-each : (l : LeafModel) (most : ℕ) (ranked : List RankedTrucks) → AreBestTrucks l most ranked → All (DividesBy l) (map trucks_in ranked)
best_trucks-each l most ranked best = All-from_recursion (DividesBy l) (map trucks_in ranked) (alone ranked (recursion_from_All (λ (r : RankedTrucks). DividesBy l r.candidate) ranked best.each))
  where
    alone : (rs : List RankedTrucks) → AllByRecursion (λ (r : RankedTrucks). DividesBy l r.candidate) rs → AllByRecursion (DividesBy l) (map trucks_in rs)
    alone [] all = tt
    alone (r ∷ rs) all = (all.0, alone rs all.1)

pub best_trucks-few : (l : LeafModel) (most : ℕ) (ranked : List RankedTrucks) → AreBestTrucks l most ranked → length (map trucks_in ranked) ≤ most
best_trucks-few l most ranked best = omega (arith, best.few, length-map ranked trucks_in)
