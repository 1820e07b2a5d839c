-- The best candidates, shipment by shipment.
use Rattle.std.proofs.Common.{◌≡◌, ◌≢◌, ℕ, ◌+◌, ◌<◌, ◌≤◌, List, [], ◌∷◌, length, map, take, ⊎_elim, refl, sym, ap, subst, arith}
use Rattle.std.specs.Prelude.{All, insert}
use Rattle.std.specs.List.{AllByRecursion}
use Rattle.std.proofs.lemmas.Bool.{cases_lt}
use Rattle.std.proofs.lemmas.List.{length-map, length-take, take-map}
use Rattle.std.proofs.lemmas.List.Edits.{length-insert}
use Rattle.std.proofs.lemmas.List.Elements.{All-cons, All-from_recursion, All-take, All-weaker, recursion_from_All}
use Rattle.std.proofs.lemmas.List.Sorted.{All-permutation, IsPermutation-insert}
use Rattle.fp_base_lists.specs.Distinct.{AreDistinct}
use Rattle.fp_base_lists.proofs.Maps.{map-insert}
use Rattle.fp_prices.specs.Rounds.{LeafModel}
use Rattle.fp_session_branching.specs.declared.leaf_candidates.Candidate.{Candidate}
use Rattle.fp_session_branching.specs.declared.ranks.Ranked.{Ranked}
use Rattle.fp_session_branching.specs.Best.{AreBest, candidate_in, shipment_in}
use Rattle.fp_session_branching.specs.Candidates.{EndsInSeveral, IsCandidate, shipment_of}
use Rattle.fp_session_branching.proofs.DistinctInsertions.{AreDistinct-insert, AreDistinct-take}

-- what is asked of each candidate among the shipments with numbers below n
abbrev IsOne : LeafModel → ℕ → Ranked → Type 0
IsOne l n r = IsCandidate l r.candidate × (shipment_in r < n)

-- a shipment whose chain ends otherwise
pub best_same : (l : LeafModel) (n most : ℕ) (ranked : List Ranked) → ((terminal : ℕ) → EndsInSeveral l n terminal → ⊥) → AreBest l n most ranked → AreBest l (n + 1) most ranked
best_same l n most ranked none so_far = record {
  each = All-weaker (IsOne l n) (IsOne l (n + 1)) (λ r is. (is.0, omega (arith, is.1))) ranked so_far.each;
  apart = so_far.apart;
  few = so_far.few;
  some = λ room k terminal before ends.
      ⊎_elim
      (λ (earlier : k < n). so_far.some room k terminal earlier ends)
      (λ (late : n ≤ k). let same : k ≡ n = omega (arith, late, before) in absurd (none terminal (subst (λ (i : ℕ). EndsInSeveral l i terminal) same ends)))
      (cases_lt k n);
}

-- one that is put in
pub best_more : (l : LeafModel) (n most place : ℕ) (old new : List Ranked) (next : Ranked) → place ≤ length old → new ≡ take most (insert old place next) → IsCandidate l next.candidate → shipment_in next ≡ n →
    AreBest l n most old → AreBest l (n + 1) most new
best_more l n most place old new next within is candidate here so_far =
    subst (λ (ranked : List Ranked). AreBest l (n + 1) most ranked) (sym is) (record {
      each = All-take (IsOne l (n + 1)) most more
          (All-permutation (IsOne l (n + 1)) (next ∷ old) more (IsPermutation-insert old place next)
          (All-cons (IsOne l (n + 1)) next old (candidate, omega (arith, here)) (All-weaker (IsOne l n) (IsOne l (n + 1)) (λ r one. (one.0, omega (arith, one.1))) old so_far.each)));
      apart = subst AreDistinct (take-map shipment_in most more)
          (AreDistinct-take most (map shipment_in more)
          (subst AreDistinct (sym (map-insert shipment_in old place next)) (AreDistinct-insert (map shipment_in old) place (shipment_in next) (others old (recursion_from_All (IsOne l n) old so_far.each)) so_far.apart)));
      few = omega (arith, length-take most more);
      some = λ room k terminal before ends. omega (arith, room, length-take most more, length-insert old place next within);
    })
  where
    more : List Ranked
    more = insert old place next

    others : (ranked : List Ranked) → AllByRecursion (IsOne l n) ranked → AllByRecursion (λ k. k ≢ shipment_in next) (map shipment_in ranked)
    others [] all = tt
    others (r ∷ ranked) all = (λ same. absurd (omega (arith, all.0.1, same, here)), others ranked all.1)

-- the candidates alone
pub record AreListed (l : LeafModel) (n most : ℕ) (list : List Candidate) : Type 0 where
  pub each : All (IsCandidate l) list
  pub apart : AreDistinct (map shipment_of list)
  pub few : length list ≤ most
  pub some : 1 ≤ most → (k terminal : ℕ) → k < n → EndsInSeveral l k terminal → 1 ≤ length list

pub best_listed : (l : LeafModel) (n most : ℕ) (ranked : List Ranked) → AreBest l n most ranked → AreListed l n most (map candidate_in ranked)
best_listed l n most ranked best = record {
  each = All-from_recursion (IsCandidate l) (map candidate_in ranked) (candidates ranked (recursion_from_All (IsOne l n) ranked best.each));
  apart = subst AreDistinct (sym (shipments ranked)) best.apart;
  few = omega (arith, best.few, length-map ranked candidate_in);
  some = λ room k terminal before ends. omega (arith, best.some room k terminal before ends, length-map ranked candidate_in);
}
  where
    candidates : (rs : List Ranked) → AllByRecursion (IsOne l n) rs → AllByRecursion (IsCandidate l) (map candidate_in rs)
    candidates [] all = tt
    candidates (r ∷ rs) all = (all.0.0, candidates rs all.1)

    shipments : (rs : List Ranked) → map shipment_of (map candidate_in rs) ≡ map shipment_in rs
    shipments [] = refl
    shipments (r ∷ rs) = ap (λ (ks : List ℕ). shipment_in r ∷ ks) (shipments rs)
