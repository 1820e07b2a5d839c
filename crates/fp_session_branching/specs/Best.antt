-- What is kept of the candidates among the shipments so far.
use Rattle.std.specs.Prelude.{ℕ, ◌<◌, ◌≤◌, List, length, map, All}
use Rattle.fp_base_lists.specs.Distinct.{AreDistinct}
use Rattle.fp_prices.specs.Rounds.{LeafModel}
use Rattle.fp_session_branching.specs.declared.leaf_candidates.Candidate.{Candidate}
use Rattle.fp_session_branching.specs.declared.ranks.Ranked.{Ranked}
use Rattle.fp_session_branching.specs.Candidates.{EndsInSeveral, IsCandidate}

-- the shipment of a candidate with its rank
abbrev pub shipment_in : Ranked → ℕ
shipment_in r = r.candidate.shipment

-- the candidate alone
abbrev pub candidate_in : Ranked → Candidate
candidate_in r = r.candidate

-- some of the candidates among the shipments with numbers below n, at most so many, no shipment twice, and one at least where there are any and one may be kept
pub record AreBest (l : LeafModel) (n most : ℕ) (ranked : List Ranked) : Type 0 where
  pub each : All (λ (r : Ranked). IsCandidate l r.candidate × (shipment_in r < n)) ranked
  pub apart : AreDistinct (map shipment_in ranked)
  pub few : length ranked ≤ most
  pub some : 1 ≤ most → (k terminal : ℕ) → k < n → EndsInSeveral l k terminal → 1 ≤ length ranked
