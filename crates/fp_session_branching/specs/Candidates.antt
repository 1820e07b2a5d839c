-- Which shipments a leaf may be split by.
use Rattle.std.specs.Prelude.{ℕ, ◌≡◌, ◌<◌, List, length}
use Rattle.fp_model.specs.declared.parts.Leg.{Leg}
use Rattle.fp_model.specs.Numbered.{shipment_at}
use Rattle.fp_flatnet.specs.Tables.{windows_in}
use Rattle.fp_allowed.specs.declared.chain_ends.ChainEnd.TheVariants.{Several}
use Rattle.fp_allowed.specs.Allowed.{IsForcedChain}
use Rattle.fp_allowed.specs.Bits.{allowed_in}
use Rattle.fp_allowed.specs.Chains.{EndsAs}
use Rattle.fp_allowed.specs.Choices.{IsTaken}
use Rattle.fp_allowed.specs.Departures.{DividesDepartures, IsSplitAt}
use Rattle.fp_prices.specs.Rounds.{LeafModel}
use Rattle.fp_session_branching.specs.declared.leaf_candidates.Candidate.{Candidate}

-- the forced chain of the shipment with the number k ends at a terminal that several allowed classes leave
pub record EndsInSeveral (l : LeafModel) (k terminal : ℕ) : Type 0 where
  pub exists : k < length l.setting.problem.shipments
  pub chain : List Leg
  pub forced : IsForcedChain l.setting.problem (allowed_in l.setting l.sides k) (shipment_at l.setting.problem k) chain
  pub ends : EndsAs l.setting.problem (allowed_in l.setting l.sides k) (shipment_at l.setting.problem k) chain (Several terminal)

-- a candidate's chain ends so at its terminal, and its split is the one that is taken there: each side leaves the shipment some of its departures
pub record IsCandidate (l : LeafModel) (c : Candidate) : Type 0 where
  pub ends : EndsInSeveral l c.shipment c.terminal
  pub at : IsSplitAt l.setting.problem c.shipment c.terminal c.split
  pub divides : DividesDepartures l.setting.problem (windows_in l.setting.windows) l.sides c.shipment c.terminal c.split
  pub taken : IsTaken l.setting.problem (windows_in l.setting.windows) l.setting.network (allowed_in l.setting l.sides c.shipment) c.shipment c.terminal c.split

-- one of the shipment with the number k
abbrev pub IsCandidateFor : LeafModel → ℕ → Candidate → Type 0
IsCandidateFor l k c = IsCandidate l c × (c.shipment ≡ k)

-- the shipment of a candidate
abbrev pub shipment_of : Candidate → ℕ
shipment_of c = c.shipment
