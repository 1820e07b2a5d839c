-- Where the forced chains of a leaf end.
use Rattle.std.specs.Prelude.{ℕ, ◌<◌, ◌⊎◌, List, length, Option, Some, None}
use Rattle.fp_model.specs.declared.parts.Leg.{Leg}
use Rattle.fp_model.specs.Numbered.{shipment_at}
use Rattle.fp_allowed.specs.declared.chain_ends.ChainEnd.{ChainEnd}
use Rattle.fp_allowed.specs.declared.chain_ends.ChainEnd.TheVariants as end
use Rattle.fp_allowed.specs.Allowed.{IsForcedChain}
use Rattle.fp_allowed.specs.Bits.{allowed_in}
use Rattle.fp_allowed.specs.Chains.{EndsAs}
use Rattle.fp_prices.specs.Rounds.{LeafModel}
use Rattle.fp_session.specs.declared.dividing.Several.{Several}

-- the terminal where a chain ends with several ways to go, if it ends so
abbrev pub several_terminal : ChainEnd → Option ℕ
several_terminal (end.Several terminal) = Some terminal
several_terminal end.Reached = None
several_terminal (end.Stuck terminal) = None

-- a shipment has several ways to go at a terminal, where its forced chain ends
pub record IsSeveral (l : LeafModel) (s : Several) : Type 0 where
  pub exists : s.shipment < length l.setting.problem.shipments
  pub terminal : s.terminal < length l.setting.problem.terminals
  pub chain : List Leg
  pub forced : IsForcedChain l.setting.problem (allowed_in l.setting l.sides s.shipment) (shipment_at l.setting.problem s.shipment) chain
  pub ends : EndsAs l.setting.problem (allowed_in l.setting l.sides s.shipment) (shipment_at l.setting.problem s.shipment) chain (end.Several s.terminal)

-- the forced chain of a shipment ends elsewhere: at the destination, or where no way is left
pub record EndsElsewhere (l : LeafModel) (shipment : ℕ) : Type 0 where
  pub chain : List Leg
  pub forced : IsForcedChain l.setting.problem (allowed_in l.setting l.sides shipment) (shipment_at l.setting.problem shipment) chain
  pub ends : EndsAs l.setting.problem (allowed_in l.setting l.sides shipment) (shipment_at l.setting.problem shipment) chain end.Reached
      ⊎ ((terminal : ℕ) × EndsAs l.setting.problem (allowed_in l.setting l.sides shipment) (shipment_at l.setting.problem shipment) chain (end.Stuck terminal))

-- so do those of the first so many shipments
abbrev pub NoneSeveral : LeafModel → ℕ → Type 0
NoneSeveral l n = (shipment : ℕ) → shipment < n → EndsElsewhere l shipment
