-- How a forced chain ends.
use Rattle.std.specs.Prelude.{ℕ, ◌≡◌, ◌≢◌, ◌<◌, ◌⊎◌, List, [], ◌∷◌, length, map, Bool, true, All, Contains}
use Rattle.std.specs.List.{AllByRecursion}
use Rattle.fp_model.specs.declared.parts.Leg.{Leg}
use Rattle.fp_model.specs.declared.parts.Shipment.{Shipment}
use Rattle.fp_model.specs.Problem.{Problem, arc_at}
use Rattle.fp_allowed.specs.declared.chain_ends.ChainEnd.{ChainEnd}
use Rattle.fp_allowed.specs.declared.chain_ends.ChainEnd.TheVariants.{Reached, Several, Stuck}
use Rattle.fp_longestarcs.specs.Networks.{TimedNetwork, class_count}
use Rattle.fp_allowed.specs.Allowed.{IsForcedChain, tails_of}
use Rattle.fp_allowed.specs.ForcedChains.{ForcedChain}
use Rattle.fp_allowed.specs.Listing.{classes_at}

-- no allowed class leaves here
abbrev pub NoneLeaves : Problem → (Leg → Bool) → ℕ → Type 0
NoneLeaves p allowed here = (c : Leg) → allowed c ≡ true → tails_of p c.arc ≡ here → ⊥

-- at least two allowed classes leave here
pub record SeveralLeave (p : Problem) (allowed : Leg → Bool) (here : ℕ) : Type 0 where
  pub one : Leg
  pub two : Leg
  pub one_allowed : allowed one ≡ true
  pub two_allowed : allowed two ≡ true
  pub one_leaves : tails_of p one.arc ≡ here
  pub two_leaves : tails_of p two.arc ≡ here
  pub differ : one ≢ two

-- where a chain of classes that begins here ends
abbrev pub chain_stop : Problem → ℕ → List Leg → ℕ
chain_stop p here [] = here
chain_stop p here (c ∷ chain) = chain_stop p (arc_at p c.arc).to chain

-- the terminals that the classes leave
abbrev pub terminals_left : Problem → List Leg → List ℕ
terminals_left p chain = map (λ (c : Leg). tails_of p c.arc) chain

-- how the forced chain of a shipment ends: at the destination, where several classes are allowed,
-- or where none is or the terminal was met before
abbrev pub EndsAs : Problem → (Leg → Bool) → Shipment → List Leg → ChainEnd → Type 0
EndsAs p allowed s chain Reached = chain_stop p s.from chain ≡ s.to
EndsAs p allowed s chain (Several terminal) =
    (chain_stop p s.from chain ≡ terminal) × (terminal ≢ s.to) × AllByRecursion (λ t. t ≢ terminal) (terminals_left p chain) × SeveralLeave p allowed terminal
EndsAs p allowed s chain (Stuck terminal) =
    (chain_stop p s.from chain ≡ terminal) × (terminal ≢ s.to) × (Contains (terminals_left p chain) terminal ⊎ NoneLeaves p allowed terminal)

-- where the chain does not reach the destination, it ends at a terminal that exists
abbrev pub EndsAtTerminal : Problem → ChainEnd → Type 0
EndsAtTerminal p Reached = Unit {0}
EndsAtTerminal p (Several terminal) = terminal < length p.terminals
EndsAtTerminal p (Stuck terminal) = terminal < length p.terminals

-- the numbers are those of the forced chain of a shipment, which ends so
pub record IsForced (p : Problem) (net : TimedNetwork) (allowed : Leg → Bool) (s : Shipment) (chain : ForcedChain) : Type 0 where
  pub forced : IsForcedChain p allowed s (classes_at net chain.classes)
  pub ends : EndsAs p allowed s (classes_at net chain.classes) chain.end
  pub within : All (λ n. n < class_count net) chain.classes
  pub terminal : EndsAtTerminal p chain.end
