-- What is kept from leaf to leaf of a round.
use Rattle.std.specs.Prelude.{◌≡◌, List, false}
use Rattle.fp_model.specs.Problem.{Problem}
use Rattle.fp_timenodes.specs.Points.{TimePoints}
use Rattle.fp_longestarcs.specs.Whole.{IsNetworkOf}
use Rattle.fp_prices.specs.declared.values.round_bounds.RoundBounds.{RoundBounds}
use Rattle.fp_prices.specs.KnownCosts.{AreKnownCosts}
use Rattle.fp_prices.specs.Shares.{ClassShare}

-- the network is the instance's as of the round, and the costs are known at its plain leaves by the kind
pub record AreRoundBounds (p : Problem) (v : TimePoints) (tables : List (List ClassShare)) (bounds : RoundBounds) : Type 0 where
  pub instance : bounds.network.problem ≡ p
  pub network : IsNetworkOf p v bounds.round bounds.network.network
  pub known : AreKnownCosts p bounds.network.network tables bounds.kind false bounds.known.items
