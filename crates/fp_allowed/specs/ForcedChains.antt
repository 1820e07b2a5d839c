-- What a contract sees of a chain.
use Rattle.std.specs.Prelude.{ℕ, List}
use Rattle.fp_allowed.specs.declared.chain_ends.ChainEnd.{ChainEnd}

-- the numbers of the classes in order, and how the chain ends
pub record ForcedChain : Type 0 where
  pub classes : List ℕ
  pub end : ChainEnd
