-- What decides which classes are allowed.
use Rattle.fp_model.specs.Problem.{Problem}
use Rattle.fp_flatnet.specs.Belonging.{FitsInstance}
use Rattle.fp_flatnet.specs.Tables.{WindowTable}
use Rattle.fp_longestarcs.specs.Networks.{TimedNetwork}
use Rattle.fp_longestarcs.specs.Whole.{IsWholeNetwork}

-- an instance, windows and a network
pub record Setting : Type 0 where
  pub problem : Problem
  pub windows : WindowTable
  pub network : TimedNetwork

-- the windows fit the instance, and the network is whole for it
pub record IsSetting (s : Setting) : Type 0 where
  pub belongs : FitsInstance s.problem s.windows
  pub whole : IsWholeNetwork s.problem s.network
