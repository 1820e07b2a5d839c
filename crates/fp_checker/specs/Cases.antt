-- A certificate under test.
use Rattle.std.specs.Prelude.{◌-◌, ◌<◌, ◌^◌, List, All, length}
use Rattle.fp_model.specs.Problem.{Problem}
use Rattle.fp_flatnet.specs.Belonging.{BelongsTo}
use Rattle.fp_flatnet.specs.Tables.{WindowTable}
use Rattle.fp_prices.specs.Tables.{AreCountable}
use Rattle.fp_prices_spans.specs.Spans.{ClassSpan}
use Rattle.fp_certificate_lines.specs.Ranges.{IsInRange}
use Rattle.fp_certificate_lines.specs.Statements.{Statement}

-- a certificate, with the instance and the windows that it is tested against
pub record Tested : Type 0 where
  pub problem : Problem
  pub windows : WindowTable
  pub told : Statement

-- the windows belong to the instance, and the certificate is in range
pub record IsTestable (t : Tested) : Type 0 where
  pub belongs : BelongsTo t.problem t.windows
  pub range : IsInRange t.problem t.told

-- the certificate's tables, and the shares and the spans of each, can be counted in 32 bits
pub record HasCountableLists (t : Tested) : Type 0 where
  pub tables : AreCountable t.problem t.told.tables
  pub spans : All (λ (list : List ClassSpan). length list < 2 ^ 32 - 1) t.told.spans
