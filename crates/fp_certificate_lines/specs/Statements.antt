-- A certificate as contracts see it. Certificates and their lines are this project's own.
use Rattle.std.specs.Prelude.{ℕ, List, Bool, Option}
use Rattle.fp_prices.specs.Shares.{ClassShare}
use Rattle.fp_prices_spans.specs.Spans.{ClassSpan}
use Rattle.fp_prices_gifts.specs.declared.gifts.Gift.{Gift}
use Rattle.fp_timenodes.specs.declared.places.AddedPoint.{AddedPoint}
use Rattle.fp_timetable.specs.declared.lines.LegLine.{LegLine}
use Rattle.fp_timetable.specs.declared.lines.TruckLine.{TruckLine}
use Rattle.fp_certificate_lines.specs.declared.certificates.Answer.{Answer}
use Rattle.fp_certificate_lines.specs.declared.certificates.Node.{Node}

-- what is claimed, the scale of prices and the unit of costs if they are named, the plan's legs and
-- departures, the added points, the tables of prices with the spans and the gifts beside each and
-- whether leaves are priced by moments by it, and the tree of the search in preorder
pub record Statement : Type 0 where
  pub answer : Answer
  pub scale : Option ℕ
  pub unit : Option ℕ
  pub legs : List LegLine
  pub trucks : List TruckLine
  pub points : List AddedPoint
  pub tables : List (List ClassShare)
  pub spans : List (List ClassSpan)
  pub gifts : List (List Gift)
  pub moments : List Bool
  pub tree : List Node
