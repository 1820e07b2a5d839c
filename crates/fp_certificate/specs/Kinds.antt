-- The kinds of a certificate's lines, told by their first fields.
use Rattle.std.specs.Prelude.{ℕ, List, if◌then◌else◌, Option, Some, None, codes}
use Rattle.std.specs.Str.{bytes_eq}
use Rattle.fp_records_fields.specs.Fields.{field, is_kind}
use Rattle.fp_certificate.specs.declared.lines.kinds.LineKind.{LineKind}
use Rattle.fp_certificate.specs.declared.lines.kinds.LineKind.TheVariants as kind

-- the kind of an answer, told by its second field
abbrev pub answer_kind : List ℕ → Option LineKind
answer_kind word =
    if bytes_eq word (codes "direct") then Some kind.Direct
    else if bytes_eq word (codes "optimal") then Some kind.Optimal
    else if bytes_eq word (codes "unfinished") then Some kind.Unfinished
    else if bytes_eq word (codes "infeasible") then Some kind.Infeasible
    else None

-- the kind of a split, told by its second field
abbrev pub split_kind : List ℕ → Option LineKind
split_kind word =
    if bytes_eq word (codes "arc") then Some kind.ByArc
    else if bytes_eq word (codes "time") then Some kind.ByTime
    else if bytes_eq word (codes "trucks") then Some kind.ByTrucks
    else if bytes_eq word (codes "way") then Some kind.ByWay
    else None

-- the kind of a line, if it has one
abbrev pub kind_of : List (List ℕ) → Option LineKind
kind_of fields =
    if is_kind (codes "answer") fields then answer_kind (field fields 1)
    else if is_kind (codes "scale") fields then Some kind.Scale
    else if is_kind (codes "unit") fields then Some kind.Unit
    else if is_kind (codes "leg") fields then Some kind.Leg
    else if is_kind (codes "truck") fields then Some kind.Truck
    else if is_kind (codes "point") fields then Some kind.Point
    else if is_kind (codes "table") fields then Some kind.Table
    else if is_kind (codes "share") fields then Some kind.Share
    else if is_kind (codes "span") fields then Some kind.Span
    else if is_kind (codes "weight") fields then Some kind.Weight
    else if is_kind (codes "group") fields then Some kind.Group
    else if is_kind (codes "gift") fields then Some kind.Gift
    else if is_kind (codes "split") fields then split_kind (field fields 1)
    else if is_kind (codes "leaf") fields then Some kind.Leaf
    else if is_kind (codes "narrow") fields then Some kind.Narrow
    else if is_kind (codes "end") fields then Some kind.End
    else None
