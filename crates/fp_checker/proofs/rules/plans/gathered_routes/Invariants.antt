use Rattle.std.proofs.Common.{◌≡◌, ℕ, ◌<◌, length, take}
use Rattle.fp_base_lists.specs.Vectors.{lists_of}
use Rattle.fp_model.specs.Numbered.{route_at}
use Rattle.fp_timetable.specs.Lines.{route_of}
use Rattle.fp_checker.proofs.rules.plans.gathered_routes.Given as goal

-- each route has the legs of the lines that were passed
abbrev pub invariant-loop-line : goal.invariant-loop-line
invariant-loop-line l = record {
  long : length l.routes.items ≡ l.count;
  each : (k : ℕ) → k < l.count → route_at (lists_of l.routes.items) k ≡ route_of (take l.line-index l.legs) k;
}
