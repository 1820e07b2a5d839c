-- The moments of a span, in runs, and which shipments can leave in a run. The departures that leave in one run are a group.
use Rattle.std.specs.Prelude.{ℕ, ◌≡◌, ◌<◌, List, [], ◌∷◌, length, Bool, true, false, ◌&&◌, Option, Some, None, cond, filter, nat_le, nat_lt}
use Rattle.fp_base_lists.specs.Membership.{list_has}
use Rattle.fp_model.specs.Problem.{Problem, arc_at}
use Rattle.fp_timenodes.specs.Floor.{earlier}
use Rattle.fp_timenodes.specs.Points.{TimePoints, points_at}
use Rattle.fp_flatnet.specs.declared.window_tables.Window.{Window}
use Rattle.fp_prices.specs.declared.tables.Weight.{Weight}
use Rattle.fp_prices_spans.specs.declared.rules.moment_runs.MomentRun.{MomentRun}
use Rattle.fp_prices_spans.specs.Spans.{ClassSpan}

-- the first points of a terminal: those that stand before any round
abbrev pub first_points : TimePoints → ℕ → List ℕ
first_points points terminal = points_at points terminal 0

-- each first point of a terminal of the problem is one of its points: more points are only added later
abbrev pub AreAmong : Problem → (first points : ℕ → List ℕ) → Type 0
AreAmong p first points = (terminal q : ℕ) → terminal < length p.terminals → list_has (first terminal) q ≡ true → list_has (points terminal) q ≡ true

-- the least of some points that is at a moment or after it, if there is one
abbrev pub first_from : List ℕ → ℕ → Option ℕ
first_from [] at = None
first_from (q ∷ qs) at = earlier (cond (nat_le at q) (Some q) None) (first_from qs at)

-- the end of a span's moments: the least first point of its arc's tail that is at `until` or after it; none where there is none, so that
-- the moments go on to the end of time
abbrev pub end_of : Problem → (first : ℕ → List ℕ) → ClassSpan → Option ℕ
end_of p first span = first_from (first (arc_at p span.arc).from) span.until

-- the runs of moments from one on, where further runs begin at these moments and the last has this end
abbrev pub runs_from : ℕ → List ℕ → Option ℕ → List MomentRun
runs_from from [] end = record { from = from; before = end } ∷ []
runs_from from (next ∷ later) end = record { from = from; before = Some next } ∷ runs_from next later end

-- the runs of a span's moments: the first begins at its point, and each group begins a further one
abbrev pub runs_of : Problem → (first : ℕ → List ℕ) → ClassSpan → List MomentRun
runs_of p first span = runs_from span.point span.groups (end_of p first span)

-- whether a moment is before an end; each is where there is none
abbrev pub is_before : ℕ → Option ℕ → Bool
is_before m None = true
is_before m (Some end) = nat_lt m end

-- whether a moment lies in a run
abbrev pub lies_in : MomentRun → ℕ → Bool
lies_in run m = nat_le run.from m && is_before m run.before

-- whether a window, if there is one, has a moment at which a run has begun and one before its end
abbrev pub meets : MomentRun → Option Window → Bool
meets run None = false
meets run (Some w) = nat_le run.from w.hi && is_before w.lo run.before

-- whether the shipment with the number k can leave by an arc in a run
abbrev pub can_leave : (ℕ → ℕ → Option Window) → MomentRun → (arc k : ℕ) → Bool
can_leave windows run arc k = meets run (windows k arc)

-- the weights of a group: those of a span whose shipments can leave in its run
abbrev pub group_weights : (ℕ → ℕ → Option Window) → ClassSpan → MomentRun → List Weight
group_weights windows span run = filter (λ (w : Weight). can_leave windows run span.arc w.shipment) span.weights
