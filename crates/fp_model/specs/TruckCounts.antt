-- How many trucks of a plan leave by an arc in a run of times.
use Rattle.std.specs.Prelude.{ℕ, ◌*◌, List, Bool, ◌&&◌, nat_eq, nat_le, nat_lt, sum_by, if◌then◌else◌}
use Rattle.fp_model.specs.declared.parts.Leg.{Leg}
use Rattle.fp_model.specs.Problem.{Problem}
use Rattle.fp_model.specs.Costs.{all_legs, distinct, trucks}

-- whether a leg leaves by an arc at a time or later and before another, over the denominator d
abbrev pub leaves_between : ℕ → ℕ → ℕ → ℕ → Leg → Bool
leaves_between d arc point until l = nat_eq arc l.arc && (nat_le (d * point) l.depart && nat_lt l.depart (d * until))

-- the trucks of the distinct departures that leave so
abbrev pub trucks_between : Problem → ℕ → List (List Leg) → ℕ → ℕ → ℕ → ℕ
trucks_between p d routes arc point until =
    sum_by (λ (k : Leg). if leaves_between d arc point until k then trucks p routes k else 0) (distinct (all_legs routes))
