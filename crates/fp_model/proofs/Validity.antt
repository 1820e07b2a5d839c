-- What validity of an instance says of an arc or a terminal with a number.
use Rattle.std.proofs.Common.{◌≡◌, ℕ, ◌<◌, ◌≤◌, length, arith, ⊎_elim}
use Rattle.std.proofs.lemmas.Bool.{cases_lt}
use Rattle.std.proofs.lemmas.List.{get_or_past}
use Rattle.fp_model.specs.declared.limits.TheConstants.{GREATEST_HOLD}
use Rattle.fp_model.specs.Problem.{IsArc, IsValid, Problem, arc_at, hold_at, no_arc}

-- an arc of a valid instance
pub IsArc-valid : (p : Problem) (a : ℕ) → IsValid p → a < length p.arcs → IsArc (length p.terminals) (arc_at p a)
IsArc-valid p a valid exists = valid.parts.arcs a no_arc exists

-- no hold is longer than the greatest, also where there is no such terminal
pub hold_at-le : (p : Problem) (terminal : ℕ) → IsValid p → hold_at p terminal ≤ GREATEST_HOLD
hold_at-le p terminal valid =
    ⊎_elim
    (λ (inside : terminal < length p.holds). valid.parts.holds terminal 0 inside)
    (λ (past : length p.holds ≤ terminal).
    let none : hold_at p terminal ≡ 0 = get_or_past p.holds terminal 0 past in
    omega (arith, none))
    (cases_lt terminal (length p.holds))
