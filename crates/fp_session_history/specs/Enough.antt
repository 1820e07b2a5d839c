-- Budgets that are never used up.
use Rattle.std.specs.Prelude.{ℕ, ◌+◌, ◌*◌, ◌^◌, ◌≤◌, ◌≡◌, [], length}
use Rattle.fp_model.specs.Problem.{IsValid, Problem, horizon}
use Rattle.fp_flatnet.specs.Belonging.{BelongsTo}
use Rattle.fp_flatnet.specs.Tables.{WindowTable, windows_in}
use Rattle.fp_certificate_lines.specs.declared.certificates.Answer.TheVariants.{Unfinished}
use Rattle.fp_certificate_lines.specs.declared.certificates.Spent.TheVariants.{Branches, Rounds}
use Rattle.fp_session_history.specs.declared.budgets.Budget.{Budget}
use Rattle.fp_session_history.specs.Divisions.{division_slack}
use Rattle.fp_session_history.specs.Solutions.{IsEarnedSolution, Solution}

-- where the rounds are at least the terminals times one more than the latest due time, they aren't
-- all used
abbrev pub EnoughRounds : Type 0
EnoughRounds = (p : Problem) (table : WindowTable) (budget : Budget) (started : ℕ) (s : Solution) → BelongsTo p table → IsEarnedSolution p table budget started s →
    length p.terminals * (horizon p.shipments + 1) ≤ budget.rounds → (cost bound : ℕ) → s.certificate.answer ≡ Unfinished cost bound Rounds → ⊥

-- where the branches are at least 2 to the power of how often leaves can be divided, they aren't all used: of the slack, and where the
-- search has a unit of that and the slack of the trucks together
abbrev pub EnoughBranches : Type 0
EnoughBranches = (p : Problem) (table : WindowTable) (budget : Budget) (started : ℕ) (s : Solution) → IsValid p → IsEarnedSolution p table budget started s →
    2 ^ division_slack s.certificate.unit p (windows_in table) [] ≤ budget.branches → (cost bound : ℕ) → s.certificate.answer ≡ Unfinished cost bound Branches → ⊥
