-- Budgets that are never used up.
use Rattle.std.proofs.Common.{◌≡◌, ℕ, suc, ◌*◌, ◌≤◌, List, [], ◌∷◌, length, get_or, refl, ap, subst, arith}
use Rattle.std.proofs.lemmas.Bool.{false≢true}
use Rattle.fp_base_lists.specs.Numbered.{AllZipFrom}
use Rattle.fp_model.specs.declared.parts.Leg.{Leg}
use Rattle.fp_model.specs.declared.parts.Member.{Member}
use Rattle.fp_model.specs.declared.parts.Shipment.{Shipment}
use Rattle.fp_model.specs.Members.{arc_lists}
use Rattle.fp_model.specs.Problem.{IsShipment, IsValid, Problem, horizon}
use Rattle.fp_flatnet.specs.Tables.{WindowTable, windows_in}
use Rattle.fp_tree.specs.Trees.{Branch, Leaf}
use Rattle.fp_relaxmodel.specs.Groups.{AreGroups}
use Rattle.fp_relaxmodel.specs.Relaxed.{IsRelaxedWalk}
use Rattle.fp_dispatch.specs.Times.{HaveTimes}
use Rattle.fp_certificate_lines.specs.declared.certificates.Answer.TheVariants.{Unfinished}
use Rattle.fp_certificate_lines.specs.declared.certificates.Node.{Node}
use Rattle.fp_certificate_lines.specs.declared.certificates.Spent.TheVariants.{Branches, Rounds}
use Rattle.fp_certificate_rules.specs.Leaves.{fork_of}
use Rattle.fp_certificate_rules.specs.Plans.{stated_cost}
use Rattle.fp_session_history.specs.declared.budgets.Budget.{Budget}
use Rattle.fp_session_history.specs.declared.endings.Left.{Left}
use Rattle.fp_session_history.specs.declared.endings.Left.TheVariants.{Nothing, Several, Timing, Unsettled}
use Rattle.fp_session_history.specs.Clashes.{ClashesBelow}
use Rattle.fp_session_history.specs.Enough.{EnoughBranches, EnoughRounds}
use Rattle.fp_session_history.specs.Notes.{History}
use Rattle.fp_session_history.specs.Solutions.{HasCause, HasUsedRounds, branches_shown, history_of, leaves_shown}
use Rattle.fp_session_history.proofs.AddedPoints.{length-IsEarnedTrace}
use Rattle.fp_session_history.proofs.BranchLimits.{tree_branches-divisions}

-- where rounds were used up, they were as many as the budget has, and a relaxed plan clashes
rounds-used : (h : History) (budget : Budget) (leaves : List (Leaf Node)) (branches : List (Branch Node)) (left : Left) (cost bound : ℕ) → HasCause h budget leaves branches left (Unfinished cost bound Rounds) →
    (leaf : ℕ) × (relaxed : List (List Leg)) × HasUsedRounds h budget leaves cost leaf relaxed
rounds-used h budget leaves branches Nothing cost bound cause = absurd cause
rounds-used h budget leaves branches (Timing leaf relaxed) cost bound cause = (leaf, relaxed, cause.0)
rounds-used h budget leaves branches (Several leaf shipment) cost bound cause = absurd cause
rounds-used h budget leaves branches (Unsettled leaf) cost bound cause = absurd cause

-- where branches were used up, they were as many as the budget has
branches-used : (h : History) (budget : Budget) (leaves : List (Leaf Node)) (branches : List (Branch Node)) (left : Left) (cost bound : ℕ) → HasCause h budget leaves branches left (Unfinished cost bound Branches) →
    length branches ≡ budget.branches
branches-used h budget leaves branches Nothing cost bound cause = absurd cause
branches-used h budget leaves branches (Timing leaf relaxed) cost bound cause = absurd cause
branches-used h budget leaves branches (Several leaf shipment) cost bound cause = cause.0.spent
branches-used h budget leaves branches (Unsettled leaf) cost bound cause = absurd cause

-- no walks have times
no-walks : (p : Problem) (table : WindowTable) → HaveTimes p (windows_in table) [] []
no-walks p table = (
  1,
  (λ m. 0),
  omega arith,
  record {
    lower = record {
      start = λ m is. absurd (omega (arith, is.shipment));
      onward = λ m is. absurd (omega (arith, is.shipment));
      together = λ k d lt. absurd (omega (arith, lt));
    };
    upper = λ m is. absurd (omega (arith, is.shipment));
  },
)

-- and no groups
no-groups : AreGroups [] []
no-groups = record {
  each = λ k d lt. absurd (omega (arith, lt));
  ascending = λ i j d less lt. absurd (omega (arith, lt));
  every = λ c occurs. absurd (false≢true occurs);
}

-- a relaxed plan that clashes has a shipment, so the instance has a terminal
some-terminal : (p : Problem) (table : WindowTable) (points : ℕ → List ℕ) (incumbent : ℕ) (walks : List (List Leg)) → IsValid p → ClashesBelow p table points incumbent walks → 1 ≤ length p.terminals
some-terminal p table points incumbent walks valid clashes = by_shipments p.shipments refl walks clashes.is clashes.clash
  where
    by_shipments : (ss : List Shipment) → p.shipments ≡ ss → (ws : List (List Leg)) → AllZipFrom (λ k s walk. IsRelaxedWalk p (windows_in table) points k s walk) 0 ss ws →
        ((groups : List (List Member)) → AreGroups ws groups → HaveTimes p (windows_in table) (arc_lists ws) groups → ⊥) → 1 ≤ length p.terminals
    by_shipments [] is [] all clash = absurd (clash [] no-groups (no-walks p table))
    by_shipments [] is (w ∷ ws) all clash = absurd all
    by_shipments (s ∷ ss) is ws all clash =
        let long : length p.shipments ≡ suc (length ss) = ap (λ (xs : List Shipment). length xs) is in
        let one : IsShipment (length p.terminals) (get_or p.shipments 0 s) = valid.parts.shipments 0 s (omega (arith, long)) in
        omega (arith, one.from)

pub EnoughRounds_hold : EnoughRounds
EnoughRounds_hold p table budget started s belongs earned enough cost bound is =
    let used = rounds-used (history_of p table s) budget (leaves_shown p s) (branches_shown p s) s.left cost bound
    (subst (HasCause (history_of p table s) budget (leaves_shown p s) (branches_shown p s) s.left) is earned.cause) in
    let many : length s.trace ≤ length p.terminals * horizon p.shipments = length-IsEarnedTrace (history_of p table s) started (stated_cost s.certificate.answer) belongs earned.trace in
    omega (arith, enough, many, used.2.spent, some-terminal p table _ cost used.1 belongs.valid used.2.clashes)

pub EnoughBranches_hold : EnoughBranches
EnoughBranches_hold p table budget started s valid earned enough cost bound is =
    let used : length (branches_shown p s) ≡ budget.branches = branches-used (history_of p table s) budget (leaves_shown p s) (branches_shown p s) s.left cost bound
    (subst (HasCause (history_of p table s) budget (leaves_shown p s) (branches_shown p s) s.left) is earned.cause) in
    omega (arith, enough, used, tree_branches-divisions p (windows_in table) valid s.certificate.unit (fork_of p) s.certificate.tree earned.divide)
