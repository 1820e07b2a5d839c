-- A leaf that is divided earned it.
use Rattle.std.proofs.Common.{◌≡◌, ℕ, ◌<◌, ◌≤◌, Bool, false, List, subst, arith}
use Rattle.std.specs.Prelude.{MatchBool}
use Rattle.fp_tree.specs.declared.sides.Side.{Side}
use Rattle.fp_session_history.specs.Notes.{History, worth_of}
use Rattle.fp_session_history.specs.PrintedLeaves.{IsEmptyAt}
use Rattle.fp_session_history.specs.Splits.{IsEarnedSplit}
use Rattle.fp_session.specs.declared.payloads.Payload.{Payload}
use Rattle.fp_session.specs.Nodes.{IsEarnedAs, IsKept, split_note}

-- what is kept of a leaf doesn't speak of the incumbent's cost
pub IsKept-noted : (h : History) (sides : List Side) (payload : Payload) (value incumbent : ℕ) → IsKept h sides payload value → IsKept h sides (record payload { incumbent = incumbent }) value
IsKept-noted h sides payload value incumbent kept = record { price = kept.price; under = kept.under; worth = kept.worth }

-- a leaf that isn't empty is earned
pub IsEarnedAs-kept : (h : History) (sides : List Side) (payload : Payload) (value : ℕ) → IsKept h sides payload value → payload.empty ≡ false → IsEarnedAs h sides payload.valuation value
IsEarnedAs-kept h sides payload value kept some =
    subst (λ (b : Bool). MatchBool b (IsEmptyAt h sides payload.valuation) (IsEarnedAs h sides payload.valuation value)) some kept.worth

-- where it is worth less than the incumbent, which costs no more than the plan that the search started
-- with, it is a split that is earned by that cost
pub IsEarnedSplit-kept : (h : History) (started cost : ℕ) (sides : List Side) (payload : Payload) (value : ℕ) → IsKept h sides payload value → payload.empty ≡ false →
    worth_of h value < cost → cost ≤ started → IsEarnedSplit h started cost sides (split_note (record payload { incumbent = cost }))
IsEarnedSplit-kept h started cost sides payload value kept some below le =
    let earned_as : IsEarnedAs h sides payload.valuation value = IsEarnedAs-kept h sides payload value kept some in
    record {
      leaf = earned_as.earned;
      below = subst (λ (v : ℕ). worth_of h v < cost) earned_as.is below;
      first = le;
      last = omega arith;
    }
