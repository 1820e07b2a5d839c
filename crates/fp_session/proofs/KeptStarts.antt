-- What is kept of a leaf that was priced over the points as of the last round.
use Rattle.std.proofs.Common.{◌≡◌, ℕ, ◌≤◌, Bool, false, List, [], subst, arith}
use Rattle.std.specs.Prelude.{MatchBool}
use Rattle.fp_flatnet.specs.Tables.{windows_in}
use Rattle.fp_tree.specs.declared.sides.Side.{Side}
use Rattle.fp_prices.specs.declared.leaf_prices.Kind.{Kind}
use Rattle.fp_prices.specs.declared.leaf_prices.Kind.TheVariants.{Even, Linear}
use Rattle.fp_prices.specs.Leaves.{IsLeafValue}
use Rattle.fp_session_history.specs.Notes.{History, last_round, points_of}
use Rattle.fp_session_history.specs.PrintedLeaves.{IsEmptyAt}
use Rattle.fp_session.specs.declared.payloads.Payload.{Payload}
use Rattle.fp_session.specs.Nodes.{IsEarnedAs, IsKept}
use Rattle.fp_session.specs.Outcomes.{IsAtLeastStarts}

-- its value is at least its values by linear and by even prices over them
pub kept-starts : (h : History) (sides : List Side) (payload : Payload) (value : ℕ) → IsKept h sides payload value → payload.empty ≡ false → last_round h ≤ payload.valuation.price.round → IsAtLeastStarts h sides value
kept-starts h sides payload value is some last = record {
  linear = λ f other v. omega (arith, own.is, own.earned.linear f other (as_of Linear f other v));
  even = λ f other v. omega (arith, own.is, own.earned.even f other (as_of Even f other v));
}
  where
    same : last_round h ≡ payload.valuation.price.round
    same = omega (arith, last, is.price.round)

    own : IsEarnedAs h sides payload.valuation value
    own = subst (λ (b : Bool). MatchBool b (IsEmptyAt h sides payload.valuation) (IsEarnedAs h sides payload.valuation value)) some is.worth

    as_of : (kind : Kind) (f : Bool) (other : ℕ) → IsLeafValue h.problem (windows_in h.windows) (points_of h (last_round h)) sides [] kind f other →
        IsLeafValue h.problem (windows_in h.windows) (points_of h payload.valuation.price.round) sides [] kind f other
    as_of kind f other v = subst (λ (n : ℕ). IsLeafValue h.problem (windows_in h.windows) (points_of h n) sides [] kind f other) same v
