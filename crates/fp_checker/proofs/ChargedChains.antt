-- A leaf counts one list of chains, so charges that pay by one such list pay by another.
use Rattle.std.proofs.Common.{ℕ, Bool, List, subst}
use Rattle.std.specs.Prelude.{Option}
use Rattle.fp_base_lists.specs.Numbered.{AllZipFrom}
use Rattle.fp_model.specs.declared.parts.Leg.{Leg}
use Rattle.fp_model.specs.Problem.{Problem}
use Rattle.fp_flatnet.specs.declared.window_tables.Window.{Window}
use Rattle.fp_prices.specs.Leaves.{IsChain}
use Rattle.fp_prices.proofs.OneValue.{chains-unique}
use Rattle.fp_prices_spans.specs.PaidLeaves.{ChargedPay}
use Rattle.fp_prices_spans.specs.Spans.{ClassSpan}

pub charged-chains : (p : Problem) (windows : ℕ → ℕ → Option Window) (points : ℕ → List ℕ) (allowed : ℕ → Leg → Bool) (forced : Bool) (spans : List ClassSpan) (chains others : List (List Leg)) →
    AllZipFrom (λ k. IsChain p (allowed k) forced) 0 p.shipments chains → AllZipFrom (λ k. IsChain p (allowed k) forced) 0 p.shipments others → ChargedPay p windows points allowed chains spans →
    ChargedPay p windows points allowed others spans
charged-chains p windows points allowed forced spans chains others are are_others pay =
    subst (λ (legs : List (List Leg)). ChargedPay p windows points allowed legs spans) (chains-unique p allowed forced 0 p.shipments chains others are are_others) pay
