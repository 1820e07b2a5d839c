-- The chains that a plain leaf counts.
use Rattle.std.proofs.Common.{◌≡◌, ℕ, ◌+◌, Bool, false, List, [], ◌∷◌, ◌++◌, refl, ap, ◌∙◌}
use Rattle.fp_base_lists.specs.Numbered.{AllZipFrom}
use Rattle.fp_model.specs.declared.parts.Leg.{Leg}
use Rattle.fp_model.specs.declared.parts.Shipment.{Shipment}
use Rattle.fp_model.specs.Costs.{all_legs}
use Rattle.fp_model.specs.Problem.{Problem}
use Rattle.fp_prices.specs.Leaves.{IsChain}

-- the chains of a plain leaf have no legs
pub all_legs-plain : (p : Problem) (allowed : ℕ → Leg → Bool) (i : ℕ) (shipments : List Shipment) (chains : List (List Leg)) → AllZipFrom (λ k. IsChain p (allowed k) false) i shipments chains → all_legs chains ≡ []
all_legs-plain p allowed i [] [] is = refl
all_legs-plain p allowed i [] (chain ∷ chains) is = absurd is
all_legs-plain p allowed i (s ∷ shipments) [] is = absurd is
all_legs-plain p allowed i (s ∷ shipments) (chain ∷ chains) is =
    ap (λ (legs : List Leg). legs ++ all_legs chains) is.0 ∙ all_legs-plain p allowed (i + 1) shipments chains is.1
