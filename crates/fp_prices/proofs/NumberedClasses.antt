-- Each number below the count of classes is that of a class.
use Rattle.std.proofs.Common.{◌≡◌, ℕ, ◌<◌, sym, ap, ◌∙◌, subst}
use Rattle.fp_model.specs.declared.parts.Leg.{Leg}
use Rattle.fp_longestarcs.specs.Networks.{IsClass, IsNetwork, TimedNetwork, class_count, class_number}
use Rattle.fp_allowed.specs.Listing.{class_at}
use Rattle.fp_allowed.proofs.ListedClasses.{class_at-number}
use Rattle.fp_prices.proofs.PointEdges.{class-numbered}

-- the class with a number has that number
pub number-class : (net : TimedNetwork) (n : ℕ) → IsNetwork net → n < class_count net → IsClass net (class_at net n) × (class_number net (class_at net n) ≡ n)
number-class net n valid within =
    let found = class-numbered net n valid within in
    let at : class_at net n ≡ found.0 = ap (class_at net) (sym found.2) ∙ class_at-number net found.0 valid found.1 in
    (subst (λ (c : Leg). IsClass net c) (sym at) found.1, ap (class_number net) at ∙ found.2)
