use Rattle.std.proofs.Common.{ℕ, ◌≡◌, ◌<◌}
use Rattle.fp_model.specs.Faults.{place_before}
use Rattle.fp_model.proofs.routes.returns.Given as goal

-- at none of the places so far was the shipment there
abbrev pub invariant-loop-earlier : goal.invariant-loop-earlier
invariant-loop-earlier l = (j : ℕ) → j < l.earlier → place_before l.instance l.shipment.from l.route j ≡ l.to → ⊥
