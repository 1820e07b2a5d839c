use Rattle.std.proofs.Common.{◌≡◌, ◌∷◌, drop, length}
use Rattle.std.specs.Prelude.{◌↔◌}
use Rattle.fp_model.specs.declared.limits.TheConstants.{MOST_TERMINALS}
use Rattle.fp_base_lists.specs.Distinct.{AreDistinct}
use Rattle.fp_relaxmodel.proofs.MetTerminals.{AreNew, entered_by}
use Rattle.fp_relaxmodel.proofs.terminals.are_apart.Given as goal

-- the terminals are apart exactly where those that are left are new
abbrev pub invariant-loop-stop : goal.invariant-loop-stop
invariant-loop-stop l = record {
  long : length l.met ≡ MOST_TERMINALS;
  decides : AreDistinct (l.tail ∷ entered_by l.instance l.stops) ↔ AreNew l.met (entered_by l.instance (drop l.stop-index l.stops));
}
