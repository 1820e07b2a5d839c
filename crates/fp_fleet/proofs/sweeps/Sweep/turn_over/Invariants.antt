use Rattle.std.proofs.Common.{◌≡◌, get_or}
use Rattle.std.specs.Prelude.{All}
use Rattle.fp_fleet.specs.declared.fleets.Turn.{Turn}
use Rattle.fp_fleet.specs.Sweeps.{AreTurning}
use Rattle.fp_fleet.proofs.sweeps.Sweep.turn_over.Given as goal

-- the arrivals so far have turned what they could, and are spent
abbrev pub invariant-loop-at : goal.invariant-loop-at
invariant-loop-at l = record {
  turning : AreTurning l.instance l.lines l.arrivals l.number l.initial.self.turns.items l.initial.self.idle.items l.self.turns.items l.self.idle.items l.lacking l.at;
  done : All (λ (t : Turn). t.after ≡ l.number → get_or l.self.idle.items t.before 0 ≡ 0) l.self.turns.items;
  begins : l.self.begins ≡ l.initial.self.begins;
  heads : l.self.heads ≡ l.initial.self.heads;
}
