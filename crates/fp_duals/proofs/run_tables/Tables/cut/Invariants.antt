use Rattle.std.proofs.Common.{◌≡◌, ◌≤◌, length, take}
use Rattle.fp_duals.proofs.run_tables.Tables.cut.Given as goal

-- the front of the tables that were there, with those that are kept
abbrev pub invariant-loop-self : goal.invariant-loop-self
invariant-loop-self l = record { front : l.self ≡ take (length l.self) l.initial.self; kept : l.count ≤ length l.self }

abbrev pub decreases-loop-self : goal.decreases-loop-self
decreases-loop-self l = length l.self
