use Rattle.std.proofs.Common.{ℕ, ◌+◌, ◌-◌, length}
use Rattle.fp_prices.proofs.SetBits.{AreRewritten}
use Rattle.fp_prices.proofs.classes.class_users.add_size.Given as goal

-- the size was added to the sums before the next place
abbrev pub invariant-loop-class : goal.invariant-loop-class
invariant-loop-class l = AreRewritten (λ (n sum : ℕ). sum + l.size) 0 l.row l.fn.sizes l.sizes l.next

abbrev pub decreases-loop-class : goal.decreases-loop-class
decreases-loop-class l = length l.row - l.next
