use Rattle.fp_yard.proofs.Departures.{departs-alike}
use Rattle.std.proofs.Common.{sym}
use Rattle.fp_yard.proofs.laws.departures_depend_on_the_tail.Goals as goal

pub returns : goal.returns
returns c = λ s g h line sound first second stage tail.
    (departs-alike s g h line sound first second stage (λ k. (tail k).0), departs-alike s h g line sound second first (sym stage) (λ k. (tail k).1))
