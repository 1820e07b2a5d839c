use Rattle.std.proofs.lemmas.Bool.{false≢true}
use Rattle.fp_yard.proofs.Missing.{fault-refuses}
use Rattle.fp_yard.proofs.yards.Yard.apply.Goals as goal

pub returns-in-Some-clause-exact : goal.returns-in-Some-clause-exact
returns-in-Some-clause-exact c = (
  (λ e. absurd (false≢true e)),
  (λ allowed.
      absurd
      (fault-refuses c.args.self.now.schedule c.args.self.now.history c.args.event c.in-Some.fault c.in-Some.ensures.sound c.in-Some.ensures.legal c.in-Some.ensures.fault
      allowed)),
)
