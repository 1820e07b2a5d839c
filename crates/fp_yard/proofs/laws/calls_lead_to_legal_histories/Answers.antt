use Rattle.std.specs.Prelude.{[]}
use Rattle.fp_yard.proofs.Histories.{IsLegal-led, IsLegal-none}
use Rattle.fp_yard.proofs.laws.calls_lead_to_legal_histories.Goals as goal

pub returns : goal.returns
returns c = λ s calls after leads. IsLegal-led s calls [] after (IsLegal-none s) leads
