-- The plan with which the search begins that has the last shipment too.
use Rattle.std.specs.Prelude.{List, ◌++◌, length, drop, nat_le, if◌then◌else◌}
use Rattle.fp_model.specs.declared.parts.Leg.{Leg}
use Rattle.fp_model.specs.Costs.{cost}
use Rattle.fp_model.specs.Problem.{Problem}

-- a plan without the last shipment, and for that the route that another plan has for it
abbrev pub put_in : (before direct : List (List Leg)) → List (List Leg)
put_in before direct = before ++ drop (length before) direct

-- the cheaper of two plans, the first where they cost the same
abbrev pub cheaper : Problem → (first second : List (List Leg)) → List (List Leg)
cheaper p first second = if nat_le (cost p first) (cost p second) then first else second

-- the cheaper of a plan with the last shipment put in and of the other plan
abbrev pub start_of : Problem → (before direct : List (List Leg)) → List (List Leg)
start_of p before direct = cheaper p (put_in before direct) direct
