-- The freight of the truck lines of a schedule, as it is written.
use Rattle.std.specs.Prelude.{ℕ, ◌<◌, ◌^◌, ◌≡◌, List, length, map}
use Rattle.fp_model.specs.declared.parts.Leg.{Leg}
use Rattle.fp_model.specs.declared.parts.Member.{Member}
use Rattle.fp_model.specs.Numbered.{shipment_at}
use Rattle.fp_model.specs.Problem.{Problem}
use Rattle.fp_timetable.specs.declared.lines.TruckLine.{TruckLine}
use Rattle.fp_yard.specs.Journeys.{AreInOrder}
use Rattle.fp_yard.specs.Schedules.{IsSound, Schedule, leg_of}
use Rattle.fp_yard_sheets.specs.Rows.{load_fields}

-- the routes of a schedule: the legs of the lines of its journeys
abbrev pub routes_of : List TruckLine → Schedule → List (List Leg)
routes_of lines s = map (map (leg_of lines)) s.journeys

-- `load,SHIPMENT` of a leg's shipment
abbrev pub member_fields : Problem → Member → List (List ℕ)
member_fields p m = load_fields (shipment_at p m.shipment)

-- a schedule is one over truck lines that stand in order, with a journey for each shipment
pub record IsOver (p : Problem) (lines : List TruckLine) (s : Schedule) : Type 0 where
  pub order : AreInOrder lines
  pub few : length lines < 2 ^ 32
  pub sound : IsSound s
  pub tails : length s.tails ≡ length lines
  pub journeys : length s.journeys ≡ length p.shipments
