-- The fields of a fleet's lines of text, in order. A field is a list of bytes; numbers are decimal
-- without leading zeros.
use Rattle.std.specs.Prelude.{ℕ, ◌<◌, List, [], ◌∷◌, ◌++◌, length, map, All, codes, decimal, slice_index_or}
use Rattle.fp_model.specs.Problem.{Problem}
use Rattle.fp_timetable.specs.declared.lines.TruckLine.{TruckLine}
use Rattle.fp_fleet.specs.declared.fleets.Begin.{Begin}
use Rattle.fp_fleet.specs.declared.fleets.Need.{Need}
use Rattle.fp_fleet.specs.declared.fleets.Turn.{Turn}
use Rattle.fp_fleet.specs.Fleets.{Assignment, BeginExists, TurnExists}
use Rattle.fp_fleet.specs.Rosters.{head_of, line_at, tail_of}

-- the name of the terminal with a number
abbrev pub name_of : Problem → ℕ → List ℕ
name_of p terminal = slice_index_or p.terminals terminal []

-- the name of the terminal that the line with a number leaves
abbrev pub from_name : Problem → List TruckLine → ℕ → List ℕ
from_name p lines l = name_of p (tail_of p (line_at lines l))

-- the name of the terminal where it ends
abbrev pub to_name : Problem → List TruckLine → ℕ → List ℕ
to_name p lines l = name_of p (head_of p (line_at lines l))

-- when it departs
abbrev pub depart_text : List TruckLine → ℕ → List ℕ
depart_text lines l = decimal (line_at lines l).depart

-- `fleet,TOTAL`
abbrev pub fleet_fields : ℕ → List (List ℕ)
fleet_fields total = codes "fleet" ∷ decimal total ∷ []

-- `need,TERMINAL,TRUCKS,AT`
abbrev pub need_fields : Problem → Need → List (List ℕ)
need_fields p n = codes "need" ∷ name_of p n.terminal ∷ decimal n.trucks ∷ decimal n.at ∷ []

-- `start,FROM,TO,DEPART,COUNT`
abbrev pub begin_fields : Problem → List TruckLine → Begin → List (List ℕ)
begin_fields p lines b = codes "start" ∷ from_name p lines b.line ∷ to_name p lines b.line ∷ depart_text lines b.line ∷ decimal b.count ∷ []

-- `turn,FROM,VIA,DEPART,TO,DEPART,COUNT`, with the departure of the line before and of the line after
abbrev pub turn_fields : Problem → List TruckLine → Turn → List (List ℕ)
turn_fields p lines t =
    codes "turn" ∷ from_name p lines t.before ∷ to_name p lines t.before ∷ depart_text lines t.before
    ∷ to_name p lines t.after ∷ depart_text lines t.after ∷ decimal t.count ∷ []

-- `end`
abbrev pub end_fields : List (List ℕ)
end_fields = codes "end" ∷ []

-- the lines of a fleet's text
abbrev pub fleet_rows : Problem → List TruckLine → Assignment → List (List (List ℕ))
fleet_rows p lines fleet =
    fleet_fields fleet.total
    ∷ (map (need_fields p) fleet.needs
    ++ (map (begin_fields p lines) fleet.begins
    ++ (map (turn_fields p lines) fleet.turns
    ++ (end_fields ∷ []))))

-- the terminals and the lines of a fleet exist
pub record IsShowable (p : Problem) (lines : List TruckLine) (fleet : Assignment) : Type 0 where
  pub needs : All (λ (n : Need). n.terminal < length p.terminals) fleet.needs
  pub begins : All (BeginExists (length lines)) fleet.begins
  pub turns : All (TurnExists (length lines)) fleet.turns
