-- By which split a leaf is divided, and what is kept of the two leaves below.
use Rattle.std.specs.Prelude.{List, [], ◌∷◌, ◌++◌, IfSome}
use Rattle.fp_flatnet.specs.Tables.{windows_in}
use Rattle.fp_tree.specs.declared.sides.Side.{Side}
use Rattle.fp_tree.specs.Sides.{Fork, HasTail, first, second}
use Rattle.fp_allowed.specs.Allowed.{tails_of}
use Rattle.fp_certificate_lines.specs.Ranges.{IsSplitInRange}
use Rattle.fp_session_history.specs.Divisions.{Divides}
use Rattle.fp_session_history.specs.Notes.{History}
use Rattle.fp_session.specs.declared.branchings.Branching.{Branching}
use Rattle.fp_session.specs.declared.choices.Chosen.{Chosen}
use Rattle.fp_session.specs.declared.kept.Below.{Below}
use Rattle.fp_session.specs.Nodes.{IsKept}

-- the fork of a branching
abbrev pub fork_by : Branching → Fork
fork_by b = record { split = b.split; tail = b.tail }

-- a branching of a leaf under sides: its split is in range, its tail is that of its arc, and it divides what the leaf has left
pub record IsBranching (h : History) (sides : List Side) (b : Branching) : Type 0 where
  pub range : IsSplitInRange h.problem b.split
  pub tail : HasTail (tails_of h.problem) (fork_by b)
  pub divides : Divides h.unit h.problem (windows_in h.windows) sides (fork_by b)

-- this is kept of the two leaves below a fork
pub record AreKeptBelow (h : History) (sides : List Side) (f : Fork) (b : Below) : Type 0 where
  pub first : IsKept h (sides ++ (first f ∷ [])) b.first.payload b.first.value
  pub second : IsKept h (sides ++ (second f ∷ [])) b.second.payload b.second.value

-- a branching of a leaf, with what is kept of the leaves below, if that is told
pub record IsChosen (h : History) (sides : List Side) (c : Chosen) : Type 0 where
  pub branching : IsBranching h sides c.branching
  pub below : IfSome c.below (AreKeptBelow h sides (fork_by c.branching))
