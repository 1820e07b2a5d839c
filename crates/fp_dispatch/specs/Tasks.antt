-- What times are looked for, and what is known of the moments that rise for it.
use Rattle.std.specs.Prelude.{ℕ, ◌*◌, List, length, Option}
use Rattle.fp_model.specs.declared.parts.Member.{Member}
use Rattle.fp_model.specs.Problem.{Problem}
use Rattle.fp_flatnet.specs.Tables.{WindowTable, windows_in}
use Rattle.fp_dispatch.specs.declared.group_numbers.Numbers.{Numbers}
use Rattle.fp_dispatch.specs.declared.rising.Late.{Late}
use Rattle.fp_dispatch.specs.Rising.{AllWait, AreLower, AreRising, IsLate, IsRaising, IsTask, State}

-- the problem, the windows, the routes and the groups, and the numbers of the groups
pub record TaskModel : Type 0 where
  pub problem : Problem
  pub table : WindowTable
  pub routes : List (List ℕ)
  pub groups : List (List Member)
  pub numbers : Numbers

-- what is looked for can be found
abbrev pub CanBeFound : TaskModel → Type 0
CanBeFound t = IsTask t.problem t.table t.routes t.groups t.numbers

-- how many entries a table has
abbrev pub entry_count : TaskModel → ℕ
entry_count t = length t.routes * t.numbers.width

-- what a raising of legs to a moment answers
abbrev pub IsRaisingFor : TaskModel → List Member → (to : ℕ) → (old new : State) → Option Member → Type 0
IsRaisingFor t = IsRaising (windows_in t.table) t.routes t.numbers.width

-- what holds of the moments at all times
abbrev pub AreLowerFor : TaskModel → State → Type 0
AreLowerFor t = AreLower t.problem (windows_in t.table) t.routes t.groups t.numbers.width

-- nothing is settled yet
abbrev pub AllWaitFor : TaskModel → State → Type 0
AllWaitFor t = AllWait t.routes t.numbers.width

-- all of a group have one moment, and each leg but those that Excepted holds of waits or is settled
abbrev pub AreRisingFor : TaskModel → (Member → Type 0) → State → Type 0
AreRisingFor t = AreRising t.problem (windows_in t.table) t.routes t.groups t.numbers.width

-- a leg would have to leave after its latest moment
abbrev pub IsLateFor : TaskModel → Late → Type 0
IsLateFor t = IsLate t.problem (windows_in t.table) t.routes t.groups
