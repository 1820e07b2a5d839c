-- The codes of the faults that a record of the present or of a tracked leg may have.
use Rattle.std.specs.Prelude.{ℕ}
use Rattle.fp_replan_present.specs.declared.codes.RecordFault.{RecordFault}
use Rattle.fp_replan_present.specs.declared.codes.RecordFault.TheVariants.{Kind, Fields, Digits, Name, Range, Broken, TooMany, Twice, Backward}

-- the code of a fault
abbrev pub code_of : RecordFault → ℕ
code_of Kind = 31
code_of Fields = 32
code_of Digits = 33
code_of Name = 34
code_of Range = 35
code_of Broken = 36
code_of TooMany = 37
code_of Twice = 38
code_of Backward = 39
