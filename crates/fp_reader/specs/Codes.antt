-- The codes of the faults that a record may have.
use Rattle.std.specs.Prelude.{ℕ}
use Rattle.fp_reader.specs.declared.records.codes.RecordFault.{RecordFault}
use Rattle.fp_reader.specs.declared.records.codes.RecordFault.TheVariants.{Kind, Fields, Name, Digits, Range, NameTaken, NoTerminal, SameEnds, ArcTaken, DueBeforeRelease, TooMany}

-- the code of a fault
abbrev pub code_of : RecordFault → ℕ
code_of Kind = 1
code_of Fields = 2
code_of Name = 3
code_of Digits = 4
code_of Range = 5
code_of NameTaken = 6
code_of NoTerminal = 7
code_of SameEnds = 8
code_of ArcTaken = 9
code_of DueBeforeRelease = 10
code_of TooMany = 11
