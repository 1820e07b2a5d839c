-- The codes of the faults that a line may have.
use Rattle.std.specs.Prelude.{ℕ}
use Rattle.fp_certificate.specs.declared.lines.faults.LineFault.{LineFault}
use Rattle.fp_certificate.specs.declared.lines.faults.LineFault.TheVariants.{Kind, Fields, Digits, Order, Name, AfterEnd, Range}

-- the code of a fault
abbrev pub code_of : LineFault → ℕ
code_of Kind = 21
code_of Fields = 22
code_of Digits = 23
code_of Order = 24
code_of Name = 25
code_of AfterEnd = 27
code_of Range = 28
