-- What reading answers where it fails: a fault, or want of memory, of which nothing is said.
use Rattle.std.specs.Prelude.{◌≡◌, Result, Err}
use Rattle.fp_model.specs.Problem.{Problem}
use Rattle.fp_records_fields.specs.Faults.{Fault}
use Rattle.fp_reader.specs.declared.faults.InputFault.{InputFault}
use Rattle.fp_reader.specs.declared.faults.InputFault.TheVariants as input

-- records were not read for the fault that decides
abbrev pub IsFirst : InputFault → Result Problem Fault → Type 0
IsFirst (input.Bad ordinal code) read = read ≡ Err (record { ordinal = ordinal; code = code })
IsFirst input.NoMemory read = Unit {0}
