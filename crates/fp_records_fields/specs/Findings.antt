-- The faults of one record as a table, of which the first that holds is told.
use Rattle.std.specs.Prelude.{ℕ, ◌≡◌, List, [], ◌∷◌, Bool, if◌then◌else◌, Option, Some, None}
use Rattle.fp_records_fields.specs.declared.errors.RecordError.{RecordError}
use Rattle.fp_records_fields.specs.declared.errors.RecordError.TheVariants as error

-- a fault: its code, and whether the record has it
pub record Finding : Type 0 where
  pub code : ℕ
  pub holds : Bool

-- one row of a table
abbrev pub finding : ℕ → Bool → Finding
finding code holds = record { code = code; holds = holds }

-- the code of the first fault that holds, in the order of the table
abbrev pub first_code : List Finding → Option ℕ
first_code [] = None
first_code (finding ∷ table) = if finding.holds then Some finding.code else first_code table

-- a record was not added for the fault with this code, by the codes of its crate; or no memory was
-- found, of which nothing is said
abbrev pub IsFirstFault : {F : Type 0} → (F → ℕ) → RecordError F → Option ℕ → Type 0
IsFirstFault code_of (error.Fault fault) code = code ≡ Some (code_of fault)
IsFirstFault code_of error.NoMemory code = Unit {0}
