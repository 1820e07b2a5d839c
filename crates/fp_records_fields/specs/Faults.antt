-- The fault of an input that is told: the first record with one decides.
use Rattle.std.specs.Prelude.{ℕ, Option, Some, None, Result, Err}

-- a fault of an input: the ordinal of its record, from 1, or 0 for the input as a whole, and its
-- code
pub record Fault : Type 0 where
  pub ordinal : ℕ
  pub code : ℕ

-- the fault of the record with this ordinal, if it has a code, or else what is read with the
-- records after it
abbrev pub first_fault : {A : Type 0} → ℕ → Option ℕ → Result A Fault → Result A Fault
first_fault ordinal (Some code) rest = Err (record { ordinal = ordinal; code = code })
first_fault ordinal None rest = rest
