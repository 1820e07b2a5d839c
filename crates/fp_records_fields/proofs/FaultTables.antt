-- Tables of faults of which none holds.
use Rattle.std.proofs.Common.{◌≡◌, ℕ, Bool, false, cond, inl, inr}
use Rattle.std.specs.Prelude.{Option, Some, None}
use Rattle.std.proofs.lemmas.Bool.{cases_Bool}

-- a row's fault does not hold, and the rows after it give no code
pub record IsClear (holds : Bool) (rest : Option ℕ) : Type 0 where
  pub here : holds ≡ false
  pub later : rest ≡ None

-- from a table without a code
pub IsClear-from_none : (code : ℕ) (holds : Bool) {rest : Option ℕ} → cond holds (Some code) rest ≡ None → IsClear holds rest
IsClear-from_none code holds h =
    elim (cases_Bool holds) [
      | inl t ↦ cc (rw t at h)
      | inr n ↦ record { here = n; later = rw n at h }
    ]
