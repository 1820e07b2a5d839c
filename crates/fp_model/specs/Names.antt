-- What may be a name.
use Rattle.fp_model.specs.declared.limits.TheConstants.{LONGEST_NAME}
use Rattle.std.specs.Prelude.{ℕ, ◌≤◌, List, length, Bool, ◌&&◌, ◌||◌, ◌==◌, nat_le, IsTrue, All}

-- a byte is an ASCII digit, an ASCII letter, `_` or `-`
abbrev pub is_name_byte : ℕ → Bool
is_name_byte b =
    (nat_le 48 b && nat_le b 57) || (nat_le 65 b && nat_le b 90) || (nat_le 97 b && nat_le b 122) || b == 95 || b == 45

-- bytes are a name: one to 32 of these
pub record IsName (bytes : List ℕ) : Type 0 where
  pub some : 1 ≤ length bytes
  pub few : length bytes ≤ LONGEST_NAME
  pub letters : All (λ b. IsTrue (is_name_byte b)) bytes
