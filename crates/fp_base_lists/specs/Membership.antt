-- Whether a list has a number.
use Rattle.std.specs.Prelude.{ℕ, Bool, List, ◌==◌}
use Rattle.std.specs.List.{list_any}

-- whether the list has the number
abbrev pub list_has : List ℕ → ℕ → Bool
list_has numbers number = list_any (λ n. n == number) numbers
