-- A clock that stands ends no search.
use Rattle.std.proofs.Common.{◌≡◌, ℕ, ◌*◌, false, refl, arith}
use Rattle.std.specs.Prelude.{Option, None, Some, leb}
use Rattle.std.proofs.lemmas.Bool.{false_from_ne_true, leb-true}
use Rattle.fp_ends.specs.Deadlines.{has_shown}
use Rattle.fp_app_words.specs.Settings.{IsTimeLimit}

pub still-ends_none : (seconds : Option ℕ) → IsTimeLimit seconds → has_shown seconds 0 0 0 ≡ false
still-ends_none None is = refl
still-ends_none (Some n) is =
    let short : leb (n * 1000) 0 ≡ false = false_from_ne_true (leb (n * 1000) 0) (λ t. let le = leb-true (n * 1000) 0 t in absurd (omega (arith, le, is.0))) in
    rw short refl
