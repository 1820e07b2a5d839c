-- What a clock has shown stays so.
use Rattle.std.proofs.Common.{◌≡◌, ℕ, ◌*◌, ◌≤◌, true, false, refl, arith}
use Rattle.std.specs.Prelude.{Bool, Option, None, Some, leb, ◌||◌}
use Rattle.std.proofs.lemmas.Bool.{leb-true, le-leb, or_left, or_right}
use Rattle.fp_ends.specs.Causes.{next_count}
use Rattle.fp_ends.specs.Deadlines.{IsLater, has_shown}

-- a count that rose from a later one rose from an earlier one
next_count-mono : (a b : ℕ) → a ≤ b → next_count a ≤ next_count b
next_count-mono a b le = omega (arith, le)

shown-later : (short short' failed failed' : Bool) → (short ≡ true → short' ≡ true) → (failed ≡ true → failed' ≡ true) → (short || failed) ≡ true → (short' || failed') ≡ true
shown-later true short' failed failed' a b is = or_left short' failed' (a refl)
shown-later false short' failed failed' a b is = or_right short' failed' (b is)

-- what a clock has shown it has shown later too, and from earlier on
pub has_shown-later : (seconds : Option ℕ) (moment before now moment' before' now' : ℕ) → moment ≤ moment' → before' ≤ before → now ≤ now' → has_shown seconds moment before now ≡ true →
    has_shown seconds moment' before' now' ≡ true
has_shown-later None moment before now moment' before' now' m b n is = is
has_shown-later (Some s) moment before now moment' before' now' m b n is =
    shown-later (leb (s * 1000) moment) (leb (s * 1000) moment') (leb (next_count before) now) (leb (next_count before') now')
    (λ t. let le = leb-true (s * 1000) moment t in le-leb (s * 1000) moment' (omega (arith, le, m)))
    (λ t. let le = leb-true (next_count before) now t in let mono = next_count-mono before' before b in le-leb (next_count before') now' (omega (arith, le, mono, n))) is

-- what is shown later than what is shown later
pub IsLater-trans : (m m' m'' f f' f'' : ℕ) → IsLater m m' f f' → IsLater m' m'' f' f'' → IsLater m m'' f f''
IsLater-trans m m' m'' f f' f'' a b = record { moment = (let x = a.moment in let y = b.moment in omega (arith, x, y)); faults = (let x = a.faults in let y = b.faults in omega (arith, x, y)) }
