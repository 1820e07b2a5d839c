-- When the time is over by a clock.
use Rattle.std.specs.Prelude.{ℕ, ◌≤◌, Bool, true, false, Option, None, Some, leb, ◌*◌, ◌||◌}
use Rattle.fp_ends.specs.Causes.{next_count}
use Rattle.fp_ends.specs.declared.deadline.ClockDeadline.{ClockDeadline}

-- The seconds of a deadline, if it has some.
abbrev pub limit_of : {C : Type 0} → ClockDeadline C → Option ℕ
limit_of d = d.seconds

-- There is a limit.
abbrev pub is_limit : Option ℕ → Bool
is_limit None = false
is_limit (Some seconds) = true

-- There is a limit of seconds, and a clock has shown as many milliseconds, or a look at it failed: its
-- count rose.
abbrev pub has_shown : Option ℕ → (moment before now : ℕ) → Bool
has_shown None moment before now = false
has_shown (Some seconds) moment before now = leb (seconds * 1000) moment || leb (next_count before) now

-- What a clock shows later: its moment and its count of faults haven't fallen.
pub record IsLater (moment_before moment_now faults_before faults_now : ℕ) : Type 0 where
  pub moment : moment_before ≤ moment_now
  pub faults : faults_before ≤ faults_now
