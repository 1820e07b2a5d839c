-- Two searches one after the other tell of the whole time, of which half is enough for the first.
use Rattle.std.proofs.Common.{◌≡◌, ℕ, ◌≤◌, Bool, subst, arith}
use Rattle.fp_ends.specs.Deadlines.{has_shown}
use Rattle.fp_ends.proofs.Deadlines.{has_shown-later}
use Rattle.fp_model.specs.Problem.{Problem}
use Rattle.fp_session_history.specs.Solutions.{Solution}
use Rattle.fp_app_words.specs.TimeLimits.{halved}
use Rattle.fp_app.specs.declared.commands.options.SearchOptions.{SearchOptions}
use Rattle.fp_app.specs.Searches.{IsSearched, within}
use Rattle.fp_app.specs.Wanted.{Wanted}
use Rattle.fp_app.proofs.LaterSearches.{IsSearched-over, has_shown-halved}

module _ (options : SearchOptions) (m1 m2 b0 n1 n2 : ℕ) where
  -- what is known of the time at the end
  abbrev pub over : Bool
  over = has_shown (halved options.seconds) m2 b0 n2

  -- the first search, of half of the seconds
  pub first-over : (half : SearchOptions) → half ≡ record options { seconds = halved options.seconds } → m1 ≤ m2 → n1 ≤ n2 → (p : Problem) (wanted : Wanted) (s : Solution) →
      IsSearched p wanted (within half.budget (has_shown half.seconds m1 b0 n1) half.spans) s → IsSearched p wanted (within options.budget over options.spans) s
  first-over half same later failed p wanted s is =
      IsSearched-over p wanted options.budget (has_shown (halved options.seconds) m1 b0 n1) over options.spans (has_shown-later (halved options.seconds) m1 b0 n1 m2 b0 n2 later (omega arith) failed) s
      (subst (λ (o : SearchOptions). IsSearched p wanted (within o.budget (has_shown o.seconds m1 b0 n1) o.spans) s) same is)

  -- the second search, of all
  pub second-over : b0 ≤ n1 → (p : Problem) (wanted : Wanted) (s : Solution) → IsSearched p wanted (within options.budget (has_shown options.seconds m2 n1 n2) options.spans) s → IsSearched p wanted (within options.budget over options.spans) s
  second-over failed p wanted s is =
      IsSearched-over p wanted options.budget (has_shown options.seconds m2 n1 n2) over options.spans
      (λ shown. has_shown-later (halved options.seconds) m2 n1 n2 m2 b0 n2 (omega arith) failed (omega arith) (has_shown-halved options.seconds m2 n1 n2 shown)) s is
