-- What a search shows stays true once more time is known to be over.
use Rattle.std.proofs.Common.{◌≡◌, ◌∙◌, ℕ, ◌*◌, ◌≤◌, Bool, true, false, refl, sym, inl, inr, arith}
use Rattle.std.specs.Prelude.{Option, None, Some, leb, ◌||◌}
use Rattle.std.specs.Int.{div_ceil}
use Rattle.std.proofs.lemmas.Bool.{cases_Bool, false≢true, leb-true, le-leb, or_left, or_right}
use Rattle.fp_ends.specs.Causes.{next_count}
use Rattle.fp_ends.specs.Deadlines.{has_shown}
use Rattle.fp_model.specs.Problem.{Problem}
use Rattle.fp_certificate_lines.specs.declared.certificates.Answer.{Answer}
use Rattle.fp_certificate_lines.specs.declared.certificates.Answer.TheVariants.{Optimal, Unfinished}
use Rattle.fp_certificate_lines.specs.declared.certificates.Spent.{Spent}
use Rattle.fp_certificate_lines.specs.declared.certificates.Spent.TheVariants.{Branches, Rounds, Time}
use Rattle.fp_session_history.specs.declared.budgets.Budget.{Budget}
use Rattle.fp_session_history.specs.Solutions.{Solution}
use Rattle.fp_app_words.specs.TimeLimits.{halved}
use Rattle.fp_app.specs.Searches.{IsEnough, IsSearched, SaysOfPlans, within}
use Rattle.fp_app.specs.Wanted.{Wanted}

module _ (p : Problem) (wanted : Wanted) (budget : Budget) (over over' spans : Bool) (more : over ≡ true → over' ≡ true) where
  -- what is enough where more is over was enough before
  enough-before : (spent : Spent) → IsEnough p wanted (within budget over' spans) spent → IsEnough p wanted (within budget over spans) spent
  enough-before Rounds is = is
  enough-before Branches is = is
  enough-before Time is =
      elim (cases_Bool over) [
        | inl t ↦ absurd (false≢true (sym is ∙ more t))
        | inr f ↦ f
      ]

  says-over : (a : Answer) → SaysOfPlans p wanted (within budget over spans) a → SaysOfPlans p wanted (within budget over' spans) a
  says-over (Optimal cost) is = is
  says-over (Unfinished cost bound spent) is = record { plans = is.plans; below = is.below; flat = is.flat; scarce = λ enough. is.scarce (enough-before spent enough) }
  says-over _ is = absurd is

  pub IsSearched-over : (s : Solution) → IsSearched p wanted (within budget over spans) s → IsSearched p wanted (within budget over' spans) s
  IsSearched-over s is = record {
    table = is.table;
    windows = is.windows;
    timetable = is.timetable;
    is_wanted = is.is_wanted;
    accepted = is.accepted;
    back = is.back;
    short = is.short;
    scale = is.scale;
    priced = is.priced;
    first = is.first;
    begins = is.begins;
    earned = is.earned;
    points = is.points;
    says = says-over s.certificate.answer is.says;
  }

-- a clock that has shown all seconds has shown half of them
has_shown-less : (few many moment : ℕ) (failed : Bool) → few ≤ many → (leb (many * 1000) moment || failed) ≡ true → (leb (few * 1000) moment || failed) ≡ true
has_shown-less few many moment true less is = or_right (leb (few * 1000) moment) true refl
has_shown-less few many moment false less is =
    elim (cases_Bool (leb (many * 1000) moment)) [
      | inl t ↦ (let le = leb-true (many * 1000) moment t in or_left (leb (few * 1000) moment) false (le-leb (few * 1000) moment (omega (arith, le, less))))
      | inr f ↦ absurd (false≢true (sym (rw f refl) ∙ is))
    ]

pub has_shown-halved : (seconds : Option ℕ) (moment before now : ℕ) → has_shown seconds moment before now ≡ true → has_shown (halved seconds) moment before now ≡ true
has_shown-halved None moment before now is = is
has_shown-halved (Some n) moment before now is = has_shown-less (div_ceil n 2) n moment (leb (next_count before) now) (omega arith) is
