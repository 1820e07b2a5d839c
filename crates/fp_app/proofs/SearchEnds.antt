-- How a search ended, by its answer.
use Rattle.std.proofs.Common.{◌≡◌, ℕ, refl}
use Rattle.fp_model.specs.Problem.{Problem}
use Rattle.fp_certificate_lines.specs.declared.certificates.Answer.{Answer}
use Rattle.fp_certificate_lines.specs.declared.certificates.Answer.TheVariants.{Optimal, Unfinished}
use Rattle.fp_certificate_lines.specs.declared.certificates.Spent.{Spent}
use Rattle.fp_app.specs.declared.shown.Status.{Status}
use Rattle.fp_app.specs.declared.shown.Status.TheVariants as status
use Rattle.fp_app.specs.Searches.{Allowance, IsBoundBelow, SaysOfPlans}
use Rattle.fp_app.specs.Shown.{both_status, search_status}
use Rattle.fp_app.specs.Wanted.{NoneWantedCheaper, Wanted}

pub data SearchEnd (p : Problem) (wanted : Wanted) (allowed : Allowance) (a : Answer) : Type 0 where
  optimal : (cost : ℕ) → a ≡ Optimal cost → NoneWantedCheaper p wanted cost → SearchEnd p wanted allowed a
  unfinished : (cost bound : ℕ) (spent : Spent) → a ≡ Unfinished cost bound spent → IsBoundBelow p wanted allowed cost bound spent → SearchEnd p wanted allowed a

pub search-end : (p : Problem) (wanted : Wanted) (allowed : Allowance) (a : Answer) → SaysOfPlans p wanted allowed a → SearchEnd p wanted allowed a
search-end p wanted allowed (Optimal cost) says = optimal cost refl says
search-end p wanted allowed (Unfinished cost bound spent) says = unfinished cost bound spent refl says
search-end p wanted allowed _ says = absurd says

-- a search is done or unfinished, and has no other status
pub search-no_other : (a : Answer) (t : Status) → (status.Done ≡ t → ⊥) → (status.Unfinished ≡ t → ⊥) → search_status a ≡ t → ⊥
search-no_other (Unfinished cost bound spent) t not_done not_open same = not_open same
search-no_other _ t not_done not_open same = not_done same

-- nor have two
pub both-no_other : (a b : Answer) (t : Status) → (status.Done ≡ t → ⊥) → (status.Unfinished ≡ t → ⊥) → both_status a b ≡ t → ⊥
both-no_other (Unfinished cost bound spent) b t not_done not_open same = not_open same
both-no_other _ b t not_done not_open same = search-no_other b t not_done not_open same
