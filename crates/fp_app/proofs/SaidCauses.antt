-- What `check` shows of an answer that follows kept legs or a day, by its status.
use Rattle.std.proofs.Common.{◌≡◌, ◌∙◌, ℕ, true, List, sym, ap, subst}
use Rattle.std.specs.Prelude.{Some, None, MatchBool}
use Rattle.fp_records.specs.Fields.{records_of}
use Rattle.fp_app_words.specs.declared.orders.Order.TheVariants.{Check}
use Rattle.fp_app_tails.specs.declared.verdicts.Verdict.{Verdict}
use Rattle.fp_app_tails.specs.declared.verdicts.Verdict.TheVariants as verdict
use Rattle.fp_app_tails.specs.Verdicts.{IsVerdict}
use Rattle.fp_app_tails.proofs.ToldFaults.{told-fault}
use Rattle.fp_app.specs.declared.shown.Shown.{Shown}
use Rattle.fp_app.specs.declared.shown.Shown.TheVariants as shown
use Rattle.fp_app.specs.declared.shown.Status.{Status}
use Rattle.fp_app.specs.declared.shown.Status.TheVariants as status
use Rattle.fp_app.specs.Causes.{ShowsFault}
use Rattle.fp_app.specs.Inputs.{IsTailAnswer, has_tail_in, leading_count}
use Rattle.fp_app.specs.Shown.{status_of}
use Rattle.fp_app.specs.TailChecks.{IsSaidOf, SaidStatus, ShowsSaid, ShowsSaidNo, ShowsSaidYes, shown_of}

-- what is said of the answer at its place is shown
pub said-shown : (input : List ℕ) (lines : List (List (List ℕ))) (place : ℕ) (v : Verdict) (s : Shown) (Y : Type 0) → records_of input ≡ lines → IsTailAnswer input (Some place) → IsVerdict place lines v → s ≡ shown_of v →
    MatchBool (has_tail_in input) (ShowsSaid input s) Y
said-shown input lines place v s Y same tells is shows =
    let at : IsVerdict place (records_of input) v = subst (λ (ls : List (List (List ℕ))). IsVerdict place ls v) (sym same) is in
    rw tells.0 (record { said = v; is = subst (λ (n : ℕ). IsVerdict n (records_of input) v) (sym tells.1) at; shows = shows })

-- what is said is accepted, rejected, or a fault
said-by : (t : Status) (v : Verdict) → (status.Done ≡ t → ⊥) → (status.Rejected ≡ t → ⊥) → (status.BadInput ≡ t → ⊥) → status_of (shown_of v) ≡ t → ⊥
said-by t (verdict.Accepted (Some a)) done rejected fault same = done same
said-by t (verdict.Accepted None) done rejected fault same = done same
said-by t (verdict.Rejected number) done rejected fault same = rejected same
said-by t (verdict.Fault ordinal code) done rejected fault same = fault same

pub said-no_other : (t : Status) (input : List ℕ) (s : Shown) → (status.Done ≡ t → ⊥) → (status.Rejected ≡ t → ⊥) → (status.BadInput ≡ t → ⊥) → ShowsSaid input s → status_of s ≡ t → ⊥
said-no_other t input s done rejected fault told same = said-by t told.said done rejected fault (ap status_of (sym told.shows) ∙ same)

yes-by : (input : List ℕ) (s : Shown) (v : Verdict) → IsSaidOf input v → s ≡ shown_of v → status_of (shown_of v) ≡ status.Done → ShowsSaidYes input s
yes-by input s (verdict.Accepted a) is shows done = record { answer = a; is = is; shows = shows }
yes-by input s (verdict.Rejected number) is shows done = let g = done in cc
yes-by input s (verdict.Fault ordinal code) is shows done = let g = done in cc

pub said-done : (input : List ℕ) (s : Shown) → ShowsSaid input s → status_of s ≡ status.Done → ShowsSaidYes input s
said-done input s told done = yes-by input s told.said told.is told.shows (ap status_of (sym told.shows) ∙ done)

no-by : (input : List ℕ) (number : ℕ) (v : Verdict) → IsSaidOf input v → shown.RejectedPart number ≡ shown_of v → ShowsSaidNo input (shown.RejectedPart number)
no-by input number (verdict.Accepted (Some a)) is same = cc same
no-by input number (verdict.Accepted None) is same = cc same
no-by input number (verdict.Rejected other) is same = record { number = other; is = is; shows = same }
no-by input number (verdict.Fault ordinal code) is same = cc same

pub said-rejected : (input : List ℕ) (number : ℕ) → ShowsSaid input (shown.RejectedPart number) → ShowsSaidNo input (shown.RejectedPart number)
said-rejected input number told = no-by input number told.said told.is told.shows

fault-by : (input : List ℕ) (ordinal code : ℕ) (v : Verdict) → has_tail_in input ≡ true → IsSaidOf input v → shown.BadInput ordinal code ≡ shown_of v → ShowsFault (Some Check) input (shown.BadInput ordinal code)
fault-by input ordinal code (verdict.Accepted (Some a)) tail is same = cc same
fault-by input ordinal code (verdict.Accepted None) tail is same = cc same
fault-by input ordinal code (verdict.Rejected number) tail is same = cc same
fault-by input ordinal code (verdict.Fault first own) tail is same = record {
  fault = record { ordinal = first; code = own };
  first = rw tail (told-fault first own (leading_count input) (records_of input) is);
  shows = same;
}

pub said-fault : (input : List ℕ) (ordinal code : ℕ) → has_tail_in input ≡ true → ShowsSaid input (shown.BadInput ordinal code) → ShowsFault (Some Check) input (shown.BadInput ordinal code)
said-fault input ordinal code tail told = fault-by input ordinal code told.said tail told.is told.shows

pub said-status : (input : List ℕ) (s : Shown) → ShowsSaid input s → SaidStatus input (status_of s)
said-status input s told = record { said = told.said; is = told.is; ends = ap status_of told.shows }
