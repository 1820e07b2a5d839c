-- What is shown of what was read, or of its fault.
use Rattle.std.proofs.Common.{◌≡◌, ◌∙◌, ℕ, List, sym, ap}
use Rattle.std.specs.Prelude.{Some, Result, Ok, Err, MatchResult}
use Rattle.fp_records_fields.specs.Faults.{Fault}
use Rattle.fp_app_words.specs.declared.orders.Order.{Order}
use Rattle.fp_app.specs.declared.shown.Shown.{Shown}
use Rattle.fp_app.specs.declared.shown.Shown.TheVariants as shown
use Rattle.fp_app.specs.declared.shown.Status.{Status}
use Rattle.fp_app.specs.declared.shown.Status.TheVariants as status
use Rattle.fp_app.specs.Causes.{ShowsFault}
use Rattle.fp_app.specs.Inputs.{fault_in, fault_of}
use Rattle.fp_app.specs.Shown.{status_of}

pub MatchResult_shows : {A : Type 0} (t : Status) (r q : Result A Fault) (P : A → Type 0) (s : Shown) (X : Type 0) → (status.BadInput ≡ t → ⊥) → q ≡ r → status_of s ≡ t →
    MatchResult r P (λ (f : Fault). s ≡ shown.BadInput f.ordinal f.code) → ((x : A) → q ≡ Ok x → P x → X) → X
MatchResult_shows t (Ok x) q P s X good is ends told each = each x is told
MatchResult_shows t (Err f) q P s X good is ends same each = absurd (good (ap status_of (sym same) ∙ ends))

-- the fault of an input that is an instance alone
pub ShowsFault_instance : {A : Type 0} (o : Order) (input : List ℕ) (ordinal code : ℕ) (P : A → Type 0) (read : Result A Fault) → ((p : A) → P p → ⊥) → fault_in (Some o) input ≡ fault_of read →
    (r : Result A Fault) → read ≡ r → MatchResult r P (λ (f : Fault). shown.BadInput ordinal code ≡ shown.BadInput f.ordinal f.code) → ShowsFault (Some o) input (shown.BadInput ordinal code)
ShowsFault_instance o input ordinal code P read never own (Ok p) is told = absurd (never p told)
ShowsFault_instance o input ordinal code P read never own (Err f) is same = record { fault = f; first = own ∙ ap fault_of is; shows = same }
