-- What `quote` shows with each status, of the last shipment or of a named one.
use Rattle.std.proofs.Common.{◌≡◌, ℕ, Bool, List, refl}
use Rattle.std.specs.Prelude.{Option, Some, None}
use Rattle.fp_session_history.specs.declared.budgets.Budget.{Budget}
use Rattle.fp_app_words.specs.declared.orders.Order.TheVariants.{Quote}
use Rattle.fp_app.specs.declared.shown.Shown.{Shown}
use Rattle.fp_app.specs.declared.shown.Shown.TheVariants as shown
use Rattle.fp_app.specs.declared.shown.Status.TheVariants as status
use Rattle.fp_app.specs.Causes.{ShowsDone, ShowsFault, ShowsInfeasible, ShowsOpen}
use Rattle.fp_app.specs.Inputs.{named_in, quoted_in}
use Rattle.fp_app.specs.NamedQuotes.{ShowsNamedQuote}
use Rattle.fp_app.specs.Runs.{ShowsInput, ShowsQuote}
use Rattle.fp_app.specs.Searches.{within}
use Rattle.fp_app.specs.Shown.{status_of}
use Rattle.fp_app.proofs.NamedCauses.{named-done, named-none, named-open}
use Rattle.fp_app.proofs.QuoteCauses.{quote-done, quote-none, quote-open}
use Rattle.fp_app.proofs.ReadCauses.{ShowsFault_instance}

module _ (over : Bool) (budget : Budget) (spans : Bool) (seconds : Option ℕ) (notes : Bool) where
  -- a refusal of its input
  pub quotes-fault : (name : Option (List ℕ)) (input : List ℕ) (ordinal code : ℕ) → ShowsInput over (Quote budget spans seconds notes name) input (shown.BadInput ordinal code) →
      ShowsFault (Some (Quote budget spans seconds notes name)) input (shown.BadInput ordinal code)
  quotes-fault None input ordinal code told =
      ShowsFault_instance (Quote budget spans seconds notes None) input ordinal code (λ p. ShowsQuote (within budget over spans) p (shown.BadInput ordinal code)) (quoted_in input) (λ p none. none) refl (quoted_in input) refl told
  quotes-fault (Some name) input ordinal code told =
      ShowsFault_instance (Quote budget spans seconds notes (Some name)) input ordinal code (λ p. ShowsNamedQuote (within budget over spans) name p (shown.BadInput ordinal code)) (named_in name input) (λ p none. none) refl (named_in name input) refl told

  -- what it shows where it is done, unfinished, or no plan exists
  pub quotes-done : (name : Option (List ℕ)) (input : List ℕ) (s : Shown) → ShowsInput over (Quote budget spans seconds notes name) input s → status_of s ≡ status.Done → ShowsDone over (Some (Quote budget spans seconds notes name)) input s
  quotes-done None input s told done = quote-done (within budget over spans) input s told done
  quotes-done (Some name) input s told done = named-done (within budget over spans) name input s told done

  pub quotes-open : (name : Option (List ℕ)) (input : List ℕ) (s : Shown) → ShowsInput over (Quote budget spans seconds notes name) input s → status_of s ≡ status.Unfinished → ShowsOpen over (Some (Quote budget spans seconds notes name)) input s
  quotes-open None input s told ends = quote-open (within budget over spans) input s told ends
  quotes-open (Some name) input s told ends = named-open (within budget over spans) name input s told ends

  pub quotes-none : (name : Option (List ℕ)) (input : List ℕ) (s : Shown) → ShowsInput over (Quote budget spans seconds notes name) input s → status_of s ≡ status.Infeasible → ShowsInfeasible (Some (Quote budget spans seconds notes name)) input s
  quotes-none None input s told none = quote-none (within budget over spans) budget spans seconds notes input s told none
  quotes-none (Some name) input s told none = named-none (within budget over spans) budget spans seconds notes name input s told none
