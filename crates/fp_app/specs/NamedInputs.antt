-- What an input gives for a name, and the parts of what `quote NAME` shows.
use Rattle.std.specs.Prelude.{ℕ, ◌≡◌, ◌<◌, List, length, Some, Ok, Err}
use Rattle.fp_model.specs.Problem.{Problem}
use Rattle.fp_records_fields.specs.NamedParts.{shipment_named}
use Rattle.fp_app.specs.declared.commands.named_quotes.NamedInput.{NamedInput}
use Rattle.fp_app.specs.declared.commands.named_quotes.NamedInput.TheVariants as given
use Rattle.fp_app.specs.declared.shown.Shown.{Shown}
use Rattle.fp_app.specs.declared.shown.Shown.TheVariants as shown
use Rattle.fp_app.specs.Inputs.{named_in, with_named}
use Rattle.fp_app.specs.NamedQuotes.{IsLastQuote}
use Rattle.fp_app.specs.Searches.{Allowance}

-- the number of the shipment with a name
abbrev pub IsNumberOf : List ℕ → Problem → ℕ → Type 0
IsNumberOf name p k = (shipment_named p name ≡ Some k) × (k < length p.shipments)

-- it is an instance with the number of the shipment of a name, or that it has none
abbrev pub IsNamedNumber : List ℕ → Problem → NamedInput → Type 0
IsNamedNumber name p (given.Read q k) = (with_named name p ≡ Ok q) × IsNumberOf name q k
IsNamedNumber name p (given.Fault ordinal code) = with_named name p ≡ Err (record { ordinal = ordinal; code = code })

-- it is the instance of an input alone with the number of the shipment of a name, or the first fault
abbrev pub IsNamedInput : List ℕ → List ℕ → NamedInput → Type 0
IsNamedInput name input (given.Read p k) = (named_in name input ≡ Ok p) × IsNumberOf name p k
IsNamedInput name input (given.Fault ordinal code) = named_in name input ≡ Err (record { ordinal = ordinal; code = code })

-- what is shown is a quote of the last shipment of an instance
abbrev pub ShowsLastQuote : Allowance → Problem → Shown → Type 0
ShowsLastQuote allowed q (shown.NamedQuote instance before after more) = (instance ≡ q) × IsLastQuote q allowed before after more
ShowsLastQuote allowed q _ = ⊥
