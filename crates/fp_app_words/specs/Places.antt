-- Places: words in a fixed order, each a number.
use Rattle.std.specs.Prelude.{ℕ, Bool, List, ◌==◌, ◌&&◌, None, Some, if◌then◌else◌, length}
use Rattle.std.specs.List.{list_all, zip}
use Rattle.std.specs.declared.option.Option.{Option}
use Rattle.fp_records_fields.specs.Fields.{number_at}
use Rattle.fp_app_words.specs.declared.orders.Order.{Order}
use Rattle.fp_app_words.specs.Settings.{Setting, is_number_between}

-- whether the words fill these places: as many words as places, each a number in its place's range
abbrev pub are_numbers : List Setting → List (List ℕ) → Bool
are_numbers settings words = (length words == length settings) && list_all (λ (p : Setting × List ℕ). is_number_between p.0.least p.0.most p.1) (zip settings words)

-- what words order that fill these places, by the numbers in them
abbrev pub by_places : List Setting → ((ℕ → ℕ) → Order) → List (List ℕ) → Option Order
by_places settings order words = if are_numbers settings words then Some (order (number_at words)) else None
