-- The records of a text: those that CSV defines for it, with blanks and empty ends taken off.
use Rattle.std.specs.Prelude.{◌==◌, ◌||◌, ◌-◌, ℕ, Bool, not, List, map, take, drop, length}
use Rattle.std.specs.List.{filter, prefix_len, suffix_len}
use Rattle.csv.specs.Reading.{default_config, strip_bom, records}

-- Whether a byte is a space or a tab.
abbrev pub is_blank : ℕ → Bool
is_blank b = (b == 32) || (b == 9)

-- Whether a list has no element.
abbrev pub is_empty : {A : Type 0} → List A → Bool
is_empty xs = length xs == 0

-- A list without the elements at its front that pass the test.
abbrev pub without_front : {A : Type 0} → (A → Bool) → List A → List A
without_front p xs = drop (prefix_len p xs) xs

-- A list without the elements at its end that pass the test.
abbrev pub without_end : {A : Type 0} → (A → Bool) → List A → List A
without_end p xs = take (length xs - suffix_len p xs) xs

-- A field with no blank at either end.
abbrev pub stripped : List ℕ → List ℕ
stripped field = without_end is_blank (without_front is_blank field)

-- The fields of a record, each stripped, with no empty field at the end.
abbrev pub kept_fields : List (List ℕ) → List (List ℕ)
kept_fields fields = without_end is_empty (map stripped fields)

-- How many fields of a record are kept.
abbrev pub kept_count : List (List ℕ) → ℕ
kept_count fields = length fields - suffix_len is_empty (map stripped fields)

-- What is kept of each record, where a field is left.
abbrev pub kept_records : List (List (List ℕ)) → List (List (List ℕ))
kept_records rows = filter (λ r. not (is_empty r)) (map kept_fields rows)

-- The records of a text: commas, double quotes, no header row, any number of fields, and one byte
-- order mark passed over.
abbrev pub records_of : List ℕ → List (List (List ℕ))
records_of bytes = kept_records (records default_config (strip_bom bytes))
