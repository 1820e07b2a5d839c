-- The fields of a record, and what they hold.
use Rattle.std.specs.Prelude.{ℕ, List, [], length, Bool, ◌==◌, ◌&&◌, not, nat_le, slice_index_or}
use Rattle.std.specs.List.{list_all}
use Rattle.std.specs.Str.{bytes_eq}
use Rattle.std.specs.Str.Parse.{digits_value}
use Rattle.std.specs.Char.{is_ascii_digit}
use Rattle.fp_model.specs.declared.limits.TheConstants.{LONGEST_NAME}
use Rattle.fp_model.specs.Names.{is_name_byte}

-- the field at a place, empty where there is none
abbrev pub field : List (List ℕ) → ℕ → List ℕ
field fields place = slice_index_or fields place []

-- whether the record is of the kind with this word, its first field
abbrev pub is_kind : List ℕ → List (List ℕ) → Bool
is_kind word fields = bytes_eq (field fields 0) word

-- whether the field at a place is a word
abbrev pub has_word : List ℕ → List (List ℕ) → ℕ → Bool
has_word word fields place = bytes_eq (field fields place) word

-- whether bytes may be a name: 1 to 32 ASCII letters, digits, `_` or `-`
abbrev pub is_name : List ℕ → Bool
is_name bytes = not (length bytes == 0) && nat_le (length bytes) LONGEST_NAME && list_all is_name_byte bytes

-- whether bytes are a number: one or more ASCII digits, of any count
abbrev pub is_number : List ℕ → Bool
is_number bytes = not (length bytes == 0) && list_all is_ascii_digit bytes

-- the number that digits write, leading zeros allowed
abbrev pub number : List ℕ → ℕ
number digits = digits_value 10 digits

-- whether the number that digits write lies between two others
abbrev pub is_within : ℕ → ℕ → List ℕ → Bool
is_within low high digits = nat_le low (number digits) && nat_le (number digits) high

-- whether the field at a place may be a name
abbrev pub has_name : List (List ℕ) → ℕ → Bool
has_name fields place = is_name (field fields place)

-- whether the field at a place is a number
abbrev pub has_number : List (List ℕ) → ℕ → Bool
has_number fields place = is_number (field fields place)

-- the number in the field at a place
abbrev pub number_at : List (List ℕ) → ℕ → ℕ
number_at fields place = number (field fields place)

-- whether the number in the field at a place lies between two others
abbrev pub is_between : ℕ → ℕ → List (List ℕ) → ℕ → Bool
is_between low high fields place = is_within low high (field fields place)
