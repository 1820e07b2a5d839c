-- Lines of text: fields joined by commas, each line ended by a line feed.
use Rattle.std.specs.Prelude.{ℕ, Bool, not, ◌==◌, ◌||◌, ◌&&◌, List, [], ◌∷◌, ◌++◌, if◌then◌else◌}
use Rattle.std.specs.List.{flat_map, list_all}
use Rattle.fp_records.specs.Fields.{is_blank, is_empty}

-- What a line builder has: the text so far, and whether its last line has a field.
pub record Lines : Type 0 where
  pub text : List ℕ
  pub begun : Bool

-- The byte between two fields.
abbrev pub comma : List ℕ
comma = 44 ∷ []

-- The byte that ends a line.
abbrev pub line_feed : List ℕ
line_feed = 10 ∷ []

-- The text with one more field on its last line.
abbrev pub with_field : Lines → List ℕ → Lines
with_field s f = record { text = s.text ++ (if s.begun then comma else []) ++ f; begun = Bool.true }

-- The text with its last line ended.
abbrev pub with_end : Lines → Lines
with_end s = record { text = s.text ++ line_feed; begun = Bool.false }

-- Fields joined by commas.
abbrev pub joined : List (List ℕ) → List ℕ
joined [] = []
joined (f ∷ []) = f
joined (f ∷ g ∷ rest) = f ++ comma ++ joined (g ∷ rest)

-- The text of one line.
abbrev pub line_of : List (List ℕ) → List ℕ
line_of fields = joined fields ++ line_feed

-- The text of many lines, one after the other.
abbrev pub lines_of : List (List (List ℕ)) → List ℕ
lines_of rows = flat_map line_of rows

-- Whether a byte needs no quotes and is not stripped: it is no comma, quote, carriage return, line
-- feed, space or tab.
abbrev pub is_plain : ℕ → Bool
is_plain b = not ((b == 44) || (b == 34) || (b == 13) || (b == 10) || is_blank b)

-- Whether a field has a byte, and only plain ones.
abbrev pub is_plain_field : List ℕ → Bool
is_plain_field field = not (is_empty field) && list_all is_plain field

-- Whether a record has a field, and only plain ones.
abbrev pub is_plain_record : List (List ℕ) → Bool
is_plain_record fields = not (is_empty fields) && list_all is_plain_field fields
