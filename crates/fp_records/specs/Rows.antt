-- Rows of fields that lie one after the other, with the places where fields and rows end.
use Rattle.std.specs.Prelude.{ℕ, ◌-◌, ◌≡◌, List, [], ◌∷◌, take, drop, length}
use Rattle.csv.specs.Records.{Rising, last_end}
use Rattle.fp_records.specs.declared.rows.Rows.TheInside.{Inside}

-- The parts of a list that end at these places, after a start.
unfoldable pub parts_from : {A : Type 0} → ℕ → List ℕ → List A → List (List A)
parts_from start [] xs = []
parts_from start (end ∷ ends) xs = take (end - start) (drop start xs) ∷ parts_from end ends xs

-- What rows are: those that have ended, and the fields after them.
pub record Listing : Type 0 where
  pub ended : List (List (List ℕ))
  pub begun : List (List ℕ)

-- All fields of rows, in order.
abbrev pub fields_in : Inside → List (List ℕ)
fields_in r = parts_from 0 r.field_ends.items r.text.items

-- What rows are, of what they are held in.
abbrev pub listing_of : Inside → Listing
listing_of r = record {
  ended = parts_from 0 r.row_ends.items (fields_in r);
  begun = drop (last_end 0 r.row_ends.items) (fields_in r);
}

-- The places rise: fields up to the end of the text, rows up to the last field.
pub record AreWithin (r : Inside) : Type 0 where
  pub fields : Rising 0 r.field_ends.items (length r.text.items)
  pub whole : last_end 0 r.field_ends.items ≡ length r.text.items
  pub rows : Rising 0 r.row_ends.items (length r.field_ends.items)
