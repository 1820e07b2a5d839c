-- The records of worked texts.
use Rattle.std.proofs.Common.{◌≡◌, ◌∷◌, [], codes, refl}
use Rattle.csv.specs.Machine.{next_record}
use Rattle.csv.specs.Reading.{records_from, strip_bom}
use Rattle.fp_records.specs.Fields.{records_of}
use Rattle.fp_records.specs.Text.{lines_of}

-- A spreadsheet writes a byte order mark, quotes, commas up to a fixed number of fields, and a
-- blank line.
spreadsheet : records_of (239 ∷ 187 ∷ 191 ∷ codes "terminal,\"A\",,,,,\r\narc,\"A\",\"B\",5,10,100,1\r\n,,,,,,\r\n\r\n")
    ≡ (codes "terminal" ∷ codes "A" ∷ []) ∷ (codes "arc" ∷ codes "A" ∷ codes "B" ∷ codes "5" ∷ codes "10" ∷ codes "100" ∷ codes "1" ∷ []) ∷ []
unfolding next_record records_from strip_bom
spreadsheet = refl

-- Blanks at the ends of a field go, those inside stay, as do empty fields before another one.
blanks : records_of (codes " \t a\tb ,  , c,\t\n , ,\t\nd") ≡ (codes "a\tb" ∷ [] ∷ codes "c" ∷ []) ∷ (codes "d" ∷ []) ∷ []
unfolding next_record records_from strip_bom
blanks = refl

-- Of two byte order marks the second stays.
two-marks : records_of (239 ∷ 187 ∷ 191 ∷ 239 ∷ 187 ∷ 191 ∷ codes "a\n") ≡ ((239 ∷ 187 ∷ 191 ∷ codes "a") ∷ []) ∷ []
unfolding next_record records_from strip_bom
two-marks = refl

-- Two lines.
lines : lines_of ((codes "leg" ∷ codes "S1" ∷ codes "0" ∷ []) ∷ (codes "end" ∷ []) ∷ []) ≡ codes "leg,S1,0\nend\n"
lines = refl
