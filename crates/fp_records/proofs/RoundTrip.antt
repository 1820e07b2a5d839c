-- Printed lines of plain fields read back as those fields.
use Rattle.std.proofs.Common.{◌≡◌, ◌∙◌, ℕ, true, false, not, List, [], ◌∷◌, ◌++◌, Some, refl, ap, append_assoc, sym}
use Rattle.std.specs.List.{list_all, list_any}
use Rattle.std.proofs.lemmas.Bool.{and_parts, false≢true}
use Rattle.std.proofs.lemmas.List.{append-nil}
use Rattle.csv.specs.Machine.{next_record}
use Rattle.csv.specs.Reading.{Reached, default_config, records, strip_bom}
use Rattle.csv.specs.Writing.{default_writer, fields_text, needs_byte}
use Rattle.csv.specs.declared.parser.State.TheVariants as st
use Rattle.csv.proofs.RoundTrip.{plain-run, record-same, rest-run, start-same}
use Rattle.fp_records.specs.Fields.{is_empty, kept_records, records_of}
use Rattle.fp_records.specs.Text.{comma, is_plain, is_plain_field, is_plain_record, joined, line_feed, line_of, lines_of}
use Rattle.fp_records.proofs.PlainFields.{kept_records-plain, plain-byte}
use Rattle.fp_records.proofs.RowFacts.{all-records}

-- A field of plain bytes needs no quotes.
needs-none : (field : List ℕ) → list_all is_plain field ≡ true → list_any (needs_byte default_writer) field ≡ false
needs-none [] plain = refl
needs-none (b ∷ bs) plain =
    let parts = and_parts _ _ plain in
    let byte = plain-byte b parts.0 in
    rw (byte.0, byte.1, byte.2, byte.3) (needs-none bs parts.1)

-- Such fields joined are the first and what the CSV library writes after it.
joined-plain : (field : List ℕ) (rest : List (List ℕ)) → list_all is_plain_field rest ≡ true → joined (field ∷ rest) ≡ field ++ fields_text default_writer rest
unfolding fields_text
joined-plain field [] plain = sym (append-nil field)
joined-plain field (next ∷ rest) plain =
    let parts = and_parts (is_plain_field next) _ plain in
    let bytes = and_parts (not (is_empty next)) _ parts.0 in
    rw (needs-none next bytes.1, joined-plain next rest parts.1) (append_assoc field comma (next ++ fields_text default_writer rest))

-- A line reads as its fields, and what comes after it is left.
line-read : (fields : List (List ℕ)) (tail : List ℕ) → is_plain_record fields ≡ true
    → next_record default_config st.StartRecord [] [] (line_of fields ++ tail) ≡ Some (fields, st.StartRecord, tail)
line-read [] tail plain = cc plain
line-read ([] ∷ rest) tail plain =
    let fields = and_parts (not (is_empty ([] ∷ rest))) _ plain in
    absurd (false≢true fields.1)
line-read ((b ∷ bs) ∷ rest) tail plain =
    let fields = and_parts (not (is_empty ((b ∷ bs) ∷ rest))) _ plain in
    let first = and_parts (is_plain_field (b ∷ bs)) _ fields.1 in
    let bytes = and_parts (not (is_empty (b ∷ bs))) _ first.0 in
    let byte = plain-byte b (and_parts (is_plain b) _ bytes.1).0 in
    let after = fields_text default_writer rest ++ (10 ∷ tail) in
    let text : line_of ((b ∷ bs) ∷ rest) ++ tail ≡ b ∷ (bs ++ after) =
    append_assoc (joined ((b ∷ bs) ∷ rest)) line_feed tail
    ∙ ap (λ (t : List ℕ). t ++ (10 ∷ tail)) (joined-plain (b ∷ bs) rest first.1)
    ∙ append_assoc (b ∷ bs) (fields_text default_writer rest) (10 ∷ tail) in
    ap (λ (t : List ℕ). next_record default_config st.StartRecord [] [] t) text
    ∙ record-same [] [] b (bs ++ after) byte.2 byte.3
    ∙ start-same [] [] b (bs ++ after) byte.1
    ∙ plain-run [] [] (b ∷ bs) after (needs-none (b ∷ bs) bytes.1)
    ∙ rest-run [] (b ∷ bs) rest tail

lines-reached : (rows : List (List (List ℕ))) → list_all is_plain_record rows ≡ true → Reached default_config st.StartRecord (lines_of rows) rows st.StartRecord []
unfolding Reached
lines-reached [] plain = (refl, refl)
lines-reached (row ∷ rows) plain =
    let parts = and_parts _ _ plain in
    ((row, st.StartRecord, lines_of rows), line-read row (lines_of rows) parts.0, refl, lines-reached rows parts.1)

-- The records of the lines of plain records are those records, where the text does not begin with a
-- byte order mark.
pub records_of-lines_of : (rows : List (List (List ℕ))) → list_all is_plain_record rows ≡ true → strip_bom (lines_of rows) ≡ lines_of rows → records_of (lines_of rows) ≡ rows
unfolding next_record
records_of-lines_of rows plain unmarked =
    let all = all-records default_config (lines_of rows) rows (st.StartRecord, [], lines-reached rows plain, refl) in
    ap (λ (text : List ℕ). kept_records (records default_config text)) unmarked ∙ ap kept_records (sym all.0) ∙ kept_records-plain rows plain
