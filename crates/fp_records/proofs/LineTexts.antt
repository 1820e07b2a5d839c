-- A line that is built field by field is its fields joined by commas, and a line feed.
use Rattle.std.proofs.Common.{◌≡◌, ◌∙◌, ℕ, true, false, List, [], ◌∷◌, ◌++◌, refl, ap, append_assoc}
use Rattle.std.proofs.lemmas.List.{append-nil}
use Rattle.fp_records.specs.Text.{Lines, comma, joined, line_feed, line_of, with_end, with_field}
use Rattle.std.specs.Prelude.{Result, Ok, Err, OnOk}

-- A line with more fields.
abbrev pub with_fields : Lines → List (List ℕ) → Lines
with_fields line [] = line
with_fields line (f ∷ fields) = with_fields (with_field line f) fields

-- A line whose last field is f.
abbrev pub after_field : List ℕ → List ℕ → Lines
after_field text f = record { text = text ++ f; begun = true }

-- The fields behind it are joined to it.
joined-after : (text f : List ℕ) (fields : List (List ℕ)) → (with_fields (after_field text f) fields).text ≡ text ++ joined (f ∷ fields)
joined-after text f [] = refl
joined-after text f (g ∷ fields) =
    joined-after (text ++ f ++ comma) g fields ∙ simp append_assoc

-- The line as a whole.
pub built-line : (line : Lines) (f : List ℕ) (fields : List (List ℕ)) → line.begun ≡ false
    → (with_end (with_fields line (f ∷ fields))).text ≡ line.text ++ line_of (f ∷ fields)
built-line line f fields fresh =
    let start : with_field line f ≡ after_field line.text f = rw fresh (simp append-nil) in
    ap (λ (l : Lines). (with_fields l fields).text ++ line_feed) start
    ∙ ap (λ (t : List ℕ). t ++ line_feed) (joined-after line.text f fields)
    ∙ append_assoc line.text (joined (f ∷ fields)) line_feed

-- Where the end was written, the text has the line.
pub ended-line : {T E : Type 0} (r : Result T E) (line new : Lines) (f : List ℕ) (fields : List (List ℕ)) → line.begun ≡ false
    → OnOk r (new ≡ with_end (with_fields line (f ∷ fields))) → OnOk r (new.text ≡ line.text ++ line_of (f ∷ fields))
ended-line (Ok t) line new f fields fresh h = ap (λ (l : Lines). l.text) h ∙ built-line line f fields fresh
ended-line (Err e) line new f fields fresh h = h
