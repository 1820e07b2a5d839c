-- What the fields of a line without a fault give is in range.
use Rattle.std.proofs.Common.{◌≡◌, ℕ, ◌≤◌, true, List, [], ◌∷◌}
use Rattle.std.specs.Prelude.{All}
use Rattle.std.proofs.lemmas.List.Elements.{All-cons, All-head, All-nil, All-tail}
use Rattle.fp_model.specs.declared.limits.TheConstants.{LATEST}
use Rattle.fp_records_fields.specs.Fields.{number_at}
use Rattle.fp_records_fields.proofs.Numerals.{is_between-limits}
use Rattle.fp_certificate_lines.specs.Ranges.{largest_figure}
use Rattle.fp_certificate.specs.Answers.{is_figure}
use Rattle.fp_certificate.specs.Tables.{with_last}
use Rattle.fp_certificate.specs.Timetables.{is_time}

-- a number that is no larger than a field may be
pub small : (fields : List (List ℕ)) (place : ℕ) → is_figure fields place ≡ true → number_at fields place ≤ largest_figure
small fields place h = (is_between-limits 0 largest_figure fields place h).1

-- a time
pub in-time : (fields : List (List ℕ)) (place : ℕ) → is_time fields place ≡ true → number_at fields place ≤ LATEST
in-time fields place h = (is_between-limits 0 LATEST fields place h).1

-- what holds of each element makes what holds of each of them with the last one changed
pub All-with_last : {A : Type 0} (P Q : A → Type 0) (f : A → A) (xs : List A) → ((x : A) → P x → Q x) → ((x : A) → P x → Q (f x)) → All P xs → All Q (with_last f xs)
All-with_last P Q f [] stays changes all = All-nil Q
All-with_last P Q f (x ∷ []) stays changes all = All-cons Q (f x) [] (changes x (All-head P x [] all)) (All-nil Q)
All-with_last P Q f (x ∷ y ∷ xs) stays changes all =
    All-cons Q x (with_last f (y ∷ xs)) (stays x (All-head P x (y ∷ xs) all)) (All-with_last P Q f (y ∷ xs) stays changes (All-tail P x (y ∷ xs) all))
