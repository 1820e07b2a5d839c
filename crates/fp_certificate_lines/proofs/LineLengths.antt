-- How many bytes lines have: of fields and numbers, of some lines each of which is short.
use Rattle.std.proofs.Common.{◌≡◌, ℕ, ◌+◌, ◌*◌, ◌<◌, ◌≤◌, ◌^◌, List, [], ◌∷◌, ◌++◌, map, length, sym, ap, ◌∙◌, subst, arith}
use Rattle.std.specs.Prelude.{All, decimal}
use Rattle.std.specs.List.{AllByRecursion, flat_map}
use Rattle.std.proofs.lemmas.Fmt.{length-decimal-le_wide}
use Rattle.std.proofs.lemmas.Grind.{flat_map-append}
use Rattle.std.proofs.lemmas.List.{length-append}
use Rattle.std.proofs.lemmas.List.Concat.{flat_map-cons}
use Rattle.std.proofs.lemmas.List.Elements.{All-append, All-map, All-nil, All-weaker, recursion_from_All}
use Rattle.fp_model.specs.declared.limits.TheConstants.{LAST_ROUND, LATEST}
use Rattle.fp_records.specs.Text.{comma, joined, line_feed, line_of, lines_of}
use Rattle.fp_certificate_lines.specs.Ranges.{largest_figure}

-- the bytes of a line with these fields, each followed by a comma or by the line feed
abbrev pub field_bytes : List (List ℕ) → ℕ
field_bytes [] = 0
field_bytes (f ∷ fields) = length f + (1 + field_bytes fields)

joined-bytes : (f : List ℕ) (fields : List (List ℕ)) → length (joined (f ∷ fields)) + 1 ≡ field_bytes (f ∷ fields)
joined-bytes f [] = omega arith
joined-bytes f (g ∷ fields) =
    let whole : length (joined (f ∷ (g ∷ fields))) ≡ length (f ++ comma) + length (joined (g ∷ fields)) = length-append (f ++ comma) (joined (g ∷ fields)) in
    omega (arith, whole, length-append f comma, joined-bytes g fields)

-- a line has so many bytes
pub line-bytes : (f : List ℕ) (fields : List (List ℕ)) → length (line_of (f ∷ fields)) ≡ field_bytes (f ∷ fields)
line-bytes f fields = omega (arith, length-append (joined (f ∷ fields)) line_feed, joined-bytes f fields)

-- numbers with few digits
pub digits-le : (k n : ℕ) → 0 < k → n < 10 ^ k → n < 10 ^ 64 → length (decimal n) ≤ k
digits-le = length-decimal-le_wide

-- a time, a round, a number of 32 bits, and a figure
pub time-digits : (n : ℕ) → n ≤ LATEST + 1 → length (decimal n) ≤ 6
time-digits n le = digits-le 6 n (omega arith) (omega (arith, le)) (omega (arith, le))

pub round-digits : (n : ℕ) → n ≤ LAST_ROUND → length (decimal n) ≤ 4
round-digits n le = digits-le 4 n (omega arith) (omega (arith, le)) (omega (arith, le))

pub short-digits : (n : ℕ) → n < 2 ^ 32 → length (decimal n) ≤ 10
short-digits n lt = digits-le 10 n (omega arith) (omega (arith, lt)) (omega (arith, lt))

pub figure-digits : (n : ℕ) → n ≤ largest_figure → length (decimal n) ≤ 39
figure-digits n le = digits-le 39 n (omega arith) (omega (arith, le)) (omega (arith, le))

-- a length with a word's own
pub word : (w : List ℕ) (n : ℕ) → length w ≡ n → length w ≤ n
word w n is = omega (arith, is)

-- a line has at most so many bytes
abbrev pub IsShortRow : ℕ → List (List ℕ) → Type 0
IsShortRow k row = length (line_of row) ≤ k

-- the bytes of more lines
pub lines-append : (rows more : List (List (List ℕ))) → length (lines_of (rows ++ more)) ≡ length (lines_of rows) + length (lines_of more)
lines-append rows more = ap length (flat_map-append line_of rows more) ∙ length-append (lines_of rows) (lines_of more)

pub lines-cons : (row : List (List ℕ)) (rows : List (List (List ℕ))) → length (lines_of (row ∷ rows)) ≡ length (line_of row) + length (lines_of rows)
lines-cons row rows = ap length (flat_map-cons line_of row rows) ∙ length-append (line_of row) (lines_of rows)

-- lines that are short have at most so many bytes together
rows-each : (k : ℕ) (rows : List (List (List ℕ))) → AllByRecursion (IsShortRow k) rows → length (lines_of rows) ≤ length rows * k
rows-each k [] all = omega arith
rows-each k (row ∷ rows) all = omega (arith, lines-cons row rows, all.0, rows-each k rows all.1)

pub rows-bytes : (k : ℕ) (rows : List (List (List ℕ))) → All (IsShortRow k) rows → length (lines_of rows) ≤ length rows * k
rows-bytes k rows short = rows-each k rows (recursion_from_All (IsShortRow k) rows short)

-- what holds of each part holds of the whole
flat-each : {X Y : Type 0} (Q : Y → Type 0) (f : X → List Y) (xs : List X) → AllByRecursion (λ x. All Q (f x)) xs → All Q (flat_map f xs)
flat-each Q f [] all = All-nil Q
flat-each Q f (x ∷ xs) all = subst (All Q) (sym (flat_map-cons f x xs)) (All-append Q (f x) (flat_map f xs) all.0 (flat-each Q f xs all.1))

pub All-flat_map : {X Y : Type 0} (P : X → Type 0) (Q : Y → Type 0) (f : X → List Y) → ((x : X) → P x → All Q (f x)) → (xs : List X) → All P xs → All Q (flat_map f xs)
All-flat_map P Q f each xs all = flat-each Q f xs (recursion_from_All (λ x. All Q (f x)) xs (All-weaker P (λ x. All Q (f x)) each xs all))

-- and so of what a function makes of each element
pub All-made : {X Y : Type 0} (P : X → Type 0) (Q : Y → Type 0) (f : X → Y) → ((x : X) → P x → Q (f x)) → (xs : List X) → All P xs → All Q (map f xs)
All-made P Q f each xs all = All-map Q f xs (All-weaker P (λ x. Q (f x)) each xs all)
