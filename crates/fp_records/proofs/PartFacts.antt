-- Parts of a list that end at rising places, when the list or the places grow.
use Rattle.std.proofs.Common.{◌≡◌, ◌∙◌, ℕ, zero, suc, ◌+◌, ◌-◌, ◌<◌, ◌≤◌, get_or, List, [], ◌∷◌, ◌++◌, take, drop, length, refl, ap, arith}
use Rattle.std.proofs.lemmas.List.{drop-append-le, get_or-drop, get_or-take, length-append, length-drop, length-take-le, take-append-le, take_all}
use Rattle.std.proofs.Math.Seq.{drop-append_seam}
use Rattle.csv.specs.Records.{Rising, last_end, prev}
use Rattle.csv.proofs.RecordFacts.{field-bounds, rising-end, rising-first, rising-last, rising-more}
use Rattle.fp_records.specs.Rows.{parts_from}

-- There is a part for each place.
pub length-parts_from : {A : Type 0} (start : ℕ) (ends : List ℕ) (xs : List A) → length (parts_from start ends xs) ≡ length ends
unfolding parts_from
length-parts_from start [] xs = refl
length-parts_from start (end ∷ ends) xs = ap suc (length-parts_from end ends xs)

-- Elements after the last place are in no part.
pub parts_from-more : {A : Type 0} (start : ℕ) (ends : List ℕ) (xs more : List A) → Rising start ends (length xs)
    → parts_from start ends (xs ++ more) ≡ parts_from start ends xs
unfolding parts_from Rising
parts_from-more start [] xs more h = refl
parts_from-more start (end ∷ ends) xs more h =
    let up = rising-first end ends (length xs) h.1 in
    let low = h.0 in
    let at : start ≤ length xs = omega arith in
    let size = length-drop start xs in
    let fits : end - start ≤ length (drop start xs) = omega arith in
    let head : take (end - start) (drop start (xs ++ more)) ≡ take (end - start) (drop start xs) =
    rw (drop-append-le start xs more at) (take-append-le (end - start) (drop start xs) more fits) in
    rw (head, parts_from-more end ends xs more h.1) refl

-- The length as one more place adds the elements after the last place.
pub parts_from-end : {A : Type 0} (start : ℕ) (ends : List ℕ) (xs : List A) → Rising start ends (length xs)
    → parts_from start (ends ++ (length xs ∷ [])) xs ≡ parts_from start ends xs ++ (drop (last_end start ends) xs ∷ [])
unfolding parts_from Rising last_end
parts_from-end start [] xs h =
    let size = length-drop start xs in
    let all : length (drop start xs) ≤ length xs - start = omega arith in
    rw (take_all (length xs - start) (drop start xs) all) refl
parts_from-end start (end ∷ ends) xs h = rw (parts_from-end end ends xs h.1) refl

-- The elements after the last place are one element more.
pub rest-more : {A : Type 0} (ends : List ℕ) (xs more : List A) → Rising 0 ends (length xs)
    → drop (last_end 0 ends) (xs ++ more) ≡ drop (last_end 0 ends) xs ++ more
rest-more ends xs more h = drop-append-le (last_end 0 ends) xs more (rising-last 0 ends (length xs) h)

-- The part at a place.
pub parts_from-at : {A : Type 0} (start : ℕ) (ends : List ℕ) (xs : List A) (i : ℕ) → i < length ends
    → get_or (parts_from start ends xs) i [] ≡ take (get_or ends i 0 - prev start ends i) (drop (prev start ends i) xs)
unfolding parts_from prev
parts_from-at start [] xs i within = absurd (omega arith)
parts_from-at start (end ∷ ends) xs zero within = refl
parts_from-at start (end ∷ ends) xs (suc i) within = parts_from-at end ends xs i (omega arith)

-- How long it is.
pub length-part : {A : Type 0} (ends : List ℕ) (xs : List A) (i : ℕ) → Rising 0 ends (length xs) → i < length ends
    → length (get_or (parts_from 0 ends xs) i []) ≡ get_or ends i 0 - prev 0 ends i
length-part ends xs i h within =
    let bounds = field-bounds 0 ends (length xs) i h within in
    let low = bounds.0 in
    let high = bounds.1 in
    let left = length-drop (prev 0 ends i) xs in
    let fits : get_or ends i 0 - prev 0 ends i ≤ length (drop (prev 0 ends i) xs) = omega arith in
    rw (parts_from-at 0 ends xs i within) (length-take-le (get_or ends i 0 - prev 0 ends i) (drop (prev 0 ends i) xs) fits)

-- Its element at a place is one of the list, after where it starts.
pub part-at : {A : Type 0} (ends : List ℕ) (xs : List A) (i k : ℕ) (d : A) → Rising 0 ends (length xs) → i < length ends
    → k < length (get_or (parts_from 0 ends xs) i []) → get_or (get_or (parts_from 0 ends xs) i []) k d ≡ get_or xs (prev 0 ends i + k) d
part-at ends xs i k d h within inside =
    let size = length-part ends xs i h within in
    let below : k < get_or ends i 0 - prev 0 ends i = omega arith in
    rw (parts_from-at 0 ends xs i within) (get_or-take (get_or ends i 0 - prev 0 ends i) (drop (prev 0 ends i) xs) k d below ∙ get_or-drop (prev 0 ends i) xs k d)

-- Elements more, with one place more after them, are one part more.
pub parts_from-push : {A : Type 0} (ends : List ℕ) (xs more : List A) → Rising 0 ends (length xs) → last_end 0 ends ≡ length xs
    → parts_from 0 (ends ++ (length (xs ++ more) ∷ [])) (xs ++ more) ≡ parts_from 0 ends xs ++ (more ∷ [])
parts_from-push ends xs more h whole =
    let size = length-append xs more in
    let rises = rising-more 0 ends (length xs) (length (xs ++ more)) h (omega arith) in
    let last : drop (last_end 0 ends) (xs ++ more) ≡ more = rw whole (drop-append_seam xs more) in
    rw (parts_from-end 0 ends (xs ++ more) rises, parts_from-more 0 ends xs more h, last) refl

-- The places rise still.
pub rising-push : {A : Type 0} (ends : List ℕ) (xs more : List A) → Rising 0 ends (length xs) → Rising 0 (ends ++ (length (xs ++ more) ∷ [])) (length (xs ++ more))
rising-push ends xs more h =
    let size = length-append xs more in
    rising-end 0 ends (length (xs ++ more)) (rising-more 0 ends (length xs) (length (xs ++ more)) h (omega arith))

-- An element of a part is one of the list.
pub place-within : {A : Type 0} (ends : List ℕ) (xs : List A) (i k : ℕ) → Rising 0 ends (length xs) → i < length ends
    → k < length (get_or (parts_from 0 ends xs) i []) → prev 0 ends i + k < length xs
place-within ends xs i k h within inside =
    let bounds = field-bounds 0 ends (length xs) i h within in
    let low = bounds.0 in
    let high = bounds.1 in
    let size = length-part ends xs i h within in
    omega arith

-- There is a place for each part.
pub place-of : {A : Type 0} (ends : List ℕ) (xs : List A) (parts : List (List A)) (i : ℕ) → parts_from 0 ends xs ≡ parts → i < length parts → i < length ends
place-of ends xs parts i is within =
    let count : length parts ≡ length ends = rw (← is) (length-parts_from 0 ends xs) in
    omega arith

-- Where the field of a row stands in a text, by the place where the row starts.
pub record IsFieldAt (ends text field : List ℕ) (at : ℕ) : Type 0 where
  pub within : at < length ends
  pub order : prev 0 ends at ≤ get_or ends at 0
  pub fits : get_or ends at 0 ≤ length text
  pub is : field ≡ take (get_or ends at 0 - prev 0 ends at) (drop (prev 0 ends at) text)

pub field-of-row : (row_ends ends text : List ℕ) (rows : List (List (List ℕ))) (i k start : ℕ) → parts_from 0 row_ends (parts_from 0 ends text) ≡ rows → Rising 0 ends (length text) → Rising 0 row_ends (length ends)
    → i < length rows → k < length (get_or rows i []) → start ≡ prev 0 row_ends i → IsFieldAt ends text (get_or (get_or rows i []) k []) (start + k)
field-of-row row_ends ends text rows i k start is rises row_rises row inside starts =
    let fields = parts_from 0 ends text in
    let count = length-parts_from 0 ends text in
    let all : Rising 0 row_ends (length fields) = rw count row_rises in
    let there : i < length row_ends = place-of row_ends fields rows i is row in
    let among : k < length (get_or (parts_from 0 row_ends fields) i []) = rw is inside in
    let place : prev 0 row_ends i + k < length fields = place-within row_ends fields i k all there among in
    let within : start + k < length ends = omega arith in
    let bounds = field-bounds 0 ends (length text) (start + k) rises within in
    let same : prev 0 row_ends i + k ≡ start + k = omega arith in
    record {
      within = within;
      order = bounds.0;
      fits = bounds.1;
      is = rw (← is) (part-at row_ends fields i k [] all there among ∙ ap (λ (n : ℕ). get_or fields n []) same ∙ parts_from-at 0 ends text (start + k) within);
    }
