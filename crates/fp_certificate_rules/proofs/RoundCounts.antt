-- How many points a round adds, where rounds don't fall.
use Rattle.std.proofs.Common.{◌≡◌, ◌≢◌, ℕ, zero, suc, ◌+◌, ◌*◌, ◌<◌, ◌≤◌, Bool, true, false, cond, List, [], ◌∷◌, length, get_or, ⊎_elim, refl, sym, ap, ◌∙◌, subst, arith, eqb-true, eq-eqb}
use Rattle.std.specs.Prelude.{AllPairs, ◌==◌, count_by}
use Rattle.std.proofs.lemmas.Bool.{cases_Bool, cases_lt, eqb-false, ne_eqb}
use Rattle.std.proofs.lemmas.List.Sums.{sum_by-cons}
use Rattle.fp_timenodes.specs.declared.places.AddedPoint.{AddedPoint}

-- rounds don't fall
abbrev pub RoundsAscend : List AddedPoint → Type 0
RoundsAscend added = AllPairs (λ (q r : AddedPoint). q.round ≤ r.round) added

-- how many points a round adds
abbrev pub count_in : ℕ → List AddedPoint → ℕ
count_in round added = count_by (λ (q : AddedPoint). q.round == round) added

-- as a number
abbrev own_count : ℕ → AddedPoint → ℕ
own_count round q = cond (q.round == round) 1 0

count_in_own : (round : ℕ) (q : AddedPoint) (added : List AddedPoint) → q.round ≡ round → count_in round (q ∷ added) ≡ suc (count_in round added)
count_in_own round q added own =
    let one : own_count round q ≡ 1 = ap (λ (b : Bool). cond b 1 0) (eq-eqb q.round round own) in
    omega (arith, one, sum_by-cons (own_count round) q added)

count_in_other : (round : ℕ) (q : AddedPoint) (added : List AddedPoint) → q.round ≢ round → count_in round (q ∷ added) ≡ count_in round added
count_in_other round q added other =
    let none : own_count round q ≡ 0 = ap (λ (b : Bool). cond b 1 0) (ne_eqb q.round round other) in
    omega (arith, none, sum_by-cons (own_count round) q added)

-- a round is the first point's or another
round_cases : (P : Type 0) (round : ℕ) (q : AddedPoint) → (q.round ≡ round → P) → (q.round ≢ round → P) → P
round_cases P round q own other =
    ⊎_elim
    (λ (h : (q.round == round) ≡ true). own (eqb-true q.round round h))
    (λ (h : (q.round == round) ≡ false). other (eqb-false q.round round h))
    (cases_Bool (q.round == round))

RoundsAscend_tail : (q : AddedPoint) (added : List AddedPoint) → RoundsAscend (q ∷ added) → RoundsAscend added
RoundsAscend_tail q added rise i j d less lt = rise (suc i) (suc j) d (omega (arith, less)) (omega (arith, lt))

-- where all rounds are later, none is this one
count_in_none : (round : ℕ) (added : List AddedPoint) → ((k : ℕ) (d : AddedPoint) → k < length added → round < (get_or added k d).round) → count_in round added ≡ 0
count_in_none round [] later = refl
count_in_none round (q ∷ added) later =
    count_in_other round q added (λ same. omega (arith, same, later 0 q (omega arith)))
    ∙ count_in_none round added (λ k d lt. later (suc k) d (omega (arith, lt)))

-- at most so many are of a round that begins with the first point and has ended after so many
count_in_run : (round m : ℕ) (added : List AddedPoint) → RoundsAscend added → ((k : ℕ) (d : AddedPoint) → k < length added → round ≤ (get_or added k d).round) →
    ((d : AddedPoint) → m < length added → (get_or added m d).round ≢ round) → count_in round added ≤ m
count_in_run round m [] rise from ended = omega arith
count_in_run round zero (q ∷ added) rise from ended =
    let first : round ≤ q.round = from 0 q (omega arith) in
    let none : q.round ≢ round = ended q (omega arith) in
    let later : count_in round (q ∷ added) ≡ 0 =
    count_in_none round (q ∷ added) (λ k d lt. above k d lt (omega (arith, first, none))) in
    omega (arith, later)
  where
    above : (k : ℕ) (d : AddedPoint) → k < length (q ∷ added) → round < q.round → round < (get_or (q ∷ added) k d).round
    above zero d lt more = more
    above (suc k) d lt more = omega (arith, more, rise 0 (suc k) d (omega arith) lt)
count_in_run round (suc m) (q ∷ added) rise from ended =
    let rest : count_in round added ≤ m =
    count_in_run round m added (RoundsAscend_tail q added rise) (λ k d lt. from (suc k) d (omega (arith, lt))) (λ d lt. ended d (omega (arith, lt))) in
    round_cases (count_in round (q ∷ added) ≤ suc m) round q
    (λ own. omega (arith, count_in_own round q added own, rest))
    (λ other. omega (arith, count_in_other round q added other, rest))

-- where no point has the round of the eighth after it, a round has at most 8
pub count_in_few : (added : List AddedPoint) → RoundsAscend added →
    ((i : ℕ) (d : AddedPoint) → i + 8 < length added → (get_or added i d).round ≢ (get_or added (i + 8) d).round) → (round : ℕ) → count_in round added ≤ 8
count_in_few [] rise apart round = omega arith
count_in_few (q ∷ added) rise apart round =
    round_cases (count_in round (q ∷ added) ≤ 8) round q
    (λ own. count_in_run round 8 (q ∷ added) rise (from own) (λ d lt same. apart 0 d (omega (arith, lt)) (own ∙ sym same)))
    (λ other. omega (
      arith,
      count_in_other round q added other,
      count_in_few added (RoundsAscend_tail q added rise)
          (λ i d lt.
          let on : suc i + 8 ≡ suc (i + 8) = omega arith in
          subst (λ (k : ℕ). (get_or added i d).round ≢ (get_or (q ∷ added) k d).round) on (apart (suc i) d (omega (arith, lt))))
          round,
    ))
  where
    from : q.round ≡ round → (k : ℕ) (d : AddedPoint) → k < length (q ∷ added) → round ≤ (get_or (q ∷ added) k d).round
    from own zero d lt = omega (arith, own)
    from own (suc k) d lt = omega (arith, own, rise 0 (suc k) d (omega arith) lt)

-- so many points in a row of a round are so many of it
count_in_row : (round i n : ℕ) (added : List AddedPoint) (d : AddedPoint) → i + n ≤ length added → ((k : ℕ) → i ≤ k → k < i + n → (get_or added k d).round ≡ round) → n ≤ count_in round added
count_in_row round i zero added d lt own = omega arith
count_in_row round i (suc n) [] d lt own = absurd (omega (arith, lt))
count_in_row round zero (suc n) (q ∷ added) d lt own =
    let rest : n ≤ count_in round added = count_in_row round 0 n added d (omega (arith, lt)) (λ k le less. own (suc k) (omega arith) (omega (arith, less))) in
    omega (arith, count_in_own round q added (own 0 (omega arith) (omega arith)), rest)
count_in_row round (suc i) (suc n) (q ∷ added) d lt own =
    let rest : suc n ≤ count_in round added =
    count_in_row round i (suc n) added d (omega (arith, lt)) (λ k le less. own (suc k) (omega (arith, le)) (omega (arith, less))) in
    round_cases (suc n ≤ count_in round (q ∷ added)) round q
    (λ same. omega (arith, count_in_own round q added same, rest))
    (λ other. omega (arith, count_in_other round q added other, rest))

-- rounds of later points are no earlier
RoundsAscend_at : (added : List AddedPoint) (i j : ℕ) (d : AddedPoint) → RoundsAscend added → i ≤ j → j < length added → (get_or added i d).round ≤ (get_or added j d).round
RoundsAscend_at added i j d rise le lt =
    ⊎_elim
    (λ (less : i < j). rise i j d less lt)
    (λ (more : j ≤ i). let same : i ≡ j = omega (arith, le, more) in omega (arith, ap (λ (k : ℕ). (get_or added k d).round) same))
    (cases_lt i j)

-- where a point has the round of the eighth after it, that round has more than 8
pub count_in_many : (added : List AddedPoint) (i : ℕ) (d : AddedPoint) → RoundsAscend added → i + 8 < length added → (get_or added i d).round ≡ (get_or added (i + 8) d).round →
    ((round : ℕ) → count_in round added ≤ 8) → ⊥
count_in_many added i d rise lt same few =
    let round : ℕ = (get_or added i d).round in
    let nine : 9 ≤ count_in round added =
    count_in_row round i 9 added d (omega (arith, lt))
    (λ k le less. omega (arith, same, RoundsAscend_at added i k d rise le (omega (arith, less, lt)), RoundsAscend_at added k (i + 8) d rise (omega (arith, less)) lt)) in
    omega (arith, nine, few round)

-- how many points the rounds below a number add
count_below : ℕ → List AddedPoint → ℕ
count_below zero added = 0
count_below (suc n) added = count_in n added + count_below n added

-- with at most 8 a round, and none of round 0, at most 8 times as many as the others
count_below-few : (n : ℕ) (added : List AddedPoint) → count_in 0 added ≡ 0 → ((round : ℕ) → count_in round added ≤ 8) → count_below (suc n) added ≤ 8 * n
unfolding count_below
count_below-few zero added none few = omega (arith, none)
count_below-few (suc n) added none few = omega (arith, few (suc n), count_below-few n added none few)

count_below-more : (n : ℕ) (q : AddedPoint) (added : List AddedPoint) → count_below n added ≤ count_below n (q ∷ added)
unfolding count_below
count_below-more zero q added = omega arith
count_below-more (suc n) q added =
    let rest : count_below n added ≤ count_below n (q ∷ added) = count_below-more n q added in
    round_cases (count_below (suc n) added ≤ count_below (suc n) (q ∷ added)) n q
    (λ own. omega (arith, count_in_own n q added own, rest))
    (λ other. omega (arith, count_in_other n q added other, rest))

count_below-own : (n : ℕ) (q : AddedPoint) (added : List AddedPoint) → q.round < n → suc (count_below n added) ≤ count_below n (q ∷ added)
unfolding count_below
count_below-own zero q added lt = absurd (omega (arith, lt))
count_below-own (suc n) q added lt =
    round_cases (suc (count_below (suc n) added) ≤ count_below (suc n) (q ∷ added)) n q
    (λ own. omega (arith, count_in_own n q added own, count_below-more n q added))
    (λ other. omega (arith, count_in_other n q added other, count_below-own n q added (omega (arith, lt, other))))

length-count_below : (n : ℕ) (added : List AddedPoint) → ((k : ℕ) (d : AddedPoint) → k < length added → (get_or added k d).round < n) → length added ≤ count_below n added
length-count_below n [] within = omega arith
length-count_below n (q ∷ added) within =
    omega (arith, count_below-own n q added (within 0 q (omega arith)), length-count_below n added (λ k d lt. within (suc k) d (omega (arith, lt))))

-- with at most 8 a round, and rounds from 1 up to a number, there are at most 8 times as many as that number
pub length-rounds : (n : ℕ) (added : List AddedPoint) → ((round : ℕ) → count_in round added ≤ 8) →
    ((k : ℕ) (d : AddedPoint) → k < length added → (1 ≤ (get_or added k d).round) × ((get_or added k d).round ≤ n)) → length added ≤ 8 * n
length-rounds n added few within =
    let none : count_in 0 added ≡ 0 = count_in_none 0 added (λ k d lt. (within k d lt).0) in
    omega (arith, length-count_below (suc n) added (λ k d lt. omega (arith, (within k d lt).1)), count_below-few n added none few)
