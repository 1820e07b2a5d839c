-- Where a shipment is after a legal history.
use Rattle.std.proofs.Common.{◌≡◌, ◌∙◌, ℕ, zero, suc, ◌+◌, ◌-◌, ◌<◌, ◌≤◌, Bool, true, false, not, ◌&&◌, cond, List, [], ◌∷◌, length, drop, get_or, inl, inr, ⊎_elim, refl, sym, ap, ap₂, subst, arith, Some}
use Rattle.std.specs.Prelude.{◌⊎◌, filter, find}
use Rattle.std.proofs.lemmas.Bool.{cases_Bool, false≢true}
use Rattle.std.proofs.Math.Nat.{eq-or-lt_of_le}
use Rattle.std.proofs.Math.Seq.{drop-cons, drop-length}
use Rattle.std.proofs.lemmas.List.{get_or-drop, length-drop}
use Rattle.fp_yard.specs.declared.events.Event.{Event}
use Rattle.fp_yard.specs.declared.events.YardPlace.TheVariants.{At, Aboard}
use Rattle.fp_yard.specs.Events.{IsLegal, arrived, departed}
use Rattle.fp_yard.specs.Places.{aboard_or_at, last_end, place_along, place_of, rolls}
use Rattle.fp_yard.specs.Schedules.{IsJourney, Schedule, end_of, head_at, journey_at, start_of, tail_at}
use Rattle.fp_yard.proofs.Histories.{all-before, arrived-departed, not-arrived}

-- a line that has arrived only moves the start
pub place-done : (s : Schedule) (h : List Event) (start line : ℕ) (lines : List ℕ) → arrived h line ≡ true →
    place_along s h start (line ∷ lines) ≡ place_along s h (head_at s line) lines
place-done s h start line lines done =
    let still : rolls h line ≡ false = rolls-false (departed h line) (arrived h line) done in
    ap₂ aboard_or_at
    (ap (λ (b : Bool). cond b (Some line) (find (rolls h) lines)) still)
    (ap (λ (b : Bool). last_end s start (cond b (line ∷ filter (arrived h) lines) (filter (arrived h) lines))) done)
  where
    rolls-false : (a b : Bool) → b ≡ true → (a && not b) ≡ false
    rolls-false true true is = refl
    rolls-false false true is = refl
    rolls-false true false is = absurd (false≢true is)
    rolls-false false false is = refl

-- a line on its way has the shipment aboard
pub place-rolling : (s : Schedule) (h : List Event) (start line : ℕ) (lines : List ℕ) → departed h line ≡ true → arrived h line ≡ false →
    place_along s h start (line ∷ lines) ≡ Aboard line
place-rolling s h start line lines left still =
    ap (λ (b : Bool). aboard_or_at (cond b (Some line) (find (rolls h) lines)) (last_end s start (filter (arrived h) (line ∷ lines))))
    (ap₂ (λ (a b : Bool). a && not b) left still)

-- while none has departed, the shipment is where it was
pub place-waiting : (s : Schedule) (h : List Event) (start : ℕ) (lines : List ℕ) →
    ((i : ℕ) → i < length lines → (departed h (get_or lines i 0) ≡ false) × (arrived h (get_or lines i 0) ≡ false)) →
    place_along s h start lines ≡ At start
place-waiting s h start [] still = refl
place-waiting s h start (line ∷ lines) still =
    let here = still 0 (omega arith) in
    ap₂ aboard_or_at
    (ap (λ (b : Bool). cond b (Some line) (find (rolls h) lines)) (ap (λ (b : Bool). b && not (arrived h line)) here.0))
    (ap (λ (b : Bool). last_end s start (cond b (line ∷ filter (arrived h) lines) (filter (arrived h) lines))) here.1)
    ∙ place-waiting s h start lines (λ i lt. still (suc i) (omega (arith, lt)))

-- where a shipment that begins at a terminal is after so many of the lines
abbrev pub stop_after : Schedule → ℕ → List ℕ → ℕ → ℕ
stop_after s start lines zero = start
stop_after s start lines (suc i) = head_at s (get_or lines i 0)

-- the lines that have arrived only move the start
pub place-front_done : (s : Schedule) (h : List Event) (start : ℕ) (lines : List ℕ) (n : ℕ) → n ≤ length lines →
    ((i : ℕ) → i < n → arrived h (get_or lines i 0) ≡ true) →
    place_along s h start lines ≡ place_along s h (stop_after s start lines n) (drop n lines)
place-front_done s h start lines zero le done = refl
place-front_done s h start [] (suc n) le done = absurd (omega (arith, le))
place-front_done s h start (line ∷ lines) (suc n) le done =
    place-done s h start line lines (done 0 (omega arith))
    ∙ place-front_done s h (head_at s line) lines n (omega (arith, le)) (λ i lt. done (suc i) (omega (arith, lt)))
    ∙ ap (λ (t : ℕ). place_along s h t (drop n lines)) (same-stop n)
  where
    same-stop : (m : ℕ) → stop_after s (head_at s line) lines m ≡ stop_after s start (line ∷ lines) (suc m)
    same-stop zero = refl
    same-stop (suc m) = refl

-- before a line of its journey a shipment is at that line's tail
pub stop-tail : (s : Schedule) (journey : List ℕ) (i : ℕ) → IsJourney s journey → i < length journey →
    stop_after s (start_of s journey) journey i ≡ tail_at s (get_or journey i 0)
stop-tail s journey zero is lt = refl
stop-tail s journey (suc i) is lt = sym (is.joined i lt)

-- the lines before one of a journey have arrived, and that one hasn't
pub record IsNext (h : List Event) (journey : List ℕ) (i : ℕ) : Type 0 where
  pub within : i < length journey
  pub before : (j : ℕ) → j < i → arrived h (get_or journey j 0) ≡ true
  pub here : arrived h (get_or journey i 0) ≡ false

-- where a shipment is whose next line has departed, or hasn't
pub place-aboard : (s : Schedule) (h : List Event) (k i : ℕ) → IsNext h (journey_at s k) i → departed h (get_or (journey_at s k) i 0) ≡ true →
    place_of s h k ≡ Aboard (get_or (journey_at s k) i 0)
place-aboard s h k i next left =
    let journey : List ℕ = journey_at s k in
    place-front_done s h (start_of s journey) journey i (omega (arith, next.within)) next.before
    ∙ ap (λ (lines : List ℕ). place_along s h (stop_after s (start_of s journey) journey i) lines) (drop-cons journey i 0 next.within)
    ∙ place-rolling s h (stop_after s (start_of s journey) journey i) (get_or journey i 0) (drop (suc i) journey) left next.here

-- the lines from the next one on are waiting where it is
waits-after : (s : Schedule) (h : List Event) (k i : ℕ) → IsLegal s h → departed h (get_or (journey_at s k) i 0) ≡ false →
    (j : ℕ) → i ≤ j → j < length (journey_at s k) → departed h (get_or (journey_at s k) j 0) ≡ false
waits-after s h k i legal still j le lt =
    ⊎_elim
    (λ (is : departed h (get_or (journey_at s k) j 0) ≡ true).
    ⊎_elim
    (λ (same : i ≡ j). absurd (false≢true (sym still ∙ subst (λ (n : ℕ). departed h (get_or (journey_at s k) n 0) ≡ true) (sym same) is)))
    (λ (less : i < j). absurd (false≢true (sym still ∙ arrived-departed s h (get_or (journey_at s k) i 0) legal (all-before s h k j legal lt is i less))))
    (eq-or-lt_of_le le))
    (λ (is : departed h (get_or (journey_at s k) j 0) ≡ false). is)
    (cases_Bool (departed h (get_or (journey_at s k) j 0)))

pub place-stays : (s : Schedule) (h : List Event) (k i terminal : ℕ) → IsLegal s h → departed h (get_or (journey_at s k) i 0) ≡ false →
    place_along s h terminal (drop i (journey_at s k)) ≡ At terminal
place-stays s h k i terminal legal still =
    let journey : List ℕ = journey_at s k in
    place-waiting s h terminal (drop i journey)
    (λ j lt.
    let within : i + j < length journey = omega (arith, lt, length-drop i journey) in
    let same : get_or (drop i journey) j 0 ≡ get_or journey (i + j) 0 = get_or-drop i journey j 0 in
    let waits : departed h (get_or journey (i + j) 0) ≡ false = waits-after s h k i legal still (i + j) (omega arith) within in
    (ap (departed h) same ∙ waits, ap (arrived h) same ∙ not-arrived s h (get_or journey (i + j) 0) legal waits))

pub place-at_tail : (s : Schedule) (h : List Event) (k i : ℕ) → IsLegal s h → IsJourney s (journey_at s k) → IsNext h (journey_at s k) i →
    departed h (get_or (journey_at s k) i 0) ≡ false → place_of s h k ≡ At (tail_at s (get_or (journey_at s k) i 0))
place-at_tail s h k i legal is next still =
    let journey : List ℕ = journey_at s k in
    let here : ℕ = stop_after s (start_of s journey) journey i in
    place-front_done s h (start_of s journey) journey i (omega (arith, next.within)) next.before
    ∙ place-stays s h k i here legal still
    ∙ ap At (stop-tail s journey i is next.within)

-- a shipment whose lines have all arrived is at its journey's end
pub place-end : (s : Schedule) (h : List Event) (k : ℕ) → IsJourney s (journey_at s k) →
    ((i : ℕ) → i < length (journey_at s k) → arrived h (get_or (journey_at s k) i 0) ≡ true) → place_of s h k ≡ At (end_of s (journey_at s k))
place-end s h k is done =
    let journey : List ℕ = journey_at s k in
    place-front_done s h (start_of s journey) journey (length journey) (omega arith) done
    ∙ ap (place_along s h (stop_after s (start_of s journey) journey (length journey))) (drop-length journey)
    ∙ ap At (last (length journey) is.some)
  where
    last : (n : ℕ) → 0 < n → stop_after s (start_of s (journey_at s k)) (journey_at s k) n ≡ head_at s (get_or (journey_at s k) (n - 1) 0)
    last zero some = absurd (omega (arith, some))
    last (suc n) some = ap (λ (m : ℕ). head_at s (get_or (journey_at s k) m 0)) (omega arith)

-- all of the first lines have arrived, or one of them is the next
next-below : (h : List Event) (journey : List ℕ) (n : ℕ) → n ≤ length journey →
    ((i : ℕ) → i < n → arrived h (get_or journey i 0) ≡ true) ⊎ ((i : ℕ) × (i < n) × IsNext h journey i)
next-below h journey zero le = inl (λ i lt. absurd (omega (arith, lt)))
next-below h journey (suc n) le =
    ⊎_elim
    (λ done.
    ⊎_elim
    (λ (is : arrived h (get_or journey n 0) ≡ true).
    inl (λ i lt. ⊎_elim (λ (same : i ≡ n). subst (λ (m : ℕ). arrived h (get_or journey m 0) ≡ true) (sym same) is) (λ (less : i < n). done i less) (eq-or-lt_of_le (omega (arith, lt)))))
    (λ (is : arrived h (get_or journey n 0) ≡ false). inr (n, omega arith, record { within = omega (arith, le); before = done; here = is }))
    (cases_Bool (arrived h (get_or journey n 0))))
    (λ found. inr (found.0, omega (arith, found.1), found.2))
    (next-below h journey n (omega (arith, le)))

pub all-done-or-next : (h : List Event) (journey : List ℕ) →
    ((i : ℕ) → i < length journey → arrived h (get_or journey i 0) ≡ true) ⊎ ((i : ℕ) × (i < length journey) × IsNext h journey i)
all-done-or-next h journey = next-below h journey (length journey) (omega arith)

-- a line of a journey that hasn't arrived is the next one or a later one
pub next-until : (h : List Event) (journey : List ℕ) (i : ℕ) → i < length journey → arrived h (get_or journey i 0) ≡ false →
    (j : ℕ) × (j ≤ i) × IsNext h journey j
next-until h journey i lt still =
    ⊎_elim
    (λ done. (i, omega arith, record { within = lt; before = done; here = still }))
    (λ found. (found.0, omega (arith, found.1), found.2))
    (next-below h journey i (omega (arith, lt)))
