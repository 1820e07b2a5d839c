-- Events by line, where one is replaced, removed or inserted.
use Rattle.std.proofs.Common.{◌≡◌, ◌∙◌, ℕ, ◌+◌, ◌-◌, ◌<◌, ◌≤◌, true, false, List, length, get_or, set, ltb, ⊎_elim, sym, ap, arith}
use Rattle.std.specs.Prelude.{AllPairs, Contains}
use Rattle.std.specs.List.{insert, remove}
use Rattle.std.specs.List.Sorted.{IsNonDecreasingBy, IsPartitionPoint}
use Rattle.std.proofs.Math.Nat.{eq-or-lt_of_le}
use Rattle.std.proofs.lemmas.Bool.{cases_eq, cases_lt, ltb-false, ltb-true}
use Rattle.std.proofs.lemmas.List.{get_or-set_other, get_or-set_same, get_or_default, length-set}
use Rattle.std.proofs.lemmas.List.Edits.{get_or-insert_above, get_or-insert_at, get_or-insert_below, get_or-remove_above, get_or-remove_below, length-insert, length-remove}
use Rattle.fp_yard.specs.declared.events.Event.{Event}
use Rattle.fp_yard.specs.Enabled.{IsPlaceOf}
use Rattle.fp_yard.specs.Events.{event_at, no_event}

-- two events by line, at two places, are of two lines
pub apart-lines : (events : List Event) (i j : ℕ) (d : Event) → AllPairs (λ (e f : Event). e.line < f.line) events → i < length events → j < length events → (i ≡ j → ⊥) →
    (get_or events i d).line ≡ (get_or events j d).line → ⊥
apart-lines events i j d rising first second other same =
    ⊎_elim (λ (less : i < j). omega (arith, same, rising i j d less second))
    (λ (le : j ≤ i). ⊎_elim (λ (is : j ≡ i). other (sym is)) (λ (less : j < i). omega (arith, same, rising j i d less first)) (eq-or-lt_of_le le))
    (cases_lt i j)

-- an event of another line stands at another place
pub other-place : (events : List Event) (place : ℕ) (e f : Event) → event_at events place ≡ e → (e.line ≡ f.line → ⊥) → (at : Contains events f) → at.0 ≡ place → ⊥
other-place events place e f is other at same =
    other (ap (λ (x : Event). x.line) (sym is ∙ ap (event_at events) (sym same) ∙ (get_or_default events at.0 no_event f at.1 ∙ at.2)))

-- other events stand where they did after one was replaced
pub Contains-set : (events : List Event) (place : ℕ) (e f : Event) → (at : Contains events f) → (at.0 ≡ place → ⊥) → Contains (set events place e) f
Contains-set events place e f at other = (at.0, omega (arith, at.1, length-set events place e), get_or-set_other events place at.0 e f other ∙ at.2)

pub Contains-remove : (events : List Event) (place : ℕ) (f : Event) → place < length events → (at : Contains events f) → (at.0 ≡ place → ⊥) → Contains (remove events place) f
Contains-remove events place f lt at other =
    ⊎_elim
    (λ (less : at.0 < place). (at.0, omega (arith, less, lt, length-remove events place lt), get_or-remove_below events place f at.0 less lt ∙ at.2))
    (λ (le : place ≤ at.0).
    let less : place < at.0 = omega (arith, le, other) in
    let on : (at.0 - 1) + 1 ≡ at.0 = omega (arith, less) in (
      at.0 - 1,
      omega (arith, less, at.1, length-remove events place lt),
      get_or-remove_above events place f (at.0 - 1) (omega (arith, less)) lt ∙ ap (λ (n : ℕ). get_or events n f) on ∙ at.2,
    ))
    (cases_lt at.0 place)

pub Contains-insert : (events : List Event) (place : ℕ) (e f : Event) → place ≤ length events → Contains events f → Contains (insert events place e) f
Contains-insert events place e f le at =
    ⊎_elim
    (λ (less : at.0 < place). (at.0, omega (arith, at.1, length-insert events place e le), get_or-insert_below events place e f at.0 less le ∙ at.2))
    (λ (from : place ≤ at.0). (at.0 + 1, omega (arith, at.1, length-insert events place e le), get_or-insert_above events place e f at.0 from le ∙ at.2))
    (cases_lt at.0 place)

-- where an element of a list with one removed stood
pub from-removed : (events : List Event) (place k : ℕ) (d : Event) → place < length events → k < length (remove events place) →
    (i : ℕ) × (i < length events) × (i ≡ place → ⊥) × (get_or (remove events place) k d ≡ get_or events i d)
from-removed events place k d lt within =
    ⊎_elim
    (λ (less : k < place). (k, omega (arith, less, lt), (λ (is : k ≡ place). omega (arith, is, less)), get_or-remove_below events place d k less lt))
    (λ (le : place ≤ k).
    (k + 1, omega (arith, within, length-remove events place lt), (λ (is : k + 1 ≡ place). omega (arith, is, le)), get_or-remove_above events place d k le lt))
    (cases_lt k place)

-- the lines still rise
pub rising-set : (events : List Event) (place : ℕ) (e : Event) → place < length events → (event_at events place).line ≡ e.line → AllPairs (λ (f g : Event). f.line < g.line) events →
    AllPairs (λ (f g : Event). f.line < g.line) (set events place e)
rising-set events place e lt is rising i j d less within =
    omega (arith, line-at i (omega (arith, less, within, long)), line-at j (omega (arith, within, long)), rising i j d less (omega (arith, within, long)))
  where
    long : length (set events place e) ≡ length events
    long = length-set events place e

    line-at : (k : ℕ) → k < length events → (get_or (set events place e) k d).line ≡ (get_or events k d).line
    line-at k in_range =
        ⊎_elim
        (λ (same : k ≡ place).
        ap (λ (n : ℕ). (get_or (set events place e) n d).line) same ∙ ap (λ (x : Event). x.line) (get_or-set_same events place e d lt)
        ∙ sym is ∙ ap (λ (x : Event). x.line) (get_or_default events place no_event d lt) ∙ ap (λ (n : ℕ). (get_or events n d).line) (sym same))
        (λ (other : k ≡ place → ⊥). ap (λ (x : Event). x.line) (get_or-set_other events place k e d other))
        (cases_eq k place)

pub rising-remove : (events : List Event) (place : ℕ) → place < length events → AllPairs (λ (f g : Event). f.line < g.line) events →
    AllPairs (λ (f g : Event). f.line < g.line) (remove events place)
rising-remove events place lt rising i j d less within =
    ⊎_elim
    (λ (first : i < place).
    ⊎_elim
    (λ (second : j < place). omega (arith, low i first, low j second, rising i j d less (omega (arith, second, lt))))
    (λ (second : place ≤ j). omega (arith, low i first, high j second, rising i (j + 1) d (omega (arith, less)) (omega (arith, within, long))))
    (cases_lt j place))
    (λ (first : place ≤ i).
    omega (arith, high i first, high j (omega (arith, first, less)), rising (i + 1) (j + 1) d (omega (arith, less)) (omega (arith, within, long))))
    (cases_lt i place)
  where
    long : length (remove events place) + 1 ≡ length events
    long = length-remove events place lt

    low : (k : ℕ) → k < place → (get_or (remove events place) k d).line ≡ (get_or events k d).line
    low k h = ap (λ (x : Event). x.line) (get_or-remove_below events place d k h lt)

    high : (k : ℕ) → place ≤ k → (get_or (remove events place) k d).line ≡ (get_or events (k + 1) d).line
    high k h = ap (λ (x : Event). x.line) (get_or-remove_above events place d k h lt)

pub rising-insert : (events : List Event) (line place : ℕ) (e : Event) → IsPlaceOf events line place → e.line ≡ line → (place < length events → (event_at events place).line ≡ line → ⊥) →
    AllPairs (λ (f g : Event). f.line < g.line) events → AllPairs (λ (f g : Event). f.line < g.line) (insert events place e)
rising-insert events line place e is own free rising i j d less within =
    ⊎_elim
    (λ (first : i < place).
    ⊎_elim
    (λ (second : j < place). omega (arith, low i first, low j second, rising i j d less (omega (arith, second, is.within))))
    (λ (second : place ≤ j).
    ⊎_elim
    (λ (same : place ≡ j). omega (arith, low i first, here j same, under i first, own))
    (λ (past : place < j). omega (arith, low i first, high j past, rising i (j - 1) d (omega (arith, first, past)) (omega (arith, within, long))))
    (eq-or-lt_of_le second))
    (cases_lt j place))
    (λ (first : place ≤ i).
    ⊎_elim
    (λ (same : place ≡ i). omega (arith, here i same, high j (omega (arith, same, less)), over (j - 1) (omega (arith, same, less)) (omega (arith, less, within, long)), own))
    (λ (past : place < i).
    omega (arith, high i past, high j (omega (arith, past, less)), rising (i - 1) (j - 1) d (omega (arith, past, less)) (omega (arith, past, less, within, long))))
    (eq-or-lt_of_le first))
    (cases_lt i place)
  where
    long : length (insert events place e) ≡ length events + 1
    long = length-insert events place e is.within

    low : (k : ℕ) → k < place → (get_or (insert events place e) k d).line ≡ (get_or events k d).line
    low k h = ap (λ (x : Event). x.line) (get_or-insert_below events place e d k h is.within)

    here : (k : ℕ) → place ≡ k → (get_or (insert events place e) k d).line ≡ e.line
    here k same = ap (λ (n : ℕ). (get_or (insert events place e) n d).line) (sym same) ∙ ap (λ (x : Event). x.line) (get_or-insert_at events place e d is.within)

    high : (k : ℕ) → place < k → (get_or (insert events place e) k d).line ≡ (get_or events (k - 1) d).line
    high k h =
        let on : k ≡ (k - 1) + 1 = omega (arith, h) in
        ap (λ (n : ℕ). (get_or (insert events place e) n d).line) on ∙ ap (λ (x : Event). x.line) (get_or-insert_above events place e d (k - 1) (omega (arith, h)) is.within)

    under : (k : ℕ) → k < place → (get_or events k d).line < line
    under k h =
        let at : (get_or events k d).line ≡ (event_at events k).line = ap (λ (x : Event). x.line) (get_or_default events k d no_event (omega (arith, h, is.within))) in
        omega (arith, at, is.before k h)

    over : (k : ℕ) → place ≤ k → k < length events → line < (get_or events k d).line
    over k h in_range =
        let at : (get_or events k d).line ≡ (event_at events k).line = ap (λ (x : Event). x.line) (get_or_default events k d no_event in_range) in
        ⊎_elim
        (λ (same : place ≡ k).
        let apart : (event_at events k).line ≡ line → ⊥ = λ eq. free (omega (arith, same, in_range)) (ap (λ (n : ℕ). (event_at events n).line) same ∙ eq) in
        omega (arith, at, is.from k h in_range, apart))
        (λ (past : place < k). omega (arith, at, is.from place (omega arith) (omega (arith, past, in_range)), rising place k no_event past in_range))
        (eq-or-lt_of_le h)

-- lines that rise don't fall
pub lines-order : (events : List Event) → AllPairs (λ (f g : Event). f.line < g.line) events → IsNonDecreasingBy (λ (f : Event). f.line) events
lines-order events rising i j d le lt =
    ⊎_elim
    (λ (same : i ≡ j). omega (arith, ap (λ (n : ℕ). (get_or events n d).line) same))
    (λ (less : i < j). omega (arith, rising i j d less lt))
    (eq-or-lt_of_le le)

-- so many events stand before the place of a line
pub found-place : (events : List Event) (line n : ℕ) → n ≤ length events →
    IsPartitionPoint (λ (f : Event). ltb f.line line ≡ true) (λ (f : Event). ltb f.line line ≡ false) events n → IsPlaceOf events line n
found-place events line n le point = record {
  within = le;
  before = λ i less. ltb-true (event_at events i).line line (point.0 i no_event (omega arith) less);
  from = λ i from lt. ltb-false (event_at events i).line line (point.1 i no_event from lt);
}
