-- What is known of a legal history, and what one more event changes.
use Rattle.std.proofs.Common.{◌≡◌, ◌∙◌, ℕ, zero, suc, ◌<◌, Bool, true, false, ◌&&◌, List, [], ◌∷◌, ◌++◌, length, take, get_or, ⊎_elim, refl, sym, ap, subst, arith}
use Rattle.std.specs.Prelude.{nat_eq}
use Rattle.std.proofs.lemmas.Bool.{cases_Bool, false≢true}
use Rattle.std.proofs.Math.Nat.{eq-or-lt_of_le}
use Rattle.std.proofs.lemmas.List.{get_or_push, length_push, take-append-le}
use Rattle.std.proofs.Math.ListN.{get_or-append}
use Rattle.std.proofs.Math.Seq.{take-append_seam}
use Rattle.std.proofs.lemmas.Grind.{common_steps}
use Rattle.std.proofs.lemmas.Bool.Decides.{nat_tests}
use Rattle.fp_yard.specs.declared.events.Event.{Event}
use Rattle.fp_yard.specs.declared.events.EventKind.{EventKind}
use Rattle.fp_yard.specs.declared.events.EventKind.TheVariants.{Departs, Arrives}
use Rattle.fp_yard.specs.Events.{CanArrive, CanDepart, IsAllowed, IsLegal, LeadsTo, MayHappen, arrived, arrives, departed, departs, event_at, is_arrival, is_departure, no_event}
use Rattle.fp_yard.specs.Schedules.{Schedule, journey_at}
use Rattle.fp_yard.proofs.Witnesses.{list_any-taken, witness}

-- what has arrived at some moment has arrived later
pub arrived-taken : (h : List Event) (i line : ℕ) → arrived (take i h) line ≡ true → arrived h line ≡ true
arrived-taken h i line some = list_any-taken (is_arrival line) h i some

pub departed-taken : (h : List Event) (i line : ℕ) → departed (take i h) line ≡ true → departed h line ≡ true
departed-taken h i line some = list_any-taken (is_departure line) h i some

-- the parts of a test for the event of a line
pub line-tested : (a b : ℕ) (t : Bool) → (nat_eq a b && t) ≡ true → (a ≡ b) × (t ≡ true)
line-tested a b true some = (grind (arith, nat_tests), refl)
line-tested a b false some = absurd (grind (arith, nat_tests, common_steps))

-- a departure is allowed as one
as-departure : (s : Schedule) (h : List Event) (e : Event) (line : ℕ) → is_departure line e ≡ true → IsAllowed s h e → CanDepart s h line
as-departure s h e line is allowed =
    let parts = line-tested e.line line (departs e.kind) is in
    subst (λ (l : ℕ). CanDepart s h l) parts.0 (by-kind e.kind parts.1 allowed)
  where
    by-kind : (kind : EventKind) → departs kind ≡ true → MayHappen s h e.line kind → CanDepart s h e.line
    by-kind Departs is may = may
    by-kind Arrives is may = absurd (false≢true is)

as-arrival : (s : Schedule) (h : List Event) (e : Event) (line : ℕ) → is_arrival line e ≡ true → IsAllowed s h e → CanArrive s h line
as-arrival s h e line is allowed =
    let parts = line-tested e.line line (arrives e.kind) is in
    subst (λ (l : ℕ). CanArrive s h l) parts.0 (by-kind e.kind parts.1 allowed)
  where
    by-kind : (kind : EventKind) → arrives kind ≡ true → MayHappen s h e.line kind → CanArrive s h e.line
    by-kind Departs is may = absurd (false≢true is)
    by-kind Arrives is may = may

-- a line that has departed was allowed to, after some of the events
pub departure-allowed : (s : Schedule) (h : List Event) (line : ℕ) → IsLegal s h → departed h line ≡ true → (i : ℕ) × CanDepart s (take i h) line
departure-allowed s h line legal some =
    let at = witness (is_departure line) h no_event some in
    (at.0, as-departure s (take at.0 h) (event_at h at.0) line at.2 (legal at.0 at.1))

pub arrival-allowed : (s : Schedule) (h : List Event) (line : ℕ) → IsLegal s h → arrived h line ≡ true → (i : ℕ) × CanArrive s (take i h) line
arrival-allowed s h line legal some =
    let at = witness (is_arrival line) h no_event some in
    (at.0, as-arrival s (take at.0 h) (event_at h at.0) line at.2 (legal at.0 at.1))

-- a line that has arrived has departed
pub arrived-departed : (s : Schedule) (h : List Event) (line : ℕ) → IsLegal s h → arrived h line ≡ true → departed h line ≡ true
arrived-departed s h line legal some = let at = arrival-allowed s h line legal some in departed-taken h at.0 line at.1.left

-- a line that hasn't departed hasn't arrived
pub not-arrived : (s : Schedule) (h : List Event) (line : ℕ) → IsLegal s h → departed h line ≡ false → arrived h line ≡ false
not-arrived s h line legal still =
    ⊎_elim (λ (is : arrived h line ≡ true). absurd (false≢true (sym still ∙ arrived-departed s h line legal is))) (λ (is : arrived h line ≡ false). is)
    (cases_Bool (arrived h line))

-- before a line of a journey departs, the line before it has arrived
pub before-departed : (s : Schedule) (h : List Event) (k i : ℕ) → IsLegal s h → suc i < length (journey_at s k) →
    departed h (get_or (journey_at s k) (suc i) 0) ≡ true → arrived h (get_or (journey_at s k) i 0) ≡ true
before-departed s h k i legal lt some =
    let at = departure-allowed s h (get_or (journey_at s k) (suc i) 0) legal some in
    arrived-taken h at.0 (get_or (journey_at s k) i 0) (at.1.ready k i lt refl)

-- so have all lines before it
pub all-before : (s : Schedule) (h : List Event) (k j : ℕ) → IsLegal s h → j < length (journey_at s k) → departed h (get_or (journey_at s k) j 0) ≡ true →
    (i : ℕ) → i < j → arrived h (get_or (journey_at s k) i 0) ≡ true
all-before s h k zero legal lt some i less = absurd (omega (arith, less))
all-before s h k (suc j) legal lt some i less =
    let last : arrived h (get_or (journey_at s k) j 0) ≡ true = before-departed s h k j legal lt some in
    ⊎_elim
    (λ (is : i ≡ j). subst (λ (n : ℕ). arrived h (get_or (journey_at s k) n 0) ≡ true) (sym is) last)
    (λ (before : i < j). all-before s h k j legal (omega (arith, lt)) (arrived-departed s h (get_or (journey_at s k) j 0) legal last) i before)
    (eq-or-lt_of_le (omega (arith, less)))

-- the empty history is legal
pub IsLegal-none : (s : Schedule) → IsLegal s []
IsLegal-none s i lt = absurd (omega (arith, lt))

-- a legal history with an allowed event is legal
pub IsLegal-more : (s : Schedule) (h : List Event) (e : Event) → IsLegal s h → IsAllowed s h e → IsLegal s (h ++ e ∷ [])
IsLegal-more s h e legal allowed i lt =
    ⊎_elim
    (λ (is : i ≡ length h).
    let event : event_at (h ++ e ∷ []) i ≡ e = get_or_push h e no_event i (sym is) in
    let before : take i (h ++ e ∷ []) ≡ h = ap (λ (n : ℕ). take n (h ++ e ∷ [])) is ∙ take-append_seam h (e ∷ []) in
    subst (λ (x : Event). IsAllowed s (take i (h ++ e ∷ [])) x) (sym event) (subst (λ (x : List Event). IsAllowed s x e) (sym before) allowed))
    (λ (less : i < length h).
    let event : event_at (h ++ e ∷ []) i ≡ event_at h i = get_or-append h (e ∷ []) no_event i less in
    let before : take i (h ++ e ∷ []) ≡ take i h = take-append-le i h (e ∷ []) (omega (arith, less)) in
    subst (λ (x : Event). IsAllowed s (take i (h ++ e ∷ [])) x) (sym event) (subst (λ (x : List Event). IsAllowed s x (event_at h i)) (sym before) (legal i less)))
    (eq-or-lt_of_le (omega (arith, lt, length_push h e)))

-- calls lead from a legal history to a legal one
pub IsLegal-led : (s : Schedule) (calls h after : List Event) → IsLegal s h → LeadsTo s h calls after → IsLegal s after
IsLegal-led s [] h after legal leads = subst (λ (x : List Event). IsLegal s x) (sym leads) legal
IsLegal-led s (e ∷ calls) h after legal leads =
    ⊎_elim
    (λ accepted. IsLegal-led s calls (h ++ e ∷ []) after (IsLegal-more s h e legal accepted.0) accepted.1)
    (λ refused. IsLegal-led s calls h after legal refused.1)
    leads
