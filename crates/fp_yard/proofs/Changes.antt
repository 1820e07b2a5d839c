-- How the allowed events change where one of them happens.
use Rattle.std.proofs.Common.{◌≡◌, ◌∙◌, ℕ, suc, ◌+◌, ◌-◌, ◌<◌, ◌≤◌, Bool, true, false, ◌||◌, ◌&&◌, List, [], ◌∷◌, ◌++◌, length, get_or, set, ⊎_elim, inl, inr, refl, sym, ap, ap₂, subst, arith, eq-eqb}
use Rattle.std.specs.Prelude.{◌⊎◌, nat_eq, All, Contains}
use Rattle.std.specs.List.{insert, remove}
use Rattle.std.proofs.Math.Nat.{eq-or-lt_of_le}
use Rattle.std.proofs.lemmas.Bool.{cases_Bool, cases_eq, cases_lt, false≢true, or_cases, or_left}
use Rattle.std.proofs.lemmas.List.{get_or-set_other, get_or-set_same, get_or_default, length-set}
use Rattle.std.proofs.lemmas.List.Edits.{get_or-insert_above, get_or-insert_at, get_or-insert_below, length-insert}
use Rattle.std.proofs.lemmas.List.Elements.{All-cons, All-contains}
use Rattle.fp_model.specs.declared.parts.Member.{Member}
use Rattle.fp_yard.specs.declared.events.Event.{Event}
use Rattle.fp_yard.specs.declared.events.EventKind.{EventKind}
use Rattle.fp_yard.specs.declared.events.EventKind.TheVariants.{Departs, Arrives}
use Rattle.fp_yard.specs.Enabled.{AreAllowed, AreEnabledBut, HasAdded, IsAfter, IsPlaceOf, next_kind}
use Rattle.fp_yard.specs.Events.{AreEnabled, CanArrive, CanDepart, IsAllowed, IsLegal, MayHappen, arrived, arrives, departed, departs, event_at, is_arrival, is_departure, no_event, stage_of}
use Rattle.fp_yard.specs.Schedules.{IsFreightOf, Schedule, journey_at}
use Rattle.fp_yard.proofs.AllowedEvents.{kind-next}
use Rattle.fp_yard.proofs.Histories.{line-tested, not-arrived}
use Rattle.fp_yard.proofs.Missing.{leg-by}
use Rattle.fp_yard.proofs.Runs.{arrived-more, departed-more, or-true}
use Rattle.fp_yard.proofs.EventLists.{apart-lines, Contains-insert, Contains-remove, Contains-set, from-removed, other-place, rising-insert, rising-remove, rising-set}

-- what was true stays true, and what has become true is the event's own
departed-kept : (h : List Event) (e : Event) (line : ℕ) → departed h line ≡ true → departed (h ++ e ∷ []) line ≡ true
departed-kept h e line left = departed-more h e line ∙ or_left (departed h line) (is_departure line e || false) left

arrived-kept : (h : List Event) (e : Event) (line : ℕ) → arrived h line ≡ true → arrived (h ++ e ∷ []) line ≡ true
arrived-kept h e line come = arrived-more h e line ∙ or_left (arrived h line) (is_arrival line e || false) come

departed-was : (h : List Event) (e : Event) (line : ℕ) → departed (h ++ e ∷ []) line ≡ false → departed h line ≡ false
departed-was h e line still =
    ⊎_elim (λ (left : departed h line ≡ true). absurd (false≢true (sym still ∙ departed-kept h e line left))) (λ (here : departed h line ≡ false). here)
    (cases_Bool (departed h line))

arrived-was : (h : List Event) (e : Event) (line : ℕ) → arrived (h ++ e ∷ []) line ≡ false → arrived h line ≡ false
arrived-was h e line still =
    ⊎_elim (λ (come : arrived h line ≡ true). absurd (false≢true (sym still ∙ arrived-kept h e line come))) (λ (here : arrived h line ≡ false). here)
    (cases_Bool (arrived h line))

or-last : (b : Bool) → (b || false) ≡ true → b ≡ true
or-last true is = refl
or-last false is = is

departed-from : (h : List Event) (e : Event) (line : ℕ) → departed (h ++ e ∷ []) line ≡ true → (departed h line ≡ true) ⊎ ((e.line ≡ line) × (departs e.kind ≡ true))
departed-from h e line left =
    ⊎_elim (λ (before : departed h line ≡ true). inl before) (λ (last : (is_departure line e || false) ≡ true). inr (line-tested e.line line (departs e.kind) (or-last _ last)))
    (or_cases (departed h line) (is_departure line e || false) (sym (departed-more h e line) ∙ left))

arrived-from : (h : List Event) (e : Event) (line : ℕ) → arrived (h ++ e ∷ []) line ≡ true → (arrived h line ≡ true) ⊎ ((e.line ≡ line) × (arrives e.kind ≡ true))
arrived-from h e line come =
    ⊎_elim (λ (before : arrived h line ≡ true). inl before) (λ (last : (is_arrival line e || false) ≡ true). inr (line-tested e.line line (arrives e.kind) (or-last _ last)))
    (or_cases (arrived h line) (is_arrival line e || false) (sym (arrived-more h e line) ∙ come))

departed-own : (h : List Event) (line : ℕ) → departed (h ++ record { line = line; kind = Departs } ∷ []) line ≡ true
departed-own h line =
    departed-more h (record { line = line; kind = Departs }) line
    ∙ or-true (nat_eq line line && true) (departed h line) (ap (λ (b : Bool). b && true) (eq-eqb line line refl))

arrived-own : (h : List Event) (line : ℕ) → arrived (h ++ record { line = line; kind = Arrives } ∷ []) line ≡ true
arrived-own h line =
    arrived-more h (record { line = line; kind = Arrives }) line
    ∙ or-true (nat_eq line line && true) (arrived h line) (ap (λ (b : Bool). b && true) (eq-eqb line line refl))

-- what another line may do it still may after an event
still-may : (s : Schedule) (h : List Event) (e : Event) (line : ℕ) (kind : EventKind) → (e.line ≡ line → ⊥) → MayHappen s h line kind → MayHappen s (h ++ e ∷ []) line kind
still-may s h e line Departs other may = record {
  exists = may.exists;
  still =
      ⊎_elim
      (λ (left : departed (h ++ e ∷ []) line ≡ true).
      ⊎_elim (λ (before : departed h line ≡ true). absurd (false≢true (sym may.still ∙ before))) (λ own. absurd (other own.0)) (departed-from h e line left))
      (λ (here : departed (h ++ e ∷ []) line ≡ false). here)
      (cases_Bool (departed (h ++ e ∷ []) line));
  ready = λ k i lt is. arrived-kept h e (get_or (journey_at s k) i 0) (may.ready k i lt is);
}
still-may s h e line Arrives other may = record {
  exists = may.exists;
  left = departed-kept h e line may.left;
  still =
      ⊎_elim
      (λ (come : arrived (h ++ e ∷ []) line ≡ true).
      ⊎_elim (λ (before : arrived h line ≡ true). absurd (false≢true (sym may.still ∙ before))) (λ own. absurd (other own.0)) (arrived-from h e line come))
      (λ (here : arrived (h ++ e ∷ []) line ≡ false). here)
      (cases_Bool (arrived (h ++ e ∷ []) line));
}

-- an arrival of another line was allowed before
could-arrive : (s : Schedule) (h : List Event) (e : Event) (line : ℕ) → (e.line ≡ line → ⊥) → CanArrive s (h ++ e ∷ []) line → CanArrive s h line
could-arrive s h e line other can = record {
  exists = can.exists;
  left = ⊎_elim (λ (before : departed h line ≡ true). before) (λ own. absurd (other own.0)) (departed-from h e line can.left);
  still = arrived-was h e line can.still;
}

-- what another line may do after a departure it could do before
could-before_departure : (s : Schedule) (h : List Event) (own line : ℕ) (kind : EventKind) → (own ≡ line → ⊥) →
    MayHappen s (h ++ record { line = own; kind = Departs } ∷ []) line kind → MayHappen s h line kind
could-before_departure s h own line Departs other may =
    let e : Event = record { line = own; kind = Departs } in
    record {
      exists = may.exists;
      still = departed-was h e line may.still;
      ready = λ k i lt is.
          ⊎_elim (λ (before : arrived h (get_or (journey_at s k) i 0) ≡ true). before) (λ parts. absurd (false≢true parts.1))
          (arrived-from h e (get_or (journey_at s k) i 0) (may.ready k i lt is));
    }
could-before_departure s h own line Arrives other may = could-arrive s h (record { line = own; kind = Departs }) line other may

-- what another line may do after an arrival it could do before, where it isn't just after the freight
could-before_arrival : (s : Schedule) (h : List Event) (own line : ℕ) (kind : EventKind) (legs : List Member) → (own ≡ line → ⊥) → IsFreightOf s own legs →
    All (λ (m : Member). IsAfter s m line → ⊥) legs → MayHappen s (h ++ record { line = own; kind = Arrives } ∷ []) line kind → MayHappen s h line kind
could-before_arrival s h own line Departs legs other are apart may =
    let e : Event = record { line = own; kind = Arrives } in
    record {
      exists = may.exists;
      still = departed-was h e line may.still;
      ready = λ k i lt is.
          ⊎_elim (λ (before : arrived h (get_or (journey_at s k) i 0) ≡ true). before)
          (λ parts.
          let m : Member = record { shipment = k; leg = i } in
          absurd
          (All-contains (λ (n : Member). IsAfter s n line → ⊥) legs m apart (are.every m (leg-by s own k i (omega (arith, lt)) (sym parts.0))) (lt, is)))
          (arrived-from h e (get_or (journey_at s k) i 0) (may.ready k i lt is));
    }
could-before_arrival s h own line Arrives legs other are apart may = could-arrive s h (record { line = own; kind = Arrives }) line other may

-- the allowed events after one departed: its arrival is in its place
pub enabled-departed : (s : Schedule) (h events : List Event) (place line : ℕ) → IsLegal s h → AreEnabled s h events → place < length events →
    event_at events place ≡ record { line = line; kind = Departs } →
    AreEnabled s (h ++ record { line = line; kind = Departs } ∷ []) (set events place (record { line = line; kind = Arrives }))
enabled-departed s h events place line legal are lt is = record {
  rising = rising-set events place new lt (ap (λ (x : Event). x.line) is) are.rising;
  allowed = λ k d within.
      ⊎_elim
      (λ (same : k ≡ place).
      subst (λ (n : ℕ). IsAllowed s after (get_or (set events place new) n d)) (sym same)
      (subst (IsAllowed s after) (sym (get_or-set_same events place new d lt)) arrival))
      (λ (other : k ≡ place → ⊥).
      let there : k < length events = omega (arith, within, length-set events place new) in
      let old : Event = get_or events k d in
      let apart : line ≡ old.line → ⊥ = λ eq.
      apart-lines events place k d are.rising lt there (λ e. other (sym e)) (ap (λ (x : Event). x.line) (get_or_default events place d no_event lt ∙ is) ∙ eq) in
      subst (IsAllowed s after) (sym (get_or-set_other events place k new d other)) (still-may s h gone old.line old.kind apart (are.allowed k d there)))
      (cases_eq k place);
  every = λ f allowed.
      ⊎_elim
      (λ (same : line ≡ f.line). own f same (by-kind f.line f.kind same allowed))
      (λ (other : line ≡ f.line → ⊥).
      let at = are.every f (could-before_departure s h line f.line f.kind other allowed) in
      Contains-set events place new f at (other-place events place gone f is other at))
      (cases_eq line f.line);
}
  where
    gone : Event
    gone = record { line = line; kind = Departs }

    new : Event
    new = record { line = line; kind = Arrives }

    after : List Event
    after = h ++ gone ∷ []

    can : CanDepart s h line
    can = subst (IsAllowed s h) is (are.allowed place no_event lt)

    arrival : CanArrive s after line
    arrival = record {
      exists = can.exists;
      left = departed-own h line;
      still =
          ⊎_elim
          (λ (come : arrived after line ≡ true).
          ⊎_elim (λ (before : arrived h line ≡ true). absurd (false≢true (sym (not-arrived s h line legal can.still) ∙ before))) (λ parts. absurd (false≢true parts.1))
          (arrived-from h gone line come))
          (λ (here : arrived after line ≡ false). here)
          (cases_Bool (arrived after line));
    }

    by-kind : (l : ℕ) (kind : EventKind) → line ≡ l → MayHappen s after l kind → kind ≡ Arrives
    by-kind l Departs same may = absurd (false≢true (sym may.still ∙ subst (λ (n : ℕ). departed after n ≡ true) same (departed-own h line)))
    by-kind l Arrives same may = refl

    own : (f : Event) → line ≡ f.line → f.kind ≡ Arrives → Contains (set events place new) f
    own f same kind =
        let eq : new ≡ f = ap₂ (λ (l : ℕ) (k : EventKind). record { line = l; kind = k }) same (sym kind) in
        (place, omega (arith, lt, length-set events place new), get_or-set_same events place new f lt ∙ eq)

-- and after one arrived: it is gone, and others may be missing of the lines just after its freight
pub enabled-arrived : (s : Schedule) (h events : List Event) (place line : ℕ) (legs : List Member) → AreEnabled s h events → place < length events →
    event_at events place ≡ record { line = line; kind = Arrives } → IsFreightOf s line legs →
    AreEnabledBut s (h ++ record { line = line; kind = Arrives } ∷ []) legs (remove events place)
enabled-arrived s h events place line legs are lt is freight = record {
  are = record {
    rising = rising-remove events place lt are.rising;
    allowed = λ k d within.
        let from = from-removed events place k d lt within in
        let old : Event = get_or events from.0 d in
        let apart : line ≡ old.line → ⊥ = λ eq.
        apart-lines events place from.0 d are.rising lt from.1 (λ e. from.2 (sym e)) (ap (λ (x : Event). x.line) (get_or_default events place d no_event lt ∙ is) ∙ eq) in
        subst (IsAllowed s after) (sym from.3) (still-may s h gone old.line old.kind apart (are.allowed from.0 d from.1));
  };
  every = λ f allowed apart.
      let other : line ≡ f.line → ⊥ = λ same. none f.line f.kind same allowed in
      let at = are.every f (could-before_arrival s h line f.line f.kind legs other freight apart allowed) in
      Contains-remove events place f lt at (other-place events place gone f is other at);
}
  where
    gone : Event
    gone = record { line = line; kind = Arrives }

    after : List Event
    after = h ++ gone ∷ []

    can : CanArrive s h line
    can = subst (IsAllowed s h) is (are.allowed place no_event lt)

    none : (l : ℕ) (kind : EventKind) → line ≡ l → MayHappen s after l kind → ⊥
    none l Departs same may = false≢true (sym may.still ∙ subst (λ (n : ℕ). departed after n ≡ true) same (departed-kept h gone line can.left))
    none l Arrives same may = false≢true (sym may.still ∙ subst (λ (n : ℕ). arrived after n ≡ true) same (arrived-own h line))

-- two allowed events of a line are one
same-event : (s : Schedule) (h : List Event) (e f : Event) → IsLegal s h → IsAllowed s h e → IsAllowed s h f → e.line ≡ f.line → e ≡ f
same-event s h e f legal first second same =
    ap₂ (λ (l : ℕ) (k : EventKind). record { line = l; kind = k }) same
    (kind-next s h e.line e.kind legal first ∙ ap (λ (l : ℕ). next_kind (stage_of h l)) same ∙ sym (kind-next s h f.line f.kind legal second))

-- nothing is to add
pub added-none : (s : Schedule) (h events : List Event) (some : ℕ → Type 0) → AreAllowed s h events → ((e : Event) → some e.line → IsAllowed s h e → ⊥) →
    HasAdded s h some events events
added-none s h events some are none = record { are = are; kept = λ e at. at; own = λ e is allowed. absurd (none e is allowed) }

pub added-listed : (s : Schedule) (h events : List Event) (line place : ℕ) → IsLegal s h → AreAllowed s h events → place < length events → (event_at events place).line ≡ line →
    HasAdded s h (λ l. l ≡ line) events events
added-listed s h events line place legal are lt is = record {
  are = are;
  kept = λ e at. at;
  own = λ e own allowed.
      (place, lt, get_or_default events place e no_event lt ∙ same-event s h (event_at events place) e legal (are.allowed place no_event lt) allowed (is ∙ sym own));
}

pub added-new : (s : Schedule) (h events : List Event) (line place : ℕ) (e : Event) → IsLegal s h → AreAllowed s h events → IsPlaceOf events line place →
    (place < length events → (event_at events place).line ≡ line → ⊥) → e.line ≡ line → IsAllowed s h e → HasAdded s h (λ l. l ≡ line) events (insert events place e)
added-new s h events line place e legal are is free own may = record {
  are = record {
    rising = rising-insert events line place e is own free are.rising;
    allowed = λ k d within.
        ⊎_elim
        (λ (less : k < place). subst (IsAllowed s h) (sym (get_or-insert_below events place e d k less is.within)) (are.allowed k d (omega (arith, less, is.within))))
        (λ (le : place ≤ k).
        ⊎_elim
        (λ (same : place ≡ k).
        subst (λ (n : ℕ). IsAllowed s h (get_or (insert events place e) n d)) same (subst (IsAllowed s h) (sym (get_or-insert_at events place e d is.within)) may))
        (λ (past : place < k).
        let on : (k - 1) + 1 ≡ k = omega (arith, past) in
        subst (λ (n : ℕ). IsAllowed s h (get_or (insert events place e) n d)) on
        (subst (IsAllowed s h) (sym (get_or-insert_above events place e d (k - 1) (omega (arith, past)) is.within))
        (are.allowed (k - 1) d (omega (arith, past, within, length-insert events place e is.within)))))
        (eq-or-lt_of_le le))
        (cases_lt k place);
  };
  kept = λ f at. Contains-insert events place e f is.within at;
  own = λ f line_is allowed. (
    place,
    omega (arith, is.within, length-insert events place e is.within),
    get_or-insert_at events place e f is.within ∙ same-event s h e f legal may allowed (own ∙ sym line_is),
  );
}

-- what was added for the line just after a leg: it is no more among those that may be missing
pub but-fewer : (s : Schedule) (h events after : List Event) (leg : Member) (legs : List Member) → HasAdded s h (IsAfter s leg) events after →
    AreEnabledBut s h (leg ∷ legs) events → AreEnabledBut s h legs after
but-fewer s h events after leg legs added but = record {
  are = added.are;
  every = λ e allowed apart.
      ⊎_elim
      (λ (is : IsAfter s leg e.line). added.own e is allowed)
      (λ (not_after : IsAfter s leg e.line → ⊥). added.kept e (but.every e allowed (All-cons (λ (m : Member). IsAfter s m e.line → ⊥) leg legs not_after apart)))
      (cases-after e.line);
}
  where
    cases-after : (line : ℕ) → IsAfter s leg line ⊎ (IsAfter s leg line → ⊥)
    cases-after line =
        ⊎_elim
        (λ (lt : suc leg.leg < length (journey_at s leg.shipment)).
        ⊎_elim (λ (same : get_or (journey_at s leg.shipment) (suc leg.leg) 0 ≡ line). inl (lt, same))
        (λ (other : get_or (journey_at s leg.shipment) (suc leg.leg) 0 ≡ line → ⊥). inr (λ is. other is.1))
        (cases_eq (get_or (journey_at s leg.shipment) (suc leg.leg) 0) line))
        (λ (le : length (journey_at s leg.shipment) ≤ suc leg.leg). inr (λ is. omega (arith, le, is.0)))
        (cases_lt (suc leg.leg) (length (journey_at s leg.shipment)))

-- where none may be missing, all are there
pub but-none : (s : Schedule) (h events : List Event) → AreEnabledBut s h [] events → AreEnabled s h events
but-none s h events but = record {
  rising = but.are.rising;
  allowed = but.are.allowed;
  every = λ e allowed. but.every e allowed (λ k d lt. absurd (omega (arith, lt)));
}
