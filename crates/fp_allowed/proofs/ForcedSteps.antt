-- A forced chain, class by class, and how it ends.
use Rattle.std.proofs.Common.{◌≡◌, ◌≢◌, ℕ, ◌+◌, ◌<◌, Bool, true, false, ◌||◌, List, [], ◌∷◌, ◌++◌, length, get_or, set, replicate, ⊎_elim, inl, inr, refl, sym, ap, ◌∙◌, subst, arith, add-one, append_assoc}
use Rattle.std.specs.Prelude.{All, Contains, nat_eq}
use Rattle.std.specs.List.{AllByRecursion}
use Rattle.std.proofs.Math.Bool.{or-false, or_comm}
use Rattle.std.proofs.lemmas.Bool.{cases_eq, eq-eqb, eqb-true, false≢true, ne_eqb, or_cases}
use Rattle.std.proofs.lemmas.List.{append-nil, get_or-replicate, get_or-set_other, get_or-set_same, length-replicate, length-set, map-append}
use Rattle.std.proofs.lemmas.List.Elements.{All-push}
use Rattle.std.proofs.lemmas.List.Folds.{list_any-append}
use Rattle.fp_model.specs.declared.parts.Leg.{Leg}
use Rattle.fp_model.specs.declared.parts.Shipment.{Shipment}
use Rattle.fp_model.specs.Problem.{Problem, arc_at}
use Rattle.fp_base_lists.specs.Membership.{list_has}
use Rattle.fp_longestarcs.specs.Networks.{TimedNetwork, class_count}
use Rattle.fp_allowed.specs.declared.chain_ends.ChainEnd.TheVariants.{Reached, Several, Stuck}
use Rattle.fp_allowed.specs.Allowed.{AreForced, IsForcedChain, IsOnly, tails_of}
use Rattle.fp_allowed.specs.Chains.{IsForced, NoneLeaves, SeveralLeave, chain_stop, terminals_left}
use Rattle.fp_allowed.specs.Listing.{class_at, classes_at}
use Rattle.fp_base_lists.proofs.Membership.{list_has-apart}

-- whether a number is in a list
Contains-list_has : (xs : List ℕ) (t : ℕ) → list_has xs t ≡ true → Contains xs t
Contains-list_has [] t h = absurd (false≢true h)
Contains-list_has (x ∷ xs) t h =
    ⊎_elim
    (λ (here : nat_eq x t ≡ true). (0, omega arith, eqb-true x t here))
    (λ (later : list_has xs t ≡ true). let at = Contains-list_has xs t later in (at.0 + 1, omega (arith, at.1), rw add-one at.2))
    (or_cases (nat_eq x t) (list_has xs t) h)

outside_list_has : (xs : List ℕ) (t : ℕ) → AllByRecursion (λ x. x ≢ t) xs → list_has xs t ≡ true → ⊥
outside_list_has [] t all h = false≢true h
outside_list_has (x ∷ xs) t all h =
    ⊎_elim (λ (here : nat_eq x t ≡ true). all.0 (eqb-true x t here)) (λ (later : list_has xs t ≡ true). outside_list_has xs t all.1 later) (or_cases (nat_eq x t) (list_has xs t) h)

-- where a chain with one more class ends
chain_stop-push : (p : Problem) (here : ℕ) (chain : List Leg) (c : Leg) → chain_stop p here (chain ++ (c ∷ [])) ≡ (arc_at p c.arc).to
chain_stop-push p here [] c = refl
chain_stop-push p here (b ∷ chain) c = chain_stop-push p (arc_at p b.arc).to chain c

module _ (p : Problem) (net : TimedNetwork) (allowed : Leg → Bool) (s : Shipment) where
  -- classes are forced up to here; `met` tells at which terminals the shipment was
  pub record ChainSoFar (classes : List ℕ) (met : List Bool) (here : ℕ) : Type 0 where
    pub long : length met ≡ length p.terminals
    pub place : here < length p.terminals
    pub within : All (λ n. n < class_count net) classes
    pub stop : chain_stop p s.from (classes_at net classes) ≡ here
    pub seen : List ℕ
    pub same : (t : ℕ) → list_has seen t ≡ list_has (terminals_left p (classes_at net classes)) t
    pub tells : (t : ℕ) → t < length met → get_or met t false ≡ list_has seen t
    pub on : (rest : List Leg) → AreForced p allowed s.to seen here rest → AreForced p allowed s.to [] s.from (classes_at net classes ++ rest)
    pub back : (rest : List Leg) → AreForced p allowed s.to [] s.from (classes_at net classes ++ rest) → AreForced p allowed s.to seen here rest

  -- at first no class is forced
  pub chain_none : (met : List Bool) → s.from < length p.terminals → met ≡ replicate (length p.terminals) false → ChainSoFar [] met s.from
  chain_none met place is = record {
    long = ap (λ (l : List Bool). length l) is ∙ length-replicate (length p.terminals) false;
    place = place;
    within = λ k d h. absurd (omega arith);
    stop = refl;
    seen = [];
    same = λ t. refl;
    tells = λ t h. ap (λ (l : List Bool). get_or l t false) is ∙ get_or-replicate (length p.terminals) t false false (omega (arith, h, ap (λ (l : List Bool). length l) is, length-replicate (length p.terminals) false));
    on = λ rest forced. forced;
    back = λ rest forced. forced;
  }

  -- one class more
  pub chain_more : (classes : List ℕ) (met : List Bool) (here class to : ℕ) (c : Leg) → ChainSoFar classes met here → here ≢ s.to → get_or met here false ≡ false → IsOnly p allowed here c →
      class_at net class ≡ c → class < class_count net → to ≡ (arc_at p c.arc).to → to < length p.terminals → ChainSoFar (classes ++ (class ∷ [])) (set met here true) to
  chain_more classes met here class to c so_far away unmet only is within to_is place =
      let legs : List Leg = classes_at net classes in
      let legs_more : classes_at net (classes ++ (class ∷ [])) ≡ legs ++ (c ∷ []) = map-append (class_at net) classes (class ∷ []) ∙ ap (λ (k : Leg). legs ++ (k ∷ [])) is in
      let inside : here < length met = omega (arith, so_far.place, so_far.long) in
      let unseen : list_has so_far.seen here ≡ false = sym (so_far.tells here inside) ∙ unmet in
      record {
        long = length-set met here true ∙ so_far.long;
        place = place;
        within = All-push (λ n. n < class_count net) classes class so_far.within within;
        stop = ap (chain_stop p s.from) legs_more ∙ chain_stop-push p s.from legs c ∙ sym to_is;
        seen = here ∷ so_far.seen;
        same = λ t.
            ap (λ (b : Bool). nat_eq here t || b) (so_far.same t) ∙ or_comm (nat_eq here t) (list_has (terminals_left p legs) t) ∙
            ap (λ (n : ℕ). list_has (terminals_left p legs) t || nat_eq n t) (sym only.leaves) ∙ sym (left_more legs c t) ∙
            ap (λ (l : List Leg). list_has (terminals_left p l) t) (sym legs_more);
        tells = λ t h.
            ⊎_elim
            (λ (at : here ≡ t). rw (← at, eq-eqb here here refl) (get_or-set_same met here true false inside))
            (λ (other : here ≡ t → ⊥).
            let apart : t ≢ here = λ e. other (sym e) in
            rw (ne_eqb here t other) (get_or-set_other met here t true false apart ∙ so_far.tells t (omega (arith, h, length-set met here true))))
            (cases_eq here t);
        on = λ rest forced.
            let from : AreForced p allowed s.to (here ∷ so_far.seen) (arc_at p c.arc).to rest = subst (λ (n : ℕ). AreForced p allowed s.to (here ∷ so_far.seen) n rest) to_is forced in
            let whole : AreForced p allowed s.to [] s.from (legs ++ (c ∷ rest)) = so_far.on (c ∷ rest) (away, list_has-apart so_far.seen here unseen, only, from) in
            subst (λ (l : List Leg). AreForced p allowed s.to [] s.from l) (sym (joined_rest rest)) whole;
        back = λ rest forced.
            let whole : AreForced p allowed s.to [] s.from (legs ++ (c ∷ rest)) = subst (λ (l : List Leg). AreForced p allowed s.to [] s.from l) (joined_rest rest) forced in
            subst (λ (n : ℕ). AreForced p allowed s.to (here ∷ so_far.seen) n rest) (sym to_is) (so_far.back (c ∷ rest) whole).3;
      }
    where
      left_more : (legs : List Leg) (c : Leg) (t : ℕ) → list_has (terminals_left p (legs ++ (c ∷ []))) t ≡ (list_has (terminals_left p legs) t || nat_eq (tails_of p c.arc) t)
      left_more legs c t =
          ap (λ (l : List ℕ). list_has l t) (map-append (λ (k : Leg). tails_of p k.arc) legs (c ∷ [])) ∙
          list_any-append (λ q. nat_eq q t) (terminals_left p legs) (tails_of p c.arc ∷ []) ∙
          ap (λ (b : Bool). list_has (terminals_left p legs) t || b) (or-false (nat_eq (tails_of p c.arc) t))

      joined_rest : (rest : List Leg) → classes_at net (classes ++ (class ∷ [])) ++ rest ≡ classes_at net classes ++ (c ∷ rest)
      joined_rest rest =
          ap (λ (l : List Leg). l ++ rest) (map-append (class_at net) classes (class ∷ []) ∙ ap (λ (k : Leg). classes_at net classes ++ (k ∷ [])) is) ∙
          append_assoc (classes_at net classes) (c ∷ []) rest

  -- what stops the chain where it is
  stops_at : (classes : List ℕ) (met : List Bool) (here : ℕ) (so_far : ChainSoFar classes met here) →
      ((c : Leg) → here ≢ s.to → AllByRecursion (λ t. t ≢ here) so_far.seen → IsOnly p allowed here c → ⊥) → IsForcedChain p allowed s (classes_at net classes)
  stops_at classes met here so_far blocked = record {
    forced = subst (λ (l : List Leg). AreForced p allowed s.to [] s.from l) (append-nil (classes_at net classes)) (so_far.on [] tt);
    whole = λ c forced. let next = so_far.back (c ∷ []) forced in blocked c next.0 next.1 next.2;
  }

  pub chain_reached : (classes : List ℕ) (met : List Bool) (here : ℕ) → ChainSoFar classes met here → here ≡ s.to → IsForced p net allowed s (record { classes = classes; end = Reached })
  chain_reached classes met here so_far at = record {
    forced = stops_at classes met here so_far (λ c away out only. away at);
    ends = so_far.stop ∙ at;
    within = so_far.within;
    terminal = tt;
  }

  pub chain_met : (classes : List ℕ) (met : List Bool) (here : ℕ) → ChainSoFar classes met here → here ≢ s.to → get_or met here false ≡ true → IsForced p net allowed s (record { classes = classes; end = Stuck here })
  chain_met classes met here so_far away was =
      let seen : list_has so_far.seen here ≡ true = sym (so_far.tells here (omega (arith, so_far.place, so_far.long))) ∙ was in
      record {
        forced = stops_at classes met here so_far (λ c other out only. outside_list_has so_far.seen here out seen);
        ends = (so_far.stop, away, inl (Contains-list_has (terminals_left p (classes_at net classes)) here (sym (so_far.same here) ∙ seen)));
        within = so_far.within;
        terminal = so_far.place;
      }

  pub chain_alone : (classes : List ℕ) (met : List Bool) (here : ℕ) → ChainSoFar classes met here → here ≢ s.to → NoneLeaves p allowed here → IsForced p net allowed s (record { classes = classes; end = Stuck here })
  chain_alone classes met here so_far away none = record {
    forced = stops_at classes met here so_far (λ c other out only. none c only.is_allowed only.leaves);
    ends = (so_far.stop, away, inr none);
    within = so_far.within;
    terminal = so_far.place;
  }

  pub chain_several : (classes : List ℕ) (met : List Bool) (here : ℕ) → ChainSoFar classes met here → here ≢ s.to → get_or met here false ≡ false → SeveralLeave p allowed here →
      IsForced p net allowed s (record { classes = classes; end = Several here })
  chain_several classes met here so_far away unmet several =
      let unseen : list_has so_far.seen here ≡ false = sym (so_far.tells here (omega (arith, so_far.place, so_far.long))) ∙ unmet in
      record {
        forced = stops_at classes met here so_far (λ c other out only. several.differ (only.alone several.one several.one_allowed several.one_leaves ∙ sym (only.alone several.two several.two_allowed several.two_leaves)));
        ends = (so_far.stop, away, list_has-apart (terminals_left p (classes_at net classes)) here (sym (so_far.same here) ∙ unseen), several);
        within = so_far.within;
        terminal = so_far.place;
      }
