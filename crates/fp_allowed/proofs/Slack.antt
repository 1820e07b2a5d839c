-- The departures left and the slack never grow under more sides, and the slack falls on both sides
-- of a split that divides departures.
use Rattle.std.proofs.Common.{◌≡◌, ℕ, zero, suc, ◌+◌, ◌<◌, ◌≤◌, Bool, true, false, List, [], ◌∷◌, ◌++◌, length, ⊎_elim, ap, subst, arith}
use Rattle.std.specs.Prelude.{nat_eq, nat_le, Option, Some, None}
use Rattle.std.proofs.lemmas.Bool.{and_from, and_parts, cases_Bool, cases_eq, cond-false, cond-true, eqb-true}
use Rattle.fp_base_lists.specs.Below.{sum_below, count_below}
use Rattle.fp_model.specs.Problem.{IsValid, Problem, no_arc}
use Rattle.fp_flatnet.specs.declared.window_tables.Window.{Window}
use Rattle.fp_tree.specs.declared.sides.Side.{Side}
use Rattle.fp_tree.specs.declared.sides.Split.{Split}
use Rattle.fp_tree.specs.Sides.{Exit, first_of_split, second_of_split}
use Rattle.fp_allowed.specs.Allowed.{AreAmong, exit_of, meets_all, tails_of}
use Rattle.fp_allowed.specs.Departures.{DividesDepartures, departures_below, departures_in, departures_left, is_departure}
use Rattle.fp_allowed.specs.Slack.{slack, slack_at}
use Rattle.fp_base_lists.proofs.CountsBelow.{one_if}
use Rattle.fp_allowed.proofs.FewerSides.{AreAmong_append, meets_all_fewer}
use Rattle.fp_base_lists.proofs.SumsBelow.{sum_below-le}

-- a test that passes wherever another does counts at least as many numbers
count_below_mono : (n : ℕ) (narrow wide : ℕ → Bool) → ((m : ℕ) → narrow m ≡ true → wide m ≡ true) → count_below n narrow ≤ count_below n wide
count_below_mono zero narrow wide widens = omega arith
count_below_mono (suc n) narrow wide widens =
    ⊎_elim
    (λ (passes : narrow n ≡ true). omega (arith, ap one_if passes, ap one_if (widens n passes), count_below_mono n narrow wide widens))
    (λ (fails : narrow n ≡ false). omega (arith, ap one_if fails, count_below_mono n narrow wide widens))
    (cases_Bool (narrow n))

-- and where it is less somewhere, a smaller one
sum_below_less : (n at : ℕ) (f g : ℕ → ℕ) → at < n → ((i : ℕ) → i < n → f i ≤ g i) → f at < g at → sum_below n f < sum_below n g
sum_below_less zero at f g inside le less = absurd (omega (arith, inside))
sum_below_less (suc n) at f g inside le less =
    ⊎_elim
    (λ (here : at ≡ n). omega (arith, subst (λ (i : ℕ). f i < g i) here less, sum_below-le n f g (λ i h. le i (omega (arith, h)))))
    (λ (other : at ≡ n → ⊥). omega (arith, le n (omega arith), sum_below_less n at f g (omega (arith, inside, other)) (λ i h. le i (omega (arith, h))) less))
    (cases_eq at n)

module _ (p : Problem) (windows : ℕ → ℕ → Option Window) where
  module _ (fewer sides : List Side) (among : AreAmong fewer sides) where
    in_fewer : (k arc : ℕ) (o : Option Window) → departures_in p sides k arc o ≤ departures_in p fewer k arc o
    in_fewer k arc None = omega arith
    in_fewer k arc (Some w) =
        count_below_mono (w.hi + 1) (is_departure p sides k arc w) (is_departure p fewer k arc w)
        (λ m passes.
        let e : Exit = exit_of p (record { arc = arc; depart = m }) in
        let parts = and_parts (nat_le w.lo m) (meets_all k sides e) passes in
        and_from (nat_le w.lo m) (meets_all k fewer e) parts.0 (meets_all_fewer k fewer sides e among parts.1))

    below_fewer : (k terminal a : ℕ) → departures_below p windows sides k terminal a ≤ departures_below p windows fewer k terminal a
    below_fewer k terminal zero = omega arith
    below_fewer k terminal (suc a) =
        let many : ℕ = departures_in p sides k a (windows k a) in
        let most : ℕ = departures_in p fewer k a (windows k a) in
        ⊎_elim
        (λ (here : nat_eq (tails_of p a) terminal ≡ true).
        omega (arith, below_fewer k terminal a, in_fewer k a (windows k a), cond-true (nat_eq (tails_of p a) terminal) many 0 here, cond-true (nat_eq (tails_of p a) terminal) most 0 here))
        (λ (away : nat_eq (tails_of p a) terminal ≡ false).
        omega (arith, below_fewer k terminal a, cond-false (nat_eq (tails_of p a) terminal) many 0 away, cond-false (nat_eq (tails_of p a) terminal) most 0 away))
        (cases_Bool (nat_eq (tails_of p a) terminal))

    -- under fewer sides at least as many departures are left, for each shipment at each terminal
    pub departures_left_fewer : (k terminal : ℕ) → departures_left p windows sides k terminal ≤ departures_left p windows fewer k terminal
    departures_left_fewer k terminal = below_fewer k terminal (length p.arcs)

    slack_at_fewer : (k terminal : ℕ) → slack_at p windows sides k terminal ≤ slack_at p windows fewer k terminal
    slack_at_fewer k terminal = omega (arith, departures_left_fewer k terminal)

    -- and the slack is at least as great
    pub slack_fewer : slack p windows sides ≤ slack p windows fewer
    slack_fewer =
        sum_below-le (length p.shipments) (λ k. sum_below (length p.terminals) (slack_at p windows sides k)) (λ k. sum_below (length p.terminals) (slack_at p windows fewer k))
        (λ k h. sum_below-le (length p.terminals) (slack_at p windows sides k) (slack_at p windows fewer k) (λ t within. slack_at_fewer k t))

    -- it is greater where one shipment has more departures at one terminal, of which some are left
    slack_less : (k terminal : ℕ) → k < length p.shipments → terminal < length p.terminals → 1 ≤ departures_left p windows sides k terminal →
        departures_left p windows sides k terminal < departures_left p windows fewer k terminal → slack p windows sides < slack p windows fewer
    slack_less k terminal shipment place some less =
        sum_below_less (length p.shipments) k (λ j. sum_below (length p.terminals) (slack_at p windows sides j)) (λ j. sum_below (length p.terminals) (slack_at p windows fewer j)) shipment
        (λ j h. sum_below-le (length p.terminals) (slack_at p windows sides j) (slack_at p windows fewer j) (λ t within. slack_at_fewer j t))
        (sum_below_less (length p.terminals) terminal (slack_at p windows sides k) (slack_at p windows fewer k) place (λ t within. slack_at_fewer k t) (omega (arith, some, less)))

  -- one more side leaves no more departures, for each shipment at each terminal
  pub departures_left_push : (sides : List Side) (side : Side) (k terminal : ℕ) → departures_left p windows (sides ++ (side ∷ [])) k terminal ≤ departures_left p windows sides k terminal
  departures_left_push sides side k terminal = departures_left_fewer sides (sides ++ (side ∷ [])) (AreAmong_append sides (side ∷ [])) k terminal

  -- and no more slack
  pub slack_push : (sides : List Side) (side : Side) → slack p windows (sides ++ (side ∷ [])) ≤ slack p windows sides
  slack_push sides side = slack_fewer sides (sides ++ (side ∷ [])) (AreAmong_append sides (side ∷ []))

  -- where departures are left, an arc of the problem leaves the terminal
  leaving_arc : (sides : List Side) (k terminal a : ℕ) → 1 ≤ departures_below p windows sides k terminal a → (arc : ℕ) × (arc < a) × (tails_of p arc ≡ terminal)
  leaving_arc sides k terminal zero some = absurd (omega (arith, some))
  leaving_arc sides k terminal (suc a) some =
      ⊎_elim
      (λ (here : nat_eq (tails_of p a) terminal ≡ true). (a, omega arith, eqb-true (tails_of p a) terminal here))
      (λ (away : nat_eq (tails_of p a) terminal ≡ false).
      let earlier = leaving_arc sides k terminal a (omega (arith, some, cond-false (nat_eq (tails_of p a) terminal) (departures_in p sides k a (windows k a)) 0 away)) in
      (earlier.0, omega (arith, earlier.1), earlier.2))
      (cases_Bool (nat_eq (tails_of p a) terminal))

  -- so the terminal exists
  pub departures_left-terminal : (sides : List Side) (k terminal : ℕ) → IsValid p → 1 ≤ departures_left p windows sides k terminal → terminal < length p.terminals
  departures_left-terminal sides k terminal valid some =
      let arc = leaving_arc sides k terminal (length p.arcs) some in
      subst (λ (t : ℕ). t < length p.terminals) arc.2 (valid.parts.arcs arc.0 no_arc arc.1).from

  module _ (sides : List Side) (k terminal : ℕ) (split : Split) (valid : IsValid p) (shipment : k < length p.shipments) (divides : DividesDepartures p windows sides k terminal split) where
    place : terminal < length p.terminals
    place = departures_left-terminal (sides ++ (first_of_split split ∷ [])) k terminal valid divides.first

    -- on the first side of a split that divides departures the slack is less
    pub slack-first_of_split : slack p windows (sides ++ (first_of_split split ∷ [])) < slack p windows sides
    slack-first_of_split =
        slack_less sides (sides ++ (first_of_split split ∷ [])) (AreAmong_append sides (first_of_split split ∷ [])) k terminal shipment place divides.first (omega (arith, divides.second, divides.together))

    -- and on the second
    pub slack-second_of_split : slack p windows (sides ++ (second_of_split split terminal ∷ [])) < slack p windows sides
    slack-second_of_split =
        slack_less sides (sides ++ (second_of_split split terminal ∷ [])) (AreAmong_append sides (second_of_split split terminal ∷ [])) k terminal shipment place divides.second (omega (arith, divides.first, divides.together))
