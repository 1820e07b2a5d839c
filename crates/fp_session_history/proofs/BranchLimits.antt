-- A tree whose splits all divide departures or, where there is a unit, numbers of trucks has fewer splits than 2 to the power of how often
-- leaves can be divided.
use Rattle.std.proofs.Common.{◌≡◌, ℕ, zero, suc, ◌+◌, ◌-◌, ◌^◌, ◌<◌, ◌≤◌, Bool, true, false, List, [], ◌∷◌, ◌++◌, length, max, min, All, ⊎_elim, refl, sym, ap, ◌∙◌, subst, arith}
use Rattle.std.specs.Prelude.{⊤, nat_eq, IfSome, Option, Some, None}
use Rattle.std.proofs.lemmas.Bool.{cases_eq, eq-eqb}
use Rattle.std.proofs.lemmas.List.Elements.{All-from_recursion}
use Rattle.std.specs.List.{AllByRecursion}
use Rattle.fp_base_lists.specs.Below.{sum_below}
use Rattle.fp_base_lists.proofs.SumsBelow.{sum_below-le}
use Rattle.fp_model.specs.Problem.{IsValid, Problem}
use Rattle.fp_timenodes.specs.declared.places.TheConstants.{LATEST}
use Rattle.fp_flatnet.specs.declared.window_tables.Window.{Window}
use Rattle.fp_tree.specs.declared.sides.Side.{Side}
use Rattle.fp_tree.specs.declared.sides.Side.TheVariants.{AtMost, MoreThan}
use Rattle.fp_tree.specs.declared.sides.Split.{Split}
use Rattle.fp_tree.specs.Sides.{Fork, first, first_of_split, second, second_of_split}
use Rattle.fp_tree.specs.Trees.{Branch, FallsBelow, tree_branches}
use Rattle.fp_tree.proofs.SplitBudget.{length-tree_branches_lt}
use Rattle.fp_allowed.specs.Slack.{DividesSome, slack}
use Rattle.fp_allowed.proofs.Slack.{slack-first_of_split, slack-second_of_split, slack_push}
use Rattle.fp_prices_gifts.specs.declared.gifts.Gift.{Gift}
use Rattle.fp_prices_gifts.specs.GiftNumbers.{better, gift_number, number_by}
use Rattle.fp_session_history.specs.Divisions.{AllDivide, Divides, DividesTrucks, division_slack, fewest_trucks, most_trucks, told_or, truck_slack, trucks_alone, whole_gift}

-- of three numbers the best one is found in any order
better_assoc : (least : Bool) (a b c : Option ℕ) → better least (better least a b) c ≡ better least a (better least b c)
better_assoc least None b c = refl
better_assoc least (Some a) None c = refl
better_assoc true (Some a) (Some b) None = refl
better_assoc false (Some a) (Some b) None = refl
better_assoc true (Some a) (Some b) (Some c) = let e : max (max a b) c ≡ max a (max b c) = omega arith in ap (λ (n : ℕ). Some n) e
better_assoc false (Some a) (Some b) (Some c) = let e : min (min a b) c ≡ min a (min b c) = omega arith in ap (λ (n : ℕ). Some n) e

better_none : (least : Bool) (a : Option ℕ) → better least a None ≡ a
better_none least None = refl
better_none least (Some a) = refl

-- what one more side tells comes last
gift_number_push : (sides : List Side) (side : Side) (gift : Gift) → gift_number (sides ++ (side ∷ [])) gift ≡ better gift.least (gift_number sides gift) (number_by gift side)
gift_number_push [] side gift = better_none gift.least (number_by gift side)
gift_number_push (s ∷ sides) side gift =
    ap (λ (o : Option ℕ). better gift.least (number_by gift s) o) (gift_number_push sides side gift) ∙ sym (better_assoc gift.least (number_by gift s) (gift_number sides gift) (number_by gift side))

-- the greater of two numbers is at least each, and the less at most each
greater_told : (a b : Option ℕ) → (told_or a 0 ≤ told_or (better true a b) 0) × (told_or b 0 ≤ told_or (better true a b) 0)
greater_told None None = (omega arith, omega arith)
greater_told None (Some b) = (omega arith, omega arith)
greater_told (Some a) None = (omega arith, omega arith)
greater_told (Some a) (Some b) = (omega arith, omega arith)

less_told : (n : ℕ) (a b : Option ℕ) → (min n (told_or (better false a b) n) ≤ min n (told_or a n)) × (min n (told_or (better false a b) n) ≤ min n (told_or b n))
less_told n None None = (omega arith, omega arith)
less_told n None (Some b) = (omega arith, omega arith)
less_told n (Some a) None = (omega arith, omega arith)
less_told n (Some a) (Some b) = (omega arith, omega arith)

-- a sum is less where a function is less at one number and nowhere greater
sum_below_less : (n at : ℕ) (f g : ℕ → ℕ) → at < n → ((i : ℕ) → i < n → f i ≤ g i) → f at < g at → sum_below n f < sum_below n g
sum_below_less zero at f g inside le less = absurd (omega (arith, inside))
sum_below_less (suc n) at f g inside le less =
    ⊎_elim
    (λ (here : at ≡ n). omega (arith, subst (λ (i : ℕ). f i < g i) here less, sum_below-le n f g (λ i h. le i (omega (arith, h)))))
    (λ (other : at ≡ n → ⊥). omega (arith, le n (omega arith), sum_below_less n at f g (omega (arith, inside, other)) (λ i h. le i (omega (arith, h))) less))
    (cases_eq at n)

module _ (p : Problem) (sides : List Side) (side : Side) where
  abbrev more : List Side
  more = sides ++ (side ∷ [])

  -- one more side leaves an arc no fewer trucks at least, as many as it tells
  fewest_push : (arc : ℕ) → (fewest_trucks sides arc ≤ fewest_trucks more arc) × (told_or (number_by (whole_gift arc true) side) 0 ≤ fewest_trucks more arc)
  fewest_push arc =
      let told = greater_told (gift_number sides (whole_gift arc true)) (number_by (whole_gift arc true) side) in
      let is : fewest_trucks more arc ≡ told_or (better true (gift_number sides (whole_gift arc true)) (number_by (whole_gift arc true) side)) 0 =
      ap (λ (o : Option ℕ). told_or o 0) (gift_number_push sides side (whole_gift arc true)) in
      (omega (arith, told.0, is), omega (arith, told.1, is))

  -- and no more at most
  most_push : (arc : ℕ) → (most_trucks p more arc ≤ most_trucks p sides arc) × (most_trucks p more arc ≤ told_or (number_by (whole_gift arc false) side) (trucks_alone p arc))
  most_push arc =
      let alone : ℕ = trucks_alone p arc in
      let told = less_told alone (gift_number sides (whole_gift arc false)) (number_by (whole_gift arc false) side) in
      let is : most_trucks p more arc ≡ min alone (told_or (better false (gift_number sides (whole_gift arc false)) (number_by (whole_gift arc false) side)) alone) =
      ap (λ (o : Option ℕ). min alone (told_or o alone)) (gift_number_push sides side (whole_gift arc false)) in
      (omega (arith, told.0, is), omega (arith, told.1, is))

  -- so what can still be divided of an arc never grows
  left_push : (arc : ℕ) → most_trucks p more arc - fewest_trucks more arc ≤ most_trucks p sides arc - fewest_trucks sides arc
  left_push arc = omega (arith, (fewest_push arc).0, (most_push arc).0)

  -- nor does it of all arcs
  pub truck_slack_push : truck_slack p more ≤ truck_slack p sides
  truck_slack_push =
      sum_below-le (length p.arcs) (λ arc. most_trucks p more arc - fewest_trucks more arc) (λ arc. most_trucks p sides arc - fewest_trucks sides arc) (λ arc within. left_push arc)

  -- and it falls where it falls of one arc
  truck_slack_less : (arc : ℕ) → arc < length p.arcs → most_trucks p more arc - fewest_trucks more arc < most_trucks p sides arc - fewest_trucks sides arc → truck_slack p more < truck_slack p sides
  truck_slack_less arc exists less =
      sum_below_less (length p.arcs) arc (λ a. most_trucks p more a - fewest_trucks more a) (λ a. most_trucks p sides a - fewest_trucks sides a) exists (λ a within. left_push a) less

-- what the sides of a split by the trucks of an arc over its whole time tell
told_most : (arc trucks other : ℕ) → told_or (number_by (whole_gift arc false) (AtMost arc 0 (LATEST + 1) trucks)) other ≡ trucks
told_most arc trucks other =
    let same : nat_eq arc arc ≡ true = eq-eqb arc arc refl in
    rw same refl

told_fewest : (arc trucks : ℕ) → told_or (number_by (whole_gift arc true) (MoreThan arc 0 (LATEST + 1) trucks)) 0 ≡ trucks + 1
told_fewest arc trucks =
    let same : nat_eq arc arc ≡ true = eq-eqb arc arc refl in
    rw same refl

module _ (p : Problem) (sides : List Side) (f : Fork) (divides : DividesTrucks p sides f) where
  -- what is left of the trucks is less on the first side of a fork that divides them
  pub truck_slack-first : truck_slack p (sides ++ (first f ∷ [])) < truck_slack p sides
  truck_slack-first =
      let side : first f ≡ AtMost divides.arc 0 (LATEST + 1) divides.trucks = ap first_of_split divides.split in
      let told : told_or (number_by (whole_gift divides.arc false) (first f)) (trucks_alone p divides.arc) ≡ divides.trucks =
      ap (λ (s : Side). told_or (number_by (whole_gift divides.arc false) s) (trucks_alone p divides.arc)) side ∙ told_most divides.arc divides.trucks (trucks_alone p divides.arc) in
      truck_slack_less p sides (first f) divides.arc divides.exists
      (omega (arith, told, (most_push p sides (first f) divides.arc).1, (fewest_push p sides (first f) divides.arc).0, divides.fewest, divides.most))

  -- and on the second
  pub truck_slack-second : truck_slack p (sides ++ (second f ∷ [])) < truck_slack p sides
  truck_slack-second =
      let side : second f ≡ MoreThan divides.arc 0 (LATEST + 1) divides.trucks = ap (λ (s : Split). second_of_split s f.tail) divides.split in
      let told : told_or (number_by (whole_gift divides.arc true) (second f)) 0 ≡ divides.trucks + 1 =
      ap (λ (s : Side). told_or (number_by (whole_gift divides.arc true) s) 0) side ∙ told_fewest divides.arc divides.trucks in
      truck_slack_less p sides (second f) divides.arc divides.exists
      (omega (arith, told, (fewest_push p sides (second f) divides.arc).1, (most_push p sides (second f) divides.arc).0, divides.fewest, divides.most))

module _ (p : Problem) (windows : ℕ → ℕ → Option Window) (valid : IsValid p) where
  -- at both children of a fork that divides departures the slack falls
  slack_falls : (sides : List Side) (f : Fork) → DividesSome p windows sides f → (slack p windows (sides ++ (first f ∷ [])) < slack p windows sides) × (slack p windows (sides ++ (second f ∷ [])) < slack p windows sides)
  slack_falls sides f some = (
    slack-first_of_split p windows sides some.shipment some.terminal f.split valid some.exists some.divides,
    let below : slack p windows (sides ++ (second_of_split f.split some.terminal ∷ [])) < slack p windows sides =
        slack-second_of_split p windows sides some.shipment some.terminal f.split valid some.exists some.divides in
        omega (arith, below, ap (λ (side : Side). slack p windows (sides ++ (side ∷ []))) some.tail),
  )

  -- at both children of a fork that divides, leaves can be divided less often
  pub division_falls : (unit : Option ℕ) (sides : List Side) (f : Fork) → Divides unit p windows sides f →
      (division_slack unit p windows (sides ++ (first f ∷ [])) < division_slack unit p windows sides) × (division_slack unit p windows (sides ++ (second f ∷ [])) < division_slack unit p windows sides)
  division_falls None sides f divides =
      ⊎_elim
      (λ (some : DividesSome p windows sides f). slack_falls sides f some)
      (λ (trucks : ⊥ × DividesTrucks p sides f). absurd trucks.0)
      divides.1
  division_falls (Some u) sides f divides =
      ⊎_elim
      (λ (some : DividesSome p windows sides f).
      let falls = slack_falls sides f some in
      (omega (arith, falls.0, truck_slack_push p sides (first f)), omega (arith, falls.1, truck_slack_push p sides (second f))))
      (λ (trucks : ⊤ × DividesTrucks p sides f).
      (omega (arith, truck_slack-first p sides f trucks.1, slack_push p windows sides (first f)), omega (arith, truck_slack-second p sides f trucks.1, slack_push p windows sides (second f))))
      divides.1

  module _ {X : Type 0} (unit : Option ℕ) (fork_of : X → Option Fork) where
    falls_each : (branches : List (Branch X)) → AllDivide unit p windows fork_of branches → AllByRecursion (FallsBelow fork_of (division_slack unit p windows)) branches
    falls_each [] all = tt
    falls_each (b ∷ branches) all = (falls_at b.sides (fork_of b.node) all.0, falls_each branches all.1)
      where
        falls_at : (sides : List Side) (o : Option Fork) → IfSome o (Divides unit p windows sides) →
            IfSome o (λ f. (division_slack unit p windows (sides ++ (first f ∷ [])) < division_slack unit p windows sides) × (division_slack unit p windows (sides ++ (second f ∷ [])) < division_slack unit p windows sides))
        falls_at sides None divides = tt
        falls_at sides (Some f) divides = division_falls unit sides f divides

    -- so a tree has fewer splits than 2 to the power of how often leaves can be divided
    pub tree_branches-divisions : (nodes : List X) → AllDivide unit p windows fork_of (tree_branches fork_of nodes) → length (tree_branches fork_of nodes) < 2 ^ division_slack unit p windows []
    tree_branches-divisions nodes all =
        length-tree_branches_lt fork_of (division_slack unit p windows) nodes
        (All-from_recursion (FallsBelow fork_of (division_slack unit p windows)) (tree_branches fork_of nodes) (falls_each (tree_branches fork_of nodes) all))
