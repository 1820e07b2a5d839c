-- The first part of a certificate that fails.
use Rattle.std.proofs.Common.{◌≡◌, ℕ, ◌+◌, ◌<◌, ◌≤◌, ◌⊎◌, cond, nat_eq, ⊎_elim, refl, sym, ap, ◌∙◌, subst, arith}
use Rattle.std.proofs.lemmas.Bool.{cases_lt}
use Rattle.fp_model.specs.Numbered.{shipment_at}
use Rattle.fp_model.specs.Problem.{Problem}
use Rattle.std.specs.Prelude.{Option}
use Rattle.fp_flatnet.specs.Tables.{WindowTable, windows_in}
use Rattle.fp_certificate_lines.specs.declared.certificates.Answer.{Answer}
use Rattle.fp_certificate_lines.specs.declared.certificates.Answer.TheVariants.{Direct, Optimal, Unfinished, Infeasible}
use Rattle.fp_certificate_lines.specs.declared.certificates.Spent.{Spent}
use Rattle.fp_certificate_lines.specs.Statements.{Statement}
use Rattle.fp_certificate_rules.specs.Accepted.{Applies, Holds, IsBlockedAs, IsTooLate, Part}
use Rattle.fp_checker.specs.Rejections.{IsFirstUnmet, HoldBelow, IsFirstFailed, part_number}
use Rattle.fp_certificate_rules.specs.Leaves.{HasTree}
use Rattle.fp_certificate_rules.specs.Plans.{HasCost, HasPlan, HasTimetable}
use Rattle.fp_certificate_rules.specs.Points.{HasPoints}
use Rattle.fp_certificate_rules.specs.Prices.{HasPrices}

-- the part with a number
part_at : ℕ → Part
part_at n =
    cond (nat_eq n 1) Part.Plan
    (cond (nat_eq n 2) Part.Cost
    (cond (nat_eq n 3) Part.Trucks
    (cond (nat_eq n 4) Part.Points
    (cond (nat_eq n 5) Part.Prices
    (cond (nat_eq n 6) Part.Tree
    (cond (nat_eq n 7) Part.Leaves Part.Blocked))))))

part_at-number : (part : Part) → part_at (part_number part) ≡ part
unfolding part_at
part_at-number Part.Plan = refl
part_at-number Part.Cost = refl
part_at-number Part.Trucks = refl
part_at-number Part.Points = refl
part_at-number Part.Prices = refl
part_at-number Part.Tree = refl
part_at-number Part.Leaves = refl
part_at-number Part.Blocked = refl

-- parts with one number are one part
part_number_injective : (part other : Part) → part_number part ≡ part_number other → part ≡ other
part_number_injective part other same = sym (part_at-number part) ∙ ap part_at same ∙ part_at-number other

-- no part has the number 0
part_number_positive : (part : Part) → 1 ≤ part_number part
part_number_positive Part.Plan = omega arith
part_number_positive Part.Cost = omega arith
part_number_positive Part.Trucks = omega arith
part_number_positive Part.Points = omega arith
part_number_positive Part.Prices = omega arith
part_number_positive Part.Tree = omega arith
part_number_positive Part.Leaves = omega arith
part_number_positive Part.Blocked = omega arith

-- an answer that claims a bound
abbrev pub IsClaim : Answer → Type 0
IsClaim answer = ((cost : ℕ) × (answer ≡ Optimal cost)) ⊎ ((cost : ℕ) × (bound : ℕ) × (spent : Spent) × (answer ≡ Unfinished cost bound spent))

module _ (p : Problem) (table : WindowTable) (c : Statement) where
  HoldBelow_none : HoldBelow p table c 1
  HoldBelow_none part lt = absurd (omega (arith, part_number_positive part, lt))

  -- one more part holds
  HoldBelow_more : (part : Part) → HoldBelow p table c (part_number part) → Holds p table c part → HoldBelow p table c (part_number part + 1)
  HoldBelow_more part below here other lt =
      ⊎_elim
      (λ (less : part_number other < part_number part). below other less)
      (λ (more : part_number part ≤ part_number other).
      let same : part ≡ other = part_number_injective part other (omega (arith, more, lt)) in
      subst (Holds p table c) same here)
      (cases_lt (part_number other) (part_number part))

  -- the next part fails
  pub IsFirstUnmet_part : (part : Part) → HoldBelow p table c (part_number part) → (Holds p table c part → ⊥) → (number : ℕ) → number ≡ part_number part → IsFirstUnmet p table c number
  IsFirstUnmet_part part below fails number is = record {
    part = part;
    numbered = sym is;
    fails = fails;
    before = subst (HoldBelow p table c) (sym is) below;
  }

  pub plan_unmet : (HasPlan p (windows_in table) c → ⊥) → (number : ℕ) → number ≡ 1 → (number ≤ 3) × IsFirstUnmet p table c number
  plan_unmet fails number is = (omega (arith, is), IsFirstUnmet_part Part.Plan HoldBelow_none fails number is)

  pub cost_unmet : HasPlan p (windows_in table) c → (HasCost p c → ⊥) → (number : ℕ) → number ≡ 2 → (number ≤ 3) × IsFirstUnmet p table c number
  cost_unmet plan fails number is = (omega (arith, is), IsFirstUnmet_part Part.Cost (HoldBelow_more Part.Plan HoldBelow_none plan) fails number is)

  HoldBelow_trucks : HasPlan p (windows_in table) c → HasCost p c → HoldBelow p table c 3
  HoldBelow_trucks plan cost = HoldBelow_more Part.Cost (HoldBelow_more Part.Plan HoldBelow_none plan) cost

  pub trucks_unmet : HasPlan p (windows_in table) c → HasCost p c → (Holds p table c Part.Trucks → ⊥) → (number : ℕ) → number ≡ 3 → (number ≤ 3) × IsFirstUnmet p table c number
  trucks_unmet plan cost fails number is = (omega (arith, is), IsFirstUnmet_part Part.Trucks (HoldBelow_trucks plan cost) fails number is)

  HoldBelow_points : HasTimetable p (windows_in table) c → HoldBelow p table c 4
  HoldBelow_points told = HoldBelow_more Part.Trucks (HoldBelow_trucks told.plan told.cost) told.trucks

  pub points_unmet : HasTimetable p (windows_in table) c → (HasPoints p table.anchors c → ⊥) → (number : ℕ) → number ≡ 4 → (number ≤ 7) × IsFirstUnmet p table c number
  points_unmet told fails number is = (omega (arith, is), IsFirstUnmet_part Part.Points (HoldBelow_points told) fails number is)

  HoldBelow_prices : HasTimetable p (windows_in table) c → HasPoints p table.anchors c → HoldBelow p table c 5
  HoldBelow_prices told points = HoldBelow_more Part.Points (HoldBelow_points told) points

  pub prices_unmet : HasTimetable p (windows_in table) c → HasPoints p table.anchors c → (HasPrices p table c → ⊥) → (number : ℕ) → number ≡ 5 → (number ≤ 7) × IsFirstUnmet p table c number
  prices_unmet told points fails number is = (omega (arith, is), IsFirstUnmet_part Part.Prices (HoldBelow_prices told points) fails number is)

  HoldBelow_tree : HasTimetable p (windows_in table) c → HasPoints p table.anchors c → HasPrices p table c → HoldBelow p table c 6
  HoldBelow_tree told points tables = HoldBelow_more Part.Prices (HoldBelow_prices told points) tables

  pub tree_unmet : HasTimetable p (windows_in table) c → HasPoints p table.anchors c → HasPrices p table c → (HasTree p c → ⊥) → (number : ℕ) → number ≡ 6 → (number ≤ 7) × IsFirstUnmet p table c number
  tree_unmet told points tables fails number is = (omega (arith, is), IsFirstUnmet_part Part.Tree (HoldBelow_tree told points tables) fails number is)

  HoldBelow_leaves : HasTimetable p (windows_in table) c → HasPoints p table.anchors c → HasPrices p table c → HasTree p c → HoldBelow p table c 7
  HoldBelow_leaves told points tables tree = HoldBelow_more Part.Tree (HoldBelow_tree told points tables) tree

  pub leaves_unmet : HasTimetable p (windows_in table) c → HasPoints p table.anchors c → HasPrices p table c → HasTree p c → (Holds p table c Part.Leaves → ⊥) → (number : ℕ) → number ≡ 7 →
      (number ≤ 7) × IsFirstUnmet p table c number
  leaves_unmet told points tables tree fails number is = (omega (arith, is), IsFirstUnmet_part Part.Leaves (HoldBelow_leaves told points tables tree) fails number is)

  pub HoldBelow_all : HasTimetable p (windows_in table) c → HasPoints p table.anchors c → HasPrices p table c → HasTree p c → Holds p table c Part.Leaves → HoldBelow p table c 8
  HoldBelow_all told points tables tree leaves = HoldBelow_more Part.Leaves (HoldBelow_leaves told points tables tree) leaves

  -- what applies to each answer
  Applies_direct : (part : Part) (cost : ℕ) → part_number part ≤ 3 → Applies (Direct cost) part
  Applies_direct Part.Plan cost le = tt
  Applies_direct Part.Cost cost le = tt
  Applies_direct Part.Trucks cost le = tt
  Applies_direct Part.Points cost le = absurd (omega (arith, le))
  Applies_direct Part.Prices cost le = absurd (omega (arith, le))
  Applies_direct Part.Tree cost le = absurd (omega (arith, le))
  Applies_direct Part.Leaves cost le = absurd (omega (arith, le))
  Applies_direct Part.Blocked cost le = absurd (omega (arith, le))

  Applies_optimal : (part : Part) (cost : ℕ) → part_number part ≤ 7 → Applies (Optimal cost) part
  Applies_optimal Part.Plan cost le = tt
  Applies_optimal Part.Cost cost le = tt
  Applies_optimal Part.Trucks cost le = tt
  Applies_optimal Part.Points cost le = tt
  Applies_optimal Part.Prices cost le = tt
  Applies_optimal Part.Tree cost le = tt
  Applies_optimal Part.Leaves cost le = tt
  Applies_optimal Part.Blocked cost le = absurd (omega (arith, le))

  -- a first part that fails, where it applies
  pub IsFirstUnmet-IsFirstFailed : (number most : ℕ) → number ≤ most → IsFirstUnmet p table c number → ((part : Part) → part_number part ≤ most → Applies c.answer part) → IsFirstFailed p table c number
  IsFirstUnmet-IsFirstFailed number most le first applies = record {
    part = first.part;
    numbered = first.numbered;
    applies = applies first.part (omega (arith, first.numbered, le));
    fails = first.fails;
    before = λ other lt _. first.before other lt;
  }

  pub IsFirstFailed_direct : (cost number : ℕ) → c.answer ≡ Direct cost → (number ≤ 3) × IsFirstUnmet p table c number → IsFirstFailed p table c number
  IsFirstFailed_direct cost number is failed =
      IsFirstUnmet-IsFirstFailed number 3 failed.0 failed.1 (λ part le. subst (λ (a : Answer). Applies a part) (sym is) (Applies_direct part cost le))

  Applies_unfinished : (part : Part) (cost bound : ℕ) (spent : Spent) → part_number part ≤ 7 → Applies (Unfinished cost bound spent) part
  Applies_unfinished Part.Plan cost bound spent le = tt
  Applies_unfinished Part.Cost cost bound spent le = tt
  Applies_unfinished Part.Trucks cost bound spent le = tt
  Applies_unfinished Part.Points cost bound spent le = tt
  Applies_unfinished Part.Prices cost bound spent le = tt
  Applies_unfinished Part.Tree cost bound spent le = tt
  Applies_unfinished Part.Leaves cost bound spent le = tt
  Applies_unfinished Part.Blocked cost bound spent le = absurd (omega (arith, le))

  pub IsFirstFailed_claim : (answer : Answer) (number : ℕ) → c.answer ≡ answer → IsClaim answer → (number ≤ 7) × IsFirstUnmet p table c number → IsFirstFailed p table c number
  IsFirstFailed_claim answer number same claim failed =
      IsFirstUnmet-IsFirstFailed number 7 failed.0 failed.1 (λ part le.
      ⊎_elim
      (λ (is : (cost : ℕ) × (answer ≡ Optimal cost)). subst (λ (a : Answer). Applies a part) (sym (same ∙ is.1)) (Applies_optimal part is.0 le))
      (λ (is : (cost : ℕ) × (bound : ℕ) × (spent : Spent) × (answer ≡ Unfinished cost bound spent)).
      subst (λ (a : Answer). Applies a part) (sym (same ∙ is.3)) (Applies_unfinished part is.0 is.1 is.2 le))
      claim)

  -- nothing but the last part applies to an infeasible answer
  Applies_infeasible : (part : Part) (shipment : ℕ) (time : Option ℕ) → Applies (Infeasible shipment time) part → 8 ≤ part_number part
  Applies_infeasible Part.Plan shipment time applies = absurd applies
  Applies_infeasible Part.Cost shipment time applies = absurd applies
  Applies_infeasible Part.Trucks shipment time applies = absurd applies
  Applies_infeasible Part.Points shipment time applies = absurd applies
  Applies_infeasible Part.Prices shipment time applies = absurd applies
  Applies_infeasible Part.Tree shipment time applies = absurd applies
  Applies_infeasible Part.Leaves shipment time applies = absurd applies
  Applies_infeasible Part.Blocked shipment time applies = omega arith

  pub IsFirstFailed_infeasible : (shipment : ℕ) (time : Option ℕ) (number : ℕ) → c.answer ≡ Infeasible shipment time → (number ≡ 8) × (IsTooLate p (shipment_at p shipment) time → ⊥) → IsFirstFailed p table c number
  IsFirstFailed_infeasible shipment time number is failed = record {
    part = Part.Blocked;
    numbered = sym failed.0;
    applies = subst (λ (a : Answer). Applies a Part.Blocked) (sym is) tt;
    fails = λ blocked. failed.1 (subst (IsBlockedAs p) is blocked);
    before = λ other lt applies.
        absurd (omega (arith, lt, failed.0, Applies_infeasible other shipment time (subst (λ (a : Answer). Applies a other) is applies)));
  }
