-- The charge of a span pays exactly where the least charges of its groups are together no more.
use Rattle.std.proofs.Common.{◌≡◌, ℕ, zero, suc, ◌+◌, ◌-◌, ◌<◌, ◌≤◌, List, [], ◌∷◌, ◌++◌, length, get_or, take, Option, None, Some, sym, subst, arith}
use Rattle.std.specs.Prelude.{MatchOption, sum_by}
use Rattle.std.specs.List.{AllZip}
use Rattle.std.proofs.lemmas.List.{take_all, take_more}
use Rattle.std.proofs.lemmas.List.Sums.{sum_by-cons, sum_by_push}
use Rattle.std.proofs.lemmas.Slice.Zip.{all_zipped_more}
use Rattle.fp_base_lists.proofs.Numbered.{AllZip-get_or}
use Rattle.fp_model.specs.Problem.{Problem, arc_at}
use Rattle.fp_flatnet.specs.declared.window_tables.Window.{Window}
use Rattle.fp_prices_knapsack.specs.declared.items.Item.{Item}
use Rattle.fp_prices_knapsack.specs.Charges.{IsLeastCharge, Pays}
use Rattle.fp_prices_spans.specs.declared.rules.moment_runs.MomentRun.{MomentRun}
use Rattle.fp_prices_spans.specs.MomentRuns.{end_of, group_weights, runs_from, runs_of}
use Rattle.fp_prices_spans.specs.SpanCharges.{ChargePays, items_of}
use Rattle.fp_prices_spans.specs.Spans.{ClassSpan}

-- a part of the charge is the least that pays for the group of a run
abbrev pub IsLeastPart : Problem → (ℕ → ℕ → Option Window) → ClassSpan → MomentRun → ℕ → Type 0
IsLeastPart p windows span run part = IsLeastCharge (items_of p (group_weights windows span run)) (arc_at p span.arc).capacity span.money part

-- it pays for it
abbrev PaysPart : Problem → (ℕ → ℕ → Option Window) → ClassSpan → MomentRun → ℕ → Type 0
PaysPart p windows span run part = Pays (items_of p (group_weights windows span run)) (arc_at p span.arc).capacity span.money part

-- so much of a charge is left by the least parts for some runs
pub record AreTakenOff (p : Problem) (windows : ℕ → ℕ → Option Window) (span : ClassSpan) (runs : List MomentRun) (left : ℕ) : Type 0 where
  pub parts : List ℕ
  pub are : AllZip (IsLeastPart p windows span) runs parts
  pub together : left + sum_by (λ (n : ℕ). n) parts ≡ span.charge

-- stands for the run of a number that no run has
abbrev pub no_run : MomentRun
no_run = record { from = 0; before = None }

-- what a charge leaves beyond the least that pays for items, if there is one and it isn't more
abbrev pub IsRest : List Item → (capacity money left : ℕ) → Option ℕ → Type 0
IsRest items capacity money left rest =
    MatchOption rest ((part : ℕ) → Pays items capacity money part → left < part) (λ (n : ℕ). IsLeastCharge items capacity money (left - n) × (n ≤ left))

-- it is so for the group of a run
abbrev pub IsRestOf : Problem → (ℕ → ℕ → Option Window) → ClassSpan → MomentRun → (left : ℕ) → Option ℕ → Type 0
IsRestOf p windows span run left rest = IsRest (items_of p (group_weights windows span run)) (arc_at p span.arc).capacity span.money left rest

-- where the items, the capacity and the money are those of the run
pub rest-told : (p : Problem) (windows : ℕ → ℕ → Option Window) (span : ClassSpan) (run : MomentRun) (left : ℕ) (rest : Option ℕ) (items : List Item) (capacity money : ℕ) →
    items ≡ items_of p (group_weights windows span run) → capacity ≡ (arc_at p span.arc).capacity → money ≡ span.money → IsRest items capacity money left rest → IsRestOf p windows span run left rest
rest-told p windows span run left rest items capacity money same_items same_capacity same_money told =
    subst (λ (n : ℕ). IsRest (items_of p (group_weights windows span run)) (arc_at p span.arc).capacity n left rest) same_money
    (subst (λ (n : ℕ). IsRest (items_of p (group_weights windows span run)) n money left rest) same_capacity (subst (λ (l : List Item). IsRest l capacity money left rest) same_items told))

-- the run with a number, where the span's moments are told by parts
pub run-told : (p : Problem) (first : ℕ → List ℕ) (span : ClassSpan) (point : ℕ) (groups : List ℕ) (end : Option ℕ) (number : ℕ) (run : MomentRun) → point ≡ span.point → groups ≡ span.groups → end ≡ end_of p first span →
    get_or (runs_from point groups end) number no_run ≡ run → get_or (runs_of p first span) number no_run ≡ run
run-told p first span point groups end number run same_point same_groups same_end told =
    subst (λ (n : ℕ). get_or (runs_from n span.groups (end_of p first span)) number no_run ≡ run) same_point
    (subst (λ (l : List ℕ). get_or (runs_from point l (end_of p first span)) number no_run ≡ run) same_groups
    (subst (λ (o : Option ℕ). get_or (runs_from point groups o) number no_run ≡ run) same_end told))

module _ (p : Problem) (windows : ℕ → ℕ → Option Window) (first : ℕ → List ℕ) (span : ClassSpan) where
  abbrev runs : List MomentRun
  runs = runs_of p first span

  -- the least parts pay
  parts-pay : (some : List MomentRun) (parts : List ℕ) → AllZip (IsLeastPart p windows span) some parts → AllZip (PaysPart p windows span) some parts
  parts-pay [] [] are = tt
  parts-pay [] (part ∷ parts) are = absurd are
  parts-pay (run ∷ some) [] are = absurd are
  parts-pay (run ∷ some) (part ∷ parts) are = (are.0.pays, parts-pay some parts are.1)

  -- of parts that pay for all runs, the one for a run and the least for those before it are together no more than all
  least-le : (count : ℕ) (some : List MomentRun) (parts others : List ℕ) → count < length some → AllZip (IsLeastPart p windows span) (take count some) parts → AllZip (PaysPart p windows span) some others →
      sum_by (λ (n : ℕ). n) parts + get_or others count 0 ≤ sum_by (λ (n : ℕ). n) others
  least-le count [] parts others inside are pay = absurd (omega (arith, inside))
  least-le count (run ∷ some) parts [] inside are pay = absurd pay
  least-le zero (run ∷ some) [] (other ∷ others) inside are pay = omega (arith, sum_by-cons (λ (n : ℕ). n) other others)
  least-le zero (run ∷ some) (part ∷ parts) (other ∷ others) inside are pay = absurd are
  least-le (suc count) (run ∷ some) [] (other ∷ others) inside are pay = absurd are
  least-le (suc count) (run ∷ some) (part ∷ parts) (other ∷ others) inside are pay =
      omega (
        arith,
        are.0.least other pay.0,
        least-le count some parts others (omega (arith, inside)) are.1 pay.1,
        sum_by-cons (λ (n : ℕ). n) part parts,
        sum_by-cons (λ (n : ℕ). n) other others,
      )

  -- at the start all of it is left
  pub off-none : AreTakenOff p windows span (take 0 runs) span.charge
  off-none = record { parts = []; are = tt; together = omega arith }

  module _ (count left : ℕ) (inside : count < length runs) (so_far : AreTakenOff p windows span (take count runs) left) (run : MomentRun) (is_run : get_or runs count no_run ≡ run) where
    -- one more part that isn't above what is left
    pub off-more : (rest : ℕ) → IsRestOf p windows span run left (Some rest) → AreTakenOff p windows span (take (count + 1) runs) rest
    off-more rest is = record {
      parts = so_far.parts ++ (left - rest) ∷ [];
      are = subst (λ (l : List MomentRun). AllZip (IsLeastPart p windows span) l (so_far.parts ++ (left - rest) ∷ [])) (sym (take_more runs count no_run inside))
          (all_zipped_more (IsLeastPart p windows span) (take count runs) so_far.parts (get_or runs count no_run) (left - rest) so_far.are
          (subst (λ (r : MomentRun). IsLeastPart p windows span r (left - rest)) (sym is_run) is.0));
      together = omega (arith, so_far.together, sum_by_push (λ (n : ℕ). n) so_far.parts (left - rest), is.1);
    }

    -- where it is above, or nothing pays for a group, the charge doesn't pay
    pub off-over : IsRestOf p windows span run left None → ChargePays p windows first span → ⊥
    off-over is pays =
        let part : ℕ = get_or pays.parts count 0 in
        let here : PaysPart p windows span (get_or runs count no_run) part = AllZip-get_or (PaysPart p windows span) runs pays.parts count no_run 0 pays.pay inside in
        let over : left < part = is part (subst (λ (r : MomentRun). PaysPart p windows span r part) is_run here) in
        omega (arith, over, least-le count runs so_far.parts pays.parts inside so_far.are pays.pay, so_far.together, pays.enough)

  -- at the end it pays
  pub off-all : (count left : ℕ) → length runs ≤ count → AreTakenOff p windows span (take count runs) left → ChargePays p windows first span
  off-all count left all off =
      let are : AllZip (IsLeastPart p windows span) runs off.parts = subst (λ (l : List MomentRun). AllZip (IsLeastPart p windows span) l off.parts) (take_all count runs all) off.are in
      record { parts = off.parts; enough = omega (arith, off.together); pay = parts-pay runs off.parts are }
