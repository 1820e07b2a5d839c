-- Lists of bars: of what classes they are, and that two of the same classes ask alike.
use Rattle.std.proofs.Common.{◌≡◌, ◌∙◌, ℕ, ◌<◌, ◌≤◌, ◌+◌, Bool, true, false, ◌&&◌, List, [], ◌∷◌, ◌++◌, length, ⊎_elim, inl, inr, refl, sym, ap, arith}
use Rattle.std.specs.Prelude.{◌↔◌, ◌⊎◌, None, Option, nat_eq, nat_le, nat_lt, not}
use Rattle.std.specs.List.{AllByRecursion}
use Rattle.std.proofs.lemmas.Bool.{and_parts, cases_Bool, cases_lt, eqb-true, false≢true, ltb-true}
use Rattle.std.proofs.lemmas.List.Elements.{filter_map-append, recursion_from_All}
use Rattle.std.proofs.lemmas.List.Folds.{list_all-append}
use Rattle.fp_model.specs.declared.limits.TheConstants.{LATEST}
use Rattle.fp_model.specs.declared.parts.Leg.{Leg}
use Rattle.fp_model.specs.Problem.{Problem}
use Rattle.fp_longestarcs.specs.Classes.{class_of}
use Rattle.fp_tree.specs.declared.sides.Side.{Side}
use Rattle.fp_tree.specs.declared.sides.Side.TheVariants.{AtMost, Before, From, MoreThan, Only, Outside, Through, Without}
use Rattle.fp_tree.specs.Sides.{Exit, way_of, ways_of}
use Rattle.fp_allowed.specs.Allowed.{exit_of, meets, meets_all}
use Rattle.fp_prices_gifts.specs.declared.gifts.Gift.{Gift}
use Rattle.fp_prices_gifts.specs.GiftNumbers.{better, gift_number, number_by}
use Rattle.fp_prices_spans.specs.SpanBars.{AreBarsOf, IsBar}
use Rattle.fp_checker.specs.LeafWays.{AskAlike}
use Rattle.fp_checker.proofs.TruckNumbers.{number-append}

-- sides ask what they ask
pub AskAlike-refl : (sides : List Side) → AskAlike sides sides
AskAlike-refl sides = record { legs = λ k e. refl; numbers = λ gift. refl; ways = λ k. refl }

-- what sides ask alike, they ask alike in front of others that do
pub AskAlike-append : (front others back backs : List Side) → AskAlike front others → AskAlike back backs → AskAlike (front ++ back) (others ++ backs)
AskAlike-append front others back backs first last = record {
  legs = λ k e.
      list_all-append (meets k e) front back ∙ ap (λ (b : Bool). b && meets_all k back e) (first.legs k e) ∙ ap (λ (b : Bool). meets_all k others e && b) (last.legs k e)
      ∙ sym (list_all-append (meets k e) others backs);
  numbers = λ gift.
      number-append front back gift ∙ ap (λ (o : Option ℕ). better gift.least o (gift_number back gift)) (first.numbers gift)
      ∙ ap (better gift.least (gift_number others gift)) (last.numbers gift) ∙ sym (number-append others backs gift);
  ways = λ k.
      filter_map-append (way_of k) front back ∙ ap (λ (ways : List ℕ). ways ++ ways_of k back) (first.ways k) ∙ ap (λ (ways : List ℕ). ways_of k others ++ ways) (last.ways k)
      ∙ sym (filter_map-append (way_of k) others backs);
}

-- truths of the same thing are one
same-truth : {P : Type 0} (a b : Bool) → (a ≡ true ↔ P) → (b ≡ true ↔ P) → a ≡ b
same-truth true true one other = refl
same-truth true false one other = absurd (false≢true (other.1 (one.0 refl)))
same-truth false true one other = absurd (false≢true (one.1 (other.0 refl)))
same-truth false false one other = refl

module _ (p : Problem) where
  -- a bar bars a run of departures of a shipment by an arc, which exist, until an end that comes no later than time does
  record BarParts (side : Side) : Type 0 where
    shipment : ℕ
    arc : ℕ
    point : ℕ
    until : ℕ
    is : side ≡ Outside shipment arc point until
    exists : shipment < length p.shipments
    leaves : arc < length p.arcs
    ends : until ≤ LATEST + 1

  bar-parts : (side : Side) → IsBar p side → BarParts side
  bar-parts (Outside shipment arc point until) bar = record { shipment = shipment; arc = arc; point = point; until = until; is = refl; exists = bar.0; leaves = bar.1; ends = bar.2 }
  bar-parts (Without shipment arc) bar = absurd bar
  bar-parts (Only shipment arc tail) bar = absurd bar
  bar-parts (Before shipment terminal at) bar = absurd bar
  bar-parts (From shipment terminal at) bar = absurd bar
  bar-parts (AtMost arc point until trucks) bar = absurd bar
  bar-parts (MoreThan arc point until trucks) bar = absurd bar
  bar-parts (Through shipment arc) bar = absurd bar

  -- bars tell gifts no numbers of trucks
  bars-numbers : (bars : List Side) → AllByRecursion (IsBar p) bars → (gift : Gift) → gift_number bars gift ≡ None
  bars-numbers [] are gift = refl
  bars-numbers (bar ∷ bars) are gift =
      ap (λ (side : Side). better gift.least (number_by gift side) (gift_number bars gift)) (bar-parts bar are.0).is ∙ bars-numbers bars are.1 gift

  -- and ask no shipment to go by an arc
  bars-ways : (bars : List Side) → AllByRecursion (IsBar p) bars → (k : ℕ) → ways_of k bars ≡ []
  bars-ways [] are k = refl
  bars-ways (bar ∷ bars) are k = ap (λ (side : Side). ways_of k (side ∷ bars)) (bar-parts bar are.0).is ∙ bars-ways bars are.1 k

  -- whether a leg meets them, its shipment, its arc and its moment tell
  bars-exit : (bars : List Side) → AllByRecursion (IsBar p) bars → (k : ℕ) (e : Exit) → meets_all k bars e ≡ meets_all k bars (exit_of p (record { arc = e.arc; depart = e.moment }))
  bars-exit [] are k e = refl
  bars-exit (bar ∷ bars) are k e =
      let other : Exit = exit_of p (record { arc = e.arc; depart = e.moment }) in
      let same : bar ≡ _ = (bar-parts bar are.0).is in
      ap (λ (b : Bool). b && meets_all k bars e) (ap (meets k e) same ∙ sym (ap (meets k other) same)) ∙ ap (λ (b : Bool). meets k other bar && b) (bars-exit bars are.1 k e)

  -- a leg of a shipment that exists, by an arc that does, that leaves while there is time
  abbrev IsBarrable : ℕ → Exit → Type 0
  IsBarrable k e = (k < length p.shipments) × (e.arc < length p.arcs) × (e.moment ≤ LATEST)

  -- any other meets them
  bar-other : (side : Side) → IsBar p side → (k : ℕ) (e : Exit) → (IsBarrable k e → ⊥) → meets k e side ≡ true
  bar-other side bar k e other =
      let parts : BarParts side = bar-parts side bar in
      let own : Bool = nat_eq k parts.shipment in
      let by : Bool = nat_eq e.arc parts.arc in
      let begun : Bool = nat_le parts.point e.moment in
      let early : Bool = nat_lt e.moment parts.until in
      ap (meets k e) parts.is
      ∙ ⊎_elim
      (λ (barred : (own && by && begun && early) ≡ true).
      let all = and_parts (own && by && begun) early barred in
      let leaves = and_parts own by (and_parts (own && by) begun all.0).0 in
      absurd
      (other (omega (arith, eqb-true k parts.shipment leaves.0, parts.exists), omega (arith, eqb-true e.arc parts.arc leaves.1, parts.leaves), omega (arith, ltb-true e.moment parts.until all.1, parts.ends))))
      (λ (free : (own && by && begun && early) ≡ false). ap (λ (b : Bool). not b) free)
      (cases_Bool (own && by && begun && early))

  bars-other : (bars : List Side) → AllByRecursion (IsBar p) bars → (k : ℕ) (e : Exit) → (IsBarrable k e → ⊥) → meets_all k bars e ≡ true
  bars-other [] are k e other = refl
  bars-other (bar ∷ bars) are k e other = ap (λ (b : Bool). b && meets_all k bars e) (bar-other bar are.0 k e other) ∙ bars-other bars are.1 k e other

  -- bars of the same classes
  module _ (points : ℕ → List ℕ) (IsBarred : ℕ → Leg → Type 0) (bars others : List Side) (are : AreBarsOf p points IsBarred bars) (too : AreBarsOf p points IsBarred others) where
    all-bars : AllByRecursion (IsBar p) bars
    all-bars = recursion_from_All (IsBar p) bars are.are

    all-others : AllByRecursion (IsBar p) others
    all-others = recursion_from_All (IsBar p) others too.are

    -- are met by the same legs
    legs-barrable : (k : ℕ) (e : Exit) → IsBarrable k e → meets_all k bars e ≡ meets_all k others e
    legs-barrable k e barrable =
        let leg : Leg = record { arc = e.arc; depart = e.moment } in
        bars-exit bars all-bars k e
        ∙ same-truth (meets_all k bars (exit_of p leg)) (meets_all k others (exit_of p leg)) (are.exact k leg barrable.0 barrable.1 barrable.2) (too.exact k leg barrable.0 barrable.1 barrable.2)
        ∙ sym (bars-exit others all-others k e)

    legs-other : (k : ℕ) (e : Exit) → (IsBarrable k e → ⊥) → meets_all k bars e ≡ meets_all k others e
    legs-other k e other = bars-other bars all-bars k e other ∙ sym (bars-other others all-others k e other)

    barrable-or_not : (k : ℕ) (e : Exit) → IsBarrable k e ⊎ (IsBarrable k e → ⊥)
    barrable-or_not k e =
        ⊎_elim
        (λ (exists : k < length p.shipments).
        ⊎_elim
        (λ (leaves : e.arc < length p.arcs).
        ⊎_elim (λ (late : LATEST < e.moment). inr (λ all. absurd (omega (arith, late, all.2)))) (λ (early : e.moment ≤ LATEST). inl (exists, leaves, early)) (cases_lt LATEST e.moment))
        (λ (none : length p.arcs ≤ e.arc). inr (λ all. absurd (omega (arith, none, all.1))))
        (cases_lt e.arc (length p.arcs)))
        (λ (none : length p.shipments ≤ k). inr (λ all. absurd (omega (arith, none, all.0))))
        (cases_lt k (length p.shipments))

    -- so they ask alike
    pub bars-alike : AskAlike bars others
    bars-alike = record {
      legs = λ k e. ⊎_elim (legs-barrable k e) (legs-other k e) (barrable-or_not k e);
      numbers = λ gift. bars-numbers bars all-bars gift ∙ sym (bars-numbers others all-others gift);
      ways = λ k. bars-ways bars all-bars k ∙ sym (bars-ways others all-others k);
    }

-- bars of some classes are bars of those that are barred alike, whatever the lists of points
pub bars-of_same : (p : Problem) (points others : ℕ → List ℕ) (One Other : ℕ → Leg → Type 0) (bars : List Side) →
    ((k : ℕ) (l : Leg) → l.arc < length p.arcs → (One k (class_of p points 1 l) ↔ Other k (class_of p others 1 l))) → AreBarsOf p points One bars → AreBarsOf p others Other bars
bars-of_same p points others One Other bars same are = record {
  are = are.are;
  exact = λ k l exists leaves early.
      let exact = are.exact k l exists leaves early in
      let both = same k l leaves in
      (λ meets barred. exact.0 meets (both.1 barred), λ free. exact.1 (λ barred. free (both.0 barred)));
}
