-- The definitions at one arc from A to B of time 5, where A has the points 0 and 3: the first
-- shipment can leave from 0 to 5, the second from 3 to 7. And windows under sides on a way of two arcs.
use Rattle.std.proofs.Common.{◌≡◌, ℕ, zero, suc, ◌+◌, ◌*◌, ◌<◌, ◌≤◌, Bool, true, false, List, [], ◌∷◌, ◌⊎◌, inl, inr, ⊎_elim, refl, sym, ap, ◌∙◌, subst, arith}
use Rattle.std.specs.Prelude.{None, Option, Some, Contains, slice_index_or}
use Rattle.std.proofs.lemmas.Bool.{and_parts, ltb-true}
use Rattle.fp_base_lists.proofs.Membership.{Contains-cons_cases, Contains-first}
use Rattle.fp_model.specs.declared.parts.Leg.{Leg}
use Rattle.fp_model.specs.Problem.{Problem, arc_at}
use Rattle.fp_model.specs.Routes.{step}
use Rattle.fp_model.proofs.Examples.{arc_between, leaving, shipment_to, two}
use Rattle.fp_flatnet.specs.declared.window_tables.Window.{Window}
use Rattle.fp_flatnet.specs.Tables.{windows_in}
use Rattle.fp_longestarcs.specs.Networks.{TimedNetwork, points_in}
use Rattle.fp_tree.specs.declared.sides.Side.{Side}
use Rattle.fp_tree.specs.declared.sides.Side.TheVariants.{Without, Only, Before, From, AtMost, MoreThan, Through, Outside}
use Rattle.fp_allowed.specs.Allowed.{exit_of, meets_all}
use Rattle.fp_allowed.specs.Bits.{allowed_in}
use Rattle.fp_allowed.specs.Chains.{SeveralLeave, chain_stop}
use Rattle.fp_allowed.specs.Departures.{departures_left}
use Rattle.fp_allowed.specs.Heads.{head_within}
use Rattle.fp_allowed.specs.Listing.{all_classes, class_at}
use Rattle.fp_allowed.specs.Settings.{Setting}
use Rattle.fp_allowed.specs.WindowsUnder.{IsPassage, IsWindowRowUnder, IsWindowUnderOrNone}

-- the times from one to another
abbrev window : ℕ → ℕ → Option Window
window lo hi = Some (record { lo = lo; hi = hi })

abbrev network : TimedNetwork
network = record { tails = 0 ∷ []; points = (0 ∷ 3 ∷ []) ∷ (0 ∷ 10 ∷ 12 ∷ []) ∷ []; heads = (0 ∷ 0 ∷ []) ∷ [] }

abbrev setting : Setting
setting = record {
  problem = two;
  windows = record { tails = 0 ∷ []; rows = (window 0 5 ∷ []) ∷ (window 3 7 ∷ []) ∷ []; anchors = [] };
  network = network;
}

-- the class of the arc and a point
abbrev from : ℕ → Leg
from point = record { arc = 0; depart = point }

in_order : all_classes network ≡ from 0 ∷ from 3 ∷ []
in_order = refl

numbered : class_at network 1 ≡ from 3
numbered = refl

-- whether a shipment may use the classes from 0 and from 3
abbrev both : ℕ → List Side → List Bool
both k sides = allowed_in setting sides k (from 0) ∷ allowed_in setting sides k (from 3) ∷ []

first_both : both 0 [] ≡ true ∷ true ∷ []
first_both = refl

second_later : both 1 [] ≡ false ∷ true ∷ []
second_later = refl

-- a leg is no class where it leaves at no point
no_class : allowed_in setting [] 0 (from 2) ≡ false
no_class = refl

before_three : both 0 (Before 0 0 3 ∷ []) ≡ true ∷ false ∷ []
before_three = refl

from_three : both 0 (From 0 0 3 ∷ []) ≡ false ∷ true ∷ []
from_three = refl

-- the class from 0 has moments before 2, and from 2 on, and none that is both
never : both 0 (Before 0 0 2 ∷ From 0 0 2 ∷ []) ≡ false ∷ false ∷ []
never = refl

without_arc : both 0 (Without 0 0 ∷ []) ≡ false ∷ false ∷ []
without_arc = refl

-- the other arcs are forbidden at the tail of the side alone
only_here : both 0 (Only 0 7 0 ∷ []) ≡ false ∷ false ∷ []
only_here = refl

only_elsewhere : both 0 (Only 0 7 1 ∷ []) ≡ true ∷ true ∷ []
only_elsewhere = refl

-- the sides of one shipment ask nothing of another
another : both 1 (Before 0 0 3 ∷ Without 0 0 ∷ []) ≡ false ∷ true ∷ []
another = refl

-- on the way by the only arc there is no rival, and by another one that leaves A the classes are barred, for that shipment alone
through_here : both 0 (Through 0 0 ∷ []) ≡ true ∷ true ∷ []
through_here = refl

-- at most 0 trucks from 0 until 3 leave no moment to the class from 0, whosever leg it is, and until 2
-- they leave it one; at most 1 and more than 0 forbid none
no_trucks : both 0 (AtMost 0 0 3 0 ∷ []) ≡ false ∷ true ∷ []
no_trucks = refl

no_trucks_before : both 0 (AtMost 0 0 2 0 ∷ []) ≡ true ∷ true ∷ []
no_trucks_before = refl

-- two runs together leave none to the class from 3
no_trucks_of_all : both 1 (AtMost 0 3 5 0 ∷ AtMost 0 5 8 0 ∷ []) ≡ false ∷ false ∷ []
no_trucks_of_all = refl

one_truck : both 0 (AtMost 0 0 9 1 ∷ MoreThan 0 0 9 0 ∷ []) ≡ true ∷ true ∷ []
one_truck = refl

other_trucks : both 0 (AtMost 1 0 9 0 ∷ []) ≡ true ∷ true ∷ []
other_trucks = refl

-- outside the run from 0 until 3 the first shipment has no moment of the class from 0, and the second one has those it had
outside_run : both 0 (Outside 0 0 0 3 ∷ []) ≡ false ∷ true ∷ []
outside_run = refl

outside_another : both 1 (Outside 0 0 0 3 ∷ []) ≡ both 1 []
outside_another = refl

-- two classes of the first shipment leave A
several : SeveralLeave two (allowed_in setting [] 0) 0
several = record { one = from 0; two = from 3; one_allowed = refl; two_allowed = refl; one_leaves = refl; two_leaves = refl; differ = λ same. absurd (omega (arith, ap (λ (c : Leg). c.depart) same)) }

-- the class of the second leads to its destination
reached : chain_stop two 0 (from 3 ∷ []) ≡ 1
reached = refl

-- the departures of a shipment left at A
abbrev left : ℕ → List Side → ℕ
left k sides = departures_left two (windows_in setting.windows) sides k 0

first_left : left 0 [] ≡ 6
first_left = refl

second_left : left 1 [] ≡ 5
second_left = refl

left_before : left 0 (Before 0 0 3 ∷ []) ≡ 3
left_before = refl

left_from : left 0 (From 0 0 3 ∷ []) ≡ 3
left_from = refl

-- a run in the middle leaves what is before it and after it
left_beside : left 0 (AtMost 0 2 4 0 ∷ []) ≡ 4
left_beside = refl

left_outside : left 0 (Outside 0 0 2 4 ∷ []) ≡ 4
left_outside = refl

-- the head of the class from a point for a shipment with this window
abbrev head : Option Window → ℕ → ℕ
head o point = head_within two (points_in network) o (from point)

head_without : head None 0 ≡ 0
head_without = refl

-- the window begins after the class's point: a departure from 5 on arrives from 10 on
head_later : head (window 5 9) 0 ≡ 10
head_later = refl

head_between : head (window 6 9) 0 ≡ 10
head_between = refl

head_last : head (window 7 9) 0 ≡ 12
head_last = refl

head_too_early : head (window 4 9) 0 ≡ 0
head_too_early = refl

-- the window begins before the class's point
head_inside : head (window 0 9) 3 ≡ 0
head_inside = refl

-- a shipment from A by B to C, each arc of time 5, released at 0 and due at 20: it can leave A from 0 to 10, and B from 5
-- to 15
abbrev by_two : Problem
by_two = record {
  terminals = (65 ∷ []) ∷ (66 ∷ []) ∷ (67 ∷ []) ∷ [];
  holds = 0 ∷ 0 ∷ 0 ∷ [];
  arcs = arc_between 0 1 ∷ arc_between 1 2 ∷ [];
  shipments = shipment_to 49 2 4 0 20 ∷ [];
  scale = 1000000;
}

abbrev windows_by_two : ℕ → ℕ → Option Window
windows_by_two = windows_in (record { tails = 0 ∷ 1 ∷ []; rows = (window 0 10 ∷ window 5 15 ∷ []) ∷ []; anchors = [] })

-- it is to leave B before 9
abbrev before_nine : List Side
before_nine = Before 0 1 9 ∷ []

abbrev IsPassageByTwo : List Leg → Type 0
IsPassageByTwo legs = IsPassage by_two windows_by_two before_nine 0 legs

-- the only arc that leaves A, and the only one that leaves B; none leaves C
from_first : (a : ℕ) → a < 2 → (arc_at by_two a).from ≡ 0 → a ≡ 0
from_first zero exists leaves = refl
from_first (suc zero) exists leaves = absurd (omega (arith, leaves))
from_first (suc (suc a)) exists leaves = absurd (omega (arith, exists))

from_second : (a : ℕ) → a < 2 → (arc_at by_two a).from ≡ 1 → a ≡ 1
from_second zero exists leaves = absurd (omega (arith, leaves))
from_second (suc zero) exists leaves = refl
from_second (suc (suc a)) exists leaves = absurd (omega (arith, exists))

from_third : (a : ℕ) → a < 2 → (arc_at by_two a).from ≡ 2 → ⊥
from_third zero exists leaves = absurd (omega (arith, leaves))
from_third (suc zero) exists leaves = absurd (omega (arith, leaves))
from_third (suc (suc a)) exists leaves = absurd (omega (arith, exists))

-- two legs, of which the second leaves 5 or more after the first, and before 9
record AreTwo (legs : List Leg) : Type 0 where
  first : ℕ
  second : ℕ
  later : first + 5 ≤ second
  early : second < 9
  each : (l : Leg) → Contains legs l → (leaving 0 first ≡ l) ⊎ (leaving 1 second ≡ l)

-- each passage is so
are_two : (legs : List Leg) → IsPassageByTwo legs → AreTwo legs
are_two [] is = absurd (omega (arith, is.leads))
are_two (l ∷ []) is =
    let here : l.arc ≡ 0 = from_first l.arc is.leads.0 is.leads.1 in
    let end : 1 ≡ 2 = subst (λ (a : ℕ). (arc_at by_two a).to ≡ 2) here is.leads.2 in
    absurd (omega (arith, end))
are_two (l ∷ k ∷ []) is =
    let here : l.arc ≡ 0 = from_first l.arc is.leads.0 is.leads.1 in
    let there : k.arc ≡ 1 = from_second k.arc is.leads.2.0 (is.leads.2.1 ∙ ap (λ (a : ℕ). (arc_at by_two a).to) here) in
    let after : l.depart + 1 * 5 ≤ k.depart = subst (λ (a : ℕ). l.depart + 1 * step by_two a ≤ k.depart) here is.ready.1.0 in
    let meets : meets_all 0 before_nine (exit_of by_two (leaving 1 k.depart)) ≡ true = subst (λ (a : ℕ). meets_all 0 before_nine (exit_of by_two (leaving a k.depart)) ≡ true) there is.meets.1.0 in record {
      first = l.depart;
      second = k.depart;
      later = omega (arith, after);
      early = ltb-true k.depart 9 (and_parts _ true meets).0;
      each = λ j has.
          ⊎_elim
          (λ (one : l ≡ j). inl (ap (λ (a : ℕ). leaving a l.depart) (sym here) ∙ one))
          (λ (rest : Contains (k ∷ []) j).
          ⊎_elim
          (λ (two : k ≡ j). inr (ap (λ (a : ℕ). leaving a k.depart) (sym there) ∙ two))
          (λ (none : Contains [] j). absurd (omega (arith, none.1)))
          (Contains-cons_cases k [] j rest))
          (Contains-cons_cases l (k ∷ []) j has);
    }
are_two (l ∷ k ∷ j ∷ legs) is =
    let here : l.arc ≡ 0 = from_first l.arc is.leads.0 is.leads.1 in
    let there : k.arc ≡ 1 = from_second k.arc is.leads.2.0 (is.leads.2.1 ∙ ap (λ (a : ℕ). (arc_at by_two a).to) here) in
    absurd (from_third j.arc is.leads.2.2.0 (is.leads.2.2.1 ∙ ap (λ (a : ℕ). (arc_at by_two a).to) there))

-- the moment of a leg among them
at_first : (legs : List Leg) (m : ℕ) → IsPassageByTwo legs → Contains legs (leaving 0 m) → m ≤ 3
at_first legs m is has =
    let both : AreTwo legs = are_two legs is in
    ⊎_elim
    (λ (same : leaving 0 both.first ≡ leaving 0 m). let e : both.first ≡ m = ap (λ (l : Leg). l.depart) same in omega (arith, e, both.later, both.early))
    (λ (other : leaving 1 both.second ≡ leaving 0 m). absurd (omega (arith, ap (λ (l : Leg). l.arc) other)))
    (both.each (leaving 0 m) has)

at_second : (legs : List Leg) (m : ℕ) → IsPassageByTwo legs → Contains legs (leaving 1 m) → (5 ≤ m) × (m ≤ 8)
at_second legs m is has =
    let both : AreTwo legs = are_two legs is in
    ⊎_elim
    (λ (other : leaving 0 both.first ≡ leaving 1 m). absurd (omega (arith, ap (λ (l : Leg). l.arc) other)))
    (λ (same : leaving 1 both.second ≡ leaving 1 m).
    let e : both.second ≡ m = ap (λ (l : Leg). l.depart) same in
    let lo : 5 ≤ m = omega (arith, e, both.later) in
    let hi : m ≤ 8 = omega (arith, e, both.early) in
    (lo, hi))
    (both.each (leaving 1 m) has)

-- the first passage and the last one
first_passage : IsPassageByTwo (leaving 0 0 ∷ leaving 1 5 ∷ [])
first_passage = record {
  leads = (omega arith, refl, (omega arith, refl, refl));
  ready = (omega arith, (omega arith, tt));
  within = ((omega arith, omega arith), ((omega arith, omega arith), tt));
  meets = (refl, (refl, tt));
}

last_passage : IsPassageByTwo (leaving 0 3 ∷ leaving 1 8 ∷ [])
last_passage = record {
  leads = (omega arith, refl, (omega arith, refl, refl));
  ready = (omega arith, (omega arith, tt));
  within = ((omega arith, omega arith), ((omega arith, omega arith), tt));
  meets = (refl, (refl, tt));
}

-- so it leaves B from 5 to 8, and therefore A from 0 to 3
narrowed_by_side : IsWindowRowUnder by_two windows_by_two before_nine 0 (window 0 3 ∷ window 5 8 ∷ [])
narrowed_by_side = record { one_each = refl; exact = exact }
  where
    exact : (a : ℕ) → a < 2 → IsWindowUnderOrNone by_two windows_by_two before_nine 0 a (slice_index_or (window 0 3 ∷ window 5 8 ∷ []) a None)
    exact zero exists = record {
      first = record { legs = leaving 0 0 ∷ leaving 1 5 ∷ []; is = first_passage; leaves = Contains-first (leaving 0 0) (leaving 1 5 ∷ []) };
      last = record { legs = leaving 0 3 ∷ leaving 1 8 ∷ []; is = last_passage; leaves = Contains-first (leaving 0 3) (leaving 1 8 ∷ []) };
      between = λ m passes. (omega arith, at_first passes.legs m passes.is passes.leaves);
    }
    exact (suc zero) exists = record {
      first = record { legs = leaving 0 0 ∷ leaving 1 5 ∷ []; is = first_passage; leaves = (1, omega arith, refl) };
      last = record { legs = leaving 0 3 ∷ leaving 1 8 ∷ []; is = last_passage; leaves = (1, omega arith, refl) };
      between = λ m passes. at_second passes.legs m passes.is passes.leaves;
    }
    exact (suc (suc a)) exists = absurd (omega (arith, exists))
