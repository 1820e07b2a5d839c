-- One arc's part of a row, filled part by part of the window, has the allowed classes.
use Rattle.std.proofs.Common.{◌≡◌, ℕ, ◌+◌, ◌<◌, ◌≤◌, Bool, true, false, ◌&&◌, ◌||◌, List, length, ⊎_elim, refl, sym, ap, ◌∙◌, subst}
use Rattle.std.specs.Prelude.{nat_eq, IsSomeAnd, Option, Some, None, option_map}
use Rattle.std.proofs.lemmas.Bool.{both_ways, cases_Bool, eqb-true}
use Rattle.fp_model.specs.declared.parts.Leg.{Leg}
use Rattle.fp_model.specs.Problem.{Problem}
use Rattle.fp_base_lists.specs.Membership.{list_has}
use Rattle.fp_flatnet.specs.declared.window_tables.Window.{Window}
use Rattle.fp_longestarcs.specs.Networks.{IsClass, TimedNetwork, class_number, points_in, tail_in}
use Rattle.fp_tree.specs.declared.sides.Side.{Side}
use Rattle.fp_allowed.specs.Allowed.{exit_of, is_allowed, meets_all, tails_of}
use Rattle.fp_allowed.specs.Bits.{FillsArc, bit_of}
use Rattle.fp_allowed.specs.Moments.{all_let, concerned, has_open, is_barred, is_between}
use Rattle.fp_allowed.proofs.AllowedClasses.{HasMoment, is_allowed_parts}
use Rattle.fp_allowed.proofs.OpenMoments.{meets_all-barred}
use Rattle.fp_allowed.proofs.OpenParts.{has_open-allowed, has_open-none, has_open-part}

-- what is filled where nothing is to be
at-rest : (b t : Bool) → b ≡ (b || (t && false))
at-rest true true = refl
at-rest true false = refl
at-rest false true = refl
at-rest false false = refl

-- tests that agree on the classes of the arc fill the same
fills_same : (net : TimedNetwork) (arc : ℕ) (one other : Leg → Bool) (old new : List Bool) → ((c : Leg) → IsClass net c → c.arc ≡ arc → one c ≡ other c) → FillsArc net arc one old new → FillsArc net arc other old new
fills_same net arc one other old new same fills = record {
  long = fills.long;
  bits = λ c class.
      fills.bits c class
      ∙ ap (λ (b : Bool). bit_of old (class_number net c) || b)
      (⊎_elim
      (λ (here : nat_eq c.arc arc ≡ true). ap (λ (b : Bool). nat_eq c.arc arc && b) (same c class (eqb-true c.arc arc here)))
      (λ (away : nat_eq c.arc arc ≡ false). rw away refl)
      (cases_Bool (nat_eq c.arc arc)));
}

-- a test that no class passes fills nothing
fills_nothing : (net : TimedNetwork) (arc : ℕ) (test : Leg → Bool) (row : List Bool) → ((c : Leg) → c.arc ≡ arc → test c ≡ false) → FillsArc net arc test row row
fills_nothing net arc test row none =
    fills_same net arc (λ c. false) test row row (λ c class here. sym (none c here))
    (record { long = refl; bits = λ c class. at-rest (bit_of row (class_number net c)) (nat_eq c.arc arc) })

-- filled by one test and then by another
fills_both : (net : TimedNetwork) (arc : ℕ) (one two : Leg → Bool) (old mid new : List Bool) → FillsArc net arc one old mid → FillsArc net arc two mid new → FillsArc net arc (λ c. one c || two c) old new
fills_both net arc one two old mid new first second = record {
  long = second.long ∙ first.long;
  bits = λ c class.
      second.bits c class ∙ ap (λ (b : Bool). b || (nat_eq c.arc arc && two c)) (first.bits c class)
      ∙ joined (bit_of old (class_number net c)) (nat_eq c.arc arc) (one c) (two c);
}
  where
    joined : (b t f s : Bool) → (b || (t && f) || (t && s)) ≡ (b || (t && (f || s)))
    joined true t f s = refl
    joined false true f s = refl
    joined false false f s = refl

-- before the first part nothing is filled
pub fills_first : (net : TimedNetwork) (arc tail : ℕ) (own : List Side) (from : ℕ) (row : List Bool) → FillsArc net arc (λ c. has_open (points_in net tail) arc own from from c.depart) row row
fills_first net arc tail own from row =
    fills_nothing net arc (λ c. has_open (points_in net tail) arc own from from c.depart) row (λ c here. has_open-none (points_in net tail) arc own from c.depart)

-- one part more
pub fills_more : (net : TimedNetwork) (arc tail : ℕ) (own : List Side) (from : ℕ) (part : Window) (free : Bool) (old mid new : List Bool) → tail ≡ tail_in net arc → from ≤ part.lo → part.lo ≤ part.hi →
    ((m : ℕ) → part.lo ≤ m → m ≤ part.hi → all_let arc m own ≡ free) → FillsArc net arc (λ c. has_open (points_in net tail) arc own from part.lo c.depart) old mid →
    FillsArc net arc (λ c. free && is_between (points_in net tail) (Some part) c.depart) mid new → FillsArc net arc (λ c. has_open (points_in net tail) arc own from (part.hi + 1) c.depart) old new
fills_more net arc tail own from part free old mid new leaves begun some alike first second =
    let qs : List ℕ = points_in net tail in
    fills_same net arc (λ c. has_open qs arc own from part.lo c.depart || (free && is_between qs (Some part) c.depart)) (λ c. has_open qs arc own from (part.hi + 1) c.depart) old new
    (λ c class here.
    let there : list_has qs c.depart ≡ true = subst (λ (t : ℕ). list_has (points_in net t) c.depart ≡ true) (sym leaves) (subst (λ (a : ℕ). list_has (points_in net (tail_in net a)) c.depart ≡ true) here class.1) in
    has_open-part qs arc own from c.depart part free there begun some alike)
    (fills_both net arc (λ c. has_open qs arc own from part.lo c.depart) (λ c. free && is_between qs (Some part) c.depart) old mid new first second)

module _ (p : Problem) (windows : ℕ → ℕ → Option Window) (net : TimedNetwork) (k arc : ℕ) (sides own : List Side) (exists : arc < length p.arcs) (own_is : own ≡ concerned p k (tails_of p arc) sides) (free : is_barred p k arc sides ≡ false) where
  -- all parts of the window fill the allowed classes
  pub fills_all : (tail : ℕ) (w : Window) (old new : List Bool) → tail ≡ tails_of p arc → windows k arc ≡ Some w →
      FillsArc net arc (λ c. has_open (points_in net tail) arc own w.lo (w.hi + 1) c.depart) old new → FillsArc net arc (is_allowed p windows (points_in net) sides k) old new
  fills_all tail w old new leaves is =
      fills_same net arc (λ c. has_open (points_in net tail) arc own w.lo (w.hi + 1) c.depart) (is_allowed p windows (points_in net) sides k) old new
      (λ c class here.
      subst (λ (t : ℕ). has_open (points_in net t) arc own w.lo (w.hi + 1) c.depart ≡ is_allowed p windows (points_in net) sides k c) (sym leaves)
      (subst (λ (a : ℕ). has_open (points_in net (tails_of p a)) a own w.lo (w.hi + 1) c.depart ≡ is_allowed p windows (points_in net) sides k c) here
      (has_open-allowed p windows (points_in net) sides own k c w (subst (λ (a : ℕ). a < length p.arcs) (sym here) exists) (subst (λ (a : ℕ). windows k a ≡ Some w) (sym here) is)
      (subst (λ (a : ℕ). own ≡ concerned p k (tails_of p a) sides) (sym here) own_is) (subst (λ (a : ℕ). is_barred p k a sides ≡ false) (sym here) free))))

  -- without a window no class is allowed
  pub fills_none : (row : List Bool) → windows k arc ≡ None → FillsArc net arc (is_allowed p windows (points_in net) sides k) row row
  fills_none row is =
      fills_nothing net arc (is_allowed p windows (points_in net) sides k) row
      (λ c here.
      ⊎_elim
      (λ (allowed : is_allowed p windows (points_in net) sides k c ≡ true).
      absurd (subst (λ (o : Option Window). IsSomeAnd o (HasMoment p (points_in net) sides k c)) (ap (windows k) here ∙ is) (is_allowed_parts p windows (points_in net) sides k c allowed).1))
      (λ (none : is_allowed p windows (points_in net) sides k c ≡ false). none)
      (cases_Bool (is_allowed p windows (points_in net) sides k c)))

-- where the arc is barred no class of it is allowed
pub fills_barred : (p : Problem) (windows : ℕ → ℕ → Option Window) (net : TimedNetwork) (k arc : ℕ) (sides : List Side) (row : List Bool) → is_barred p k arc sides ≡ true →
    FillsArc net arc (is_allowed p windows (points_in net) sides k) row row
fills_barred p windows net k arc sides row barred =
    fills_nothing net arc (is_allowed p windows (points_in net) sides k) row
    (λ c here.
    ⊎_elim
    (λ (allowed : is_allowed p windows (points_in net) sides k c ≡ true).
    absurd (none c here (windows k c.arc) (is_allowed_parts p windows (points_in net) sides k c allowed).1))
    (λ (none : is_allowed p windows (points_in net) sides k c ≡ false). none)
    (cases_Bool (is_allowed p windows (points_in net) sides k c)))
  where
    none : (c : Leg) → c.arc ≡ arc → (o : Option Window) → IsSomeAnd o (HasMoment p (points_in net) sides k c) → ⊥
    none c here None has = has
    none c here (Some w) has =
        both_ways (meets_all k sides (exit_of p (record { arc = c.arc; depart = has.moment })))
        (meets_all-barred p k (record { arc = c.arc; depart = has.moment }) sides (subst (λ (a : ℕ). is_barred p k a sides ≡ true) (sym here) barred)) has.met

-- a window whose times are told
pub window-told : (o : Option Window) (lo hi : ℕ) → option_map {U = ℕ × ℕ} (λ w. (w.lo, w.hi)) o ≡ Some (lo, hi) → o ≡ Some (record { lo = lo; hi = hi })
window-told None lo hi is = cc is
window-told (Some w) lo hi is =
    let pair : ◌≡◌ {A = ℕ × ℕ} (w.lo, w.hi) (lo, hi) = cc is in
    ap (λ (x : ℕ × ℕ). Some (told x)) pair
  where
    told : ℕ × ℕ → Window
    told x = record { lo = x.0; hi = x.1 }

-- that there is none
pub window-none : (o : Option Window) → option_map {U = ℕ × ℕ} (λ w. (w.lo, w.hi)) o ≡ None → o ≡ None
window-none None is = refl
window-none (Some w) is = cc is

-- a part that is filled where it is free
pub fills_free : (net : TimedNetwork) (arc : ℕ) (test : Leg → Bool) (free : Bool) (old new : List Bool) → free ≡ true → FillsArc net arc test old new → FillsArc net arc (λ c. free && test c) old new
fills_free net arc test free old new is fills = fills_same net arc test (λ c. free && test c) old new (λ c class here. ap (λ (b : Bool). b && test c) (sym is)) fills

-- and left where it isn't
pub fills_closed : (net : TimedNetwork) (arc : ℕ) (test : Leg → Bool) (free : Bool) (row : List Bool) → free ≡ false → FillsArc net arc (λ c. free && test c) row row
fills_closed net arc test free row is = fills_nothing net arc (λ c. free && test c) row (λ c here. ap (λ (b : Bool). b && test c) is)
