-- Picking an arc that leaves a terminal and has allowed classes.
use Rattle.std.proofs.Common.{◌≡◌, ◌≢◌, ℕ, ◌+◌, ◌-◌, ◌<◌, ◌≤◌, Bool, true, false, ◌⊎◌, List, length, ⊎_elim, inl, inr, sym, ap, ◌∙◌, subst, arith}
use Rattle.std.specs.Prelude.{is_some, MatchBool, Option, Some, None}
use Rattle.std.proofs.lemmas.Bool.{both_ways, cases_eq, cases_lt}
use Rattle.fp_model.specs.declared.parts.Leg.{Leg}
use Rattle.fp_model.specs.Problem.{Problem}
use Rattle.fp_flatnet.specs.declared.window_tables.Window.{Window}
use Rattle.fp_longestarcs.specs.Networks.{IsNetwork, TimedNetwork, class_number}
use Rattle.fp_longestarcs.specs.Whole.{HasArcsOf}
use Rattle.fp_longestarcs.proofs.HeadLists.{arc-count}
use Rattle.fp_tree.specs.declared.sides.Split.TheVariants.{ByArc, ByTime}
use Rattle.fp_allowed.specs.declared.choices.Pick.{Pick}
use Rattle.fp_allowed.specs.Allowed.{tails_of}
use Rattle.fp_allowed.specs.Bits.{bit_of, row_allows}
use Rattle.fp_allowed.specs.Choices.{IsBetter, IsMiddle, IsPicked, IsPreferred, IsTaken, Picks, last_moment}
use Rattle.fp_allowed.specs.Leaving.{IsFirstSet, IsRange, OneLeaves}
use Rattle.fp_allowed.proofs.ArcExits.{bit-of_class, class-of_bit}
use Rattle.fp_allowed.proofs.ListedClasses.{class_by}
use Rattle.fp_allowed.proofs.RowClasses.{is_class_parts}

-- an arc has an allowed class where some bit among its numbers is set
pub has_allowed_is : (net : TimedNetwork) (row : List Bool) (arc start end : ℕ) (o : Option ℕ) → IsNetwork net → arc < length net.tails → IsRange net arc start end → IsFirstSet row start end o →
    MatchBool (is_some o) ((c : Leg) × OneLeaves (row_allows net row) (λ k. k.arc ≡ arc) c) ((c : Leg) → OneLeaves (row_allows net row) (λ k. k.arc ≡ arc) c → ⊥)
has_allowed_is net row arc start end None valid exists range none = λ c one.
    let bit = bit-of_class net row arc start end valid exists range c one in both_ways (bit_of row (class_number net c)) (none (class_number net c) bit.0 bit.1) bit.2
has_allowed_is net row arc start end (Some n) valid exists range first =
    (class_by net arc (n - start), (class-of_bit net row arc start end valid exists range n first.0 first.1 first.2).0)

-- ways that are the same for allowed classes
module _ (ends : ℕ → ℕ) (allowed : Leg → Bool) (P R : Leg → Type 0) (there : (c : Leg) → allowed c ≡ true → P c → R c) (back : (c : Leg) → allowed c ≡ true → R c → P c) where
  to : (c : Leg) → OneLeaves allowed P c → OneLeaves allowed R c
  to c one = record { allowed_it = one.allowed_it; leaves = there c one.allowed_it one.leaves }

  from : (c : Leg) → OneLeaves allowed R c → OneLeaves allowed P c
  from c one = record { allowed_it = one.allowed_it; leaves = back c one.allowed_it one.leaves }

  others_same : (b : Bool) (arc : ℕ) → MatchBool b ((other : Leg) → OneLeaves allowed P other → other.arc ≡ arc) ((other : Leg) × OneLeaves allowed P other × (other.arc ≢ arc)) →
      MatchBool b ((other : Leg) → OneLeaves allowed R other → other.arc ≡ arc) ((other : Leg) × OneLeaves allowed R other × (other.arc ≢ arc))
  others_same true arc all = λ other one. all other (from other one)
  others_same false arc some = (some.0, to some.0 some.1, some.2)

  picks_same : (o : Option Pick) → Picks ends allowed P o → Picks ends allowed R o
  picks_same None none = λ c one. none c (from c one)
  picks_same (Some pick) picked = record {
    one = picked.one;
    leaves = to picked.one picked.leaves;
    by = picked.by;
    preferred = λ other one apart. picked.preferred other (from other one) apart;
    others = others_same pick.alone pick.arc picked.others;
  }

module _ (p : Problem) (net : TimedNetwork) (row : List Bool) (terminal : ℕ) (ends : ℕ → ℕ) where
  -- a class that the row allows and that leaves the terminal by an arc before a number
  abbrev Below : ℕ → Leg → Type 0
  Below a c = (c.arc < a) × (tails_of p c.arc ≡ terminal)

  -- what leaves by an arc before the next number
  below_cases : (a : ℕ) (c : Leg) → OneLeaves (row_allows net row) (Below (a + 1)) c → (c.arc ≡ a) ⊎ OneLeaves (row_allows net row) (Below a) c
  below_cases a c one =
      ⊎_elim
      (λ (same : c.arc ≡ a). inl same)
      (λ (other : c.arc ≡ a → ⊥). inr (record { allowed_it = one.allowed_it; leaves = (omega (arith, one.leaves.0, other), one.leaves.1) }))
      (cases_eq c.arc a)

  below_next : (a : ℕ) (c : Leg) → OneLeaves (row_allows net row) (Below a) c → OneLeaves (row_allows net row) (Below (a + 1)) c
  below_next a c one = record { allowed_it = one.allowed_it; leaves = (omega (arith, one.leaves.0), one.leaves.1) }

  below_here : (a : ℕ) (c : Leg) → tails_of p a ≡ terminal → OneLeaves (row_allows net row) (λ k. k.arc ≡ a) c → OneLeaves (row_allows net row) (Below (a + 1)) c
  below_here a c here one = record { allowed_it = one.allowed_it; leaves = (omega (arith, one.leaves), ap (tails_of p) one.leaves ∙ here) }

  -- the first arc with an allowed class is picked
  picks_first : (a : ℕ) (pick : Pick) → tails_of p a ≡ terminal → (c : Leg) × OneLeaves (row_allows net row) (λ k. k.arc ≡ a) c → ((c : Leg) → OneLeaves (row_allows net row) (Below a) c → ⊥) → IsBetter ends None a pick →
      IsPicked ends (row_allows net row) (Below (a + 1)) pick
  picks_first a pick here has none better = record {
    one = has.0;
    leaves = below_here a has.0 here has.1;
    by = has.1.leaves ∙ sym better.0;
    preferred = λ other one apart. absurd (apart (only other one));
    others = rw better.1 only;
  }
    where
      only : (other : Leg) → OneLeaves (row_allows net row) (Below (a + 1)) other → other.arc ≡ pick.arc
      only other one = ⊎_elim (λ (same : other.arc ≡ a). same ∙ sym better.0) (λ (before : OneLeaves (row_allows net row) (Below a) other). absurd (none other before)) (below_cases a other one)

  -- one more arc is picked where its window ends later
  picks_later : (a : ℕ) (old pick : Pick) → tails_of p a ≡ terminal → (c : Leg) × OneLeaves (row_allows net row) (λ k. k.arc ≡ a) c → IsPicked ends (row_allows net row) (Below a) old →
      pick.arc ≡ a → ends old.arc < ends a → pick.alone ≡ false → IsPicked ends (row_allows net row) (Below (a + 1)) pick
  picks_later a old pick here has picked is later two = record {
    one = has.0;
    leaves = below_here a has.0 here has.1;
    by = has.1.leaves ∙ sym is;
    preferred = λ other one apart. subst (λ (n : ℕ). IsPreferred ends n other.arc) (sym is) (over other (below_cases a other one) (λ e. apart (e ∙ sym is)));
    others = rw two (picked.one, below_next a picked.one picked.leaves, λ e. absurd (omega (arith, picked.leaves.leaves.0, e, is)));
  }
    where
      than_old : (other : Leg) → OneLeaves (row_allows net row) (Below a) other → ends other.arc < ends a
      than_old other one =
          ⊎_elim
          (λ (same : other.arc ≡ old.arc). omega (arith, ap ends same, later))
          (λ (apart : other.arc ≢ old.arc).
          ⊎_elim
          (λ (less : ends other.arc < ends old.arc). omega (arith, less, later))
          (λ (tie : (ends other.arc ≡ ends old.arc) × (old.arc < other.arc)). omega (arith, tie.0, later))
          (picked.preferred other one apart))
          (cases_eq other.arc old.arc)

      over : (other : Leg) → (other.arc ≡ a) ⊎ OneLeaves (row_allows net row) (Below a) other → other.arc ≢ a → IsPreferred ends a other.arc
      over other (inl same) apart = absurd (apart same)
      over other (inr one) apart = inl (than_old other one)

  -- and the old one stays where it does not
  picks_old : (a : ℕ) (old pick : Pick) → tails_of p a ≡ terminal → (c : Leg) × OneLeaves (row_allows net row) (λ k. k.arc ≡ a) c → IsPicked ends (row_allows net row) (Below a) old →
      pick.arc ≡ old.arc → ends a ≤ ends old.arc → pick.alone ≡ false → IsPicked ends (row_allows net row) (Below (a + 1)) pick
  picks_old a old pick here has picked is not_later two = record {
    one = picked.one;
    leaves = below_next a picked.one picked.leaves;
    by = picked.by ∙ sym is;
    preferred = λ other one apart. subst (λ (n : ℕ). IsPreferred ends n other.arc) (sym is) (over other (below_cases a other one) (λ e. apart (e ∙ sym is)));
    others = rw two (has.0, below_here a has.0 here has.1, λ e. absurd (omega (arith, before, e, is, has.1.leaves)));
  }
    where
      before : old.arc < a
      before = omega (arith, picked.leaves.leaves.0, picked.by)

      over : (other : Leg) → (other.arc ≡ a) ⊎ OneLeaves (row_allows net row) (Below a) other → other.arc ≢ old.arc → IsPreferred ends old.arc other.arc
      over other (inl same) apart =
          subst (λ (n : ℕ). IsPreferred ends old.arc n) (sym same)
          (⊎_elim (λ (less : ends a < ends old.arc). inl less) (λ (more : ends old.arc ≤ ends a). inr (omega (arith, more, not_later), before)) (cases_lt (ends a) (ends old.arc)))
      over other (inr one) apart = picked.preferred other one apart

  -- so an arc that leaves the terminal and has an allowed class makes a better pick
  pub picks_more : (a : ℕ) (found : Option Pick) (pick : Pick) → tails_of p a ≡ terminal → (c : Leg) × OneLeaves (row_allows net row) (λ k. k.arc ≡ a) c →
      Picks ends (row_allows net row) (λ c. (c.arc < a) × (tails_of p c.arc ≡ terminal)) found → IsBetter ends found a pick →
      Picks ends (row_allows net row) (λ c. (c.arc < a + 1) × (tails_of p c.arc ≡ terminal)) (Some pick)
  picks_more a None pick here has none better = picks_first a pick here has none better
  picks_more a (Some old) pick here has picked better =
      ⊎_elim
      (λ (new : (pick.arc ≡ a) × (ends old.arc < ends a)). picks_later a old pick here has picked new.0 new.1 better.1)
      (λ (same : (pick.arc ≡ old.arc) × (ends a ≤ ends old.arc)). picks_old a old pick here has picked same.0 same.1 better.1)
      better.0

  -- another arc changes nothing
  pub picks_away : (a : ℕ) (o : Option Pick) → ((c : Leg) → OneLeaves (row_allows net row) (λ k. k.arc ≡ a) c → tails_of p c.arc ≡ terminal → ⊥) →
      Picks ends (row_allows net row) (λ c. (c.arc < a) × (tails_of p c.arc ≡ terminal)) o → Picks ends (row_allows net row) (λ c. (c.arc < a + 1) × (tails_of p c.arc ≡ terminal)) o
  picks_away a o away picks =
      picks_same ends (row_allows net row) (Below a) (Below (a + 1))
      (λ c is below. (omega (arith, below.0), below.1))
      (λ c is below.
      ⊎_elim (λ (same : c.arc ≡ a). absurd (away c (record { allowed_it = is; leaves = same }) below.1)) (λ (other : c.arc ≡ a → ⊥). (omega (arith, below.0, other), below.1)) (cases_eq c.arc a))
      o picks

  -- the arcs of the instance are all
  pub picks_all : (a : ℕ) (o : Option Pick) → HasArcsOf p net → length p.arcs ≤ a → Picks ends (row_allows net row) (λ c. (c.arc < a) × (tails_of p c.arc ≡ terminal)) o →
      Picks ends (row_allows net row) (λ c. tails_of p c.arc ≡ terminal) o
  picks_all a o has all picks =
      picks_same ends (row_allows net row) (Below a) (λ c. tails_of p c.arc ≡ terminal)
      (λ c is below. below.1)
      (λ c is leaves. (omega (arith, (is_class_parts net row c is).0.0, arc-count p net has, all), leaves))
      o picks

-- where not all that leave the terminal are by the picked arc, the split by it is taken
pub taken_by_arc : (p : Problem) (windows : ℕ → ℕ → Option Window) (net : TimedNetwork) (allowed : Leg → Bool) (k terminal : ℕ) (pick : Pick) →
    IsPicked (last_moment windows k) allowed (λ c. tails_of p c.arc ≡ terminal) pick → pick.alone ≡ false → IsTaken p windows net allowed k terminal (ByArc k pick.arc)
taken_by_arc p windows net allowed k terminal pick picked two =
    let other = subst (λ (b : Bool).
    MatchBool b ((other : Leg) → OneLeaves allowed (λ c. tails_of p c.arc ≡ terminal) other → other.arc ≡ pick.arc)
    ((other : Leg) × OneLeaves allowed (λ c. tails_of p c.arc ≡ terminal) other × (other.arc ≢ pick.arc))) two picked.others in (
      record { one = picked.one; two = other.0; one_leaves = picked.leaves; two_leaves = other.1; by = picked.by; not_by = other.2 },
      picked.preferred,
    )

-- where all are, the split by the middle point of its allowed classes is taken
pub taken_by_time : (p : Problem) (windows : ℕ → ℕ → Option Window) (net : TimedNetwork) (allowed : Leg → Bool) (k terminal at : ℕ) (pick : Pick) →
    IsPicked (last_moment windows k) allowed (λ c. tails_of p c.arc ≡ terminal) pick → pick.alone ≡ true → IsMiddle net allowed pick.arc at → IsTaken p windows net allowed k terminal (ByTime k terminal at)
taken_by_time p windows net allowed k terminal at pick picked all middle = (
  pick.arc,
  subst (λ (b : Bool).
      MatchBool b ((other : Leg) → OneLeaves allowed (λ c. tails_of p c.arc ≡ terminal) other → other.arc ≡ pick.arc)
      ((other : Leg) × OneLeaves allowed (λ c. tails_of p c.arc ≡ terminal) other × (other.arc ≢ pick.arc))) all picked.others,
  middle,
)
