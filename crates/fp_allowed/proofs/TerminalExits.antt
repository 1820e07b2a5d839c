-- The allowed classes that leave a terminal, arc by arc.
use Rattle.std.proofs.Common.{◌≡◌, ◌≢◌, ℕ, ◌+◌, ◌<◌, ◌≤◌, Bool, true, List, length, ◌⊎◌, ⊎_elim, inl, inr, sym, ap, ◌∙◌, subst, arith}
use Rattle.std.proofs.lemmas.Bool.{cases_eq}
use Rattle.fp_model.specs.declared.parts.Leg.{Leg}
use Rattle.fp_model.specs.Problem.{Problem}
use Rattle.fp_longestarcs.specs.Networks.{TimedNetwork}
use Rattle.fp_longestarcs.specs.Whole.{HasArcsOf}
use Rattle.fp_longestarcs.proofs.HeadLists.{arc-count}
use Rattle.fp_allowed.specs.declared.exits.Leaving.{Leaving}
use Rattle.fp_allowed.specs.declared.exits.Leaving.TheVariants.{Nothing, One, Several}
use Rattle.fp_allowed.specs.Allowed.{tails_of}
use Rattle.fp_allowed.specs.Bits.{row_allows}
use Rattle.fp_allowed.specs.Leaving.{OneLeaves, Tells, joined_of}
use Rattle.fp_allowed.proofs.RowClasses.{is_class_parts}

-- classes that leave in one way or in another
module _ (net : TimedNetwork) (allowed : Leg → Bool) (P Q R : Leg → Type 0) (from_P : (c : Leg) → P c → R c) (from_Q : (c : Leg) → Q c → R c) (either : (c : Leg) → R c → P c ⊎ Q c)
    (apart : (c : Leg) → P c → Q c → ⊥) where
  first_way : (c : Leg) → OneLeaves allowed P c → OneLeaves allowed R c
  first_way c one = record { allowed_it = one.allowed_it; leaves = from_P c one.leaves }

  second_way : (c : Leg) → OneLeaves allowed Q c → OneLeaves allowed R c
  second_way c one = record { allowed_it = one.allowed_it; leaves = from_Q c one.leaves }

  one_way : (c : Leg) → OneLeaves allowed R c → OneLeaves allowed P c ⊎ OneLeaves allowed Q c
  one_way c one =
      ⊎_elim
      (λ (p : P c). inl (record { allowed_it = one.allowed_it; leaves = p }))
      (λ (q : Q c). inr (record { allowed_it = one.allowed_it; leaves = q }))
      (either c one.leaves)

  differs : (c e : Leg) → OneLeaves allowed P c → OneLeaves allowed Q e → c ≢ e
  differs c e p q same = apart c p.leaves (subst Q (sym same) q.leaves)

  tells_joined : (first second : Leaving) → Tells net allowed P first → Tells net allowed Q second → Tells net allowed R (joined_of first second)
  tells_joined Nothing Nothing none none_two = λ c one. ⊎_elim (λ p. none c p) (λ q. none_two c q) (one_way c one)
  tells_joined Nothing (One class arc) none tells =
      let c : Leg = tells.0 in
      (c, second_way c tells.1, tells.2, tells.3, λ other one. ⊎_elim (λ p. absurd (none other p)) (λ q. tells.4 other q) (one_way other one))
  tells_joined Nothing Several none tells = (tells.0, tells.1, second_way tells.0 tells.2, second_way tells.1 tells.3, tells.4)
  tells_joined (One class arc) Nothing tells none =
      let c : Leg = tells.0 in
      (c, first_way c tells.1, tells.2, tells.3, λ other one. ⊎_elim (λ p. tells.4 other p) (λ q. absurd (none other q)) (one_way other one))
  tells_joined (One class arc) (One class_two arc_two) tells tells_two =
      (tells.0, tells_two.0, first_way tells.0 tells.1, second_way tells_two.0 tells_two.1, differs tells.0 tells_two.0 tells.1 tells_two.1)
  tells_joined (One class arc) Several tells tells_two = (tells_two.0, tells_two.1, second_way tells_two.0 tells_two.2, second_way tells_two.1 tells_two.3, tells_two.4)
  tells_joined Several second tells tells_two = (tells.0, tells.1, first_way tells.0 tells.2, first_way tells.1 tells.3, tells.4)

-- ways that are the same for allowed classes
module _ (net : TimedNetwork) (allowed : Leg → Bool) (P R : Leg → Type 0) (there : (c : Leg) → allowed c ≡ true → P c → R c) (back : (c : Leg) → allowed c ≡ true → R c → P c) where
  to : (c : Leg) → OneLeaves allowed P c → OneLeaves allowed R c
  to c one = record { allowed_it = one.allowed_it; leaves = there c one.allowed_it one.leaves }

  from : (c : Leg) → OneLeaves allowed R c → OneLeaves allowed P c
  from c one = record { allowed_it = one.allowed_it; leaves = back c one.allowed_it one.leaves }

  tells_same : (l : Leaving) → Tells net allowed P l → Tells net allowed R l
  tells_same Nothing none = λ c one. none c (from c one)
  tells_same (One class arc) tells = (tells.0, to tells.0 tells.1, tells.2, tells.3, λ other one. tells.4 other (from other one))
  tells_same Several tells = (tells.0, tells.1, to tells.0 tells.2, to tells.1 tells.3, tells.4)

module _ (p : Problem) (net : TimedNetwork) (row : List Bool) (terminal : ℕ) where
  -- an arc before a number that leaves the terminal
  abbrev Below : ℕ → Leg → Type 0
  Below a c = (c.arc < a) × (tails_of p c.arc ≡ terminal)

  -- an arc that leaves the terminal adds its classes
  pub tells_here : (a : ℕ) (first second : Leaving) → tails_of p a ≡ terminal → Tells net (row_allows net row) (λ c. (c.arc < a) × (tails_of p c.arc ≡ terminal)) first →
      Tells net (row_allows net row) (λ c. c.arc ≡ a) second → Tells net (row_allows net row) (λ c. (c.arc < a + 1) × (tails_of p c.arc ≡ terminal)) (joined_of first second)
  tells_here a first second here tells tells_two =
      tells_joined net (row_allows net row) (Below a) (λ c. c.arc ≡ a) (Below (a + 1))
      (λ c below. (omega (arith, below.0), below.1))
      (λ c same. (omega (arith, same), ap (tails_of p) same ∙ here))
      (λ c below. ⊎_elim (λ (same : c.arc ≡ a). inr same) (λ (other : c.arc ≡ a → ⊥). inl (omega (arith, below.0, other), below.1)) (cases_eq c.arc a))
      (λ c below same. absurd (omega (arith, below.0, same)))
      first second tells tells_two

  -- one that does not changes nothing
  pub tells_away : (a : ℕ) (l : Leaving) → (tails_of p a ≡ terminal → ⊥) → Tells net (row_allows net row) (λ c. (c.arc < a) × (tails_of p c.arc ≡ terminal)) l →
      Tells net (row_allows net row) (λ c. (c.arc < a + 1) × (tails_of p c.arc ≡ terminal)) l
  tells_away a l away tells =
      tells_same net (row_allows net row) (Below a) (Below (a + 1))
      (λ c is below. (omega (arith, below.0), below.1))
      (λ c is below.
      ⊎_elim (λ (same : c.arc ≡ a). absurd (away (ap (tails_of p) (sym same) ∙ below.1))) (λ (other : c.arc ≡ a → ⊥). (omega (arith, below.0, other), below.1)) (cases_eq c.arc a))
      l tells

  -- the arcs of the instance are all
  pub tells_all : (a : ℕ) (l : Leaving) → HasArcsOf p net → length p.arcs ≤ a → Tells net (row_allows net row) (λ c. (c.arc < a) × (tails_of p c.arc ≡ terminal)) l →
      Tells net (row_allows net row) (λ c. tails_of p c.arc ≡ terminal) l
  tells_all a l has all tells =
      tells_same net (row_allows net row) (Below a) (λ c. tails_of p c.arc ≡ terminal)
      (λ c is below. below.1)
      (λ c is leaves. (omega (arith, (is_class_parts net row c is).0.0, arc-count p net has, all), leaves))
      l tells
