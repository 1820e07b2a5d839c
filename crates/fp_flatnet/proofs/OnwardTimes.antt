-- Going on by an arc, and by a least walk from its head.
use Rattle.std.proofs.Common.{◌≡◌, ◌≢◌, ℕ, ◌+◌, ◌<◌, ◌≤◌, true, false, List, [], ◌∷◌, length, ⊎_elim, refl, sym, ◌∙◌, arith}
use Rattle.std.specs.Prelude.{nat_eq, Some, ◌↔◌}
use Rattle.std.proofs.lemmas.Bool.{cond-true, cond-false}
use Rattle.std.proofs.lemmas.Bool.Decides.{eqb_tells}
use Rattle.fp_model.specs.Problem.{Problem, IsValid, arc_at}
use Rattle.fp_model.specs.Routes.{Leads, walk_time, step}
use Rattle.fp_model.specs.Times.{IsLeastTime, IsDistance}
use Rattle.fp_flatnet.specs.Directs.{BeginsLeast}
use Rattle.fp_flatnet.specs.Windows.{time_onward}
use Rattle.fp_flatnet.proofs.LeastWalks.{IsLeastWalk, IsLeastWalk-from_time, IsLeastTime-from_walk, IsLeastWalk-next, first-time}
use Rattle.fp_model.proofs.Validity.{IsArc-valid}

-- an arc and any walk from its head take at least the time onward
pub onward-le : (p : Problem) (there a : ℕ) (rest : List ℕ) (t : ℕ) → Leads p (arc_at p a).to rest there → IsLeastTime p (arc_at p a).to there t →
    time_onward p there a t ≤ walk_time p (a ∷ rest)
onward-le p there a rest t leads least =
    ⊎_elim
    (λ (last : (nat_eq (arc_at p a).to there ≡ true) × ((arc_at p a).to ≡ there)).
    omega (arith, cond-true (nat_eq (arc_at p a).to there) (arc_at p a).time (step p a + t) last.0, first-time p a rest))
    (λ (more : (nat_eq (arc_at p a).to there ≡ false) × ((arc_at p a).to ≢ there)).
    omega (arith, cond-false (nat_eq (arc_at p a).to there) (arc_at p a).time (step p a + t) more.0, walked rest leads more.1))
    (eqb_tells (arc_at p a).to there)
  where
    walked : (arcs : List ℕ) → Leads p (arc_at p a).to arcs there → (arc_at p a).to ≢ there → step p a + t ≤ walk_time p (a ∷ arcs)
    walked [] h away = absurd (away h)
    walked (b ∷ arcs) h away = omega (arith, least.least (b ∷ arcs) h)

-- the arc and a least walk from its head take just that time
onward-is : (p : Problem) (there a t : ℕ) → IsValid p → (least : IsLeastTime p (arc_at p a).to there t) → walk_time p (a ∷ least.arcs) ≡ time_onward p there a t
onward-is p there a t valid least =
    ⊎_elim
    (λ (last : (nat_eq (arc_at p a).to there ≡ true) × ((arc_at p a).to ≡ there)).
    stay least.arcs least.leads least.time last.1 ∙ sym (cond-true (nat_eq (arc_at p a).to there) (arc_at p a).time (step p a + t) last.0))
    (λ (more : (nat_eq (arc_at p a).to there ≡ false) × ((arc_at p a).to ≢ there)).
    walked least.arcs least.leads least.time more.1 ∙ sym (cond-false (nat_eq (arc_at p a).to there) (arc_at p a).time (step p a + t) more.0))
    (eqb_tells (arc_at p a).to there)
  where
    stay : (arcs : List ℕ) → Leads p (arc_at p a).to arcs there → walk_time p arcs ≡ t → (arc_at p a).to ≡ there → walk_time p (a ∷ arcs) ≡ (arc_at p a).time
    stay [] leads time here = refl
    stay (b ∷ arcs) leads time here =
        let within : 1 ≤ (arc_at p b).time = (IsArc-valid p b valid leads.0).within.time.0 in
        let none : t ≤ 0 = least.least [] here in
        absurd (omega (arith, within, none, time, first-time p b arcs))

    walked : (arcs : List ℕ) → Leads p (arc_at p a).to arcs there → walk_time p arcs ≡ t → (arc_at p a).to ≢ there → walk_time p (a ∷ arcs) ≡ step p a + t
    walked [] leads time away = absurd (away leads)
    walked (b ∷ arcs) leads time away = omega (arith, time)

-- an arc whose time onward is the least time begins a least walk
BeginsLeast-from_onward : (p : Problem) (there a t u : ℕ) → IsValid p → a < length p.arcs → IsLeastTime p (arc_at p a).from there t → IsLeastTime p (arc_at p a).to there u →
    time_onward p there a u ≡ t → BeginsLeast p (arc_at p a).from there a
BeginsLeast-from_onward p there a t u valid exists least onward same = record {
  rest = onward.arcs;
  leads = (exists, refl, onward.leads);
  least = λ others leads. omega (arith, onward-is p there a u valid onward, same, least.least others leads);
}

-- only such an arc does
onward-from_begins : (p : Problem) (here there a t u : ℕ) → IsValid p → IsLeastTime p here there t → IsLeastTime p (arc_at p a).to there u →
    BeginsLeast p here there a → time_onward p there a u ≡ t
onward-from_begins p here there a t u valid least onward begins =
    let from_tail : Leads p here (a ∷ onward.arcs) there = (begins.leads.0, begins.leads.1, onward.leads) in
    omega (
      arith,
      onward-le p there a begins.rest u begins.leads.2 onward,
      begins.least least.arcs least.leads,
      least.time,
      onward-is p there a u valid onward,
      least.least (a ∷ onward.arcs) from_tail,
    )

-- the walk that the arc begins is a least walk
pub begun-least : (p : Problem) (here there a : ℕ) → IsValid p → (begins : BeginsLeast p here there a) → IsLeastWalk p here there (a ∷ begins.rest)
begun-least p here there a valid begins =
    IsLeastWalk-from_time p here there (walk_time p (a ∷ begins.rest)) valid (record {
      arcs = a ∷ begins.rest;
      leads = begins.leads;
      time = refl;
      least = begins.least;
    })

-- from the head on it takes less time, and after the step there is as much time left
pub record GoesOnWithin (p : Problem) (there a t u : ℕ) : Type 0 where
  pub least : IsLeastTime p (arc_at p a).to there u
  pub less : u < t
  pub within : (arc_at p a).to ≢ there → step p a + u ≡ t

pub begun-next : (p : Problem) (here there a t : ℕ) → IsValid p → IsLeastTime p here there t → (begins : BeginsLeast p here there a) →
    GoesOnWithin p there a t (walk_time p begins.rest)
begun-next p here there a t valid least begins =
    let next : IsLeastWalk p (arc_at p a).to there begins.rest = IsLeastWalk-next p here there a begins.rest (begun-least p here there a valid begins) in
    let within : 1 ≤ (arc_at p a).time = (IsArc-valid p a valid begins.leads.0).within.time.0 in
    let same : walk_time p (a ∷ begins.rest) ≡ t =
    omega (arith, begins.least least.arcs least.leads, least.time, least.least (a ∷ begins.rest) begins.leads) in record {
      least = IsLeastTime-from_walk p (arc_at p a).to there begins.rest valid next;
      less = omega (arith, within, same, later begins.rest);
      within = λ away. longer begins.rest begins.leads.2 away ∙ same;
    }
  where
    later : (arcs : List ℕ) → (arc_at p a).time + walk_time p arcs ≤ walk_time p (a ∷ arcs)
    later [] = omega arith
    later (b ∷ arcs) = omega arith

    longer : (arcs : List ℕ) → Leads p (arc_at p a).to arcs there → (arc_at p a).to ≢ there → step p a + walk_time p arcs ≡ walk_time p (a ∷ arcs)
    longer [] leads away = absurd (away leads)
    longer (b ∷ arcs) leads away = refl

-- the time onward is the least time exactly where the arc begins a least walk
pub begins-tells : (p : Problem) (there a t u : ℕ) → IsValid p → a < length p.arcs → IsDistance p (arc_at p a).from there (Some t) → IsDistance p (arc_at p a).to there (Some u) →
    (time_onward p there a u ≡ t ↔ BeginsLeast p (arc_at p a).from there a)
begins-tells p there a t u valid exists least onward =
    (BeginsLeast-from_onward p there a t u valid exists least onward, onward-from_begins p (arc_at p a).from there a t u valid least onward)
