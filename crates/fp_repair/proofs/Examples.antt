-- The kept groups of four shipments: one goes over two arcs and can wait nowhere, one goes over the
-- second of them and has to leave before the first can come there, and two others can share a truck
-- from 3 to 5 over a third arc. All groups clash, and all but that of the first two shipments are
-- kept.
use Rattle.std.proofs.Common.{◌≡◌, ℕ, zero, suc, ◌+◌, ◌*◌, ◌≤◌, Option, Some, List, [], ◌∷◌, inl, inr, refl, sym, ◌∙◌, arith}
use Rattle.std.specs.Prelude.{All, IfSome, IsSomeAnd}
use Rattle.std.proofs.lemmas.List.Elements.{All-cons, All-contains, All-nil}
use Rattle.fp_model.specs.declared.parts.Arc.{Arc}
use Rattle.fp_model.specs.declared.parts.Member.{Member}
use Rattle.fp_model.specs.Members.{IsMemberOf, member_arc}
use Rattle.fp_model.specs.Problem.{Problem}
use Rattle.fp_model.specs.Routes.{step}
use Rattle.fp_flatnet.specs.declared.window_tables.Window.{Window}
use Rattle.fp_dispatch.specs.Times.{HaveOneTime, HaveTimes, window_of}
use Rattle.fp_repair.specs.KeptGroups.{AreKeptGroups}

-- an arc from a terminal to another of a travel time, with trucks for 10 that cost 100
abbrev arc_of : ℕ → ℕ → ℕ → Arc
arc_of from to time = record { from = from; to = to; time = time; capacity = 10; truck = 100; freight = 0 }

abbrev problem : Problem
problem = record { terminals = []; holds = []; arcs = arc_of 0 1 4 ∷ arc_of 1 2 5 ∷ arc_of 3 4 5 ∷ []; shipments = []; scale = 1 }

abbrev routes : List (List ℕ)
routes = (0 ∷ 1 ∷ []) ∷ (1 ∷ []) ∷ (2 ∷ []) ∷ (2 ∷ []) ∷ []

abbrev windows : ℕ → ℕ → Option Window
windows zero zero = Some (record { lo = 0; hi = 0 })
windows zero (suc a) = Some (record { lo = 4; hi = 4 })
windows (suc zero) a = Some (record { lo = 0; hi = 3 })
windows (suc (suc zero)) a = Some (record { lo = 0; hi = 5 })
windows (suc (suc (suc k))) a = Some (record { lo = 3; hi = 7 })

abbrev leg_of : ℕ → ℕ → Member
leg_of k i = record { shipment = k; leg = i }

-- the groups
abbrev lone : List Member
lone = leg_of 0 0 ∷ []

abbrev apart : List Member
apart = leg_of 0 1 ∷ leg_of 1 0 ∷ []

abbrev joined : List Member
joined = leg_of 2 0 ∷ leg_of 3 0 ∷ []

-- when the legs leave
abbrev time_of : ℕ → ℕ → ℕ
time_of zero zero = 0
time_of zero (suc i) = 4
time_of (suc zero) i = 0
time_of (suc (suc k)) i = 3

abbrev times : Member → ℕ
times m = time_of m.shipment m.leg

-- what holds of each leg
each : (P : Member → Type 0) → P (leg_of 0 0) → P (leg_of 0 1) → P (leg_of 1 0) → P (leg_of 2 0) → P (leg_of 3 0) → (m : Member) → IsMemberOf routes m → P m
each P a b c d e m is = cases m.shipment m.leg is
  where
    cases : (k i : ℕ) → IsMemberOf routes (leg_of k i) → P (leg_of k i)
    cases zero zero is = a
    cases zero (suc zero) is = b
    cases zero (suc (suc i)) is = absurd (omega (arith, is.leg))
    cases (suc zero) zero is = c
    cases (suc zero) (suc i) is = absurd (omega (arith, is.leg))
    cases (suc (suc zero)) zero is = d
    cases (suc (suc zero)) (suc i) is = absurd (omega (arith, is.leg))
    cases (suc (suc (suc zero))) zero is = e
    cases (suc (suc (suc zero))) (suc i) is = absurd (omega (arith, is.leg))
    cases (suc (suc (suc (suc k)))) i is = absurd (omega (arith, is.shipment))

-- each next leg leaves a step later
onward : (k i : ℕ) → IsMemberOf routes (leg_of k (i + 1)) → time_of k i + 1 * step problem (member_arc routes (leg_of k i)) ≤ time_of k (i + 1)
onward zero zero is = omega arith
onward zero (suc i) is = absurd (omega (arith, is.leg))
onward (suc zero) i is = absurd (omega (arith, is.leg))
onward (suc (suc zero)) i is = absurd (omega (arith, is.leg))
onward (suc (suc (suc zero))) i is = absurd (omega (arith, is.leg))
onward (suc (suc (suc (suc k)))) i is = absurd (omega (arith, is.shipment))

-- there are times with groups each of which has one
have : (groups : List (List Member)) → All (HaveOneTime times) groups → HaveTimes problem windows routes groups
have groups together = (
  1,
  times,
  omega arith,
  record {
    lower = record {
      start = each (λ m. IfSome (window_of windows routes m) (λ w. 1 * w.lo ≤ times m)) (omega arith) (omega arith) (omega arith) (omega arith) (omega arith);
      onward = λ m is. onward m.shipment m.leg is;
      together = together;
    };
    upper = each (λ m. IsSomeAnd (window_of windows routes m) (λ w. times m ≤ 1 * w.hi)) (omega arith) (omega arith) (omega arith) (omega arith) (omega arith);
  },
)

-- legs that all leave at a moment
one-time : (group : List Member) (n : ℕ) → All (λ m. times m ≡ n) group → HaveOneTime times group
one-time group n all m other first second =
    All-contains (λ (x : Member). times x ≡ n) group m all first ∙ sym (All-contains (λ (x : Member). times x ≡ n) group other all second)

one-lone : HaveOneTime times lone
one-lone = one-time lone 0 (All-cons (λ m. times m ≡ 0) (leg_of 0 0) [] refl (All-nil (λ m. times m ≡ 0)))

one-joined : HaveOneTime times joined
one-joined =
    one-time joined 3 (All-cons (λ m. times m ≡ 3) (leg_of 2 0) (leg_of 3 0 ∷ []) refl (All-cons (λ m. times m ≡ 3) (leg_of 3 0) [] refl (All-nil (λ m. times m ≡ 3))))

-- the first shipment's second leg comes too late for the second shipment
clash : HaveTimes problem windows routes (lone ∷ apart ∷ []) → ⊥
clash (d, others, some, are) =
    let same : others (leg_of 0 1) ≡ others (leg_of 1 0) =
    are.lower.together 1 [] (omega arith) (leg_of 0 1) (leg_of 1 0) (0, omega arith, refl) (1, omega arith, refl) in
    let from : d * 4 ≤ others (leg_of 0 1) = are.lower.start (leg_of 0 1) (record { shipment = omega arith; leg = omega arith }) in
    let until : others (leg_of 1 0) ≤ d * 3 = are.upper (leg_of 1 0) (record { shipment = omega arith; leg = omega arith }) in
    omega (arith, same, from, until, some)

-- so the group of the two is not kept, and the others are
kept : AreKeptGroups problem windows routes (lone ∷ apart ∷ joined ∷ []) (lone ∷ joined ∷ [])
kept =
    let first : HaveTimes problem windows routes (lone ∷ []) = have (lone ∷ []) (All-cons (HaveOneTime times) lone [] one-lone (All-nil (HaveOneTime times))) in
    let last : HaveTimes problem windows routes (lone ∷ joined ∷ []) =
    have (lone ∷ joined ∷ []) (All-cons (HaveOneTime times) lone (joined ∷ []) one-lone (All-cons (HaveOneTime times) joined [] one-joined (All-nil (HaveOneTime times)))) in
    inl (first, inr (clash, inl (last, refl)))
