-- The points that earned rounds add can be added to the initial ones, and how many rounds can be
-- earned.
use Rattle.std.proofs.Common.{◌≡◌, ◌≢◌, ℕ, inl, inr, zero, suc, ◌+◌, ◌*◌, ◌<◌, ◌≤◌, Bool, true, false, cond, List, [], ◌∷◌, ◌++◌, length, get_or, map, ⊎_elim, refl, sym, ap, ap₂, ◌∙◌, subst, arith, append-nil, append_assoc, eqb-true}
use Rattle.std.specs.Prelude.{All, AllPairs, ◌==◌, count_by, Option, None, Some}
use Rattle.std.proofs.lemmas.Bool.{cases_Bool, eqb-false, false≢true, false_from_ne_true, ne_eqb, or_left, or_right}
use Rattle.std.proofs.lemmas.List.{get_or_append_left, length-append, length-map}
use Rattle.std.proofs.lemmas.List.Elements.{All-append, All-head, All-map, All-tail, All-weaker}
use Rattle.std.proofs.lemmas.List.Kept.{AllPairs-cons}
use Rattle.std.proofs.lemmas.List.Sums.{count_by-le-length, sum_by-append, sum_by-cons}
use Rattle.fp_base_lists.specs.Distinct.{AreDistinct}
use Rattle.fp_base_lists.specs.Membership.{list_has}
use Rattle.fp_base_lists.specs.Numbered.{AllFrom}
use Rattle.fp_base_lists.proofs.Membership.{list_has-append}
use Rattle.fp_base_lists.proofs.Pairs.{AllPairs-append, AllPairs-head, AllPairs-nil, AllPairs-tail}
use Rattle.fp_model.specs.Problem.{Problem, horizon}
use Rattle.fp_timenodes.specs.declared.places.AddedPoint.{AddedPoint}
use Rattle.fp_timenodes.specs.declared.places.Place.{Place}
use Rattle.fp_timenodes.specs.Points.{added_at}
use Rattle.fp_timenodes.proofs.PointLimit.{length_distinct_new}
use Rattle.fp_timenodes.proofs.Rounds.{list_has-added_at}
use Rattle.fp_flatnet.specs.Belonging.{BelongsTo}
use Rattle.fp_flatnet.specs.Initial.{initial_points}
use Rattle.fp_certificate_rules.specs.Points.{AreAddedPoints}
use Rattle.fp_session_history.specs.Clashes.{IsShortPlace}
use Rattle.fp_shortarcs.specs.TooShort.{CanBePoint, IsShort}
use Rattle.fp_session_history.specs.Notes.{History, Refinement, added_of, points_added, points_of}
use Rattle.fp_session_history.specs.Traces.{IsEarnedRound, IsEarnedTrace, IsRoundPlace}
use Rattle.fp_session_history.proofs.PointsKept.{added_of-append, added_of_push}
use Rattle.fp_shortarcs.proofs.NewPlaces.{CanBePoint-IsShort}

-- R of what a function makes of each element and each later one
AllPairs-map : {X Y : Type 0} (R : Y → Y → Type 0) (f : X → Y) (xs : List X) → AllPairs (λ x y. R (f x) (f y)) xs → AllPairs R (map f xs)
AllPairs-map R f [] pairs = AllPairs-nil R
AllPairs-map {X} R f (x ∷ xs) pairs =
    AllPairs-cons R (f x) (map f xs) (All-map (R (f x)) f xs (AllPairs-head (λ (y z : X). R (f y) (f z)) x xs pairs))
    (AllPairs-map R f xs (AllPairs-tail (λ (y z : X). R (f y) (f z)) x xs pairs))

-- as a number
abbrev own_count : ℕ → AddedPoint → ℕ
own_count round q = cond (q.round == round) 1 0

-- no point is of another round
count_other : (round : ℕ) (added : List AddedPoint) → All (λ (q : AddedPoint). q.round ≢ round) added → count_by (λ (q : AddedPoint). q.round == round) added ≡ 0
count_other round [] others = refl
count_other round (q ∷ added) others =
    let none : own_count round q ≡ 0 = ap (λ (b : Bool). cond b 1 0) (ne_eqb q.round round (All-head (λ (r : AddedPoint). r.round ≢ round) q added others)) in
    omega (arith, none, sum_by-cons (own_count round) q added, count_other round added (All-tail (λ (r : AddedPoint). r.round ≢ round) q added others))

-- a place as a point of a round
abbrev point_added : ℕ → Place → AddedPoint
point_added round q = record { terminal = q.terminal; at = q.at; round = round }

-- what holds of all points of a round
All-points_added : (P : AddedPoint → Type 0) (round : ℕ) (places : List Place) → All (λ (q : Place). P (point_added round q)) places → All P (points_added round places)
All-points_added P round places all = All-map P (point_added round) places all

module _ (p : Problem) (anchors : List Place) where
  -- points, and the places at which a later round adds more, where none of the places was a point
  AreAddedPoints-more : (added : List AddedPoint) (points : ℕ → List ℕ) (round : ℕ) (places : List Place) → AreAddedPoints p anchors added →
      ((terminal at : ℕ) → list_has (initial_points p anchors terminal) at ≡ true → list_has (points terminal) at ≡ true) →
      All (λ (q : AddedPoint). list_has (points q.terminal) q.at ≡ true) added → All (λ (q : AddedPoint). q.round < round) added → length places ≤ 8 → AreDistinct places →
      All (λ (q : Place). list_has (points q.terminal) q.at ≡ false) places → AreAddedPoints p anchors (added ++ points_added round places)
  AreAddedPoints-more added points round places are initial there before few distinct new = record {
    rounds = AllPairs-append (λ (q r : AddedPoint). q.round ≤ r.round) added more are.rounds
        (AllPairs-map (λ (q r : AddedPoint). q.round ≤ r.round) (point_added round) places (λ i j d less lt. omega arith))
        (All-weaker (λ (q : AddedPoint). q.round < round) (λ (q : AddedPoint). All (λ (r : AddedPoint). q.round ≤ r.round) more)
        (λ q less. All-points_added (λ (r : AddedPoint). q.round ≤ r.round) round places (λ k d lt. omega (arith, less))) added before);
    few = λ other.
        let sum : count_by (λ (q : AddedPoint). q.round == other) (added ++ more) ≡ count_by (λ (q : AddedPoint). q.round == other) added + count_by (λ (q : AddedPoint). q.round == other) more =
        sum_by-append (own_count other) added more in
        ⊎_elim
        (λ (own : (round == other) ≡ true).
        let none : count_by (λ (q : AddedPoint). q.round == other) added ≡ 0 =
        count_other other added (All-weaker (λ (q : AddedPoint). q.round < round) (λ (q : AddedPoint). q.round ≢ other) (λ q less same. omega (arith, less, same, eqb-true round other own)) added before) in
        omega (arith, sum, none, few, length-map places (point_added round), count_by-le-length (λ (q : AddedPoint). q.round == other) more))
        (λ (away : (round == other) ≡ false).
        let none : count_by (λ (q : AddedPoint). q.round == other) more ≡ 0 =
        count_other other more (All-points_added (λ (q : AddedPoint). q.round ≢ other) round places (λ k d lt. eqb-false round other away)) in
        omega (arith, sum, none, are.few other))
        (cases_Bool (round == other));
    new = All-append (λ (q : AddedPoint). list_has (initial_points p anchors q.terminal) q.at ≡ false) added more are.new
        (All-points_added (λ (q : AddedPoint). list_has (initial_points p anchors q.terminal) q.at ≡ false) round places
        (All-weaker (λ (q : Place). list_has (points q.terminal) q.at ≡ false) (λ (q : Place). list_has (initial_points p anchors q.terminal) q.at ≡ false)
        (λ q none. false_from_ne_true (list_has (initial_points p anchors q.terminal) q.at) (λ first. false≢true (sym none ∙ initial q.terminal q.at first))) places new));
    once = AllPairs-append (λ (q r : AddedPoint). q.terminal ≡ r.terminal → q.at ≢ r.at) added more are.once
        (AllPairs-map (λ (q r : AddedPoint). q.terminal ≡ r.terminal → q.at ≢ r.at) (point_added round) places
        (λ i j d less lt terminal at. distinct i j d less lt (ap₂ (λ (t a : ℕ). let q : Place = record { terminal = t; at = a } in q) terminal at)))
        (All-weaker (λ (q : AddedPoint). list_has (points q.terminal) q.at ≡ true) (λ (q : AddedPoint). All (λ (r : AddedPoint). q.terminal ≡ r.terminal → q.at ≢ r.at) more)
        (λ q has. All-points_added (λ (r : AddedPoint). q.terminal ≡ r.terminal → q.at ≢ r.at) round places
        (All-weaker (λ (r : Place). list_has (points r.terminal) r.at ≡ false) (λ (r : Place). q.terminal ≡ r.terminal → q.at ≢ r.at)
        (λ r none terminal at. false≢true (sym none ∙ ap₂ (λ (t a : ℕ). list_has (points t) a) (sym terminal) (sym at) ∙ has)) places new)) added there);
  }
    where
      more : List AddedPoint
      more = points_added round places

  -- no points
  AreAddedPoints-nil : AreAddedPoints p anchors []
  AreAddedPoints-nil = record {
    rounds = AllPairs-nil (λ (q r : AddedPoint). q.round ≤ r.round);
    few = λ round. omega arith;
    new = λ k d lt. absurd (omega (arith, lt));
    once = AllPairs-nil (λ (q r : AddedPoint). q.terminal ≡ r.terminal → q.at ≢ r.at);
  }

-- the points of rounds so far, and of earned rounds after them
added-from : (h : History) (done rest : List Refinement) → h.trace ≡ done ++ rest → All (λ (q : AddedPoint). q.round ≤ length done) (added_of done) →
    AllFrom (λ k (n : Refinement). n.round ≡ k) (length done + 1) rest → AllFrom (λ k (n : Refinement). IsEarnedRound h.problem h.windows h.unit (points_of h k) n) (length done) rest →
    AreAddedPoints h.problem h.windows.anchors (added_of done) → AreAddedPoints h.problem h.windows.anchors (added_of (done ++ rest))
added-from h done [] is until rounds earned are = subst (λ (ns : List Refinement). AreAddedPoints h.problem h.windows.anchors (added_of ns)) (sym (append-nil done)) are
added-from h done (n ∷ rest) is until rounds earned are =
    let assoc : (done ++ n ∷ []) ++ rest ≡ done ++ n ∷ rest = append_assoc done (n ∷ []) rest in
    let long : length (done ++ n ∷ []) ≡ length done + 1 = length-append done (n ∷ []) in
    subst (λ (ns : List Refinement). AreAddedPoints h.problem h.windows.anchors (added_of ns)) assoc
    (added-from h (done ++ n ∷ []) rest (is ∙ sym assoc)
    (subst (λ (qs : List AddedPoint). All (λ (q : AddedPoint). q.round ≤ length (done ++ n ∷ [])) qs) (sym (added_of_push done n))
    (All-append (λ (q : AddedPoint). q.round ≤ length (done ++ n ∷ [])) (added_of done) (points_added n.round n.added)
    (All-weaker (λ (q : AddedPoint). q.round ≤ length done) (λ (q : AddedPoint). q.round ≤ length (done ++ n ∷ [])) (λ q le. omega (arith, le, long)) (added_of done) until)
    (All-points_added (λ (q : AddedPoint). q.round ≤ length (done ++ n ∷ [])) n.round n.added (λ k d lt. omega (arith, long, rounds.0)))))
    (subst (λ (k : ℕ). AllFrom (λ j (m : Refinement). m.round ≡ j) (k + 1) rest) (sym long) rounds.1)
    (subst (λ (k : ℕ). AllFrom (λ j (m : Refinement). IsEarnedRound h.problem h.windows h.unit (points_of h j) m) k rest) (sym long) earned.1)
    (subst (λ (qs : List AddedPoint). AreAddedPoints h.problem h.windows.anchors qs) (sym (added_of_push done n))
    (AreAddedPoints-more h.problem h.windows.anchors (added_of done) points n.round n.added are initial there
    (All-weaker (λ (q : AddedPoint). q.round ≤ length done) (λ (q : AddedPoint). q.round < n.round) (λ q le. omega (arith, le, rounds.0)) (added_of done) until)
    earned.0.few earned.0.distinct earned.0.new)))
  where
    points : ℕ → List ℕ
    points = points_of h (length done)

    initial : (terminal at : ℕ) → list_has (initial_points h.problem h.windows.anchors terminal) at ≡ true → list_has (points terminal) at ≡ true
    initial terminal at has =
        let more : List ℕ = added_at (added_of h.trace) terminal (length done) in
        list_has-append (initial_points h.problem h.windows.anchors terminal) more at ∙ or_left (list_has (initial_points h.problem h.windows.anchors terminal) at) (list_has more at) has

    there : All (λ (q : AddedPoint). list_has (points q.terminal) q.at ≡ true) (added_of done)
    there k d lt =
        let q : AddedPoint = get_or (added_of done) k d in
        let all : added_of h.trace ≡ added_of done ++ added_of (n ∷ rest) = ap added_of is ∙ added_of-append done (n ∷ rest) in
        let at : get_or (added_of h.trace) k d ≡ q = ap (λ (qs : List AddedPoint). get_or qs k d) all ∙ get_or_append_left (added_of done) (added_of (n ∷ rest)) d k lt in
        let within : k < length (added_of h.trace) = omega (arith, lt, ap (λ (qs : List AddedPoint). length qs) all, length-append (added_of done) (added_of (n ∷ rest))) in
        let has : list_has (added_at (added_of h.trace) q.terminal (length done)) q.at ≡ true =
        subst (λ (r : AddedPoint). list_has (added_at (added_of h.trace) q.terminal (length done)) r.at ≡ true) at
        (list_has-added_at (added_of h.trace) q.terminal (length done) k d within (ap (λ (r : AddedPoint). r.terminal) at) (omega (arith, ap (λ (r : AddedPoint). r.round) at, until k d lt))) in
        list_has-append (initial_points h.problem h.windows.anchors q.terminal) (added_at (added_of h.trace) q.terminal (length done)) q.at
        ∙ or_right (list_has (initial_points h.problem h.windows.anchors q.terminal) q.at) (list_has (added_at (added_of h.trace) q.terminal (length done)) q.at) has

-- the points of an earned trace can be added to the initial ones
pub AreAddedPoints-IsEarnedTrace : (h : History) (started ended : ℕ) → IsEarnedTrace h started ended → AreAddedPoints h.problem h.windows.anchors (added_of h.trace)
AreAddedPoints-IsEarnedTrace h started ended trace =
    added-from h [] h.trace refl (λ k d lt. absurd (omega (arith, lt))) trace.rounds trace.earned (AreAddedPoints-nil h.problem h.windows.anchors)

-- an added point is at a terminal, after 0 and by the horizon
abbrev IsInTime : Problem → AddedPoint → Type 0
IsInTime p q = (q.terminal < length p.terminals) × (1 ≤ q.at) × (q.at ≤ horizon p.shipments)

-- the places of an earned round are
places-in_time : (h : History) (points : ℕ → List ℕ) (n : Refinement) → BelongsTo h.problem h.windows → IsEarnedRound h.problem h.windows h.unit points n →
    All (IsInTime h.problem) (points_added n.round n.added)
places-in_time h points n belongs round =
    All-points_added (IsInTime h.problem) n.round n.added
    (All-weaker (IsRoundPlace h.problem h.unit points n.relaxed) (λ (q : Place). IsInTime h.problem (point_added n.round q)) (in_time h.unit) n.added round.places)
  where
    short : (q : Place) → IsShortPlace h.problem points n.relaxed q → IsInTime h.problem (point_added n.round q)
    short q place =
        let can : CanBePoint h.problem points place.short =
        CanBePoint-IsShort h.problem h.windows points n.relaxed belongs round.clashes.is (place.short ∷ []) (λ k d lt. first k d lt) 0 place.short (omega arith) in
        subst (λ (r : Place). IsInTime h.problem (point_added n.round r)) (sym place.at) (can.terminal, can.after, can.before)
      where
        first : All (IsShort h.problem points n.relaxed) (place.short ∷ [])
        first zero d lt = place.is
        first (suc k) d lt = absurd (omega (arith, lt))

    in_time : (unit : Option ℕ) (q : Place) → IsRoundPlace h.problem unit points n.relaxed q → IsInTime h.problem (point_added n.round q)
    in_time None q place = short q place
    in_time (Some unit) q (inl place) = short q place
    in_time (Some unit) q (inr place) = place

-- so are all points of earned rounds, and there are at least as many as rounds
rounds-in_time : (h : History) (k : ℕ) (notes : List Refinement) → BelongsTo h.problem h.windows → AllFrom (λ j (n : Refinement). IsEarnedRound h.problem h.windows h.unit (points_of h j) n) k notes →
    All (IsInTime h.problem) (added_of notes) × (length notes ≤ length (added_of notes))
rounds-in_time h k [] belongs earned = ((λ j d lt. absurd (omega (arith, lt))), omega arith)
rounds-in_time h k (n ∷ notes) belongs earned =
    let rest = rounds-in_time h (k + 1) notes belongs earned.1 in (
      All-append (IsInTime h.problem) (points_added n.round n.added) (added_of notes) (places-in_time h (points_of h k) n belongs earned.0) rest.0,
      omega (arith, rest.1, earned.0.some, length-append (points_added n.round n.added) (added_of notes), length-map n.added (point_added n.round)),
    )

-- all points of an earned trace are
pub points-in_time : (h : History) (started ended : ℕ) → BelongsTo h.problem h.windows → IsEarnedTrace h started ended → All (IsInTime h.problem) (added_of h.trace)
points-in_time h started ended belongs trace = (rounds-in_time h 0 h.trace belongs trace.earned).0

-- an earned trace has at most as many notes as there are terminals, times the horizon
pub length-IsEarnedTrace : (h : History) (started ended : ℕ) → BelongsTo h.problem h.windows → IsEarnedTrace h started ended → length h.trace ≤ length h.problem.terminals * horizon h.problem.shipments
length-IsEarnedTrace h started ended belongs trace =
    let all = rounds-in_time h 0 h.trace belongs trace.earned in
    omega (
      arith,
      all.1,
      length_distinct_new (length h.problem.terminals) (horizon h.problem.shipments) (added_of h.trace) (AreAddedPoints-IsEarnedTrace h started ended trace).once all.0,
    )
