-- Points that are added one by one to the initial ones.
use Rattle.std.proofs.Common.{◌≡◌, ◌≢◌, ℕ, zero, suc, ◌+◌, ◌*◌, ◌<◌, ◌≤◌, Bool, true, false, ◌||◌, ◌&&◌, List, [], ◌∷◌, ◌++◌, length, get_or, take, ⊎_elim, refl, sym, ap, ◌∙◌, subst, arith, eqb-true, eq-eqb, append_assoc}
use Rattle.std.specs.Prelude.{All, AllPairs, ◌==◌, nat_le}
use Rattle.std.proofs.lemmas.Bool.{and_parts, cases_Bool, false≢true, le-leb, or_cases}
use Rattle.std.proofs.lemmas.List.{get_or-take, get_or_default, length-take-le, take_all, take_more}
use Rattle.std.proofs.lemmas.List.Elements.{All-more}
use Rattle.std.proofs.lemmas.List.Quantifiers.{all_pairs_push}
use Rattle.fp_model.specs.declared.limits.TheConstants.{LAST_ROUND, MOST_SHIPMENTS}
use Rattle.fp_model.specs.Problem.{Problem, IsValid}
use Rattle.fp_timenodes.specs.declared.places.AddedPoint.{AddedPoint}
use Rattle.fp_timenodes.specs.declared.places.Place.{Place}
use Rattle.fp_timenodes.specs.Floor.{HaveSamePoints}
use Rattle.fp_base_lists.specs.Membership.{list_has}
use Rattle.fp_timenodes.specs.Points.{TimePoints, added_at, greatest_round, points_at, times_at}
use Rattle.fp_base_lists.proofs.Truth.{or_right_comm}
use Rattle.fp_base_lists.proofs.Membership.{list_has-append, list_has-rest, list_has-first, list_has-cons_cases}
use Rattle.fp_flatnet.specs.declared.window_tables.TheConstants.{MOST_ANCHORS}
use Rattle.fp_flatnet.specs.Initial.{initial_points}
use Rattle.fp_certificate_lines.specs.Ranges.{IsPointInRange}
use Rattle.fp_certificate_rules.specs.Points.{AreAddedPoints, ArePointsOf, points_with_added}
use Rattle.fp_certificate_rules.proofs.RoundCounts.{RoundsAscend, count_in, length-rounds}
use Rattle.fp_timenodes.proofs.Rounds.{greatest_round_least}

-- a point is none of the initial ones
abbrev pub IsNew : Problem → List Place → AddedPoint → Type 0
IsNew p anchors q = list_has (initial_points p anchors q.terminal) q.at ≡ false

-- two points differ
abbrev pub AreTwo : AddedPoint → AddedPoint → Type 0
AreTwo q r = q.terminal ≡ r.terminal → q.at ≢ r.at

-- points that are the initial ones and these, added one by one
pub record HaveAdded (p : Problem) (anchors : List Place) (added : List AddedPoint) (v : TimePoints) : Type 0 where
  pub terminals : v.terminals ≡ length p.terminals
  pub few_first : length v.first ≤ MOST_ANCHORS + 2 * MOST_SHIPMENTS
  pub added_is : v.added ≡ added
  pub start : (terminal : ℕ) → terminal < length p.terminals → HaveSamePoints (times_at v.first terminal ++ 0 ∷ []) (initial_points p anchors terminal)
  pub new : All (IsNew p anchors) added
  pub once : AllPairs AreTwo added

-- a point that was added is there
list_has-added_at : (added : List AddedPoint) (terminal round : ℕ) (k : ℕ) (d : AddedPoint) → k < length added → (get_or added k d).terminal ≡ terminal → (get_or added k d).round ≤ round →
    list_has (added_at added terminal round) (get_or added k d).at ≡ true
list_has-added_at [] terminal round k d lt own early = absurd (omega (arith, lt))
list_has-added_at (q ∷ added) terminal round zero d lt own early =
    rw (eq-eqb q.terminal terminal own, le-leb q.round round early) (list_has-first q.at (added_at added terminal round))
list_has-added_at (q ∷ added) terminal round (suc k) d lt own early =
    let later : list_has (added_at added terminal round) (get_or added k d).at ≡ true = list_has-added_at added terminal round k d (omega (arith, lt)) own early in
    ⊎_elim
    (λ (h : (q.terminal == terminal && nat_le q.round round) ≡ true). rw h (list_has-rest q.at (added_at added terminal round) (get_or added k d).at later))
    (λ (h : (q.terminal == terminal && nat_le q.round round) ≡ false). rw h later)
    (cases_Bool (q.terminal == terminal && nat_le q.round round))

-- what is there was added
pub record WasAdded (added : List AddedPoint) (terminal at : ℕ) (d : AddedPoint) : Type 0 where
  pub place : ℕ
  pub within : place < length added
  pub own : (get_or added place d).terminal ≡ terminal
  pub time : (get_or added place d).at ≡ at

WasAdded_later : (q : AddedPoint) (added : List AddedPoint) (terminal at : ℕ) (d : AddedPoint) → WasAdded added terminal at d → WasAdded (q ∷ added) terminal at d
WasAdded_later q added terminal at d was = record { place = suc was.place; within = omega (arith, was.within); own = was.own; time = was.time }

WasAdded-added_at : (added : List AddedPoint) (terminal round at : ℕ) (d : AddedPoint) → list_has (added_at added terminal round) at ≡ true → WasAdded added terminal at d
WasAdded-added_at [] terminal round at d has = absurd (false≢true has)
WasAdded-added_at (q ∷ added) terminal round at d has =
    ⊎_elim
    (λ (h : (q.terminal == terminal && nat_le q.round round) ≡ true).
    let parts = and_parts (q.terminal == terminal) (nat_le q.round round) h in
    let here : list_has (q.at ∷ added_at added terminal round) at ≡ true = rw h at has in
    ⊎_elim
    (λ (same : q.at ≡ at). record { place = 0; within = omega arith; own = eqb-true q.terminal terminal parts.0; time = same })
    (λ (later : list_has (added_at added terminal round) at ≡ true). WasAdded_later q added terminal at d (WasAdded-added_at added terminal round at d later))
    (list_has-cons_cases q.at (added_at added terminal round) at here))
    (λ (h : (q.terminal == terminal && nat_le q.round round) ≡ false).
    let rest : list_has (added_at added terminal round) at ≡ true = rw h at has in
    WasAdded_later q added terminal at d (WasAdded-added_at added terminal round at d rest))
    (cases_Bool (q.terminal == terminal && nat_le q.round round))

-- they are, as of each round, the initial points and the added ones
HaveAdded-points_at : (p : Problem) (anchors : List Place) (added : List AddedPoint) (v : TimePoints) (terminal round : ℕ) → HaveAdded p anchors added v → terminal < length p.terminals →
    HaveSamePoints (points_at v terminal round) (points_with_added p anchors added round terminal)
HaveAdded-points_at p anchors added v terminal round made lt at =
    let first : List ℕ = times_at v.first terminal in
    let later : List ℕ = added_at added terminal round in
    let known : list_has (points_at v terminal round) at ≡ list_has (first ++ (later ++ 0 ∷ [])) at =
    ap (λ (qs : List AddedPoint). list_has (first ++ (added_at qs terminal round ++ 0 ∷ [])) at) made.added_is in
    known
    ∙ ap (λ (qs : List ℕ). list_has qs at) (sym (append_assoc first later (0 ∷ [])))
    ∙ list_has-append (first ++ later) (0 ∷ []) at
    ∙ ap (λ (b : Bool). b || list_has (0 ∷ []) at) (list_has-append first later at)
    ∙ or_right_comm (list_has first at) (list_has later at) (list_has (0 ∷ []) at)
    ∙ ap (λ (b : Bool). b || list_has later at) (sym (list_has-append first (0 ∷ []) at) ∙ made.start terminal lt at)
    ∙ sym (list_has-append (initial_points p anchors terminal) later at)

-- a point before a place in the points before it
take_before : (added : List AddedPoint) (i k : ℕ) (d : AddedPoint) → i < length added → k < length (take i added) → (k < i) × (get_or (take i added) k d ≡ get_or added k d)
take_before added i k d lt less =
    let early : k < i = omega (arith, less, length-take-le i added (omega (arith, lt))) in
    (early, get_or-take i added k d early)

-- its round is no later
RoundsAscend-take : (added : List AddedPoint) (i k : ℕ) (d : AddedPoint) → RoundsAscend added → i < length added → k < length (take i added) → (get_or (take i added) k d).round ≤ (get_or added i d).round
RoundsAscend-take added i k d rise lt less =
    let at = take_before added i k d lt less in
    omega (arith, ap (λ (q : AddedPoint). q.round) at.1, rise k i d at.0 lt)

-- rounds that don't fall are what adding one more point asks for
pub HaveAdded-greatest_round : (p : Problem) (anchors : List Place) (added : List AddedPoint) (v : TimePoints) (i : ℕ) (d : AddedPoint) → HaveAdded p anchors (take i added) v → RoundsAscend added → i < length added →
    greatest_round v.added ≤ (get_or added i d).round
HaveAdded-greatest_round p anchors added v i d made rise lt =
    subst (λ (qs : List AddedPoint). greatest_round qs ≤ (get_or added i d).round) (sym made.added_is)
    (greatest_round_least (take i added) d (get_or added i d).round (λ k less. RoundsAscend-take added i k d rise lt less))

-- a test of one or the other that fails
neither : (a b : Bool) → (a || b) ≡ false → (a ≡ false) × (b ≡ false)
neither true b h = absurd (false≢true (sym h))
neither false b h = (refl, h)

-- one more point is added, where it is new
pub HaveAdded_push : (p : Problem) (anchors : List Place) (added : List AddedPoint) (v w : TimePoints) (i : ℕ) (d : AddedPoint) → HaveAdded p anchors (take i added) v → RoundsAscend added → i < length added →
    (get_or added i d).terminal < length p.terminals → list_has (points_at v (get_or added i d).terminal (get_or added i d).round) (get_or added i d).at ≡ false →
    w ≡ record v { added = v.added ++ (get_or added i d ∷ []) } → HaveAdded p anchors (take (i + 1) added) w
HaveAdded_push p anchors added v w i d made rise lt exists none is =
    let q : AddedPoint = get_or added i d in
    let more : take (i + 1) added ≡ take i added ++ (q ∷ []) = take_more added i d lt in
    let both = neither (list_has (initial_points p anchors q.terminal) q.at) (list_has (added_at (take i added) q.terminal q.round) q.at)
    (sym (HaveAdded-points_at p anchors (take i added) v q.terminal q.round made exists q.at ∙ list_has-append (initial_points p anchors q.terminal) (added_at (take i added) q.terminal q.round) q.at) ∙ none) in
    let differs : (k : ℕ) (e : AddedPoint) → k < length (take i added) → AreTwo (get_or (take i added) k e) q =
    λ k e less same_terminal same_at.
    let at = take_before added i k e lt less in
    let there : list_has (added_at (take i added) q.terminal q.round) (get_or (take i added) k e).at ≡ true =
    list_has-added_at (take i added) q.terminal q.round k e less same_terminal (omega (arith, ap (λ (r : AddedPoint). r.round) at.1, rise k i e at.0 lt, ap (λ (r : AddedPoint). r.round) (get_or_default added i e d lt))) in
    false≢true (sym (subst (λ (n : ℕ). list_has (added_at (take i added) q.terminal q.round) n ≡ false) (sym same_at) both.1) ∙ there) in
    record {
      terminals = ap (λ (x : TimePoints). x.terminals) is ∙ made.terminals;
      few_first = subst (λ (x : TimePoints). length x.first ≤ MOST_ANCHORS + 2 * MOST_SHIPMENTS) (sym is) made.few_first;
      added_is = ap (λ (x : TimePoints). x.added) is ∙ ap (λ (qs : List AddedPoint). qs ++ (q ∷ [])) made.added_is ∙ sym more;
      start = subst (λ (x : TimePoints). (terminal : ℕ) → terminal < length p.terminals → HaveSamePoints (times_at x.first terminal ++ 0 ∷ []) (initial_points p anchors terminal)) (sym is) made.start;
      new = All-more (IsNew p anchors) added i d lt made.new both.0;
      once = subst (AllPairs AreTwo) (sym more) (all_pairs_push AreTwo (take i added) q made.once differs);
    }

-- where the next point is there already, it is an initial one or stands twice
pub HaveAdded-list_has : (p : Problem) (anchors : List Place) (added : List AddedPoint) (v : TimePoints) (i : ℕ) (d : AddedPoint) → HaveAdded p anchors (take i added) v → i < length added →
    (get_or added i d).terminal < length p.terminals → list_has (points_at v (get_or added i d).terminal (get_or added i d).round) (get_or added i d).at ≡ true → AreAddedPoints p anchors added → ⊥
HaveAdded-list_has p anchors added v i d made lt exists there are =
    let q : AddedPoint = get_or added i d in
    ⊎_elim
    (λ (first : list_has (initial_points p anchors q.terminal) q.at ≡ true). false≢true (sym (are.new i d lt) ∙ first))
    (λ (later : list_has (added_at (take i added) q.terminal q.round) q.at ≡ true).
    let was = WasAdded-added_at (take i added) q.terminal q.round q.at d later in
    let at = take_before added i was.place d lt was.within in
    are.once was.place i d at.0 lt (sym (ap (λ (r : AddedPoint). r.terminal) at.1) ∙ was.own) (sym (ap (λ (r : AddedPoint). r.at) at.1) ∙ was.time))
    (or_cases (list_has (initial_points p anchors q.terminal) q.at) (list_has (added_at (take i added) q.terminal q.round) q.at)
    (sym (HaveAdded-points_at p anchors (take i added) v q.terminal q.round made exists q.at ∙ list_has-append (initial_points p anchors q.terminal) (added_at (take i added) q.terminal q.round) q.at) ∙ there))

-- once all are added, they are the points of the certificate, few enough for a bound
pub HaveAdded-ArePointsOf : (p : Problem) (anchors : List Place) (added : List AddedPoint) (v : TimePoints) (i : ℕ) → IsValid p → HaveAdded p anchors (take i added) v → length added ≤ i →
    All (IsPointInRange p) added → ((round : ℕ) → count_in round added ≤ 8) → ArePointsOf p anchors added v
HaveAdded-ArePointsOf p anchors added v i valid made long range few =
    let whole : HaveAdded p anchors added v = subst (λ (qs : List AddedPoint). HaveAdded p anchors qs v) (take_all i added long) made in
    record {
      terminals = whole.terminals;
      few = omega (
        arith,
        whole.terminals,
        whole.few_first,
        ap (λ (qs : List AddedPoint). length qs) whole.added_is,
        valid.parts.few_terminals,
        length-rounds LAST_ROUND added few (λ k d lt. (range k d lt).round),
      );
      same = λ terminal round lt. HaveAdded-points_at p anchors added v terminal round whole lt;
    }

-- and they are points that can be added
pub HaveAdded-AreAddedPoints : (p : Problem) (anchors : List Place) (added : List AddedPoint) (v : TimePoints) (i : ℕ) → HaveAdded p anchors (take i added) v → length added ≤ i →
    RoundsAscend added → ((round : ℕ) → count_in round added ≤ 8) → AreAddedPoints p anchors added
HaveAdded-AreAddedPoints p anchors added v i made long rise few =
    let whole : HaveAdded p anchors added v = subst (λ (qs : List AddedPoint). HaveAdded p anchors qs v) (take_all i added long) made in
    record { rounds = rise; few = few; new = whole.new; once = whole.once }
