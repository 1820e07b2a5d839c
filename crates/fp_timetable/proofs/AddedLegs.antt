-- Adding a leg to the departures.
use Rattle.std.proofs.Common.{◌≡◌, ◌≢◌, ℕ, zero, suc, ◌+◌, ◌-◌, ◌^◌, ◌<◌, ◌≤◌, Bool, true, false, ◌||◌, List, [], ◌∷◌, ◌++◌, length, map, set, take, drop, get_or, ⊎_elim, refl, sym, ap, ap₂, ◌∙◌, subst, arith, length-set}
use Rattle.std.specs.Prelude.{All, AllPairs, if◌then◌else◌}
use Rattle.std.proofs.Math.ListN.{get_or-map, length-map}
use Rattle.std.proofs.Math.Nat.{eq-or-lt_of_le}
use Rattle.std.proofs.Math.Seq.{map-set_same}
use Rattle.std.proofs.lemmas.Bool.{cases_Bool, cond-true, cond-false}
use Rattle.std.proofs.lemmas.List.{map_push}
use Rattle.std.proofs.lemmas.List.Edits.{map_over_more}
use Rattle.std.proofs.lemmas.List.Elements.{All-push, All-set, All-get_or, All-from_get_or}
use Rattle.std.proofs.lemmas.List.Folds.{list_any-append}
use Rattle.std.proofs.lemmas.List.Quantifiers.{all_pairs_push}
use Rattle.std.proofs.lemmas.List.Sums.{sum_by-set, sum_by_push}
use Rattle.fp_model.specs.declared.parts.Leg.{Leg}
use Rattle.fp_model.specs.Costs.{has_leg, same_leg}
use Rattle.fp_model.proofs.Distinct.{same_leg-true}
use Rattle.fp_model.specs.Problem.{Problem}
use Rattle.fp_timetable.specs.declared.lines.LegLine.{LegLine}
use Rattle.fp_timetable.specs.declared.lines.TruckLine.{TruckLine}
use Rattle.fp_timetable.specs.Lines.{departure, line_leg}
use Rattle.fp_timetable.specs.Order.{Adds, EndsAt, with_trucks, IsAt, IsNotAfter, departure_rank, last_of, no_line, rank_of, truck_rank}
use Rattle.fp_timetable.proofs.AllLines.{has_leg-get_or}

-- loads that are small are not too large one size later
more-load : (n : ℕ) (lines : List TruckLine) → All (λ (t : TruckLine). t.load ≤ n) lines → All (λ (t : TruckLine). t.load ≤ n + 2 ^ 64) lines
more-load n lines all =
    All-from_get_or (λ (t : TruckLine). t.load ≤ n + 2 ^ 64) lines no_line (λ i lt. omega (arith, All-get_or (λ (t : TruckLine). t.load ≤ n) lines i no_line lt all))

-- a place of a list holds the same whatever stands for no place
get_or-default : (lines : List TruckLine) (i : ℕ) (d e : TruckLine) → i < length lines → get_or lines i d ≡ get_or lines i e
get_or-default [] i d e lt = absurd (omega (arith, lt))
get_or-default (t ∷ lines) zero d e lt = refl
get_or-default (t ∷ lines) (suc i) d e lt = get_or-default lines i d e (omega (arith, lt))

pub or-false : (b : Bool) → b || false ≡ b
or-false true = refl
or-false false = refl

departure-at : (l : LegLine) (t : TruckLine) → IsAt l t → departure t ≡ line_leg l
departure-at l t at =
    let leg : ℕ → ℕ → Leg = λ a n. record { arc = a; depart = n } in
    ap₂ leg at.1 at.0

rank-at : (l : LegLine) (t : TruckLine) → IsAt l t → truck_rank t ≡ departure_rank l
rank-at l t at = ap₂ rank_of at.0 at.1

-- a new departure at the end
pub adds_new : (l : LegLine) (size : ℕ) (old : List TruckLine) (t : TruckLine) → IsAt l t → t.load ≡ size → size < 2 ^ 64 →
    (EndsAt l old → ⊥) → Adds l size old (old ++ t ∷ [])
adds_new l size old t at load small other = record {
  loads = λ k.
      let f : TruckLine → ℕ = λ (u : TruckLine). if same_leg k (departure u) then u.load else 0 in
      let new : f t ≡ (if same_leg k (line_leg l) then size else 0) =
      ap₂ (λ (leg : Leg) (n : ℕ). if same_leg k leg then n else 0) (departure-at l t at) load in
      omega (arith, sum_by_push f old t, new);
  departures = λ k.
      ap (λ (xs : List Leg). has_leg k xs) (map_push departure old t)
      ∙ list_any-append (same_leg k) (map departure old) (departure t ∷ [])
      ∙ ap (λ (b : Bool). has_leg k (map departure old) || b) (last-one k);
  ascending = λ narrow below ascend.
      all_pairs_push (λ (t u : TruckLine). truck_rank t < truck_rank u) old t ascend (λ k d lt. strictly narrow below ascend k d lt);
  before = λ m narrow le all. All-push (IsNotAfter m) old t all (omega (arith, rank-at l t at, le), omega (arith, at.1, narrow));
  most = λ most all. All-push (λ (u : TruckLine). u.load ≤ most + 2 ^ 64) old t (more-load most old all) (omega (arith, load, small));
}
  where
    last-one : (k : Leg) → has_leg k (departure t ∷ []) ≡ same_leg k (line_leg l)
    last-one k = or-false (same_leg k (departure t)) ∙ ap (same_leg k) (departure-at l t at)

    strictly : l.arc < 2 ^ 32 → All (IsNotAfter l) old → AllPairs (λ (t u : TruckLine). truck_rank t < truck_rank u) old →
        (k : ℕ) (d : TruckLine) → k < length old → truck_rank (get_or old k d) < truck_rank t
    strictly narrow below ascend k d lt =
        let end : ℕ = length old - 1 in
        let le : IsNotAfter l (get_or old end d) = All-get_or (IsNotAfter l) old end d (omega (arith, lt)) below in
        let same : last_of old ≡ get_or old end d = get_or-default old end no_line d (omega (arith, lt)) in
        let ne : truck_rank (get_or old end d) ≢ departure_rank l =
        λ e.
        let depart : (get_or old end d).depart ≡ l.depart = omega (arith, e, le.1, narrow) in
        let arc : (get_or old end d).arc ≡ l.arc = omega (arith, e, le.1, narrow) in
        other (omega (arith, lt), subst (IsAt l) (sym same) (depart, arc)) in
        let less : truck_rank (get_or old end d) < truck_rank t = omega (arith, le.0, ne, rank-at l t at) in
        ⊎_elim
        (λ (here : k ≡ end). subst (λ (n : ℕ). truck_rank (get_or old n d) < truck_rank t) (sym here) less)
        (λ (before : k < end). omega (arith, ascend k end d before (omega (arith, lt)), less))
        (eq-or-lt_of_le (omega (arith, lt)))

-- more at the last departure
more-at : (l : LegLine) (size : ℕ) (old : List TruckLine) (i : ℕ) (t d : TruckLine) → i < length old → IsAt l (get_or old i d) → IsAt l t →
    t.load ≡ (get_or old i d).load + size → size < 2 ^ 64 → Adds l size old (set old i t)
more-at l size old i t d lt was at load small = record {
  loads = λ k.
      let f : TruckLine → ℕ = λ (u : TruckLine). if same_leg k (departure u) then u.load else 0 in
      let before : f (get_or old i d) ≡ (if same_leg k (line_leg l) then (get_or old i d).load else 0) =
      ap (λ (leg : Leg). if same_leg k leg then (get_or old i d).load else 0) (departure-at l (get_or old i d) was) in
      let after : f t ≡ (if same_leg k (line_leg l) then (get_or old i d).load + size else 0) =
      ap₂ (λ (leg : Leg) (n : ℕ). if same_leg k leg then n else 0) (departure-at l t at) load in
      ⊎_elim
      (λ (h : same_leg k (line_leg l) ≡ true).
      omega (arith, sum_by-set f old i t d lt, before, after, cond-true (same_leg k (line_leg l)) (get_or old i d).load 0 h, cond-true (same_leg k (line_leg l)) ((get_or old i d).load + size) 0 h, cond-true (same_leg k (line_leg l)) size 0 h))
      (λ (h : same_leg k (line_leg l) ≡ false).
      omega (arith, sum_by-set f old i t d lt, before, after, cond-false (same_leg k (line_leg l)) (get_or old i d).load 0 h, cond-false (same_leg k (line_leg l)) ((get_or old i d).load + size) 0 h, cond-false (same_leg k (line_leg l)) size 0 h))
      (cases_Bool (same_leg k (line_leg l)));
  departures = λ k.
      ap (λ (xs : List Leg). has_leg k xs) (map-set_same departure old i t d same) ∙ found k;
  ascending = λ narrow below ascend a b e less short.
      let kept : truck_rank (get_or old a e) < truck_rank (get_or old b e) = ascend a b e less (rw length-set at short) in
      omega (arith, kept, rank-kept a e, rank-kept b e);
  before = λ m narrow le all. All-set (IsNotAfter m) old i t (omega (arith, rank-at l t at, le), omega (arith, at.1, narrow)) all;
  most = λ most all.
      All-set (λ (u : TruckLine). u.load ≤ most + 2 ^ 64) old i t
      (omega (arith, load, small, All-get_or (λ (u : TruckLine). u.load ≤ most) old i d lt all)) (more-load most old all);
}
  where
    same : departure t ≡ departure (get_or old i d)
    same = departure-at l t at ∙ sym (departure-at l (get_or old i d) was)

    found : (k : Leg) → has_leg k (map departure old) ≡ has_leg k (map departure old) || same_leg k (line_leg l)
    found k =
        ⊎_elim
        (λ (h : same_leg k (line_leg l) ≡ true).
        let is : k ≡ departure (get_or old i d) = same_leg-true k (line_leg l) h ∙ sym (departure-at l (get_or old i d) was) in
        let there : has_leg k (map departure old) ≡ true =
        subst (λ (leg : Leg). has_leg leg (map departure old) ≡ true) (get_or-map departure old i d ∙ sym is) (has_leg-get_or (map departure old) i (departure d) (rw length-map lt)) in
        there ∙ sym (ap (λ (b : Bool). b || same_leg k (line_leg l)) there))
        (λ (h : same_leg k (line_leg l) ≡ false). sym (ap (λ (b : Bool). has_leg k (map departure old) || b) h ∙ or-false (has_leg k (map departure old))))
        (cases_Bool (same_leg k (line_leg l)))

    rank-kept : (j : ℕ) (e : TruckLine) → truck_rank (get_or (set old i t) j e) ≡ truck_rank (get_or old j e)
    rank-kept j e =
        sym (get_or-map truck_rank (set old i t) j e)
        ∙ ap (λ (ranks : List ℕ). get_or ranks j (truck_rank e)) (map-set_same truck_rank old i t d (rank-at l t at ∙ sym (rank-at l (get_or old i d) was)))
        ∙ get_or-map truck_rank old j e

pub adds_more : (l : LegLine) (size : ℕ) (old : List TruckLine) (i : ℕ) (t : TruckLine) → EndsAt l old → i ≡ length old - 1 → IsAt l t →
    t.load ≡ (last_of old).load + size → size < 2 ^ 64 → Adds l size old (set old i t)
adds_more l size old i t ends end at load small =
    let last : length old - 1 < length old = omega (arith, ends.0) in
    let there : Adds l size old (set old (length old - 1) t) = more-at l size old (length old - 1) t no_line last ends.1 at load small in
    subst (λ (n : ℕ). Adds l size old (set old n t)) (sym end) there

-- one more line with its trucks
pub set-more : (p : Problem) (old lines : List TruckLine) (i : ℕ) → i < length old → i < length lines → lines ≡ map (with_trucks p) (take i old) ++ drop i old →
    set lines i (with_trucks p (get_or lines i no_line)) ≡ map (with_trucks p) (take (i + 1) old) ++ drop (i + 1) old
set-more p old lines i lt there is =
    let t : TruckLine = get_or lines i no_line in
    map_over_more (with_trucks p) old lines i t lt is (get_or-default lines i no_line t there)
