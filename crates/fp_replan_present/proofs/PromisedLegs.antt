-- The promised legs of all shipments, and as kept legs of what is left.
use Rattle.std.proofs.Common.{◌≡◌, ◌≢◌, ℕ, ◌<◌, ◌≤◌, true, false, ◌||◌, Option, List, [], ◌∷◌, ◌++◌, length, drop, get_or, map, refl, sym, ap, ◌∙◌, subst, arith, ⊎_elim, eq-eqb}
use Rattle.std.specs.Prelude.{nat_eq, AllPairs}
use Rattle.std.specs.List.{AllByRecursion, list_any}
use Rattle.std.proofs.lemmas.Bool.{cases_Bool, ne_eqb, or_parts}
use Rattle.std.proofs.lemmas.Bool.Decides.{eqb_tells}
use Rattle.std.proofs.lemmas.List.{get_or-map, length-map, map-append}
use Rattle.fp_base_lists.specs.Ascending.{place_in}
use Rattle.fp_base_lists.specs.Membership.{list_has}
use Rattle.fp_base_lists.proofs.Elements.{AllByRecursion-both, AllByRecursion-from_get_or, AllByRecursion-from_map, AllByRecursion-map, AllByRecursion-weaker}
use Rattle.fp_base_lists.proofs.Places.{get_or-place_in, place_in-get_or}
use Rattle.fp_model.specs.declared.parts.Leg.{Leg}
use Rattle.fp_model.specs.declared.parts.Shipment.{Shipment}
use Rattle.fp_model.specs.Numbered.{no_shipment, shipment_at}
use Rattle.fp_model.specs.Problem.{Problem}
use Rattle.fp_replan.specs.declared.kept.Kept.{Kept}
use Rattle.fp_replan.specs.Beginnings.{IsBeginning}
use Rattle.fp_replan.specs.KeptLegs.{AreKept, kept_of, no_kept}
use Rattle.fp_replan.proofs.KeptBeginnings.{IsBeginning-kept}
use Rattle.fp_replan_present.specs.declared.presents.Tracked.{Tracked}
use Rattle.fp_replan_present.specs.Days.{AreTracked, Day, is_fixed, is_of, kept_in_tracked, legs_of, promised, settled, tracked_leg, tracked_of}
use Rattle.fp_replan_present.specs.Plans.{place_of, promised_of, settled_legs}
use Rattle.fp_replan_present.specs.Rests.{is_fixed_of, is_left, left_kept, left_numbers, left_problem, moved, promised_among, renumbered}
use Rattle.fp_replan_present.proofs.Beginnings.{AreKept-from_beginnings, begin-goes, begin-later, begin-same}
use Rattle.fp_replan_present.proofs.Numbers.{passing-has, passing-up}
use Rattle.fp_replan_present.proofs.SettledLegs.{kept_of-tracked, promised-all, settled-promised}

-- whether one of a shipment's tracked legs is settled by itself
fixed-of : (now : Option ℕ) (legs : List Tracked) (k : ℕ) → list_any (is_fixed now) (tracked_of legs k) ≡ list_any (is_fixed_of now k) legs
fixed-of now [] k = refl
fixed-of now (x ∷ legs) k =
    let later : list_any (is_fixed now) (tracked_of legs k) ≡ list_any (is_fixed_of now k) legs = fixed-of now legs k in
    ⊎_elim
    (λ (own : is_of k x ≡ true). rw own (ap (λ b. is_fixed now x || b) later))
    (λ (other : is_of k x ≡ false). rw other later)
    (cases_Bool (is_of k x))

-- the promised legs of a shipment among those of all
tracked-first : (x : Tracked) (legs : List Tracked) (k : ℕ) → is_of k x ≡ true → tracked_of (x ∷ legs) k ≡ x ∷ tracked_of legs k
tracked-first x legs k own = rw own refl

tracked-other : (x : Tracked) (legs : List Tracked) (k : ℕ) → is_of k x ≡ false → tracked_of (x ∷ legs) k ≡ tracked_of legs k
tracked-other x legs k other = rw other refl

pub among-later : (now : Option ℕ) (x : Tracked) (legs : List Tracked) → list_any (is_fixed_of now x.kept.shipment) (x ∷ legs) ≡ true → promised_among now (x ∷ legs) ≡ promised_among now legs
among-later now x legs some = rw some refl

pub among-first : (now : Option ℕ) (x : Tracked) (legs : List Tracked) → list_any (is_fixed_of now x.kept.shipment) (x ∷ legs) ≡ false → promised_among now (x ∷ legs) ≡ x ∷ promised_among now legs
among-first now x legs none = rw none refl

promised-later : (now : Option ℕ) (x : Tracked) (legs : List Tracked) → list_any (is_fixed now) (x ∷ legs) ≡ true → promised now (x ∷ legs) ≡ promised now legs
promised-later now x legs some = rw some refl

-- of one more leg of the shipment, and of another
promised-own : (now : Option ℕ) (x : Tracked) (legs : List Tracked) (k : ℕ) → tracked_of (promised_among now legs) k ≡ promised now (tracked_of legs k) → is_of k x ≡ true → x.kept.shipment ≡ k →
    tracked_of (promised_among now (x ∷ legs)) k ≡ promised now (tracked_of (x ∷ legs) k)
promised-own now x legs k later own same =
    let first : tracked_of (x ∷ legs) k ≡ x ∷ tracked_of legs k = tracked-first x legs k own in
    let fixed : list_any (is_fixed now) (x ∷ tracked_of legs k) ≡ list_any (is_fixed_of now x.kept.shipment) (x ∷ legs) =
    ap (list_any (is_fixed now)) (sym first) ∙ fixed-of now (x ∷ legs) k ∙ ap (λ m. list_any (is_fixed_of now m) (x ∷ legs)) (sym same) in
    ⊎_elim
    (λ (some : list_any (is_fixed_of now x.kept.shipment) (x ∷ legs) ≡ true).
    ap (λ (xs : List Tracked). tracked_of xs k) (among-later now x legs some)
    ∙ later
    ∙ sym (promised-later now x (tracked_of legs k) (fixed ∙ some))
    ∙ ap (promised now) (sym first))
    (λ (none : list_any (is_fixed_of now x.kept.shipment) (x ∷ legs) ≡ false).
    let all : list_any (is_fixed now) (x ∷ tracked_of legs k) ≡ false = fixed ∙ none in
    ap (λ (xs : List Tracked). tracked_of xs k) (among-first now x legs none)
    ∙ tracked-first x (promised_among now legs) k own
    ∙ ap (λ (xs : List Tracked). x ∷ xs)
    (later ∙ promised-all now (tracked_of legs k) (or_parts (is_fixed now x) (list_any (is_fixed now) (tracked_of legs k)) all).1)
    ∙ sym (promised-all now (x ∷ tracked_of legs k) all)
    ∙ ap (promised now) (sym first))
    (cases_Bool (list_any (is_fixed_of now x.kept.shipment) (x ∷ legs)))

promised-other : (now : Option ℕ) (x : Tracked) (legs : List Tracked) (k : ℕ) → tracked_of (promised_among now legs) k ≡ promised now (tracked_of legs k) → is_of k x ≡ false →
    tracked_of (promised_among now (x ∷ legs)) k ≡ promised now (tracked_of (x ∷ legs) k)
promised-other now x legs k later other =
    let rest : promised now (tracked_of legs k) ≡ promised now (tracked_of (x ∷ legs) k) = ap (promised now) (sym (tracked-other x legs k other)) in
    ⊎_elim
    (λ (some : list_any (is_fixed_of now x.kept.shipment) (x ∷ legs) ≡ true). ap (λ (xs : List Tracked). tracked_of xs k) (among-later now x legs some) ∙ later ∙ rest)
    (λ (none : list_any (is_fixed_of now x.kept.shipment) (x ∷ legs) ≡ false).
    ap (λ (xs : List Tracked). tracked_of xs k) (among-first now x legs none) ∙ tracked-other x (promised_among now legs) k other ∙ later ∙ rest)
    (cases_Bool (list_any (is_fixed_of now x.kept.shipment) (x ∷ legs)))

pub tracked-promised : (now : Option ℕ) (legs : List Tracked) (k : ℕ) → tracked_of (promised_among now legs) k ≡ promised now (tracked_of legs k)
tracked-promised now [] k = refl
tracked-promised now (x ∷ legs) k =
    let later : tracked_of (promised_among now legs) k ≡ promised now (tracked_of legs k) = tracked-promised now legs k in
    ⊎_elim
    (λ (same : (nat_eq x.kept.shipment k ≡ true) × (x.kept.shipment ≡ k)). promised-own now x legs k later same.0 same.1)
    (λ (other : (nat_eq x.kept.shipment k ≡ false) × (x.kept.shipment ≢ k)). promised-other now x legs k later other.0)
    (eqb_tells x.kept.shipment k)

-- the first leg of a list: where one of its shipment is settled by itself it isn't promised, and else it is
pub first-settled : (now : Option ℕ) (legs : List Tracked) (d : Tracked) → 0 < length legs → list_any (is_fixed_of now (get_or legs 0 d).kept.shipment) legs ≡ true →
    promised_among now (drop 1 legs) ≡ promised_among now legs
first-settled now [] d lt some = absurd (omega (arith, lt))
first-settled now (x ∷ legs) d lt some = sym (among-later now x legs some)

pub first-promised : (now : Option ℕ) (legs : List Tracked) (d : Tracked) → 0 < length legs → list_any (is_fixed_of now (get_or legs 0 d).kept.shipment) legs ≡ false →
    promised_among now legs ≡ get_or legs 0 d ∷ promised_among now (drop 1 legs)
first-promised now [] d lt none = absurd (omega (arith, lt))
first-promised now (x ∷ legs) d lt none = among-first now x legs none

-- what holds of all tracked legs holds of the promised ones
among-each : (P : Tracked → Type 0) (now : Option ℕ) (legs : List Tracked) → AllByRecursion P legs → AllByRecursion P (promised_among now legs)
among-each P now [] all = tt
among-each P now (x ∷ legs) all =
    let later : AllByRecursion P (promised_among now legs) = among-each P now legs all.1 in
    ⊎_elim
    (λ (some : list_any (is_fixed_of now x.kept.shipment) (x ∷ legs) ≡ true). subst (AllByRecursion P) (sym (among-later now x legs some)) later)
    (λ (none : list_any (is_fixed_of now x.kept.shipment) (x ∷ legs) ≡ false). subst (AllByRecursion P) (sym (among-first now x legs none)) (all.0, later))
    (cases_Bool (list_any (is_fixed_of now x.kept.shipment) (x ∷ legs)))

-- there are no more of them
pub among-few : (now : Option ℕ) (legs : List Tracked) → length (promised_among now legs) ≤ length legs
among-few now [] = omega arith
among-few now (x ∷ legs) =
    let before : length (promised_among now legs) ≤ length legs = among-few now legs in
    ⊎_elim
    (λ (some : list_any (is_fixed_of now x.kept.shipment) (x ∷ legs) ≡ true). omega (arith, ap (λ (xs : List Tracked). length xs) (among-later now x legs some), before))
    (λ (none : list_any (is_fixed_of now x.kept.shipment) (x ∷ legs) ≡ false). omega (arith, ap (λ (xs : List Tracked). length xs) (among-first now x legs none), before))
    (cases_Bool (list_any (is_fixed_of now x.kept.shipment) (x ∷ legs)))

-- a list with an element isn't empty
not-empty : (x : Tracked) (xs : List Tracked) → x ∷ xs ≡ [] → ⊥
not-empty x xs e = let long : length (x ∷ xs) ≡ 0 = ap (λ (ys : List Tracked). length ys) e in omega (arith, long)

-- the shipment of each leg of a list has a leg there
own-more : (x : Tracked) (legs : List Tracked) (k : ℕ) → tracked_of legs k ≢ [] → tracked_of (x ∷ legs) k ≢ []
own-more x legs k more =
    ⊎_elim
    (λ (own : is_of k x ≡ true) (e : tracked_of (x ∷ legs) k ≡ []). not-empty x (tracked_of legs k) (sym (tracked-first x legs k own) ∙ e))
    (λ (other : is_of k x ≡ false) (e : tracked_of (x ∷ legs) k ≡ []). more (sym (tracked-other x legs k other) ∙ e))
    (cases_Bool (is_of k x))

own-some : (legs : List Tracked) → AllByRecursion (λ (x : Tracked). tracked_of legs x.kept.shipment ≢ []) legs
own-some [] = tt
own-some (x ∷ legs) = (
  (λ e. not-empty x (tracked_of legs x.kept.shipment) (sym (tracked-first x legs x.kept.shipment (eq-eqb x.kept.shipment x.kept.shipment refl)) ∙ e)),
  AllByRecursion-weaker (λ (y : Tracked). tracked_of legs y.kept.shipment ≢ []) (λ (y : Tracked). tracked_of (x ∷ legs) y.kept.shipment ≢ [])
      (λ y more. own-more x legs y.kept.shipment more) legs (own-some legs),
)

-- a route of each shipment may begin with its settled and its promised legs
pub begin-tracked : (p : Problem) (day : Day) (k : ℕ) → AreTracked p day → IsBeginning p (shipment_at p k) (settled_legs day k ++ legs_of (promised_of day k))
begin-tracked p day k are =
    let own : List Tracked = tracked_of day.legs k in
    let whole : kept_of (map kept_in_tracked day.legs) k ≡ settled_legs day k ++ legs_of (promised_of day k) =
    kept_of-tracked day.legs k ∙ ap legs_of (sym (settled-promised day.time own)) ∙ map-append tracked_leg (settled day.time own) (promised day.time own) in
    subst (IsBeginning p (shipment_at p k)) whole (IsBeginning-kept p (map kept_in_tracked day.legs) k are.kept)

-- a shipment with promised legs isn't delivered
pub left-promised : (p : Problem) (day : Day) (k : ℕ) → AreTracked p day → promised_of day k ≢ [] → is_left p day k ≡ true
left-promised p day k are some = by (promised_of day k) refl
  where
    by : (xs : List Tracked) → promised_of day k ≡ xs → is_left p day k ≡ true
    by [] none = absurd (some none)
    by (x ∷ xs) is =
        let begin = subst (λ (ys : List Tracked). IsBeginning p (shipment_at p k) (settled_legs day k ++ legs_of ys)) is (begin-tracked p day k are) in
        let goes = begin-goes p (shipment_at p k) (settled_legs day k) (tracked_leg x) (legs_of xs) begin in
        rw (ne_eqb (place_of p day k) (shipment_at p k).to goes.away) refl

-- so the shipments of promised legs are left
pub promised-left : (p : Problem) (day : Day) → AreTracked p day → AllByRecursion (λ (x : Tracked). list_has (left_numbers p day) x.kept.shipment ≡ true) (promised_among day.time day.legs)
promised-left p day are =
    let among : List Tracked = promised_among day.time day.legs in
    let exist : AllByRecursion (λ (x : Tracked). x.kept.shipment < length p.shipments) day.legs =
    AllByRecursion-from_map (λ (y : Kept). y.shipment < length p.shipments) kept_in_tracked day.legs
    (AllByRecursion-from_get_or (λ (y : Kept). y.shipment < length p.shipments) (map kept_in_tracked day.legs) no_kept (λ i lt. (are.kept i lt).shipment)) in
    let here : AllByRecursion (λ (x : Tracked). x.kept.shipment < length p.shipments) among = among-each (λ (x : Tracked). x.kept.shipment < length p.shipments) day.time day.legs exist in
    AllByRecursion-weaker (λ (x : Tracked). (x.kept.shipment < length p.shipments) × (tracked_of among x.kept.shipment ≢ [])) (λ (x : Tracked). list_has (left_numbers p day) x.kept.shipment ≡ true)
    (λ x both.
    let k : ℕ = x.kept.shipment in
    passing-has (is_left p day) (length p.shipments) k both.0
    (left-promised p day k are (λ e. both.1 (tracked-promised day.time day.legs k ∙ e)))) among
    (AllByRecursion-both (λ (x : Tracked). x.kept.shipment < length p.shipments) (λ (x : Tracked). tracked_of among x.kept.shipment ≢ []) among here (own-some among))

-- the kept legs of a shipment of what is left, under its new number
kept_of-renumbered : (numbers : List ℕ) (j : ℕ) (legs : List Tracked) → AllPairs (λ a b. a < b) numbers → j < length numbers →
    AllByRecursion (λ (x : Tracked). list_has numbers x.kept.shipment ≡ true) legs → kept_of (map (renumbered numbers) legs) j ≡ legs_of (tracked_of legs (get_or numbers j 0))
kept_of-renumbered numbers j [] up lt has = refl
kept_of-renumbered numbers j (x ∷ legs) up lt has =
    let k : ℕ = get_or numbers j 0 in
    let later : kept_of (map (renumbered numbers) legs) j ≡ legs_of (tracked_of legs k) = kept_of-renumbered numbers j legs up lt has.1 in
    ⊎_elim
    (λ (same : (nat_eq x.kept.shipment k ≡ true) × (x.kept.shipment ≡ k)).
    let there : place_in numbers x.kept.shipment ≡ j = ap (place_in numbers) same.1 ∙ place_in-get_or numbers j 0 up lt in
    rw (eq-eqb (place_in numbers x.kept.shipment) j there, same.0) (ap (λ (ls : List Leg). tracked_leg x ∷ ls) later))
    (λ (other : (nat_eq x.kept.shipment k ≡ false) × (x.kept.shipment ≢ k)).
    let apart : place_in numbers x.kept.shipment ≢ j =
    λ e. other.1 (sym ((get_or-place_in numbers x.kept.shipment up has.0).1 0) ∙ ap (λ i. get_or numbers i 0) e) in
    rw (ne_eqb (place_in numbers x.kept.shipment) j apart, other.0) later)
    (eqb_tells x.kept.shipment k)

-- so they are the promised legs of the shipment
pub kept_of-left : (p : Problem) (day : Day) (j : ℕ) → AreTracked p day → j < length (left_numbers p day) →
    kept_of (left_kept p day) j ≡ legs_of (promised_of day (get_or (left_numbers p day) j 0))
kept_of-left p day j are lt =
    let numbers : List ℕ = left_numbers p day in
    kept_of-renumbered numbers j (promised_among day.time day.legs) (passing-up (is_left p day) (length p.shipments)) lt (promised-left p day are)
    ∙ ap legs_of (tracked-promised day.time day.legs (get_or numbers j 0))

-- the shipment of what is left with a number
pub shipment-left : (p : Problem) (day : Day) (j : ℕ) → j < length (left_numbers p day) → shipment_at (left_problem p day) j ≡ moved p day (get_or (left_numbers p day) j 0)
shipment-left p day j lt = get_or-map (moved p day) (left_numbers p day) j 0 no_shipment lt

-- the kept legs of what is left can be kept
pub AreKept-left : (p : Problem) (day : Day) → AreTracked p day → AreKept (left_problem p day) (left_kept p day)
AreKept-left p day are = AreKept-from_beginnings (left_problem p day) (left_kept p day) exist begins
  where
    long : length (map (moved p day) (left_numbers p day)) ≡ length (left_numbers p day)
    long = length-map (left_numbers p day) (moved p day)

    exist : AllByRecursion (λ (x : Kept). x.shipment < length (map (moved p day) (left_numbers p day))) (left_kept p day)
    exist =
        AllByRecursion-map (λ (x : Kept). x.shipment < length (map (moved p day) (left_numbers p day))) (renumbered (left_numbers p day)) (promised_among day.time day.legs)
        (AllByRecursion-weaker (λ (x : Tracked). list_has (left_numbers p day) x.kept.shipment ≡ true)
        (λ (x : Tracked). place_in (left_numbers p day) x.kept.shipment < length (map (moved p day) (left_numbers p day)))
        (λ x has. omega (arith, (get_or-place_in (left_numbers p day) x.kept.shipment (passing-up (is_left p day) (length p.shipments)) has).0, long)) (promised_among day.time day.legs) (promised-left p day are))

    begins : (j : ℕ) → j < length (map (moved p day) (left_numbers p day)) → IsBeginning (left_problem p day) (shipment_at (left_problem p day) j) (kept_of (left_kept p day) j)
    begins j lt =
        let there : j < length (left_numbers p day) = omega (arith, lt, long) in
        let k : ℕ = get_or (left_numbers p day) j 0 in
        let begin : IsBeginning p (moved p day k) (legs_of (promised_of day k)) =
        begin-later p (shipment_at p k) (moved p day k) (settled_legs day k) (legs_of (promised_of day k)) refl refl (begin-tracked p day k are) in
        subst (λ (s : Shipment). IsBeginning (left_problem p day) s (kept_of (left_kept p day) j)) (sym (shipment-left p day j there))
        (subst (IsBeginning (left_problem p day) (moved p day k)) (sym (kept_of-left p day j are there)) (begin-same p (map (moved p day) (left_numbers p day)) (moved p day k) (legs_of (promised_of day k)) begin))
