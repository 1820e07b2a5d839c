-- The legs that go by each line, list by list.
use Rattle.std.proofs.Common.{◌≡◌, ◌≢◌, ◌∙◌, ℕ, zero, suc, ◌+◌, ◌<◌, ◌≤◌, Bool, true, false, cond, List, [], ◌∷◌, ◌++◌, length, drop, get_or, set, ⊎_elim, refl, sym, ap, ap₂, subst, arith, append_assoc, add-one, eqb-true}
use Rattle.std.specs.Prelude.{nat_eq}
use Rattle.std.specs.declared.alloc.Global.{Global}
use Rattle.std.specs.declared.vec.Vec.{Vec}
use Rattle.std.proofs.Math.Seq.{drop-cons}
use Rattle.std.proofs.lemmas.Bool.{cases_Bool, eqb-false}
use Rattle.std.proofs.Math.ListN.{drop_of_length-le}
use Rattle.std.proofs.lemmas.List.{append-nil, length-map}
use Rattle.fp_base_lists.specs.Vectors.{lists_of}
use Rattle.fp_model.specs.declared.parts.Member.{Member}
use Rattle.fp_yard.specs.Freight.{freight_at, legs_by, members_by}

-- a list that was changed, and another one
set-own : (freight : List (Vec Member Global)) (i : ℕ) (old new : Vec Member Global) (m : Member) → i < length freight → old ≡ get_or freight i old →
    new.items ≡ old.items ++ m ∷ [] → freight_at (lists_of (set freight i new)) i ≡ freight_at (lists_of freight) i ++ m ∷ []
set-own [] i old new m lt is more = absurd (omega (arith, lt))
set-own (f ∷ freight) zero old new m lt is more = more ∙ ap (λ (v : Vec Member Global). v.items ++ m ∷ []) is
set-own (f ∷ freight) (suc i) old new m lt is more = set-own freight i old new m (omega (arith, lt)) is more

set-other : (freight : List (Vec Member Global)) (i l : ℕ) (new : Vec Member Global) → i ≢ l → freight_at (lists_of (set freight i new)) l ≡ freight_at (lists_of freight) l
set-other [] i l new apart = refl
set-other (f ∷ freight) zero zero new apart = absurd (apart refl)
set-other (f ∷ freight) zero (suc l) new apart = refl
set-other (f ∷ freight) (suc i) zero new apart = refl
set-other (f ∷ freight) (suc i) (suc l) new apart = set-other freight i l new (λ e. apart (ap (λ (n : ℕ). suc n) e))

-- one more leg at one of the lists
pub freight-set : (freight : List (Vec Member Global)) (i : ℕ) (old new : Vec Member Global) (m : Member) → i < length freight → old ≡ get_or freight i old →
    new.items ≡ old.items ++ m ∷ [] → (l : ℕ) → freight_at (lists_of (set freight i new)) l ≡ freight_at (lists_of freight) l ++ cond (nat_eq i l) (m ∷ []) []
freight-set freight i old new m lt is more l =
    ⊎_elim
    (λ (yes : nat_eq i l ≡ true).
    subst (λ (k : ℕ). freight_at (lists_of (set freight i new)) k ≡ freight_at (lists_of freight) k ++ m ∷ []) (eqb-true i l yes) (set-own freight i old new m lt is more)
    ∙ ap (λ (b : Bool). freight_at (lists_of freight) l ++ cond b (m ∷ []) []) (sym yes))
    (λ (no : nat_eq i l ≡ false).
    set-other freight i l new (eqb-false i l no) ∙ sym (append-nil (freight_at (lists_of freight) l))
    ∙ ap (λ (b : Bool). freight_at (lists_of freight) l ++ cond b (m ∷ []) []) (sym no))
    (cases_Bool (nat_eq i l))

-- a leg moved from those that are left to those that are listed
pub one-leg : (line k leg x : ℕ) (journey : List ℕ) (old new : List (List Member)) (whole : List Member) → leg < length journey → x ≡ get_or journey leg 0 →
    freight_at new line ≡ freight_at old line ++ cond (nat_eq x line) (record { shipment = k; leg = leg } ∷ []) [] →
    freight_at old line ++ legs_by line k leg (drop leg journey) ≡ whole →
    freight_at new line ++ legs_by line k (leg + 1) (drop (leg + 1) journey) ≡ whole
one-leg line k leg x journey old new whole lt is more before =
    let here : List Member = cond (nat_eq x line) (record { shipment = k; leg = leg } ∷ []) [] in
    let rest : List Member = legs_by line k (leg + 1) (drop (leg + 1) journey) in
    let next : legs_by line k leg (drop leg journey) ≡ here ++ rest =
    ap (legs_by line k leg) (drop-cons journey leg 0 lt)
    ∙ ap₂ (λ (y : ℕ) (left : List ℕ). cond (nat_eq y line) (record { shipment = k; leg = leg } ∷ []) [] ++ legs_by line k (leg + 1) left) (sym is) (ap (λ (n : ℕ). drop n journey) (sym (add-one leg))) in
    ap (λ (ms : List Member). ms ++ rest) more ∙ append_assoc (freight_at old line) here rest ∙ ap (λ (ms : List Member). freight_at old line ++ ms) (sym next) ∙ before

-- the legs of a journey moved so
pub one-journey : (line k : ℕ) (journeys : List (List ℕ)) (old new : List (List Member)) (journey : List ℕ) (whole : List Member) → k < length journeys →
    journey ≡ get_or journeys k [] → freight_at new line ≡ freight_at old line ++ legs_by line k 0 journey →
    freight_at old line ++ members_by line k (drop k journeys) ≡ whole → freight_at new line ++ members_by line (k + 1) (drop (k + 1) journeys) ≡ whole
one-journey line k journeys old new journey whole lt is more before =
    let here : List Member = legs_by line k 0 journey in
    let rest : List Member = members_by line (k + 1) (drop (k + 1) journeys) in
    let next : members_by line k (drop k journeys) ≡ here ++ rest =
    ap (members_by line k) (drop-cons journeys k [] lt)
    ∙ ap₂ (λ (j : List ℕ) (left : List (List ℕ)). legs_by line k 0 j ++ members_by line (k + 1) left) (sym is) (ap (λ (n : ℕ). drop n journeys) (sym (add-one k))) in
    ap (λ (ms : List Member). ms ++ rest) more ∙ append_assoc (freight_at old line) here rest ∙ ap (λ (ms : List Member). freight_at old line ++ ms) (sym next) ∙ before

-- the list of a vector among vectors
pub journey-in : (journeys : List (Vec ℕ Global)) (i : ℕ) (v : Vec ℕ Global) (journey : List ℕ) → i < length journeys → v ≡ get_or journeys i v → journey ≡ v.items →
    journey ≡ get_or (lists_of journeys) i []
journey-in [] i v journey lt is items = absurd (omega (arith, lt))
journey-in (j ∷ journeys) zero v journey lt is items = items ∙ ap (λ (w : Vec ℕ Global). w.items) is
journey-in (j ∷ journeys) (suc i) v journey lt is items = journey-in journeys i v journey (omega (arith, lt)) is items

-- the lists of what is left
pub lists_of-drop : (journeys : List (Vec ℕ Global)) (n : ℕ) → lists_of (drop n journeys) ≡ drop n (lists_of journeys)
lists_of-drop journeys zero = refl
lists_of-drop [] (suc n) = refl
lists_of-drop (j ∷ journeys) (suc n) = lists_of-drop journeys n

pub length-lists : (journeys : List (Vec ℕ Global)) → length (lists_of journeys) ≡ length journeys
length-lists journeys = length-map journeys (λ (v : Vec ℕ Global). v.items)

-- where no leg is left, or no journey, all are listed
pub all-legs : (line k leg : ℕ) (journey : List ℕ) (lists : List (List Member)) (whole : List Member) → length journey ≤ leg →
    freight_at lists line ++ legs_by line k leg (drop leg journey) ≡ whole → freight_at lists line ≡ whole
all-legs line k leg journey lists whole over all =
    sym (append-nil (freight_at lists line)) ∙ ap (λ (lines : List ℕ). freight_at lists line ++ legs_by line k leg lines) (sym (drop_of_length-le journey over)) ∙ all

pub all-journeys : (line k : ℕ) (journeys : List (Vec ℕ Global)) (lists : List (List Member)) (whole : List Member) → length journeys ≤ k →
    freight_at lists line ++ members_by line k (lists_of (drop k journeys)) ≡ whole → freight_at lists line ≡ whole
all-journeys line k journeys lists whole over all =
    sym (append-nil (freight_at lists line)) ∙ ap (λ (js : List (Vec ℕ Global)). freight_at lists line ++ members_by line k (lists_of js)) (sym (drop_of_length-le journeys over)) ∙ all
