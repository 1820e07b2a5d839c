-- What is found among shares and weights in order is what a search from the first one on finds.
use Rattle.std.proofs.Common.{◌≡◌, ℕ, zero, suc, ◌<◌, ◌≤◌, true, false, ◌&&◌, List, [], ◌∷◌, length, get_or, ⊎_elim, ◌⊎◌, refl, sym, ◌∙◌, subst, arith}
use Rattle.std.specs.Prelude.{nat_eq, nat_lt, Some, None, AllPairs}
use Rattle.std.specs.List.Sorted.{IsPartitionedBy, IsPartitionPoint, IsNonDecreasingBy}
use Rattle.std.proofs.lemmas.Bool.{and_from, and_left, and_parts, and_right, both_ways, cases_lt, cases_order, cond-false, cond-true, eq-eqb, eqb-true, false_from_ne_true, lt-ltb, ltb-true, ne_eqb, or_cases, or_left, or_right}
use Rattle.fp_model.specs.declared.parts.Leg.{Leg}
use Rattle.fp_prices.specs.declared.tables.Weight.{Weight}
use Rattle.fp_prices.specs.Prices.{share_for, weight_in}
use Rattle.fp_prices.specs.Searches.{is_share, precedes}
use Rattle.fp_prices.specs.Shares.{ClassShare}
use Rattle.fp_base_lists.specs.Order.{Precedes}

-- a share that precedes a class isn't the class's
before-other : (c : Leg) (share : ClassShare) → precedes c share ≡ true → is_share c share ≡ false
before-other c share before =
    ⊎_elim
    (λ (less : nat_lt share.arc c.arc ≡ true).
    let h : share.arc < c.arc = ltb-true share.arc c.arc less in
    and_left (nat_eq share.arc c.arc) (nat_eq share.point c.depart) (ne_eqb share.arc c.arc (λ e. absurd (omega arith))))
    (λ (later : nat_eq share.arc c.arc && nat_lt share.point c.depart ≡ true).
    let h : share.point < c.depart = ltb-true share.point c.depart (and_parts (nat_eq share.arc c.arc) (nat_lt share.point c.depart) later).1 in
    and_right (nat_eq share.arc c.arc) (nat_eq share.point c.depart) (ne_eqb share.point c.depart (λ e. absurd (omega arith))))
    (or_cases (nat_lt share.arc c.arc) (nat_eq share.arc c.arc && nat_lt share.point c.depart) before)

-- of two shares in order the first precedes a class where the second does
before-too : (c : Leg) (s t : ClassShare) → Precedes s.arc s.point t.arc t.point → precedes c t ≡ true → precedes c s ≡ true
before-too c s t order before =
    ⊎_elim
    (λ (less : nat_lt t.arc c.arc ≡ true).
    let h : t.arc < c.arc = ltb-true t.arc c.arc less in
    or_left (nat_lt s.arc c.arc) (nat_eq s.arc c.arc && nat_lt s.point c.depart)
    (lt-ltb s.arc c.arc (⊎_elim (λ (a : s.arc < t.arc). let r : s.arc < c.arc = omega arith in r) (λ (a : (s.arc ≡ t.arc) × (s.point < t.point)). let r : s.arc < c.arc = omega arith in r) order)))
    (λ (later : nat_eq t.arc c.arc && nat_lt t.point c.depart ≡ true).
    let parts = and_parts (nat_eq t.arc c.arc) (nat_lt t.point c.depart) later in
    let same : t.arc ≡ c.arc = eqb-true t.arc c.arc parts.0 in
    let h : t.point < c.depart = ltb-true t.point c.depart parts.1 in
    ⊎_elim
    (λ (a : s.arc < t.arc). or_left (nat_lt s.arc c.arc) (nat_eq s.arc c.arc && nat_lt s.point c.depart) (lt-ltb s.arc c.arc (omega arith)))
    (λ (a : (s.arc ≡ t.arc) × (s.point < t.point)).
    or_right (nat_lt s.arc c.arc) (nat_eq s.arc c.arc && nat_lt s.point c.depart)
    (and_from (nat_eq s.arc c.arc) (nat_lt s.point c.depart) (eq-eqb s.arc c.arc (a.0 ∙ same)) (lt-ltb s.point c.depart (omega arith))))
    order)
    (or_cases (nat_lt t.arc c.arc) (nat_eq t.arc c.arc && nat_lt t.point c.depart) before)

-- shares in order are parted by what precedes a class
pub shares-parted : (c : Leg) (table : List ClassShare) → AllPairs (λ (s t : ClassShare). Precedes s.arc s.point t.arc t.point) table → IsPartitionedBy (precedes c) table
shares-parted c table ascend i j d le h before =
    ⊎_elim
    (λ (less : i < j). before-too c (get_or table i d) (get_or table j d) (ascend i j d less h) before)
    (λ (more : j ≤ i). let same : i ≡ j = omega arith in subst (λ (n : ℕ). precedes c (get_or table n d) ≡ true) (sym same) before)
    (cases_lt i j)

-- the first share that is the class's is the one at a place where those before are not
share_for-at : (c : Leg) (table : List ClassShare) (place : ℕ) (d : ClassShare) → place < length table → ((k : ℕ) → k < place → is_share c (get_or table k d) ≡ false) →
    is_share c (get_or table place d) ≡ true → share_for table c ≡ Some (get_or table place d)
share_for-at c [] place d inside before here = absurd (omega arith)
share_for-at c (s ∷ table) zero d inside before here = cond-true (is_share c s) (Some s) (share_for table c) here
share_for-at c (s ∷ table) (suc place) d inside before here =
    cond-false (is_share c s) (Some s) (share_for table c) (before 0 (omega arith)) ∙ share_for-at c table place d (omega arith) (λ k h. before (suc k) (omega arith)) here

-- there is none where none is the class's
share_for-none : (c : Leg) (table : List ClassShare) (d : ClassShare) → ((k : ℕ) → k < length table → is_share c (get_or table k d) ≡ false) → share_for table c ≡ None
share_for-none c [] d none = refl
share_for-none c (s ∷ table) d none =
    cond-false (is_share c s) (Some s) (share_for table c) (none 0 (omega arith)) ∙ share_for-none c table d (λ k h. none (suc k) (omega arith))

-- a share after one that is not before a class, and that is not the class's, is not the class's either
after-other : (c : Leg) (s t : ClassShare) → Precedes s.arc s.point t.arc t.point → precedes c s ≡ false → is_share c t ≡ false
after-other c s t order after = false_from_ne_true (is_share c t) (λ is.
    let parts = and_parts (nat_eq t.arc c.arc) (nat_eq t.point c.depart) is in
    let arc : t.arc ≡ c.arc = eqb-true t.arc c.arc parts.0 in
    let point : t.point ≡ c.depart = eqb-true t.point c.depart parts.1 in
    both_ways (precedes c s) after
    (⊎_elim
    (λ (a : s.arc < t.arc). or_left (nat_lt s.arc c.arc) (nat_eq s.arc c.arc && nat_lt s.point c.depart) (lt-ltb s.arc c.arc (omega arith)))
    (λ (a : (s.arc ≡ t.arc) × (s.point < t.point)).
    or_right (nat_lt s.arc c.arc) (nat_eq s.arc c.arc && nat_lt s.point c.depart)
    (and_from (nat_eq s.arc c.arc) (nat_lt s.point c.depart) (eq-eqb s.arc c.arc (a.0 ∙ arc)) (lt-ltb s.point c.depart (omega arith))))
    order))

-- shares up to a place precede a class, and the others do not
abbrev pub AreParted : Leg → List ClassShare → ℕ → Type 0
AreParted c table place = IsPartitionPoint (λ s. precedes c s ≡ true) (λ s. precedes c s ≡ false) table place

pub share-found : (c : Leg) (table : List ClassShare) (place : ℕ) (d : ClassShare) → place < length table → AreParted c table place → is_share c (get_or table place d) ≡ true →
    share_for table c ≡ Some (get_or table place d)
share-found c table place d inside parted here = share_for-at c table place d inside (λ k h. before-other c (get_or table k d) (parted.0 k d (omega arith) h)) here

pub share-missing : (c : Leg) (table : List ClassShare) (place : ℕ) (d : ClassShare) → AllPairs (λ (s t : ClassShare). Precedes s.arc s.point t.arc t.point) table → AreParted c table place →
    (place < length table → is_share c (get_or table place d) ≡ false) → share_for table c ≡ None
share-missing c table place d ascend parted not_here = share_for-none c table d (λ k h.
    ⊎_elim
    (λ (before : k < place). before-other c (get_or table k d) (parted.0 k d (omega arith) before))
    (λ (from : place ≤ k).
    ⊎_elim
    (λ (same : k ≡ place). subst (λ (n : ℕ). is_share c (get_or table n d) ≡ false) (sym same) (not_here (omega arith)))
    (λ (apart : (k < place) ⊎ (place < k)).
    ⊎_elim
    (λ (less : k < place). absurd (omega arith))
    (λ (more : place < k). after-other c (get_or table place d) (get_or table k d) (ascend place k d more h) (parted.1 place d (omega arith) (omega arith)))
    apart)
    (cases_order k place))
    (cases_lt k place))

-- weights in order do not fall
pub weights-rise : (weights : List Weight) → AllPairs (λ (v w : Weight). v.shipment < w.shipment) weights → IsNonDecreasingBy (λ (w : Weight). w.shipment) weights
weights-rise weights ascend i j d le h =
    ⊎_elim
    (λ (less : i < j). omega (arith, ascend i j d less h))
    (λ (more : j ≤ i). let same : i ≡ j = omega arith in rw same (omega arith))
    (cases_lt i j)

-- the weight at a place where those before are of other shipments
pub weight_in-at : (weights : List Weight) (k place : ℕ) (d : Weight) → place < length weights → ((i : ℕ) → i < place → (get_or weights i d).shipment < k) →
    (get_or weights place d).shipment ≡ k → weight_in weights k ≡ (get_or weights place d).w
weight_in-at [] k place d inside before here = absurd (omega arith)
weight_in-at (w ∷ weights) k zero d inside before here = cond-true (nat_eq w.shipment k) w.w (weight_in weights k) (eq-eqb w.shipment k here)
weight_in-at (w ∷ weights) k (suc place) d inside before here =
    let first : w.shipment < k = before 0 (omega arith) in
    cond-false (nat_eq w.shipment k) w.w (weight_in weights k) (ne_eqb w.shipment k (λ e. absurd (omega arith))) ∙
    weight_in-at weights k place d (omega arith) (λ i h. before (suc i) (omega arith)) here

-- no weight where all are of other shipments
pub weight_in-none : (weights : List Weight) (k : ℕ) (d : Weight) → ((i : ℕ) → i < length weights → (get_or weights i d).shipment ≡ k → ⊥) → weight_in weights k ≡ 0
weight_in-none [] k d none = refl
weight_in-none (w ∷ weights) k d none =
    cond-false (nat_eq w.shipment k) w.w (weight_in weights k) (ne_eqb w.shipment k (none 0 (omega arith))) ∙ weight_in-none weights k d (λ i h. none (suc i) (omega arith))
