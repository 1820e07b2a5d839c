-- One more turn: what it adds to counts, and what holds of all turns then.
use Rattle.std.proofs.Common.{◌≡◌, ℕ, ◌+◌, ◌-◌, ◌<◌, ◌≤◌, Bool, true, false, List, [], ◌∷◌, ◌++◌, length, get_or, set, ⊎_elim, refl, sym, ap, ◌∙◌, subst, arith, get_or-set_other, get_or-set_same}
use Rattle.std.specs.Prelude.{◌==◌, nat_lt, All, AllPairs, sum_by, if◌then◌else◌}
use Rattle.std.proofs.lemmas.Bool.{cases_Bool, cases_eq, cond-false, cond-true, eq-eqb, ltb-false, ltb-true, ne_eqb}
use Rattle.std.proofs.lemmas.List.Elements.{All-push, recursion_from_All}
use Rattle.std.proofs.lemmas.List.Quantifiers.{all_pairs_push}
use Rattle.std.proofs.lemmas.List.Sums.{sum_by-append, sum_by-cons}
use Rattle.fp_base_lists.proofs.Sums.{sum_by-const, sum_by-same_each}
use Rattle.fp_fleet.specs.declared.fleets.Turn.{Turn}
use Rattle.fp_fleet.specs.Sweeps.{AddsTurn}

-- an element is put at the end where it counts something
abbrev pub with_counted : {X : Type 0} → ℕ → List X → X → List X
with_counted n old t = if nat_lt 0 n then old ++ t ∷ [] else old

pub sum-added : {X : Type 0} (n : ℕ) (f : X → ℕ) (t : X) (old new : List X) → new ≡ with_counted n old t → (n ≡ 0 → f t ≡ 0) → sum_by f new ≡ sum_by f old + f t
sum-added n f t old new is none =
    ⊎_elim
    (λ (some : nat_lt 0 n ≡ true).
    let e : new ≡ old ++ t ∷ [] = is ∙ cond-true (nat_lt 0 n) (old ++ t ∷ []) old some in
    let last : sum_by f (t ∷ []) ≡ f t + sum_by f [] = sum_by-cons f t [] in
    let empty : sum_by f [] ≡ 0 = refl in
    omega (arith, ap (sum_by f) e, sum_by-append f old (t ∷ []), last, empty))
    (λ (zero : nat_lt 0 n ≡ false).
    let e : new ≡ old = is ∙ cond-false (nat_lt 0 n) (old ++ t ∷ []) old zero in
    let few : n ≤ 0 = ltb-false 0 n zero in
    omega (arith, ap (sum_by f) e, none (omega (arith, few))))
    (cases_Bool (nat_lt 0 n))

pub All-added : {X : Type 0} (n : ℕ) (P : X → Type 0) (t : X) (old new : List X) → new ≡ with_counted n old t → All P old → (0 < n → P t) → All P new
All-added n P t old new is all one =
    ⊎_elim
    (λ (some : nat_lt 0 n ≡ true).
    let e : new ≡ old ++ t ∷ [] = is ∙ cond-true (nat_lt 0 n) (old ++ t ∷ []) old some in
    subst (All P) (sym e) (All-push P old t all (one (ltb-true 0 n some))))
    (λ (zero : nat_lt 0 n ≡ false). subst (All P) (sym (is ∙ cond-false (nat_lt 0 n) (old ++ t ∷ []) old zero)) all)
    (cases_Bool (nat_lt 0 n))

pub AllPairs-added : {X : Type 0} (n : ℕ) (R : X → X → Type 0) (t : X) (old new : List X) → new ≡ with_counted n old t → AllPairs R old →
    (0 < n → (k : ℕ) (d : X) → k < length old → R (get_or old k d) t) → AllPairs R new
AllPairs-added n R t old new is pairs one =
    ⊎_elim
    (λ (some : nat_lt 0 n ≡ true).
    let e : new ≡ old ++ t ∷ [] = is ∙ cond-true (nat_lt 0 n) (old ++ t ∷ []) old some in
    subst (AllPairs R) (sym e) (all_pairs_push R old t pairs (one (ltb-true 0 n some))))
    (λ (zero : nat_lt 0 n ≡ false). subst (AllPairs R) (sym (is ∙ cond-false (nat_lt 0 n) (old ++ t ∷ []) old zero)) pairs)
    (cases_Bool (nat_lt 0 n))

-- what was idle is still idle or has turned
pub idle-added : (t : Turn) (old new : List Turn) (idle idle_new : List ℕ) (l : ℕ) → AddsTurn t old new idle idle_new → t.before < length idle →
    get_or idle_new l 0 + (if t.before == l then t.count else 0) ≡ get_or idle l 0
idle-added t old new idle idle_new l adds inside =
    let k : ℕ = t.before in
    let left : ℕ = get_or idle k 0 - t.count in
    let there : get_or idle_new l 0 ≡ get_or (set idle k left) l 0 = ap (λ (xs : List ℕ). get_or xs l 0) adds.idle in
    ⊎_elim
    (λ (same : l ≡ k).
    let now : get_or (set idle k left) l 0 ≡ left = ap (λ (j : ℕ). get_or (set idle k left) j 0) same ∙ get_or-set_same idle k left 0 inside in
    omega (arith, there, now, adds.enough, ap (λ (j : ℕ). get_or idle j 0) same, cond-true (k == l) t.count 0 (eq-eqb k l (sym same))))
    (λ (other : l ≡ k → ⊥). omega (arith, there, get_or-set_other idle k l left 0 other, cond-false (k == l) t.count 0 (ne_eqb k l (λ e. other (sym e)))))
    (cases_eq l k)

pub idle-less : (t : Turn) (old new : List Turn) (idle idle_new : List ℕ) (l : ℕ) → AddsTurn t old new idle idle_new → t.before < length idle →
    get_or idle_new l 0 ≤ get_or idle l 0
idle-less t old new idle idle_new l adds inside = omega (arith, idle-added t old new idle idle_new l adds inside)

pub kept-zero : (b : Bool) (n : ℕ) → n ≡ 0 → (if b then n else 0) ≡ 0
kept-zero true n zero = zero
kept-zero false n zero = refl

-- a sum of nothing
pub sum-none : {X : Type 0} (f : X → ℕ) (xs : List X) → All (λ x. f x ≡ 0) xs → sum_by f xs ≡ 0
sum-none f xs all = omega (arith, sum_by-same_each f (λ x. 0) xs (recursion_from_All (λ x. f x ≡ 0) xs all), sum_by-const 0 xs)
