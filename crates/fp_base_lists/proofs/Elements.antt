-- What holds of each element of a list, or of some element.
use Rattle.std.proofs.Common.{ℕ, zero, suc, ◌<◌, List, [], ◌∷◌, ◌++◌, length, map, get_or, ⊎_elim, inl, inr, arith}
use Rattle.std.specs.List.{AllByRecursion}
use Rattle.fp_base_lists.specs.Elements.{AnyByRecursion}

-- P of each element, weakened
pub AllByRecursion-weaker : {X : Type 0} (P Q : X → Type 0) → ((x : X) → P x → Q x) → (xs : List X) →
    AllByRecursion P xs → AllByRecursion Q xs
AllByRecursion-weaker P Q weaker [] all = tt
AllByRecursion-weaker P Q weaker (x ∷ xs) all = (weaker x all.0, AllByRecursion-weaker P Q weaker xs all.1)

-- what holds of everything holds of each element
pub AllByRecursion-always : {X : Type 0} (P : X → Type 0) → ((x : X) → P x) → (xs : List X) → AllByRecursion P xs
AllByRecursion-always P each [] = tt
AllByRecursion-always P each (x ∷ xs) = (each x, AllByRecursion-always P each xs)

-- both of each element
pub AllByRecursion-both : {X : Type 0} (P Q : X → Type 0) (xs : List X) → AllByRecursion P xs → AllByRecursion Q xs →
    AllByRecursion (λ x. P x × Q x) xs
AllByRecursion-both P Q [] ps qs = tt
AllByRecursion-both P Q (x ∷ xs) ps qs = ((ps.0, qs.0), AllByRecursion-both P Q xs ps.1 qs.1)

-- P of each element of two lists, one after the other
pub AllByRecursion-append : {X : Type 0} (P : X → Type 0) (xs ys : List X) → AllByRecursion P xs → AllByRecursion P ys →
    AllByRecursion P (xs ++ ys)
AllByRecursion-append P [] ys all more = more
AllByRecursion-append P (x ∷ xs) ys all more = (all.0, AllByRecursion-append P xs ys all.1 more)

-- P of each element and of one more
pub AllByRecursion-push : {X : Type 0} (P : X → Type 0) (xs : List X) (x : X) → AllByRecursion P xs → P x →
    AllByRecursion P (xs ++ x ∷ [])
AllByRecursion-push P xs x all one = AllByRecursion-append P xs (x ∷ []) all (one, tt)

-- P of each value of f
pub AllByRecursion-map : {X Y : Type 0} (P : Y → Type 0) (f : X → Y) (xs : List X) → AllByRecursion (λ x. P (f x)) xs →
    AllByRecursion P (map f xs)
AllByRecursion-map P f [] all = tt
AllByRecursion-map P f (x ∷ xs) all = (all.0, AllByRecursion-map P f xs all.1)

-- and back
pub AllByRecursion-from_map : {X Y : Type 0} (P : Y → Type 0) (f : X → Y) (xs : List X) → AllByRecursion P (map f xs) →
    AllByRecursion (λ x. P (f x)) xs
AllByRecursion-from_map P f [] all = tt
AllByRecursion-from_map P f (x ∷ xs) all = (all.0, AllByRecursion-from_map P f xs all.1)

-- P at a place, from P of each element
pub AllByRecursion-get_or : {X : Type 0} (P : X → Type 0) (xs : List X) (i : ℕ) (d : X) → AllByRecursion P xs →
    i < length xs → P (get_or xs i d)
AllByRecursion-get_or P [] i d all lt = absurd (omega (arith, lt))
AllByRecursion-get_or P (x ∷ xs) zero d all lt = all.0
AllByRecursion-get_or P (x ∷ xs) (suc i) d all lt = AllByRecursion-get_or P xs i d all.1 (omega (arith, lt))

-- P of each element, from P at each place
pub AllByRecursion-from_get_or : {X : Type 0} (P : X → Type 0) (xs : List X) (d : X) →
    ((i : ℕ) → i < length xs → P (get_or xs i d)) → AllByRecursion P xs
AllByRecursion-from_get_or P [] d each = tt
AllByRecursion-from_get_or P (x ∷ xs) d each =
    (each 0 (omega arith), AllByRecursion-from_get_or P xs d (λ i lt. each (suc i) (omega (arith, lt))))

-- what holds of each element and of what stands for a missing one holds at every number
pub AllByRecursion-get_or_default : {X : Type 0} (P : X → Type 0) (xs : List X) (i : ℕ) (d : X) → AllByRecursion P xs →
    P d → P (get_or xs i d)
AllByRecursion-get_or_default P [] i d all default = default
AllByRecursion-get_or_default P (x ∷ xs) zero d all default = all.0
AllByRecursion-get_or_default P (x ∷ xs) (suc i) d all default = AllByRecursion-get_or_default P xs i d all.1 default

-- P of some element, weakened
pub AnyByRecursion-weaker : {X : Type 0} (P Q : X → Type 0) → ((x : X) → P x → Q x) → (xs : List X) →
    AnyByRecursion P xs → AnyByRecursion Q xs
AnyByRecursion-weaker P Q weaker [] any = any
AnyByRecursion-weaker P Q weaker (x ∷ xs) any =
    ⊎_elim (λ (here : P x). inl (weaker x here)) (λ (later : AnyByRecursion P xs). inr (AnyByRecursion-weaker P Q weaker xs later)) any

-- where some element is one and each is the other, one is both
pub AnyByRecursion-all : {X : Type 0} (P Q : X → Type 0) (goal : Type 0) → ((x : X) → P x → Q x → goal) → (xs : List X) →
    AnyByRecursion P xs → AllByRecursion Q xs → goal
AnyByRecursion-all P Q goal h [] any all = absurd any
AnyByRecursion-all P Q goal h (x ∷ xs) any all =
    ⊎_elim (λ (here : P x). h x here all.0) (λ (later : AnyByRecursion P xs). AnyByRecursion-all P Q goal h xs later all.1) any
