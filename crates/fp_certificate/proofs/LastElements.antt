-- The last element of a list, by its place.
use Rattle.std.proofs.Common.{◌≡◌, ◌≢◌, ◌∙◌, ◌-◌, ◌<◌, Bool, false, List, [], ◌∷◌, length, get_or, refl, sym, ap, arith}
use Rattle.std.specs.Prelude.{Result, Ok, Err, OnOk, suc}
use Rattle.std.proofs.Math.ListN.{set}
use Rattle.std.proofs.lemmas.Bool.{eqb-false}
use Rattle.fp_records.specs.Fields.{is_empty}
use Rattle.fp_certificate.specs.Tables.{lacks_last, last_is, with_last}

-- a write at the last place
pub with_last-set : {A : Type 0} (f : A → A) (xs : List A) (d : A) → 0 < length xs → set xs (length xs - 1) (f (get_or xs (length xs - 1) d)) ≡ with_last f xs
with_last-set f [] d some = absurd (omega arith)
with_last-set f (x ∷ []) d some = refl
with_last-set f (x ∷ y ∷ xs) d some =
    let e : length (x ∷ y ∷ xs) - 1 ≡ suc (length (y ∷ xs) - 1) = omega arith in
    rw e (ap (λ (ys : List _). x ∷ ys) (with_last-set f (y ∷ xs) d (omega arith)))

-- the last list decides whether an element is missing
pub lacks_last-last : {A : Type 0} (lists : List (List A)) (d : List A) → 0 < length lists → lacks_last lists ≡ is_empty (get_or lists (length lists - 1) d)
lacks_last-last [] d some = absurd (omega arith)
lacks_last-last (list ∷ []) d some = refl
lacks_last-last (list ∷ next ∷ lists) d some =
    let e : length (list ∷ next ∷ lists) - 1 ≡ suc (length (next ∷ lists) - 1) = omega arith in
    rw e (lacks_last-last (next ∷ lists) d (omega arith))

-- the last element decides a test of the last one
pub last_is-last : {A : Type 0} (test : A → Bool) (xs : List A) (d : A) → 0 < length xs → last_is test xs ≡ test (get_or xs (length xs - 1) d)
last_is-last test [] d some = absurd (omega arith)
last_is-last test (x ∷ []) d some = refl
last_is-last test (x ∷ y ∷ xs) d some =
    let e : length (x ∷ y ∷ xs) - 1 ≡ suc (length (y ∷ xs) - 1) = omega arith in
    rw e (last_is-last test (y ∷ xs) d (omega arith))

-- where no element is missing, there is a list, and the last one has an element
pub has-list : {A : Type 0} (lists : List (List A)) → lacks_last lists ≡ false → 0 < length lists
has-list [] h = cc h
has-list (list ∷ lists) h = omega arith

pub has-element : {A : Type 0} (lists : List (List A)) (d : List A) → lacks_last lists ≡ false → 0 < length (get_or lists (length lists - 1) d)
has-element lists d h =
    let last = get_or lists (length lists - 1) d in
    let some : length last ≢ 0 = eqb-false (length last) 0 (sym (lacks_last-last lists d (has-list lists h)) ∙ h) in
    omega (arith, some)

-- what a function made of the last element is written at its place
pub made-last : {A T E : Type 0} (r : Result T E) (f : A → A) (xs : List A) (d new : A) → 0 < length xs
    → OnOk r (new ≡ f (get_or xs (length xs - 1) d)) → OnOk r (set xs (length xs - 1) new ≡ with_last f xs)
made-last (Ok t) f xs d new some h = ap (λ (x : _). set xs (length xs - 1) x) h ∙ with_last-set f xs d some
made-last (Err e) f xs d new some h = h
