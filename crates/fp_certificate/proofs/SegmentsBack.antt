-- The lines of each part, one after the other, give the part.
use Rattle.std.proofs.Common.{◌≡◌, ℕ, ◌+◌, ◌≤◌, true, false, List, [], ◌∷◌, ◌++◌, map, refl, arith}
use Rattle.std.specs.Prelude.{Ok, Some}
use Rattle.std.specs.List.{AllByRecursion, fold}
use Rattle.std.proofs.lemmas.Bool.{le-ltb}
use Rattle.fp_model.specs.Problem.{Problem}
use Rattle.fp_certificate_lines.specs.declared.certificates.Answer.{Answer}
use Rattle.fp_certificate.specs.declared.drafts.Draft.{Draft}
use Rattle.fp_certificate.specs.declared.lines.sections.Section.{Section}
use Rattle.fp_certificate.specs.declared.lines.sections.Section.TheVariants as section
use Rattle.fp_certificate.specs.Sections.{has_ended_at, is_after_answer, is_forbidden, is_misplaced_after, place_of}
use Rattle.fp_certificate.specs.Reading.{certificate_from}
use Rattle.fp_certificate_lines.specs.Statements.{Statement}
use Rattle.fp_certificate.proofs.LinesBack.{IsStep}

-- a draft with a statement so far and the section of the latest line
abbrev pub at : Statement → Section → Draft
at s g = record { certificate = s; latest = Some g }

-- from a statement, and a latest line of a section up to a place, the records that are left give a
-- certificate
abbrev pub ReadsTo : Problem → ℕ → List (List (List ℕ)) → Statement → Statement → Type 0
ReadsTo p k rest s c = (g : Section) (ordinal : ℕ) → place_of g ≤ k → certificate_from p (at s g) ordinal rest ≡ Ok c

-- no section before the end is that of the end
pub has_ended_at-before_end : (g : Section) → place_of g ≤ 7 → has_ended_at (Some g) ≡ false
has_ended_at-before_end section.Answer le = refl
has_ended_at-before_end section.Scale le = refl
has_ended_at-before_end section.Unit le = refl
has_ended_at-before_end section.Legs le = refl
has_ended_at-before_end section.Trucks le = refl
has_ended_at-before_end section.Points le = refl
has_ended_at-before_end section.Tables le = refl
has_ended_at-before_end section.Tree le = refl
has_ended_at-before_end section.End le = absurd (omega arith)

-- a line that is not before the latest, and is not forbidden, can stand
pub is_misplaced_after-later : (g h : Section) (a : Answer) → is_after_answer h ≡ true → place_of g ≤ place_of h → is_forbidden a h ≡ false → is_misplaced_after (Some g) a h ≡ false
is_misplaced_after-later g h a after le free = rw (after, le-ltb (place_of h) (place_of g) le, free) refl

-- one line
pub one-line : (p : Problem) (k : ℕ) (h : Section) (fields : List (List ℕ)) (s t c : Statement) (rest : List (List (List ℕ))) → place_of h ≤ k
    → ((g : Section) → place_of g ≤ k → IsStep p (at s g) fields (at t h)) → ReadsTo p k rest t c → ReadsTo p k (fields ∷ rest) s c
one-line p k h fields s t c rest small step after g ordinal le =
    let now = step g le in
    rw (now.clean, now.gives) (after h (ordinal + 1) small)

-- the lines of a list, where each line adds an element
pub segment : {X : Type 0} (p : Problem) (k : ℕ) (h : Section) (fields : X → List (List ℕ)) (add : Statement → X → Statement) (Fits : Statement → X → Type 0)
    → place_of h ≤ k
    → ((s : Statement) (g : Section) (x : X) → place_of g ≤ k → Fits s x → IsStep p (at s g) (fields x) (at (add s x) h))
    → ((s : Statement) (x y : X) → Fits s x → Fits s y → Fits (add s x) y)
    → (rest : List (List (List ℕ))) (c : Statement) (xs : List X) (s : Statement) → AllByRecursion (Fits s) xs
    → ReadsTo p k rest (fold add s xs) c → ReadsTo p k (map fields xs ++ rest) s c
segment p k h fields add Fits small step keep rest c [] s all after = after
segment {X} p k h fields add Fits small step keep rest c (x ∷ xs) s all after =
    let others = kept s x xs all.0 all.1 in
    one-line p k h (fields x) s (add s x) c (map fields xs ++ rest) small (λ g le. step s g x le all.0)
    (segment p k h fields add Fits small step keep rest c xs (add s x) others after)
  where
    kept : (s : Statement) (x : X) (ys : List X) → Fits s x → AllByRecursion (Fits s) ys → AllByRecursion (Fits (add s x)) ys
    kept s x [] fit all = tt
    kept s x (y ∷ ys) fit all = (keep s x y fit all.0, kept s x ys fit all.1)
