-- Pairs of ends, each where it first stands.
use Rattle.std.proofs.Common.{◌≡◌, ◌≢◌, ◌∙◌, ℕ, ◌≤◌, Bool, true, false, cond, ◌||◌, eqb, List, [], ◌∷◌, ◌++◌, length, get_or, refl, sym, ap, ap₂, ⊎_elim, arith}
use Rattle.std.specs.Prelude.{not, All, AllPairs}
use Rattle.std.specs.List.{filter, list_any}
use Rattle.std.proofs.lemmas.Bool.{and_from, and_parts, both_ways, cases_Bool, cond-false, cond-true, eq-eqb, eqb-true, false_from_ne_true, not-true, not_from_false, not_from_true, or_from, or_left, or_right}
use Rattle.std.proofs.lemmas.List.{append-nil}
use Rattle.std.proofs.lemmas.List.Elements.{All-cons, All-filter, All-head, All-tail, filter-append, filter_passes}
use Rattle.std.proofs.lemmas.List.Kept.{AllPairs-cons, AllPairs-filter}
use Rattle.std.proofs.lemmas.List.Sums.{length-filter, count_by-le-length}
use Rattle.std.proofs.lemmas.Map.Views.{any-filter_same}
use Rattle.fp_records_fields.specs.Indexes.{same_ends}
use Rattle.fp_base_lists.proofs.Pairs.{AllPairs-nil}
use Rattle.fp_reader.specs.Generator.{first_ends}

-- ends that a test finds the same are the same
pub same_ends-true : (a b : ℕ × ℕ) → same_ends a b ≡ true → a ≡ b
same_ends-true a b h =
    let parts = and_parts (eqb a.0 b.0) (eqb a.1 b.1) h in
    ap₂ (λ (x y : ℕ). (x, y)) (eqb-true a.0 b.0 parts.0) (eqb-true a.1 b.1 parts.1)

same_ends-equal : (a b : ℕ × ℕ) → a ≡ b → same_ends a b ≡ true
same_ends-equal a b h =
    and_from (eqb a.0 b.0) (eqb a.1 b.1) (eq-eqb a.0 b.0 (ap (λ (e : ℕ × ℕ). e.0) h)) (eq-eqb a.1 b.1 (ap (λ (e : ℕ × ℕ). e.1) h))

same_ends-apart : (a b : ℕ × ℕ) → same_ends a b ≡ false → same_ends b a ≡ false
same_ends-apart a b h =
    false_from_ne_true (same_ends b a) (λ same. cc (h, same_ends-equal a b (sym (same_ends-true b a same))))

-- a pair is among the first ones where it is among all
pub list_any-first_ends : (es : List (ℕ × ℕ)) (e : ℕ × ℕ) → list_any (same_ends e) (first_ends es) ≡ list_any (same_ends e) es
list_any-first_ends [] e = refl
list_any-first_ends (d ∷ es) e =
    ⊎_elim
    (λ (same : same_ends e d ≡ true).
    or_left (same_ends e d) (list_any (same_ends e) (filter (λ other. not (same_ends d other)) (first_ends es))) same
    ∙ sym (or_left (same_ends e d) (list_any (same_ends e) es) same))
    (λ (apart : same_ends e d ≡ false).
    let kept : (k : ℕ × ℕ) → same_ends e k ≡ true → not (same_ends d k) ≡ true =
    λ k same. not_from_false (same_ends d k) (rw (sym (same_ends-true e k same)) (same_ends-apart e d apart)) in
    ap (λ (b : Bool). same_ends e d || b)
    (any-filter_same (same_ends e) (λ other. not (same_ends d other)) true kept (first_ends es) ∙ list_any-first_ends es e))
    (cases_Bool (same_ends e d))

-- one more pair stands among the first ones where it wasn't there
pub first_ends-push : (es : List (ℕ × ℕ)) (e : ℕ × ℕ)
    → first_ends (es ++ (e ∷ [])) ≡ cond (list_any (same_ends e) es) (first_ends es) (first_ends es ++ (e ∷ []))
first_ends-push [] e = refl
first_ends-push (d ∷ es) e =
    let others = λ (l : List (ℕ × ℕ)). filter (λ other. not (same_ends d other)) l in
    let there = list_any (same_ends e) es in
    let first = same_ends e d in
    let kept : first || there ≡ true → d ∷ others (first_ends es) ≡ cond (first || there) (d ∷ others (first_ends es)) (d ∷ (others (first_ends es) ++ (e ∷ []))) =
    λ h. sym (cond-true (first || there) (d ∷ others (first_ends es)) (d ∷ (others (first_ends es) ++ (e ∷ []))) h) in
    ⊎_elim
    (λ (h : there ≡ true).
    ap (λ (l : List (ℕ × ℕ)). d ∷ others l) (first_ends-push es e ∙ cond-true there (first_ends es) (first_ends es ++ (e ∷ [])) h)
    ∙ kept (or_right first there h))
    (λ (h : there ≡ false).
    let split : others (first_ends (es ++ (e ∷ []))) ≡ others (first_ends es) ++ cond (not (same_ends d e)) (e ∷ []) [] =
    ap others (first_ends-push es e ∙ cond-false there (first_ends es) (first_ends es ++ (e ∷ [])) h)
    ∙ filter-append (λ other. not (same_ends d other)) (first_ends es) (e ∷ []) in
    ⊎_elim
    (λ (same : first ≡ true).
    let gone : not (same_ends d e) ≡ false = not_from_true (same_ends d e) (same_ends-equal d e (sym (same_ends-true e d same))) in
    ap (λ (l : List (ℕ × ℕ)). d ∷ l)
    (split ∙ ap (λ (b : Bool). others (first_ends es) ++ cond b (e ∷ []) []) gone ∙ append-nil (others (first_ends es)))
    ∙ kept (or_left first there same))
    (λ (apart : first ≡ false).
    let stays : not (same_ends d e) ≡ true = not_from_false (same_ends d e) (same_ends-apart e d apart) in
    ap (λ (l : List (ℕ × ℕ)). d ∷ l) (split ∙ ap (λ (b : Bool). others (first_ends es) ++ cond b (e ∷ []) []) stays)
    ∙ sym (cond-false (first || there) (d ∷ others (first_ends es)) (d ∷ (others (first_ends es) ++ (e ∷ []))) (or_from first there apart h)))
    (cases_Bool first))
    (cases_Bool there)

-- no pair stands twice
pub first_ends-differ : (es : List (ℕ × ℕ)) → AllPairs (λ a b. a ≢ b) (first_ends es)
first_ends-differ [] = AllPairs-nil (λ a b. a ≢ b)
first_ends-differ (d ∷ es) =
    let others = filter (λ other. not (same_ends d other)) (first_ends es) in
    AllPairs-cons (λ a b. a ≢ b) d others
    (λ i e lt same.
    let other = get_or others i e in
    both_ways (same_ends d other) (not-true (same_ends d other) (filter_passes (λ o. not (same_ends d o)) (first_ends es) i e lt)) (same_ends-equal d other same))
    (AllPairs-filter (λ a b. a ≢ b) (λ other. not (same_ends d other)) (first_ends es) (first_ends-differ es))

-- what holds of all pairs holds of the first ones
pub All-first_ends : (P : ℕ × ℕ → Type 0) (es : List (ℕ × ℕ)) → All P es → All P (first_ends es)
All-first_ends P [] all = all
All-first_ends P (d ∷ es) all =
    All-cons P d (filter (λ other. not (same_ends d other)) (first_ends es)) (All-head P d es all)
    (All-filter (λ other. not (same_ends d other)) P (first_ends es) (All-first_ends P es (All-tail P d es all)))

-- they are no more than all
pub length-first_ends : (es : List (ℕ × ℕ)) → length (first_ends es) ≤ length es
length-first_ends [] = omega arith
length-first_ends (d ∷ es) =
    omega (
      arith,
      length-first_ends es,
      length-filter (λ other. not (same_ends d other)) (first_ends es),
      count_by-le-length (λ other. not (same_ends d other)) (first_ends es),
    )
