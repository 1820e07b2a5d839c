-- Arcs that are drawn, one for each pair of ends.
use Rattle.std.proofs.Common.{◌≡◌, ◌∙◌, ℕ, suc, ◌+◌, ◌*◌, true, false, List, [], ◌∷◌, ◌++◌, length, map, refl, sym, ap, ap₂, ⊎_elim, arith, length-append}
use Rattle.std.specs.List.{enumerate_from, flat_map, list_any, range_with_len}
use Rattle.std.proofs.lemmas.Bool.{cases_Bool, cond-false, cond-true}
use Rattle.std.proofs.lemmas.List.{map-append}
use Rattle.fp_model.specs.declared.parts.Arc.{Arc}
use Rattle.fp_records_fields.specs.Indexes.{arc_ends, same_ends}
use Rattle.fp_records_fields.proofs.ArcEnds.{has_ends-arc_ends}
use Rattle.fp_reader.specs.ArcDraws.{is_joined, number_after_arc, with_drawn_arc}
use Rattle.fp_reader.specs.Generator.{drawn_arc, drawn_arcs, ends_from, first_ends, number_after, ring_ends}
use Rattle.fp_reader.proofs.FirstEnds.{first_ends-push, list_any-first_ends}
use Rattle.fp_reader.proofs.NumbersAfter.{number_after-more}

-- one more element with its number
enumerate_from-push : {X : Type 0} (n : ℕ) (xs : List X) (x : X) → enumerate_from n (xs ++ (x ∷ [])) ≡ enumerate_from n xs ++ ((n + length xs, x) ∷ [])
enumerate_from-push {X} n [] x =
    let e : n ≡ n + 0 = omega arith in
    ap (λ (k : ℕ). let p : ℕ × X = (k, x) in p ∷ []) e
enumerate_from-push {X} n (y ∷ ys) x =
    let e : n + 1 + length ys ≡ n + suc (length ys) = omega arith in
    ap (λ (l : List (ℕ × X)). let p : ℕ × X = (n, y) in p ∷ l)
    (enumerate_from-push (n + 1) ys x ∙ ap (λ (k : ℕ). let p : ℕ × X = (k, x) in enumerate_from (n + 1) ys ++ (p ∷ [])) e)

-- one more arc, of the next four draws
drawn_arcs-push : (x : ℕ) (es : List (ℕ × ℕ)) (e : ℕ × ℕ)
    → drawn_arcs x (es ++ (e ∷ [])) ≡ drawn_arcs x es ++ (drawn_arc (number_after x (4 * length es)) e ∷ [])
drawn_arcs-push x es e =
    let f : ℕ × (ℕ × ℕ) → Arc = λ p. drawn_arc (number_after x (4 * p.0)) p.1 in
    let zero-more : 0 + length es ≡ length es = omega arith in
    ap (map f) (enumerate_from-push 0 es e)
    ∙ map-append f (enumerate_from 0 es) ((0 + length es, e) ∷ [])
    ∙ ap (λ (k : ℕ). map f (enumerate_from 0 es) ++ (drawn_arc (number_after x (4 * k)) e ∷ [])) zero-more

-- arcs that are drawn have the ends that they were drawn for
ends-drawn : (x n : ℕ) (es : List (ℕ × ℕ)) → arc_ends (map (λ (p : ℕ × (ℕ × ℕ)). drawn_arc (number_after x (4 * p.0)) p.1) (enumerate_from n es)) ≡ es
ends-drawn x n [] = refl
ends-drawn x n (e ∷ es) = ap (λ (l : List (ℕ × ℕ)). e ∷ l) (ends-drawn x (n + 1) es)

pub arc_ends-drawn_arcs : (x : ℕ) (es : List (ℕ × ℕ)) → arc_ends (drawn_arcs x es) ≡ es
arc_ends-drawn_arcs x es = ends-drawn x 0 es

-- an arc exists where its ends are among those
is_joined-drawn_arcs : (x : ℕ) (es : List (ℕ × ℕ)) (e : ℕ × ℕ) → is_joined (drawn_arcs x es) e ≡ list_any (same_ends e) es
is_joined-drawn_arcs x es e =
    sym (has_ends-arc_ends (drawn_arcs x es) e.0 e.1) ∙ ap (list_any (same_ends e)) (arc_ends-drawn_arcs x es)

-- the arcs so far are those of the first ends so far, and the number is the one after their draws
pub record HasDrawn (x : ℕ) (es : List (ℕ × ℕ)) (now : ℕ) (arcs : List Arc) : Type 0 where
  pub drawn : arcs ≡ drawn_arcs x (first_ends es)
  pub number : now ≡ number_after x (4 * length (first_ends es))

-- with one more pair of ends
with-ends : (x : ℕ) (es : List (ℕ × ℕ)) (now : ℕ) (arcs : List Arc) (e : ℕ × ℕ) → HasDrawn x es now arcs
    → HasDrawn x (es ++ (e ∷ [])) (number_after_arc now arcs e) (with_drawn_arc now arcs e)
with-ends x es now arcs e h =
    let there = list_any (same_ends e) es in
    let more = first_ends es ++ (e ∷ []) in
    let joined : is_joined arcs e ≡ there =
    ap (λ (l : List Arc). is_joined l e) h.drawn ∙ is_joined-drawn_arcs x (first_ends es) e ∙ list_any-first_ends es e in
    ⊎_elim
    (λ (has : there ≡ true).
    let same : first_ends (es ++ (e ∷ [])) ≡ first_ends es = first_ends-push es e ∙ cond-true there (first_ends es) more has in
    let out : HasDrawn x (es ++ (e ∷ [])) (number_after_arc now arcs e) (with_drawn_arc now arcs e) = record {
      drawn = cond-true (is_joined arcs e) arcs (arcs ++ (drawn_arc now e ∷ [])) (joined ∙ has) ∙ h.drawn ∙ ap (drawn_arcs x) (sym same);
      number = cond-true (is_joined arcs e) now (number_after now 4) (joined ∙ has) ∙ h.number ∙ ap (λ (l : List (ℕ × ℕ)). number_after x (4 * length l)) (sym same);
    } in
    out)
    (λ (lacks : there ≡ false).
    let pushed : first_ends (es ++ (e ∷ [])) ≡ more = first_ends-push es e ∙ cond-false there (first_ends es) more lacks in
    let draws : 4 * length (first_ends es) + 4 ≡ 4 * length (first_ends (es ++ (e ∷ []))) =
    omega (arith, ap (λ (l : List (ℕ × ℕ)). length l) pushed, length-append (first_ends es) (e ∷ [])) in
    let out : HasDrawn x (es ++ (e ∷ [])) (number_after_arc now arcs e) (with_drawn_arc now arcs e) = record {
      drawn = cond-false (is_joined arcs e) arcs (arcs ++ (drawn_arc now e ∷ [])) (joined ∙ lacks)
          ∙ ap₂ (λ (l : List Arc) (n : ℕ). l ++ (drawn_arc n e ∷ [])) h.drawn h.number
          ∙ sym (drawn_arcs-push x (first_ends es) e) ∙ ap (drawn_arcs x) (sym pushed);
      number = cond-false (is_joined arcs e) now (number_after now 4) (joined ∙ lacks)
          ∙ ap (λ n. number_after n 4) h.number ∙ number_after-more x (4 * length (first_ends es)) 4 (4 * length (first_ends (es ++ (e ∷ [])))) draws;
    } in
    out)
    (cases_Bool there)

pub HasDrawn-more : (x : ℕ) (es : List (ℕ × ℕ)) (now : ℕ) (arcs : List Arc) (e : ℕ × ℕ) (next : ℕ) (more : List Arc) → HasDrawn x es now arcs
    → next ≡ number_after_arc now arcs e → more ≡ with_drawn_arc now arcs e → HasDrawn x (es ++ (e ∷ [])) next more
HasDrawn-more x es now arcs e next more h after with =
    let added = with-ends x es now arcs e h in
    record { drawn = with ∙ added.drawn; number = after ∙ added.number }

-- the arcs of the ring, once all its terminals are done
pub HasDrawn-ring : (x terminals from : ℕ) (now : ℕ) (arcs : List Arc) → from ≡ terminals
    → HasDrawn x (flat_map (ends_from terminals) (range_with_len 0 from)) now arcs
    → (arcs ≡ drawn_arcs x (ring_ends terminals)) × (now ≡ number_after x (4 * length (ring_ends terminals)))
HasDrawn-ring x terminals from now arcs all h =
    let ends : ℕ → List (ℕ × ℕ) = λ n. first_ends (flat_map (ends_from terminals) (range_with_len 0 n)) in
    (h.drawn ∙ ap (λ n. drawn_arcs x (ends n)) all, h.number ∙ ap (λ n. number_after x (4 * length (ends n))) all)
