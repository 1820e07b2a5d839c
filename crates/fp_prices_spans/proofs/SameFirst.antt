-- First points come into whether charges pay only by which points there are, and not by how they are listed.
use Rattle.std.proofs.Common.{◌≡◌, ℕ, zero, suc, ◌<◌, ◌≤◌, Bool, true, false, List, [], ◌∷◌, length, get_or, Option, Some, None, ⊎_elim, refl, sym, ap, ◌∙◌, subst, arith}
use Rattle.std.specs.Prelude.{All, cond}
use Rattle.std.specs.List.{AllZip}
use Rattle.std.proofs.lemmas.Bool.{cases_Bool, cases_lt, false≢true, le-leb}
use Rattle.std.proofs.lemmas.List.Elements.{All-get_or}
use Rattle.fp_base_lists.specs.Membership.{list_has}
use Rattle.fp_base_lists.proofs.Membership.{list_has-first, list_has-rest}
use Rattle.fp_model.specs.Problem.{IsArc, IsValid, Problem, arc_at, no_arc}
use Rattle.fp_timenodes.specs.Floor.{HaveSamePoints, earlier}
use Rattle.fp_timenodes.proofs.Nexts.{next_same}
use Rattle.fp_flatnet.specs.declared.window_tables.Window.{Window}
use Rattle.fp_allowed.specs.SamePoints.{AgreeOnPoints}
use Rattle.fp_prices_knapsack.specs.Charges.{Pays}
use Rattle.fp_prices_spans.specs.MomentRuns.{end_of, first_from, group_weights, runs_from}
use Rattle.fp_prices_spans.specs.Spans.{ClassSpan}
use Rattle.fp_prices_spans.specs.SpanCharges.{ArePaidSpans, ChargePays, items_of}
use Rattle.fp_prices_spans.specs.SpanLists.{IsSpanOf}
use Rattle.fp_prices_spans.proofs.SpanMoments.{first_from-next, first_from-zero}

-- where 0 is none of the points, all of them are after it
first_from-positive : (qs : List ℕ) → list_has qs 0 ≡ false → first_from qs 0 ≡ first_from qs 1
first_from-positive [] none = refl
first_from-positive (q ∷ qs) none =
    ⊎_elim
    (λ (h : 0 < q).
    ap (λ (b : Bool). earlier (cond b (Some q) None) (first_from qs 0)) (le-leb 0 q (omega arith))
    ∙ ap (earlier (Some q)) (first_from-positive qs rest)
    ∙ sym (ap (λ (b : Bool). earlier (cond b (Some q) None) (first_from qs 1)) (le-leb 1 q (omega (arith, h)))))
    (λ (h : q ≤ 0). let zero : q ≡ 0 = omega (arith, h) in absurd (false≢true (sym none ∙ subst (λ (n : ℕ). list_has (q ∷ qs) n ≡ true) zero (list_has-first q qs))))
    (cases_lt 0 q)
  where
    rest : list_has qs 0 ≡ false
    rest =
        ⊎_elim (λ (there : list_has qs 0 ≡ true). absurd (false≢true (sym none ∙ list_has-rest q qs 0 there))) (λ (not : list_has qs 0 ≡ false). not)
        (cases_Bool (list_has qs 0))

-- lists with the same points have the same first one from a moment on
pub first_from-same : (ps qs : List ℕ) (at : ℕ) → HaveSamePoints ps qs → first_from ps at ≡ first_from qs at
first_from-same ps qs zero same =
    ⊎_elim
    (λ (there : list_has ps 0 ≡ true). first_from-zero ps there ∙ sym (first_from-zero qs (sym (same 0) ∙ there)))
    (λ (none : list_has ps 0 ≡ false).
    first_from-positive ps none
    ∙ first_from-next ps 0
    ∙ next_same ps qs 0 same
    ∙ sym (first_from-next qs 0)
    ∙ sym (first_from-positive qs (sym (same 0) ∙ none)))
    (cases_Bool (list_has ps 0))
first_from-same ps qs (suc at) same = first_from-next ps at ∙ next_same ps qs at same ∙ sym (first_from-next qs at)

module _ (p : Problem) (windows : ℕ → ℕ → Option Window) (first other : ℕ → List ℕ) where
  -- a charge pays by others where the moments of its span end alike
  charge-same : (span : ClassSpan) → end_of p first span ≡ end_of p other span → ChargePays p windows first span → ChargePays p windows other span
  charge-same span alike pays = record {
    parts = pays.parts;
    enough = pays.enough;
    pay = subst
        (λ (end : Option ℕ). AllZip (λ run part. Pays (items_of p (group_weights windows span run)) (arc_at p span.arc).capacity span.money part) (runs_from span.point span.groups end) pays.parts)
        alike pays.pay;
  }

  -- spans that are paid by first points are paid by others that are the same at each terminal of the problem
  pub paid-same : (spans : List ClassSpan) → IsValid p → AgreeOnPoints p first other → All (IsSpanOf p) spans → ArePaidSpans p windows first spans → ArePaidSpans p windows other spans
  paid-same spans valid agree exist are = record { list = are.list; paid = paid }
    where
      tail : (span : ClassSpan) → IsSpanOf p span → (arc_at p span.arc).from < length p.terminals
      tail span is = (All-get_or (IsArc (length p.terminals)) p.arcs span.arc no_arc is.arc valid.parts.arcs).from

      paid : All (ChargePays p windows other) spans
      paid k d lt =
          let span : ClassSpan = get_or spans k d in
          charge-same span (first_from-same (first (arc_at p span.arc).from) (other (arc_at p span.arc).from) span.until (agree (arc_at p span.arc).from (tail span (exist k d lt)))) (are.paid k d lt)
