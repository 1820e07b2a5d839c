-- Legs along a walk that each leave as soon as they can, and that they carry a shipment which is in
-- time.
use Rattle.std.proofs.Common.{◌≡◌, ◌≢◌, ℕ, ◌+◌, ◌*◌, ◌≤◌, List, [], ◌∷◌, refl, sym, ap, subst, arith, le_refl}
use Rattle.fp_model.specs.declared.parts.Leg.{Leg}
use Rattle.fp_model.specs.declared.parts.Shipment.{Shipment}
use Rattle.fp_model.specs.Problem.{Problem, IsValid}
use Rattle.fp_model.specs.Routes.{Leads, LeavesReady, ArrivesBy, Carries, walk_time, step, arcs_of}
use Rattle.fp_flatnet.proofs.LeastWalks.{IsLeastWalk, least-apart}

-- legs along a walk: the first leaves when ready, each next one a step after the one before
abbrev pub at_once : Problem → ℕ → List ℕ → List Leg
at_once p ready [] = []
at_once p ready (a ∷ arcs) = record { arc = a; depart = ready } ∷ at_once p (ready + step p a) arcs

arcs_of-at_once : (p : Problem) (ready : ℕ) (arcs : List ℕ) → arcs_of (at_once p ready arcs) ≡ arcs
arcs_of-at_once p ready [] = refl
arcs_of-at_once p ready (a ∷ arcs) = ap (λ (xs : List ℕ). a ∷ xs) (arcs_of-at_once p (ready + step p a) arcs)

leaves-at_once : (p : Problem) (ready : ℕ) (arcs : List ℕ) → LeavesReady p 1 ready (at_once p ready arcs)
leaves-at_once p ready [] = tt
leaves-at_once p ready (a ∷ arcs) =
    let same : ready + step p a ≡ ready + 1 * step p a = omega arith in (
      le_refl ready,
      subst (λ (n : ℕ). LeavesReady p 1 n (at_once p (ready + step p a) arcs)) same (leaves-at_once p (ready + step p a) arcs),
    )

arrives-at_once : (p : Problem) (ready due : ℕ) (arcs : List ℕ) → ready + walk_time p arcs ≤ due → ArrivesBy p 1 due (at_once p ready arcs)
arrives-at_once p ready due [] within = tt
arrives-at_once p ready due (a ∷ []) within = omega (arith, within)
arrives-at_once p ready due (a ∷ b ∷ arcs) within = arrives-at_once p (ready + step p a) due (b ∷ arcs) (omega (arith, within))

-- legs at once along a least walk carry a shipment for which the walk is short enough
pub carries-at_once : (p : Problem) (s : Shipment) (arcs : List ℕ) → IsValid p → s.from ≢ s.to → IsLeastWalk p s.from s.to arcs →
    s.release + walk_time p arcs ≤ s.due → Carries p 1 s (at_once p s.release arcs)
carries-at_once p s arcs valid ends least within =
    let same : arcs_of (at_once p s.release arcs) ≡ arcs = arcs_of-at_once p s.release arcs in
    let ready : s.release ≡ 1 * s.release = omega arith in
    let P : List ℕ → Type 0 = λ xs. IsLeastWalk p s.from s.to xs in
    let along : IsLeastWalk p s.from s.to (arcs_of (at_once p s.release arcs)) = subst P (sym same) least in
    record {
      route = record {
        some = λ e. ends (subst (λ (xs : List ℕ). Leads p s.from xs s.to) e along.leads);
        leads = along.leads;
        once = least-apart p s.from s.to (arcs_of (at_once p s.release arcs)) valid along;
      };
      ready = subst (λ (n : ℕ). LeavesReady p 1 n (at_once p s.release arcs)) ready (leaves-at_once p s.release arcs);
      due = arrives-at_once p s.release s.due arcs within;
    }
