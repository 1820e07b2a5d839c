-- Terminals that were met, as bits.
use Rattle.std.proofs.Common.{◌≡◌, ◌≢◌, ℕ, zero, suc, ◌+◌, ◌<◌, Bool, true, false, List, [], ◌∷◌, length, drop, get_or, set, replicate, refl, sym, ap, ◌∙◌, subst, arith, get_or-set_other, get_or-set_same, true≢false, add-one, drop-cons}
use Rattle.std.specs.Prelude.{◌↔◌, Some, None, slice_get}
use Rattle.std.specs.List.{AllByRecursion}
use Rattle.fp_base_lists.proofs.Distinct.{AreDistinct-cons, AreDistinct-head, AreDistinct-tail}
use Rattle.fp_model.specs.declared.limits.TheConstants.{MOST_TERMINALS}
use Rattle.fp_model.specs.declared.parts.Leg.{Leg}
use Rattle.fp_model.specs.declared.parts.Shipment.{Shipment}
use Rattle.fp_model.specs.Problem.{Problem, IsValid, arc_at, no_arc}
use Rattle.fp_model.specs.Routes.{IsRoute, Leads, arcs_of, ends_of}
use Rattle.fp_base_lists.specs.Distinct.{AreDistinct}
use Rattle.fp_longestarcs.specs.declared.stops.Stop.{Stop}
use Rattle.fp_longestarcs.specs.Stops.{legs_of}
use Rattle.fp_relaxmodel.specs.Terminals.{terminals_on}

-- the terminals that classes enter
abbrev pub entered_by : Problem → List Stop → List ℕ
entered_by p stops = ends_of p (arcs_of (legs_of stops))

-- none of the terminals was met
abbrev pub AreUnmet : List Bool → List ℕ → Type 0
AreUnmet met xs = AllByRecursion (λ t. get_or met t false ≡ false) xs

-- none of the terminals was met, and none stands twice among them
abbrev pub AreNew : List Bool → List ℕ → Type 0
AreNew met xs = AreUnmet met xs × AreDistinct xs

-- once a terminal is met, those that are unmet are others that were
unmet-others : (met : List Bool) (t : ℕ) (xs : List ℕ) → t < length met → AreUnmet (set met t true) xs → AllByRecursion (λ y. y ≢ t) xs × AreUnmet met xs
unmet-others met t [] lt unmet = (tt, tt)
unmet-others met t (y ∷ xs) lt unmet =
    let rest : AllByRecursion (λ y. y ≢ t) xs × AreUnmet met xs = unmet-others met t xs lt unmet.1 in
    let other : y ≢ t = λ e. true≢false (sym (get_or-set_same met t true false lt) ∙ subst (λ (n : ℕ). get_or (set met t true) n false ≡ false) e unmet.0) in
    ((other, rest.0), ((sym (get_or-set_other met t y true false other) ∙ unmet.0), rest.1))

others-unmet : (met : List Bool) (t : ℕ) (xs : List ℕ) → AllByRecursion (λ y. y ≢ t) xs → AreUnmet met xs → AreUnmet (set met t true) xs
others-unmet met t [] others unmet = tt
others-unmet met t (y ∷ xs) others unmet =
    ((get_or-set_other met t y true false others.0 ∙ unmet.0), others-unmet met t xs others.1 unmet.1)

not-met : (n t : ℕ) → get_or (replicate n false) t false ≡ false
not-met zero t = refl
not-met (suc n) zero = refl
not-met (suc n) (suc t) = not-met n t

none-met : (n : ℕ) (xs : List ℕ) → AreUnmet (replicate n false) xs
none-met n [] = tt
none-met n (x ∷ xs) = (not-met n x, none-met n xs)

-- where only the first terminal was met
pub new-first : (n tail : ℕ) (xs : List ℕ) → tail < n → length (replicate n false) ≡ n → (AreDistinct (tail ∷ xs) ↔ AreNew (set (replicate n false) tail true) xs)
new-first n tail xs lt long =
    let none : List Bool = replicate n false in
    let within : tail < length none = omega (arith, lt, long) in (
      (λ apart. (others-unmet none tail xs (AreDistinct-head tail xs apart) (none-met n xs), AreDistinct-tail tail xs apart)),
      (λ new. AreDistinct-cons tail xs (unmet-others none tail xs within new.0).0 new.1),
    )

-- one more terminal that was unmet
new-next : (met : List Bool) (x : ℕ) (xs : List ℕ) → x < length met → get_or met x false ≡ false → (AreNew met (x ∷ xs) ↔ AreNew (set met x true) xs)
new-next met x xs lt unmet = (
  (λ new. (others-unmet met x xs (AreDistinct-head x xs new.1) new.0.1, AreDistinct-tail x xs new.1)),
  (λ new. let parts : AllByRecursion (λ y. y ≢ x) xs × AreUnmet met xs = unmet-others met x xs lt new.0 in ((unmet, parts.1), AreDistinct-cons x xs parts.0 new.1)),
)

-- the terminals that are entered from a class on
entered-next : (p : Problem) (stops : List Stop) (i : ℕ) (d : Stop) → i < length stops → entered_by p (drop i stops) ≡ (arc_at p (get_or stops i d).arc).to ∷ entered_by p (drop (i + 1) stops)
entered-next p stops i d lt =
    let next : drop i stops ≡ get_or stops i d ∷ drop (i + 1) stops = rw add-one (drop-cons stops i d lt) in
    ap (entered_by p) next

-- the ends of an arc are among the terminals, of which there are so many at most
pub arc-within : (p : Problem) (a : ℕ) → IsValid p → a < length p.arcs → ((arc_at p a).from < length p.terminals) × ((arc_at p a).to < MOST_TERMINALS)
arc-within p a valid lt = ((valid.parts.arcs a no_arc lt).from, omega (arith, (valid.parts.arcs a no_arc lt).to, valid.parts.few_terminals))

-- terminals are apart exactly where those that are entered from the next class on are new
pub decides-next : (A : Type 0) (p : Problem) (met : List Bool) (stops : List Stop) (i : ℕ) (d : Stop) (to : ℕ) → i < length stops → to ≡ (arc_at p (get_or stops i d).arc).to → to < length met → get_or met to false ≡ false →
    (A ↔ AreNew met (entered_by p (drop i stops))) → (A ↔ AreNew (set met to true) (entered_by p (drop (i + 1) stops)))
decides-next A p met stops i d to lt is within unmet decides =
    let left : List ℕ = entered_by p (drop (i + 1) stops) in
    let here : entered_by p (drop i stops) ≡ to ∷ left = entered-next p stops i d lt ∙ ap (λ (x : ℕ). x ∷ left) (sym is) in
    let next : AreNew met (to ∷ left) ↔ AreNew (set met to true) left = new-next met to left within unmet in (
      (λ apart. next.0 (subst (AreNew met) here (decides.0 apart))),
      (λ new. decides.1 (subst (AreNew met) (sym here) (next.1 new))),
    )

-- the terminals on a walk with a first class
pub on-first : (p : Problem) (stops : List Stop) (first : Stop) → slice_get stops 0 ≡ Some first → terminals_on p (legs_of stops) ≡ (arc_at p first.arc).from ∷ entered_by p stops
on-first p [] first is = cc
on-first p (stop ∷ stops) first is =
    let same : stop ≡ first = cc in
    ap (λ (s : Stop). (arc_at p s.arc).from ∷ entered_by p (stop ∷ stops)) same

-- whether the walk from a shipment's origin to its destination is a route of it
pub route-decides : (A : Type 0) (p : Problem) (walk : List Leg) → (A ↔ AreDistinct (terminals_on p walk)) → (s : Shipment) → s.from ≢ s.to → Leads p s.from (arcs_of walk) s.to → (A ↔ IsRoute p s (arcs_of walk))
route-decides A p [] decides s ends leads = ((λ a. absurd (ends leads)), (λ route. absurd (ends leads)))
route-decides A p (c ∷ walk) decides s ends leads =
    let Apart : ℕ → Type 0 = λ here. AreDistinct (here ∷ ends_of p (arcs_of (c ∷ walk))) in (
      (λ a. record { some = λ e. cc; leads = leads; once = subst Apart leads.1 (decides.0 a) }),
      (λ route. decides.1 (subst Apart (sym leads.1) route.once)),
    )
