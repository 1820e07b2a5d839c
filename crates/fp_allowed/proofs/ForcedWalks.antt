-- What the end of a forced chain says of the walks over allowed classes: each begins with the
-- chain.
use Rattle.std.proofs.Common.{◌≡◌, ◌≢◌, ℕ, ◌<◌, Bool, true, ◌⊎◌, List, [], ◌∷◌, ◌++◌, length, ⊎_elim, inl, inr, refl, sym, ap, ◌∙◌, subst}
use Rattle.std.specs.Prelude.{Contains}
use Rattle.std.specs.List.{AllByRecursion}
use Rattle.std.proofs.lemmas.List.{append-nil}
use Rattle.fp_base_lists.proofs.Distinct.{AreDistinct-cons, AreDistinct-nil}
use Rattle.fp_model.specs.declared.parts.Leg.{Leg}
use Rattle.fp_model.specs.declared.parts.Shipment.{Shipment}
use Rattle.fp_model.specs.Numbered.{no_shipment, shipment_at}
use Rattle.fp_model.specs.Problem.{Problem, arc_at}
use Rattle.fp_model.specs.Routes.{IsRoute, Leads, arcs_of, ends_of}
use Rattle.fp_base_lists.specs.Distinct.{AreDistinct}
use Rattle.fp_base_lists.proofs.Elements.{AllByRecursion-weaker}
use Rattle.fp_base_lists.specs.Membership.{list_has}
use Rattle.fp_base_lists.proofs.Membership.{list_has-rest, list_has-first, list_has-cons_cases, list_has-get_or}
use Rattle.fp_flatnet.specs.Belonging.{FitsInstance}
use Rattle.fp_flatnet.specs.Tables.{WindowTable, windows_in}
use Rattle.fp_longestarcs.specs.Networks.{points_in}
use Rattle.fp_tree.specs.declared.sides.Side.{Side}
use Rattle.fp_allowed.specs.declared.chain_ends.ChainEnd.{ChainEnd}
use Rattle.fp_allowed.specs.declared.chain_ends.ChainEnd.TheVariants.{Reached, Stuck}
use Rattle.fp_allowed.specs.Allowed.{AreForced, IsForcedChain, IsOnly, is_allowed, tails_of}
use Rattle.fp_allowed.specs.Bits.{allowed_in}
use Rattle.fp_allowed.specs.Chains.{EndsAs, IsForced, NoneLeaves, chain_stop, terminals_left}
use Rattle.fp_allowed.specs.ForcedChains.{ForcedChain}
use Rattle.fp_allowed.specs.Listing.{classes_at}
use Rattle.fp_allowed.specs.Settings.{IsSetting, Setting}
use Rattle.fp_allowed.specs.Walks.{IsTimedWalk}
use Rattle.fp_flatnet.proofs.WindowTimes.{FitsInstance_leaves}
use Rattle.fp_allowed.proofs.ClassTimes.{HasWindow, allowed_exists, allowed_window}

-- no allowed class leaves a shipment's destination
pub NoneLeaves-destination : (p : Problem) (table : WindowTable) (points : ℕ → List ℕ) (sides : List Side) (k : ℕ) → FitsInstance p table → k < length p.shipments →
    NoneLeaves p (is_allowed p (windows_in table) points sides k) (shipment_at p k).to
NoneLeaves-destination p table points sides k fits shipment = λ c allowed leaves.
    let has : HasWindow (windows_in table) k c = allowed_window p (windows_in table) points sides k c allowed in
    FitsInstance_leaves p table k c.arc has.window fits has.is leaves

module _ (p : Problem) (allowed : Leg → Bool) where
  -- a walk is the chain and goes on from its end over allowed classes
  pub record BeginsWith (there stop : ℕ) (chain walk : List Leg) : Type 0 where
    pub rest : List Leg
    pub is : walk ≡ chain ++ rest
    pub leads : Leads p stop (arcs_of rest) there
    pub allowed_all : AllByRecursion (λ c. allowed c ≡ true) rest

  -- each walk over allowed classes from the same terminal on begins with the forced classes
  pub AreForced-walk : (there : ℕ) (met : List ℕ) (here : ℕ) (chain walk : List Leg) → AreForced p allowed there met here chain → Leads p here (arcs_of walk) there → AllByRecursion (λ c. allowed c ≡ true) walk →
      BeginsWith there (chain_stop p here chain) chain walk
  AreForced-walk there met here [] walk forced leads all = record { rest = walk; is = refl; leads = leads; allowed_all = all }
  AreForced-walk there met here (c ∷ chain) [] forced leads all = absurd (forced.0 leads)
  AreForced-walk there met here (c ∷ chain) (w ∷ walk) forced leads all =
      let same : w ≡ c = forced.2.alone w all.0 leads.1 in
      let on : BeginsWith there (chain_stop p (arc_at p c.arc).to chain) chain walk =
      AreForced-walk there (here ∷ met) (arc_at p c.arc).to chain walk forced.3 (subst (λ (l : Leg). Leads p (arc_at p l.arc).to (arcs_of walk) there) same leads.2) all.1 in
      record {
        rest = on.rest;
        is = ap (λ (l : Leg). l ∷ walk) same ∙ ap (λ (ls : List Leg). c ∷ ls) on.is;
        leads = on.leads;
        allowed_all = on.allowed_all;
      }

  -- so where the chain reaches the destination, which no allowed class leaves, it is the only walk
  pub Reached-only_walk : (s : Shipment) (chain walk : List Leg) → IsForcedChain p allowed s chain → EndsAs p allowed s chain Reached → NoneLeaves p allowed s.to → Leads p s.from (arcs_of walk) s.to →
      AllByRecursion (λ c. allowed c ≡ true) walk → walk ≡ chain
  Reached-only_walk s chain walk is ends none leads all = let begins = AreForced-walk s.to [] s.from chain walk is.forced leads all in ended begins.rest begins.is begins.leads begins.allowed_all
    where
      ended : (rest : List Leg) → walk ≡ chain ++ rest → Leads p (chain_stop p s.from chain) (arcs_of rest) s.to → AllByRecursion (λ c. allowed c ≡ true) rest → walk ≡ chain
      ended [] is on all = is ∙ append-nil chain
      ended (c ∷ rest) is on all = absurd (none c all.0 (on.1 ∙ ends))

  -- the forced classes lead to the chain's end
  pub AreForced-Leads : (there : ℕ) (met : List ℕ) (here : ℕ) (chain : List Leg) → ((c : Leg) → allowed c ≡ true → c.arc < length p.arcs) → AreForced p allowed there met here chain →
      Leads p here (arcs_of chain) (chain_stop p here chain)
  AreForced-Leads there met here [] exist forced = refl
  AreForced-Leads there met here (c ∷ chain) exist forced = (exist c forced.2.is_allowed, forced.2.leaves, AreForced-Leads there (here ∷ met) (arc_at p c.arc).to chain exist forced.3)

  -- a terminal is none of these
  abbrev IsOutside : List ℕ → ℕ → Type 0
  IsOutside met t = AllByRecursion (λ m. m ≢ t) met

  -- the terminals on the way of forced classes to the destination differ, and none of them was met
  -- before
  record AreNew (met on_way : List ℕ) : Type 0 where
    apart : AreDistinct on_way
    outside : AllByRecursion (IsOutside met) on_way

  terminals_new : (there : ℕ) (met : List ℕ) (here : ℕ) (chain : List Leg) → AreForced p allowed there met here chain → chain_stop p here chain ≡ there → IsOutside met there →
      AreNew met (here ∷ ends_of p (arcs_of chain))
  terminals_new there met here [] forced stop outside = record { apart = AreDistinct-cons here [] tt AreDistinct-nil; outside = (subst (λ (t : ℕ). IsOutside met t) (sym stop) outside, tt) }
  terminals_new there met here (c ∷ chain) forced stop outside =
      let on_way : List ℕ = (arc_at p c.arc).to ∷ ends_of p (arcs_of chain) in
      let new : AreNew (here ∷ met) on_way = terminals_new there (here ∷ met) (arc_at p c.arc).to chain forced.3 stop (forced.0, outside) in
      record {
        apart = AreDistinct-cons here on_way (AllByRecursion-weaker (IsOutside (here ∷ met)) (λ t. t ≢ here) (λ t out e. out.0 (sym e)) on_way new.outside) new.apart;
        outside = (forced.1, AllByRecursion-weaker (IsOutside (here ∷ met)) (IsOutside met) (λ t out. out.1) on_way new.outside);
      }

  -- so a chain that reaches the destination is a route
  pub Reached-IsRoute : (s : Shipment) (chain : List Leg) → ((c : Leg) → allowed c ≡ true → c.arc < length p.arcs) → s.from ≢ s.to → IsForcedChain p allowed s chain → EndsAs p allowed s chain Reached →
      IsRoute p s (arcs_of chain)
  Reached-IsRoute s chain exist differ is ends = record {
    some = some chain ends;
    leads = subst (λ (t : ℕ). Leads p s.from (arcs_of chain) t) ends (AreForced-Leads s.to [] s.from chain exist is.forced);
    once = (terminals_new s.to [] s.from chain is.forced ends tt).apart;
  }
    where
      some : (legs : List Leg) → chain_stop p s.from legs ≡ s.to → arcs_of legs ≢ []
      some [] stop none = differ stop
      some (c ∷ legs) stop none = absurd (cc none)

  -- the only allowed class that leaves a terminal, which goes to one that the chain leaves or where
  -- it ends
  record GoesOn (there : ℕ) (left : List ℕ) (stop t : ℕ) : Type 0 where
    away : t ≢ there
    class : Leg
    only : IsOnly p allowed t class
    next : (list_has left (arc_at p class.arc).to ≡ true) ⊎ ((arc_at p class.arc).to ≡ stop)

  -- each terminal that a chain leaves has such a class
  goes_on : (there : ℕ) (met : List ℕ) (here : ℕ) (chain : List Leg) (t : ℕ) → AreForced p allowed there met here chain → list_has (terminals_left p chain) t ≡ true →
      GoesOn there (terminals_left p chain) (chain_stop p here chain) t
  goes_on there met here [] t forced has = absurd (cc has)
  goes_on there met here (c ∷ chain) t forced has =
      let left : List ℕ = terminals_left p chain in
      let stop : ℕ = chain_stop p (arc_at p c.arc).to chain in
      ⊎_elim
      (λ (first : tails_of p c.arc ≡ t). subst (λ (n : ℕ). GoesOn there (tails_of p c.arc ∷ left) stop n) (sym forced.2.leaves ∙ first) (record { away = forced.0; class = c; only = forced.2; next = next chain forced.3 }))
      (λ (later : list_has left t ≡ true).
      let on : GoesOn there left stop t = goes_on there (here ∷ met) (arc_at p c.arc).to chain t forced.3 later in
      record {
        away = on.away;
        class = on.class;
        only = on.only;
        next = ⊎_elim (λ (h : list_has left (arc_at p on.class.arc).to ≡ true). inl (list_has-rest (tails_of p c.arc) left (arc_at p on.class.arc).to h)) (λ (e : (arc_at p on.class.arc).to ≡ stop). inr e) on.next;
      })
      (list_has-cons_cases (tails_of p c.arc) left t has)
    where
      next : (rest : List Leg) → AreForced p allowed there (here ∷ met) (arc_at p c.arc).to rest →
          (list_has (tails_of p c.arc ∷ terminals_left p rest) (arc_at p c.arc).to ≡ true) ⊎ ((arc_at p c.arc).to ≡ chain_stop p (arc_at p c.arc).to rest)
      next [] on = inr refl
      next (d ∷ rest) on =
          inl
          (list_has-rest (tails_of p c.arc) (tails_of p d.arc ∷ terminals_left p rest) (arc_at p c.arc).to
          (subst (λ (n : ℕ). list_has (tails_of p d.arc ∷ terminals_left p rest) n ≡ true) on.2.leaves (list_has-first (tails_of p d.arc) (terminals_left p rest))))

  -- no walk leads away from terminals whose only allowed classes go on among them and to one more
  -- that none leaves or is among them
  never_there : (there stop : ℕ) (left : List ℕ) → ((t : ℕ) → list_has left t ≡ true → GoesOn there left stop t) → stop ≢ there → (list_has left stop ≡ true) ⊎ NoneLeaves p allowed stop →
      (here : ℕ) (walk : List Leg) → (list_has left here ≡ true) ⊎ (here ≡ stop) → Leads p here (arcs_of walk) there → AllByRecursion (λ c. allowed c ≡ true) walk → ⊥
  never_there there stop left on away held here [] (inl has) leads all = (on here has).away leads
  never_there there stop left on away held here [] (inr at) leads all = away (sym at ∙ leads)
  never_there there stop left on away held here (w ∷ walk) place leads all = never_there there stop left on away held (arc_at p w.arc).to walk (step-on place) leads.2 all.1
    where
      from-left : list_has left here ≡ true → (list_has left (arc_at p w.arc).to ≡ true) ⊎ ((arc_at p w.arc).to ≡ stop)
      from-left has =
          let goes : GoesOn there left stop here = on here has in
          subst (λ (l : Leg). (list_has left (arc_at p l.arc).to ≡ true) ⊎ ((arc_at p l.arc).to ≡ stop)) (sym (goes.only.alone w all.0 leads.1)) goes.next

      from-stop : here ≡ stop → (list_has left stop ≡ true) ⊎ NoneLeaves p allowed stop → (list_has left (arc_at p w.arc).to ≡ true) ⊎ ((arc_at p w.arc).to ≡ stop)
      from-stop at (inl back) = from-left (subst (λ (n : ℕ). list_has left n ≡ true) (sym at) back)
      from-stop at (inr none) = absurd (none w all.0 (leads.1 ∙ at))

      step-on : (list_has left here ≡ true) ⊎ (here ≡ stop) → (list_has left (arc_at p w.arc).to ≡ true) ⊎ ((arc_at p w.arc).to ≡ stop)
      step-on (inl has) = from-left has
      step-on (inr at) = from-stop at held

  -- so where the chain is stuck there is no walk
  pub Stuck-no_walk : (s : Shipment) (chain walk : List Leg) (terminal : ℕ) → IsForcedChain p allowed s chain → EndsAs p allowed s chain (Stuck terminal) → Leads p s.from (arcs_of walk) s.to →
      AllByRecursion (λ c. allowed c ≡ true) walk → ⊥
  Stuck-no_walk s chain walk terminal is ends leads all =
      never_there s.to (chain_stop p s.from chain) (terminals_left p chain) (λ t has. goes_on s.to [] s.from chain t is.forced has) (λ e. ends.1 (sym ends.0 ∙ e)) (held ends.2) s.from walk (starts chain is.forced) leads all
    where
      held : (Contains (terminals_left p chain) terminal) ⊎ NoneLeaves p allowed terminal → (list_has (terminals_left p chain) (chain_stop p s.from chain) ≡ true) ⊎ NoneLeaves p allowed (chain_stop p s.from chain)
      held (inl back) =
          let there : list_has (terminals_left p chain) terminal ≡ true = subst (λ (n : ℕ). list_has (terminals_left p chain) n ≡ true) back.2 (list_has-get_or (terminals_left p chain) back.0 terminal back.1) in
          inl (subst (λ (n : ℕ). list_has (terminals_left p chain) n ≡ true) (sym ends.0) there)
      held (inr none) = inr (subst (λ (n : ℕ). NoneLeaves p allowed n) (sym ends.0) none)

      starts : (legs : List Leg) → AreForced p allowed s.to [] s.from legs → (list_has (terminals_left p legs) s.from ≡ true) ⊎ (s.from ≡ chain_stop p s.from legs)
      starts [] forced = inr refl
      starts (c ∷ legs) forced = inl (subst (λ (n : ℕ). list_has (tails_of p c.arc ∷ terminals_left p legs) n ≡ true) forced.2.leaves (list_has-first (tails_of p c.arc) (terminals_left p legs)))

-- in a setting, of the forced chain of a shipment
module _ (s : Setting) (sides : List Side) (k : ℕ) (chain : ForcedChain) (is : IsSetting s) (exists : k < length s.problem.shipments)
    (forced : IsForced s.problem s.network (allowed_in s sides k) (shipment_at s.problem k) chain) where
  abbrev legs : List Leg
  legs = classes_at s.network chain.classes

  ended : (end : ChainEnd) → chain.end ≡ end → EndsAs s.problem (allowed_in s sides k) (shipment_at s.problem k) legs end
  ended end at = subst (λ (e : ChainEnd). EndsAs s.problem (allowed_in s sides k) (shipment_at s.problem k) legs e) at forced.ends

  -- where it reaches the destination, each timed walk is the chain
  pub Reached-only_timed_walk : chain.end ≡ Reached → (walk : List Leg) → IsTimedWalk s.problem (points_in s.network) (allowed_in s sides k) (shipment_at s.problem k) walk → walk ≡ classes_at s.network chain.classes
  Reached-only_timed_walk at walk timed =
      Reached-only_walk s.problem (allowed_in s sides k) (shipment_at s.problem k) legs walk forced.forced (ended Reached at)
      (NoneLeaves-destination s.problem s.windows (points_in s.network) sides k is.belongs exists) timed.leads timed.allowed_all

  -- and its arcs are a route
  pub Reached_chain_route : chain.end ≡ Reached → IsRoute s.problem (shipment_at s.problem k) (arcs_of (classes_at s.network chain.classes))
  Reached_chain_route at =
      Reached-IsRoute s.problem (allowed_in s sides k) (shipment_at s.problem k) legs (λ c allowed. allowed_exists s.problem (windows_in s.windows) (points_in s.network) sides k c allowed)
      (is.belongs.valid.parts.shipments k no_shipment exists).ends forced.forced (ended Reached at)

  -- where it is stuck there is no timed walk
  pub Stuck-no_timed_walk : (terminal : ℕ) → chain.end ≡ Stuck terminal → (walk : List Leg) → IsTimedWalk s.problem (points_in s.network) (allowed_in s sides k) (shipment_at s.problem k) walk → ⊥
  Stuck-no_timed_walk terminal at walk timed =
      Stuck-no_walk s.problem (allowed_in s sides k) (shipment_at s.problem k) legs walk terminal forced.forced (ended (Stuck terminal) at) timed.leads timed.allowed_all

  -- and each timed walk begins with the chain
  pub timed_walk_chain : (walk : List Leg) → IsTimedWalk s.problem (points_in s.network) (allowed_in s sides k) (shipment_at s.problem k) walk →
      BeginsWith s.problem (allowed_in s sides k) (shipment_at s.problem k).to (chain_stop s.problem (shipment_at s.problem k).from (classes_at s.network chain.classes)) (classes_at s.network chain.classes) walk
  timed_walk_chain walk timed = AreForced-walk s.problem (allowed_in s sides k) (shipment_at s.problem k).to [] (shipment_at s.problem k).from legs walk forced.forced.forced timed.leads timed.allowed_all
