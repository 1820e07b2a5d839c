-- A list of classes that a shipment can go by one after the other is a timed walk over the classes that its row allows, and each such walk is one.
use Rattle.std.proofs.Common.{◌≡◌, ℕ, ◌≤◌, true, false, Bool, List, [], ◌∷◌, ⊎_elim, inl, inr, ap, sym, ◌∙◌, refl}
use Rattle.std.specs.Prelude.{◌⊎◌, ◌&&◌, ◌↔◌, Option, Some, None, nat_eq, nat_le}
use Rattle.std.specs.List.{AllByRecursion}
use Rattle.std.proofs.lemmas.Bool.{and_from, and_parts, cond-true, eq-eqb, eqb-true, false_from_ne_true, false≢true, le-leb, leb-true}
use Rattle.std.proofs.lemmas.Option.{cond_some}
use Rattle.fp_model.specs.declared.parts.Leg.{Leg}
use Rattle.fp_model.specs.declared.parts.Shipment.{Shipment}
use Rattle.fp_model.specs.Problem.{Problem, arc_at}
use Rattle.fp_model.specs.Routes.{Leads, arcs_of}
use Rattle.fp_longestarcs.specs.Classes.{head_of}
use Rattle.fp_longestarcs.specs.Networks.{IsClass, TimedNetwork, class_number, points_in}
use Rattle.fp_longestarcs.specs.Whole.{IsWholeNetwork}
use Rattle.fp_allowed.specs.Bits.{bit_of, row_allows}
use Rattle.fp_allowed.specs.Walks.{FollowsHeads, IsTimedWalk}
use Rattle.fp_allowed.proofs.RowClasses.{is_class_parts, row_allows_from}
use Rattle.fp_prices.proofs.PricedClasses.{class-exists}
use Rattle.fp_duals_walks.specs.declared.row_walks.Standing.{Standing}
use Rattle.fp_duals_walks.specs.AllowedWalks.{after_class, can_take, standing_after}
use Rattle.fp_base_lists.proofs.Truth.{option-cases}

-- what is told of where it stands, and false where it comes no further
abbrev goes_by : (Standing → Bool) → Option Standing → Bool
goes_by test None = false
goes_by test (Some next) = test next

-- whether a shipment can go by all these classes to a terminal
abbrev pub goes_on : Problem → TimedNetwork → List Bool → ℕ → List Leg → Standing → Bool
goes_on p net row there [] here = nat_eq here.terminal there
goes_on p net row there (c ∷ walk) here = goes_by (goes_on p net row there walk) (after_class p net row here c)

-- a shipment at its origin
abbrev pub at_origin : Shipment → Standing
at_origin s = record { terminal = s.from; ready = 0 }

-- a row allows a class of its network exactly where its bit is set
pub bit-allows : (net : TimedNetwork) (row : List Bool) (c : Leg) (b : Bool) → IsClass net c → bit_of row (class_number net c) ≡ b → b ≡ row_allows net row c
bit-allows net row c true class bit = sym (row_allows_from net row c class bit)
bit-allows net row c false class bit =
    sym (false_from_ne_true (row_allows net row c) (λ allows. absurd (false≢true (sym bit ∙ (is_class_parts net row c allows).1))))

module _ (p : Problem) (net : TimedNetwork) (row : List Bool) (there : ℕ) where
  pub goes-none : (c : Leg) (walk : List Leg) (here : Standing) → after_class p net row here c ≡ None → goes_on p net row there (c ∷ walk) here ≡ false
  goes-none c walk here is = ap (goes_by (goes_on p net row there walk)) is

  pub goes-some : (c : Leg) (walk : List Leg) (here next : Standing) → after_class p net row here c ≡ Some next → goes_on p net row there (c ∷ walk) here ≡ goes_on p net row there walk next
  goes-some c walk here next is = ap (goes_by (goes_on p net row there walk)) is

  -- what is known of a class by which it goes on
  record Takes (here : Standing) (c : Leg) (next : Standing) : Type 0 where
    allowed : row_allows net row c ≡ true
    leaves : (arc_at p c.arc).from ≡ here.terminal
    ready : here.ready ≤ c.depart
    next_is : standing_after p net c ≡ next

  takes : (here : Standing) (c : Leg) (next : Standing) → after_class p net row here c ≡ Some next → Takes here c next
  takes here c next is =
      let told = cond_some (can_take p net row here c) (standing_after p net c) next is in
      let first = and_parts (row_allows net row c) (nat_eq (arc_at p c.arc).from here.terminal && nat_le here.ready c.depart) told.0 in
      let second = and_parts (nat_eq (arc_at p c.arc).from here.terminal) (nat_le here.ready c.depart) first.1 in
      record {
        allowed = first.0;
        leaves = eqb-true (arc_at p c.arc).from here.terminal second.0;
        ready = leb-true here.ready c.depart second.1;
        next_is = told.1;
      }

  takes-so : (here : Standing) (c : Leg) → row_allows net row c ≡ true → (arc_at p c.arc).from ≡ here.terminal → here.ready ≤ c.depart →
      after_class p net row here c ≡ Some (standing_after p net c)
  takes-so here c allowed leaves ready =
      cond-true (can_take p net row here c) (Some (standing_after p net c)) None
      (and_from _ _ allowed (and_from _ _ (eq-eqb (arc_at p c.arc).from here.terminal leaves) (le-leb here.ready c.depart ready)))

  -- from where it stands, allowed classes lead it there, each at or after the head of the one before
  record LeadsFrom (here : Standing) (walk : List Leg) : Type 0 where
    leads : Leads p here.terminal (arcs_of walk) there
    allowed_all : AllByRecursion (λ c. row_allows net row c ≡ true) walk
    follows : FollowsHeads (head_of p (points_in net)) here.ready walk

  goes-leads : IsWholeNetwork p net → (walk : List Leg) (here : Standing) → goes_on p net row there walk here ≡ true → LeadsFrom here walk
  goes-leads whole [] here all = record { leads = eqb-true here.terminal there all; allowed_all = tt; follows = tt }
  goes-leads whole (c ∷ walk) here all =
      ⊎_elim
      (λ (none : after_class p net row here c ≡ None). absurd (false≢true (sym (goes-none c walk here none) ∙ all)))
      (λ (some : (next : Standing) × (after_class p net row here c ≡ Some next)).
      let by = takes here c some.0 some.1 in
      let after : after_class p net row here c ≡ Some (standing_after p net c) = takes-so here c by.allowed by.leaves by.ready in
      let rest : LeadsFrom (standing_after p net c) walk = goes-leads whole walk (standing_after p net c) (sym (goes-some c walk here (standing_after p net c) after) ∙ all) in
      record {
        leads = (class-exists p net c whole (is_class_parts net row c by.allowed).0, by.leaves, rest.leads);
        allowed_all = (by.allowed, rest.allowed_all);
        follows = (by.ready, rest.follows);
      })
      (option-cases (after_class p net row here c))

  leads-goes : (walk : List Leg) (here : Standing) → LeadsFrom here walk → goes_on p net row there walk here ≡ true
  leads-goes [] here all = eq-eqb here.terminal there all.leads
  leads-goes (c ∷ walk) here all =
      let after : after_class p net row here c ≡ Some (standing_after p net c) = takes-so here c all.allowed_all.0 all.leads.1 all.follows.0 in
      goes-some c walk here (standing_after p net c) after
      ∙ leads-goes walk (standing_after p net c) (record { leads = all.leads.2; allowed_all = all.allowed_all.1; follows = all.follows.1 })

-- from its origin it goes by a list of classes to its destination exactly where they are such a timed walk of it
pub goes-walk : (p : Problem) (net : TimedNetwork) (row : List Bool) (s : Shipment) → IsWholeNetwork p net → (walk : List Leg) (b : Bool) → b ≡ goes_on p net row s.to walk (at_origin s) →
    (b ≡ true) ↔ IsTimedWalk p (points_in net) (row_allows net row) s walk
goes-walk p net row s whole walk b is = (
  λ told.
      let all = goes-leads p net row s.to whole walk (at_origin s) (sym is ∙ told) in
      record { leads = all.leads; allowed_all = all.allowed_all; follows = all.follows },
  λ timed. is ∙ leads-goes p net row s.to walk (at_origin s) (record { leads = timed.leads; allowed_all = timed.allowed_all; follows = timed.follows }),
)
