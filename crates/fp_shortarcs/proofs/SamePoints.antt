-- Too short legs over other lists of the same points, as those of a network and those as of a round.
use Rattle.std.proofs.Common.{◌∙◌, ℕ, ◌<◌, List, [], length, get_or, sym, arith}
use Rattle.std.proofs.lemmas.List.Elements.{All-weaker}
use Rattle.fp_model.specs.declared.parts.Leg.{Leg}
use Rattle.fp_model.specs.declared.parts.Member.{Member}
use Rattle.fp_model.specs.Members.{member_leg}
use Rattle.fp_model.specs.Numbered.{no_leg}
use Rattle.fp_model.specs.Problem.{IsValid, Problem, arc_at}
use Rattle.fp_model.proofs.Validity.{IsArc-valid}
use Rattle.fp_timenodes.proofs.Floors.{floor_same}
use Rattle.fp_allowed.specs.SamePoints.{AgreeOnPoints}
use Rattle.fp_allowed.proofs.SamePoints.{AgreeOnPoints_sym}
use Rattle.fp_relaxmodel.specs.Relaxed.{HasRoutes}
use Rattle.fp_relaxmodel.proofs.RouteCosts.{HasRoutes-exist}
use Rattle.fp_shortarcs.specs.declared.shorts.Short.{Short}
use Rattle.fp_shortarcs.specs.TooShort.{AreTooShort, CanBePoint, IsShort, IsTooShort, reach_of}

module _ (p : Problem) (walks : List (List Leg)) (valid : IsValid p) (routes : HasRoutes p walks) where
  -- a leg is too short over the one lists where it is over the others
  pub IsTooShort_same : (points others : ℕ → List ℕ) → AgreeOnPoints p points others → (m : Member) → IsTooShort p points walks m → IsTooShort p others walks m
  IsTooShort_same points others same m is = record {
    onward = is.onward;
    short = omega (arith, is.short, floor_same (points head) (others head) 1 (reach_of p c) (same head within));
  }
    where
      c : Leg
      c = member_leg walks m

      head : ℕ
      head = (arc_at p c.arc).to

      within : head < length p.terminals
      within =
          let leg : m.leg < length (get_or walks m.shipment []) = omega (arith, is.onward.leg) in
          (IsArc-valid p c.arc valid (HasRoutes-exist p walks routes m.shipment [] is.onward.shipment m.leg no_leg leg)).to

  -- so the too short legs are the same
  pub AreTooShort_same : (points others : ℕ → List ℕ) → AgreeOnPoints p points others → (shorts : List Short) → AreTooShort p points walks shorts → AreTooShort p others walks shorts
  AreTooShort_same points others same shorts are = record {
    each = All-weaker (IsShort p points walks) (IsShort p others walks) (λ s is. record { leg = IsTooShort_same points others same _ is.leg; place = is.place }) shorts are.each;
    ascending = are.ascending;
    every = λ m is. are.every m (IsTooShort_same others points (AgreeOnPoints_sym p points others same) m is);
  }

-- and a place can be made a point of the one lists where it can be one of the others
pub CanBePoint_same : (p : Problem) (points others : ℕ → List ℕ) (s : Short) → AgreeOnPoints p points others → CanBePoint p points s → CanBePoint p others s
CanBePoint_same p points others s same can = record {
  terminal = can.terminal;
  new = sym (same s.terminal can.terminal s.at) ∙ can.new;
  after = can.after;
  before = can.before;
}
