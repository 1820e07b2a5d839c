-- As of which round, and with which added points, a network is the whole one of its instance.
use Rattle.std.proofs.Common.{◌≡◌, ℕ, ◌<◌, ◌≤◌, ◌≢◌, Bool, ◌||◌, ◌&&◌, List, [], ◌∷◌, length, get_or, ⊎_elim, sym, ap, ◌∙◌, arith}
use Rattle.std.specs.Prelude.{nat_eq, nat_le}
use Rattle.std.proofs.Math.Bool.{or-false, or_comm}
use Rattle.std.proofs.lemmas.Bool.{cases_eq, eq-eqb, le-leb, ne_eqb}
use Rattle.fp_model.specs.Problem.{Problem}
use Rattle.fp_timenodes.specs.declared.places.AddedPoint.{AddedPoint}
use Rattle.fp_base_lists.specs.Membership.{list_has}
use Rattle.fp_timenodes.specs.Points.{TimePoints, greatest_round, points_at, with_added}
use Rattle.fp_timenodes.proofs.Rounds.{list_has-with_added, points_at_from_greatest}
use Rattle.fp_longestarcs.specs.Networks.{TimedNetwork, points_in}
use Rattle.fp_longestarcs.specs.Whole.{IsNetworkOf, IsWholeNetwork}
use Rattle.fp_longestarcs.specs.Changes.{HasAlso, extended_points}
use Rattle.fp_longestarcs.proofs.EqualNetworks.{has-with}

-- from the greatest round on, the network as of one round is that as of each later round
pub IsNetworkOf_from_greatest : (p : Problem) (v : TimePoints) (round later : ℕ) (net : TimedNetwork) → greatest_round v.added ≤ round → round ≤ later → IsNetworkOf p v round net → IsNetworkOf p v later net
IsNetworkOf_from_greatest p v round later net least le is = record {
  whole = is.whole;
  points = λ terminal h at. is.points terminal h at ∙ ap (λ (qs : List ℕ). list_has qs at) (sym (points_at_from_greatest v terminal round later least le));
}

-- the points with one more, as of its round or a later one, are those of the network and that point
pub HasAlso-with_added : (p : Problem) (v : TimePoints) (new : AddedPoint) (round : ℕ) (net : TimedNetwork) → new.round ≤ round → IsNetworkOf p v round net →
    HasAlso net new.terminal new.at (with_added v (new ∷ [])) round
HasAlso-with_added p v new round net from is t q h =
    list_has-with_added v new t round q
    ∙ ⊎_elim
    (λ (same : new.terminal ≡ t).
    ap (λ (b : Bool). known || ((b && nat_le new.round round) && here)) (eq-eqb new.terminal t same)
    ∙ ap (λ (b : Bool). known || (b && here)) (le-leb new.round round from)
    ∙ or_comm known here
    ∙ ap (λ (b : Bool). here || b) (sym held)
    ∙ ap (λ (b : Bool). b && here || list_has (points_in net t) q) (sym (eq-eqb t new.terminal (sym same))))
    (λ (other : new.terminal ≢ t).
    let apart : t ≢ new.terminal = λ e. other (sym e) in
    ap (λ (b : Bool). known || ((b && nat_le new.round round) && here)) (ne_eqb new.terminal t other)
    ∙ or-false known
    ∙ sym held
    ∙ ap (λ (b : Bool). b && here || list_has (points_in net t) q) (sym (ne_eqb t new.terminal apart)))
    (cases_eq new.terminal t)
  where
    known : Bool
    known = list_has (points_at v t round) q

    here : Bool
    here = nat_eq new.at q

    held : list_has (points_in net t) q ≡ known
    held = is.points t (omega (arith, h, is.whole.arcs.terminals)) q

-- a whole network with that point beside those of the old one is the network of the points with one
-- more
pub IsNetworkOf-with_added : (p : Problem) (v : TimePoints) (new : AddedPoint) (round : ℕ) (old net : TimedNetwork) → new.round ≤ round → new.terminal < length p.terminals → IsNetworkOf p v round old →
    IsWholeNetwork p net → net.points ≡ extended_points old new.terminal new.at → IsNetworkOf p (with_added v (new ∷ [])) round net
IsNetworkOf-with_added p v new round old net from within is whole points = record {
  whole = whole;
  points = λ t h q.
      ap (λ (l : List (List ℕ)). list_has (get_or l t []) q) points
      ∙ has-with old new.terminal new.at t q (omega (arith, within, is.whole.arcs.terminals))
      ∙ sym (HasAlso-with_added p v new round old from is t q (omega (arith, h, is.whole.arcs.terminals)));
}
