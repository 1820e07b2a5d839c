-- Sides bar the same where what is barred is told otherwise, or over other lists of the same points; where nothing is barred, there are none.
use Rattle.std.proofs.Common.{◌≡◌, ℕ, ◌<◌, true, List, [], length, refl, subst, arith}
use Rattle.std.specs.Prelude.{◌↔◌}
use Rattle.fp_model.specs.declared.parts.Leg.{Leg}
use Rattle.fp_model.specs.Problem.{Problem}
use Rattle.fp_longestarcs.specs.Classes.{class_of}
use Rattle.fp_tree.specs.declared.sides.Side.{Side}
use Rattle.fp_allowed.specs.Allowed.{exit_of, meets_all}
use Rattle.fp_prices_spans.specs.SpanBars.{AreBarsOf}

module _ (p : Problem) (points : ℕ → List ℕ) (IsBarred : ℕ → Leg → Type 0) where
  -- where nothing is barred there are no bars
  pub bars-none : ((k : ℕ) (class : Leg) → IsBarred k class → ⊥) → AreBarsOf p points IsBarred []
  bars-none none = record { are = λ i d inside. absurd (omega (arith, inside)); exact = λ k l exists arc early. (λ meets barred. none k (class_of p points 1 l) barred, λ free. refl) }

  -- bars of what is told in one way are bars of what is told in another
  pub bars-told : (IsSo : ℕ → Leg → Type 0) → ((k : ℕ) (class : Leg) → IsBarred k class → IsSo k class) → ((k : ℕ) (class : Leg) → IsSo k class → IsBarred k class) → (bars : List Side) → AreBarsOf p points IsBarred bars → AreBarsOf p points IsSo bars
  bars-told IsSo to from bars is = record {
    are = is.are;
    exact = λ k l exists arc early.
        let class : Leg = class_of p points 1 l in
        let told : (meets_all k bars (exit_of p l) ≡ true) ↔ (IsBarred k class → ⊥) = is.exact k l exists arc early in
        (λ meets so. told.0 meets (from k class so), λ free. told.1 (λ barred. free (to k class barred)));
  }

  -- and so are bars over points by which legs have the same classes
  pub bars-over : (others : ℕ → List ℕ) → ((l : Leg) → l.arc < length p.arcs → class_of p points 1 l ≡ class_of p others 1 l) → (bars : List Side) → AreBarsOf p points IsBarred bars → AreBarsOf p others IsBarred bars
  bars-over others same bars is = record {
    are = is.are;
    exact = λ k l exists arc early. subst (λ (class : Leg). (meets_all k bars (exit_of p l) ≡ true) ↔ (IsBarred k class → ⊥)) (same l arc) (is.exact k l exists arc early);
  }
