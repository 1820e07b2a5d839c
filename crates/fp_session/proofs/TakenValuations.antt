-- What is kept of a leaf that takes over how the leaf above is valued.
use Rattle.std.proofs.Common.{◌≡◌, ℕ, ◌≤◌, ⊎_elim, Bool, false, List, [], ◌++◌, length, sym, ap, ◌∙◌, subst, arith}
use Rattle.std.specs.Prelude.{⊤, Option, None, Some, IfOk, IfSome, IsSomeAnd, Result, Ok, Err}
use Rattle.std.specs.declared.alloc.AllocError.{AllocError}
use Rattle.std.proofs.Math.Seq.{take-append_seam}
use Rattle.std.proofs.lemmas.List.{length-append, take-append-le}
use Rattle.fp_model.specs.Problem.{Problem}
use Rattle.fp_flatnet.specs.Tables.{WindowTable, windows_in}
use Rattle.fp_tree.specs.declared.sides.Side.{Side}
use Rattle.fp_prices.specs.declared.leaf_prices.Kind.TheVariants.{Even, Linear}
use Rattle.fp_prices.specs.declared.leaf_prices.LeafPrice.{LeafPrice}
use Rattle.fp_prices.specs.Leaves.{IsLeafValue}
use Rattle.fp_prices_gifts.specs.GiftKinds.{IsPricedValue}
use Rattle.fp_certificate_lines.specs.declared.certificates.Valuation.{Valuation}
use Rattle.fp_certificate_lines.specs.Valuations.{first_sides, sides_valued}
use Rattle.fp_session_history.specs.Notes.{History, points_of}
use Rattle.fp_session.specs.declared.kept.Kept.{Kept}
use Rattle.fp_session.specs.declared.payloads.Payload.{Payload}
use Rattle.fp_duals_leaves.specs.Prices.{HaveGrown, PriceLists}
use Rattle.fp_session.specs.Nodes.{IsEarnedAs, IsKept, IsNoLess, IsRaisedTo, IsSteady}
use Rattle.fp_session.specs.Outcomes.{count_taken, taken_kept}
use Rattle.fp_session.proofs.EarnedSplits.{IsEarnedAs-kept}

-- the values of a leaf by linear and by even prices as of a round are at most a number
pub record AreAtMost (h : History) (round : ℕ) (sides : List Side) (most : ℕ) : Type 0 where
  pub linear : (f : Bool) (other : ℕ) → IsLeafValue h.problem (windows_in h.windows) (points_of h round) sides [] Linear f other → other ≤ most
  pub even : (f : Bool) (other : ℕ) → IsLeafValue h.problem (windows_in h.windows) (points_of h round) sides [] Even f other → other ≤ most

-- and at most a larger one
pub AreAtMost-more : (h : History) (round : ℕ) (sides : List Side) (most more : ℕ) → most ≤ more → AreAtMost h round sides most → AreAtMost h round sides more
AreAtMost-more h round sides most more le are = record {
  linear = λ f other v. omega (arith, are.linear f other v, le);
  even = λ f other v. omega (arith, are.even f other v, le);
}

-- those of a leaf that isn't empty are at most its value, as of its price's round
pub AreAtMost-kept : (h : History) (sides : List Side) (payload : Payload) (value round : ℕ) → IsKept h sides payload value → payload.empty ≡ false → payload.valuation.price.round ≡ round → AreAtMost h round sides value
AreAtMost-kept h sides payload value round kept some same =
    let own : IsEarnedAs h sides payload.valuation value = IsEarnedAs-kept h sides payload value kept some in
    subst (λ (r : ℕ). AreAtMost h r sides value) same
    (record { linear = λ f other v. omega (arith, own.is, own.earned.linear f other v); even = λ f other v. omega (arith, own.is, own.earned.even f other v) })

-- it is valued under the same sides as the leaf above
same-sides : (o : Option ℕ) (above more : List Side) → IfSome o (λ count. count ≤ length above) → first_sides o above ≡ first_sides (Some (count_taken o (length above))) (above ++ more)
same-sides None above more few = sym (take-append_seam above more)
same-sides (Some count) above more few = sym (take-append-le count above more few)

few-sides : (o : Option ℕ) (above more : List Side) → IfSome o (λ count. count ≤ length above) → count_taken o (length above) ≤ length (above ++ more)
few-sides None above more few = omega (arith, length-append above more)
few-sides (Some count) above more few = omega (arith, few, length-append above more)

-- what is kept of it is true, where its values by linear and by even prices as of the round of that price are at most
-- the value of the leaf above, and spans are sought
pub kept-taken : (h : History) (above more : List Side) (kept : Kept) → IsKept h above kept.payload kept.value → kept.payload.empty ≡ false → (h.unit ≡ None → ⊥) →
    AreAtMost h kept.payload.valuation.price.round (above ++ more) kept.value → IsKept h (above ++ more) (taken_kept kept (length above)).payload (taken_kept kept (length above)).value
kept-taken h above more kept is some spans are =
    let v : Valuation = kept.payload.valuation in
    let price : LeafPrice = v.price in
    let own : IsEarnedAs h above v kept.value = IsEarnedAs-kept h above kept.payload kept.value is some in
    let taken : (P : List Side → Type 0) → P (sides_valued v above) → P (first_sides (Some (count_taken v.sides (length above))) (above ++ more)) = λ P. subst P (same-sides v.sides above more is.under.few) in
    record {
      price = is.price;
      under = record { few = few-sides v.sides above more is.under.few; whole = λ none. absurd (spans none) };
      worth = record {
        earned = record {
          value = own.earned.value;
          is = taken (λ sides. IsPricedValue h.problem (windows_in h.windows) (points_of h price.round) sides h.tables h.spans h.gifts price.kind price.forced own.earned.value) own.earned.is;
          linear = λ f other x. omega (arith, own.is, are.linear f other x);
          even = λ f other x. omega (arith, own.is, are.even f other x);
          linear_under = taken (λ sides. (f : Bool) (other : ℕ) → IsLeafValue h.problem (windows_in h.windows) (points_of h price.round) sides [] Linear f other → other ≤ own.earned.value) own.earned.linear_under;
          even_under = taken (λ sides. (f : Bool) (other : ℕ) → IsLeafValue h.problem (windows_in h.windows) (points_of h price.round) sides [] Even f other → other ≤ own.earned.value) own.earned.even_under;
        };
        is = own.is;
      };
    }

-- where spans are sought there is a unit
pub some-unit : (o : Option ℕ) → IsSomeAnd o (λ (u : ℕ). ⊤) → o ≡ None → ⊥
some-unit None spans none = spans
some-unit (Some u) spans none = cc none

-- and so there is with further prices
pub no-unit : (p : Problem) (table : WindowTable) (before after : PriceLists) → HaveGrown p table before after → IsSomeAnd before.unit (λ (u : ℕ). ⊤) → after.unit ≡ None → ⊥
no-unit p table before after grown spans none = some-unit before.unit spans (sym (ap (λ (x : PriceLists). x.unit) grown.is) ∙ none)

-- what is no less is so where spans are sought, or the price above is steady
pub raised-ok : (o : Option ℕ) (above : Kept) (r : Result Kept AllocError) → IfOk r (IsNoLess above.value) → IfOk r (IsRaisedTo o above)
raised-ok o above (Ok kept) is = λ so. is
raised-ok o above (Err e) is = tt

-- and where they aren't, it's enough that it is so by steady prices
pub inherited-ok : (o : Option ℕ) (above : Kept) (r : Result Kept AllocError) → o ≡ None → (IsSteady above.payload.valuation.price → IfOk r (IsNoLess above.value)) → IfOk r (IsRaisedTo o above)
inherited-ok o above (Ok kept) none is =
    λ so. ⊎_elim (λ (spans : IsSomeAnd o (λ (u : ℕ). ⊤)). absurd (some-unit o spans none)) (λ (steady : IsSteady above.payload.valuation.price). is steady) so
inherited-ok o above (Err e) none is = tt
