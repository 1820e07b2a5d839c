-- What a row under sides makes of the chain and of the split that its bits give.
use Rattle.std.proofs.Common.{◌≡◌, ℕ, Bool, List, sym, ap, ◌∙◌, subst, arith}
use Rattle.std.specs.Prelude.{IfOk, IfSome, IsNone, IsSome, MatchOption, Option, Some, None, Result, Ok, Err}
use Rattle.std.specs.declared.alloc.AllocError.{AllocError}
use Rattle.fp_model.specs.declared.parts.Leg.{Leg}
use Rattle.fp_model.specs.Numbered.{shipment_at}
use Rattle.fp_flatnet.specs.Tables.{windows_in}
use Rattle.fp_tree.specs.declared.sides.Side.{Side}
use Rattle.fp_tree.specs.declared.sides.Split.{Split}
use Rattle.fp_tree.specs.declared.sides.Split.TheVariants.{ByArc, ByTime, ByTrucks, ByWay}
use Rattle.fp_allowed.specs.Allowed.{tails_of}
use Rattle.fp_allowed.specs.Bits.{IsRowUnder, allowed_in, row_allows}
use Rattle.fp_allowed.specs.Chains.{IsForced, SeveralLeave}
use Rattle.fp_allowed.specs.Choices.{AreByTwo, IsTaken, OneAtMost, PartsClasses}
use Rattle.fp_allowed.specs.Departures.{DividesDepartures, IsSplitAt}
use Rattle.fp_allowed.specs.ForcedChains.{ForcedChain}
use Rattle.fp_allowed.specs.Settings.{IsSetting, Setting}
use Rattle.fp_allowed.proofs.SplitDepartures.{divides, PartsClasses-IsSplitAt}
use Rattle.fp_allowed.proofs.RowClasses.{row_allows_under, allowed_in-IsClass}

-- the chain of the bits is that of the sides
pub forced_under : (s v : Setting) (sides : List Side) (k : ℕ) (row : List Bool) (r : Result ForcedChain AllocError) → s ≡ v → IsSetting s →
    IfOk r (IsForced s.problem s.network (row_allows s.network row) (shipment_at s.problem k)) → IsRowUnder v sides k row →
    IfOk r (IsForced v.problem v.network (allowed_in v sides k) (shipment_at v.problem k))
forced_under s v sides k row (Err e) same is forced under = tt
forced_under s v sides k row (Ok chain) same is forced under =
    let under_s : IsRowUnder s sides k row = subst (λ (x : Setting). IsRowUnder x sides k row) (sym same) under in
    subst (λ (x : Setting). IsForced x.problem x.network (allowed_in x sides k) (shipment_at x.problem k) chain) same
    (subst (λ (allowed : Leg → Bool). IsForced s.problem s.network allowed (shipment_at s.problem k) chain) (row_allows_under s sides k row is under_s) forced)

-- allowed classes of which one alone is by an arc differ
two_differ : (s : Setting) (allowed : Leg → Bool) (terminal arc : ℕ) → AreByTwo allowed (λ c. tails_of s.problem c.arc ≡ terminal) arc → SeveralLeave s.problem allowed terminal
two_differ s allowed terminal arc two = record {
  one = two.one;
  two = two.two;
  one_allowed = two.one_leaves.allowed_it;
  two_allowed = two.two_leaves.allowed_it;
  one_leaves = two.one_leaves.leaves;
  two_leaves = two.two_leaves.leaves;
  differ = λ e. two.not_by (sym (ap (λ (c : Leg). c.arc) e) ∙ two.by);
}

-- allowed classes that a split parts differ
parted_differ : (s : Setting) (allowed : Leg → Bool) (k terminal : ℕ) (split : Split) → PartsClasses s.problem allowed k terminal split → SeveralLeave s.problem allowed terminal
parted_differ s allowed k terminal (ByArc shipment arc) parts = two_differ s allowed terminal arc parts.1
parted_differ s allowed k terminal (ByTime shipment place at) parts =
    let parted = parts.2 in
    record {
      one = parted.one;
      two = parted.two;
      one_allowed = parted.one_leaves.allowed_it;
      two_allowed = parted.two_leaves.allowed_it;
      one_leaves = parted.one_leaves.leaves;
      two_leaves = parted.two_leaves.leaves;
      differ = λ e. absurd (omega (arith, parted.before, parted.from, ap (λ (c : Leg). c.depart) e));
    }
parted_differ s allowed k terminal (ByTrucks arc point until most) parts = absurd parts
parted_differ s allowed k terminal (ByWay shipment arc) parts = two_differ s allowed terminal arc parts.1

-- what a split, or none, says of the bits
abbrev pub Parts : Setting → (Leg → Bool) → ℕ → ℕ → Option Split → Type 0
Parts s allowed k terminal o = MatchOption o (OneAtMost allowed (λ c. tails_of s.problem c.arc ≡ terminal)) (PartsClasses s.problem allowed k terminal)

-- and so of the sides
parts_under : (s : Setting) (sides : List Side) (k terminal : ℕ) (row : List Bool) (o : Option Split) → IsSetting s → IsRowUnder s sides k row → Parts s (row_allows s.network row) k terminal o →
    Parts s (allowed_in s sides k) k terminal o
parts_under s sides k terminal row o is under parts = subst (λ (allowed : Leg → Bool). Parts s allowed k terminal o) (row_allows_under s sides k row is under) parts

pub none_under : (s v : Setting) (sides : List Side) (k terminal : ℕ) (row : List Bool) (o : Option Split) → s ≡ v → IsSetting s → Parts s (row_allows s.network row) k terminal o →
    IsRowUnder v sides k row → IsNone o → OneAtMost (allowed_in v sides k) (λ c. tails_of v.problem c.arc ≡ terminal)
none_under s v sides k terminal row None same is parts under none =
    let under_s : IsRowUnder s sides k row = subst (λ (x : Setting). IsRowUnder x sides k row) (sym same) under in
    subst (λ (x : Setting). OneAtMost (allowed_in x sides k) (λ c. tails_of x.problem c.arc ≡ terminal)) same (parts_under s sides k terminal row None is under_s parts)
none_under s v sides k terminal row (Some split) same is parts under none = cc none

pub several_under : (s v : Setting) (sides : List Side) (k terminal : ℕ) (row : List Bool) (o : Option Split) → s ≡ v → IsSetting s → Parts s (row_allows s.network row) k terminal o →
    IsRowUnder v sides k row → IsSome o → SeveralLeave v.problem (allowed_in v sides k) terminal
several_under s v sides k terminal row None same is parts under some = cc some
several_under s v sides k terminal row (Some split) same is parts under some =
    let under_s : IsRowUnder s sides k row = subst (λ (x : Setting). IsRowUnder x sides k row) (sym same) under in
    subst (λ (x : Setting). SeveralLeave x.problem (allowed_in x sides k) terminal) same (parted_differ s (allowed_in s sides k) k terminal split (parts_under s sides k terminal row (Some split) is under_s parts))

pub at_under : (s v : Setting) (k terminal : ℕ) (row : List Bool) (o : Option Split) → s ≡ v → IsSetting s → Parts s (row_allows s.network row) k terminal o → IfSome o (IsSplitAt v.problem k terminal)
at_under s v k terminal row None same is parts = tt
at_under s v k terminal row (Some split) same is parts = subst (λ (x : Setting). IsSplitAt x.problem k terminal split) same (PartsClasses-IsSplitAt s row k terminal split is parts)

pub divides_under : (s v : Setting) (sides : List Side) (k terminal : ℕ) (row : List Bool) (o : Option Split) → s ≡ v → IsSetting s → Parts s (row_allows s.network row) k terminal o →
    IsRowUnder v sides k row → IfSome o (DividesDepartures v.problem (windows_in v.windows) sides k terminal)
divides_under s v sides k terminal row None same is parts under = tt
divides_under s v sides k terminal row (Some split) same is parts under =
    let under_s : IsRowUnder s sides k row = subst (λ (x : Setting). IsRowUnder x sides k row) (sym same) under in
    subst (λ (x : Setting). DividesDepartures x.problem (windows_in x.windows) sides k terminal split) same
    (divides s sides k terminal is split (PartsClasses-IsSplitAt s row k terminal split is parts) (parts_under s sides k terminal row (Some split) is under_s parts)
    (λ c h. allowed_in-IsClass s sides k c is h))

-- and so where a split is, whatever none says
pub some_divides : (s v : Setting) (sides : List Side) (k terminal : ℕ) (row : List Bool) (o : Option Split) → s ≡ v → IsSetting s → IfSome o (PartsClasses s.problem (row_allows s.network row) k terminal) →
    IsRowUnder v sides k row → IfSome o (DividesDepartures v.problem (windows_in v.windows) sides k terminal)
some_divides s v sides k terminal row None same is parts under = tt
some_divides s v sides k terminal row (Some split) same is parts under = divides_under s v sides k terminal row (Some split) same is parts under

-- which split is taken by the bits is taken by the sides
pub taken_under : (s v : Setting) (sides : List Side) (k terminal : ℕ) (row : List Bool) (o : Option Split) → s ≡ v → IsSetting s →
    IfSome o (IsTaken s.problem (windows_in s.windows) s.network (row_allows s.network row) k terminal) → IsRowUnder v sides k row →
    IfSome o (IsTaken v.problem (windows_in v.windows) v.network (allowed_in v sides k) k terminal)
taken_under s v sides k terminal row None same is taken under = tt
taken_under s v sides k terminal row (Some split) same is taken under =
    let under_s : IsRowUnder s sides k row = subst (λ (x : Setting). IsRowUnder x sides k row) (sym same) under in
    subst (λ (x : Setting). IsTaken x.problem (windows_in x.windows) x.network (allowed_in x sides k) k terminal split) same
    (subst (λ (allowed : Leg → Bool). IsTaken s.problem (windows_in s.windows) s.network allowed k terminal split) (row_allows_under s sides k row is under_s) taken)
