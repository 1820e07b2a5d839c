-- The best of a leaf's starting prices, one after the other.
use Rattle.std.proofs.Common.{◌≡◌, ℕ, ◌≤◌, Bool, true, false, List, ⊎_elim, inl, inr, refl, ◌∙◌, subst, arith}
use Rattle.std.specs.Prelude.{Option, IfOk, Result, Ok, Err}
use Rattle.std.specs.declared.alloc.AllocError.{AllocError}
use Rattle.fp_model.specs.Problem.{Problem}
use Rattle.fp_flatnet.specs.declared.window_tables.Window.{Window}
use Rattle.fp_flatnet.specs.Tables.{windows_in}
use Rattle.fp_longestarcs.specs.Networks.{points_in}
use Rattle.fp_tree.specs.declared.sides.Side.{Side}
use Rattle.fp_prices.specs.declared.values.bounds.LeafBound.{LeafBound}
use Rattle.fp_prices.specs.declared.values.bounds.LeafBound.TheVariants.{Empty, Value}
use Rattle.fp_prices.specs.declared.leaf_prices.Kind.{Kind}
use Rattle.fp_prices.specs.declared.leaf_prices.Kind.TheVariants.{Linear, Even, Table}
use Rattle.fp_prices.specs.Leaves.{IsBoundOf, IsLeafValue}
use Rattle.fp_prices.specs.Rounds.{LeafModel}
use Rattle.fp_prices.specs.Shares.{ClassShare}
use Rattle.fp_prices.proofs.OneValue.{leaf-value-some, leaf-value-unique}
use Rattle.fp_duals.specs.declared.starts.Start.{Start}
use Rattle.fp_duals.specs.Starts.{EachMode, EachStart, IsBestStart, IsNext, IsOneOf, IsStart, IsStartKind, TabledModel}

-- a bound that is at most a number tells that each value by its prices is
pub value-le : (p : Problem) (windows : ℕ → ℕ → Option Window) (points : ℕ → List ℕ) (sides : List Side) (tables : List (List ClassShare)) (kind : Kind) (forced : Bool) (bound : LeafBound) (n : ℕ) →
    IsBoundOf p windows points sides tables kind forced bound → ((value : ℕ) → bound ≡ Value value → value ≤ n) → (other : ℕ) → IsLeafValue p windows points sides tables kind forced other → other ≤ n
value-le p windows points sides tables kind forced (Empty k) n is within other leaf =
    absurd (leaf-value-some p windows points sides tables kind forced other leaf (record { shipment = k; exists = is.exists; none = is.none }))
value-le p windows points sides tables kind forced (Value v) n is within other leaf =
    let same : other ≡ v = leaf-value-unique p windows points sides tables kind forced other v leaf is in
    omega (arith, same, within v refl)

module _ (p : Problem) (windows : ℕ → ℕ → Option Window) (points : ℕ → List ℕ) (sides : List Side) (tables : List (List ClassShare)) where
  -- what is at most a number is at most a greater one
  EachMode-le : (kind : Kind) (m n : ℕ) → m ≤ n → EachMode p windows points sides tables kind (λ other. other ≤ m) → EachMode p windows points sides tables kind (λ other. other ≤ n)
  EachMode-le kind m n less each = λ forced value is. omega (arith, less, each forced value is)

  two-modes : (kind : Kind) (m n : ℕ) → m ≤ n → ((other : ℕ) → IsLeafValue p windows points sides tables kind true other → other ≤ m) → ((other : ℕ) → IsLeafValue p windows points sides tables kind false other → other ≤ n) →
      EachMode p windows points sides tables kind (λ other. other ≤ n)
  two-modes kind m n less whole plain true other is = omega (arith, less, whole other is)
  two-modes kind m n less whole plain false other is = plain other is

  -- the same of what a call gives
  pub two-modes_told : (kind : Kind) (m : ℕ) (r : Result Start AllocError) → IfOk r (λ (s : Start). m ≤ s.value) → ((other : ℕ) → IsLeafValue p windows points sides tables kind true other → other ≤ m) →
      IfOk r (λ (s : Start). (other : ℕ) → IsLeafValue p windows points sides tables kind false other → other ≤ s.value) → IfOk r (λ (s : Start). EachMode p windows points sides tables kind (λ other. other ≤ s.value))
  two-modes_told kind m (Err e) less whole plain = tt
  two-modes_told kind m (Ok s) less whole plain = two-modes kind m s.value less whole plain

  -- the six starts, where the inherited kind is by a table, or one of the others
  pub six-starts : (kind : Kind) (first linear even n : ℕ) → first ≤ linear → linear ≤ even → even ≤ n → ((other : ℕ) → IsLeafValue p windows points sides tables Linear true other → other ≤ first) →
      ((other : ℕ) → IsLeafValue p windows points sides tables Linear false other → other ≤ linear) → EachMode p windows points sides tables Even (λ other. other ≤ even) →
      ((id : ℕ) → kind ≡ Table id → EachMode p windows points sides tables kind (λ other. other ≤ n)) → EachStart p windows points sides tables kind (λ other. other ≤ n)
  six-starts kind first linear even n a b c whole plain by_even by_table = record {
    linear = by_linear;
    even = EachMode-le Even even n c by_even;
    inherited = of kind by_table;
  }
    where
      by_linear : EachMode p windows points sides tables Linear (λ other. other ≤ n)
      by_linear = EachMode-le Linear linear n (omega (arith, b, c)) (two-modes Linear first linear a whole plain)

      of : (k : Kind) → ((id : ℕ) → k ≡ Table id → EachMode p windows points sides tables k (λ other. other ≤ n)) → EachMode p windows points sides tables k (λ other. other ≤ n)
      of Linear by_id = by_linear
      of Even by_id = EachMode-le Even even n c by_even
      of (Table id) by_id = by_id id refl

-- one of two kinds of which the first is one of two
one-of : (first second between kind : Kind) → IsOneOf first second between → IsOneOf between second kind → IsOneOf first second kind
one-of first second between kind was is =
    ⊎_elim (λ (same : kind ≡ between). ⊎_elim (λ (e : between ≡ first). let o : IsOneOf first second kind = inl (same ∙ e) in o) (λ (e : between ≡ second). let o : IsOneOf first second kind = inr (same ∙ e) in o) was)
    (λ (same : kind ≡ second). let o : IsOneOf first second kind = inr same in o) is

-- a start after one after another, both by the same kind
pub next-next_told : (x : TabledModel) (first between : Start) (kind : Kind) (r : Result Start AllocError) → IsNext x first kind between → IfOk r (IsNext x between kind) → IfOk r (IsNext x first kind)
next-next_told x first between kind (Err e) was is = tt
next-next_told x first between kind (Ok s) was is =
    record { is = is.is; one = one-of first.kind kind between.kind s.kind was.one is.one; no_less = omega (arith, was.no_less, is.no_less) }

pub next-less_told : (x : TabledModel) (first : Start) (kind : Kind) (r : Result Start AllocError) → IfOk r (IsNext x first kind) → IfOk r (λ (s : Start). first.value ≤ s.value)
next-less_told x first kind (Err e) is = tt
next-less_told x first kind (Ok s) is = is.no_less

-- the kinds of the starts, one after the other
start-kind : (inherited first second third last : Kind) → first ≡ Linear → IsOneOf first Linear second → IsOneOf second Even third → IsOneOf third inherited last → IsStartKind inherited last
start-kind inherited first second third last is by_second by_third by_last =
    let plain : second ≡ Linear = ⊎_elim (λ (e : second ≡ first). e ∙ is) (λ (e : second ≡ Linear). e) by_second in
    ⊎_elim
    (λ (same : last ≡ third).
    ⊎_elim (λ (e : third ≡ second). let k : IsStartKind inherited last = inl (same ∙ e ∙ plain) in k) (λ (e : third ≡ Even). let k : IsStartKind inherited last = inr (inl (same ∙ e)) in k) by_third)
    (λ (e : last ≡ inherited). let k : IsStartKind inherited last = inr (inr e) in k) by_last

-- the first start: linear prices with forced classes paid whole
pub record IsFirstStart (leaf : LeafModel) (tables : List (List ClassShare)) (first : Start) : Type 0 where
  pub is : IsStart leaf tables first
  pub linear : first.kind ≡ Linear
  pub forced : first.forced ≡ true

-- its value is that by linear prices with forced classes paid whole
first-value : (leaf : LeafModel) (tables : List (List ClassShare)) (first : Start) → IsFirstStart leaf tables first →
    IsLeafValue leaf.setting.problem (windows_in leaf.setting.windows) (points_in leaf.setting.network) leaf.sides tables Linear true first.value
first-value leaf tables first start =
    let P : Kind → Bool → Type 0 = λ k f. IsLeafValue leaf.setting.problem (windows_in leaf.setting.windows) (points_in leaf.setting.network) leaf.sides tables k f first.value in
    subst (λ (f : Bool). P Linear f) start.forced (subst (λ (k : Kind). P k first.forced) start.linear start.is.value)

-- and there is no other
first-le : (leaf : LeafModel) (tables : List (List ClassShare)) (first : Start) → IsFirstStart leaf tables first →
    (other : ℕ) → IsLeafValue leaf.setting.problem (windows_in leaf.setting.windows) (points_in leaf.setting.network) leaf.sides tables Linear true other → other ≤ first.value
first-le leaf tables first start = λ other value.
    let same : other ≡ first.value =
    leaf-value-unique leaf.setting.problem (windows_in leaf.setting.windows) (points_in leaf.setting.network) leaf.sides tables Linear true other first.value value (first-value leaf tables first start) in
    omega (arith, same)

-- the best of all, from the first start, the better by linear prices, the better by even prices, and the last
pub best-start : (x : TabledModel) (kind : Kind) (first linear even last : Start) → IsFirstStart x.leaf x.tables first → IsNext x first Linear linear →
    ((other : ℕ) → IsLeafValue x.leaf.setting.problem (windows_in x.leaf.setting.windows) (points_in x.leaf.setting.network) x.leaf.sides x.tables Linear false other → other ≤ linear.value) → IsNext x linear Even even →
    EachMode x.leaf.setting.problem (windows_in x.leaf.setting.windows) (points_in x.leaf.setting.network) x.leaf.sides x.tables Even (λ other. other ≤ even.value) → IsNext x even kind last →
    ((id : ℕ) → kind ≡ Table id → EachMode x.leaf.setting.problem (windows_in x.leaf.setting.windows) (points_in x.leaf.setting.network) x.leaf.sides x.tables kind (λ other. other ≤ last.value)) → IsBestStart x.leaf x.tables kind last
best-start x kind first linear even last start by_linear plain by_even both by_last by_table = record {
  is = by_last.is;
  one = start-kind kind first.kind linear.kind even.kind last.kind start.linear by_linear.one by_even.one by_last.one;
  best = six-starts x.leaf.setting.problem (windows_in x.leaf.setting.windows) (points_in x.leaf.setting.network) x.leaf.sides x.tables kind first.value linear.value even.value last.value by_linear.no_less by_even.no_less by_last.no_less
      (first-le x.leaf x.tables first start) plain both by_table;
  above = record { whole = first.value; value = first-value x.leaf x.tables first start; below = omega (arith, by_linear.no_less, by_even.no_less, by_last.no_less) };
}

-- the same of what a call gives
pub best-start_told : (x : TabledModel) (kind : Kind) (first linear even : Start) (r : Result Start AllocError) → IsFirstStart x.leaf x.tables first → IsNext x first Linear linear →
    ((other : ℕ) → IsLeafValue x.leaf.setting.problem (windows_in x.leaf.setting.windows) (points_in x.leaf.setting.network) x.leaf.sides x.tables Linear false other → other ≤ linear.value) → IsNext x linear Even even →
    EachMode x.leaf.setting.problem (windows_in x.leaf.setting.windows) (points_in x.leaf.setting.network) x.leaf.sides x.tables Even (λ other. other ≤ even.value) → IfOk r (IsNext x even kind) →
    IfOk r (λ (s : Start). EachMode x.leaf.setting.problem (windows_in x.leaf.setting.windows) (points_in x.leaf.setting.network) x.leaf.sides x.tables kind (λ other. other ≤ s.value)) → IfOk r (IsBestStart x.leaf x.tables kind)
best-start_told x kind first linear even (Err e) start by_linear plain by_even both by_last by_kind = tt
best-start_told x kind first linear even (Ok last) start by_linear plain by_even both by_last by_kind = best-start x kind first linear even last start by_linear plain by_even both by_last (λ id is_table. by_kind)
