-- The bars of narrowings ask alike, whatever lists they are, so any of them tells what a leaf is worth.
use Rattle.std.proofs.Common.{◌≡◌, ℕ, ◌≤◌, ◌<◌, Bool, true, false, List, [], ◌∷◌, ◌++◌, length, refl, sym, subst, arith, ⊎_elim, inl, inr}
use Rattle.std.specs.Prelude.{◌↔◌, All, Option}
use Rattle.std.specs.Int.{div_ceil}
use Rattle.std.specs.List.{AllByRecursion}
use Rattle.fp_model.specs.declared.parts.Leg.{Leg}
use Rattle.fp_model.specs.Problem.{IsValid, Problem}
use Rattle.fp_flatnet.specs.declared.window_tables.Window.{Window}
use Rattle.fp_flatnet.specs.Tables.{WindowTable, windows_in}
use Rattle.fp_longestarcs.specs.Classes.{class_of}
use Rattle.fp_tree.specs.declared.sides.Side.{Side}
use Rattle.fp_allowed.specs.SamePoints.{AgreeOnPoints}
use Rattle.fp_allowed.proofs.SamePoints.{AgreeOnPoints_sym, class_of_same}
use Rattle.fp_prices.specs.declared.leaf_prices.Kind.{Kind}
use Rattle.fp_prices.specs.declared.leaf_prices.LeafPrice.{LeafPrice}
use Rattle.fp_prices.specs.Shares.{ClassShare}
use Rattle.fp_prices_gifts.specs.declared.gifts.Gift.{Gift}
use Rattle.fp_prices_gifts.specs.GiftBars.{IsGiftBarred, IsMomentBarred}
use Rattle.fp_prices_gifts.specs.GiftKinds.{gifts_beside}
use Rattle.fp_prices_spans.specs.SpanKinds.{spans_beside}
use Rattle.fp_prices_spans.specs.SpanLists.{IsSpanOf}
use Rattle.fp_prices_spans.specs.Spans.{ClassSpan}
use Rattle.fp_certificate_lines.specs.declared.certificates.Node.{Node}
use Rattle.fp_certificate_lines.specs.declared.certificates.Node.TheVariants as node
use Rattle.fp_certificate_lines.specs.Moments.{by_moments}
use Rattle.fp_certificate_lines.specs.Statements.{Statement}
use Rattle.fp_certificate_lines.specs.Valuations.{sides_valued}
use Rattle.fp_certificate_rules.specs.Leaves.{AreBarsAfter, AreBarsBy, AreNarrowingBars, IsLeafEmptyBy, IsLeafValueBy, IsLeafWorth, IsNarrowedLeafWorth, NarrowedLeaf, PlacedNarrowing, worth_of}
use Rattle.fp_certificate_rules.specs.Points.{points_as_of}
use Rattle.fp_certificate_rules.specs.Units.{IsLeastAmount, rounded_up}
use Rattle.fp_checker.specs.LeafWays.{AskAlike}
use Rattle.fp_checker.proofs.BarLists.{AskAlike-append, AskAlike-refl, bars-alike, bars-of_same}
use Rattle.fp_checker.proofs.LeavesBy.{leaf_empty-alike, leaf_value-alike}
use Rattle.fp_checker.proofs.SameBars.{gift_barred-alike, moment_barred-alike}
use Rattle.fp_checker.proofs.SamePointBars.{gift_barred-same, moment_barred-same}
use Rattle.fp_checker.proofs.SameSides.{AskAlike-sym}

module _ (p : Problem) (windows : ℕ → ℕ → Option Window) (tables : List (List ClassShare)) (spans : List ClassSpan) (gifts : List Gift) (kind : Kind) (forced : Bool) (money : ℕ) where
  module _ (points : ℕ → List ℕ) (sides others : List Side) (alike : AskAlike sides others) where
    -- bars under sides are bars under others that ask alike
    pub bars_by-sides : (timed : Bool) (bars : List Side) → AreBarsBy timed p windows points sides tables spans gifts kind forced money bars → AreBarsBy timed p windows points others tables spans gifts kind forced money bars
    bars_by-sides false bars are =
        bars-of_same p points points (IsGiftBarred p windows points sides tables spans gifts kind forced money) (IsGiftBarred p windows points others tables spans gifts kind forced money) bars
        (λ k l leaves. (
          gift_barred-alike p tables spans gifts kind forced k (class_of p points 1 l) sides others alike windows points money,
          gift_barred-alike p tables spans gifts kind forced k (class_of p points 1 l) others sides (AskAlike-sym sides others alike) windows points money,
        )) are
    bars_by-sides true bars are =
        bars-of_same p points points (IsMomentBarred p windows points sides tables spans gifts kind forced money) (IsMomentBarred p windows points others tables spans gifts kind forced money) bars
        (λ k l leaves. (
          moment_barred-alike p tables spans gifts kind forced k (class_of p points 1 l) sides others alike windows points money,
          moment_barred-alike p tables spans gifts kind forced k (class_of p points 1 l) others sides (AskAlike-sym sides others alike) windows points money,
        )) are

    -- and any two lists of them ask alike
    bars_by-alike : (timed : Bool) (bars too : List Side) → AreBarsBy timed p windows points sides tables spans gifts kind forced money bars → AreBarsBy timed p windows points others tables spans gifts kind forced money too → AskAlike bars too
    bars_by-alike false bars too are are_too = bars-alike p points (IsGiftBarred p windows points others tables spans gifts kind forced money) bars too (bars_by-sides false bars are) are_too
    bars_by-alike true bars too are are_too = bars-alike p points (IsMomentBarred p windows points others tables spans gifts kind forced money) bars too (bars_by-sides true bars are) are_too

  module _ (valid : IsValid p) (of : All (IsSpanOf p) spans) (exist : AllByRecursion (λ (gift : Gift). gift.arc < length p.arcs) gifts) (points others : ℕ → List ℕ) (same : AgreeOnPoints p points others) (sides : List Side) where
    -- bars over some lists of points are bars over others of the same points
    pub bars_by-points : (timed : Bool) (bars : List Side) → AreBarsBy timed p windows points sides tables spans gifts kind forced money bars → AreBarsBy timed p windows others sides tables spans gifts kind forced money bars
    bars_by-points false bars are =
        bars-of_same p points others (IsGiftBarred p windows points sides tables spans gifts kind forced money) (IsGiftBarred p windows others sides tables spans gifts kind forced money) bars
        (λ k l leaves.
        let class = class_of_same p valid points others same 1 l leaves in (
          λ barred. subst (λ (c : Leg). IsGiftBarred p windows others sides tables spans gifts kind forced money k c) class
              (gift_barred-same p valid points others same sides tables spans kind forced k (class_of p points 1 l) gifts exist windows money barred),
          λ barred. subst (λ (c : Leg). IsGiftBarred p windows points sides tables spans gifts kind forced money k c) (sym class)
              (gift_barred-same p valid others points (AgreeOnPoints_sym p points others same) sides tables spans kind forced k (class_of p others 1 l) gifts exist windows money barred),
        )) are
    bars_by-points true bars are =
        bars-of_same p points others (IsMomentBarred p windows points sides tables spans gifts kind forced money) (IsMomentBarred p windows others sides tables spans gifts kind forced money) bars
        (λ k l leaves.
        let class = class_of_same p valid points others same 1 l leaves in (
          λ barred. subst (λ (c : Leg). IsMomentBarred p windows others sides tables spans gifts kind forced money k c) class
              (moment_barred-same p valid points others same sides tables spans kind forced k (class_of p points 1 l) gifts exist windows money of barred),
          λ barred. subst (λ (c : Leg). IsMomentBarred p windows points sides tables spans gifts kind forced money k c) (sym class)
              (moment_barred-same p valid others points (AgreeOnPoints_sym p points others same) sides tables spans kind forced k (class_of p others 1 l) gifts exist windows money of barred),
        )) are

-- there is one least amount
least-one : (unit : Option ℕ) (claim m n : ℕ) → IsLeastAmount unit claim m → IsLeastAmount unit claim n → m ≡ n
least-one unit claim m n one other = omega (arith, (one n).1 ((other n).0 (omega arith)), (other m).1 ((one m).0 (omega arith)))

module _ (p : Problem) (table : WindowTable) (c : Statement) (claim : ℕ) where
  -- the bars of a narrowing ask alike, under those before it that do
  narrowing_bars-alike : (before others : List Side) → AskAlike before others → (n : PlacedNarrowing) (bars too : List Side) → AreNarrowingBars p table c claim before n bars → AreNarrowingBars p table c claim others n too → AskAlike bars too
  narrowing_bars-alike before others alike n bars too are are_too =
      let price : LeafPrice = n.narrowing.price in
      let spans : List ClassSpan = spans_beside c.spans price.kind in
      let gifts : List Gift = gifts_beside c.gifts price.kind in
      let points : ℕ → List ℕ = points_as_of p table.anchors c price.round in
      let timed : Bool = by_moments c.moments price.kind in
      let same : are.money ≡ are_too.money = least-one c.unit (worth_of claim n.narrowing) are.money are_too.money are.least are_too.least in
      bars_by-alike p (windows_in table) c.tables spans gifts price.kind price.forced are_too.money points (before ++ n.sides) (others ++ n.sides) (AskAlike-append before others n.sides n.sides alike (AskAlike-refl n.sides))
      timed bars too
      (subst (λ (money : ℕ). AreBarsBy timed p (windows_in table) points (before ++ n.sides) c.tables spans gifts price.kind price.forced money bars) same are.are)
      are_too.are

  -- so do those of some narrowings
  pub bars_after-alike : (before others : List Side) → AskAlike before others → (narrowings : List PlacedNarrowing) (bars too : List Side) → AreBarsAfter p table c claim before narrowings bars →
      AreBarsAfter p table c claim others narrowings too → AskAlike bars too
  bars_after-alike before others alike [] bars too are are_too = subst (λ (s : List Side). AskAlike s too) (sym are) (subst (λ (s : List Side). AskAlike before s) (sym are_too) alike)
  bars_after-alike before others alike (n ∷ narrowings) bars too are are_too =
      bars_after-alike (before ++ are.0) (others ++ are_too.0)
      (AskAlike-append before others are.0 are_too.0 alike (narrowing_bars-alike before others alike n are.0 are_too.0 are.1 are_too.1))
      narrowings bars too are.2 are_too.2

  -- the bars of one more narrowing come behind the others
  pub bars_after-more : (before : List Side) (narrowings : List PlacedNarrowing) (n : PlacedNarrowing) (bars own : List Side) → AreBarsAfter p table c claim before narrowings bars → AreNarrowingBars p table c claim bars n own →
      AreBarsAfter p table c claim before (narrowings ++ n ∷ []) (bars ++ own)
  bars_after-more before [] n bars own are more =
      (own, subst (λ (s : List Side). AreNarrowingBars p table c claim s n own) are more, subst (λ (s : List Side). bars ++ own ≡ s ++ own) are refl)
  bars_after-more before (x ∷ narrowings) n bars own are more = (are.0, are.1, bars_after-more (before ++ are.0) narrowings n bars own are.2 more)

  -- a leaf is worth the claim alike under bars that ask alike
  worth-alike : (bars others : List Side) → AskAlike bars others → (x : Node) (sides : List Side) → IsLeafWorth p table c claim bars x sides → IsLeafWorth p table c claim others x sides
  worth-alike bars others alike (node.Branch split) sides worth = absurd worth
  worth-alike bars others alike (node.Narrow narrowing) sides worth = absurd worth
  worth-alike bars others alike (node.Leaf v) sides worth =
      let price : LeafPrice = v.price in
      let spans : List ClassSpan = spans_beside c.spans price.kind in
      let gifts : List Gift = gifts_beside c.gifts price.kind in
      let points : ℕ → List ℕ = points_as_of p table.anchors c price.round in
      let timed : Bool = by_moments c.moments price.kind in
      let over : (all : List Side) → AskAlike (bars ++ all) (others ++ all) = λ all. AskAlike-append bars others all all alike (AskAlike-refl all) in
      ⊎_elim
      (λ (empty : IsLeafEmptyBy timed p (windows_in table) points (bars ++ sides) spans). inl (leaf_empty-alike p (windows_in table) points spans (bars ++ sides) (others ++ sides) (over sides) timed empty))
      (λ (has : (value : ℕ) × IsLeafValueBy timed p (windows_in table) points (bars ++ sides_valued v sides) c.tables spans gifts price.kind price.forced value × (claim ≤ rounded_up c.unit (div_ceil value p.scale))).
      inr (has.0, leaf_value-alike p (windows_in table) points spans (bars ++ sides_valued v sides) (others ++ sides_valued v sides) (over (sides_valued v sides)) timed c.tables gifts price.kind price.forced has.0 has.1, has.2))
      worth

  -- so under any list of its narrowings' bars it tells whether the leaf is
  pub narrowed-worth : (l : NarrowedLeaf) (bars : List Side) → AreBarsAfter p table c claim [] l.narrowings bars → (IsLeafWorth p table c claim bars l.node l.sides ↔ IsNarrowedLeafWorth p table c claim l)
  narrowed-worth l bars are = (
    λ worth. record { bars = bars; are = are; worth = worth },
    λ narrowed. worth-alike narrowed.bars bars (bars_after-alike [] [] (AskAlike-refl []) l.narrowings narrowed.bars bars narrowed.are are) l.node l.sides narrowed.worth,
  )
