-- How many bytes the lines of a certificate have at most, and its text.
use Rattle.std.proofs.Common.{ℕ, zero, suc, ◌+◌, ◌*◌, ◌-◌, ◌<◌, ◌≤◌, ◌^◌, true, false, Bool, List, [], ◌∷◌, ◌++◌, map, length, refl, subst, arith}
use Rattle.std.specs.Prelude.{All, IfSome, Option, Some, None, codes, decimal, slice_index_or, sum_by}
use Rattle.std.specs.List.{AllByRecursion, flat_map}
use Rattle.std.proofs.lemmas.List.{length-map}
use Rattle.std.proofs.lemmas.List.Elements.{All-append, All-cons, All-nil, recursion_from_All}
use Rattle.std.proofs.lemmas.List.Sums.{sum_by-cons}
use Rattle.fp_model.specs.declared.limits.TheConstants.{LONGEST_FASTEST}
use Rattle.fp_model.specs.declared.parts.Shipment.{Shipment}
use Rattle.fp_model.specs.Names.{IsName}
use Rattle.fp_model.specs.Numbered.{no_shipment}
use Rattle.fp_model.specs.Problem.{IsValid, Problem, arc_at}
use Rattle.fp_prices.specs.declared.tables.Weight.{Weight}
use Rattle.fp_prices.specs.Shares.{ClassShare}
use Rattle.fp_prices.specs.Tables.{AreCountable}
use Rattle.fp_prices_gifts.specs.declared.gifts.Gift.{Gift}
use Rattle.fp_prices_gifts.specs.GiftKinds.{gifts_of_table}
use Rattle.fp_prices_spans.specs.SpanKinds.{spans_of_table}
use Rattle.fp_prices_spans.specs.Spans.{ClassSpan}
use Rattle.fp_records.specs.Text.{line_of, lines_of}
use Rattle.fp_timenodes.specs.declared.places.AddedPoint.{AddedPoint}
use Rattle.fp_timetable.specs.declared.lines.LegLine.{LegLine}
use Rattle.fp_timetable.specs.declared.lines.TruckLine.{TruckLine}
use Rattle.fp_tree.specs.declared.sides.Split.{Split}
use Rattle.fp_tree.specs.declared.sides.Split.TheVariants.{ByArc, ByTime, ByTrucks, ByWay}
use Rattle.fp_certificate_lines.specs.declared.certificates.Answer.{Answer}
use Rattle.fp_certificate_lines.specs.declared.certificates.Answer.TheVariants.{Direct, Optimal, Unfinished, Infeasible}
use Rattle.fp_certificate_lines.specs.declared.certificates.Node.{Node}
use Rattle.fp_certificate_lines.specs.declared.certificates.Node.TheVariants.{Branch, Leaf, Narrow}
use Rattle.fp_certificate_lines.specs.declared.certificates.Spent.{Spent}
use Rattle.fp_certificate_lines.specs.declared.certificates.Spent.TheVariants.{Rounds, Branches, Time}
use Rattle.fp_certificate_lines.specs.Lengths.{most_bytes, node_bytes, price_rows}
use Rattle.fp_certificate_lines.specs.Ranges.{HaveNames, IsAnswerInRange, IsGiftInRange, IsGroupInRange, IsInRange, IsLegInRange, IsNodeInRange, IsPointInRange, IsScaleInRange, IsShareInRange, IsSpanInRange, IsSplitInRange, IsTruckInRange, IsUnitInRange, IsWeightInRange}
use Rattle.fp_certificate_lines.specs.Moments.{moments_of_table}
use Rattle.fp_certificate_lines.specs.Rows.{answer_fields, beside_rows, end_fields, gift_fields, group_fields, head_name, leg_fields, moments_fields, node_fields, point_fields, rows_of, scale_rows, share_fields, share_rows, shipment_name, side_text, span_fields, span_rows, spent_text, split_fields, table_fields, table_rows, tables_rows, tail_name, terminal_name, time_text, truck_fields, unit_rows, weight_fields}
use Rattle.fp_certificate_lines.specs.Statements.{Statement}
use Rattle.fp_certificate_lines.proofs.LineLengths.{All-flat_map, All-made, IsShortRow, digits-le, field_bytes, figure-digits, line-bytes, lines-append, lines-cons, round-digits, rows-bytes, short-digits, time-digits, word}
use Rattle.fp_certificate_lines.proofs.PriceLengths.{leaf-bytes, narrowing-bytes}

-- names have at most 32 bytes, and no bytes where there is none
name-short : (names : List (List ℕ)) (k : ℕ) → AllByRecursion IsName names → length (slice_index_or names k []) ≤ 32
name-short [] k all = omega arith
name-short (name ∷ names) zero all = omega (arith, all.0.few)
name-short (name ∷ names) (suc k) all = name-short names k all.1

own-short : (shipments : List Shipment) (k : ℕ) → AllByRecursion (λ (s : Shipment). IsName s.name) shipments → length (slice_index_or shipments k no_shipment).name ≤ 32
own-short [] k all = omega arith
own-short (s ∷ shipments) zero all = omega (arith, all.0.few)
own-short (s ∷ shipments) (suc k) all = own-short shipments k all.1

-- what stands beside a table is in range, where all such lists are
beside-range : {X : Type 0} (P : X → Type 0) (lists : List (List X)) (id : ℕ) → AllByRecursion (All P) lists → All P (slice_index_or lists id [])
beside-range P [] id all = All-nil P
beside-range P (xs ∷ lists) zero all = all.0
beside-range P (xs ∷ lists) (suc id) all = beside-range P lists id all.1

module _ (p : Problem) (valid : IsValid p) (names : HaveNames p) where
  terminal-short : (k : ℕ) → length (terminal_name p k) ≤ 32
  terminal-short k = name-short p.terminals k (recursion_from_All IsName p.terminals valid.parts.names)

  shipment-short : (k : ℕ) → length (shipment_name p k) ≤ 32
  shipment-short k = own-short p.shipments k (recursion_from_All (λ (s : Shipment). IsName s.name) p.shipments names)

  tail-short : (a : ℕ) → length (tail_name p a) ≤ 32
  tail-short a = terminal-short (arc_at p a).from

  head-short : (a : ℕ) → length (head_name p a) ≤ 32
  head-short a = terminal-short (arc_at p a).to

  -- a leg's line
  leg-bytes : (l : LegLine) → IsLegInRange p l → IsShortRow 117 (leg_fields p l)
  leg-bytes l r =
      omega (
        arith,
        line-bytes (codes "leg") (shipment_name p l.shipment ∷ tail_name p l.arc ∷ head_name p l.arc ∷ decimal l.depart ∷ decimal l.arrive ∷ []),
        word (codes "leg") 3 refl,
        shipment-short l.shipment,
        tail-short l.arc,
        head-short l.arc,
        time-digits l.depart (omega (arith, r.depart)),
        time-digits l.arrive (omega (arith, r.arrive)),
      )

  -- a departure's line
  truck-bytes : (t : TruckLine) → IsTruckInRange p t → IsShortRow 159 (truck_fields p t)
  truck-bytes t r =
      omega (
        arith,
        line-bytes (codes "truck") (tail_name p t.arc ∷ head_name p t.arc ∷ decimal t.depart ∷ decimal t.trucks ∷ decimal t.load ∷ []),
        word (codes "truck") 5 refl,
        tail-short t.arc,
        head-short t.arc,
        time-digits t.depart (omega (arith, r.depart)),
        figure-digits t.trucks r.trucks,
        figure-digits t.load r.load,
      )

  -- a point's line
  point-bytes : (q : AddedPoint) → IsPointInRange p q → IsShortRow 51 (point_fields p q)
  point-bytes q r =
      omega (
        arith,
        line-bytes (codes "point") (terminal_name p q.terminal ∷ decimal q.at ∷ decimal q.round ∷ []),
        word (codes "point") 5 refl,
        terminal-short q.terminal,
        time-digits q.at (omega (arith, r.time)),
        round-digits q.round r.round.1,
      )

  -- the lines of prices: none is longer than that of a span
  weight-bytes : (w : Weight) → IsWeightInRange p w → IsShortRow 165 (weight_fields p w)
  weight-bytes w r =
      omega (
        arith,
        line-bytes (codes "weight") (shipment_name p w.shipment ∷ decimal w.w ∷ []),
        word (codes "weight") 6 refl,
        shipment-short w.shipment,
        figure-digits w.w r.small,
      )

  weights-bytes : (ws : List Weight) → All (IsWeightInRange p) ws → All (IsShortRow 165) (map (weight_fields p) ws)
  weights-bytes ws all = All-made (IsWeightInRange p) (IsShortRow 165) (weight_fields p) weight-bytes ws all

  share-bytes : (s : ClassShare) → IsShareInRange p s → IsShortRow 165 (share_fields p s)
  share-bytes s r =
      omega (
        arith,
        line-bytes (codes "share") (tail_name p s.arc ∷ head_name p s.arc ∷ decimal s.point ∷ decimal s.v ∷ []),
        word (codes "share") 5 refl,
        tail-short s.arc,
        head-short s.arc,
        time-digits s.point (omega (arith, r.point)),
        figure-digits s.v r.price,
      )

  shares-bytes : (s : ClassShare) → IsShareInRange p s → All (IsShortRow 165) (share_rows p s)
  shares-bytes s r = All-cons (IsShortRow 165) (share_fields p s) (map (weight_fields p) s.weights) (share-bytes s r) (weights-bytes s.weights r.weights)

  span-bytes : (s : ClassSpan) → IsSpanInRange p s → IsShortRow 165 (span_fields p s)
  span-bytes s r =
      omega (
        arith,
        line-bytes (codes "span") (tail_name p s.arc ∷ head_name p s.arc ∷ decimal s.point ∷ decimal s.until ∷ decimal s.money ∷ decimal s.charge ∷ []),
        word (codes "span") 4 refl,
        tail-short s.arc,
        head-short s.arc,
        time-digits s.point (omega (arith, r.point)),
        time-digits s.until r.until,
        figure-digits s.money r.money,
        figure-digits s.charge r.charge,
      )

  group-bytes : (m : ℕ) → IsGroupInRange m → IsShortRow 165 (group_fields m)
  group-bytes m r = omega (arith, line-bytes (codes "group") (decimal m ∷ []), word (codes "group") 5 refl, time-digits m (omega (arith, r)))

  spans-bytes : (s : ClassSpan) → IsSpanInRange p s → All (IsShortRow 165) (span_rows p s)
  spans-bytes s r =
      All-cons (IsShortRow 165) (span_fields p s) (map (weight_fields p) s.weights ++ map group_fields s.groups) (span-bytes s r)
      (All-append (IsShortRow 165) (map (weight_fields p) s.weights) (map group_fields s.groups) (weights-bytes s.weights r.weights)
      (All-made IsGroupInRange (IsShortRow 165) group_fields group-bytes s.groups r.groups))

  -- the line of a gift, and the lines beside a table
  side-short : (least : Bool) → length (side_text least) ≤ 5
  side-short true = omega (arith, word (codes "least") 5 refl)
  side-short false = omega (arith, word (codes "most") 4 refl)

  gift-bytes : (g : Gift) → IsGiftInRange p g → IsShortRow 165 (gift_fields p g)
  gift-bytes g r =
      omega (
        arith,
        line-bytes (codes "gift") (tail_name p g.arc ∷ head_name p g.arc ∷ decimal g.point ∷ decimal g.until ∷ side_text g.least ∷ decimal g.amount ∷ []),
        word (codes "gift") 4 refl,
        tail-short g.arc,
        head-short g.arc,
        time-digits g.point (omega (arith, r.point)),
        time-digits g.until r.until,
        side-short g.least,
        figure-digits g.amount r.amount,
      )

  besides-bytes : (spans : List ClassSpan) (gifts : List Gift) → All (IsSpanInRange p) spans → All (IsGiftInRange p) gifts → All (IsShortRow 165) (beside_rows p spans gifts)
  besides-bytes spans gifts held given =
      All-append (IsShortRow 165) (flat_map (span_rows p) spans) (map (gift_fields p) gifts) (All-flat_map (IsSpanInRange p) (IsShortRow 165) (span_rows p) spans-bytes spans held)
      (All-made (IsGiftInRange p) (IsShortRow 165) (gift_fields p) gift-bytes gifts given)

  -- a table's own line, and with it those of its shares and of what stands beside it
  moments-short : (by_moments : Bool) → field_bytes (moments_fields by_moments) ≤ 8
  moments-short true = omega (arith, word (codes "moments") 7 refl)
  moments-short false = omega arith

  table-bytes : (id : ℕ) (by_moments : Bool) → id < 2 ^ 32 → IsShortRow 165 (table_fields id by_moments)
  table-bytes id by_moments lt =
      omega (arith, line-bytes (codes "table") (decimal id ∷ moments_fields by_moments), word (codes "table") 5 refl, short-digits id lt, moments-short by_moments)

  one-table : (id : ℕ) (by_moments : Bool) (table : List ClassShare) (spans : List ClassSpan) (gifts : List Gift) →
      id < 2 ^ 32 → All (IsShareInRange p) table → All (IsSpanInRange p) spans → All (IsGiftInRange p) gifts → All (IsShortRow 165) (table_rows p id by_moments table spans gifts)
  one-table id by_moments table spans gifts lt shares held given =
      All-cons (IsShortRow 165) (table_fields id by_moments) (flat_map (share_rows p) table ++ beside_rows p spans gifts) (table-bytes id by_moments lt)
      (All-append (IsShortRow 165) (flat_map (share_rows p) table) (beside_rows p spans gifts) (All-flat_map (IsShareInRange p) (IsShortRow 165) (share_rows p) shares-bytes table shares)
      (besides-bytes spans gifts held given))

  -- the lines of tables, where the spans and the gifts of each list are in range
  tables-each : (spans : List (List ClassSpan)) (gifts : List (List Gift)) (moments : List Bool) →
      AllByRecursion (All (IsSpanInRange p)) spans → AllByRecursion (All (IsGiftInRange p)) gifts → (id : ℕ) (tables : List (List ClassShare)) →
      id + length tables < 2 ^ 32 → AllByRecursion (All (IsShareInRange p)) tables → All (IsShortRow 165) (tables_rows p spans gifts moments id tables)
  tables-each spans gifts moments held given id [] few all = All-nil (IsShortRow 165)
  tables-each spans gifts moments held given id (table ∷ tables) few all =
      let by_moments = moments_of_table moments id in
      All-append (IsShortRow 165) (table_rows p id by_moments table (spans_of_table spans id) (gifts_of_table gifts id)) (tables_rows p spans gifts moments (id + 1) tables)
      (one-table id by_moments table (spans_of_table spans id) (gifts_of_table gifts id) (omega (arith, few)) all.0
      (beside-range (IsSpanInRange p) spans (id - 1) held) (beside-range (IsGiftInRange p) gifts (id - 1) given))
      (tables-each spans gifts moments held given (id + 1) tables (omega (arith, few)) all.1)

  -- a split's line
  split-bytes : (s : Split) → IsSplitInRange p s → IsShortRow 109 (split_fields p s)
  split-bytes (ByArc shipment arc) r =
      omega (
        arith,
        line-bytes (codes "split") (codes "arc" ∷ shipment_name p shipment ∷ tail_name p arc ∷ head_name p arc ∷ []),
        word (codes "split") 5 refl,
        word (codes "arc") 3 refl,
        shipment-short shipment,
        tail-short arc,
        head-short arc,
      )
  split-bytes (ByTime shipment terminal at) r =
      omega (
        arith,
        line-bytes (codes "split") (codes "time" ∷ shipment_name p shipment ∷ terminal_name p terminal ∷ decimal at ∷ []),
        word (codes "split") 5 refl,
        word (codes "time") 4 refl,
        shipment-short shipment,
        terminal-short terminal,
        time-digits at (omega (arith, r.2)),
      )
  split-bytes (ByTrucks arc point until most) r =
      omega (
        arith,
        line-bytes (codes "split") (codes "trucks" ∷ tail_name p arc ∷ head_name p arc ∷ decimal point ∷ decimal until ∷ decimal most ∷ []),
        word (codes "split") 5 refl,
        word (codes "trucks") 6 refl,
        tail-short arc,
        head-short arc,
        time-digits point (omega (arith, r.point)),
        time-digits until r.until,
        short-digits most (omega (arith, r.most)),
      )
  split-bytes (ByWay shipment arc) r =
      omega (
        arith,
        line-bytes (codes "split") (codes "way" ∷ shipment_name p shipment ∷ tail_name p arc ∷ head_name p arc ∷ []),
        word (codes "split") 5 refl,
        word (codes "way") 3 refl,
        shipment-short shipment,
        tail-short arc,
        head-short arc,
      )

  -- the line of a node, or of a narrowing
  node-bytes-le : (tables : List (List ClassShare)) (n : Node) → length tables < 2 ^ 32 → IsNodeInRange p tables n → length (line_of (node_fields p n)) ≤ node_bytes n
  node-bytes-le tables (Branch split) few r = split-bytes split r
  node-bytes-le tables (Leaf valuation) few r = leaf-bytes tables valuation few r
  node-bytes-le tables (Narrow narrowing) few r = narrowing-bytes tables narrowing few r

  nodes-bytes : (tables : List (List ClassShare)) (nodes : List Node) → length tables < 2 ^ 32 → AllByRecursion (IsNodeInRange p tables) nodes → length (lines_of (map (node_fields p) nodes)) ≤ sum_by node_bytes nodes
  nodes-bytes tables [] few all = omega arith
  nodes-bytes tables (n ∷ nodes) few all =
      omega (arith, lines-cons (node_fields p n) (map (node_fields p) nodes), node-bytes-le tables n few all.0, nodes-bytes tables nodes few all.1, sum_by-cons node_bytes n nodes)

  -- an answer's line
  spent-short : (spent : Spent) → length (spent_text spent) ≤ 8
  spent-short Rounds = omega (arith, word (codes "rounds") 6 refl)
  spent-short Branches = omega (arith, word (codes "branches") 8 refl)
  spent-short Time = omega (arith, word (codes "time") 4 refl)

  fastest-short : (time : Option ℕ) → IfSome time (λ t. t ≤ LONGEST_FASTEST) → length (time_text time) ≤ 8
  fastest-short None r = omega (arith, word (codes "none") 4 refl)
  fastest-short (Some time) r = digits-le 8 time (omega arith) (omega (arith, r)) (omega (arith, r))

  answer-bytes : (a : Answer) → IsAnswerInRange p a → IsShortRow 107 (answer_fields p a)
  answer-bytes (Direct cost) r =
      omega (arith, line-bytes (codes "answer") (codes "direct" ∷ decimal cost ∷ []), word (codes "answer") 6 refl, word (codes "direct") 6 refl, figure-digits cost r)
  answer-bytes (Optimal cost) r =
      omega (arith, line-bytes (codes "answer") (codes "optimal" ∷ decimal cost ∷ []), word (codes "answer") 6 refl, word (codes "optimal") 7 refl, figure-digits cost r)
  answer-bytes (Unfinished cost bound spent) r =
      omega (
        arith,
        line-bytes (codes "answer") (codes "unfinished" ∷ decimal cost ∷ decimal bound ∷ spent_text spent ∷ []),
        word (codes "answer") 6 refl,
        word (codes "unfinished") 10 refl,
        figure-digits cost r.0,
        figure-digits bound r.1,
        spent-short spent,
      )
  answer-bytes (Infeasible shipment time) r =
      omega (
        arith,
        line-bytes (codes "answer") (codes "infeasible" ∷ shipment_name p shipment ∷ time_text time ∷ []),
        word (codes "answer") 6 refl,
        word (codes "infeasible") 10 refl,
        shipment-short shipment,
        fastest-short time r.1,
      )

  -- the lines of a scale and of a unit, where they are named
  scale-bytes : (scale : Option ℕ) → IfSome scale (IsScaleInRange p) → length (lines_of (scale_rows scale)) ≤ 17
  scale-bytes None r = omega arith
  scale-bytes (Some scale) r =
      omega (
        arith,
        lines-cons (codes "scale" ∷ decimal scale ∷ []) [],
        line-bytes (codes "scale") (decimal scale ∷ []),
        word (codes "scale") 5 refl,
        short-digits scale (omega (arith, r.most)),
      )

  unit-bytes : (unit : Option ℕ) → IfSome unit IsUnitInRange → length (lines_of (unit_rows unit)) ≤ 45
  unit-bytes None r = omega arith
  unit-bytes (Some unit) r =
      omega (
        arith,
        lines-cons (codes "unit" ∷ decimal unit ∷ []) [],
        line-bytes (codes "unit") (decimal unit ∷ []),
        word (codes "unit") 4 refl,
        figure-digits unit r.most,
      )

  -- lines of one kind
  made-bytes : {X : Type 0} (k : ℕ) (P : X → Type 0) (f : X → List (List ℕ)) → ((x : X) → P x → IsShortRow k (f x)) → (xs : List X) → All P xs → length (lines_of (map f xs)) ≤ length xs * k
  made-bytes k P f each xs all = subst (λ (n : ℕ). length (lines_of (map f xs)) ≤ n * k) (length-map xs f) (rows-bytes k (map f xs) (All-made P (IsShortRow k) f each xs all))

  -- the text of a certificate
  pub text-short : (c : Statement) → IsInRange p c → AreCountable p c.tables → length (lines_of (rows_of p c)) ≤ most_bytes p c
  text-short c r countable =
      let scale = scale_rows c.scale in
      let unit = unit_rows c.unit in
      let legs = map (leg_fields p) c.legs in
      let trucks = map (truck_fields p) c.trucks in
      let points = map (point_fields p) c.points in
      let tables = price_rows p c in
      let tree = map (node_fields p) c.tree in
      let last = end_fields ∷ [] in
      let prices : length (lines_of tables) ≤ length tables * 165 =
      rows-bytes 165 tables
      (tables-each c.spans c.gifts c.moments (recursion_from_All (All (IsSpanInRange p)) c.spans r.spans) (recursion_from_All (All (IsGiftInRange p)) c.gifts r.gifts) 1 c.tables (omega (arith, countable.few_tables)) (recursion_from_All (All (IsShareInRange p)) c.tables r.tables)) in
      omega (
        arith,
        lines-cons (answer_fields p c.answer) (scale ++ (unit ++ (legs ++ (trucks ++ (points ++ (tables ++ (tree ++ last))))))),
        lines-append scale (unit ++ (legs ++ (trucks ++ (points ++ (tables ++ (tree ++ last)))))),
        lines-append unit (legs ++ (trucks ++ (points ++ (tables ++ (tree ++ last))))),
        lines-append legs (trucks ++ (points ++ (tables ++ (tree ++ last)))),
        lines-append trucks (points ++ (tables ++ (tree ++ last))),
        lines-append points (tables ++ (tree ++ last)),
        lines-append tables (tree ++ last),
        lines-append tree last,
        answer-bytes c.answer r.answer,
        scale-bytes c.scale r.scale,
        unit-bytes c.unit r.unit,
        made-bytes 117 (IsLegInRange p) (leg_fields p) leg-bytes c.legs r.legs,
        made-bytes 159 (IsTruckInRange p) (truck_fields p) truck-bytes c.trucks r.trucks,
        made-bytes 51 (IsPointInRange p) (point_fields p) point-bytes c.points r.points,
        prices,
        nodes-bytes c.tables c.tree (omega (arith, countable.few_tables)) (recursion_from_All (IsNodeInRange p c.tables) c.tree r.tree),
        lines-cons end_fields [],
        line-bytes (codes "end") [],
        word (codes "end") 3 refl,
      )
