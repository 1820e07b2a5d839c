-- The written lines have plain fields alone.
use Rattle.std.proofs.Common.{◌≡◌, ◌∙◌, ℕ, ◌+◌, ◌^◌, ◌-◌, ◌<◌, ◌≤◌, Bool, true, false, leb, List, [], ◌∷◌, ◌++◌, length, map, refl, arith}
use Rattle.std.specs.Prelude.{Option, Some, None, All, ◌&&◌, ◌==◌, not, IfSome, codes, slice_index_or}
use Rattle.std.specs.List.{AllByRecursion, flat_map, list_all}
use Rattle.std.proofs.lemmas.Bool.{and_from, and_parts, ne_eqb}
use Rattle.std.proofs.lemmas.List.Elements.{All-head, All-nil, All-tail, recursion_from_All}
use Rattle.std.proofs.lemmas.List.Folds.{list_all-append}
use Rattle.fp_model.specs.declared.limits.TheConstants.{LAST_ROUND}
use Rattle.fp_model.specs.Names.{IsName, is_name_byte}
use Rattle.fp_model.specs.Numbered.{no_shipment}
use Rattle.fp_model.specs.Problem.{IsValid, Problem, arc_at}
use Rattle.fp_prices.specs.declared.leaf_prices.Kind.{Kind}
use Rattle.fp_prices.specs.declared.leaf_prices.Kind.TheVariants as price
use Rattle.fp_prices.specs.declared.leaf_prices.LeafPrice.{LeafPrice}
use Rattle.fp_prices.specs.declared.tables.Weight.{Weight}
use Rattle.fp_prices.specs.Shares.{ClassShare}
use Rattle.fp_prices.specs.Tables.{HasKind}
use Rattle.fp_prices_gifts.specs.declared.gifts.Gift.{Gift}
use Rattle.fp_prices_gifts.specs.GiftKinds.{gifts_of_table}
use Rattle.fp_prices_spans.specs.SpanKinds.{spans_of_table}
use Rattle.fp_prices_spans.specs.Spans.{ClassSpan}
use Rattle.fp_records_fields.proofs.NameForm.{name-test}
use Rattle.fp_base_lists.proofs.Elements.{AllByRecursion-get_or_default}
use Rattle.fp_records.specs.Fields.{is_empty}
use Rattle.fp_records.specs.Text.{is_plain, is_plain_field, is_plain_record}
use Rattle.fp_timenodes.specs.declared.places.AddedPoint.{AddedPoint}
use Rattle.fp_timetable.specs.declared.lines.LegLine.{LegLine}
use Rattle.fp_timetable.specs.declared.lines.TruckLine.{TruckLine}
use Rattle.fp_tree.specs.declared.layout.TheConstants.{MOST_SPLITS}
use Rattle.fp_tree.specs.declared.sides.Split.TheVariants as split
use Rattle.fp_certificate_lines.specs.declared.certificates.Answer.{Answer}
use Rattle.fp_certificate_lines.specs.declared.certificates.Answer.TheVariants as answer
use Rattle.fp_certificate_lines.specs.declared.certificates.Node.{Node}
use Rattle.fp_certificate_lines.specs.declared.certificates.Node.TheVariants as node
use Rattle.fp_certificate_lines.specs.declared.certificates.Spent.TheVariants as spent
use Rattle.fp_certificate_lines.specs.Moments.{moments_of_table}
use Rattle.fp_certificate_lines.specs.Ranges.{HaveNames, IsAnswerInRange, IsGiftInRange, IsGroupInRange, IsInRange, IsLegInRange, IsNodeInRange, IsPointInRange, IsScaleInRange, IsShareInRange, IsSpanInRange, IsTruckInRange, IsUnitInRange, IsWeightInRange, largest_figure}
use Rattle.fp_certificate_lines.specs.Rows.{answer_fields, beside_rows, gift_fields, group_fields, head_name, kind_text, leg_fields, mode_text, node_fields, point_fields, priced_fields, rows_of, scale_rows, share_fields, share_rows, shipment_name, side_text, span_fields, span_rows, table_fields, table_rows, tables_rows, tail_name, terminal_name, truck_fields, unit_rows, weight_fields}
use Rattle.fp_certificate_lines.specs.Statements.{Statement}
use Rattle.fp_model.proofs.Validity.{IsArc-valid}
use Rattle.fp_certificate.proofs.NumbersBack.{large-back, number-back, time-back}

-- a byte of a name needs no quotes and is not stripped
plain-letter : (b : ℕ) → is_name_byte b ≡ true → is_plain b ≡ true
plain-letter b h =
    rw (
      ne_eqb b 44 (λ e. cc (rw e at h)),
      ne_eqb b 34 (λ e. cc (rw e at h)),
      ne_eqb b 13 (λ e. cc (rw e at h)),
      ne_eqb b 10 (λ e. cc (rw e at h)),
      ne_eqb b 32 (λ e. cc (rw e at h)),
      ne_eqb b 9 (λ e. cc (rw e at h)),
    ) refl

plain-letters : (bytes : List ℕ) → list_all is_name_byte bytes ≡ true → list_all is_plain bytes ≡ true
plain-letters [] h = refl
plain-letters (b ∷ bytes) h =
    let parts = and_parts (is_name_byte b) (list_all is_name_byte bytes) h in
    and_from (is_plain b) (list_all is_plain bytes) (plain-letter b parts.0) (plain-letters bytes parts.1)

-- a name is plain
plain-name : (name : List ℕ) → IsName name → is_plain_field name ≡ true
plain-name name is =
    let outer = and_parts (not (length name == 0) && leb (length name) 32) (list_all is_name_byte name) (name-test name is) in
    let inner = and_parts (not (length name == 0)) (leb (length name) 32) outer.0 in
    and_from (not (is_empty name)) (list_all is_plain name) inner.0 (plain-letters name outer.1)

-- what a terminal, a shipment and the ends of an arc are called
terminal-plain : (p : Problem) (terminal : ℕ) → IsValid p → terminal < length p.terminals → is_plain_field (terminal_name p terminal) ≡ true
terminal-plain p terminal v there = plain-name (terminal_name p terminal) (v.parts.names terminal [] there)

shipment-plain : (p : Problem) (shipment : ℕ) → HaveNames p → shipment < length p.shipments → is_plain_field (shipment_name p shipment) ≡ true
shipment-plain p shipment named there = plain-name (shipment_name p shipment) (named shipment no_shipment there)

tail-plain : (p : Problem) (arc : ℕ) → IsValid p → arc < length p.arcs → is_plain_field (tail_name p arc) ≡ true
tail-plain p arc v there = terminal-plain p (arc_at p arc).from v (IsArc-valid p arc v there).from

head-plain : (p : Problem) (arc : ℕ) → IsValid p → arc < length p.arcs → is_plain_field (head_name p arc) ≡ true
head-plain p arc v there = terminal-plain p (arc_at p arc).to v (IsArc-valid p arc v there).to

-- the line of an answer
answer-plain : (p : Problem) (a : Answer) → HaveNames p → IsAnswerInRange p a → is_plain_record (answer_fields p a) ≡ true
answer-plain p (answer.Direct cost) named r = rw (large-back cost r).plain refl
answer-plain p (answer.Optimal cost) named r = rw (large-back cost r).plain refl
answer-plain p (answer.Unfinished cost bound spent.Rounds) named r = rw ((large-back cost r.0).plain, (large-back bound r.1).plain) refl
answer-plain p (answer.Unfinished cost bound spent.Branches) named r = rw ((large-back cost r.0).plain, (large-back bound r.1).plain) refl
answer-plain p (answer.Unfinished cost bound spent.Time) named r = rw ((large-back cost r.0).plain, (large-back bound r.1).plain) refl
answer-plain p (answer.Infeasible shipment None) named r = rw (shipment-plain p shipment named r.0) refl
answer-plain p (answer.Infeasible shipment (Some time)) named r = rw (shipment-plain p shipment named r.0, (number-back time (omega (arith, r.1))).plain) refl

scale-plain : (p : Problem) (scale : Option ℕ) → IfSome scale (IsScaleInRange p) → list_all is_plain_record (scale_rows scale) ≡ true
scale-plain p None r = refl
scale-plain p (Some n) r = rw (number-back n (omega (arith, r.most))).plain refl

unit-plain : (unit : Option ℕ) → IfSome unit IsUnitInRange → list_all is_plain_record (unit_rows unit) ≡ true
unit-plain None r = refl
unit-plain (Some n) r = rw (large-back n r.most).plain refl

leg-plain : (p : Problem) (l : LegLine) → IsValid p → HaveNames p → IsLegInRange p l → is_plain_record (leg_fields p l) ≡ true
leg-plain p l v named r =
    rw (
      shipment-plain p l.shipment named r.exists.0,
      tail-plain p l.arc v r.exists.1,
      head-plain p l.arc v r.exists.1,
      (time-back l.depart r.depart).plain,
      (time-back l.arrive r.arrive).plain,
    ) refl

truck-plain : (p : Problem) (t : TruckLine) → IsValid p → IsTruckInRange p t → is_plain_record (truck_fields p t) ≡ true
truck-plain p t v r =
    rw (
      tail-plain p t.arc v r.exists,
      head-plain p t.arc v r.exists,
      (time-back t.depart r.depart).plain,
      (large-back t.trucks r.trucks).plain,
      (large-back t.load r.load).plain,
    ) refl

point-plain : (p : Problem) (point : AddedPoint) → IsValid p → IsPointInRange p point → is_plain_record (point_fields p point) ≡ true
point-plain p point v r =
    rw (terminal-plain p point.terminal v r.terminal, (time-back point.at r.time).plain, (time-back point.round (omega (arith, r.round))).plain) refl

weight-plain : (p : Problem) (w : Weight) → HaveNames p → IsWeightInRange p w → is_plain_record (weight_fields p w) ≡ true
weight-plain p w named r = rw (shipment-plain p w.shipment named r.shipment, (large-back w.w r.small).plain) refl

-- lines of elements that each have a plain line
each-plain : {X : Type 0} (fields : X → List (List ℕ)) (P : X → Type 0) → ((x : X) → P x → is_plain_record (fields x) ≡ true)
    → (xs : List X) → AllByRecursion P xs → list_all is_plain_record (map fields xs) ≡ true
each-plain fields P plain [] all = refl
each-plain fields P plain (x ∷ xs) all =
    and_from (is_plain_record (fields x)) (list_all is_plain_record (map fields xs)) (plain x all.0) (each-plain fields P plain xs all.1)

-- lines one after the other
both-plain : (rows more : List (List (List ℕ))) → list_all is_plain_record rows ≡ true → list_all is_plain_record more ≡ true → list_all is_plain_record (rows ++ more) ≡ true
both-plain rows more first second =
    list_all-append is_plain_record rows more ∙ and_from (list_all is_plain_record rows) (list_all is_plain_record more) first second

group-plain : (m : ℕ) → IsGroupInRange m → is_plain_record (group_fields m) ≡ true
group-plain m r = rw (time-back m r).plain refl

share-plain : (p : Problem) (s : ClassShare) → IsValid p → HaveNames p → IsShareInRange p s → list_all is_plain_record (share_rows p s) ≡ true
share-plain p s v named r =
    let line : is_plain_record (share_fields p s) ≡ true =
    rw (tail-plain p s.arc v r.arc, head-plain p s.arc v r.arc, (time-back s.point r.point).plain, (large-back s.v r.price).plain) refl in
    and_from (is_plain_record (share_fields p s)) (list_all is_plain_record (map (weight_fields p) s.weights)) line
    (each-plain (weight_fields p) (IsWeightInRange p) (λ w. weight-plain p w named) s.weights (recursion_from_All (IsWeightInRange p) s.weights r.weights))

shares-plain : (p : Problem) (shares : List ClassShare) → IsValid p → HaveNames p → All (IsShareInRange p) shares
    → list_all is_plain_record (flat_map (share_rows p) shares) ≡ true
shares-plain p [] v named all = refl
shares-plain p (s ∷ shares) v named all =
    both-plain (share_rows p s) (flat_map (share_rows p) shares) (share-plain p s v named (All-head (IsShareInRange p) s shares all))
    (shares-plain p shares v named (All-tail (IsShareInRange p) s shares all))

span-plain : (p : Problem) (s : ClassSpan) → IsValid p → HaveNames p → IsSpanInRange p s → list_all is_plain_record (span_rows p s) ≡ true
span-plain p s v named r =
    let line : is_plain_record (span_fields p s) ≡ true =
    rw (
      tail-plain p s.arc v r.arc,
      head-plain p s.arc v r.arc,
      (time-back s.point r.point).plain,
      (number-back s.until (omega (arith, r.until))).plain,
      (large-back s.money r.money).plain,
      (large-back s.charge r.charge).plain,
    ) refl in
    let weights = map (weight_fields p) s.weights in
    let groups = map group_fields s.groups in
    and_from (is_plain_record (span_fields p s)) (list_all is_plain_record (weights ++ groups)) line
    (both-plain weights groups
    (each-plain (weight_fields p) (IsWeightInRange p) (λ w. weight-plain p w named) s.weights (recursion_from_All (IsWeightInRange p) s.weights r.weights))
    (each-plain group_fields IsGroupInRange group-plain s.groups (recursion_from_All IsGroupInRange s.groups r.groups)))

spans-plain : (p : Problem) (spans : List ClassSpan) → IsValid p → HaveNames p → All (IsSpanInRange p) spans
    → list_all is_plain_record (flat_map (span_rows p) spans) ≡ true
spans-plain p [] v named all = refl
spans-plain p (s ∷ spans) v named all =
    both-plain (span_rows p s) (flat_map (span_rows p) spans) (span-plain p s v named (All-head (IsSpanInRange p) s spans all))
    (spans-plain p spans v named (All-tail (IsSpanInRange p) s spans all))

side-plain : (least : Bool) → is_plain_field (side_text least) ≡ true
side-plain true = refl
side-plain false = refl

gift-plain : (p : Problem) (g : Gift) → IsValid p → IsGiftInRange p g → is_plain_record (gift_fields p g) ≡ true
gift-plain p g v r =
    rw (
      tail-plain p g.arc v r.arc,
      head-plain p g.arc v r.arc,
      (time-back g.point r.point).plain,
      (number-back g.until (omega (arith, r.until))).plain,
      side-plain g.least,
      (large-back g.amount r.amount).plain,
    ) refl

besides-plain : (p : Problem) (spans : List ClassSpan) (gifts : List Gift) → IsValid p → HaveNames p → All (IsSpanInRange p) spans → All (IsGiftInRange p) gifts
    → list_all is_plain_record (beside_rows p spans gifts) ≡ true
besides-plain p spans gifts v named held given =
    both-plain (flat_map (span_rows p) spans) (map (gift_fields p) gifts) (spans-plain p spans v named held)
    (each-plain (gift_fields p) (IsGiftInRange p) (λ g. gift-plain p g v) gifts (recursion_from_All (IsGiftInRange p) gifts given))

-- what stands beside the table with a number is in range, also where there is no list for it
beside-range : {X : Type 0} (P : X → Type 0) (lists : List (List X)) (id : ℕ) → All (All P) lists → All P (slice_index_or lists (id - 1) [])
beside-range P lists id all = AllByRecursion-get_or_default (All P) lists (id - 1) [] (recursion_from_All (All P) lists all) (All-nil P)

-- the line of a table
table-plain : (id : ℕ) (by_moments : Bool) → id < 10 ^ 64 → is_plain_record (table_fields id by_moments) ≡ true
table-plain id true small = rw (number-back id small).plain refl
table-plain id false small = rw (number-back id small).plain refl

tables-plain : (p : Problem) (spans : List (List ClassSpan)) (gifts : List (List Gift)) (moments : List Bool) (id : ℕ) (tables : List (List ClassShare)) → IsValid p → HaveNames p
    → id + length tables < 10 ^ 64 → All (All (IsShareInRange p)) tables → All (All (IsSpanInRange p)) spans → All (All (IsGiftInRange p)) gifts
    → list_all is_plain_record (tables_rows p spans gifts moments id tables) ≡ true
tables-plain p spans gifts moments id [] v named few all held given = refl
tables-plain p spans gifts moments id (table ∷ tables) v named few all held given =
    let by_moments = moments_of_table moments id in
    let line : is_plain_record (table_fields id by_moments) ≡ true = table-plain id by_moments (omega arith) in
    let runs = spans_of_table spans id in
    let gives = gifts_of_table gifts id in
    let shares = flat_map (share_rows p) table in
    let beside = beside_rows p runs gives in
    both-plain (table_rows p id by_moments table runs gives) (tables_rows p spans gifts moments (id + 1) tables)
    (and_from (is_plain_record (table_fields id by_moments)) (list_all is_plain_record (shares ++ beside)) line
    (both-plain shares beside (shares-plain p table v named (All-head (All (IsShareInRange p)) table tables all))
    (besides-plain p runs gives v named (beside-range (IsSpanInRange p) spans id held) (beside-range (IsGiftInRange p) gifts id given))))
    (tables-plain p spans gifts moments (id + 1) tables v named (omega arith) (All-tail (All (IsShareInRange p)) table tables all) held given)

kind-plain : (tables : List (List ClassShare)) (kind : Kind) → length tables < 10 ^ 64 → HasKind tables kind → is_plain_field (kind_text kind) ≡ true
kind-plain tables price.Linear few r = refl
kind-plain tables price.Even few r = refl
kind-plain tables (price.Table id) few r = (number-back id (omega (arith, r.1))).plain

mode-plain : (forced : Bool) → is_plain_field (mode_text forced) ≡ true
mode-plain true = refl
mode-plain false = refl

-- a leaf or a narrowing: a word, a price, and a number where there is one
priced-plain : (tables : List (List ClassShare)) (most : ℕ) (word : List ℕ) (l : LeafPrice) (last : Option ℕ) → most ≤ largest_figure → is_plain_field word ≡ true
    → length tables < 10 ^ 64 → HasKind tables l.kind → l.round ≤ LAST_ROUND → IfSome last (λ n. n ≤ most) → is_plain_record (priced_fields word l last) ≡ true
priced-plain tables most word l None small plain few kind round fits =
    rw (plain, kind-plain tables l.kind few kind, (time-back l.round (omega (arith, round))).plain, mode-plain l.forced) refl
priced-plain tables most word l (Some n) small plain few kind round fits =
    rw (plain, kind-plain tables l.kind few kind, (time-back l.round (omega (arith, round))).plain, mode-plain l.forced, (large-back n (omega (arith, fits, small))).plain) refl

node-plain : (p : Problem) (tables : List (List ClassShare)) (n : Node) → IsValid p → HaveNames p → length tables < 10 ^ 64 → IsNodeInRange p tables n
    → is_plain_record (node_fields p n) ≡ true
node-plain p tables (node.Branch (split.ByArc shipment arc)) v named few r =
    rw (shipment-plain p shipment named r.0, tail-plain p arc v r.1, head-plain p arc v r.1) refl
node-plain p tables (node.Branch (split.ByTime shipment terminal at)) v named few r =
    rw (shipment-plain p shipment named r.0, terminal-plain p terminal v r.1, (time-back at r.2).plain) refl
node-plain p tables (node.Branch (split.ByTrucks arc point until most)) v named few r =
    rw (
      tail-plain p arc v r.arc,
      head-plain p arc v r.arc,
      (time-back point r.point).plain,
      (number-back until (omega (arith, r.until))).plain,
      (number-back most (omega (arith, r.most))).plain,
    ) refl
node-plain p tables (node.Branch (split.ByWay shipment arc)) v named few r =
    rw (shipment-plain p shipment named r.0, tail-plain p arc v r.1, head-plain p arc v r.1) refl
node-plain p tables (node.Leaf l) v named few r = priced-plain tables MOST_SPLITS (codes "leaf") l.price l.sides (omega arith) refl few r.kind r.round r.sides
node-plain p tables (node.Narrow n) v named few r = priced-plain tables largest_figure (codes "narrow") n.price n.worth (omega arith) refl few r.kind r.round r.worth

-- all lines of a certificate
pub rows-plain : (p : Problem) (c : Statement) → IsValid p → HaveNames p → IsInRange p c → length c.tables < 2 ^ 32 - 1 → list_all is_plain_record (rows_of p c) ≡ true
rows-plain p c v named r few =
    and_from (is_plain_record (answer_fields p c.answer)) _ (answer-plain p c.answer named r.answer)
    (both-plain (scale_rows c.scale) _ (scale-plain p c.scale r.scale)
    (both-plain (unit_rows c.unit) _ (unit-plain c.unit r.unit)
    (both-plain (map (leg_fields p) c.legs) _ (each-plain (leg_fields p) (IsLegInRange p) (λ l. leg-plain p l v named) c.legs (recursion_from_All (IsLegInRange p) c.legs r.legs))
    (both-plain (map (truck_fields p) c.trucks) _ (each-plain (truck_fields p) (IsTruckInRange p) (λ t. truck-plain p t v) c.trucks (recursion_from_All (IsTruckInRange p) c.trucks r.trucks))
    (both-plain (map (point_fields p) c.points) _ (each-plain (point_fields p) (IsPointInRange p) (λ x. point-plain p x v) c.points (recursion_from_All (IsPointInRange p) c.points r.points))
    (both-plain (tables_rows p c.spans c.gifts c.moments 1 c.tables) _ (tables-plain p c.spans c.gifts c.moments 1 c.tables v named (omega (arith, few)) r.tables r.spans r.gifts)
    (both-plain (map (node_fields p) c.tree) _
    (each-plain (node_fields p) (IsNodeInRange p c.tables) (λ n. node-plain p c.tables n v named (omega (arith, few))) c.tree (recursion_from_All (IsNodeInRange p c.tables) c.tree r.tree))
    refl)))))))
