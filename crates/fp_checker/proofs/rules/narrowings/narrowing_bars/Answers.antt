-- The lists that are read are the certificate's, so the bars that are found are the narrowing's.
use Rattle.std.proofs.Common.{◌≡◌, ◌∙◌, Bool, true, false, List, sym, ap, subst}
use Rattle.std.proofs.lemmas.Result.{IfOk-weaker}
use Rattle.fp_prices.specs.Shares.{ClassShare}
use Rattle.fp_prices_gifts.specs.declared.gifts.Gift.{Gift}
use Rattle.fp_prices_gifts.specs.GiftKinds.{gifts_beside}
use Rattle.fp_prices_spans.specs.SpanKinds.{spans_beside}
use Rattle.fp_prices_spans.specs.SpanPricings.{ArePrices}
use Rattle.fp_prices_spans.specs.Spans.{ClassSpan}
use Rattle.fp_certificate_lines.specs.Moments.{by_moments}
use Rattle.fp_certificate_lines.specs.Statements.{Statement}
use Rattle.fp_certificate_rules.specs.Accepted.{claim_of}
use Rattle.fp_checker.proofs.NarrowingBars.{read-bars}
use Rattle.fp_checker.proofs.Spanned.{beside-spans}
use Rattle.fp_checker.proofs.rules.narrowings.narrowing_bars.Goals as goal

pub returns-then-by_moments : goal.returns-then-by_moments
returns-then-by_moments c =
    let told : Statement = c.case.inside.certificate.now in
    let kind = c.args.narrowing.price.kind in
    let tables : c.as_slice.result.now ≡ told.tables = c.as_slice.ensures.value ∙ ap (λ (s : Statement). s.tables) c.certificate.view_is in
    let spans : c.spans_beside.result.now ≡ spans_beside told.spans kind =
    c.spans_beside.ensures ∙ ap (λ (s : List (List ClassSpan)). spans_beside s kind) (c.deref.ensures.value ∙ ap (λ (s : Statement). s.spans) c.certificate.view_is) in
    let timed : c.by_moments.result ≡ by_moments told.moments kind = c.by_moments.ensures ∙ ap (λ (ms : List Bool). by_moments ms kind) (c.deref-3.ensures.value ∙ ap (λ (s : Statement). s.moments) c.certificate.view_is) in
    let gifts : c.gifts_beside.result.now ≡ gifts_beside told.gifts kind =
    c.gifts_beside.ensures ∙ ap (λ (g : List (List Gift)). gifts_beside g kind) (c.deref-2.ensures.value ∙ ap (λ (s : Statement). s.gifts) c.certificate.view_is) in
    let prices = rw (← c.case.view_is) at c.requires.prices in
    let points = rw (← c.case.view_is) at c.requires.points in
    let least = rw (← c.case.view_is) at c.least_money-money.ensures in
    rw (← c.case.view_is)
    (IfOk-weaker c.moment_bars_of.result _ _
    (λ bars found.
    read-bars c.case.inside.instance.now c.case.inside.windows.now told c.args.points.now c.args.sides.now c.args.narrowing (claim_of told.answer) c.least_money-money.result c.case.invariant.belongs.valid c.case.invariant.range prices points
    least bars.items true c.as_slice.result.now c.spans_beside.result.now c.gifts_beside.result.now (sym c.if-by_moments.true ∙ timed) tables spans gifts found)
    c.moment_bars_of.ensures)

pub gift_bars_of-requires-clause-prices : goal.gift_bars_of-requires-clause-prices
gift_bars_of-requires-clause-prices c =
    let p = c.case.inside.instance.now in
    let told : Statement = c.case.inside.certificate.now in
    let kind = c.args.narrowing.price.kind in
    let tables : c.as_slice.result.now ≡ told.tables = c.as_slice.ensures.value ∙ ap (λ (s : Statement). s.tables) c.certificate.view_is in
    let spans : c.spans_beside.result.now ≡ spans_beside told.spans kind =
    c.spans_beside.ensures ∙ ap (λ (s : List (List ClassSpan)). spans_beside s kind) (c.deref.ensures.value ∙ ap (λ (s : Statement). s.spans) c.certificate.view_is) in
    let has_kind = rw (← c.case.view_is) at c.requires.kind in
    let prices = rw (← c.case.view_is) at c.requires.prices in
    subst (λ (ss : List ClassSpan). ArePrices p c.as_slice.result.now ss kind) (sym spans)
    (subst (λ (ts : List (List ClassShare)). ArePrices p ts (spans_beside told.spans kind) kind) (sym tables)
    (record { are_tables = prices.tables; has_kind = has_kind; are_spans = beside-spans p c.case.inside.windows.now told c.case.invariant.range prices kind }))

pub returns : goal.returns
returns c =
    let told : Statement = c.case.inside.certificate.now in
    let kind = c.args.narrowing.price.kind in
    let tables : c.as_slice.result.now ≡ told.tables = c.as_slice.ensures.value ∙ ap (λ (s : Statement). s.tables) c.certificate.view_is in
    let spans : c.spans_beside.result.now ≡ spans_beside told.spans kind =
    c.spans_beside.ensures ∙ ap (λ (s : List (List ClassSpan)). spans_beside s kind) (c.deref.ensures.value ∙ ap (λ (s : Statement). s.spans) c.certificate.view_is) in
    let timed : c.by_moments.result ≡ by_moments told.moments kind = c.by_moments.ensures ∙ ap (λ (ms : List Bool). by_moments ms kind) (c.deref-3.ensures.value ∙ ap (λ (s : Statement). s.moments) c.certificate.view_is) in
    let gifts : c.gifts_beside.result.now ≡ gifts_beside told.gifts kind =
    c.gifts_beside.ensures ∙ ap (λ (g : List (List Gift)). gifts_beside g kind) (c.deref-2.ensures.value ∙ ap (λ (s : Statement). s.gifts) c.certificate.view_is) in
    let prices = rw (← c.case.view_is) at c.requires.prices in
    let points = rw (← c.case.view_is) at c.requires.points in
    let least = rw (← c.case.view_is) at c.least_money-money.ensures in
    rw (← c.case.view_is)
    (IfOk-weaker c.gift_bars_of.result _ _
    (λ bars found.
    read-bars c.case.inside.instance.now c.case.inside.windows.now told c.args.points.now c.args.sides.now c.args.narrowing (claim_of told.answer) c.least_money-money.result c.case.invariant.belongs.valid c.case.invariant.range prices points
    least bars.items false c.as_slice.result.now c.spans_beside.result.now c.gifts_beside.result.now (sym c.if-by_moments.false ∙ timed) tables spans gifts found)
    c.gift_bars_of.ensures)
