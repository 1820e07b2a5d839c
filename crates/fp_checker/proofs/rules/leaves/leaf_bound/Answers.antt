-- The lists that are read are the certificate's, so the bound that is found is the leaf's.
use Rattle.std.proofs.Common.{◌≡◌, ◌∙◌, ℕ, Bool, true, false, List, sym, ap, subst}
use Rattle.std.specs.Prelude.{Some}
use Rattle.fp_flatnet.specs.Tables.{windows_in}
use Rattle.fp_timenodes.specs.Points.{points_at}
use Rattle.fp_prices.specs.Shares.{ClassShare}
use Rattle.fp_prices_gifts.specs.declared.gifts.Gift.{Gift}
use Rattle.fp_prices_gifts.specs.GiftKinds.{gifts_beside}
use Rattle.fp_prices_spans.specs.SpanKinds.{spans_beside}
use Rattle.fp_prices_spans.specs.SpanPricings.{ArePrices}
use Rattle.fp_prices_spans.specs.Spans.{ClassSpan}
use Rattle.fp_certificate_lines.specs.Moments.{by_moments}
use Rattle.fp_certificate_lines.specs.Statements.{Statement}
use Rattle.fp_checker.proofs.GiftBounds.{unspanned-bound}
use Rattle.fp_checker.proofs.Results.{nothing-in}
use Rattle.fp_checker.proofs.Spanned.{beside-spans, read-bound}
use Rattle.fp_checker.proofs.rules.leaves.leaf_bound.Goals as goal

pub moment_bound_of-requires-clause-prices : goal.moment_bound_of-requires-clause-prices
moment_bound_of-requires-clause-prices c =
    let p = c.case.inside.instance.now in
    let told : Statement = c.case.inside.certificate.now in
    let kind = c.args.price.kind in
    let tables : c.as_slice-tables.result.now ≡ told.tables = c.as_slice-tables.ensures.value ∙ ap (λ (s : Statement). s.tables) c.certificate.view_is in
    let spans : c.spans_beside-spans.result.now ≡ spans_beside told.spans kind =
    c.spans_beside-spans.ensures ∙ ap (λ (s : List (List ClassSpan)). spans_beside s kind) (c.deref.ensures.value ∙ ap (λ (s : Statement). s.spans) c.certificate.view_is) in
    let has_kind = rw (← c.case.view_is) at c.requires.kind in
    let prices = rw (← c.case.view_is) at c.requires.prices in
    subst (λ (ss : List ClassSpan). ArePrices p c.as_slice-tables.result.now ss kind) (sym spans)
    (subst (λ (ts : List (List ClassShare)). ArePrices p ts (spans_beside told.spans kind) kind) (sym tables)
    (record { are_tables = prices.tables; has_kind = has_kind; are_spans = beside-spans p c.case.inside.windows.now told c.case.invariant.range prices kind }))

pub gift_bound_of-requires-clause-prices : goal.gift_bound_of-requires-clause-prices
gift_bound_of-requires-clause-prices c =
    let p = c.case.inside.instance.now in
    let told : Statement = c.case.inside.certificate.now in
    let kind = c.args.price.kind in
    let tables : c.as_slice-tables.result.now ≡ told.tables = c.as_slice-tables.ensures.value ∙ ap (λ (s : Statement). s.tables) c.certificate.view_is in
    let spans : c.spans_beside-spans.result.now ≡ spans_beside told.spans kind =
    c.spans_beside-spans.ensures ∙ ap (λ (s : List (List ClassSpan)). spans_beside s kind) (c.deref.ensures.value ∙ ap (λ (s : Statement). s.spans) c.certificate.view_is) in
    let has_kind = rw (← c.case.view_is) at c.requires.kind in
    let prices = rw (← c.case.view_is) at c.requires.prices in
    subst (λ (ss : List ClassSpan). ArePrices p c.as_slice-tables.result.now ss kind) (sym spans)
    (subst (λ (ts : List (List ClassShare)). ArePrices p ts (spans_beside told.spans kind) kind) (sym tables)
    (record { are_tables = prices.tables; has_kind = has_kind; are_spans = beside-spans p c.case.inside.windows.now told c.case.invariant.range prices kind }))

pub returns-then-by_moments-clause-exact : goal.returns-then-by_moments-clause-exact
returns-then-by_moments-clause-exact c =
    let told : Statement = c.case.inside.certificate.now in
    let kind = c.args.price.kind in
    let timed : c.by_moments.result ≡ by_moments told.moments kind = c.by_moments.ensures ∙ ap (λ (ms : List Bool). by_moments ms kind) (c.deref-3.ensures.value ∙ ap (λ (s : Statement). s.moments) c.certificate.view_is) in
    let tables : c.as_slice-tables.result.now ≡ told.tables = c.as_slice-tables.ensures.value ∙ ap (λ (s : Statement). s.tables) c.certificate.view_is in
    let spans : c.spans_beside-spans.result.now ≡ spans_beside told.spans kind =
    c.spans_beside-spans.ensures ∙ ap (λ (s : List (List ClassSpan)). spans_beside s kind) (c.deref.ensures.value ∙ ap (λ (s : Statement). s.spans) c.certificate.view_is) in
    let gifts : c.gifts_beside-gifts.result.now ≡ gifts_beside told.gifts kind =
    c.gifts_beside-gifts.ensures ∙ ap (λ (g : List (List Gift)). gifts_beside g kind) (c.deref-2.ensures.value ∙ ap (λ (s : Statement). s.gifts) c.certificate.view_is) in
    let prices = rw (← c.case.view_is) at c.requires.prices in
    let are = rw (← c.case.view_is) at c.requires.points in
    rw (← c.case.view_is)
    (read-bound c.case.inside.instance.now c.case.inside.windows.now told c.args.points.now c.args.sides.now c.args.price c.in_ok-bound.bound c.case.invariant.belongs.valid c.case.invariant.range prices are
    true c.as_slice-tables.result.now c.spans_beside-spans.result.now c.gifts_beside-gifts.result.now (sym c.if-by_moments.true ∙ timed) tables spans gifts c.in_ok-bound.ensures.exact)

pub returns-then-is_empty-2-clause-exact : goal.returns-then-is_empty-2-clause-exact
returns-then-is_empty-2-clause-exact c =
    let p = c.case.inside.instance.now in
    let told : Statement = c.case.inside.certificate.now in
    let kind = c.args.price.kind in
    let forced : Bool = c.args.price.forced in
    let points : ℕ → List ℕ = λ terminal. points_at c.args.points.now terminal c.args.price.round in
    let timed : c.by_moments.result ≡ by_moments told.moments kind = c.by_moments.ensures ∙ ap (λ (ms : List Bool). by_moments ms kind) (c.deref-3.ensures.value ∙ ap (λ (s : Statement). s.moments) c.certificate.view_is) in
    let tables : c.as_slice-tables.result.now ≡ told.tables = c.as_slice-tables.ensures.value ∙ ap (λ (s : Statement). s.tables) c.certificate.view_is in
    let spans : c.spans_beside-spans.result.now ≡ spans_beside told.spans kind =
    c.spans_beside-spans.ensures ∙ ap (λ (s : List (List ClassSpan)). spans_beside s kind) (c.deref.ensures.value ∙ ap (λ (s : Statement). s.spans) c.certificate.view_is) in
    let gifts : c.gifts_beside-gifts.result.now ≡ gifts_beside told.gifts kind =
    c.gifts_beside-gifts.ensures ∙ ap (λ (g : List (List Gift)). gifts_beside g kind) (c.deref-2.ensures.value ∙ ap (λ (s : Statement). s.gifts) c.certificate.view_is) in
    let prices = rw (← c.case.view_is) at c.requires.prices in
    let are = rw (← c.case.view_is) at c.requires.points in
    rw (← c.case.view_is)
    (read-bound p c.case.inside.windows.now told c.args.points.now c.args.sides.now c.args.price (Some c.in_ok-found.found.0) c.case.invariant.belongs.valid c.case.invariant.range prices are
    false c.as_slice-tables.result.now c.spans_beside-spans.result.now c.gifts_beside-gifts.result.now (sym c.if-by_moments.false ∙ timed) tables spans gifts
    (unspanned-bound p (windows_in c.case.inside.windows.now) c.args.sides.now c.as_slice-tables.result.now kind forced points c.spans_beside-spans.result.now c.gifts_beside-gifts.result.now c.in_ok-found.found.0
    (nothing-in c.spans_beside-spans.result.now (sym c.is_empty.ensures ∙ c.if-is_empty.true)) (nothing-in c.gifts_beside-gifts.result.now (sym c.is_empty-then-is_empty.ensures ∙ c.if-is_empty-2.true))
    c.in_ok-found.ensures.exact))

pub returns-clause-exact : goal.returns-clause-exact
returns-clause-exact c =
    let told : Statement = c.case.inside.certificate.now in
    let kind = c.args.price.kind in
    let timed : c.by_moments.result ≡ by_moments told.moments kind = c.by_moments.ensures ∙ ap (λ (ms : List Bool). by_moments ms kind) (c.deref-3.ensures.value ∙ ap (λ (s : Statement). s.moments) c.certificate.view_is) in
    let tables : c.as_slice-tables.result.now ≡ told.tables = c.as_slice-tables.ensures.value ∙ ap (λ (s : Statement). s.tables) c.certificate.view_is in
    let spans : c.spans_beside-spans.result.now ≡ spans_beside told.spans kind =
    c.spans_beside-spans.ensures ∙ ap (λ (s : List (List ClassSpan)). spans_beside s kind) (c.deref.ensures.value ∙ ap (λ (s : Statement). s.spans) c.certificate.view_is) in
    let gifts : c.gifts_beside-gifts.result.now ≡ gifts_beside told.gifts kind =
    c.gifts_beside-gifts.ensures ∙ ap (λ (g : List (List Gift)). gifts_beside g kind) (c.deref-2.ensures.value ∙ ap (λ (s : Statement). s.gifts) c.certificate.view_is) in
    let prices = rw (← c.case.view_is) at c.requires.prices in
    let are = rw (← c.case.view_is) at c.requires.points in
    rw (← c.case.view_is)
    (read-bound c.case.inside.instance.now c.case.inside.windows.now told c.args.points.now c.args.sides.now c.args.price c.in_ok-bound-2.bound c.case.invariant.belongs.valid c.case.invariant.range prices are
    false c.as_slice-tables.result.now c.spans_beside-spans.result.now c.gifts_beside-gifts.result.now (sym c.if-by_moments.false ∙ timed) tables spans gifts c.in_ok-bound-2.ensures.exact)
