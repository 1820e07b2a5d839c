-- A table that comes has nothing beside it; without memory for that, it goes again.
use Rattle.std.proofs.Common.{◌≡◌, List, [], ◌∷◌, ◌++◌, length, take, refl, sym, ap, ◌∙◌, subst, arith}
use Rattle.fp_flatnet.specs.Tables.{windows_in}
use Rattle.fp_longestarcs.specs.Networks.{points_in}
use Rattle.fp_prices.specs.Shares.{ClassShare}
use Rattle.fp_prices_gifts.specs.declared.gifts.Gift.{Gift}
use Rattle.fp_prices_gifts.specs.GiftKinds.{gifts_beside}
use Rattle.fp_prices_spans.specs.SpanKinds.{spans_beside}
use Rattle.fp_prices_spans.specs.Spans.{ClassSpan}
use Rattle.fp_duals_leaves.specs.Prices.{ArePrices, HaveGrown, PriceLists}
use Rattle.fp_duals_leaves.specs.Pricing.{IsImprovedByTables}
use Rattle.fp_duals_leaves.proofs.GrownPrices.{HaveGrown-same, prices-same}
use Rattle.fp_duals_leaves.proofs.ImprovedPrices.{cut-front, grown-added, grown-same, improved-added, improved-same}
use Rattle.fp_duals_leaves.proofs.prices.Prices.improve.Goals as goal

pub returns-in_err-improved-clause-grown : goal.returns-in_err-improved-clause-grown
returns-in_err-improved-clause-grown g c =
    let inside = c.self.inside in
    HaveGrown-same c.args.leaf.now.setting.problem c.args.leaf.now.setting.windows c.args.self.now (record { tables = c.improve_leaf.new.tables; spans = inside.spans.items; gifts = inside.gifts.items; unit = inside.unit })
    (ap (λ (ts : List (List ClassShare)). record { tables = ts; spans = inside.spans.items; gifts = inside.gifts.items; unit = inside.unit }) c.in_err-improved.ensures.err ∙ c.self.view_is) c.requires.prices

pub returns-then-list-len-clause-improved : goal.returns-then-list-len-clause-improved
returns-then-list-len-clause-improved g c =
    let leaf = c.args.leaf.now in
    let kind = c.without_spans-plain.result.kind in
    let inside : PriceLists = record { tables = c.self.inside.tables; spans = c.self.inside.spans.items; gifts = c.self.inside.gifts.items; unit = c.self.inside.unit } in
    improved-same leaf.setting.problem leaf.setting.windows (points_in leaf.setting.network) leaf.sides inside (subst (ArePrices leaf.setting.problem leaf.setting.windows) (sym c.self.view_is) c.requires.prices)
    c.improve_leaf.new.tables kind (subst (λ (x : PriceLists). spans_beside x.spans kind ≡ []) (sym c.self.view_is) c.without_spans-plain.ensures.kind)
    (subst (λ (x : PriceLists). gifts_beside x.gifts kind ≡ []) (sym c.self.view_is) c.without_spans-plain.ensures.ungiven)
    c.args.round c.in_ok-improved.improved c.in_ok-improved.ensures.improved
    (omega (arith, ap length c.list.ensures.same, c.if-list-len.true, c.len.ensures, c.self.inside.spans.ok))

pub returns-then-list-len-clause-grown : goal.returns-then-list-len-clause-grown
returns-then-list-len-clause-grown g c =
    let leaf = c.args.leaf.now in
    let kind = c.without_spans-plain.result.kind in
    let inside : PriceLists = record { tables = c.self.inside.tables; spans = c.self.inside.spans.items; gifts = c.self.inside.gifts.items; unit = c.self.inside.unit } in
    subst (λ (x : PriceLists). HaveGrown leaf.setting.problem leaf.setting.windows x (record { tables = c.improve_leaf.new.tables; spans = c.self.inside.spans.items; gifts = c.self.inside.gifts.items; unit = c.self.inside.unit })) c.self.view_is
    (grown-same leaf.setting.problem leaf.setting.windows (points_in leaf.setting.network) leaf.sides inside (subst (ArePrices leaf.setting.problem leaf.setting.windows) (sym c.self.view_is) c.requires.prices)
    c.improve_leaf.new.tables kind (subst (λ (x : PriceLists). spans_beside x.spans kind ≡ []) (sym c.self.view_is) c.without_spans-plain.ensures.kind)
    (subst (λ (x : PriceLists). gifts_beside x.gifts kind ≡ []) (sym c.self.view_is) c.without_spans-plain.ensures.ungiven)
    c.args.round c.in_ok-improved.improved c.in_ok-improved.ensures.improved c.in_ok-improved.ensures.tables
    (omega (arith, ap length c.list.ensures.same, c.if-list-len.true, c.len.ensures, c.self.inside.spans.ok)))

pub returns-in-Err-clause-grown : goal.returns-in-Err-clause-grown
returns-in-Err-clause-grown g c =
    let leaf = c.args.leaf.now in
    let kind = c.without_spans-plain.result.kind in
    let inside : PriceLists = record { tables = c.self.inside.tables; spans = c.self.inside.spans.items; gifts = c.self.inside.gifts.items; unit = c.self.inside.unit } in
    let back : c.cut.new.self ≡ c.self.inside.tables =
    cut-front leaf.setting.problem leaf.setting.windows (points_in leaf.setting.network) leaf.sides inside (subst (ArePrices leaf.setting.problem leaf.setting.windows) (sym c.self.view_is) c.requires.prices)
    c.improve_leaf.new.tables kind (subst (λ (x : PriceLists). spans_beside x.spans kind ≡ []) (sym c.self.view_is) c.without_spans-plain.ensures.kind)
    (subst (λ (x : PriceLists). gifts_beside x.gifts kind ≡ []) (sym c.self.view_is) c.without_spans-plain.ensures.ungiven)
    c.args.round c.in_ok-improved.improved c.in_ok-improved.ensures.improved c.cut.new.self
    (c.cut.ensures ∙ ap (λ n. take n c.improve_leaf.new.tables) (c.count-count.ensures ∙ ap (λ (x : PriceLists). length x.tables) (sym c.self.view_is))) in
    HaveGrown-same leaf.setting.problem leaf.setting.windows c.args.self.now (record { tables = c.cut.new.self; spans = c.push_beside.new.all_spans.items; gifts = c.push_beside.new.all_gifts.items; unit = c.self.inside.unit })
    (prices-same c.cut.new.self c.self.inside.tables c.push_beside.new.all_spans.items c.self.inside.spans.items c.push_beside.new.all_gifts.items c.self.inside.gifts.items c.self.inside.unit back c.in-Err.ensures.spans_err c.in-Err.ensures.gifts_err
    ∙ c.self.view_is) c.requires.prices

pub returns-clause-improved : goal.returns-clause-improved
returns-clause-improved g c =
    let leaf = c.args.leaf.now in
    let kind = c.without_spans-plain.result.kind in
    let inside : PriceLists = record { tables = c.self.inside.tables; spans = c.self.inside.spans.items; gifts = c.self.inside.gifts.items; unit = c.self.inside.unit } in
    subst (λ (x : PriceLists). IsImprovedByTables leaf.setting.problem (windows_in leaf.setting.windows) (points_in leaf.setting.network) leaf.sides x c.args.round c.in_ok-improved.improved)
    (sym (prices-same c.improve_leaf.new.tables c.improve_leaf.new.tables c.push_beside.new.all_spans.items (inside.spans ++ ([] ∷ [])) c.push_beside.new.all_gifts.items (inside.gifts ++ ([] ∷ [])) c.self.inside.unit refl
    (c.in_default.ensures.spans ∙ ap (λ (ss : List ClassSpan). inside.spans ++ (ss ∷ [])) c.new-spans.ensures.items)
    (c.in_default.ensures.gifts ∙ ap (λ (gs : List Gift). inside.gifts ++ (gs ∷ [])) c.new-gifts.ensures.items)))
    (improved-added leaf.setting.problem leaf.setting.windows (points_in leaf.setting.network) leaf.sides inside (subst (ArePrices leaf.setting.problem leaf.setting.windows) (sym c.self.view_is) c.requires.prices)
    c.improve_leaf.new.tables kind (subst (λ (x : PriceLists). spans_beside x.spans kind ≡ []) (sym c.self.view_is) c.without_spans-plain.ensures.kind)
    (subst (λ (x : PriceLists). gifts_beside x.gifts kind ≡ []) (sym c.self.view_is) c.without_spans-plain.ensures.ungiven)
    c.args.round c.in_ok-improved.improved c.in_ok-improved.ensures.improved
    (omega (arith, ap length c.list.ensures.same, c.if-list-len.false, c.len.ensures, c.self.inside.spans.ok)))

pub returns-clause-grown : goal.returns-clause-grown
returns-clause-grown g c =
    let leaf = c.args.leaf.now in
    let kind = c.without_spans-plain.result.kind in
    let inside : PriceLists = record { tables = c.self.inside.tables; spans = c.self.inside.spans.items; gifts = c.self.inside.gifts.items; unit = c.self.inside.unit } in
    let after : PriceLists = record { tables = c.improve_leaf.new.tables; spans = c.push_beside.new.all_spans.items; gifts = c.push_beside.new.all_gifts.items; unit = c.self.inside.unit } in
    subst (λ (x : PriceLists). HaveGrown leaf.setting.problem leaf.setting.windows x after) c.self.view_is
    (subst (HaveGrown leaf.setting.problem leaf.setting.windows inside)
    (sym (prices-same c.improve_leaf.new.tables c.improve_leaf.new.tables c.push_beside.new.all_spans.items (inside.spans ++ ([] ∷ [])) c.push_beside.new.all_gifts.items (inside.gifts ++ ([] ∷ [])) c.self.inside.unit refl
    (c.in_default.ensures.spans ∙ ap (λ (ss : List ClassSpan). inside.spans ++ (ss ∷ [])) c.new-spans.ensures.items)
    (c.in_default.ensures.gifts ∙ ap (λ (gs : List Gift). inside.gifts ++ (gs ∷ [])) c.new-gifts.ensures.items)))
    (grown-added leaf.setting.problem leaf.setting.windows (points_in leaf.setting.network) leaf.sides inside (subst (ArePrices leaf.setting.problem leaf.setting.windows) (sym c.self.view_is) c.requires.prices)
    c.improve_leaf.new.tables kind (subst (λ (x : PriceLists). spans_beside x.spans kind ≡ []) (sym c.self.view_is) c.without_spans-plain.ensures.kind)
    (subst (λ (x : PriceLists). gifts_beside x.gifts kind ≡ []) (sym c.self.view_is) c.without_spans-plain.ensures.ungiven)
    c.args.round c.in_ok-improved.improved c.in_ok-improved.ensures.improved c.in_ok-improved.ensures.tables
    (omega (arith, ap length c.list.ensures.same, c.if-list-len.false, c.len.ensures, c.self.inside.spans.ok))))
