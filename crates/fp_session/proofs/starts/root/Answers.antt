-- What is kept of the root, which has no sides.
use Rattle.std.proofs.Common.{◌≡◌, List, [], sym, ap, ◌∙◌, subst}
use Rattle.fp_model.specs.Problem.{Problem}
use Rattle.fp_flatnet.specs.Tables.{WindowTable}
use Rattle.fp_longestarcs.specs.Networks.{TimedNetwork}
use Rattle.fp_tree.specs.declared.sides.Side.{Side}
use Rattle.fp_allowed.specs.Settings.{Setting}
use Rattle.fp_prices.specs.Rounds.{RoundModel}
use Rattle.fp_duals_leaves.specs.Prices.{HaveGrown}
use Rattle.fp_session.specs.declared.kept.Kept.{Kept}
use Rattle.fp_session.specs.Nodes.{IsKept}
use Rattle.fp_session.specs.Starts.{start_of}
use Rattle.fp_session.proofs.Beginnings.{root-empty, root-priced}
use Rattle.fp_session.proofs.Improvements.{ImprovedIn}
use Rattle.fp_session.proofs.starts.root.Goals as goal

-- the setting of the root
setting-root : (x : Setting) (p : Problem) (table : WindowTable) (net copy : TimedNetwork) (r : RoundModel) → x ≡ record { problem = r.problem; windows = table; network = r.network } →
    r ≡ record { problem = p; network = copy } → copy ≡ net → x ≡ record { problem = p; windows = table; network = net }
setting-root x p table net copy r is of same =
    is ∙ ap (λ (q : RoundModel). let y : Setting = record { problem = q.problem; windows = table; network = q.network } in y) of
    ∙ ap (λ (n : TimedNetwork). let y : Setting = record { problem = p; windows = table; network = n } in y) same

pub returns-in-Empty-clause-kept : goal.returns-in-Empty-clause-kept
returns-in-Empty-clause-kept c =
    subst (λ (k : Kept). IsKept (start_of c.args.instance.now c.args.windows.now c.improve.new.prices) [] k.payload k.value) (sym c.emptied.ensures)
    (root-empty c.args.instance.now c.args.windows.now c.args.network.now c.requires.belongs.valid c.requires.points c.improve.new.prices c.in_ok-price.field-0 c.in_ok-leaf.leaf.setting
    (setting-root c.in_ok-leaf.leaf.setting c.args.instance.now c.args.windows.now c.args.network.now c.in_ok-copy.field-0 c.in_ok-round.round c.in_ok-leaf.ensures.setting c.in_ok-round.ensures c.in_ok-copy.ensures)
    (subst (λ (l : List Side). ImprovedIn c.in_ok-leaf.leaf.setting l c.improve.new.prices 0 c.in_ok-price.field-0) c.in_ok-leaf.ensures.sides c.in_ok-price.ensures.improved) c.in-Empty.price
    c.in-Empty.is)

pub returns-clause-kept : goal.returns-clause-kept
returns-clause-kept c =
    let setting =
    setting-root c.in_ok-leaf.leaf.setting c.args.instance.now c.args.windows.now c.args.network.now c.in_ok-copy.field-0 c.in_ok-round.round c.in_ok-leaf.ensures.setting c.in_ok-round.ensures c.in_ok-copy.ensures in
    let grown : HaveGrown c.args.instance.now c.args.windows.now c.args.prices.now c.improve.new.prices =
    subst (λ (x : Setting). HaveGrown x.problem x.windows c.args.prices.now c.improve.new.prices) setting c.improve.ensures.grown in
    subst (λ (k : Kept). IsKept (start_of c.args.instance.now c.args.windows.now c.improve.new.prices) [] k.payload k.value) (sym c.priced.ensures)
    (root-priced c.args.instance.now c.args.windows.now c.args.network.now c.requires.belongs.valid c.requires.points c.improve.new.prices c.in_ok-price.field-0 c.in_ok-leaf.leaf.setting setting
    (subst (λ (l : List Side). ImprovedIn c.in_ok-leaf.leaf.setting l c.improve.new.prices 0 c.in_ok-price.field-0) c.in_ok-leaf.ensures.sides c.in_ok-price.ensures.improved) grown.prices c.in-Priced.price
    c.in-Priced.value c.in-Priced.walks c.in-Priced.is)
