use Rattle.std.proofs.Common.{◌∙◌, ℕ, Bool, List, refl, sym, subst}
use Rattle.std.specs.Prelude.{◌↔◌, All, IsTrue, Option}
use Rattle.std.proofs.lemmas.Bool.{false≢true}
use Rattle.std.proofs.lemmas.List.Elements.{All-get_or}
use Rattle.fp_flatnet.specs.declared.window_tables.Window.{Window}
use Rattle.fp_flatnet.specs.Tables.{windows_in}
use Rattle.fp_prices_spans.specs.MomentRuns.{first_points}
use Rattle.fp_prices_spans.specs.SpanCharges.{ChargePays, IsFirstUnpaid}
use Rattle.fp_prices_spans.specs.SpanLists.{no_span}
use Rattle.fp_certificate_rules.specs.Prices.{ArePricesBeside}
use Rattle.fp_checker.proofs.GiftFaults.{listed-paid, paid-pay, prices-listed}
use Rattle.fp_checker.proofs.Results.{none-kept}
use Rattle.fp_checker.proofs.rules.price_gifts.are_prices_beside.Goals as goal

pub returns-then-not-branch : goal.returns-then-not-branch
returns-then-not-branch c = (
  λ h. absurd (false≢true h),
  λ are.
      absurd (false≢true (sym c.if-not-branch.true
      ∙ c.in_ok-are_listed_beside.ensures.1 (prices-listed c.args.instance.now (windows_in c.args.windows.now) (first_points c.args.points.now) c.args.spans.now c.args.gifts.now c.args.by_moments are))),
)

pub returns-then-by_moments : goal.returns-then-by_moments
returns-then-by_moments c = (
  λ _.
      subst (λ (timed : Bool). ArePricesBeside timed c.args.instance.now (windows_in c.args.windows.now) (first_points c.args.points.now) c.args.spans.now c.args.gifts.now) (sym c.if-by_moments.true)
      (c.in_ok-are_listed_beside.ensures.0 c.if-not-branch.false),
  λ _. refl,
)

pub returns : goal.returns
returns c =
    let p = c.args.instance.now in
    let windows : ℕ → ℕ → Option Window = windows_in c.args.windows.now in
    let first : ℕ → List ℕ = first_points c.args.points.now in
    let spans = c.args.spans.now in
    let gifts = c.args.gifts.now in
    let pay : IsTrue c.is_none.result ↔ All (ChargePays p windows first) spans =
    none-kept (All (ChargePays p windows first) spans) (IsFirstUnpaid p windows first spans) c.in_ok-check_charges.field-0 c.is_none.result c.is_none.ensures c.in_ok-check_charges.ensures
    (λ n found all. found.unpaid (All-get_or (ChargePays p windows first) spans n no_span found.exists all)) in
    subst (λ (timed : Bool). IsTrue c.is_none.result ↔ ArePricesBeside timed p windows first spans gifts) (sym c.if-by_moments.false)
    (λ h. listed-paid p windows first spans gifts (c.in_ok-are_listed_beside.ensures.0 c.if-not-branch.false) (pay.0 h), λ are. pay.1 (paid-pay p windows first spans gifts are))
