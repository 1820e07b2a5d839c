use Rattle.std.proofs.Common.{◌≡◌, ◌∙◌, List, [], length, sym, ap, subst}
use Rattle.std.specs.Prelude.{◌==◌, ◌↔◌, IsTrue}
use Rattle.std.proofs.lemmas.Bool.{false≢true}
use Rattle.fp_prices_gifts.specs.declared.gifts.Gift.{Gift}
use Rattle.fp_prices_gifts.specs.Gifts.{IsGiftFault, IsGiftList}
use Rattle.fp_prices_spans.specs.SpanLists.{IsSpanFault, IsSpanList}
use Rattle.fp_prices_spans.proofs.PaidSpans.{fault-refutes}
use Rattle.fp_certificate_rules.specs.Prices.{AreListedBeside, AreListedWithGifts}
use Rattle.fp_checker.proofs.GiftFaults.{gifts-refuted, listed-beside, listed-together}
use Rattle.fp_checker.proofs.Results.{none-kept, nothing-in}
use Rattle.fp_checker.proofs.rules.price_gifts.are_listed_beside.Goals as goal

pub returns-then-is_empty : goal.returns-then-is_empty
returns-then-is_empty c =
    let p = c.args.instance.now in
    let spans = c.args.spans.now in
    subst (λ (gifts : List Gift). IsTrue c.is_none.result ↔ AreListedBeside p spans gifts) (sym (nothing-in c.args.gifts.now (sym c.is_empty.ensures ∙ c.if-is_empty.true)))
    (none-kept (IsSpanList p spans) (IsSpanFault p spans) c.in_ok-check_spans.field-0 c.is_none.result c.is_none.ensures c.in_ok-check_spans.ensures (fault-refutes p spans))

pub returns-then-not-branch : goal.returns-then-not-branch
returns-then-not-branch c =
    let some : c.args.gifts.now ≡ [] → ⊥ = λ none. false≢true (sym c.if-is_empty.false ∙ c.is_empty.ensures ∙ ap (λ (gifts : List Gift). length gifts == 0) none) in (
      λ h. absurd (false≢true h),
      λ are.
          let together : AreListedWithGifts c.args.instance.now c.args.spans.now c.args.gifts.now = listed-together c.args.instance.now c.args.spans.now c.args.gifts.now some are in
          absurd (false≢true (sym c.if-not-branch.true ∙ c.in_ok-are_in_order.ensures.1 (together.ordered, together.light))),
    )

pub returns : goal.returns
returns c =
    let p = c.args.instance.now in
    let spans = c.args.spans.now in
    let gifts = c.args.gifts.now in
    let some : gifts ≡ [] → ⊥ = λ none. false≢true (sym c.if-is_empty.false ∙ c.is_empty.ensures ∙ ap (λ (gifts : List Gift). length gifts == 0) none) in
    let kept : IsTrue c.is_none-2.result ↔ IsGiftList p spans gifts =
    none-kept (IsGiftList p spans gifts) (IsGiftFault p spans gifts) c.check_gifts.result c.is_none-2.result c.is_none-2.ensures c.check_gifts.ensures (gifts-refuted p spans gifts) in
    let ordered = c.in_ok-are_in_order.ensures.0 c.if-not-branch.false in
    (λ h. listed-beside p spans gifts some (record { ordered = ordered.0; light = ordered.1; given = kept.0 h }), λ are. kept.1 (listed-together p spans gifts some are).given)
