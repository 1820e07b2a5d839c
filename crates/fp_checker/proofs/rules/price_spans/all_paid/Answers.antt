use Rattle.std.proofs.Common.{◌≡◌, ◌∙◌, ℕ, ◌+◌, ◌-◌, Bool, false, List, [], sym, subst, arith}
use Rattle.std.specs.Prelude.{slice_index_or}
use Rattle.std.proofs.lemmas.Bool.{false≢true}
use Rattle.std.proofs.lemmas.List.{get_or_default}
use Rattle.fp_flatnet.specs.Tables.{windows_in}
use Rattle.fp_prices_gifts.specs.declared.gifts.Gift.{Gift}
use Rattle.fp_prices_spans.specs.MomentRuns.{first_points}
use Rattle.fp_prices_spans.specs.Spans.{ClassSpan}
use Rattle.fp_certificate_rules.specs.Prices.{ArePricesBeside}
use Rattle.fp_checker.proofs.rules.price_spans.all_paid.Goals as goal

pub returns-then-not-branch : goal.returns-then-not-branch
returns-then-not-branch c =
    let place : ℕ = c.loop-place.place in
    let Paid : Bool → List ClassSpan → List Gift → Type 0 = λ timed. ArePricesBeside timed c.args.instance.now (windows_in c.args.windows.now) (first_points c.args.points.now) in
    let held : slice_index_or c.args.spans.now place [] ≡ c.deref.result.now = get_or_default c.args.spans.now place [] c.index-spans-place.result (omega (arith, c.loop-place-test.true, c.loop-place.auto.place-end)) ∙ sym (c.deref.ensures.value ∙ c.held.view_is ∙ c.index-spans-place.is) in
    let given : slice_index_or c.args.gifts.now place [] ≡ c.deref-in-loop-place.result.now = get_or_default c.args.gifts.now place [] c.index-gifts-place.result (omega (arith, c.loop-place-test.true, c.loop-place.auto.place-end, c.requires.beside)) ∙ sym (c.deref-in-loop-place.ensures.value ∙ c.given.view_is ∙ c.index-gifts-place.is) in
    let number : place + 1 - 1 ≡ place = omega arith in (
      λ h. absurd (false≢true h),
      λ all.
          let at : Paid (slice_index_or c.args.moments.now place false) (slice_index_or c.args.spans.now place []) (slice_index_or c.args.gifts.now place []) =
          subst (λ (n : ℕ). Paid (slice_index_or c.args.moments.now n false) (slice_index_or c.args.spans.now n []) (slice_index_or c.args.gifts.now n [])) number (all (place + 1)) in
          let here : Paid (slice_index_or c.args.moments.now place false) c.deref.result.now c.deref-in-loop-place.result.now =
          subst (λ (s : List ClassSpan). Paid (slice_index_or c.args.moments.now place false) s c.deref-in-loop-place.result.now) held
          (subst (Paid (slice_index_or c.args.moments.now place false) (slice_index_or c.args.spans.now place [])) given at) in
          absurd (false≢true (sym c.if-not-branch.true ∙ c.in_ok-are_prices_beside.ensures.1 here)),
    )
