-- The ones below the end of the range, without those below its start.
use Rattle.std.proofs.Common.{◌≡◌, ◌-◌, ◌*◌, min, ap, ◌∙◌}
use Rattle.std.specs.Prelude.{ℕ}
use Rattle.fp_rows.proofs.RangeMasks.{mask-within}
use Rattle.fp_rows.proofs.masks.range_mask.Goals as goal

pub returns : goal.returns
returns c = λ i h.
    let start : ℕ = 64 * c.args.word in
    let low : c.min-low.result ≡ min (c.args.from - start) 64 = c.min-low.ensures ∙ ap (λ (n : ℕ). min n 64) c.saturating_sub.ensures in
    let high : c.min-high.result ≡ min (c.args.to - start) 64 = c.min-high.ensures ∙ ap (λ (n : ℕ). min n 64) c.saturating_sub-2.ensures in
    rw (c.ones_below.ensures, c.ones_below-2.ensures, low, high) (mask-within c.args.from c.args.to c.args.word i h)
