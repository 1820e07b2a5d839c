use Rattle.std.proofs.Common.{◌≡◌, ◌∙◌, ℕ, ◌-◌, Bool, length, sym, ap, arith}
use Rattle.std.specs.Prelude.{◌==◌, not, vec_len}
use Rattle.std.proofs.lemmas.Option.{get_or_from_slice_get, slice_get_within}
use Rattle.fp_certificate.specs.Tables.{is_grouped}
use Rattle.fp_certificate.proofs.LastElements.{last_is-last}
use Rattle.fp_certificate.proofs.open_groups.ends_grouped.Goals as goal

pub returns-in-Some : goal.returns-in-Some
returns-in-Some c =
    let spans = c.args.spans.now in
    let last = c.in-Some.span.now in
    let groups = c.span.inside.groups in
    let count : vec_len groups ≡ length groups.items = omega arith in
    let there = sym c.in-Some.ensures.value in
    let within = slice_get_within spans (length spans - 1) last there in
    ap (λ (b : Bool). not b) (c.is_empty.ensures ∙ ap (λ (n : ℕ). n == 0) count)
    ∙ ap is_grouped (c.span.view_is ∙ sym (get_or_from_slice_get spans (length spans - 1) last last there))
    ∙ sym (last_is-last is_grouped spans last (omega (arith, within)))
