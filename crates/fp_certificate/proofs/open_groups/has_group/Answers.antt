use Rattle.std.proofs.Common.{◌∙◌, ◌-◌, List, length, sym, ap, arith}
use Rattle.std.proofs.lemmas.Option.{get_or_from_slice_get, slice_get_within}
use Rattle.fp_prices_spans.specs.Spans.{ClassSpan}
use Rattle.fp_certificate.specs.Tables.{is_grouped, last_is}
use Rattle.fp_certificate.proofs.LastElements.{last_is-last}
use Rattle.fp_certificate.proofs.open_groups.has_group.Goals as goal

pub returns-in-Some : goal.returns-in-Some
returns-in-Some c =
    let lists = c.args.spans.now in
    let last = c.in-Some.beside.now in
    let there = sym c.in-Some.ensures.value in
    let within = slice_get_within lists (length lists - 1) last there in
    c.ends_grouped.ensures
    ∙ ap (λ (t : List ClassSpan). last_is is_grouped t) (c.deref.ensures.value ∙ c.beside.view_is ∙ sym (get_or_from_slice_get lists (length lists - 1) last last there))
    ∙ sym (last_is-last (λ (t : List ClassSpan). last_is is_grouped t) lists last (omega (arith, within)))
