use Rattle.std.proofs.Common.{◌≡◌, ◌∙◌, ℕ, ◌-◌, List, length, sym, ap, arith}
use Rattle.std.specs.Prelude.{◌==◌, vec_len}
use Rattle.std.proofs.lemmas.Option.{get_or_from_slice_get, slice_get_within}
use Rattle.fp_prices.specs.Shares.{ClassShare}
use Rattle.fp_records.specs.Fields.{is_empty}
use Rattle.fp_certificate.proofs.LastElements.{lacks_last-last}
use Rattle.fp_certificate.proofs.open_tables.lacks_share.Goals as goal

pub returns-in-Some : goal.returns-in-Some
returns-in-Some c =
    let tables = c.args.tables.now in
    let table = c.in-Some.table.now in
    let shares = c.table.inside.shares in
    let count : vec_len shares ≡ length shares.items = omega arith in
    let there = sym c.in-Some.ensures.value in
    let within = slice_get_within tables (length tables - 1) table there in
    c.is_empty.ensures ∙ ap (λ (n : ℕ). n == 0) count ∙ ap (λ (t : List ClassShare). is_empty t) (c.table.view_is ∙ sym (get_or_from_slice_get tables (length tables - 1) table table there))
    ∙ sym (lacks_last-last tables table (omega (arith, within)))
