use Rattle.std.proofs.Common.{◌≡◌, ◌∙◌, ℕ, ◌-◌, Bool, List, length, sym, ap, arith}
use Rattle.std.specs.Prelude.{◌==◌, not, vec_len}
use Rattle.std.proofs.lemmas.Option.{get_or_from_slice_get, slice_get_within}
use Rattle.fp_prices_gifts.specs.declared.gifts.Gift.{Gift}
use Rattle.fp_records.specs.Fields.{is_empty}
use Rattle.fp_certificate.proofs.LastElements.{lacks_last-last}
use Rattle.fp_certificate.proofs.open_gifts.has_gift.Goals as goal

pub returns-in-Some : goal.returns-in-Some
returns-in-Some c =
    let lists = c.args.gifts.now in
    let last = c.in-Some.beside.now in
    let gifts = c.beside.inside.gifts in
    let count : vec_len gifts ≡ length gifts.items = omega arith in
    let there = sym c.in-Some.ensures.value in
    let within = slice_get_within lists (length lists - 1) last there in
    ap (λ (b : Bool). not b)
    (c.is_empty.ensures ∙ ap (λ (n : ℕ). n == 0) count ∙ ap (λ (t : List Gift). is_empty t) (c.beside.view_is ∙ sym (get_or_from_slice_get lists (length lists - 1) last last there))
    ∙ sym (lacks_last-last lists last (omega (arith, within))))
