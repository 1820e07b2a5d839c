-- The bit of the word at the place.
use Rattle.std.proofs.Common.{◌≡◌, ◌/◌, ◌%◌, ◌<◌, ◌^◌, false, length, get_or, sym, ap, ◌∙◌, subst, arith}
use Rattle.std.specs.Prelude.{ℕ, List, Bool, Some, nat_eq, bit_and, slice_get}
use Rattle.std.specs.Int.{bit_at}
use Rattle.std.proofs.lemmas.List.{get_or_default}
use Rattle.std.proofs.lemmas.Nat.Bits.{shr_and_one}
use Rattle.std.proofs.lemmas.Option.{slice_get-get_or}
use Rattle.fp_rows.specs.Words.{bit_in, bits}
use Rattle.fp_rows.proofs.BitsIn.{length-bits, get_or-bits}
use Rattle.fp_rows.proofs.rows.Row.get.Goals as goal

pub index-requires : goal.index-requires
index-requires c =
    let row = c.self.inside in
    omega (arith, c.self.invariant.enough, length-bits row.words.items row.length, ap length c.self.view_is, row.words.ok.0)

pub returns : goal.returns
returns c =
    let row = c.self.inside in
    let at : ℕ = c.args.at in
    let within : at < row.length = omega (arith, length-bits row.words.items row.length, ap length c.self.view_is, c.requires) in
    let word : c.index.result.now ≡ get_or row.words.items (at / 64) 0 = c.index.ensures ∙ get_or_default row.words.items (at / 64) c.index.result.now 0 (omega (arith, c.self.invariant.enough)) in
    let bit : nat_eq (bit_and (c.index.result.now / 2 ^ (at % 64)) 1) 1 ≡ bit_in row.words.items at = ap (λ (n : ℕ). nat_eq n 1) (shr_and_one c.index.result.now (at % 64) ∙ ap (λ (w : ℕ). bit_at w (at % 64)) word) in
    let seen = slice_get-get_or (bits row.words.items row.length) at false (omega (arith, length-bits row.words.items row.length)) in
    subst (λ (bs : List Bool). slice_get bs at ≡ Some (nat_eq (bit_and (c.index.result.now / 2 ^ (at % 64)) 1) 1)) c.self.view_is
    (seen ∙ ap Some (get_or-bits row.words.items row.length at false within ∙ sym bit))
