-- A word that is not 0 stands in a block or in the rest.
use Rattle.std.proofs.Common.{◌≡◌, ◌*◌, ◌/◌, true, false, List, length, drop, sym, ap, ◌∙◌}
use Rattle.std.specs.Prelude.{ℕ}
use Rattle.std.specs.List.{list_any}
use Rattle.std.specs.Simd.{first_chunks}
use Rattle.fp_rows.specs.Words.{is_set}
use Rattle.fp_rows.proofs.AnyWord.{any-blocks}
use Rattle.fp_rows.proofs.kernels.any_word.Goals as goal

pub returns-then-any_block : goal.returns-then-any_block
returns-then-any_block c =
    let words : List ℕ = c.args.words.now in
    let front : c.as_chunks.result.0.now ≡ first_chunks 8 (length words / 8) words = c.as_chunks.ensures.front in
    let found : list_any (list_any is_set) (first_chunks 8 (length words / 8) words) ≡ true = ap (list_any (list_any is_set)) (sym front) ∙ sym c.any_block.ensures ∙ c.if-any_block.true in
    c.if-any_block.true ∙ rw found at (any-blocks is_set 8 (length words / 8) words)

pub returns-else-any_block : goal.returns-else-any_block
returns-else-any_block c =
    let words : List ℕ = c.args.words.now in
    let front : c.as_chunks.result.0.now ≡ first_chunks 8 (length words / 8) words = c.as_chunks.ensures.front in
    let back : c.as_chunks.result.1.now ≡ drop (length words / 8 * 8) words = c.as_chunks.ensures.back in
    let none : list_any (list_any is_set) (first_chunks 8 (length words / 8) words) ≡ false = ap (list_any (list_any is_set)) (sym front) ∙ sym c.any_block.ensures ∙ c.if-any_block.false in
    c.any_of_rest.ensures ∙ ap (list_any is_set) back ∙ rw none at (any-blocks is_set 8 (length words / 8) words)
