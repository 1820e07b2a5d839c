-- One bit is set or cleared, and the others are as they were.
use Rattle.std.proofs.Common.{◌≡◌, ◌≢◌, ⊎_elim}
use Rattle.std.specs.Int.{w64}
use Rattle.std.proofs.lemmas.Bool.{cases_eq, eq-eqb, ne_eqb}
use Rattle.std.proofs.lemmas.Nat.Bits.{bit_at_set_same, bit_at_set_other, bit_at_clear_same, bit_at_clear_other}
use Rattle.fp_rows.proofs.masks.with_bit.Goals as goal

pub returns-then-to : goal.returns-then-to
returns-then-to c = λ i h.
    ⊎_elim
    (λ (same : i ≡ c.args.place). rw (eq-eqb i c.args.place same, c.if-to.true, same) (bit_at_set_same w64 c.args.word c.args.place c.requires))
    (λ (other : i ≢ c.args.place). rw (ne_eqb i c.args.place other) (bit_at_set_other w64 c.args.word c.args.place c.requires i other))
    (cases_eq i c.args.place)

pub returns-else-to : goal.returns-else-to
returns-else-to c = λ i h.
    ⊎_elim
    (λ (same : i ≡ c.args.place). rw (eq-eqb i c.args.place same, c.if-to.false, same) (bit_at_clear_same w64 c.args.word c.args.place c.requires))
    (λ (other : i ≢ c.args.place). rw (ne_eqb i c.args.place other) (bit_at_clear_other w64 c.args.word c.args.place c.requires i h other))
    (cases_eq i c.args.place)
