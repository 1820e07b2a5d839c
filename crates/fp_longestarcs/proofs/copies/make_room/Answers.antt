-- Room changes no list.
use Rattle.std.proofs.Common.{◌≡◌, ℕ, ◌+◌, ◌<◌, ⊎_elim, List, length, get_or, set, vec_len, vec_capacity, sym, ap, ◌∙◌, arith}
use Rattle.std.specs.declared.alloc.Global.{Global}
use Rattle.std.specs.declared.vec.Vec.{Vec}
use Rattle.std.proofs.lemmas.Bool.{cases_eq}
use Rattle.std.proofs.lemmas.List.{get_or-set_same, get_or-set_other}
use Rattle.fp_longestarcs.proofs.VectorLists.{same-written}
use Rattle.fp_longestarcs.proofs.copies.make_room.Goals as goal
use Rattle.fp_longestarcs.proofs.copies.make_room.Goals.{then-tail-terminal+in_ok-reserve-2, else-tail-terminal}

pub returns-in_err-reserve-clause-points : goal.returns-in_err-reserve-clause-points
returns-in_err-reserve-clause-points c =
    same-written c.args.points.now c.args.terminal c.reserve.new.self c.index-points-terminal.result c.in_err-reserve.ensures.items

pub returns-in_err-reserve-2-clause-points : goal.returns-in_err-reserve-2-clause-points
returns-in_err-reserve-2-clause-points c =
    same-written c.args.points.now c.args.terminal c.reserve.new.self c.index-points-terminal.result c.in_ok-reserve.ensures.items

pub returns-in_err-reserve-2-clause-heads : goal.returns-in_err-reserve-2-clause-heads
returns-in_err-reserve-2-clause-heads c =
    same-written c.loop-arc.heads c.loop-arc.arc c.reserve-then-tail-terminal.new.self c.index-heads-arc.result c.in_err-reserve-2.ensures.items ∙ c.loop-arc.invariant.0

pub returns-clause-points : goal.returns-clause-points
returns-clause-points c =
    same-written c.args.points.now c.args.terminal c.reserve.new.self c.index-points-terminal.result c.in_ok-reserve.ensures.items

-- the room so far, and that of one more
rooms-more : (tails : List ℕ) (terminal i : ℕ) (heads : List (Vec ℕ Global)) (v : Vec ℕ Global) →
    ((arc : ℕ) (d : Vec ℕ Global) → arc < i → get_or tails arc 0 ≡ terminal → vec_len (get_or heads arc d) < vec_capacity (get_or heads arc d)) →
    i < length heads → vec_len v < vec_capacity v →
    (arc : ℕ) (d : Vec ℕ Global) → arc < i + 1 → get_or tails arc 0 ≡ terminal → vec_len (get_or (set heads i v) arc d) < vec_capacity (get_or (set heads i v) arc d)
rooms-more tails terminal i heads v rooms within room arc d h leaves =
    ⊎_elim
    (λ (same : arc ≡ i). rw same (rw get_or-set_same room))
    (λ (other : arc ≡ i → ⊥). rw get_or-set_other (rooms arc d (omega (arith, other)) leaves))
    (cases_eq arc i)

pub loop-arc-preserved : goal.loop-arc-preserved
loop-arc-preserved c =
    elim c.if-tail-terminal.branch [
      | then-tail-terminal+in_ok-reserve-2 w ↦
          rw w.heads-is (
            same-written c.loop-arc.heads c.loop-arc.arc w.reserve-then-tail-terminal.new.self w.index-heads-arc.result w.in_ok-reserve-2.ensures.items ∙ c.loop-arc.invariant.0,
            rooms-more c.args.tails.now c.args.terminal c.loop-arc.arc c.loop-arc.heads w.reserve-then-tail-terminal.new.self c.loop-arc.invariant.1
                (omega (arith, c.requires.arcs, c.loop-arc.auto.heads)) (omega (arith, w.in_ok-reserve-2.ensures.ok)),
          )
      | else-tail-terminal w ↦
          rw w.heads-is (
            c.loop-arc.invariant.0,
            λ arc d h leaves.
                ⊎_elim
                (λ (same : arc ≡ c.loop-arc.arc). absurd (w.if-tail-terminal.false (ap (λ (n : ℕ). get_or c.args.tails.now n 0) (sym same) ∙ leaves)))
                (λ (other : arc ≡ c.loop-arc.arc → ⊥). c.loop-arc.invariant.1 arc d (omega (arith, other)) leaves)
                (cases_eq arc c.loop-arc.arc),
          )
    ]
