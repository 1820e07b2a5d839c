use Rattle.std.proofs.Common.{arith, ◌++◌, ◌-◌}
use Rattle.std.proofs.lemmas.Result.{err_from_is_err_and}
use Rattle.fp_ends.proofs.KnownBytes.{Consumes-append, ExplainsPiece-ExplainsEnd, ExplainsPiece-IsWholeInput, Consumes_longer}
use Rattle.fp_ends.proofs.reading.read_all.Goals as goal

pub returns-in_err-read_piece-clause-bytes : goal.returns-in_err-read_piece-clause-bytes
returns-in_err-read_piece-clause-bytes g c =
    let p = err_from_is_err_and c.from_residual.result c.from_residual.ensures.1 in
    let took = c.in_err-read_piece.ensures.bytes in
    rw (p.1, p.2) (
      c.loop-bytes.bytes.items ++ took.0,
      Consumes-append _ _ _ _ _ c.loop-bytes.invariant.taken took.1,
      ExplainsPiece-ExplainsEnd c.args.limit (c.args.limit - c.len-in-loop-bytes.result) (g.S.Source.left c.read_piece.new.source) c.loop-bytes.bytes.items c.read_piece.new.bytes.items took.0 c.in_err-read_piece.field-0.0
          (omega (arith, c.loop-bytes.bytes.ok.0)) (omega (arith, c.loop-bytes.bytes.ok.0)) took.2,
    )

pub returns-clause-whole : goal.returns-clause-whole
returns-clause-whole g c =
    Consumes_longer _ _ _ _ c.loop-bytes.invariant.taken (omega (arith, c.loop-bytes.bytes.ok.0))

pub returns-in_err-read_piece-clause-whole : goal.returns-in_err-read_piece-clause-whole
returns-in_err-read_piece-clause-whole g c =
    let p = err_from_is_err_and c.from_residual.result c.from_residual.ensures.1 in
    let took = c.in_err-read_piece.ensures.bytes in
    rw (p.1, p.2) (ExplainsPiece-IsWholeInput c.args.limit (c.args.limit - c.len-in-loop-bytes.result) (g.S.Source.left c.args.source.now) (g.S.Source.left c.read_piece.new.source) c.loop-bytes.bytes.items c.read_piece.new.bytes.items took.0 c.in_err-read_piece.field-0.0 took.2)
