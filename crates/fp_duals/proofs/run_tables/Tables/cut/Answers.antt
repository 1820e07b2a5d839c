use Rattle.std.proofs.Common.{◌≡◌, List, [], ◌∷◌, ◌++◌, length, take, sym, ap, ◌∙◌, arith}
use Rattle.std.proofs.Math.Seq.{take-append_seam, take-take}
use Rattle.std.proofs.lemmas.List.{length-append}
use Rattle.fp_prices.specs.Shares.{ClassShare}
use Rattle.fp_duals.proofs.run_tables.Tables.cut.Goals as goal

pub loop-self-preserved : goal.loop-self-preserved
loop-self-preserved c =
    let front : List (List ClassShare) = c.pop.new.self in
    let rest : List (List ClassShare) = c.pop.result ∷ [] in
    let whole : c.loop-self.self ≡ front ++ rest = c.pop.ensures in
    record {
      front = sym (take-append_seam front rest) ∙ ap (take (length front)) (sym whole ∙ c.loop-self.invariant.front)
          ∙ take-take (length front) (length c.loop-self.self) c.args.self.now (omega (arith, ap length whole, length-append front rest));
      kept = omega (arith, c.len.ensures, c.loop-self-test.true, ap length c.self.view_is, ap length whole, length-append front rest);
    }
