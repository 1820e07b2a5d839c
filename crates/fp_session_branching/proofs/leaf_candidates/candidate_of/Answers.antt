use Rattle.std.proofs.Common.{◌∙◌, sym, ap}
use Rattle.fp_allowed.specs.ForcedChains.{ForcedChain}
use Rattle.fp_session_branching.proofs.ChainEnds.{found-reached, found-stuck}
use Rattle.fp_session_branching.proofs.leaf_candidates.candidate_of.Goals as goal

pub returns-in-Reached : goal.returns-in-Reached
returns-in-Reached c = record {
  is = tt;
  none = found-reached c.args.leaf.now c.args.shipment c.in_ok-chain.chain c.in_ok-chain.ensures (ap (λ (f : ForcedChain). f.end) (sym c.chain-2.view_is) ∙ c.in-Reached.is);
}

pub returns : goal.returns
returns c = record {
  is = tt;
  none = found-stuck c.args.leaf.now c.args.shipment c.in_ok-chain.chain c.in_ok-chain.ensures c.in-Stuck.terminal (ap (λ (f : ForcedChain). f.end) (sym c.chain-2.view_is) ∙ c.in-Stuck.is);
}
