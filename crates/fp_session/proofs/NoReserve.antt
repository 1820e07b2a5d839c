-- Where no plan waits in reserve: it is said so; or all leaves of a search are closed, since then none is cheaper than the incumbent.
use Rattle.std.proofs.Common.{◌≡◌, false, true, refl, sym, arith}
use Rattle.std.specs.Prelude.{All, IfSome, None, Option, Some}
use Rattle.std.specs.Option.{is_some}
use Rattle.std.proofs.lemmas.Bool.{false≢true}
use Rattle.fp_flatnet.specs.Tables.{windows_in}
use Rattle.fp_tree.specs.Nodes.{Node, closed_of, fork_of, value_of}
use Rattle.fp_tree.specs.Trees.{IsTree, Leaf, tree_leaves}
use Rattle.fp_certificate_rules.specs.Claims.{NoPlanWithinCheaper}
use Rattle.fp_duals_leaves.specs.Prices.{PriceLists}
use Rattle.fp_session_looks.specs.declared.cheaper.Cheaper.{Cheaper}
use Rattle.fp_session.specs.declared.payloads.Payload.{Payload}
use Rattle.fp_session.specs.declared.searches.Search.{Search}
use Rattle.fp_session.specs.Certificates.{IsBound}
use Rattle.fp_session.specs.Nodes.{IsLeafOf}
use Rattle.fp_session.specs.Searches.{IsCheaper, IsSearch, history}
use Rattle.fp_session.proofs.BoundClaims.{bound-claims}
use Rattle.fp_session.proofs.LeafWorths.{settled-worth}
use Rattle.fp_session.proofs.WholeTrees.{all-at}

-- where it isn't said that there is one
pub none-where : (o : Option Cheaper) → is_some o ≡ false → o ≡ None
none-where None is = refl
none-where (Some c) is = absurd (false≢true (sym is))

pub none-in-reserve : (s : Search) (prices : PriceLists) → IsSearch s prices → IsTree fork_of s.tree → All (λ (l : Leaf (Node Payload)). closed_of l.node ≡ true) (tree_leaves fork_of s.tree) → s.reserve ≡ None
none-in-reserve s prices is whole closed = by_reserve s.reserve is.reserve
  where
    worth : IsBound s prices s.cost
    worth = record {
      within = omega arith;
      each = λ k l lt at some.
          settled-worth (history s prices) s.cost l.node.payload (value_of l.node)
          ((all-at (IsLeafOf (history s prices) s.cost) (tree_leaves fork_of s.tree) k l is.leaves at).closed (all-at (λ (m : Leaf (Node Payload)). closed_of m.node ≡ true) (tree_leaves fork_of s.tree) k l closed at)) some;
      some = λ less. let no : ⊥ = omega (arith, less) in absurd no;
    }

    none_cheaper : NoPlanWithinCheaper s.instance (windows_in s.windows) s.cost
    none_cheaper = bound-claims s prices is whole s.cost worth

    by_reserve : (o : Option Cheaper) → IfSome o (IsCheaper s) → o ≡ None
    by_reserve None cheaper = refl
    by_reserve (Some c) cheaper =
        let no : ⊥ = omega (arith, none_cheaper 1 c.plan (omega arith) cheaper.incumbent.plan cheaper.incumbent.within, cheaper.incumbent.costs, cheaper.less) in absurd no
