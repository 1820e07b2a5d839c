-- What values are worth once prices have grown.
use Rattle.std.proofs.Common.{◌≡◌, ℕ, ap}
use Rattle.fp_duals_leaves.specs.Prices.{HaveGrown, PriceLists}
use Rattle.fp_session_history.specs.Notes.{worth_of}
use Rattle.fp_session.specs.declared.searches.Search.{Search}
use Rattle.fp_session.specs.Searches.{history}

-- it is the same, since the unit stays
pub worth-grown : (s : Search) (before after : PriceLists) (value : ℕ) → HaveGrown s.instance s.windows before after → worth_of (history s after) value ≡ worth_of (history s before) value
worth-grown s before after value grown = ap (λ (x : PriceLists). worth_of (history s x) value) grown.is
