-- Orders that read the source, and one that doesn't.
use Rattle.std.proofs.Common.{◌≡◌, Bool, true, false, refl}
use Rattle.std.specs.Prelude.{Option, Some, None, MatchBool, ⊤}
use Rattle.fp_app_words.specs.declared.orders.Order.{Order}
use Rattle.fp_app.specs.Inputs.{reads_source}
use Rattle.fp_app.specs.Runs.{Leaves}

MatchBool_both : (b : Bool) (X Y : Type 0) → X → Y → MatchBool b X Y
MatchBool_both true X Y x y = x
MatchBool_both false X Y x y = y

-- a source that nothing was taken of is as it was
pub Leaves-same : {S : Type 0} (o : Option Order) (s : S) → Leaves o s s
Leaves-same None s = refl
Leaves-same (Some o) s = MatchBool_both (reads_source o) ⊤ (s ≡ s) tt refl
