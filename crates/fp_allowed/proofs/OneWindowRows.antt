-- Windows under sides are decided: two tables of rows under the same sides are the same.
use Rattle.std.proofs.Common.{◌≡◌, ℕ, ◌<◌, List, [], length, get_or, refl, sym, ap, ◌∙◌, arith}
use Rattle.std.specs.Prelude.{Option, Some, None}
use Rattle.std.proofs.lemmas.List.{ext_get_or}
use Rattle.fp_model.specs.Problem.{Problem}
use Rattle.fp_flatnet.specs.declared.window_tables.Window.{Window}
use Rattle.fp_tree.specs.declared.sides.Side.{Side}
use Rattle.fp_allowed.specs.WindowsUnder.{AreWindowRowsUnder, IsWindowRowUnder, IsWindowUnderOrNone}

-- windows that begin and end at the same moments are the same
same-window : (one other : Window) → one.lo ≡ other.lo → one.hi ≡ other.hi → one ≡ other
same-window one other lo hi = ap (λ (m : ℕ). record one { lo = m }) lo ∙ ap (λ (m : ℕ). record other { hi = m }) hi

-- the window of a shipment and an arc, or none: each has the ends of the other
IsWindowUnderOrNone-one : (p : Problem) (windows : ℕ → ℕ → Option Window) (sides : List Side) (k a : ℕ) (window other : Option Window) → IsWindowUnderOrNone p windows sides k a window →
    IsWindowUnderOrNone p windows sides k a other → window ≡ other
IsWindowUnderOrNone-one p windows sides k a None None none is = refl
IsWindowUnderOrNone-one p windows sides k a None (Some w) none is = absurd (none w.lo is.first)
IsWindowUnderOrNone-one p windows sides k a (Some v) None is none = absurd (none v.lo is.first)
IsWindowUnderOrNone-one p windows sides k a (Some v) (Some w) one other =
    let lo : v.lo ≡ w.lo = omega (arith, (other.between v.lo one.first).0, (one.between w.lo other.first).0) in
    let hi : v.hi ≡ w.hi = omega (arith, (other.between v.hi one.last).1, (one.between w.hi other.last).1) in
    ap (λ (x : Window). Some x) (same-window v w lo hi)

-- so is the row of a shipment
IsWindowRowUnder-one : (p : Problem) (windows : ℕ → ℕ → Option Window) (sides : List Side) (k : ℕ) (row other : List (Option Window)) → IsWindowRowUnder p windows sides k row →
    IsWindowRowUnder p windows sides k other → row ≡ other
IsWindowRowUnder-one p windows sides k row other first second =
    ext_get_or None row other (first.one_each ∙ sym second.one_each)
    (λ a lt.
    let exists : a < length p.arcs = omega (arith, lt, first.one_each) in
    IsWindowUnderOrNone-one p windows sides k a (get_or row a None) (get_or other a None) (first.exact a exists) (second.exact a exists))

-- and the rows of all
pub AreWindowRowsUnder-one : (p : Problem) (windows : ℕ → ℕ → Option Window) (sides : List Side) (rows others : List (List (Option Window))) → AreWindowRowsUnder p windows sides rows →
    AreWindowRowsUnder p windows sides others → rows ≡ others
AreWindowRowsUnder-one p windows sides rows others first second =
    ext_get_or [] rows others (first.one_each ∙ sym second.one_each)
    (λ k lt.
    let exists : k < length p.shipments = omega (arith, lt, first.one_each) in
    IsWindowRowUnder-one p windows sides k (get_or rows k []) (get_or others k []) (first.exact k exists) (second.exact k exists))
