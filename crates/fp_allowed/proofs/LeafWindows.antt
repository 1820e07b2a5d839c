-- Windows under sides lie inside those from which they are found, and so inside the problem's: those of all shipments fit
-- the instance.
use Rattle.std.proofs.Common.{◌≡◌, ℕ, ◌+◌, ◌*◌, ◌<◌, ◌≤◌, List, [], ◌∷◌, ◌++◌, length, get_or, sym, subst, arith}
use Rattle.std.specs.Prelude.{Option, Some, None, IfOk, IfSome, IsSomeAnd, Result, Ok, Err}
use Rattle.std.specs.declared.alloc.AllocError.{AllocError}
use Rattle.std.specs.declared.alloc.Global.{Global}
use Rattle.std.specs.declared.vec.Vec.{Vec}
use Rattle.std.proofs.lemmas.List.{get_or_default}
use Rattle.fp_base_lists.proofs.Elements.{AllByRecursion-get_or}
use Rattle.fp_model.specs.declared.parts.Leg.{Leg}
use Rattle.fp_model.specs.declared.parts.Shipment.{Shipment}
use Rattle.fp_model.specs.Numbered.{shipment_at}
use Rattle.fp_model.specs.Problem.{Problem}
use Rattle.fp_flatnet.specs.declared.window_tables.Window.{Window}
use Rattle.fp_flatnet.specs.Belonging.{AreNarrower, FitsInstance, IsInsideWindow}
use Rattle.fp_flatnet.specs.Tables.{WindowTable, row_lists, windows_in}
use Rattle.fp_flatnet.specs.Windows.{IsInside}
use Rattle.fp_flatnet.proofs.OneMoreElement.{each_push_map}
use Rattle.fp_tree.specs.declared.sides.Side.{Side}
use Rattle.fp_allowed.specs.WindowsUnder.{AreWindowRowsUnder, IsWindowRowUnder, IsWindowUnderOrNone, PassesAt}

-- a passage leaves inside the shipment's windows
passes-inside : (p : Problem) (windows : ℕ → ℕ → Option Window) (sides : List Side) (k a m : ℕ) → PassesAt p windows sides k a m → IsSomeAnd (windows k a) (IsInside 1 m)
passes-inside p windows sides k a m passes =
    let leg : Leg = record { arc = a; depart = m } in
    let Inside : Leg → Type 0 = λ l. IsSomeAnd (windows k l.arc) (IsInside 1 l.depart) in
    subst Inside passes.leaves.2 (AllByRecursion-get_or Inside passes.legs passes.leaves.0 leg passes.is.within passes.leaves.1)

-- a window whose ends lie inside one that lies inside the problem's does so too
inside-narrower : (p : Problem) (s : Shipment) (a : ℕ) (w : Window) (o : Option Window) → IfSome o (IsInsideWindow p s a) → IsSomeAnd o (IsInside 1 w.lo) → IsSomeAnd o (IsInside 1 w.hi) → w.lo ≤ w.hi →
    IsInsideWindow p s a w
inside-narrower p s a w None is first last some = absurd first
inside-narrower p s a w (Some v) is first last some =
    let begins : 1 * v.lo ≤ w.lo = first.0 in
    let ends : w.hi ≤ 1 * v.hi = last.1 in record {
      wide = is.wide;
      is_window = is.is_window;
      lo = omega (arith, is.lo, begins);
      some = some;
      hi = omega (arith, is.hi, ends);
    }

-- so does a window under sides
under-inside : (p : Problem) (table : WindowTable) (sides : List Side) (k a : ℕ) (o : Option Window) → IfSome (windows_in table k a) (IsInsideWindow p (shipment_at p k) a) →
    IsWindowUnderOrNone p (windows_in table) sides k a o → IfSome o (IsInsideWindow p (shipment_at p k) a)
under-inside p table sides k a None is under = tt
under-inside p table sides k a (Some w) is under =
    inside-narrower p (shipment_at p k) a w (windows_in table k a) is (passes-inside p (windows_in table) sides k a w.lo under.first) (passes-inside p (windows_in table) sides k a w.hi under.last)
    (under.between w.lo under.first).1

pub AreNarrower-under : (p : Problem) (table : WindowTable) (sides : List Side) (rows : List (List (Option Window))) → FitsInstance p table → AreWindowRowsUnder p (windows_in table) sides rows → AreNarrower p rows
AreNarrower-under p table sides rows fits are = record {
  shipments = are.one_each;
  arcs = λ k d lt.
      let there : k < length p.shipments = omega (arith, lt, are.one_each) in
      subst (λ (r : List (Option Window)). length r ≡ length p.arcs) (get_or_default rows k [] d lt) (are.exact k there).one_each;
  inside = λ k a k_lt a_lt. under-inside p table sides k a (get_or (get_or rows k []) a None) (fits.inside k a k_lt a_lt) ((are.exact k k_lt).exact a a_lt);
}

-- the rows of the shipments before a number
pub record AreRowsBefore (p : Problem) (windows : ℕ → ℕ → Option Window) (sides : List Side) (n : ℕ) (rows : List (List (Option Window))) : Type 0 where
  pub long : length rows ≡ n
  pub exact : (k : ℕ) → k < n → IsWindowRowUnder p windows sides k (get_or rows k [])

-- one more row
pub rows_more : (p : Problem) (windows : ℕ → ℕ → Option Window) (sides : List Side) (n : ℕ) (rows new : List (Vec (Option Window) Global)) (row : Vec (Option Window) Global) →
    AreRowsBefore p windows sides n (row_lists rows) → IsWindowRowUnder p windows sides n row.items → new ≡ rows ++ row ∷ [] → AreRowsBefore p windows sides (n + 1) (row_lists new)
rows_more p windows sides n rows new row are one grown =
    let each = each_push_map (λ (r : Vec (Option Window) Global). r.items) (IsWindowRowUnder p windows sides) rows new row [] n grown are.long are.exact one in
    record { long = each.0; exact = each.1 }

-- the rows of all
pub rows_all : (p : Problem) (windows : ℕ → ℕ → Option Window) (sides : List Side) (n : ℕ) (rows : List (List (Option Window))) → n ≡ length p.shipments → AreRowsBefore p windows sides n rows →
    AreWindowRowsUnder p windows sides rows
rows_all p windows sides n rows all are = record {
  one_each = omega (arith, are.long, all);
  exact = λ k lt. are.exact k (omega (arith, lt, all));
}

-- a table of them has them
pub rows_are : (p : Problem) (windows : ℕ → ℕ → Option Window) (sides : List Side) (rows : List (List (Option Window))) (r : Result WindowTable AllocError) → AreWindowRowsUnder p windows sides rows →
    IfOk r (λ w. w.rows ≡ rows) → IfOk r (λ w. AreWindowRowsUnder p windows sides w.rows)
rows_are p windows sides rows (Err e) are same = tt
rows_are p windows sides rows (Ok w) are same = subst (AreWindowRowsUnder p windows sides) (sym same) are
