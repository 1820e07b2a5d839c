use Rattle.std.proofs.Common.{◌≡◌, ℕ, List, length, sym, ◌∙◌, subst}
use Rattle.std.specs.Prelude.{Option}
use Rattle.std.specs.declared.alloc.Global.{Global}
use Rattle.std.specs.declared.vec.Vec.{Vec}
use Rattle.fp_tree.specs.declared.sides.Side.{Side}
use Rattle.fp_allowed.specs.declared.free_moments.Asked.{Asked}
use Rattle.fp_allowed.specs.FreeMoments.{IsAsked}
use Rattle.fp_allowed.specs.Moments.{AreByTerminal, barring}
use Rattle.fp_allowed.specs.Sweeps.{AllBelow, AreOnward, AreReady, IsStableFrom, IsStableTo}
use Rattle.fp_allowed.proofs.WindowsUnder.{rows_under}
use Rattle.fp_allowed.proofs.windows_under.window_row.Goals as goal

pub returns : goal.returns
returns c =
    let q : Asked = record { instance = c.args.instance; windows = c.args.windows; shipment = c.args.shipment; by_terminal = c.deref.result; through = c.deref-2.result } in
    let n : ℕ = length c.args.instance.now.arcs in
    let lists : AreByTerminal c.args.instance.now c.args.shipment c.args.sides.now c.deref.result.now =
    subst (λ (l : List (Vec Side Global)). AreByTerminal c.args.instance.now c.args.shipment c.args.sides.now l) (sym c.deref.ensures.value) c.in_ok-by_terminal.ensures in
    let through : c.deref-2.result.now ≡ barring c.args.shipment c.args.sides.now = c.deref-2.ensures.value ∙ c.in_ok-through.ensures in
    let asked : IsAsked q = record { shipment = c.requires.shipment; fits = c.requires.fits; one_each = lists.one_each } in
    let earliest : c.in_ok-earliest.earliest.items ≡ c.deref-3.result.now = sym c.deref-3.ensures.value in
    let latest : c.in_ok-latest.latest.items ≡ c.deref-4.result.now = sym c.deref-4.ensures.value in
    let ready : AreReady q c.deref-3.result.now = subst (λ (l : List (Option ℕ)). AreReady q l) earliest c.in_ok-earliest.ensures.ready in
    let onward : AreOnward q c.deref-4.result.now = subst (λ (l : List (Option ℕ)). AreOnward q l) latest c.in_ok-latest.ensures.onward in
    let from : AllBelow (IsStableFrom q) n c.deref-3.result.now = subst (λ (l : List (Option ℕ)). AllBelow (IsStableFrom q) n l) earliest c.in_ok-earliest.ensures.stable in
    let to : AllBelow (IsStableTo q) n c.deref-4.result.now = subst (λ (l : List (Option ℕ)). AllBelow (IsStableTo q) n l) latest c.in_ok-latest.ensures.stable in
    rows_under q c.args.sides.now asked lists through c.deref-3.result.now c.deref-4.result.now ready onward from to c.windows_between.result c.windows_between.ensures
