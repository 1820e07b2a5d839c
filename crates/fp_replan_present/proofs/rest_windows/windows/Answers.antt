use Rattle.std.proofs.Common.{arith, ◌∙◌, ℕ, List, cond, ap, subst}
use Rattle.std.specs.Prelude.{None}
use Rattle.std.specs.declared.alloc.Global.{Global}
use Rattle.std.specs.declared.vec.Vec.{Vec}
use Rattle.fp_base_lists.specs.Membership.{list_has}
use Rattle.fp_base_lists.specs.Vectors.{lists_of}
use Rattle.fp_model.specs.Problem.{arc_at}
use Rattle.fp_flatnet.specs.Tables.{windows_in}
use Rattle.fp_replan.specs.declared.kept.Kept.{Kept}
use Rattle.fp_replan.specs.KeptWindows.{AreKeptWindows, TellKept}
use Rattle.fp_replan_present.specs.Rests.{gone_at}
use Rattle.fp_replan_present.specs.Windows.{TellUnderway}
use Rattle.fp_replan_present.proofs.RestPlans.{TellCheaper-rest, TellRest-left, TellUnderway-rest}
use Rattle.fp_replan_present.proofs.RestWindows.{TellRest-shut}
use Rattle.fp_replan_present.proofs.rest_windows.windows.Goals as goal

pub returns-clause-windows : goal.returns-clause-windows
returns-clause-windows c =
    let r = c.args.rest.now in
    let base = windows_in c.in_ok-windows.windows in
    record {
      base = base;
      kept_windows = subst (λ (ks : List Kept). AreKeptWindows r.instance ks base) c.deref.ensures.value c.in_ok-windows.ensures.windows;
      shut = λ k a lt exists.
          c.close_rows.ensures.rows k a lt exists
          ∙ ap (λ (gone : List (Vec ℕ Global)). cond (list_has (gone_at (lists_of gone) k) (arc_at r.instance a).to) None (base k a)) c.deref-2.ensures.value;
    }

pub returns-clause-tell : goal.returns-clause-tell
returns-clause-tell c =
    let r = c.args.rest.now in
    let base = windows_in c.in_ok-windows.windows in
    TellRest-shut r.instance r.kept.items (lists_of r.gone.items) base (windows_in c.close_rows.new.windows)
    (subst (λ (ks : List Kept). TellKept r.instance ks base) c.deref.ensures.value c.in_ok-windows.ensures.tell)
    (λ k a lt exists.
    c.close_rows.ensures.rows k a lt exists
    ∙ ap (λ (gone : List (Vec ℕ Global)). cond (list_has (gone_at (lists_of gone) k) (arc_at r.instance a).to) None (base k a)) c.deref-2.ensures.value)

pub returns-clause-start : goal.returns-clause-start
returns-clause-start c =
    λ p day start is from.
    (TellRest-left p day c.args.rest.now (windows_in c.close_rows.new.windows) is (returns-clause-tell c) 1 start (omega arith) from.plan).1 (from.keeps, from.away)

pub returns-clause-underway : goal.returns-clause-underway
returns-clause-underway c =
    λ p day valid opened is.
    let windows = windows_in c.close_rows.new.windows in
    let under : TellUnderway p day windows = TellUnderway-rest p day windows valid opened (TellRest-left p day c.args.rest.now windows is (returns-clause-tell c)) in
    (under, TellCheaper-rest p day windows under)
