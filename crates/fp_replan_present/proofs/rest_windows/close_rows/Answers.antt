use Rattle.std.proofs.Common.{◌≡◌, ◌≢◌, ◌<◌, ◌≤◌, ◌∙◌, ℕ, List, cond, sym, ap, ⊎_elim, arith}
use Rattle.std.specs.Prelude.{None, Option}
use Rattle.std.specs.declared.alloc.Global.{Global}
use Rattle.std.specs.declared.vec.Vec.{Vec}
use Rattle.std.proofs.lemmas.Bool.{cases_lt}
use Rattle.fp_base_lists.specs.Membership.{list_has}
use Rattle.fp_base_lists.specs.Vectors.{lists_of}
use Rattle.fp_base_lists.proofs.Maps.{lists_of-get_or}
use Rattle.fp_model.specs.Problem.{arc_at}
use Rattle.fp_flatnet.specs.declared.window_tables.Window.{Window}
use Rattle.fp_flatnet.specs.Tables.{windows_in}
use Rattle.fp_replan_present.specs.Rests.{gone_at}
use Rattle.fp_replan_present.proofs.rest_windows.close_rows.Goals as goal

pub loop-number-preserved : goal.loop-number-preserved
loop-number-preserved c =
    let p = c.args.instance.now in
    let vectors = c.args.gone.now in
    let n = c.loop-number.number in
    let new = windows_in c.close_row.new.windows in
    let same : c.deref.result.now ≡ gone_at (lists_of vectors) n =
    c.deref.ensures.value ∙ ap (λ (v : Vec ℕ Global). v.items) c.index-gone-number.is ∙ sym (lists_of-get_or vectors n c.index-gone-number.result c.loop-number-test.true) in
    record {
      belongs = c.close_row.ensures.belongs;
      anchors = c.close_row.ensures.anchors ∙ c.loop-number.invariant.anchors;
      done = λ k a lt exists.
          ⊎_elim
          (λ (before : k < n). c.close_row.ensures.others k a (let ne : k ≢ n = omega (arith, before) in ne) ∙ c.loop-number.invariant.done k a before exists)
          (λ (after : n ≤ k).
          let here : k ≡ n = omega (arith, after, lt) in
          ap (λ m. new m a) here
          ∙ c.close_row.ensures.row a exists
          ∙ ap (λ (ts : List ℕ). cond (list_has ts (arc_at p a).to) None (windows_in c.loop-number.windows n a)) same
          ∙ ap (λ (o : Option Window). cond (list_has (gone_at (lists_of vectors) n) (arc_at p a).to) None o) (c.loop-number.invariant.left n a (let le : n ≤ n = omega arith in le))
          ∙ ap (λ m. cond (list_has (gone_at (lists_of vectors) m) (arc_at p a).to) None (windows_in c.args.windows.now m a)) (sym here))
          (cases_lt k n);
      left = λ k a le.
          c.close_row.ensures.others k a (let ne : k ≢ n = omega (arith, le) in ne) ∙ c.loop-number.invariant.left k a (omega (arith, le));
    }
