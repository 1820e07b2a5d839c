use Rattle.std.proofs.Common.{◌≡◌, ◌++◌, ◌∷◌, [], List, get_or, refl, rules}
use Rattle.std.specs.declared.alloc.Global.{Global}
use Rattle.std.specs.declared.vec.Vec.{Vec}
use Rattle.fp_model.specs.declared.parts.Member.{Member}
use Rattle.indexmap.specs.IndexSet.{insert_key}
use Rattle.fp_longestarcs.specs.declared.stops.Stop.{Stop}
use Rattle.fp_relaxmodel.proofs.MetClasses.{absent-new, grown-met, grown-new, present-met, same_stop}
use Rattle.fp_relaxmodel.proofs.grouping.Grouping.add.Goals as goal
use Rattle.fp_relaxmodel.proofs.grouping.Grouping.add.Goals.{then-is_new+in_ok-push, else-is_new}

pub returns-clause-groups : goal.returns-clause-groups
returns-clause-groups c =
    let keys : List Stop = c.args.self.now.classes.keys in
    let groups : List (Vec Member Global) = c.args.self.now.groups.items in
    let more : List (Vec Member Global) = c.if-is_new.self.groups.items in
    let old : Vec Member Global = c.index_mut.result.now in
    let read : old ≡ get_or more c.in_ok-number.number old = search rules in
    let pushed : c.push-2.new.self.items ≡ old.items ++ (c.args.member ∷ []) = c.in_ok-push-2.ensures.items in
    let grown : c.push-2.new.self.items ≡ (get_or more c.in_ok-number.number old).items ++ (c.args.member ∷ []) = cc in
    elim c.if-is_new.branch [
      | then-is_new+in_ok-push w ↦
          let later : c.if-is_new.self.classes.keys ≡ insert_key same_stop keys c.args.stop = rw w.self-is c.in_ok-number.ensures.keys in
          let added : more ≡ groups ++ (w.new.result ∷ []) = rw w.self-is w.in_ok-push.ensures.items in
          grown-new c.args.stop c.args.member keys _ groups more c.in_ok-number.number w.new.result c.push-2.new.self old c.requires
          (absent-new keys c.args.stop c.in_ok-number.is_new w.if-is_new.true c.in_ok-number.ensures.added) c.in_ok-number.ensures.index w.new.ensures.items later added grown
      | else-is_new w ↦
          let later : c.if-is_new.self.classes.keys ≡ insert_key same_stop keys c.args.stop = rw w.self-is c.in_ok-number.ensures.keys in
          let stay : more ≡ groups = rw w.self-is refl in
          grown-met c.args.stop c.args.member keys _ groups more c.in_ok-number.number c.push-2.new.self old c.requires
          (present-met keys c.args.stop c.in_ok-number.is_new w.if-is_new.false c.in_ok-number.ensures.added) c.in_ok-number.ensures.index later stay grown
    ]
