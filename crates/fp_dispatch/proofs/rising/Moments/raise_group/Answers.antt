use Rattle.std.proofs.Common.{◌≡◌, ◌∙◌, ℕ, ◌<◌, Option, Some, None, List, [], ◌∷◌, length, get_or, sym, ap, subst, arith}
use Rattle.std.specs.Prelude.{Contains, IfOk, MatchOption}
use Rattle.std.specs.declared.alloc.Global.{Global}
use Rattle.std.specs.declared.vec.Vec.{Vec}
use Rattle.std.proofs.lemmas.List.{get_or_read}
use Rattle.fp_base_lists.specs.Vectors.{lists_of}
use Rattle.fp_model.specs.declared.parts.Member.{Member}
use Rattle.fp_model.specs.Members.{IsMemberOf}
use Rattle.fp_dispatch.specs.Rising.{companions, companions_of, place_of, state_of}
use Rattle.fp_dispatch.specs.Tasks.{IsRaisingFor, TaskModel}
use Rattle.fp_dispatch.proofs.TableEntries.{place_of-lt}
use Rattle.fp_dispatch.proofs.VectorItems.{length-lists_of, lists_of-item}
use Rattle.fp_dispatch.proofs.rising.Moments.raise_group.Goals as goal

pub returns-in-Some : goal.returns-in-Some
returns-in-Some c =
    let numbers = c.task.inside.numbers in
    let groups : List (List Member) = lists_of c.task.inside.groups.now in
    let routes : List (List ℕ) = lists_of c.task.inside.routes.now in
    let task = c.task.invariant in
    let member : IsMemberOf routes c.args.leg = subst (λ (t : TaskModel). IsMemberOf t.routes c.args.leg) (sym c.task.view_is) c.requires.leg in
    let lt : c.place.result < length numbers.table.items =
    omega (arith, c.place.ensures, task.long, place_of-lt routes numbers.width c.args.leg task.wide member) in
    let read : get_or numbers.table.items (place_of numbers.width c.args.leg) None ≡ Some c.in-Some.group =
    ap (λ (k : ℕ). get_or numbers.table.items k None) (sym c.place.ensures)
    ∙ sym (get_or_read numbers.table.items c.place.result c.index.result.now lt c.index.ensures None) ∙ c.in-Some.is in
    let told : (c.in-Some.group < length groups) × Contains (get_or groups c.in-Some.group []) c.args.leg =
    subst (λ (o : Option ℕ). MatchOption o ((g : ℕ) → g < length groups → Contains (get_or groups g []) c.args.leg → ⊥) (λ g. (g < length groups) × Contains (get_or groups g []) c.args.leg))
    read (task.numbered c.args.leg member) in
    let same : companions_of c.args.task.now.groups c.args.task.now.numbers c.args.leg ≡ c.deref.result.now =
    ap (λ (t : TaskModel). companions_of t.groups t.numbers c.args.leg) (sym c.task.view_is)
    ∙ ap (λ (o : Option ℕ). companions groups o c.args.leg) read
    ∙ lists_of-item c.task.inside.groups.now c.in-Some.group c.index-task-group.result [] (omega (arith, told.0, length-lists_of c.task.inside.groups.now)) c.index-task-group.is
    ∙ ap (λ (v : Vec Member Global). v.items) c.index-task-group.is ∙ sym c.deref.ensures.value in
    subst (λ (legs : List Member). IfOk c.raise_each.result (IsRaisingFor c.args.task.now legs c.args.to (state_of c.args.self.now) (state_of c.raise_each.new.self)))
    (sym same) c.raise_each.ensures

pub returns-in-None : goal.returns-in-None
returns-in-None c =
    let numbers = c.task.inside.numbers in
    let groups : List (List Member) = lists_of c.task.inside.groups.now in
    let routes : List (List ℕ) = lists_of c.task.inside.routes.now in
    let task = c.task.invariant in
    let member : IsMemberOf routes c.args.leg = subst (λ (t : TaskModel). IsMemberOf t.routes c.args.leg) (sym c.task.view_is) c.requires.leg in
    let lt : c.place.result < length numbers.table.items =
    omega (arith, c.place.ensures, task.long, place_of-lt routes numbers.width c.args.leg task.wide member) in
    let read : get_or numbers.table.items (place_of numbers.width c.args.leg) None ≡ None =
    ap (λ (k : ℕ). get_or numbers.table.items k None) (sym c.place.ensures)
    ∙ sym (get_or_read numbers.table.items c.place.result c.index.result.now lt c.index.ensures None) ∙ c.in-None.is in
    let same : companions_of c.args.task.now.groups c.args.task.now.numbers c.args.leg ≡ c.args.leg ∷ [] =
    ap (λ (t : TaskModel). companions_of t.groups t.numbers c.args.leg) (sym c.task.view_is) ∙ ap (λ (o : Option ℕ). companions groups o c.args.leg) read in
    subst (λ (legs : List Member). IfOk c.raise_each-in-None.result
    (IsRaisingFor c.args.task.now legs c.args.to (state_of c.args.self.now) (state_of c.raise_each-in-None.new.self)))
    (sym same) c.raise_each-in-None.ensures
