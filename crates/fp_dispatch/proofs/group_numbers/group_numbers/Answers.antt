use Rattle.std.proofs.Common.{◌≡◌, ◌∙◌, ◌+◌, ◌*◌, ◌<◌, ℕ, Some, Option, List, [], length, get_or, sym, ap, ap₂, subst, arith}
use Rattle.std.specs.Prelude.{All}
use Rattle.fp_base_lists.specs.Vectors.{lists_of}
use Rattle.fp_model.specs.declared.parts.Member.{Member}
use Rattle.fp_model.specs.Members.{IsMemberOf}
use Rattle.fp_dispatch.specs.Rising.{AreGroupNumbers, set_each}
use Rattle.fp_dispatch.proofs.GroupTables.{AreGroupNumbers-next}
use Rattle.fp_dispatch.proofs.TableEntries.{length-set_each, place_of-lt}
use Rattle.fp_dispatch.proofs.VectorItems.{length-lists_of, lists_of-item, written_back}
use Rattle.fp_dispatch.proofs.group_numbers.group_numbers.Goals as goal

pub number_group-requires : goal.number_group-requires
number_group-requires c k d lt =
    let g = c.index-groups-number.result in
    let n = c.loop-number.number in
    let before : n < length (lists_of c.args.groups.now) = omega (arith, length-lists_of c.args.groups.now) in
    let item : get_or (lists_of c.args.groups.now) n [] ≡ g.items = lists_of-item c.args.groups.now n g [] (omega arith) c.index-groups-number.is in
    let members : All (IsMemberOf (lists_of c.args.routes.now)) g.items = subst (All (IsMemberOf (lists_of c.args.routes.now))) item (c.requires.groups.members n [] before) in
    let group : All (IsMemberOf (lists_of c.args.routes.now)) c.deref.result.now = subst (All (IsMemberOf (lists_of c.args.routes.now))) (sym c.deref.ensures.value) members in
    let place = place_of-lt (lists_of c.args.routes.now) c.args.width (get_or c.deref.result.now k d) c.requires.wide (group k d lt) in
    let rows : length (lists_of c.args.routes.now) * c.args.width ≡ length c.args.routes.now * c.args.width = ap (λ (n : ℕ). n * c.args.width) (length-lists_of c.args.routes.now) in
    let table : length c.deref_mut.result.now ≡ length c.loop-number.table.items = ap (λ (os : List (Option ℕ)). length os) c.deref_mut.ensures.value in
    omega (arith, place, rows, c.loop-number.invariant.long, table, c.requires.count)

pub loop-number-preserved : goal.loop-number-preserved
loop-number-preserved c =
    let g = c.index-groups-number.result in
    let n : ℕ = c.loop-number.number in
    let groups : List (List Member) = lists_of c.args.groups.now in
    let routes : List (List ℕ) = lists_of c.args.routes.now in
    let before : n < length groups = omega (arith, length-lists_of c.args.groups.now) in
    let item : get_or groups n [] ≡ c.deref.result.now = lists_of-item c.args.groups.now n g [] (omega arith) c.index-groups-number.is ∙ sym c.deref.ensures.value in
    let rows : length routes * c.args.width ≡ length c.args.routes.now * c.args.width = ap (λ (m : ℕ). m * c.args.width) (length-lists_of c.args.routes.now) in
    let old : List (Option ℕ) = c.loop-number.table.items in
    let new : c.number_group.new.table ≡ set_each c.args.width (get_or groups n []) (Some n) old =
    c.number_group.ensures ∙ ap₂ (λ (ms : List Member) (os : List (Option ℕ)). set_each c.args.width ms (Some n) os) (sym item) c.deref_mut.ensures.value in
    let long : length c.number_group.new.table ≡ length old = ap (λ (os : List (Option ℕ)). length os) new ∙ length-set_each c.args.width (get_or groups n []) (Some n) old in
    let table = written_back c.number_group.new.table old c.loop-number.table.len (omega arith) long in
    record {
      long = rw table (long ∙ c.loop-number.invariant.long);
      numbers = rw table (subst (AreGroupNumbers routes groups c.args.width (n + 1)) (sym new)
          (AreGroupNumbers-next routes groups c.args.width n old c.requires.wide (omega (arith, rows, c.loop-number.invariant.long, c.requires.count))
          (c.requires.groups.members n [] before) c.loop-number.invariant.numbers));
    }

pub returns-clause-numbers : goal.returns-clause-numbers
returns-clause-numbers c =
    let n : c.loop-number.number ≡ length c.args.groups.now = omega arith in
    subst (λ (k : ℕ). AreGroupNumbers (lists_of c.args.routes.now) (lists_of c.args.groups.now) c.args.width k c.loop-number.table.items) n c.loop-number.invariant.numbers
