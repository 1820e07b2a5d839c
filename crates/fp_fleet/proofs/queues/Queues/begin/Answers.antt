use Rattle.std.proofs.Common.{◌≡◌, ◌+◌, ℕ, List, ◌∙◌, get_or, ap, subst, sym, arith}
use Rattle.std.specs.declared.alloc.Global.{Global}
use Rattle.std.specs.declared.vec.Vec.{Vec}
use Rattle.std.proofs.lemmas.List.{length-map}
use Rattle.fp_base_lists.specs.Vectors.{lists_of}
use Rattle.fp_fleet.specs.declared.days.Run.{Run}
use Rattle.fp_fleet.specs.declared.fleets.Begin.{Begin}
use Rattle.fp_fleet.specs.Fleets.{Assignment}
use Rattle.fp_fleet.proofs.GivenTrucks.{AreBegun, AreBegun-few, AreBegun-left, AreBegun-next, AreBegun-start, begin-small}
use Rattle.fp_fleet.proofs.queues.Queues.begin.Goals as goal

pub loop-init : goal.loop-init
loop-init c =
    AreBegun-start c.args.instance.now c.args.lines.now c.args.fleet.now c.args.place c.index-begin.result.now (lists_of c.args.self.now.days.items) (lists_of c.args.self.now.queues.items) c.args.self.now.heads.items
    c.requires.queued

pub begin_one-requires-clause-few : goal.begin_one-requires-clause-few
begin_one-requires-clause-few c =
    let b : Begin = c.index-begin.result.now in
    let is : b ≡ get_or c.args.fleet.now.begins c.args.place b = c.index-begin.ensures ∙ ap (λ (f : Assignment). get_or f.begins c.args.place b) c.fleet.view_is in
    omega (
      arith,
      length-map c.loop.self.days.items (λ (v : Vec Run Global). v.items),
      AreBegun-few c.args.instance.now c.args.lines.now c.args.fleet.now c.args.place c.loop.counter b b (lists_of c.loop.self.days.items) (lists_of c.loop.self.queues.items) c.loop.self.heads.items
          c.requires.given c.requires.place is (omega arith) c.loop.invariant,
    )

pub begin_one-requires-clause-left : goal.begin_one-requires-clause-left
begin_one-requires-clause-left c =
    let b : Begin = c.index-begin.result.now in
    let is : b ≡ get_or c.args.fleet.now.begins c.args.place b = c.index-begin.ensures ∙ ap (λ (f : Assignment). get_or f.begins c.args.place b) c.fleet.view_is in
    AreBegun-left c.args.instance.now c.args.lines.now c.args.fleet.now c.args.place c.loop.counter b b (lists_of c.loop.self.days.items) (lists_of c.loop.self.queues.items) c.loop.self.heads.items
    c.requires.given c.requires.place is (omega arith) c.loop.invariant

pub loop-preserved : goal.loop-preserved
loop-preserved c =
    let b : Begin = c.index-begin.result.now in
    let is : b ≡ get_or c.args.fleet.now.begins c.args.place b = c.index-begin.ensures ∙ ap (λ (f : Assignment). get_or f.begins c.args.place b) c.fleet.view_is in
    let days : List (List Run) = lists_of c.begin_one.new.self.days.items in
    let queues : List (List ℕ) = lists_of c.begin_one.new.self.queues.items in
    subst (λ (hs : List ℕ). AreBegun c.args.instance.now c.args.lines.now c.args.fleet.now c.args.place b (c.loop.counter + 1) days queues hs)
    (sym (ap (λ (v : Vec ℕ Global). v.items) c.in_ok-begin_one.ensures.heads))
    (AreBegun-next c.args.instance.now c.args.lines.now c.args.fleet.now c.args.place c.loop.counter b b (lists_of c.loop.self.days.items) days (lists_of c.loop.self.queues.items) queues c.loop.self.heads.items
    c.requires.given c.requires.place is (omega arith) c.in_ok-begin_one.ensures.begins c.loop.invariant)

pub overflow_cast-end : goal.overflow_cast-end
overflow_cast-end c =
    let b : Begin = c.index-begin.result.now in
    let is : b ≡ get_or c.args.fleet.now.begins c.args.place b = c.index-begin.ensures ∙ ap (λ (f : Assignment). get_or f.begins c.args.place b) c.fleet.view_is in
    omega (arith, ap (λ (d : Begin). d.count) is, begin-small c.args.instance.now c.args.lines.now c.args.fleet.now c.args.place b c.requires.given c.requires.place)
