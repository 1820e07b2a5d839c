use Rattle.std.proofs.Common.{◌≡◌, ℕ, List, ◌∙◌, get_or, ap, arith}
use Rattle.std.specs.declared.alloc.Global.{Global}
use Rattle.std.specs.declared.vec.Vec.{Vec}
use Rattle.std.proofs.lemmas.List.{length-map}
use Rattle.fp_base_lists.specs.Vectors.{lists_of}
use Rattle.fp_fleet.specs.declared.days.Run.{Run}
use Rattle.fp_fleet.specs.declared.fleets.Turn.{Turn}
use Rattle.fp_fleet.specs.Fleets.{Assignment}
use Rattle.fp_fleet.proofs.GivenTrucks.{AreTurnedOver-all, AreTurnedOver-left, AreTurnedOver-next, AreTurnedOver-truck, AreTurnedOver-waits, turn-meets, turn-small}
use Rattle.fp_fleet.proofs.queues.Queues.turn.Goals as goal

pub overflow_cast-end : goal.overflow_cast-end
overflow_cast-end c =
    let t : Turn = c.index-turn.result.now in
    let is : t ≡ get_or c.args.fleet.now.turns c.args.place t = c.index-turn.ensures ∙ ap (λ (f : Assignment). get_or f.turns c.args.place t) c.fleet.view_is in
    omega (arith, ap (λ (s : Turn). s.count) is, turn-small c.args.instance.now c.args.lines.now c.args.fleet.now c.args.place t c.requires.given c.requires.place)

pub turn_one-requires-clause-waits : goal.turn_one-requires-clause-waits
turn_one-requires-clause-waits c =
    let t : Turn = c.index-turn.result.now in
    let is : t ≡ get_or c.args.fleet.now.turns c.args.place t = c.index-turn.ensures ∙ ap (λ (f : Assignment). get_or f.turns c.args.place t) c.fleet.view_is in
    AreTurnedOver-waits c.args.instance.now c.args.lines.now c.args.fleet.now c.args.place c.loop.counter t t (lists_of c.loop.self.days.items) (lists_of c.loop.self.queues.items) c.loop.self.heads.items
    c.requires.given c.requires.place is (omega arith) c.loop.invariant

pub turn_one-requires-clause-truck : goal.turn_one-requires-clause-truck
turn_one-requires-clause-truck c =
    let t : Turn = c.index-turn.result.now in
    let is : t ≡ get_or c.args.fleet.now.turns c.args.place t = c.index-turn.ensures ∙ ap (λ (f : Assignment). get_or f.turns c.args.place t) c.fleet.view_is in
    let days : List (List Run) = lists_of c.loop.self.days.items in
    let queues : List (List ℕ) = lists_of c.loop.self.queues.items in
    omega (
      arith,
      length-map c.loop.self.days.items (λ (v : Vec Run Global). v.items),
      AreTurnedOver-truck c.args.instance.now c.args.lines.now c.args.fleet.now.begins _ t.before days queues c.loop.self.heads.items
          (turn-meets c.args.instance.now c.args.lines.now c.args.fleet.now c.args.place t t c.requires.given c.requires.place is).exists.0
          (turn_one-requires-clause-waits c) c.loop.invariant,
    )

pub turn_one-requires-clause-left : goal.turn_one-requires-clause-left
turn_one-requires-clause-left c =
    let t : Turn = c.index-turn.result.now in
    let is : t ≡ get_or c.args.fleet.now.turns c.args.place t = c.index-turn.ensures ∙ ap (λ (f : Assignment). get_or f.turns c.args.place t) c.fleet.view_is in
    AreTurnedOver-left c.args.instance.now c.args.lines.now c.args.fleet.now c.args.place c.loop.counter t t (lists_of c.loop.self.days.items) (lists_of c.loop.self.queues.items) c.loop.self.heads.items
    c.requires.given c.requires.place is (omega arith) c.loop.invariant

pub loop-preserved : goal.loop-preserved
loop-preserved c =
    let t : Turn = c.index-turn.result.now in
    let is : t ≡ get_or c.args.fleet.now.turns c.args.place t = c.index-turn.ensures ∙ ap (λ (f : Assignment). get_or f.turns c.args.place t) c.fleet.view_is in
    AreTurnedOver-next c.args.instance.now c.args.lines.now c.args.fleet.now c.args.place c.loop.counter t t
    (lists_of c.loop.self.days.items) (lists_of c.turn_one.new.self.days.items) (lists_of c.loop.self.queues.items) (lists_of c.turn_one.new.self.queues.items)
    c.loop.self.heads.items c.turn_one.new.self.heads.items c.requires.given c.requires.place is (omega arith) c.in_ok-turn_one.ensures c.loop.invariant

pub returns : goal.returns
returns c =
    let t : Turn = c.index-turn.result.now in
    let is : t ≡ get_or c.args.fleet.now.turns c.args.place t = c.index-turn.ensures ∙ ap (λ (f : Assignment). get_or f.turns c.args.place t) c.fleet.view_is in
    AreTurnedOver-all c.args.instance.now c.args.lines.now c.args.fleet.now c.args.place c.loop.counter t t (lists_of c.loop.self.days.items) (lists_of c.loop.self.queues.items) c.loop.self.heads.items
    c.requires.place is (omega arith) c.loop.invariant
