-- The refined network is one, with its offsets counted anew.
use Rattle.fp_longestarcs.proofs.NewPoints.{refined-written}
use Rattle.fp_longestarcs.proofs.copies.add_point.Goals as goal

pub count_classes-requires-clause-are : goal.count_classes-requires-clause-are
count_classes-requires-clause-are c =
    (refined-written c.args.instance.now c.args.tails.now c.args.points.now c.args.heads.now c.make_room.new.points c.make_room.new.heads c.insert_point.new.points c.insert_point.new.heads c.args.new.terminal c.args.new.at
    c.in_ok-make_room.ensures.points c.in_ok-make_room.ensures.heads c.insert_point.ensures c.requires.indexed.valid c.requires.terminal c.requires.new c.requires.in_time).points

pub returns-clause-indexed : goal.returns-clause-indexed
returns-clause-indexed c = record {
  valid =
      refined-written c.args.instance.now c.args.tails.now c.args.points.now c.args.heads.now c.make_room.new.points c.make_room.new.heads c.insert_point.new.points c.insert_point.new.heads c.args.new.terminal c.args.new.at
      c.in_ok-make_room.ensures.points c.in_ok-make_room.ensures.heads c.insert_point.ensures c.requires.indexed.valid c.requires.terminal c.requires.new c.requires.in_time;
  offsets = c.count_classes.ensures;
}
