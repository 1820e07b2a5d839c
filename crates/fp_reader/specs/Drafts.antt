-- The parts of an instance that a draft holds, with the index of them. They are sound in
-- themselves, and the scale is the default.
use Rattle.std.specs.Prelude.{◌≡◌}
use Rattle.fp_model.specs.declared.limits.TheConstants.{SCALE}
use Rattle.fp_model.specs.Problem.{Problem, HasSoundParts}
use Rattle.fp_records_fields.specs.Indexes.{Entries, entries_of}
use Rattle.fp_reader.specs.declared.drafts.Draft.TheInside.{Inside}

-- sound parts, with the entries of their index
pub record IsIndexed (p : Problem) (e : Entries) : Type 0 where
  pub sound : HasSoundParts p
  pub index : e ≡ entries_of p

-- the parts that a draft holds
abbrev pub parts_of : Inside → Problem
parts_of d = record {
  terminals = d.terminals.items;
  holds = d.holds.items;
  arcs = d.arcs.items;
  shipments = d.shipments.items;
  scale = SCALE;
}
