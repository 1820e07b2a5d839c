-- The arc is the last one whose first class is not after the number.
use Rattle.std.proofs.Common.{◌≡◌, ℕ, ◌-◌, ◌<◌, ◌≤◌, List, sym, subst, arith}
use Rattle.fp_base_lists.specs.Ascending.{IsCut}
use Rattle.fp_longestarcs.specs.Networks.{TimedNetwork, IsArcOfClass, class_count}
use Rattle.fp_longestarcs.specs.Vectors.{AreOffsets, network_of}
use Rattle.fp_longestarcs.proofs.ClassNumbers.{last-arc, offsets-rise}
use Rattle.fp_longestarcs.proofs.networks.Network.arc_of_class.Goals as goal

-- what the search among the offsets of a network found
found : (held net : TimedNetwork) (offsets listed : List ℕ) (class cut : ℕ) → held ≡ net → AreOffsets held.points held.tails offsets → listed ≡ offsets → class < class_count net → IsCut listed class cut → (1 ≤ cut) × IsArcOfClass held class (cut - 1)
found held net offsets listed class cut is are same few parts =
    last-arc held offsets class cut are (subst (λ (n : TimedNetwork). class < class_count n) (sym is) few) (subst (λ (l : List ℕ). IsCut l class cut) same parts)

pub count_until-requires : goal.count_until-requires
count_until-requires c =
    rw c.deref.ensures.value (offsets-rise (network_of c.self.inside.tails.items c.self.inside.points.items c.self.inside.heads.items) c.self.inside.offsets.items c.self.invariant.offsets)

pub overflow_sub-result : goal.overflow_sub-result
overflow_sub-result c =
    let held : TimedNetwork = network_of c.self.inside.tails.items c.self.inside.points.items c.self.inside.heads.items in
    (found held c.args.self.now c.self.inside.offsets.items c.deref.result.now c.args.class c.count_until.result c.self.view_is c.self.invariant.offsets c.deref.ensures.value c.requires c.count_until.ensures).0

pub overflow_cast-result : goal.overflow_cast-result
overflow_cast-result c =
    let held : TimedNetwork = network_of c.self.inside.tails.items c.self.inside.points.items c.self.inside.heads.items in
    let is = found held c.args.self.now c.self.inside.offsets.items c.deref.result.now c.args.class c.count_until.result c.self.view_is c.self.invariant.offsets c.deref.ensures.value c.requires c.count_until.ensures in
    omega (arith, is.1.exists, c.self.invariant.valid.few)

pub returns-clause-arc : goal.returns-clause-arc
returns-clause-arc c =
    let held : TimedNetwork = network_of c.self.inside.tails.items c.self.inside.points.items c.self.inside.heads.items in
    let is = found held c.args.self.now c.self.inside.offsets.items c.deref.result.now c.args.class c.count_until.result c.self.view_is c.self.invariant.offsets c.deref.ensures.value c.requires c.count_until.ensures in
    subst (λ (n : TimedNetwork). IsArcOfClass n c.args.class (c.count_until.result - 1)) c.self.view_is is.1
