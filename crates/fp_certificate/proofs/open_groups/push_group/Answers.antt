use Rattle.std.proofs.lemmas.Bool.{not-true}
use Rattle.fp_certificate.specs.Tables.{and_group, lacks_last, with_last}
use Rattle.fp_certificate.proofs.LastElements.{has-element, has-list, made-last}
use Rattle.fp_certificate.proofs.open_groups.push_group.Goals as goal

pub push_group_beside-requires : goal.push_group_beside-requires
push_group_beside-requires c = has-element c.args.spans.now c.index-spans-last.result (not-true (lacks_last c.args.spans.now) c.requires)

pub returns : goal.returns
returns c =
    let spans = c.args.spans.now in
    made-last c.push_group_beside.result (with_last (and_group c.args.moment)) spans c.index-spans-last.result c.push_group_beside.new.beside
    (has-list spans (not-true (lacks_last spans) c.requires)) c.push_group_beside.ensures
