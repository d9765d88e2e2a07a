-- By what is given for the instruction. Assumes nothing.
use mathlib.Core.Path.{sym, ap, ◌∙◌}
use Rattle.builder.specs.Code.{image_of}
use Rattle.builder.specs.declared.cursor.Visit.{Visit}
use Rattle.builder.proofs.CursorLaws.{leads_edges, leads_flow}
use Rattle.builder.proofs.EdgeLaws.{given_unresolved, flow_edges, flow_unresolved}
use Rattle.builder.proofs.edges.emit.Goals as goal

pub add_given_edges-requires-clause-is_given : goal.add_given_edges-requires-clause-is_given
add_given_edges-requires-clause-is_given c = let v = c.requires.visiting in
    let leads = sym (ap (λ (x : Visit). x.given) v.is) ∙ c.in-Some.is in
    (leads_edges (image_of c.args.numbered.now.code) c.args.c.at _ leads).0

pub add_given_edges-requires-clause-count : goal.add_given_edges-requires-clause-count
add_given_edges-requires-clause-count c = let v = c.requires.visiting in
    let leads = sym (ap (λ (x : Visit). x.given) v.is) ∙ c.in-Some.is in
    (leads_edges (image_of c.args.numbered.now.code) c.args.c.at _ leads).1

pub returns-in-Some : goal.returns-in-Some
returns-in-Some c = let m = image_of c.args.numbered.now.code in
    let leads = sym (ap (λ (x : Visit). x.given) c.requires.visiting.is) ∙ c.in-Some.is in
    rw (given_unresolved m c.args.c.at (leads_edges m c.args.c.at _ leads).0) c.add_given_edges.ensures

pub returns-in-None : goal.returns-in-None
returns-in-None c = let m = image_of c.args.numbered.now.code in
    let leads = leads_flow m c.args.c.at (sym (ap (λ (x : Visit). x.given) c.requires.visiting.is) ∙ c.in-None.is) in
    rw (flow_edges m c.args.c.at leads, flow_unresolved m c.args.c.at leads) c.add_transfers.ensures
