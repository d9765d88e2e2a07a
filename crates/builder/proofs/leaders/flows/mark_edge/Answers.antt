-- The start that it names. Assumes nothing.
use mathlib.Core.Path.{ap}
use lib.Dec.{eqb}
use Rattle.builder.specs.Code.{image_of}
use Rattle.image.specs.declared.record.GivenEdge.{GivenEdge}
use Rattle.graph.specs.Transfer.{address_at}
use Rattle.builder.specs.Marks.{edge_target}
use Rattle.builder.proofs.MarkLaws.{mark_as, mark_lead}
use Rattle.builder.proofs.leaders.flows.mark_edge.Goals as goal

pub returns : goal.returns
returns c = let m = image_of c.args.checked.now.code in
    mark_as (edge_target m c.args.k) (λ p h. ap (λ (x : GivenEdge). eqb x.target (address_at m p)) c.edge-edge.ensures) (mark_lead m _ c.mark_target.ensures)
