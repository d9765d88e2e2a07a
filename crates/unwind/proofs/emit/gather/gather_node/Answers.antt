-- `gather_node` meets its contract: its edges, then its ends. Assumes nothing.
use mathlib.Core.Path.{ap}
use Prim.Native.Nat.{◌+◌}
use native.Mathlib.Omega.{arith}
use lib.ListN.{get_or}
use borrow.Author.Rules.{rules}
use Rattle.image.specs.Image.{routes_in}
use Rattle.unwind.specs.declared.tries.store.NodeRecord.{NodeRecord}
use Rattle.unwind.specs.Nodes.{branch_in}
use Rattle.unwind.specs.Gather.{end_number, edge_exits, end_exits}
use Rattle.unwind.proofs.GatherLaws.{gather_record}
use Rattle.unwind.proofs.emit.gather.gather_node.Goals as goal

pub gather_branches-requires-clause-room : goal.gather_branches-requires-clause-room
gather_branches-requires-clause-room c = omega (arith, c.requires.room, c.gather_branches-n.ensures.most, ap (λ (x : NodeRecord). x.edges) c.node_in-node.ensures.is, ap (λ (x : NodeRecord). x.ends) c.node_in-node.ensures.is)

pub returns : goal.returns
unfolding edge_exits end_exits
returns c = gather_record (routes_in c.args.s.now c.args.y) c.args.b c.args.exits.now c.args.held c.args.edges.now c.args.ends.now c.args.heads.now c.args.landings.now c.node_in-node.result _ c.node_in-node.ensures.is
    (c.gather_branches-n.ensures.gathers (λ k. get_or c.args.heads.now (branch_in c.args.edges.now (c.node_in-node.result.first_edge + k)).what 0) (λ k r h p. search rules) c.args.b)
    (c.gather_branches.ensures.gathers (λ k. end_number c.args.b c.args.landings.now (c.node_in-node.result.first_end + k)) (λ k r h p. search rules) c.args.b)
