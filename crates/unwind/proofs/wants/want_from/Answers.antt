-- `want_from` meets its contract: by its edges, then by its ends. Assumes nothing.
use Rattle.unwind.proofs.WantLaws.{hops_join, edges_stand, ends_stand, record_wants}
use Rattle.unwind.proofs.wants.want_from.Goals as goal

pub want_edges-requires : goal.want_edges-requires
want_edges-requires c = (
  c.requires.0.2.rises,
  edges_stand c.requires.0.0 c.args.nodes.now c.args.edges.now c.requires.0.1 c.args.heads.now c.args.landings.now c.args.r c.args.b c.node_in-node.result _ c.node_in-node.ensures.is c.requires.0.2,
  c.requires.1,
  rw c.node_in-node.ensures.is c.requires.3.edges_within,
  rw c.node_in-node.ensures.is c.requires.3.heads_in,
)

pub want_ends-requires : goal.want_ends-requires
want_ends-requires c = let m = c.requires.0.0 in
    let ends = c.requires.0.1 in (
      c.requires.0.2.rises,
      ends_stand m c.args.nodes.now c.args.edges.now ends c.args.heads.now c.args.landings.now c.args.r c.args.b c.node_in-node.result _ c.node_in-node.ensures.is c.requires.0.2,
      hops_join (c.want_edges.ensures m).runs c.requires.1,
      c.requires.2,
      rw c.node_in-node.ensures.is c.requires.3.lands_in,
    )

pub returns : goal.returns
returns c = λ m ends. record_wants m c.args.nodes.now c.args.edges.now ends c.args.heads.now c.args.landings.now c.args.r c.args.b c.node_in-node.result _ c.node_in-node.ensures.is (c.want_edges.ensures m) (c.want_ends.ensures m ends)
