-- `gather_block` meets its contract: the routes, then the nodes. Assumes nothing.
use native.Mathlib.Omega.{arith}
use lib.ListN.{get_or}
use Rattle.image.specs.Record.{route_from}
use Rattle.image.specs.Image.{routes_in}
use Rattle.image.proofs.Tables.{length-records}
use Rattle.unwind.specs.Placed.{returns_in}
use Rattle.unwind.proofs.TrieNodes.{stored_fits}
use Rattle.unwind.proofs.LentLaws.{pooled_none, node_there, roots_fit, block_held}
use Rattle.unwind.proofs.PoolLaws.{adds-some}
use Rattle.unwind.proofs.MemberLaws.{originals_records}
use borrow.Author.Rules.{rules}
use Rattle.unwind.proofs.emit.block.gather_block.Goals as goal

pub gather_routes-n-requires : goal.gather_routes-n-requires
gather_routes-n-requires c = let count = length-records route_from c.args.s.now c.args.y.routes in
    let t = c.requires.0 in (
      pooled_none (routes_in c.args.s.now c.args.y) c.args.b c.args.edges.now c.args.ends.now c.args.heads.now c.args.landings.now c.args.exits.now c.requires.2,
      c.requires.1,
      omega (arith, count, c.requires.8),
      record { fits = λ r h. (stored_fits c.args.nodes.now c.args.edges.now c.args.ends.now c.args.stored t.stored).fits (get_or c.args.roots.now r 0) (t.roots_in r (omega (arith, count, h))) },
      search rules,
      record { there = λ r h. node_there (routes_in c.args.s.now c.args.y) c.args.nodes.now c.args.edges.now c.args.ends.now c.args.roots.now c.args.stored t c.args.heads.now c.args.landings.now c.requires.5 c.requires.6 (get_or c.args.roots.now r 0) (t.roots_in r (omega (arith, count, h))) },
      omega (arith, count, roots_fit (routes_in c.args.s.now c.args.y) c.args.nodes.now c.args.edges.now c.args.ends.now c.args.roots.now c.args.stored t),
      c.requires.10,
    )

pub gather_nodes-requires : goal.gather_nodes-requires
gather_nodes-requires c = let t = c.requires.0 in (
  c.gather_routes-n.ensures.pooled,
  c.requires.1,
  record { fits = λ k h. (stored_fits c.args.nodes.now c.args.edges.now c.args.ends.now c.args.stored t.stored).fits (get_or c.args.originals.now k 0) (c.requires.3.within k h) },
  search rules,
  record { there = λ k h. node_there (routes_in c.args.s.now c.args.y) c.args.nodes.now c.args.edges.now c.args.ends.now c.args.roots.now c.args.stored t c.args.heads.now c.args.landings.now c.requires.5 c.requires.6 (get_or c.args.originals.now k 0) (c.requires.3.within k h) },
  omega (arith, c.requires.3.few, c.requires.7),
  λ k h. omega (arith, c.requires.3.within k h, c.requires.9),
)

pub returns : goal.returns
returns c = let all = originals_records (routes_in c.args.s.now c.args.y) c.args.b c.args.nodes.now c.args.edges.now c.args.ends.now c.args.heads.now c.args.landings.now c.args.bases.now (returns_in c.args.parts.now c.args.returners.now) c.args.originals.now c.args.stored.nodes c.args.listed c.requires.3 in
    let count = length-records route_from c.args.s.now c.args.y.routes in
    block_held (routes_in c.args.s.now c.args.y) c.args.b c.args.nodes.now c.args.edges.now c.args.ends.now c.args.heads.now c.args.landings.now c.args.roots.now c.args.guards.now c.args.bases.now (returns_in c.args.parts.now c.args.returners.now) c.args.stored
    c.args.y.routes.count count c.gather_routes-n.ensures (adds-some (routes_in c.args.s.now c.args.y) c.args.b c.args.edges.now c.args.ends.now c.args.heads.now c.args.landings.now all c.gather_nodes.ensures)
