-- `wanter_of` meets its contract. Assumes nothing.
use mathlib.Core.Path.{ap}
use native.Mathlib.Omega.{arith}
use Rattle.unwind.specs.declared.tries.store.NodeRecord.{NodeRecord}
use Rattle.unwind.proofs.WanterLaws.{route_is, node_is}
use Rattle.unwind.proofs.wants.wanter.wanter_of.Goals as goal

pub returns-then-k-routes : goal.returns-then-k-routes
returns-then-k-routes c = route_is c.args.nodes.now c.args.roots.now c.args.bases.now c.args.routes c.args.k c.if-k-routes.true _ c.number_in.ensures.0

pub returns : goal.returns
returns c = node_is c.args.nodes.now c.args.roots.now c.args.bases.now c.args.routes c.args.k (omega (arith, c.if-k-routes.false)) _ _ (ap (λ (x : NodeRecord). x.route) c.node_in.ensures.is) c.number_in-2.ensures.0
