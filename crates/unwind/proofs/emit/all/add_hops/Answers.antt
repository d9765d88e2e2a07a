-- `add_hops` meets its contract: emptied, then stored. Assumes nothing.
use Rattle.image.specs.Image.{routes_in}
use Rattle.unwind.proofs.HeldLaws.{held_none}
use Rattle.unwind.proofs.AllNodesLaws.{emptied_laid}
use Rattle.unwind.proofs.emit.all.add_hops.Goals as goal

pub emit_hops-requires-clause-start : goal.emit_hops-requires-clause-start
emit_hops-requires-clause-start c = held_none (routes_in c.args.s.now c.args.y) _ c.empty_hops.ensures.holds

pub returns : goal.returns
returns c = emptied_laid c.empty_hops.ensures c.emit_hops.ensures.1
