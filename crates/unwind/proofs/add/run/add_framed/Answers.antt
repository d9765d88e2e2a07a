-- `add_framed` meets its contract: a frame has room for the tries, and for what is made of them. Assumes nothing.
use Rattle.graph.specs.Lent.{held_of}
use Rattle.unwind.proofs.FrameLaws.{scratched, roomed, listed}
use borrow.Author.Rules.{rules}
use Rattle.unwind.proofs.add.run.add_framed.Goals as goal

pub intern_routes-stored-requires : goal.intern_routes-stored-requires
intern_routes-stored-requires c = (c.requires.checked.accepted, scratched c.args.s.now c.args.y (held_of c.args.g.now).graph c.requires.frame, search rules)

pub add_tries-requires-clause-room : goal.add_tries-requires-clause-room
add_tries-requires-clause-room c = roomed c.args.s.now c.args.y (held_of c.args.g.now).graph c.requires.frame c.intern_routes-stored.ensures c.intern_routes-stored.auto.nodes c.intern_routes-stored.auto.edges c.intern_routes-stored.auto.ends

pub add_tries-requires-clause-hints_fit : goal.add_tries-requires-clause-hints_fit
add_tries-requires-clause-hints_fit c = rw c.intern_routes-stored.auto.stack (listed c.args.s.now c.args.y (held_of c.args.g.now).graph c.requires.frame c.intern_routes-stored.ensures c.intern_routes-stored.auto.nodes)
