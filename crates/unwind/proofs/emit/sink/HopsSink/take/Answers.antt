-- Stored entries are hops behind those that there were. Assumes nothing.
use Rattle.unwind.proofs.HeldLaws.{held_room, held_more, fit_front}
use Rattle.unwind.proofs.emit.sink.HopsSink.take.Goals as goal

pub add_exits-requires : goal.add_exits-requires
add_exits-requires c = let r = c.requires.room in
    let room = held_room r.0 c.args.b r.3 c.args.exits.now c.args.n (fit_front _ r.4 r.5) in
    (room.0, room.1, room.2, c.requires.entries)

pub returns : goal.returns
returns c = λ m hs old p. held_more m c.args.b p c.args.exits.now c.args.n c.add_exits.ensures
