-- The two larger frames have room for any graph, and the largest for any routes. Assumes nothing.
use Rattle.unwind.proofs.FrameLaws.{all_few, all_small}
use Rattle.unwind.proofs.add.frames.add_checked.Goals as goal

pub add_in-requires-then-is_few-4-clause-small : goal.add_in-requires-then-is_few-4-clause-small
add_in-requires-then-is_few-4-clause-small c = all_small c.args.g.now

pub add_in-requires-2-clause-few : goal.add_in-requires-2-clause-few
add_in-requires-2-clause-few c = all_few c.args.s.now c.args.y c.requires.checked.accepted

pub add_in-requires-2-clause-small : goal.add_in-requires-2-clause-small
add_in-requires-2-clause-small c = all_small c.args.g.now
