-- `put_entry` meets its contract: what stands is kept, or what comes behind moves one further. Assumes nothing.
use Rattle.image.specs.Image.{routes_in}
use Rattle.unwind.proofs.EntryLaws.{entry_kept, entry_changed, entry_laid}
use Rattle.unwind.proofs.emit.entries.put_entry.Goals as goal

pub returns-then-x-branch_in : goal.returns-then-x-branch_in
returns-then-x-branch_in c = let there = c.in-Ok.ensures in
    entry_changed (routes_in c.args.s.now c.args.y) c.args.entries.now c.args.n c.args.x c.requires.ordered _ there.0 there.1 _ c.put_branch.ensures

pub returns-else-x-branch_in : goal.returns-else-x-branch_in
returns-else-x-branch_in c = let there = c.in-Ok.ensures in
    entry_kept (routes_in c.args.s.now c.args.y) c.args.entries.now c.args.n c.args.x c.requires.ordered _ there.0 there.1

pub returns-in-Err : goal.returns-in-Err
returns-in-Err c = entry_laid (routes_in c.args.s.now c.args.y) c.args.entries.now c.args.n c.args.x c.requires.ordered _ c.in-Err.ensures _ c.insert.ensures c.requires.room
