-- `with_entry` meets its contract. Assumes nothing.
use Rattle.unwind.proofs.SizeLaws.{then_same, then_leave, then_block}
use Rattle.unwind.proofs.emit.count.with_entry.Goals as goal

pub returns-then-last-end : goal.returns-then-last-end
returns-then-last-end c = then_same c.args.z c.args.last c.args.end c.if-last-end.true

pub returns-then-end-eq-LEAVE : goal.returns-then-end-eq-LEAVE
returns-then-end-eq-LEAVE c = then_leave c.args.z c.args.last c.args.end c.if-last-end.false c.if-end-eq-LEAVE.true

pub returns : goal.returns
returns c = then_block c.args.z c.args.last c.args.end c.if-last-end.false c.if-end-eq-LEAVE.false
