-- By the rule of the table. Assumes nothing.
use Rattle.builder.proofs.TransferLaws.{slots_at}
use Rattle.builder.proofs.transfer.slots_of.Goals as goal

pub returns : goal.returns
returns c = slots_at c.args.flow _ c.requires
