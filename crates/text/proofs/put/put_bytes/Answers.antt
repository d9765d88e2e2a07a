-- `put_bytes` meets its contract. Assumes nothing.
use Rattle.text.proofs.PutLaws.{copied}
use Rattle.text.proofs.put.put_bytes.Goals as goal

pub returns : goal.returns
returns c = copied _ _ _ _ c.requires c.copy_from_slice.ensures.after
