-- `put_line` meets its contract. Assumes nothing.
use native.Mathlib.Omega.{arith}
use Rattle.text.proofs.PutLaws.{whole}
use Rattle.text.proofs.put.put_line.Goals as goal

pub returns : goal.returns
returns c = whole _ _ c.put_word-at.ensures c.put_fields-at.ensures.put c.put_end.ensures (omega arith)
