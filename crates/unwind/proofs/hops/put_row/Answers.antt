-- `put_row` meets its contract. Assumes nothing.
use borrow.Author.Rules.{rules}
use Rattle.std.proofs.lemmas.Slice.{overwrites}
use native.Mathlib.Omega.{arith}
use Rattle.std.proofs.lemmas.List.Edits.{sets-eq}
use Rattle.unwind.proofs.hops.put_row.Goals as goal

pub returns : goal.returns
returns c = (c.whole.ensures, rw c.copy_from_slice.ensures.after (rw (sets-eq c.args.w.now c.args.h.now c.args.at (omega (arith, c.requires, c.whole.ensures))) (search (rules, overwrites))))
