-- `word_below` meets its contract. Assumes nothing.
use Prim.Native.Nat.{◌-◌, ◌*◌}
use borrow.Author.Rules.{rules}
use Rattle.graph.proofs.BlockLaws.{shift_below, word_below}
use Rattle.graph.proofs.blockset.word_below.Goals as goal

pub returns-then-k-lt64 : goal.returns-then-k-lt64
returns-then-k-lt64 c = shift_below c.args.word (c.args.n - 64 * c.args.i)

pub returns : goal.returns
returns c = word_below c.args.word (c.args.n - 64 * c.args.i) c.ranges.word.fits (search rules)
