use mathlib.Core.Path.{◌≡◌, sym, ◌∙◌}
use native.Mathlib.Omega.{arith}
use Rattle.unwind.proofs.TrieSpans.{among_none, among-all, key_final}
use borrow.Author.Rules.{rules}
use Rattle.unwind.proofs.tries.keys.next_key.Goals as goal

pub returns-then-is_final : goal.returns-then-is_final
returns-then-is_final c = key_final _ _ _ c.requires.last_final (sym c.is_final.ensures ∙ c.if-is_final.true)

pub loop-k-init : goal.loop-k-init
loop-k-init c = (search rules, among_none _ _ _)

pub loop-k-preserved : goal.loop-k-preserved
loop-k-preserved c = (search rules, c.nearer_key-best.ensures)

pub returns : goal.returns
returns c = let all : c.loop-k.k ≡ c.args.g.count = omega arith in
    among-all _ _ _ _ (rw all at c.loop-k.invariant.1)
