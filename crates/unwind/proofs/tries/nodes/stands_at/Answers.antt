-- `stands_at` meets its contract. Assumes nothing.
use mathlib.Core.Path.{sym, ap, ◌∙◌}
use Prim.Native.Nat.{ℕ}
use borrow.Author.Tests.{ne_eqb}
use Rattle.image.specs.Image.{routes_in}
use Rattle.unwind.specs.Nodes.{record_in, funclet_in, value_of}
use Rattle.unwind.proofs.TrieEarly.{counts_differ, values_differ}
use Rattle.unwind.proofs.tries.nodes.stands_at.Goals as goal

pub returns-then-not-counts_match : goal.returns-then-not-counts_match
returns-then-not-counts_match c = sym (counts_differ (routes_in c.args.s.now c.args.y) c.args.edges.now c.args.ends.now c.args.x (record_in c.args.nodes.now c.args.i) (sym c.counts_match.ensures ∙ c.if-not-counts_match.true))

pub returns-else-funclet_value-value : goal.returns-else-funclet_value-value
unfolding record_in
returns-else-funclet_value-value c =
    ne_eqb c.funclet_value.result c.args.value c.if-funclet_value-value.false
    ∙ sym
    (values_differ (routes_in c.args.s.now c.args.y) c.args.edges.now c.args.ends.now c.args.x (record_in c.args.nodes.now c.args.i)
    (λ e. c.if-funclet_value-value.false (c.funclet_value.ensures ∙ ap (λ (f : ℕ). value_of (funclet_in (routes_in c.args.s.now c.args.y) f)) c.number_in.ensures.0 ∙ e ∙ sym c.requires.named)))
