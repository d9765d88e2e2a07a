-- `is_start` meets its contract: an address can only stand where the starts below it end. Assumes nothing.
use mathlib.Core.Path.{sym, ap, ◌∙◌}
use Prim.Native.Nat.{◌<◌}
use native.Mathlib.Decide.{ℕ_discrete}
use native.Mathlib.Omega.{arith}
use borrow.Author.Tests.{eq-eqb, ne_eqb, le-ltb}
use lib.ListN.{length}
use Rattle.graph.specs.Lent.{held_of}
use Rattle.graph.specs.Table.{entry_at}
use Rattle.graph.proofs.TableLaws.{start_at}
use Rattle.unwind.proofs.Standing.{start_nowhere}
use Rattle.unwind.proofs.blocks.is_start.Goals as goal

pub returns-then-p-table_count : goal.returns-then-p-table_count
returns-then-p-table_count c = let g = (held_of c.args.g.now).graph in
    let inside : c.args.p < length g.table = omega arith in
    rw c.table_in.ensures
    (elim (ℕ_discrete (entry_at g.table c.args.p).address c.args.a) [
      | yes e ↦ eq-eqb _ c.args.a e ∙ sym (start_at g.table c.args.a c.args.p inside e)
      | no ne ↦ ne_eqb _ c.args.a ne ∙ sym (start_nowhere g c.requires.stands c.args.a (λ h e. ne (ap (λ (k : _). (entry_at g.table k).address) c.requires.position ∙ e)))
    ])

pub returns-else-p-table_count : goal.returns-else-p-table_count
returns-else-p-table_count c =
    le-ltb c.args.p _ (omega arith) ∙ sym (start_nowhere (held_of c.args.g.now).graph c.requires.stands c.args.a (λ h e. omega (arith, c.requires.position)))
