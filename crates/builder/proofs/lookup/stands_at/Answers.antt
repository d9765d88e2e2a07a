-- What was read there is the address of the table's entry. Assumes nothing.
use mathlib.Core.Path.{◌≡◌, ap, sym, ◌∙◌}
use Prim.Native.Nat.{◌<◌}
use lib.ListN.{length}
use borrow.Author.Tests.{eqb-true}
use Rattle.image.specs.declared.record.Instruction.{Instruction}
use Rattle.builder.specs.Code.{image_of}
use Rattle.graph.specs.Table.{entry_at}
use Rattle.graph.specs.Transfer.{table_of}
use Rattle.graph.proofs.TableLaws.{length-entries, entry_address, start_at, below_at}
use native.Mathlib.Omega.{arith}
use Rattle.builder.proofs.lookup.stands_at.Goals as goal

pub returns-then-i-size : goal.returns-then-i-size
returns-then-i-size c = λ e.
    let m = image_of c.args.code.now in
    let t = table_of m in
    let inside : c.args.i < length t = omega (arith, length-entries m.instructions) in
    let here : (entry_at t c.args.i).address ≡ c.args.a = entry_address m c.args.i ∙ sym (ap (λ (i : Instruction). i.address) c.instruction.ensures) ∙ eqb-true _ _ e in
    (start_at t c.args.a c.args.i inside here, rw here at (below_at t c.args.code.now.rising c.args.i inside), inside)
