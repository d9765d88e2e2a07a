-- `find_hop` meets its contract: a hop that was tried makes the leap, or it is searched for. Assumes nothing.
use mathlib.Core.Path.{◌≡◌, sym, ap, ◌∙◌}
use native.Mathlib.Omega.{arith}
use Rattle.unwind.specs.Flags.{pair, row_leap, leap_at}
use Rattle.unwind.proofs.wants.find.find_hop.Goals as goal

pub returns-then-is_hop : goal.returns-then-is_hop
returns-then-is_hop c = let count = c.hop_count.ensures in
    let inside = c.if-near-hop_count.true in
    let is : leap_at c.args.h.now c.args.near ≡ pair c.args.b c.args.t = ap row_leap (sym c.hop_at.ensures) ∙ c.is_hop.ensures c.if-is_hop.true in
    (record { stands = omega (arith, count.0, inside); is = is }, omega (arith, count.1, inside))
