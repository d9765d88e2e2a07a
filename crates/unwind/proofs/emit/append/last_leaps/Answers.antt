-- `last_leaps` meets its contract. Assumes nothing.
use mathlib.Core.Path.{◌≡◌, sym, ap, ◌∙◌}
use mathlib.Core.Bool.{Bool, ◌&&◌}
use Prim.Native.Nat.{suc, ◌-◌}
use native.Mathlib.Omega.{arith}
use lib.Dec.{eqb}
use lib.ListN.{length}
use Rattle.unwind.specs.declared.hops.HopRow.{HopRow}
use Rattle.unwind.specs.HopWords.{rows_in, ends_at}
use Rattle.unwind.proofs.RowLaws.{last_leaps_law, none_leaps}
use Rattle.unwind.proofs.emit.append.last_leaps.Goals as goal

pub returns-then-count-eq0 : goal.returns-then-count-eq0
returns-then-count-eq0 c = sym (none_leaps (rows_in c.args.h.now).hops c.args.b c.args.n (sym c.hop_count-count.ensures.0 ∙ c.if-count-eq0.true))

pub returns : goal.returns
returns c = let long : length (rows_in c.args.h.now).hops ≡ suc (c.hop_count-count.result - 1) = omega (arith, c.hop_count-count.ensures.0, c.if-count-eq0.false) in
    ap (λ (q : Bool). eqb c.hop_at-x.result.source c.args.b && q) c.ends_at-ends.ensures
    ∙ ap (λ (y : HopRow). eqb y.source c.args.b && ends_at y c.args.n) c.hop_at-x.ensures
    ∙ sym (last_leaps_law (rows_in c.args.h.now).hops (c.hop_count-count.result - 1) c.args.b c.args.n long)
