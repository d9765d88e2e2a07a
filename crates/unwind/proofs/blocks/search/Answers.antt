-- `search` meets its contract: of the built blocks only the first that does not begin before the address can begin there.
-- Assumes nothing.
use mathlib.Core.Path.{◌≡◌, sym, ap, ◌∙◌}
use Prim.Native.Nat.{◌<◌}
use native.Mathlib.Omega.{arith}
use Rattle.graph.specs.declared.record.Block.{Block}
use Rattle.graph.specs.Graph.{block}
use Rattle.graph.specs.Lent.{held_of}
use Rattle.unwind.specs.Stands.{led}
use Rattle.unwind.proofs.Standing.{none_begins, leads_here, leads_none, leads_absent}
use Rattle.unwind.proofs.blocks.search.Goals as goal
use Rattle.unwind.proofs.blocks.search.Goals.{else-b-built-via-then-b-built+else-block_in-p, else-b-built-via-else-b-built}

pub returns-in_default : goal.returns-in_default
returns-in_default c = sym (ap (led c.args.a) (leads_absent (held_of c.args.g.now).graph c.requires.stands c.args.a c.in_default.ensures))

pub returns-then-block_in-p : goal.returns-then-block_in-p
returns-then-block_in-p c = let found = c.in-Some.ensures in
    let here = ap (λ (x : Block). x.first) (sym c.block_in.ensures) ∙ c.if-block_in-p.true in
    sym (ap (led c.args.a) (leads_here (held_of c.args.g.now).graph c.requires.stands c.args.built c.requires.built c.args.a _ found.0 found.1 c.block_from-b.result c.if-b-built.true here))

pub returns : goal.returns
returns c = let g = (held_of c.args.g.now).graph in
    let found = c.in-Some.ensures in
    let out : (h : c.block_from-b.result < c.args.built) → (block g c.block_from-b.result).first ≡ c.in-Some.p → ⊥ = λ h e.
    elim c.else-b-built.branch [
      | else-b-built-via-then-b-built+else-block_in-p w ↦ w.if-block_in-p.false (ap (λ (x : Block). x.first) w.block_in.ensures ∙ e)
      | else-b-built-via-else-b-built w ↦ omega (arith, h, w.if-b-built.false)
    ] in
    sym (ap (led c.args.a) (leads_none g c.requires.stands c.args.built c.requires.built c.args.a _ found.0 found.1
    (none_begins g c.requires.stands c.args.built c.requires.built _ c.block_from-b.result c.block_from-b.ensures out)))
