use mathlib.Core.Path.{◌≡◌, refl, sym, ◌∙◌}
use mathlib.Core.Bool.{false≢true}
use mathlib.Core.Logic.{⊎_elim}
use Prim.Native.Nat.{◌+◌, ◌*◌, min}
use native.Mathlib.Omega.{arith}
use Rattle.graph.specs.Fold.{flat}
use Rattle.unwind.specs.Blockwise.{Given, Ready}
use Rattle.unwind.proofs.BlockLoop.{given_guards, given_returns, ready, ready_kept}
use Rattle.unwind.proofs.emit.standing.emit_blocks.Goals as goal

pub mark_turns-requires : goal.mark_turns-requires
mark_turns-requires g c =
    let given : Given c.args.s.now c.args.y c.args.nodes.now c.args.edges.now c.args.ends.now c.args.heads.now c.args.landings.now c.args.roots.now c.args.guards.now c.args.bases.now c.args.parts.now c.args.returners.now c.args.stored c.args.blocks c.args.originals.now c.args.exits.now = record {
      tries = c.requires.tries;
      few = c.requires.few;
      roomy = c.requires.roomy;
      sets = c.requires.sets;
      there = c.requires.there;
      heads_fit = c.requires.heads_fit;
      landings_fit = c.requires.landings_fit;
      bases_fit = c.requires.bases_fit;
      originals_fit = c.requires.originals_fit;
    } in
    (given_guards given, given_returns given, given.few)

pub overflow_add-words : goal.overflow_add-words
overflow_add-words g c = omega (arith, c.requires.few)

pub loop-w-init : goal.loop-w-init
unfolding flat
loop-w-init g c = let none : min (64 * 0) c.args.blocks ≡ 0 = omega arith in
    (omega arith, refl, refl, rw none c.requires.start)

pub emit_word-requires-clause-ready : goal.emit_word-requires-clause-ready
emit_word-requires-clause-ready g c =
    let given : Given c.args.s.now c.args.y c.args.nodes.now c.args.edges.now c.args.ends.now c.args.heads.now c.args.landings.now c.args.roots.now c.args.guards.now c.args.bases.now c.args.parts.now c.args.returners.now c.args.stored c.args.blocks c.args.originals.now c.args.exits.now = record {
      tries = c.requires.tries;
      few = c.requires.few;
      roomy = c.requires.roomy;
      sets = c.requires.sets;
      there = c.requires.there;
      heads_fit = c.requires.heads_fit;
      landings_fit = c.requires.landings_fit;
      bases_fit = c.requires.bases_fit;
      originals_fit = c.requires.originals_fit;
    } in
    let known : Ready c.args.s.now c.args.y c.args.nodes.now c.args.edges.now c.args.ends.now c.args.heads.now c.args.landings.now c.args.roots.now c.args.guards.now c.args.bases.now c.args.parts.now c.args.returners.now c.args.stored c.args.blocks c.args.originals.now c.args.exits.now c.is_worth-worth.result c.if-worth.turns = ready given c.if-worth.turns c.is_worth-worth.ensures (λ e. ⊎_elim (λ v. rw v.turns-is v.mark_turns.ensures) (λ v. absurd (false≢true (sym v.if-worth.false ∙ e))) c.if-worth.branch-raw) in
    ready_kept known c.loop-w.invariant.1 c.loop-w.invariant.2

pub emit_word-requires-clause-word : goal.emit_word-requires-clause-word
emit_word-requires-clause-word g c = omega (arith, c.loop-w-test.true)

pub emit_word-requires-clause-held : goal.emit_word-requires-clause-held
emit_word-requires-clause-held g c = let at : min (64 * c.loop-w.w) c.args.blocks ≡ 64 * c.loop-w.w = omega (arith, c.loop-w-test.true) in
    (c.args.sink.now, rw at at c.loop-w.invariant.3)

pub overflow_step-w : goal.overflow_step-w
overflow_step-w g c = omega (arith, c.loop-w-test.true, c.requires.few)

pub loop-w-preserved : goal.loop-w-preserved
loop-w-preserved g c = let next : 64 * (c.loop-w.w + 1) ≡ 64 * c.loop-w.w + 64 = omega arith in
    let at : min (64 * c.loop-w.w) c.args.blocks ≡ 64 * c.loop-w.w = omega (arith, c.loop-w-test.true) in
    (omega (arith, c.loop-w-test.true), c.emit_word.auto.originals ∙ c.loop-w.invariant.1, c.emit_word.auto.exits ∙ c.loop-w.invariant.2, rw next (c.emit_word.ensures c.args.sink.now (rw at at c.loop-w.invariant.3)))

pub shape_of-originals : goal.shape_of-originals
shape_of-originals g c = c.loop-w.invariant.1

pub shape_of-exits : goal.shape_of-exits
shape_of-exits g c = c.loop-w.invariant.2

pub returns-clause-holds : goal.returns-clause-holds
returns-clause-holds g c = let all : min (64 * c.loop-w.w) c.args.blocks ≡ c.args.blocks = omega (arith, c.loop-w.invariant.0) in
    rw all at c.loop-w.invariant.3
