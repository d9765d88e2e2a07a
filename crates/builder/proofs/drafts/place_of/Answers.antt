use mathlib.Core.Path.{◌≡◌, sym, ◌∙◌}
use lib.ListN.{take}
use lib.Seq.{get_or-take}
use Rattle.builder.proofs.DraftLaws.{place_on, place_here, place_end, counted_size}
use native.Mathlib.Omega.{arith}
use borrow.Author.Rules.{rules}
use Rattle.builder.proofs.drafts.place_of.Goals as goal

pub returns-then-span-own-clause-place : goal.returns-then-span-own-clause-place
returns-then-span-own-clause-place c = let gs = take c.args.count c.args.list.now in
    let size = counted_size c.requires.counted in
    λ m e. c.loop-j.invariant.1 m e ∙ place_here m c.args.h gs c.loop-j.j (omega arith) (rw (get_or-take c.args.count c.args.list.now c.loop-j.j 0 (omega arith), ← c.span-own.ensures m e, ← c.span.ensures m e) c.if-span-own.true)

pub loop-j-preserved : goal.loop-j-preserved
loop-j-preserved c = let gs = take c.args.count c.args.list.now in
    let size = counted_size c.requires.counted in
    (search rules, λ m e. c.loop-j.invariant.1 m e ∙ place_on m c.args.h gs c.loop-j.j (omega arith) (rw (get_or-take c.args.count c.args.list.now c.loop-j.j 0 (omega arith), ← c.span-own.ensures m e, ← c.span.ensures m e) c.if-span-own.false))

pub returns-clause-place : goal.returns-clause-place
returns-clause-place c = let all : c.loop-j.j ≡ c.args.count = omega arith in
    λ m e. rw all at (c.loop-j.invariant.1 m e) ∙ place_end m c.args.h (take c.args.count c.args.list.now) c.args.count (sym (counted_size c.requires.counted))
