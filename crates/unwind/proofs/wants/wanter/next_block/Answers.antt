use mathlib.Core.Path.{◌≡◌, sym, ap, ◌∙◌}
use mathlib.Core.List.{List}
use Prim.Native.Nat.{ℕ, ◌*◌, ◌/◌, ◌%◌, ◌^◌}
use native.Mathlib.Decide.{dec_lt}
use native.Mathlib.Omega.{arith}
use borrow.Author.Rules.{rules}
use lib.Count.{count_trailing_zeros}
use lib.ListN.{get_or}
use Rattle.graph.proofs.BlockLaws.{lowest_from, none_more}
use Rattle.graph.proofs.NextLaws.{none_past, next_here, rest-none}
use Rattle.unwind.specs.Placed.{returns_in}
use Rattle.unwind.specs.Wanters.{wanter_set}
use Rattle.unwind.proofs.wants.wanter.next_block.Goals as goal

pub returns-then-past-from : goal.returns-then-past-from
returns-then-past-from c =
    let own : List ℕ = wanter_set c.args.guards.now (returns_in c.args.parts.now c.args.returners.now) c.args.routes c.args.k in
    λ b ge. none_past (own) c.args.past c.requires.1 b (omega arith)

pub returns-then-rest-ne0 : goal.returns-then-rest-ne0
returns-then-rest-ne0 c =
    let own : List ℕ = wanter_set c.args.guards.now (returns_in c.args.parts.now c.args.returners.now) c.args.routes c.args.k in
    let left : c.digits_from-rest.result ≡ get_or (own) (c.args.from / 64) 0 / 2 ^ (c.args.from % 64) = c.digits_from-rest.ensures.0 ∙ ap (λ (v : ℕ). v / 2 ^ (c.args.from % 64)) c.word_of-first.ensures in
    let rest = left in
    let zeros = c.zeros_of.ensures in
    rw (zeros.0, rest)
    (next_here (own) c.args.from (rw c.word_of-first.ensures at c.digits_from-rest.ensures.1) (omega (arith, c.requires.0)) (λ z. c.if-rest-ne0.true (rest ∙ z)) (rw rest at zeros.2))

pub loop-i-init : goal.loop-i-init
loop-i-init c =
    let own : List ℕ = wanter_set c.args.guards.now (returns_in c.args.parts.now c.args.returners.now) c.args.routes c.args.k in
    let left : c.digits_from-rest.result ≡ get_or (own) (c.args.from / 64) 0 / 2 ^ (c.args.from % 64) = c.digits_from-rest.ensures.0 ∙ ap (λ (v : ℕ). v / 2 ^ (c.args.from % 64)) c.word_of-first.ensures in
    (omega arith, rest-none (own) c.args.from (sym (left) ∙ c.if-rest-ne0.false))

pub returns-then-word-ne0 : goal.returns-then-word-ne0
returns-then-word-ne0 c =
    let own : List ℕ = wanter_set c.args.guards.now (returns_in c.args.parts.now c.args.returners.now) c.args.routes c.args.k in
    let word = c.word_of-word.ensures in
    let zeros = c.zeros_of-then-word-ne0.ensures in
    rw (zeros.0 ∙ ap (count_trailing_zeros 64) word)
    (lowest_from (own) c.loop-i.i (rw word at zeros.2) c.args.from c.loop-i.invariant.0 (search rules) (λ z. c.if-word-ne0.true (word ∙ z)) c.loop-i.invariant.1)

pub loop-i-preserved : goal.loop-i-preserved
loop-i-preserved c =
    let own : List ℕ = wanter_set c.args.guards.now (returns_in c.args.parts.now c.args.returners.now) c.args.routes c.args.k in
    (omega (arith, c.loop-i.invariant.0), none_more (own) c.loop-i.i c.args.from (sym c.word_of-word.ensures ∙ c.if-word-ne0.false) c.loop-i.invariant.1)

pub returns : goal.returns
returns c =
    let own : List ℕ = wanter_set c.args.guards.now (returns_in c.args.parts.now c.args.returners.now) c.args.routes c.args.k in
    λ b ge.
    elim (dec_lt b (64 * c.loop-i.i)) [
      | yes lt ↦ c.loop-i.invariant.1 b ge lt
      | no past ↦ none_past (own) c.args.past c.requires.1 b (omega arith)
    ]
