-- `nearer_key` meets its contract. Assumes nothing.
use mathlib.Core.Path.{sym, ◌∙◌}
use Rattle.std.proofs.Common.{Some, None}
use Rattle.image.specs.Image.{routes_in}
use Rattle.unwind.specs.Keys.{key_of, NextAmong}
use Rattle.unwind.proofs.TrieKeys.{key_small, key_within}
use Rattle.unwind.proofs.TrieSpans.{key_none, key_early, key_first, key_merged}
use Rattle.unwind.proofs.tries.keys.nearer_key.Goals as goal

pub returns-in_default : goal.returns-in_default
unfolding key_of
returns-in_default c = let m = routes_in c.args.s.now c.args.y in
    key_none m c.args.g c.args.last c.args.k c.args.best c.requires.best c.in_default.ensures.is

pub is_after-requires-clause-last_small : goal.is_after-requires-clause-last_small
is_after-requires-clause-last_small c = key_small _ c.requires.accepted c.args.g c.args.last c.requires.key

pub is_after-requires-clause-last_within : goal.is_after-requires-clause-last_within
is_after-requires-clause-last_within c = key_within _ c.args.g c.args.last c.requires.key

pub is_after-requires-clause-key_small : goal.is_after-requires-clause-key_small
is_after-requires-clause-key_small c = key_small _ c.requires.accepted c.args.g (Some c.in-Some.key) c.in-Some.ensures.stands

pub is_after-requires-clause-key_within : goal.is_after-requires-clause-key_within
is_after-requires-clause-key_within c = c.in-Some.ensures.stands.within

pub returns-then-is_after : goal.returns-then-is_after
unfolding key_of
returns-then-is_after c = let m = routes_in c.args.s.now c.args.y in
    let so_far : NextAmong m c.args.g c.args.last c.args.k None = rw c.in_default-best.is at c.requires.best in
    key_first m c.args.g c.args.last c.args.k so_far _ c.in-Some.ensures (sym c.is_after.ensures ∙ c.if-is_after.true)

pub returns-in_default-best : goal.returns-in_default-best
returns-in_default-best c = let m = routes_in c.args.s.now c.args.y in
    key_early m c.args.g c.args.last c.args.k c.args.best c.requires.best _ c.in-Some.ensures (sym c.is_after.ensures ∙ c.if-is_after.false)

pub merge_key-requires-clause-last_small : goal.merge_key-requires-clause-last_small
merge_key-requires-clause-last_small c = key_small _ c.requires.accepted c.args.g c.args.last c.requires.key

pub merge_key-requires-clause-last_within : goal.merge_key-requires-clause-last_within
merge_key-requires-clause-last_within c = key_within _ c.args.g c.args.last c.requires.key

pub merge_key-requires-clause-key_small : goal.merge_key-requires-clause-key_small
merge_key-requires-clause-key_small c = key_small _ c.requires.accepted c.args.g (Some c.in-Some.key) c.in-Some.ensures.stands

pub merge_key-requires-clause-key_within : goal.merge_key-requires-clause-key_within
merge_key-requires-clause-key_within c = c.in-Some.ensures.stands.within

pub merge_key-requires-clause-best_small : goal.merge_key-requires-clause-best_small
merge_key-requires-clause-best_small c = let so_far : NextAmong (routes_in c.args.s.now c.args.y) c.args.g c.args.last c.args.k (Some c.in-Some-best.other) = rw c.in-Some-best.is at c.requires.best in key_small _ c.requires.accepted c.args.g (Some _) so_far.stands

pub merge_key-requires-clause-best_within : goal.merge_key-requires-clause-best_within
merge_key-requires-clause-best_within c = let so_far : NextAmong (routes_in c.args.s.now c.args.y) c.args.g c.args.last c.args.k (Some c.in-Some-best.other) = rw c.in-Some-best.is at c.requires.best in so_far.stands.within

pub returns : goal.returns
returns c = let m = routes_in c.args.s.now c.args.y in
    let so_far : NextAmong m c.args.g c.args.last c.args.k (Some c.in-Some-best.other) = rw c.in-Some-best.is at c.requires.best in
    rw c.merge_key.ensures (key_merged m c.args.g c.args.last c.args.k _ so_far _ c.in-Some.ensures)
