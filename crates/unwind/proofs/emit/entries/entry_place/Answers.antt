use mathlib.Core.Path.{◌≡◌, sym, ap, ◌∙◌}
use mathlib.Core.List.{List}
use Prim.Native.Nat.{ℕ, ◌+◌, ◌-◌, ◌/◌}
use native.Mathlib.Omega.{arith}
use Rattle.std.specs.declared.cmp.Ordering.{Ordering as StdOrdering}
use Rattle.image.specs.Image.{RouteImage, routes_in}
use Rattle.unwind.specs.declared.tries.store.Branch.{Branch}
use Rattle.unwind.specs.Nodes.{branch_in}
use Rattle.unwind.specs.Interning.{ordering_of}
use Rattle.unwind.specs.Sources.{compare_exits}
use Rattle.unwind.specs.Entries.{exit_in, Compared}
use Rattle.unwind.proofs.TrieOrder.{eq_same}
use Rattle.unwind.proofs.Rising.{total_exits}
use Rattle.unwind.proofs.EntryLaws.{parts_all, parts_left, parts_right}
use Rattle.unwind.proofs.emit.entries.entry_place.Goals as goal

-- entry k was compared
told : (m : RouteImage) (l : List ℕ) (k : ℕ) (x e : Branch) (o o' : StdOrdering) → e ≡ branch_in l k → Compared m x e o → o ≡ o' → (b : ℕ) → compare_exits (exit_in m b x) (exit_in m b (branch_in l k)) ≡ ordering_of o'
told m l k x e o o' read compared is b = ap (λ (z : Branch). compare_exits (exit_in m b x) (exit_in m b z)) (sym read) ∙ sym (compared.is b) ∙ ap ordering_of is

pub loop-lo-init : goal.loop-lo-init
loop-lo-init c = parts_all (routes_in c.args.s.now c.args.y) c.args.entries.now c.args.n c.args.x c.requires.ordered

pub overflow_add-mid : goal.overflow_add-mid
overflow_add-mid c = omega (arith, c.requires.ordered.fit, c.loop-lo.invariant.most)

pub overflow_add-lo : goal.overflow_add-lo
overflow_add-lo c = omega (arith, c.requires.ordered.fit, c.loop-lo.invariant.most)

pub loop-lo-preserved-in-Less : goal.loop-lo-preserved-in-Less
loop-lo-preserved-in-Less c =
    parts_left (routes_in c.args.s.now c.args.y) c.args.entries.now c.args.n c.args.x c.requires.ordered c.loop-lo.lo c.loop-lo.hi (c.loop-lo.lo + (c.loop-lo.hi - c.loop-lo.lo) / 2) c.loop-lo.invariant (omega arith) (omega arith)
    (told _ _ _ _ _ _ _ c.branch_in-e.ensures.is c.compare_entries.ensures c.in-Less.is)

pub loop-lo-preserved : goal.loop-lo-preserved
loop-lo-preserved c =
    parts_right (routes_in c.args.s.now c.args.y) c.args.entries.now c.args.n c.args.x c.requires.ordered c.loop-lo.lo c.loop-lo.hi (c.loop-lo.lo + (c.loop-lo.hi - c.loop-lo.lo) / 2) c.loop-lo.invariant (omega arith) (omega arith)
    (told _ _ _ _ _ _ _ c.branch_in-e.ensures.is c.compare_entries.ensures c.in-Greater.is)

pub returns-in-Equal : goal.returns-in-Equal
returns-in-Equal c = (
  omega (arith, c.loop-lo.invariant.most),
  λ b. eq_same compare_exits total_exits _ _ (told _ _ _ _ _ _ _ c.branch_in-e.ensures.is c.compare_entries.ensures c.in-Equal.is b),
)

pub returns : goal.returns
returns c = let met : c.loop-lo.hi ≡ c.loop-lo.lo = omega (arith, c.loop-lo.invariant.order) in
    rw met at c.loop-lo.invariant
