use mathlib.Core.Path.{◌≡◌, sym, ap, ◌∙◌}
use mathlib.Core.List.{List, map}
use Prim.Native.Nat.{ℕ, ◌+◌, ◌<◌}
use native.Mathlib.Omega.{arith}
use lib.ListN.{get_or}
use Rattle.std.specs.declared.cmp.Ordering.{Ordering as StdOrdering}
use Rattle.image.specs.Image.{RouteImage, routes_in}
use Rattle.unwind.specs.declared.tries.store.Branch.{Branch}
use Rattle.unwind.specs.declared.tries.compare.Kind.{Kind}
use Rattle.unwind.specs.Nodes.{branch_in, branches}
use Rattle.unwind.specs.Interning.{ordering_of, ordered, meaning}
use Rattle.unwind.proofs.TrieRuns.{length_meant, meant_of, spot_start, spot_on, spot_less, spot_equal, spot_end}
use borrow.Author.Rules.{rules}
use Rattle.unwind.proofs.tries.runs.spot_of.Goals as goal

-- the branch in place j was compared
told : (m : RouteImage) (kind : Kind) (l : List ℕ) (at n j : ℕ) (b e : Branch) (o o' : StdOrdering) → j < n → e ≡ branch_in l (at + j) → ordering_of o ≡ ordered kind (meaning m kind b) (meaning m kind e) → o ≡ o' → ordered kind (meaning m kind b) (get_or (map (meaning m kind) (branches l at n)) j (meaning m kind b)) ≡ ordering_of o'
told m kind l at n j b e o o' h read compared is =
    ap (ordered kind (meaning m kind b)) (meant_of (meaning m kind) l at n j (meaning m kind b) h ∙ ap (meaning m kind) (sym read))
    ∙ sym compared
    ∙ ap ordering_of is

pub loop-j-init : goal.loop-j-init
loop-j-init c = (search rules, spot_start _ _ _)

pub returns-in-Less : goal.returns-in-Less
returns-in-Less c = let m = routes_in c.args.s.now c.args.y in
    spot_less (ordered c.args.kind) (meaning m c.args.kind c.args.b) _ c.loop-j.j (meaning m c.args.kind c.args.b) (rw length_meant c.loop-j-test.true) c.loop-j.invariant.1
    (told m c.args.kind c.args.list.now c.args.at c.args.n c.loop-j.j c.args.b _ _ _ c.loop-j-test.true c.branch_in.ensures.is c.compare_branches.ensures c.in-Less.is)

pub returns-in-Equal : goal.returns-in-Equal
returns-in-Equal c = let m = routes_in c.args.s.now c.args.y in
    spot_equal (ordered c.args.kind) (meaning m c.args.kind c.args.b) _ c.loop-j.j (meaning m c.args.kind c.args.b) (rw length_meant c.loop-j-test.true) c.loop-j.invariant.1
    (told m c.args.kind c.args.list.now c.args.at c.args.n c.loop-j.j c.args.b _ _ _ c.loop-j-test.true c.branch_in.ensures.is c.compare_branches.ensures c.in-Equal.is)

pub loop-j-preserved : goal.loop-j-preserved
loop-j-preserved c = let m = routes_in c.args.s.now c.args.y in (
  search rules,
  spot_on (ordered c.args.kind) (meaning m c.args.kind c.args.b) _ c.loop-j.j (meaning m c.args.kind c.args.b) (rw length_meant c.loop-j-test.true) c.loop-j.invariant.1
      (told m c.args.kind c.args.list.now c.args.at c.args.n c.loop-j.j c.args.b _ _ _ c.loop-j-test.true c.branch_in.ensures.is c.compare_branches.ensures c.in-Greater.is),
)

pub returns : goal.returns
returns c = let m = routes_in c.args.s.now c.args.y in
    let l = map (meaning m c.args.kind) (branches c.args.list.now c.args.at c.args.n) in
    let all : c.loop-j.j ≡ c.args.n = omega arith in
    spot_end (ordered c.args.kind) (meaning m c.args.kind c.args.b) l c.args.n (sym (length_meant (meaning m c.args.kind) c.args.list.now c.args.at c.args.n)) (rw all at c.loop-j.invariant.1)
