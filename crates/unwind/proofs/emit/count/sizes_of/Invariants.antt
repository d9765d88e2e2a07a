-- `sizes_of` meets its contract. The invariant: the entries passed are counted, and `last` is the end of the last of them.
-- Assumes nothing.
use mathlib.Core.Path.{◌≡◌}
use mathlib.Core.List.{List, []}
use Prim.Native.Nat.{ℕ, ◌≤◌}
use Rattle.image.specs.Image.{RouteImage}
use Rattle.unwind.specs.declared.emit.count.Sizes.{Sizes}
use Rattle.unwind.specs.Sources.{hops_on}
use Rattle.unwind.specs.Entries.{exits_in}
use Rattle.unwind.specs.Sizes.{HopsSize}
use Rattle.unwind.proofs.SizeLaws.{last_end}
use Rattle.unwind.proofs.emit.count.sizes_of.Given as goal

pub record Counted (l : List ℕ) (k : ℕ) (z : Sizes) (last : ℕ) : Type 0 where
  pub hops : z.hops ≤ k
  pub lists : z.lists ≤ k
  pub blocks : z.blocks ≤ k
  pub ends : last ≡ last_end l k
  pub of : (m : RouteImage) (b : ℕ) → HopsSize (hops_on [] (exits_in m b l k)) z

abbrev pub invariant-loop-k : goal.invariant-loop-k
invariant-loop-k l = (l.k ≤ l.n) × Counted l.exits l.k l.sizes l.last
