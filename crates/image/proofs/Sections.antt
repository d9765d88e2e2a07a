-- A section whose count is clear.
--     count-within                      its count is within its limit
--     width_least, width_most           each width is from 9 to 31
--     section_ends                      where it ends at most,
--     edges_end, code_ends              and where the given edges and the handlers do
-- Assumes nothing.
use mathlib.Core.Bool.{Bool}
use mathlib.Core.Path.{◌≡◌}
use mathlib.Core.List.{List}
use Rattle.std.specs.Prelude.{Option}
use Prim.Native.Nat.{ℕ, ◌+◌, ◌≤◌}
use native.Mathlib.Nat.{min-le_right}
use native.Mathlib.Omega.{arith}
use borrow.Author.Tests.{leb-true}
use Rattle.image.specs.Little.{le4}
use Rattle.image.specs.Refusal.{clear}
use Rattle.image.specs.Read.{width_of, limit_of, count_form, section_at, code_layout_of, end_of}
use Rattle.image.specs.Kind.{Kind, Instructions, Cases, Sources, Edges, Handlers, Routes, Paths, Steps}
use Rattle.image.proofs.Checks.{then_left, then_right, unless_clear}

module _ (k : Kind) (l : List ℕ) (at : ℕ) where
  module _ (used : Bool) (sum : Option ℕ) (h : count_form k l at used sum ≡ clear) where
    pub count-within : le4 l at ≤ limit_of k
    count-within = grind (arith, then_left, then_right, unless_clear, leb-true)

pub width_least : (k : Kind) → 9 ≤ width_of k
width_least Instructions = omega arith
width_least Cases = omega arith
width_least Sources = omega arith
width_least Edges = omega arith
width_least Handlers = omega arith
width_least Routes = omega arith
width_least Paths = omega arith
width_least Steps = omega arith

pub width_most : (k : Kind) → width_of k ≤ 31
width_most Instructions = omega arith
width_most Cases = omega arith
width_most Sources = omega arith
width_most Edges = omega arith
width_most Handlers = omega arith
width_most Routes = omega arith
width_most Paths = omega arith
width_most Steps = omega arith

pub section_ends : (k : Kind) (l : List ℕ) (at : ℕ) → end_of (section_at k l at) ≤ at + 15876
section_ends Instructions l at = omega (arith, min-le_right (le4 l at) 512)
section_ends Cases l at = omega (arith, min-le_right (le4 l at) 512)
section_ends Sources l at = omega (arith, min-le_right (le4 l at) 512)
section_ends Edges l at = omega (arith, min-le_right (le4 l at) 512)
section_ends Handlers l at = omega (arith, min-le_right (le4 l at) 32)
section_ends Routes l at = omega (arith, min-le_right (le4 l at) 32)
section_ends Paths l at = omega (arith, min-le_right (le4 l at) 128)
section_ends Steps l at = omega (arith, min-le_right (le4 l at) 512)

pub edges_end : (l : List ℕ) → end_of (code_layout_of l).edges ≤ 63516
unfolding code_layout_of
edges_end l =
    let i = end_of (section_at Instructions l 12) in
    let c = end_of (section_at Cases l i) in
    let s = end_of (section_at Sources l c) in
    omega (arith, section_ends Instructions l 12, section_ends Cases l i, section_ends Sources l c, section_ends Edges l s)

pub code_ends : (l : List ℕ) → end_of (code_layout_of l).handlers ≤ 79392
unfolding code_layout_of
code_ends l = omega (arith, edges_end l, section_ends Handlers l (end_of (code_layout_of l).edges))

pub ruleset ends = (section_ends, edges_end, code_ends)
