-- There is room for the number of each position's block. Assumes nothing.
use native.Mathlib.Omega.{arith}
use mathlib.Core.Path.{◌≡◌, refl}
use Prim.Native.Nat.{ℕ, zero, suc}
use lib.ListN.{get_or, replicate, length-replicate}
use Rattle.builder.proofs.build.build_framed.Goals as goal

zeros : (n d : ℕ) → get_or (replicate n d) 0 d ≡ d
zeros zero d = refl
zeros (suc n) d = refl

pub build_in-requires : goal.build_in-requires
build_in-requires g c = record { fits = (omega (arith, length-replicate {A = ℕ} g.row.BLOCKS 0, c.requires.few), zeros g.row.BLOCKS 0) }
