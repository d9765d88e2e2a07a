-- What a sink of hops has, where it stores them and where it counts them alone.
use Rattle.std.specs.Prelude.{List, ℕ, ◌*◌, ◌≤◌, ⊤}
use native.Mathlib.Omega.{arith}
use Rattle.image.specs.Image.{RouteImage}
use Rattle.unwind.specs.declared.emit.count.Sizes.{Sizes}
use Rattle.addition.specs.Ways.{Hop}
use Rattle.unwind.specs.HopWords.{HopsHeld}
use Rattle.unwind.specs.Sizes.{HopsSize}

-- the sizes of hops out of blocks below b, as many as 65536 of each block at most
pub record SizesHeld (b : ℕ) (hs : List Hop) (z : Sizes) : Type 0 where
  pub hops : z.hops ≤ b * 65536
  pub lists : z.lists ≤ b * 65536
  pub blocks : z.blocks ≤ b * 65536
  pub of : HopsSize hs z

-- sizes have room for any hops
abbrev pub AnyFit : List Hop → Type 0
AnyFit hs = ⊤

-- the same with a higher bound of the blocks
pub held_up : {m : RouteImage} {b : ℕ} {l l' : List ℕ} {hs : List Hop} (d : ℕ) → HopsHeld m b l l' hs → b ≤ d → HopsHeld m d l l' hs
held_up d p h = record { holds = p.holds; order = p.order; below = λ x i. omega (arith, p.below x i); uses = p.uses; kept = p.kept }

pub sizes_up : {b : ℕ} {hs : List Hop} {z : Sizes} (d : ℕ) → SizesHeld b hs z → b ≤ d → SizesHeld d hs z
sizes_up d p h = let a = p.hops in let l = p.lists in let k = p.blocks in record { hops = omega arith; lists = omega arith; blocks = omega arith; of = p.of }
