-- How many hops there are, how many lists they have, and how many of them end at a block.
use Rattle.std.specs.Prelude.{◌≡◌, cond, List, [], ℕ, ◌+◌, ◌≤◌, eqb, length}
use Rattle.image.specs.Image.{RouteImage}
use Rattle.unwind.specs.declared.emit.count.Sizes.{Sizes}
use Rattle.addition.specs.Lists.{keep, joined}
use Rattle.addition.specs.Ways.{Hop}
use Rattle.unwind.specs.Sources.{hops_on, to_block}
use Rattle.unwind.specs.Entries.{exits_in}

pub record HopsSize (hs : List Hop) (r : Sizes) : Type 0 where
  pub hops : r.hops ≡ length hs
  pub lists : r.lists ≡ length (joined (λ h. h.calls) hs)
  pub blocks : r.blocks ≡ length (keep (λ h. to_block h.end) hs)

-- of the hops of n entries, of whichever block
pub record SizesOf (l : List ℕ) (n : ℕ) (r : Sizes) : Type 0 where
  pub of : (m : RouteImage) (b : ℕ) → HopsSize (hops_on [] (exits_in m b l n)) r
  pub hops_most : r.hops ≤ n
  pub lists_most : r.lists ≤ n
  pub blocks_most : r.blocks ≤ n

-- one entry more, to an end of this number, behind one to `last`
unfoldable pub sizes_then : Sizes → ℕ → ℕ → Sizes
sizes_then z last end =
    record {
      hops = z.hops + cond (eqb last end) 0 1;
      lists = z.lists + 1;
      blocks = z.blocks + cond (eqb last end) 0 (cond (eqb end 65535) 0 1);
    }

-- of two lists of hops, one behind the other
abbrev pub sizes_both : Sizes → Sizes → Sizes
sizes_both p q = record { hops = p.hops + q.hops; lists = p.lists + q.lists; blocks = p.blocks + q.blocks }
