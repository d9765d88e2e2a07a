-- `place_clone` meets its contract. Assumes nothing.
use Prim.Native.Nat.{◌≤◌}
use native.Mathlib.Omega.{arith}
use Rattle.unwind.proofs.PlaceLaws.{sizes_kept, rank_most}
use Rattle.unwind.proofs.place.place_clone.Goals as goal

pub overflow_add-entry : goal.overflow_add-entry
overflow_add-entry c =
    let ranked : c.rank_in.result ≤ 1024 = rw (c.rank_in.ensures, c.set_at-part.ensures) (rank_most c.args.parts.now c.args.first _) in
    omega (arith, ranked, c.requires.base_most)

pub store_node-requires-clause-entry_small : goal.store_node-requires-clause-entry_small
store_node-requires-clause-entry_small c = let ranked : c.rank_in.result ≤ 1024 = rw (c.rank_in.ensures, c.set_at-part.ensures) (rank_most c.args.parts.now c.args.first _) in
    omega (arith, c.requires.base_most, ranked)

pub shape_of-bases : goal.shape_of-bases
shape_of-bases c = (sizes_kept c.store_node.ensures).bases_long

pub shape_of-entries : goal.shape_of-entries
shape_of-entries c = (sizes_kept c.store_node.ensures).entries_long

pub shape_of-parts : goal.shape_of-parts
shape_of-parts c = (sizes_kept c.store_node.ensures).parts_long
