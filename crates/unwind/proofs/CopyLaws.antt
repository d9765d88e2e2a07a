-- The hops out of copies.
--     record_length                how many exits a node has
--     copy_first                   the number of the first copy
use mathlib.Core.Path.{◌≡◌, refl, ◌∙◌}
use mathlib.Core.List.{List}
use Prim.Native.Nat.{ℕ, ◌+◌}
use lib.ListN.{length, length-append}
use Rattle.image.specs.Image.{RouteImage}
use Rattle.graph.proofs.FoldLaws.{length-table}
use Rattle.unwind.specs.declared.tries.store.NodeRecord.{NodeRecord}
use Rattle.unwind.specs.Gather.{edge_exits, end_exits, record_exits}
use Rattle.unwind.specs.Copies.{copy_number}

module _ (m : RouteImage) (b : ℕ) (nodes edges ends heads landings : List ℕ) where
  pub record_length : (x : NodeRecord) → length (record_exits m b edges ends heads landings x) ≡ x.edges + x.ends
  unfolding record_exits edge_exits end_exits
  record_length x = length-append (edge_exits m b edges heads x.first_edge x.edges) (end_exits m b ends landings x.first_end x.ends) ∙ rw (length-table _ x.edges, length-table _ x.ends)

pub copy_first : (parts : List ℕ) (i base : ℕ) → base ≡ copy_number parts i base 0
unfolding copy_number
copy_first parts i base = refl
