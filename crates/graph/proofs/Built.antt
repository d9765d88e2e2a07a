-- A graph that a build makes passes rule 21.
--     limits_met                   the limits
--     graph_passes                 the theorem, where unresolved records and calls are within their limits
-- Assumes nothing.
use mathlib.Core.Path.{◌≡◌}
use mathlib.Core.Bool.{true}
use Prim.Native.Nat.{◌≤◌}
use native.Mathlib.Omega.{arith}
use borrow.Author.Tests.{le-leb}
use lib.ListN.{length}
use Rattle.image.specs.Refusal.{clear}
use Rattle.image.specs.Image.{Image}
use Rattle.image.specs.Accepted.{Accepted}
use Rattle.graph.specs.Graph.{held}
use Rattle.graph.specs.Transfer.{table_of}
use Rattle.graph.specs.Blocks.{blocks_of}
use Rattle.graph.specs.Edges.{edges_of, unresolved_of, calls_of}
use Rattle.graph.specs.Regions.{regions_of, handlers_of}
use Rattle.graph.specs.Build.{build_check, graph_from}
use Rattle.graph.specs.WellFormed.{within_limits, well_formed}
use Rattle.graph.proofs.TableLaws.{length-entries}
use Rattle.graph.proofs.RuleLaws.{stands_so}
use Rattle.graph.proofs.BuiltChecks.{parts, input_clear, result_clear, table-passes, edges_few}
use Rattle.graph.proofs.BuiltBlocks.{block_exists, start_exists, blocks_some, blocks_most, entry_exists}
use Rattle.graph.proofs.BuiltRuns.{covers_built, copies_built, none-empty}
use Rattle.graph.proofs.BuiltEdges.{edge_ends}
use Rattle.graph.proofs.BuiltSets.{in_sets_law}
use Rattle.graph.proofs.BuiltRegions.{regions_most, handler-count, parents_exist_law, region_blocks_exist_law}
use Rattle.graph.proofs.BuiltReferences.{references_match_law}

limits_met : (m : Image) → Accepted m → build_check m ≡ clear → length (unresolved_of m) ≤ 1024 → length (calls_of m) ≤ 512 → within_limits (held (graph_from m)).counts ≡ true
unfolding within_limits held graph_from
limits_met m accepted clears unresolved calls =
    let table = le-leb (length (table_of m)) 512 (omega (arith, length-entries m.instructions, accepted.instructions_most)) in
    let first = le-leb 1 (length (blocks_of m)) (blocks_some m) in
    let blocks = le-leb (length (blocks_of m)) 1024 (omega (arith, blocks_most m accepted.instructions_most)) in
    let edges = le-leb (length (edges_of m)) 4096 (edges_few m (result_clear m clears)) in
    let regions = le-leb (length (regions_of m)) 32 (regions_most m accepted.handlers_most) in
    let handlers = le-leb (length (handlers_of m)) 32 (omega (arith, handler-count m, accepted.handlers_most)) in
    rw (table, first, blocks, edges, regions, handlers, le-leb (length (unresolved_of m)) 1024 unresolved, le-leb (length (calls_of m)) 512 calls)

pub graph_passes : (m : Image) → Accepted m → build_check m ≡ clear → length (unresolved_of m) ≤ 1024 → length (calls_of m) ≤ 512 → well_formed (held (graph_from m)) ≡ true
unfolding held graph_from
graph_passes m accepted clears unresolved calls =
    stands_so (held (graph_from m))
    record {
      limits = limits_met m accepted clears unresolved calls;
      table = table-passes m clears;
      entry = entry_exists m clears;
      edges = edge_ends m accepted clears;
      regions = region_blocks_exist_law m (block_exists m) (start_exists m) (parts m (input_clear m clears)).handlers;
      parents = parents_exist_law m;
      references = references_match_law m;
      sets = in_sets_law m accepted clears;
      covers = covers_built m;
      copies = copies_built m;
      runs = none-empty m;
    }
