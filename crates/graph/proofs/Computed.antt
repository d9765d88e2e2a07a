-- A build with all its definitions open, for tests that compute: whoever unfolds `computed` unfolds them.
use mathlib.Core.Path.{◌≡◌, refl}
use mathlib.Core.List.{zip_with}
use Rattle.image.specs.Image.{Image, table}
use Rattle.image.specs.Deal.{deal, cases_of, given_of, step_of, end_of, paths_of, routes_of}
use Rattle.graph.specs.Fold.{flat, some, checks, count, among, check_each}
use Rattle.graph.specs.Table.{entry_at, is_start, below, code_end_of, range_check}
use Rattle.graph.specs.Flow.{slots, slots_of, kind_of, falls_through, unresolved_role, is_call, flow_under}
use Rattle.graph.specs.Transfer.{table_entry, entries_of, instruction_at, flow_at, slot_transfer, cases_at, transfer_at, slot_count, source_at, is_given, given_at, ends_at}
use Rattle.graph.specs.Route.{funclets, resumes_late, entries, route_check}
use Rattle.graph.specs.Leaders.{entry_mark, goes_on, sequence_mark, leads_to, flow_mark, exceptional_mark, range_mark, handler_at, handler_mark, routes, route_mark, ends_funclet, is_leader}
use Rattle.graph.specs.Blocks.{is_terminator, first_of, block_of, block_at, blocks_of, entry_of}
use Rattle.graph.specs.Edges.{resolved, transfer_edges, transfer_unresolved, given_edge, edges_at, unresolved_at, normal_edges, unresolved_of, range_first, range_size, unwind_edges, exception_edges, edges_of, call_at, calls_of}
use Rattle.graph.specs.Regions.{same_range, is_draft, span, place, drafts_below, drafts, contains, smaller, parent_below, set_below, region_at, regions_of, region_in, handler_record, handlers_of}
use Rattle.graph.specs.BlockSet.{including}
use Rattle.graph.specs.Build.{Outcome, order_check, instruction_check, table_check, entry_check, source_check, given_mode, given_check, handler_check, continues, continuation_check, input_check, result_check, build_check, graph_from, build_of}

unfoldable pub computed : Image → Outcome
unfolding zip_with
    table deal cases_of given_of step_of end_of paths_of routes_of flat some checks count among check_each entry_at is_start
    below code_end_of range_check slots slots_of kind_of falls_through unresolved_role is_call flow_under table_entry entries_of
    instruction_at flow_at slot_transfer cases_at transfer_at slot_count source_at is_given given_at ends_at
    funclets resumes_late entries route_check entry_mark goes_on sequence_mark leads_to flow_mark exceptional_mark range_mark
    handler_at handler_mark routes route_mark ends_funclet is_leader is_terminator first_of block_of block_at blocks_of entry_of
    resolved transfer_edges transfer_unresolved given_edge edges_at unresolved_at normal_edges unresolved_of range_first
    range_size unwind_edges exception_edges edges_of call_at calls_of same_range is_draft span place drafts_below drafts
    contains smaller parent_below including set_below region_at regions_of region_in handler_record handlers_of order_check
    instruction_check table_check entry_check source_check given_mode given_check handler_check continues continuation_check
    input_check result_check build_check graph_from build_of
computed m = build_of m

pub computed_is : (m : Image) → computed m ≡ build_of m
unfolding computed
computed_is m = refl
