-- Charts, computed.
--     image, example     the one of document 01: the chart of the image's build is the text that stands there
--     each_kind          records of every kind, with what may be absent there and absent
--     each_hop           hops to a block and out of the function, with tags and without
-- Assumes nothing.
use mathlib.Core.Path.{◌≡◌, refl, ap, ◌∙◌, sym}
use mathlib.Core.Bool.{true, false}
use mathlib.Core.List.{List, [], ◌∷◌, map}
use Prim.Native.Nat.{ℕ}
use lib.ListN.{replicate}
use Rattle.image.specs.Image.{Image, table}
use Rattle.image.specs.declared.record.Instruction.{Instruction}
use Rattle.graph.specs.Flow.{Flow}
use Rattle.graph.specs.Graph.{Graph}
use Rattle.graph.specs.Build.{build_of}
use Rattle.graph.specs.Table.{entry_at}
use Rattle.graph.specs.Reached.{along, rounds, reached_blocks}
use Rattle.graph.specs.Fold.{flat, among}
use Rattle.graph.proofs.Computed.{computed, computed_is}
use Rattle.text.specs.Line.{bytes, digits_of, decimal, field, line}
use Rattle.addition.specs.Lists.{joined}
use Rattle.addition.specs.Ways.{HopEnd}
use Rattle.text.specs.Chart.{built_line, block_line, edge_line, region_line, handler_line, computes, unresolved_line, call_line, graph_lines, end_field, tag_fields, hop_line, hop_lines, reached_line, refused_line, chart_lines, chart_of}

abbrev op : ℕ → ℕ → ℕ → ℕ → Instruction
op from to flow target = record { address = from; end = to; has_end = true; keeps = false; flow = flow; target = target; cases = 0 }

-- 'Image: mode 0, Edges, no entry; 100 to 102 Conditional 106; 102 to 106 Next; 106 to 108 Return'
pub image : Image
image =
    record {
      header = record { mode = 0; calls = 0; has_entry = false; entry = 0 };
      instructions = op 100 102 Flow.conditional 106 ∷ op 102 106 Flow.next 0 ∷ op 106 108 Flow.return 0 ∷ [];
      cases = [];
      sources = [];
      edges = [];
      handlers = [];
      routes = record { routes = []; paths = []; steps = [] };
    }

pub text : List (List ℕ)
text =
    map bytes
    ("built 3 3 0 0 0\n" ∷
    "block 0 100 1\n" ∷
    "block 1 102 1\n" ∷
    "block 2 106 1\n" ∷
    "edge 0 0 2 1 1 0\n" ∷
    "edge 1 0 1 2 2 0\n" ∷
    "edge 2 1 2 0 0 0\n" ∷
    "reached 3\n" ∷
    [])

computed_example : chart_of (computed image) ≡ text
unfolding image text computed bytes digits_of decimal field line table entry_at along rounds reached_blocks flat among
    built_line block_line edge_line region_line handler_line computes unresolved_line call_line graph_lines joined hop_lines reached_line refused_line chart_lines chart_of
computed_example = refl

pub example : chart_of (build_of image) ≡ text
example = ap chart_of (sym (computed_is image)) ∙ computed_example

-- ---- records of every kind

pub records : Graph
records =
    record {
      entry = 0;
      table = record { address = 700; end = 701; has_end = 1; keeps = 0; flow = 0 } ∷ record { address = 18446744073709551614; end = 18446744073709551615; has_end = 1; keeps = 0; flow = 0 } ∷ [];
      blocks = record { first = 1; count = 1 } ∷ record { first = 0; count = 0 } ∷ [];
      edges = record { source = 10; target = 11; kind = 7; role = 11; number = 70000; key = 1; source_address = 2; target_address = 3 } ∷ [];
      regions = record { has_parent = 0; parent = 0; start = 20; end = 21; handlers = 2; protected = replicate 16 0 } ∷ record { has_parent = 1; parent = 0; start = 22; end = 23; handlers = 0; protected = replicate 16 0 } ∷ [];
      handlers = record { region = 30; place = 31; entry = 32; kind = 4; filter = 0 } ∷ record { region = 33; place = 34; entry = 35; kind = 0; filter = 0 } ∷ [];
      unresolved = record { source = 40; target = 41; role = 6; case_index = 42 } ∷ record { source = 43; target = 0; role = 9; case_index = 0 } ∷ record { source = 44; target = 45; role = 8; case_index = 0 } ∷ [];
      calls = record { source = 50; has_target = 1; target = 51 } ∷ record { source = 52; has_target = 0; target = 0 } ∷ [];
    }

pub each_kind : graph_lines records ≡
    map bytes
    ("built 2 1 2 3 2\n" ∷
    "block 0 18446744073709551614 1\n" ∷
    "block 1 - 0\n" ∷
    "edge 0 10 11 7 11 70000\n" ∷
    "region 0 - 20 21\n" ∷
    "region 1 0 22 23\n" ∷
    "handler 0 30 31 32 4 0\n" ∷
    "handler 1 33 34 35 0 -\n" ∷
    "unresolved 40 41 6 42\n" ∷
    "unresolved 43 - 9 -\n" ∷
    "unresolved 44 45 8 -\n" ∷
    "call 50 51\n" ∷
    "call 52 -\n" ∷
    [])
unfolding records bytes digits_of decimal field line table entry_at
    built_line block_line edge_line region_line handler_line computes unresolved_line call_line graph_lines
each_kind = refl

pub each_hop : hop_lines
    (record { source = 3; end = HopEnd.block 12; calls = [] ∷ (7 ∷ 4294967295 ∷ []) ∷ [] } ∷
    record { source = 3; end = HopEnd.leave; calls = (0 ∷ []) ∷ [] } ∷
    [])
    ≡
    map bytes ("hop 3 12 -\n" ∷ "hop 3 12 7 4294967295\n" ∷ "hop 3 leave 0\n" ∷ [])
unfolding bytes digits_of decimal field line joined end_field tag_fields hop_line hop_lines
each_hop = refl
