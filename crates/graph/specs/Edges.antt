-- The edges of a built graph, its unresolved records and its flattened calls. `edges.rs`.
use Rattle.std.specs.Prelude.{Bool, cond, ◌&&◌, ◌||◌, List, [], ◌∷◌, ◌++◌, ℕ, ◌+◌, ◌-◌, eqb, length}
use Rattle.image.specs.Image.{Image}
use Rattle.image.specs.declared.record.GivenEdge.{GivenEdge}
use Rattle.graph.specs.declared.record.Edge.{Edge}
use Rattle.graph.specs.declared.record.UnresolvedTransfer.{UnresolvedTransfer}
use Rattle.graph.specs.declared.record.CallSite.{CallSite}
use Rattle.graph.specs.Fold.{flat}
use Rattle.graph.specs.Table.{is_start, below}
use Rattle.graph.specs.Flow.{Flow, Role, From, kind_of, falls_through, unresolved_role, is_call}
use Rattle.graph.specs.Transfer.{word, table_of, size, instruction_at, address_at, Transfer, has_target, transfer_at, slot_count, is_given, given_at, given}
use Rattle.graph.specs.Leaders.{handler_at}
use Rattle.graph.specs.Blocks.{is_terminator, block_of, block_at}

-- a transfer is resolved where its target is an instruction start
unfoldable pub resolved : Image → Transfer → Bool
resolved m x = has_target x && is_start (table_of m) x.target

-- the edge of a resolved transfer of the instruction at p, with its `AddressEdgeInfo`
unfoldable pub transfer_edges : Image → ℕ → Transfer → List Edge
transfer_edges m p x =
    let e : Edge =
    record {
      source = block_of m p;
      target = block_at m x.target;
      kind = kind_of x.role;
      role = x.role;
      number = x.number;
      key = x.key;
      source_address = address_at m p;
      target_address = x.target;
    } in
    cond (resolved m x) (e ∷ []) []

-- 'a fall-through .. to no instruction start adds neither edge nor unresolved record'
unfoldable pub transfer_unresolved : Image → ℕ → Transfer → List UnresolvedTransfer
transfer_unresolved m p x =
    cond (eqb x.from From.nowhere || falls_through x.role || resolved m x) []
    (record { source = address_at m p; target = x.target; role = unresolved_role x.role (has_target x); case_index = x.number } ∷ [])

-- 'the number is the given edge's payload'; it has no `AddressEdgeInfo`
unfoldable pub given_edge : Image → ℕ → GivenEdge → Edge
given_edge m p g =
    record {
      source = block_of m p;
      target = block_at m g.target;
      kind = g.kind;
      role = Role.given;
      number = g.payload;
      key = 0;
      source_address = 0;
      target_address = 0;
    }

-- what the instruction at p gives where it ends a block
unfoldable pub edges_at : Image → ℕ → List Edge
edges_at m p =
    cond (is_given m p) (flat (λ k. given_edge m p (given m p k) ∷ []) (length (given_at m p)))
    (flat (λ k. transfer_edges m p (transfer_at m p k)) (slot_count m p))

unfoldable pub unresolved_at : Image → ℕ → List UnresolvedTransfer
unresolved_at m p = cond (is_given m p) [] (flat (λ k. transfer_unresolved m p (transfer_at m p k)) (slot_count m p))

unfoldable pub normal_edges : Image → List Edge
normal_edges m = flat (λ p. cond (is_terminator m p) (edges_at m p) []) (size m)

unfoldable pub unresolved_of : Image → List UnresolvedTransfer
unresolved_of m = flat (λ p. cond (is_terminator m p) (unresolved_at m p) []) (size m)

-- the positions that handler h protects: the first, and how many
unfoldable pub range_first : Image → ℕ → ℕ
range_first m h = below (table_of m) (handler_at m h).start

unfoldable pub range_size : Image → ℕ → ℕ
range_size m h = below (table_of m) (handler_at m h).end - range_first m h

-- 'Exception edges of handlers are added only in mode 0', from each protected instruction that keeps its own: it leads its
-- block
unfoldable pub unwind_edges : Image → ℕ → ℕ → List Edge
unwind_edges m h p =
    cond (instruction_at m p).keeps
    (transfer_edges m p (record { role = Role.unwind; from = From.named; target = (handler_at m h).entry; number = h; key = 0 })) []

unfoldable pub exception_edges : Image → List Edge
exception_edges m =
    cond (eqb m.header.mode 0) (flat (λ h. flat (λ i. unwind_edges m h (range_first m h + i)) (range_size m h)) (length m.handlers)) []

unfoldable pub edges_of : Image → List Edge
edges_of m = normal_edges m ++ exception_edges m

-- 'Under Flatten a call counts as Next and is recorded in calls.'
unfoldable pub call_at : Image → ℕ → List CallSite
call_at m p =
    let i = instruction_at m p in
    cond (is_call i.flow) (record { source = i.address; has_target = word (eqb i.flow Flow.call); target = i.target } ∷ []) []

unfoldable pub calls_of : Image → List CallSite
calls_of m = cond (eqb m.header.calls 1) (flat (call_at m) (size m)) []
