-- Rule 21, 'the graph is none, unless all of this holds': each definition is a phrase of it.
use Rattle.std.specs.Prelude.{Bool, true, false, cond, not, ◌&&◌, ◌||◌, List, ◌≡◌, ℕ, suc, ◌-◌, ◌*◌, ◌^◌, ◌≤◌, ◌<◌, eqb, ltb, leb, length, get_or}
use Rattle.image.specs.Refusal.{Check, clear, refused}
use Rattle.graph.specs.Graph.{Graph, Counts, Held, block, edge, region, handler, unresolved_transfer, call_site}
use Rattle.graph.specs.Fold.{some, all, sum}
use Rattle.graph.specs.Table.{entry_at}
use Rattle.graph.specs.Build.{table_check}

-- 'an instruction table of at most 512'; '1 to 1,024 blocks and at most 4,096 edges; at most 32 regions, 32 handlers, 1,024
-- unresolved records and 512 calls'
unfoldable pub within_limits : Counts → Bool
within_limits c =
    leb c.table 512
    && leb 1 c.blocks
    && leb c.blocks 1024
    && leb c.edges 4096
    && leb c.regions 32
    && leb c.handlers 32
    && leb c.unresolved 1024
    && leb c.calls 512

-- 'that passes 3 to 5'
abbrev pub passes : Check → Bool
passes clear = true
passes (refused r) = false

-- 'entry, edge ends and the blocks and parents of regions exist': of the blocks of regions the protected ones and the
-- handlers' entries, and not a filter's
unfoldable pub is_block : Graph → ℕ → Bool
is_block g b = ltb b (length g.blocks)

unfoldable pub edge_ends_exist : Graph → Bool
edge_ends_exist g = all (λ e. is_block g (edge g e).source && is_block g (edge g e).target) (length g.edges)

-- no word of a set has a bit for block n or one after it
unfoldable pub within : ℕ → List ℕ → Bool
within n s = all (λ w. ltb (get_or s w 0) (2 ^ (n - 64 * w))) 16

unfoldable pub region_blocks_exist : Graph → Bool
region_blocks_exist g =
    all (λ r. within (length g.blocks) (region g r).protected) (length g.regions)
    && all (λ h. is_block g (handler g h).entry) (length g.handlers)

unfoldable pub parents_exist : Graph → Bool
parents_exist g = all (λ r. eqb (region g r).has_parent 0 || ltb (region g r).parent (length g.regions)) (length g.regions)

-- 'each handler reference names a region's handler, and each such handler has exactly one': no two name the same, and there
-- are as many as handlers
unfoldable pub names_handler : Graph → ℕ → Bool
names_handler g h = ltb (handler g h).region (length g.regions) && ltb (handler g h).place (region g (handler g h).region).handlers

unfoldable pub same_reference : Graph → ℕ → ℕ → Bool
same_reference g i h = eqb (handler g i).region (handler g h).region && eqb (handler g i).place (handler g h).place

unfoldable pub references_match : Graph → Bool
references_match g =
    all (names_handler g) (length g.handlers)
    && all (λ h. not (some (λ i. same_reference g i h) h)) (length g.handlers)
    && eqb (sum (λ r. (region g r).handlers) (length g.regions)) (length g.handlers)

-- 'flows, kinds and roles are in their sets', and flags are 0 or 1
unfoldable pub in_sets : Graph → Bool
in_sets g =
    all (λ p. leb (entry_at g.table p).flow 12 && leb (entry_at g.table p).keeps 1) (length g.table)
    && all (λ e. leb (edge g e).kind 7 && leb (edge g e).role 11) (length g.edges)
    && all (λ r. leb (region g r).has_parent 1) (length g.regions)
    && all (λ h. leb (handler g h).kind 4) (length g.handlers)
    && all (λ u. leb (unresolved_transfer g u).role 9) (length g.unresolved)
    && all (λ c. leb (call_site g c).has_target 1) (length g.calls)

-- 'built blocks cover the table in order': each begins where the runs before it end, until the table is full
unfoldable pub filled : Graph → ℕ → ℕ
filled g b = sum (λ a. (block g a).count) b

unfoldable pub is_built : Graph → ℕ → Bool
is_built g b = eqb b 0 || ltb (filled g b) (length g.table)

-- the first n of the blocks are the built ones
abbrev pub Built : Graph → ℕ → Type 0
Built g n = (n ≤ length g.blocks) × ((b : ℕ) → b < length g.blocks → is_built g b ≡ ltb b n)

unfoldable pub covers_table : Graph → Bool
covers_table g =
    all (λ b. not (is_built g b) || (eqb (block g b).first (filled g b) && leb (filled g (suc b)) (length g.table))) (length g.blocks)
    && leb (length g.table) (filled g (length g.blocks))

-- 'copies follow and repeat a built run'
unfoldable pub repeats : Graph → ℕ → ℕ → Bool
repeats g b a = is_built g a && eqb (block g a).first (block g b).first && eqb (block g a).count (block g b).count

unfoldable pub copies_repeat : Graph → Bool
copies_repeat g = all (λ b. is_built g b || some (repeats g b) (length g.blocks)) (length g.blocks)

-- 'only an empty table's block is empty'
unfoldable pub none_empty : Graph → Bool
none_empty g =
    cond (eqb (length g.table) 0) (eqb (length g.blocks) 1) (all (λ b. ltb 0 (block g b).count) (length g.blocks))

unfoldable pub well_formed : Held → Bool
well_formed h =
    let g = h.graph in
    within_limits h.counts
    && passes (table_check g.table)
    && is_block g g.entry
    && edge_ends_exist g
    && region_blocks_exist g
    && parents_exist g
    && references_match g
    && in_sets g
    && covers_table g
    && copies_repeat g
    && none_empty g
