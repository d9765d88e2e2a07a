-- Marks: what each leader collector adds to those it is lent, and what has passed before the first of them.
use Rattle.std.specs.Prelude.{Bool, false, cond, ◌&&◌, ◌||◌, ◌≡◌, List, [], ℕ, suc, ◌+◌, ◌<◌, eqb, ltb, length, get_or}
use Rattle.image.specs.Refusal.{clear}
use Rattle.image.specs.Image.{Image}
use Rattle.image.specs.Record.{case_from, edge_from, path_from, step_from}
use Rattle.image.specs.declared.record.Instruction.{Instruction}
use Rattle.graph.specs.declared.record.TableEntry.{TableEntry}
use Rattle.graph.specs.Fold.{some, checks}
use Rattle.graph.specs.Table.{entry_at}
use Rattle.graph.specs.Flow.{Flow, From, Slot, slots_of, flow_under}
use Rattle.graph.specs.Transfer.{table_of, size, instruction_at, address_at, is_given, given_at, ends_at}
use Rattle.graph.specs.Route.{route_at, route_check}
use Rattle.graph.specs.Leaders.{gap_mark, sequence_mark, end_mark, flow_mark, exceptional_mark, range_mark, routes, ends_funclet, is_leader}
use Rattle.graph.specs.Build.{table_check, handler_check}
use Rattle.builder.specs.Cursor.{Sourced, cases_before, edges_before}

-- r has the marks of l and those of f, at each position below n
pub record Marked (n : ℕ) (f : ℕ → Bool) (l r : List Bool) : Type 0 where
  pub at : (p : ℕ) → p < n → get_or r p false ≡ (get_or l p false || f p)

-- the instruction at p starts at a
abbrev pub start_mark : List TableEntry → ℕ → ℕ → Bool
start_mark t a p = eqb (entry_at t p).address a

-- the targets that a slot, the cases and the given edges of an instruction name
abbrev pub slot_mark : Image → Instruction → Slot → ℕ → Bool
slot_mark m i x p = eqb x.from From.named && eqb i.target (address_at m p)

abbrev pub case_target : Image → ℕ → ℕ → Bool
case_target m k p = eqb (get_or m.cases k (case_from [] 0)).target (address_at m p)

unfoldable pub case_mark : Image → ℕ → ℕ → ℕ → Bool
case_mark m first n p = some (λ k. case_target m (first + k) p) n

abbrev pub edge_target : Image → ℕ → ℕ → Bool
edge_target m k p = eqb (get_or m.edges k (edge_from [] 0)).target (address_at m p)

unfoldable pub edge_mark : Image → ℕ → ℕ → ℕ → Bool
edge_mark m first n p = some (λ k. edge_target m (first + k) p) n

abbrev pub switch_cases : ℕ → Instruction → ℕ
switch_cases flow i = cond (eqb flow Flow.switch) i.cases 0

-- what an instruction names whose cases stand from `first` on: a second slot names nothing
unfoldable pub names_mark : Image → ℕ → Instruction → ℕ → Bool
names_mark m first i p =
    let flow = flow_under m.header.calls i.flow in
    slot_mark m i (slots_of flow).0 p || case_mark m first (switch_cases flow i) p

-- what the instruction at q names, and the next one, if it ends its block. The start at its end is not among them: it is
-- the next one, or else a gap or overlap marks it.
unfoldable pub lead_mark : Image → ℕ → ℕ → Bool
lead_mark m q p =
    let named = cond (is_given m q) (edge_mark m (edges_before m q) (length (given_at m q)) p) (names_mark m (cases_before m q) (instruction_at m q) p) in
    ends_at m q && (named || eqb p (suc q))

-- with any route, a funclet may end at q
abbrev pub funclet_end : Image → ℕ → Bool
funclet_end m q = ltb 0 (length (routes m)) && ends_funclet m q

-- the marks of the instruction at q, and of all instructions
abbrev pub visit_mark : Image → ℕ → ℕ → Bool
visit_mark m q p = gap_mark m q p || end_mark m q p || (exceptional_mark m q && eqb p q) || (funclet_end m q && eqb p q)

abbrev pub instruction_mark : Image → ℕ → Bool
instruction_mark m p = sequence_mark m p || flow_mark m p || exceptional_mark m p || funclet_end m p

-- what the routes protect, and their entries: the funclet of each step, and the handler of each path
abbrev pub route_range : Image → ℕ → ℕ → Bool
route_range m r p = range_mark m (route_at (routes m) r).start (route_at (routes m) r).end p

unfoldable pub route_range_mark : Image → ℕ → Bool
route_range_mark m p = some (λ r. route_range m r p) (length (routes m))

abbrev pub step_mark : Image → ℕ → ℕ → Bool
step_mark m k p = let x = get_or m.routes.steps k (step_from [] 0) in eqb x.code 0 && eqb (address_at m p) x.value

unfoldable pub funclet_mark : Image → ℕ → Bool
funclet_mark m p = some (λ k. step_mark m k p) (length m.routes.steps)

abbrev pub path_mark : Image → ℕ → ℕ → Bool
path_mark m k p = let x = get_or m.routes.paths k (path_from [] 0) in eqb x.end 0 && eqb (address_at m p) x.handler

unfoldable pub path_end_mark : Image → ℕ → Bool
path_end_mark m p = some (λ k. path_mark m k p) (length m.routes.paths)

-- refusals 1 to 15 have passed, but for 6, 8 and 9
pub record Passed (m : Image) : Type 0 where
  pub sourced : Sourced m
  pub table : table_check (table_of m) ≡ clear
  pub handlers : checks (handler_check m) (length m.handlers) ≡ clear
  pub routed : checks (route_check (table_of m) (routes m)) (length (routes m)) ≡ clear

-- the leaders' marks
abbrev pub Leading : Image → List Bool → Type 0
Leading m r = (p : ℕ) → p < size m → get_or r p false ≡ is_leader m p
