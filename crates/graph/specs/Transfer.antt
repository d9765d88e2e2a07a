-- The instruction at a position of the table: its transfers, slot by slot, or the edges that are given for it.
use Rattle.std.specs.Prelude.{Bool, cond, not, ◌||◌, List, [], map, ℕ, zero, suc, eqb, leb, length, get_or}
use Rattle.image.specs.Image.{Image}
use Rattle.image.specs.Record.{instruction_from, case_from, source_from, edge_from}
use Rattle.image.specs.Deal.{cases_of, given_of}
use Rattle.image.specs.declared.record.Instruction.{Instruction}
use Rattle.image.specs.declared.record.Case.{Case}
use Rattle.image.specs.declared.record.GivenSource.{GivenSource}
use Rattle.image.specs.declared.record.GivenEdge.{GivenEdge}
use Rattle.graph.specs.declared.record.TableEntry.{TableEntry}
use Rattle.graph.specs.Fold.{flat, some}
use Rattle.graph.specs.Flow.{Flow, Role, From, Slot, slots_of, flow_under}

abbrev pub word : Bool → ℕ
word b = cond b 1 0

-- the instruction table, as the graph keeps it
unfoldable pub table_entry : Instruction → TableEntry
table_entry i = record { address = i.address; end = i.end; has_end = word i.has_end; keeps = word i.keeps; flow = i.flow }

unfoldable pub entries_of : List Instruction → List TableEntry
entries_of is = map table_entry is

abbrev pub table_of : Image → List TableEntry
table_of m = entries_of m.instructions

abbrev pub size : Image → ℕ
size m = length m.instructions

unfoldable pub instruction_at : Image → ℕ → Instruction
instruction_at m p = get_or m.instructions p (instruction_from [] 0)

abbrev pub address_at : Image → ℕ → ℕ
address_at m p = (instruction_at m p).address

-- the flow under the image's call policy
unfoldable pub flow_at : Image → ℕ → ℕ
flow_at m p = flow_under m.header.calls (instruction_at m p).flow

-- A transfer, or none where `from` is nowhere. Its number is what the role carries: 'the case index, call site, handler
-- or route .., else 0'.
pub record Transfer : Type 0 where
  pub role : ℕ
  pub from : ℕ
  pub target : ℕ
  pub number : ℕ
  pub key : ℕ

abbrev pub has_target : Transfer → Bool
has_target x = leb From.named x.from

unfoldable pub slot_transfer : Instruction → Slot → Transfer
slot_transfer i s =
    record {
      role = s.role;
      from = s.from;
      target = cond (eqb s.from From.named) i.target (cond (eqb s.from From.end) i.end 0);
      number = cond (eqb s.role Role.call_continuation) i.address 0;
      key = 0;
    }

-- 'switch cases beyond slot 0 computed'
unfoldable pub cases_at : Image → ℕ → List Case
cases_at m p = get_or (cases_of m) p []

abbrev pub case_transfer : Case → ℕ → Transfer
case_transfer c k = record { role = Role.switch_case; from = From.named; target = c.target; number = k; key = c.key }

unfoldable pub transfer_at : Image → ℕ → ℕ → Transfer
transfer_at m p zero = slot_transfer (instruction_at m p) (slots_of (flow_at m p)).0
transfer_at m p (suc k) =
    cond (eqb (flow_at m p) Flow.switch) (case_transfer (get_or (cases_at m p) k (case_from [] 0)) k)
    (slot_transfer (instruction_at m p) (slots_of (flow_at m p)).1)

unfoldable pub slot_count : Image → ℕ → ℕ
slot_count m p = cond (eqb (flow_at m p) Flow.switch) (suc (length (cases_at m p))) 2

-- 'In given mode a given source replaces its flow's transfers.' The other modes have none.
unfoldable pub source_at : Image → ℕ → GivenSource
source_at m s = get_or m.sources s (source_from [] 0)

unfoldable pub is_given : Image → ℕ → Bool
is_given m p = some (λ s. eqb (source_at m s).address (address_at m p)) (length m.sources)

unfoldable pub given_at : Image → ℕ → List GivenEdge
given_at m p = flat (λ s. cond (eqb (source_at m s).address (address_at m p)) (get_or (given_of m) s []) []) (length m.sources)

abbrev pub given : Image → ℕ → ℕ → GivenEdge
given m p k = get_or (given_at m p) k (edge_from [] 0)

-- It ends its block: by its flow under the policy, or 'A given source with no edges still ends its block.'
unfoldable pub ends_at : Image → ℕ → Bool
ends_at m p = is_given m p || not (eqb (flow_at m p) Flow.next)
