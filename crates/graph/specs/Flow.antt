-- Flows, kinds and roles by their numbers, and the table of transfers: `transfer.rs`.
use Rattle.std.specs.Prelude.{Bool, cond, ◌&&◌, ◌||◌, List, [], ◌∷◌, ℕ, eqb, get_or}

-- 'Flow is 0 to 12 in the order of `Flow`.'
abbrev pub Flow : record { next : ℕ; return : ℕ; throw : ℕ; indirect : ℕ; conditional_indirect : ℕ; indirect_call : ℕ; jump : ℕ; conditional : ℕ; call : ℕ; exceptional : ℕ; trap : ℕ; conditional_trap : ℕ; switch : ℕ }
Flow = record { next = 0; return = 1; throw = 2; indirect = 3; conditional_indirect = 4; indirect_call = 5; jump = 6; conditional = 7; call = 8; exceptional = 9; trap = 10; conditional_trap = 11; switch = 12 }

-- 'Edge kinds: 0 Fallthrough, 1 ConditionalTrue, 2 ConditionalFalse, 3 Jump, 4 SwitchCase, 5 Call, 6 CallReturn,
-- 7 ExceptionUnwind.'
abbrev pub Kind : record { fallthrough : ℕ; conditional_true : ℕ; conditional_false : ℕ; jump : ℕ; switch_case : ℕ; call : ℕ; call_return : ℕ; exception_unwind : ℕ }
Kind = record { fallthrough = 0; conditional_true = 1; conditional_false = 2; jump = 3; switch_case = 4; call = 5; call_return = 6; exception_unwind = 7 }

-- 'Edge roles count from 0 in `EdgeRole`'s order, 11 is given'
abbrev pub Role : record { sequential : ℕ; conditional_taken : ℕ; conditional_fall_through : ℕ; jump : ℕ; switch_default : ℕ; switch_case : ℕ; call : ℕ; call_continuation : ℕ; exceptional : ℕ; unwind : ℕ; route : ℕ; given : ℕ }
Role = record { sequential = 0; conditional_taken = 1; conditional_fall_through = 2; jump = 3; switch_default = 4; switch_case = 5; call = 6; call_continuation = 7; exceptional = 8; unwind = 9; route = 10; given = 11 }

-- 'Unresolved roles count in `UnresolvedRole`'s order.'
abbrev pub Unresolved : record { indirect : ℕ; indirect_call : ℕ; conditional_taken : ℕ; conditional_indirect : ℕ; jump : ℕ; switch_default : ℕ; switch_case : ℕ; call : ℕ; exceptional : ℕ; trap : ℕ }
Unresolved = record { indirect = 0; indirect_call = 1; conditional_taken = 2; conditional_indirect = 3; jump = 4; switch_default = 5; switch_case = 6; call = 7; exceptional = 8; trap = 9 }

-- 'Handler kind, path end and step code count from 0 in their enums' order'
abbrev pub HandlerKind : record { catch : ℕ; catch_all : ℕ; finally : ℕ; fault : ℕ; filter : ℕ }
HandlerKind = record { catch = 0; catch_all = 1; finally = 2; fault = 3; filter = 4 }

-- Where the target of a slot comes from: an empty slot makes no transfer, and a computed transfer has no target; else it
-- is the one that the instruction names, or its end.
abbrev pub From : record { nowhere : ℕ; computed : ℕ; named : ℕ; end : ℕ }
From = record { nowhere = 0; computed = 1; named = 2; end = 3 }

pub record Slot : Type 0 where
  pub role : ℕ
  pub from : ℕ

abbrev pub slot : ℕ → ℕ → Slot
slot r f = record { role = r; from = f }

abbrev pub empty : Slot
empty = slot 0 From.nowhere

-- 'The transfers of each flow stand in a constant table': two slots a flow. A Switch has its cases after slot 0.
unfoldable pub slots : List (Slot × Slot)
slots =
    (slot Role.sequential From.end, empty) ∷  -- Next
    (empty, empty) ∷  -- Return
    (empty, empty) ∷  -- Throw
    (slot Role.jump From.computed, empty) ∷  -- Indirect
    (slot Role.conditional_taken From.computed, slot Role.conditional_fall_through From.end) ∷  -- ConditionalIndirect
    (slot Role.call From.computed, slot Role.call_continuation From.end) ∷  -- IndirectCall
    (slot Role.jump From.named, empty) ∷  -- Jump
    (slot Role.conditional_taken From.named, slot Role.conditional_fall_through From.end) ∷  -- Conditional
    (slot Role.call From.named, slot Role.call_continuation From.end) ∷  -- Call
    (slot Role.exceptional From.named, slot Role.sequential From.end) ∷  -- Exceptional
    (slot Role.exceptional From.computed, empty) ∷  -- Trap
    (slot Role.exceptional From.computed, slot Role.sequential From.end) ∷  -- ConditionalTrap
    (slot Role.switch_default From.named, empty) ∷  -- Switch
    []

unfoldable pub slots_of : ℕ → Slot × Slot
slots_of flow = get_or slots flow (empty, empty)

-- `EdgeRole::kind`
unfoldable pub kind_of : ℕ → ℕ
kind_of role =
    get_or (Kind.fallthrough ∷ Kind.conditional_true ∷ Kind.conditional_false ∷ Kind.jump ∷ Kind.switch_case ∷ Kind.switch_case ∷ Kind.call ∷ Kind.call_return ∷ []) role
    Kind.exception_unwind

-- 'a fall-through (sequential, conditional or after a call)'
unfoldable pub falls_through : ℕ → Bool
falls_through role = eqb role Role.sequential || eqb role Role.conditional_fall_through || eqb role Role.call_continuation

-- `Transfer::unresolved_role`, of a computed transfer and of one with a target, for a role that does not fall through
unfoldable pub unresolved_role : ℕ → Bool → ℕ
unresolved_role role target =
    cond (eqb role Role.conditional_taken) (cond target Unresolved.conditional_taken Unresolved.conditional_indirect)
    (cond (eqb role Role.jump) (cond target Unresolved.jump Unresolved.indirect)
    (cond (eqb role Role.switch_default) Unresolved.switch_default
    (cond (eqb role Role.switch_case) Unresolved.switch_case
    (cond (eqb role Role.call) (cond target Unresolved.call Unresolved.indirect_call)
    (cond target Unresolved.exceptional Unresolved.trap)))))

unfoldable pub is_call : ℕ → Bool
is_call flow = eqb flow Flow.call || eqb flow Flow.indirect_call

-- 'calls (0 Edges, 1 Flatten)'; 'Under Flatten a call counts as Next'
unfoldable pub flow_under : ℕ → ℕ → ℕ
flow_under calls flow = cond (eqb calls 1 && is_call flow) Flow.next flow
