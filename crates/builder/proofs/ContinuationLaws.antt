-- The check of 16, as the code makes it.
--     not_continued                in the other modes nothing is refused
--     ends_is                      the last instruction of a block, by the leaders' marks
--     inside_clear, given_clear    nothing is refused within a block, nor where edges are given
--     end_checked                  else the flow is Next or a call (9), whose one fall-through leads to the instruction's end
-- Assumes nothing.
use mathlib.Core.Bool.{Bool, true, false, cond, ◌&&◌, ◌||◌, false≢true}
use mathlib.Core.Path.{◌≡◌, refl, sym, ap, ◌∙◌}
use mathlib.Core.List.{List}
use Prim.Native.Nat.{ℕ, ◌+◌, ◌<◌}
use native.Mathlib.Omega.{arith}
use borrow.Author.Tests.{eqb-true, eq-eqb, ne_eqb}
use lib.Dec.{eqb}
use lib.ListN.{length, get_or}
use Rattle.image.specs.Refusal.{refusal, Check, clear, ◌then◌, unless}
use Rattle.image.specs.Image.{Image}
use Rattle.image.specs.declared.record.Instruction.{Instruction}
use Rattle.image.proofs.Checks.{unless_clear}
use Rattle.graph.specs.Fold.{checks}
use Rattle.graph.specs.Table.{is_start}
use Rattle.graph.specs.Flow.{Flow, slots, slots_of, falls_through, is_call, flow_under}
use Rattle.graph.specs.Transfer.{table_of, size, instruction_at, address_at, flow_at, Transfer, slot_transfer, transfer_at, slot_count, is_given, given_at}
use Rattle.graph.specs.Blocks.{is_terminator}
use Rattle.graph.specs.Edges.{resolved}
use Rattle.graph.specs.Build.{given_mode, given_check, continues, continuation_check}
use Rattle.graph.proofs.CheckLaws.{checks_clear, checks_at}
use Rattle.builder.specs.declared.cursor.Visit.{Visit}
use Rattle.builder.specs.Cursor.{given_for, visit_at}
use Rattle.builder.specs.Marks.{Leading}
use Rattle.std.specs.Option.{is_some}
use Rattle.builder.proofs.EdgeLaws.{terminator_is}
use Rattle.std.proofs.Common.{Some, None}

pub not_continued : (m : Image) → (m.header.mode ≡ 2 → ⊥) → (n : ℕ) → checks (continuation_check m) n ≡ clear
unfolding continuation_check given_mode
not_continued m mode n = checks_clear (continuation_check m) n (λ p hp. rw (ne_eqb m.header.mode 2 mode))

pub ends_told : (m : Image) (marks : List Bool) → Leading m marks → (p : ℕ) → p < size m → {n : ℕ} → n ≡ size m → {b : Bool} → b ≡ (eqb (p + 1) n || get_or marks (p + 1) false) → is_terminator m p ≡ b
ends_told m marks leading p here sized is = sym (is ∙ ap (λ (n : ℕ). eqb (p + 1) n || get_or marks (p + 1) false) sized ∙ terminator_is m p marks leading here)

no_switch : (calls flow : ℕ) → (eqb flow Flow.next || is_call flow) ≡ true → flow_under calls flow ≡ Flow.switch → ⊥
unfolding flow_under is_call
no_switch calls flow goes e = go (eqb calls 1 && is_call flow) e
  where
    go : (b : Bool) → cond b Flow.next flow ≡ Flow.switch → ⊥
    go true e = omega arith
    go false e = false≢true (rw e at goes)

-- the check of a transfer of the instruction at an address
abbrev transfer_check : Image → ℕ → Transfer → Check
transfer_check m a x = unless (continues m x) (refusal 16 a x.target)

-- the check of both slots of a flow, and that of the instruction's end
module _ (m : Image) (i : Instruction) where
  abbrev slots_check : ℕ → Check
  slots_check f = transfer_check m i.address (slot_transfer i (slots_of f).0) then transfer_check m i.address (slot_transfer i (slots_of f).1)

  abbrev end_check : Check
  end_check = unless (is_start (table_of m) i.end) (refusal 16 i.address i.end)

  next_goes : slots_check Flow.next ≡ end_check
  unfolding slots_of slots slot_transfer continues resolved falls_through
  next_goes = go (is_start (table_of m) i.end)
    where
      go : (b : Bool) → (unless b (refusal 16 i.address i.end) then clear) ≡ unless b (refusal 16 i.address i.end)
      go true = refl
      go false = refl

  call_goes : slots_check Flow.call ≡ end_check
  unfolding slots_of slots slot_transfer continues resolved falls_through
  call_goes = refl

  indirect_goes : slots_check Flow.indirect_call ≡ end_check
  unfolding slots_of slots slot_transfer continues resolved falls_through
  indirect_goes = refl

  end_goes : (calls flow : ℕ) → (eqb flow Flow.next || is_call flow) ≡ true → slots_check (flow_under calls flow) ≡ end_check
  unfolding flow_under is_call
  end_goes calls flow goes = under (eqb calls 1 && (eqb flow Flow.call || eqb flow Flow.indirect_call))
    where
      same : (a b c : Bool) → eqb flow Flow.next ≡ a → eqb flow Flow.call ≡ b → eqb flow Flow.indirect_call ≡ c → (a || (b || c)) ≡ true → slots_check flow ≡ end_check
      same true b c e _ _ _ = rw (eqb-true flow Flow.next e) next_goes
      same false true c _ e _ _ = rw (eqb-true flow Flow.call e) call_goes
      same false false true _ _ e _ = rw (eqb-true flow Flow.indirect_call e) indirect_goes
      same false false false _ _ _ e = absurd (false≢true e)

      under : (b : Bool) → slots_check (cond b Flow.next flow) ≡ end_check
      under true = next_goes
      under false = same (eqb flow Flow.next) (eqb flow Flow.call) (eqb flow Flow.indirect_call) refl refl refl goes

module _ (m : Image) (mode : m.header.mode ≡ 2) (p : ℕ) where
  pub inside_clear : is_terminator m p ≡ false → continuation_check m p ≡ clear
  unfolding continuation_check given_mode
  inside_clear inside = rw (eq-eqb m.header.mode 2 mode, inside)

  module _ (ends : is_terminator m p ≡ true) (v : Visit) (at : v ≡ visit_at m p) where
    leads : v.given ≡ given_for m p
    leads = ap (λ (x : Visit). x.given) at

    is : v.instruction ≡ instruction_at m p
    is = ap (λ (x : Visit). x.instruction) at

    leads_given : is_given m p ≡ is_some v.given
    unfolding given_for
    leads_given = rw leads (go (is_given m p))
      where
        go : (b : Bool) → b ≡ is_some (cond b (Some (length (given_at m p))) None)
        go true = refl
        go false = refl

    pub given_clear : is_some v.given ≡ true → continuation_check m p ≡ clear
    unfolding continuation_check given_mode
    given_clear given = rw (eq-eqb m.header.mode 2 mode, ends, leads_given ∙ given)

    module _ (by : is_some v.given ≡ false) (h : checks (given_check m) (size m) ≡ clear) (here : p < size m) where
      none : is_given m p ≡ false
      none = leads_given ∙ by

      goes : (eqb (instruction_at m p).flow Flow.next || is_call (instruction_at m p).flow) ≡ true
      unfolding given_check given_mode
      goes = unless_clear _ _ (rw (none, eq-eqb m.header.mode 2 mode) at (checks_at (given_check m) (size m) p h here))

      other : flow_at m p ≡ Flow.switch → ⊥
      unfolding flow_at
      other = no_switch m.header.calls (instruction_at m p).flow goes

      by_transfers : continuation_check m p ≡ (transfer_check m (address_at m p) (transfer_at m p 0) then transfer_check m (address_at m p) (transfer_at m p 1))
      unfolding continuation_check given_mode slot_count checks
      by_transfers = rw (eq-eqb m.header.mode 2 mode, ends, none, ne_eqb (flow_at m p) Flow.switch other)

      second : transfer_at m p 1 ≡ slot_transfer (instruction_at m p) (slots_of (flow_at m p)).1
      unfolding transfer_at
      second = rw (ne_eqb (flow_at m p) Flow.switch other)

      pub end_checked : continuation_check m p ≡ end_check m v.instruction
      unfolding transfer_at flow_at
      end_checked =
          by_transfers
          ∙ ap (λ (x : Transfer). transfer_check m (address_at m p) (transfer_at m p 0) then transfer_check m (address_at m p) x) second
          ∙ end_goes m (instruction_at m p) m.header.calls (instruction_at m p).flow goes
          ∙ ap (λ (i : Instruction). end_check m i) (sym is)
