-- A visit, from what a scan reads at its cursor.
--     scan_at, scan_stands             the cursor of a position stands there, whatever it is called
--     scan-given                       what is given for the instruction at the cursor
--     scan_fits, scan_next             the cursor behind it fits, and stands at the next instruction
--     scan_visit                       what was read is the visit
-- Assumes nothing.
use mathlib.Core.Path.{◌≡◌, sym, ap, ◌∙◌}
use Prim.Native.Nat.{ℕ, ◌+◌, ◌<◌}
use Rattle.image.specs.Image.{Image}
use Rattle.image.specs.declared.record.Instruction.{Instruction}
use Rattle.graph.specs.Transfer.{size, instruction_at}
use Rattle.builder.specs.declared.cursor.Cursor.{Cursor}
use Rattle.builder.specs.declared.cursor.Visit.{Visit}
use Rattle.builder.specs.Cursor.{Sourced, cursor_at, given_for, visit_at, given_here, after, Steps}
use Rattle.builder.proofs.CursorLaws.{visit_given, visit_next, visit_fits}
use Rattle.std.proofs.Common.{Option}

pub scan_at : (m : Image) (p : ℕ) (c : Cursor) → c ≡ cursor_at m p → c.at ≡ p
scan_at m p c here = ap (λ (x : Cursor). x.at) here

pub scan_stands : (m : Image) (p : ℕ) (c : Cursor) → c ≡ cursor_at m p → c ≡ cursor_at m c.at
scan_stands m p c here = here ∙ ap (cursor_at m) (sym (scan_at m p c here))

module _ (m : Image) (h : Sourced m) (p : ℕ) (c : Cursor) (here : c ≡ cursor_at m p) (within : p < size m) (i : Instruction) (is : i ≡ instruction_at m p)
    (g : Option ℕ) (given : g ≡ given_here m.sources c.source i.address) where
  pub scan-given : g ≡ given_for m p
  scan-given = given ∙ visit_given m h p within c i here is

  pub scan_fits : Steps c i.cases g
  scan_fits = visit_fits m h p within c i here is g scan-given

  pub scan_next : (n : Cursor) → n ≡ after c i.cases g → n ≡ cursor_at m (p + 1)
  scan_next n next = next ∙ visit_next m h p within c i here is g scan-given

  pub scan_visit : (n : Cursor) → n ≡ after c i.cases g → ◌≡◌ {A = Visit} (record { instruction = i; given = g; next = n }) (visit_at m p)
  scan_visit n next = λ j. record { instruction = is j; given = scan-given j; next = scan_next n next j }

pub ruleset scan = (scan_at, scan_stands, scan-given, scan_fits, scan_next, scan_visit)
