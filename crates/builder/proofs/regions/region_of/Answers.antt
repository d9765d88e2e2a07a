-- `region_of` meets its contract, field by field. Assumes nothing.
use mathlib.Core.Path.{sym, ap, ap₂, ◌∙◌}
use mathlib.Core.List.{List}
use Prim.Native.Nat.{ℕ, ◌+◌}
use lib.ListN.{length, get_or}
use Rattle.builder.specs.Code.{image_of}
use Rattle.graph.specs.Fold.{count}
use Rattle.graph.specs.Leaders.{handler_at}
use Rattle.graph.specs.Blocks.{block_of}
use Rattle.graph.specs.Edges.{range_first, range_size}
use Rattle.graph.specs.Build.{handler_check}
use Rattle.graph.specs.Regions.{same_range, draft, set_below, region_at}
use Rattle.graph.proofs.CheckLaws.{checks_at}
use Rattle.graph.proofs.BuiltReferences.{same_count}
use Rattle.builder.proofs.DraftLaws.{drafted_size, drafted_at}
use Rattle.builder.proofs.RegionLaws.{draft-below, parent_told, parent_number}
use mir.Val.{bool_byte}
use native.Mathlib.Omega.{arith}
use Rattle.builder.proofs.regions.region_of.Goals as goal

pub same_ranges-requires-clause-n_most : goal.same_ranges-requires-clause-n_most
same_ranges-requires-clause-n_most c = omega (arith, c.args.numbered.now.handled.few, sym c.handler_count-n.ensures)

pub protected_by-requires-clause-h_in : goal.protected_by-requires-clause-h_in
protected_by-requires-clause-h_in c = let m = image_of c.args.numbered.now.code in
    let drafted = c.requires.drafted in
    let r = c.args.r in
    let below = draft-below m r (omega (arith, drafted_size drafted)) in
    let own = drafted_at drafted r c.requires.r_in in
    omega (arith, own, below)

pub protected_by-requires-clause-checked : goal.protected_by-requires-clause-checked
protected_by-requires-clause-checked c = let m = image_of c.args.numbered.now.code in
    let drafted = c.requires.drafted in
    let r = c.args.r in
    let below = draft-below m r (omega (arith, drafted_size drafted)) in
    let own = drafted_at drafted r c.requires.r_in in
    rw own (checks_at (handler_check m) (length m.handlers) (draft m r) c.args.numbered.now.handled.passed below)

pub returns : goal.returns
unfolding region_at
returns c = let m = image_of c.args.numbered.now.code in
    let extents = c.requires.extents in
    let drafted = c.requires.drafted in
    let h = get_or c.args.list.now c.args.r 0 in
    let own = drafted_at drafted c.args.r c.requires.r_in in
    let parent = c.parent_of-parent.ensures m extents drafted in
    λ t.
    record {
      has_parent = (c.from.ensures ∙ ap bool_byte c.is_some.ensures ∙ parent_told c.parent_of-parent.result ∙ ap length parent) t;
      parent = (c.unwrap_or.ensures ∙ parent_number c.parent_of-parent.result ∙ ap (λ (l : List ℕ). get_or l 0 0) parent) t;
      start = (extents.start h ∙ ap (λ (h : ℕ). (handler_at m h).start) own) t;
      end = (extents.end h ∙ ap (λ (h : ℕ). (handler_at m h).end) own) t;
      handlers = (c.same_ranges.ensures m extents ∙ ap₂ (λ (h n : ℕ). count (λ g. same_range m g h) n) own c.handler_count-n.ensures ∙ sym (same_count m (draft m c.args.r) (length m.handlers))) t;
      protected = (c.protected_by.ensures ∙ ap (λ (h : ℕ). set_below (λ i. block_of m (range_first m h + i)) (range_size m h)) own) t;
    }
