-- Record by record. Assumes nothing.
use native.Mathlib.Omega.{arith}
use mathlib.Core.Path.{◌≡◌, refl, sym, ap, ap₂, ◌∙◌}
use Prim.Native.Nat.{◌+◌}
use native.Mathlib.Nat.{add-zero, mul-zero}
use native.Mathlib.Numerals.{add-one}
use Rattle.image.specs.Refusal.{checks}
use Rattle.image.specs.Read.{width_of, record_form, children_at, children_in}
use Rattle.image.proofs.Sections.{width_least, width_most}
use Rattle.image.proofs.Checks.{checks-more, checks_stop, place_next}
use borrow.Author.Rules.{rules}
use Rattle.image.proofs.scan.scan_records.Goals as goal

pub loop-i-init : goal.loop-i-init
unfolding checks children_in
loop-i-init g c =
    record {
      within = search rules;
      place = simp (mul-zero, add-zero);
      least = search rules;
      most = search rules;
      forms = refl;
      sum = refl;
      few = search rules;
      there = search rules;
    }

pub returns-in_err-check-clause-check : goal.returns-in_err-check-clause-check
returns-in_err-check-clause-check g c =
    rw (checks_stop (record_form g.R.Record.kind c.args.s.now c.args.base) c.loop-i.i c.args.n _ (search rules) c.loop-i.invariant.forms
    (rw c.loop-i.invariant.place at (sym c.in_err-check.ensures.check))) (search rules)

pub loop-i-preserved : goal.loop-i-preserved
unfolding children_in
loop-i-preserved g c =
    let width : c.WIDTH-at.result ≡ width_of g.R.Record.kind = c.WIDTH-at.ensures ∙ g.met.R.Record.width_is in
    record {
      within = search rules;
      place = rw width (place_next c.args.base (width_of g.R.Record.kind) c.loop-i.i c.loop-i.at c.loop-i.invariant.place);
      least = omega (arith, width, width_least g.R.Record.kind, c.loop-i.invariant.least);
      most = omega (arith, width, width_most g.R.Record.kind, c.loop-i.invariant.most);
      forms = checks-more (record_form g.R.Record.kind c.args.s.now c.args.base) c.loop-i.i c.loop-i.invariant.forms ∙ sym (rw c.loop-i.invariant.place at c.in_ok-check.ensures.check);
      sum = rw (add-one c.loop-i.i) (ap₂ ◌+◌ c.loop-i.invariant.sum (c.children-children.ensures.is ∙ ap (children_at g.R.Record.kind c.args.s.now) c.loop-i.invariant.place));
      few = search rules;
      there = search rules;
    }
