-- `goes_on` meets its contract, answer by answer. Assumes nothing.
use mathlib.Core.Path.{sym, ◌∙◌}
use mathlib.Core.Bool.{false≢true}
use native.Mathlib.Omega.{arith}
use borrow.Author.Tests.{not-true, not-false}
use Rattle.unwind.proofs.emit.alike.goes_on.Goals as goal

pub returns-then-not-worth : goal.returns-then-not-worth
returns-then-not-worth c = λ e. absurd (false≢true e)

pub returns-then-b-last : goal.returns-then-b-last
returns-then-b-last c = λ e. absurd (false≢true e)

pub returns-then-b-eq0 : goal.returns-then-b-eq0
returns-then-b-eq0 c = λ e. absurd (false≢true e)

pub returns : goal.returns
returns c = λ e.
    let next = c.if-b-last.false in
    record {
      sought = not-false _ c.if-not-worth.false-raw;
      next = next;
      low = omega (arith, c.if-b-eq0.false);
      steady = sym c.has_in.ensures ∙ not-true _ e;
    }
