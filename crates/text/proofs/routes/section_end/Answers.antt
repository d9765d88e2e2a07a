-- `section_end` meets its contract: a section has no more than 512 records of 31 bytes. Assumes nothing.
use mathlib.Core.Path.{◌≡◌, ◌∙◌}
use Prim.Native.Nat.{◌≤◌, min}
use native.Mathlib.Nat.{mul-le-mul}
use native.Mathlib.Omega.{arith}
use Rattle.image.specs.Little.{le4}
use Rattle.image.specs.Read.{width_of, limit_of}
use Rattle.image.proofs.Sections.{width_most}
use Rattle.text.proofs.RouteBytesLaws.{limit_most}
use Rattle.text.proofs.routes.section_end.Goals as goal

pub returns-clause-end : goal.returns-clause-end
returns-clause-end g c =
    let width : c.WIDTH.result ≡ width_of g.R.Record.kind = c.WIDTH.ensures ∙ g.met.R.Record.width_is in
    let count : c.min-records.result ≡ min (le4 c.args.s.now c.args.at) (limit_of g.R.Record.kind) = rw (c.min-records.ensures, c.LIMIT.ensures, g.met.R.Record.limit_is, c.u32_at.ensures.0) in
    rw (width, count)

pub returns-clause-near : goal.returns-clause-near
returns-clause-near g c =
    let wide : c.WIDTH.result ≤ 31 = omega (arith, c.WIDTH.ensures, g.met.R.Record.width_is, width_most g.R.Record.kind) in
    let few : c.min-records.result ≤ 512 = omega (arith, c.min-records.ensures, c.LIMIT.ensures, g.met.R.Record.limit_is, limit_most g.R.Record.kind) in
    omega (arith, mul-le-mul wide few)
