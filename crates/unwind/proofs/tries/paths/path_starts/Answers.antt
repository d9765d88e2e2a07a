use mathlib.Core.Path.{◌≡◌, refl, ap, ◌∙◌}
use mathlib.Core.List.{[]}
use Prim.Native.Nat.{ℕ, ◌+◌, ◌≤◌, ◌<◌}
use native.Mathlib.Decide.{dec_lt}
use native.Mathlib.Omega.{arith}
use lib.ListN.{length, get_or, length-set}
use lib.Seq.{get_or-set_same, get_or-set_other}
use Rattle.image.specs.Record.{path_from}
use Rattle.image.specs.Image.{RouteImage, routes_in}
use Rattle.image.specs.Accepted.{AcceptedRoutes}
use Rattle.image.specs.Deal.{total}
use Rattle.image.specs.declared.record.Path.{Path}
use Rattle.image.proofs.Tables.{length-records}
use Rattle.graph.specs.Route.{steps_before}
use Rattle.graph.proofs.RouteLaws.{steps_in_law, steps_next}
use Rattle.unwind.proofs.TrieRoutes.{steps_below}
use borrow.Author.Rules.{rules}
use Rattle.unwind.proofs.tries.paths.path_starts.Goals as goal

-- a path stands among all, and so do its steps
within : (m : RouteImage) → AcceptedRoutes m → (p : ℕ) → p < length m.paths → (p < length m.paths) × (steps_before m p + (get_or m.paths p (path_from [] 0)).steps ≤ 512)
within m ok p h = (h, omega (arith, steps_in_law m ok p h, ok.steps_most))

behind : (m : RouteImage) → AcceptedRoutes m → (p : ℕ) → p ≡ length m.paths → (next : ℕ) → next ≡ steps_before m p → next ≤ 512
behind m ok p e next is = omega (arith, steps_below m ok p (omega arith), ok.steps_most)

pub loop-p-init : goal.loop-p-init
unfolding steps_before total
loop-p-init c = (search rules, refl, refl, λ q h. absurd (omega arith))

pub overflow_cast-starts : goal.overflow_cast-starts
overflow_cast-starts c =
    let among = within (routes_in c.args.s.now c.args.y) c.requires.accepted c.loop-p.p (rw (length-records path_from c.args.s.now c.args.y.paths) (omega arith)) in
    omega (arith, among.1, c.loop-p.invariant.1)

pub bounds-starts-p : goal.bounds-starts-p
bounds-starts-p c =
    let among = within (routes_in c.args.s.now c.args.y) c.requires.accepted c.loop-p.p (rw (length-records path_from c.args.s.now c.args.y.paths) (omega arith)) in
    omega (arith, among.0, c.loop-p.invariant.2, c.requires.room)

pub path_in-next-requires : goal.path_in-next-requires
path_in-next-requires c = (c.requires.there.paths_there, search rules)

pub overflow_add-next : goal.overflow_add-next
overflow_add-next c =
    let among = within (routes_in c.args.s.now c.args.y) c.requires.accepted c.loop-p.p (rw (length-records path_from c.args.s.now c.args.y.paths) (omega arith)) in
    omega (arith, among.1, c.loop-p.invariant.1, ap (λ (x : Path). x.steps) c.path_in-next.ensures)

pub loop-p-preserved : goal.loop-p-preserved
loop-p-preserved c =
    let among = within (routes_in c.args.s.now c.args.y) c.requires.accepted c.loop-p.p (rw (length-records path_from c.args.s.now c.args.y.paths) (omega arith)) in
    let m = routes_in c.args.s.now c.args.y in
    let p = c.loop-p.p in
    let l = c.loop-p.starts in
    let room : p < length l = omega (arith, among.0, c.loop-p.invariant.2, c.requires.room) in (
      search rules,
      omega (arith, steps_next m p, c.loop-p.invariant.1, ap (λ (x : Path). x.steps) c.path_in-next.ensures),
      length-set l p c.loop-p.next ∙ c.loop-p.invariant.2,
      λ q h.
          elim (dec_lt q p) [
            | yes lt ↦ get_or-set_other l p q c.loop-p.next 0 (λ e. omega arith) ∙ c.loop-p.invariant.3 q lt
            | no ge ↦ let e : q ≡ p = omega arith in rw e (get_or-set_same l p c.loop-p.next 0 room ∙ c.loop-p.invariant.1)
          ],
    )

pub overflow_cast-starts-2 : goal.overflow_cast-starts-2
overflow_cast-starts-2 c =
    let all : c.loop-p.p ≡ length (routes_in c.args.s.now c.args.y).paths = rw (length-records path_from c.args.s.now c.args.y.paths) (omega arith) in
    let passed = behind (routes_in c.args.s.now c.args.y) c.requires.accepted c.loop-p.p all c.loop-p.next c.loop-p.invariant.1 in
    omega (arith, passed)

pub bounds-starts-n : goal.bounds-starts-n
bounds-starts-n c =
    let all : c.loop-p.p ≡ length (routes_in c.args.s.now c.args.y).paths = rw (length-records path_from c.args.s.now c.args.y.paths) (omega arith) in
    omega (arith, all, c.loop-p.invariant.2, c.requires.room, length-records path_from c.args.s.now c.args.y.paths)

pub returns : goal.returns
returns c =
    let all : c.loop-p.p ≡ length (routes_in c.args.s.now c.args.y).paths = rw (length-records path_from c.args.s.now c.args.y.paths) (omega arith) in
    let l = c.loop-p.starts in
    let n = c.args.y.paths.count in
    let next = c.loop-p.next in
    let size = length-records path_from c.args.s.now c.args.y.paths in
    let end : c.loop-p.p ≡ n = omega (arith, all) in
    let room : length (routes_in c.args.s.now c.args.y).paths < length l = omega (arith, c.loop-p.invariant.2, c.requires.room) in
    record {
      long = rw (length-set l n next) room;
      at = λ p le.
          elim (dec_lt p n) [
            | yes lt ↦ get_or-set_other l n p next 0 (λ e. omega arith) ∙ c.loop-p.invariant.3 p (omega arith)
            | no ge ↦ let e : p ≡ n = omega arith in rw e (get_or-set_same l n next 0 (omega (arith, room)) ∙ rw end at c.loop-p.invariant.1)
          ];
    }
