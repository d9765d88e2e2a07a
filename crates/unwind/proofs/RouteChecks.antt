-- 17 of a route's range, instruction by instruction.
--     lead_before, lead_behind     nothing is asked before the range and behind it
--     lead_yes, lead_no            an instruction leads its block, or does not
--     begins_yes, begins_no        by the built block at hand
--     before_next                  the next instruction and the next block
--     lead_all                     all instructions of the range lead theirs
--     paths_at                      the paths of a route
--     counted, children            how many records are read, and where those of a route and of a path stand
--     route_checks                 10 to 12, 15 and 17 of a route of an image
-- Assumes nothing.
use mathlib.Core.Path.{◌≡◌, refl, ap}
use mathlib.Core.Bool.{Bool, true, false, cond, not, and-false}
use mathlib.Core.List.{List, [], map}
use Prim.Native.Nat.{ℕ, ◌+◌, ◌≤◌, ◌<◌}
use native.Mathlib.Decide.{dec_lt, ℕ_discrete}
use native.Mathlib.Omega.{arith}
use borrow.Author.Tests.{lt-ltb, le-ltb, lt-leb, le-leb}
use lib.Dec.{leb}
use lib.ListN.{length, get_or}
use Rattle.image.specs.Record.{route_from}
use Rattle.image.specs.Refusal.{clear, refused, refusal, ◌then◌, unless, checks}
use Rattle.image.specs.Image.{RouteImage}
use Rattle.image.specs.Deal.{deal, UnwindPath, UnwindRoute, paths_of, routes_of}
use Rattle.image.specs.declared.record.Route.{Route}
use Rattle.image.proofs.Checks.{checks_each}
use Rattle.image.proofs.Tables.{length-records}
use Rattle.graph.specs.Graph.{Graph, block}
use Rattle.graph.specs.Table.{entry_at, below, range_check}
use Rattle.graph.specs.Route.{route_at, resumes_late}
use Rattle.graph.specs.WellFormed.{Built}
use Rattle.graph.proofs.CheckLaws.{checks_clear}
use Rattle.graph.proofs.TableLaws.{start_at, below_at}
use Rattle.graph.proofs.RouteLaws.{route_is, paths_in, paths_next, steps_in_law, steps_next}
use Rattle.addition.specs.Blocks.{leads, inside, leading, within}
use Rattle.unwind.specs.Stands.{Stands, Before, route_of}
use Rattle.addition.specs.Add.{lead_found, lead_check, range_leads, route_check}
use Rattle.unwind.proofs.Standing.{table_rises, block_rises, none_begins, leads_here, leads_none}
use Rattle.unwind.proofs.GuardLaws.{start_below, below_start}

module _ (g : Graph) (s : Stands g) where
  abbrev address : ℕ → ℕ
  address p = (entry_at g.table p).address

  module _ (u : UnwindRoute) (p : ℕ) where
    -- in the range or not
    outside : within u (address p) ≡ false → range_leads g u p ≡ clear
    unfolding range_leads
    outside out = rw out

    pub lead_yes : (b : ℕ) → leading g (address p) ≡ leads b → range_leads g u p ≡ clear
    unfolding range_leads lead_check lead_found
    lead_yes b e = rw e (go (within u (address p)))
      where
        go : (t : Bool) → cond t clear clear ≡ clear
        go true = refl
        go false = refl

    module _ (h : p < length g.table) where
      pub lead_before : p < below g.table u.start → range_leads g u p ≡ clear
      unfolding within
      lead_before lt = outside (rw (lt-leb u.start (address p) (below_start g s u.start p h lt)))

      pub lead_behind : below g.table u.end ≤ p → range_leads g u p ≡ clear
      unfolding within
      lead_behind le =
          outside (rw (le-ltb (address p) u.end (elim (dec_lt (address p) u.end) [ yes lt ↦ absurd (omega (arith, start_below g s u.end p h lt)) | no ge ↦ omega arith ])) (and-false (leb u.start (address p))))

      pub lead_no : below g.table u.start ≤ p → p < below g.table u.end → leading g (address p) ≡ inside → range_leads g u p ≡ refused (refusal 17 (address p) 0)
      unfolding range_leads within lead_check lead_found
      lead_no low high e =
          rw (
            le-leb u.start (address p) (elim (dec_lt (address p) u.start) [ yes lt ↦ absurd (omega (arith, start_below g s u.start p h lt)) | no ge ↦ omega arith ]),
            lt-ltb (address p) u.end (below_start g s u.end p h high),
            e,
          )

  pub lead_all : (u : UnwindRoute) (p : ℕ) → below g.table u.end ≤ p → checks (range_leads g u) p ≡ clear → checks (range_leads g u) (length g.table) ≡ clear
  lead_all u p le passed =
      checks_clear (range_leads g u) (length g.table)
      (λ i h. elim (dec_lt i p) [ yes lt ↦ checks_each (range_leads g u) p i passed lt | no ge ↦ lead_behind u i h (omega arith) ])

  module _ (n : ℕ) (built : Built g n) (p b : ℕ) (c : Before g n p b) where
    pub before_next : b < n → (block g b).first ≡ p → Before g n (p + 1) (b + 1)
    before_next h is =
        record {
          most = omega arith;
          before = λ k lt. elim (ℕ_discrete k b) [ yes same ↦ rw same (omega arith) | no ne ↦ omega (arith, c.before k (omega arith)) ];
          behind = λ k le lt. omega (arith, block_rises g s n built b k (omega arith) lt);
        }

    module _ (h : p < length g.table) where
      pub begins_yes : b < n → (block g b).first ≡ p → leading g (address p) ≡ leads b
      begins_yes lt is = leads_here g s n built (address p) p (start_at g.table (address p) p h refl) (below_at g.table (table_rises g s) p h) b lt is

      pub begins_no : (b < n → (block g b).first ≡ p → ⊥) → leading g (address p) ≡ inside
      begins_no out =
          leads_none g s n built (address p) p (start_at g.table (address p) p h refl) (below_at g.table (table_rises g s) p h) (none_begins g s n built p b c out)

-- the paths of route r
abbrev pub paths_at : RouteImage → ℕ → List UnwindPath
paths_at m r = get_or (deal (map (λ (x : Route). x.paths) m.routes) (paths_of m)) r []

pub route_checks : (g : Graph) (m : RouteImage) (r : ℕ) → r < length m.routes
    → route_check g (routes_of m) r
    ≡ (range_check g.table (get_or m.routes r (route_from [] 0)).start (get_or m.routes r (route_from [] 0)).end
    then unless (not (resumes_late (route_at (routes_of m) r))) (refusal 15 r 0)
    then checks (range_leads g (route_of (get_or m.routes r (route_from [] 0)).start (get_or m.routes r (route_from [] 0)).end (paths_at m r))) (length g.table))
unfolding route_check
route_checks g m r h =
    ap (λ (x : UnwindRoute). range_check g.table x.start x.end then unless (not (resumes_late (route_at (routes_of m) r))) (refusal 15 r 0) then checks (range_leads g x) (length g.table)) (route_is m r h)

pub ruleset counted = (length-records)

pub ruleset children = (length-records, paths_in, paths_next, steps_in_law, steps_next)
