-- Marks, and the folds that say where they fall.
--     mark_store                    one store
--     mark_none, mark_then          nothing more, and one after the other
--     mark_as, mark_within          the same in other words, and of fewer positions
--     marks_none, marks_more        those of each number below n: none, and of one number more
--     mark_if, mark_not             where a test holds, and else nothing
--     some_own                      each position by itself, once all have been asked
--     run_none, run_more, run_all   a run of positions: none, one more, and with its end
--     few, inside, any_routes       of an image: how many instructions and routes
--     handler_range, route_range_law    the ranges of handlers and routes that passed
--     route_start, route_end        a route's range, as the image has it
--     mark_start, mark_lead         those that start at an address, and to which one leads
--     eqb_comm                      a test that is turned
--     no_handlers, no_routes        where there are none
--     leads, leading                both collectors, one after the other, and from no mark on
-- Assumes nothing.
use mathlib.Core.Path.{◌≡◌, refl, sym, ap, ◌∙◌}
use mathlib.Core.Bool.{Bool, true, false, ◌&&◌, ◌||◌, or-true, or-false, and-true, and-false, or_assoc}
use mathlib.Core.List.{List, []}
use mathlib.Core.Logic.{⊎_elim}
use Prim.Native.Nat.{ℕ, zero, suc, ◌+◌, ◌<◌, ◌≤◌}
use native.Mathlib.Nat.{eq-or-lt_of_le, le_of_suc-le-suc}
use native.Mathlib.Numerals.{add-one}
use native.Mathlib.Decide.{dec_le, dec_lt, ℕ_discrete}
use native.Mathlib.Omega.{arith}
use borrow.Author.Tests.{eq-eqb, ne_eqb, lt-ltb, le-ltb, le-leb, lt-leb}
use lib.Dec.{eqb, ltb, leb}
use lib.ListN.{length, get_or, set, replicate, get_or-replicate}
use lib.Seq.{get_or-set_same, get_or-set_other}
use Rattle.image.specs.Record.{route_from}
use Rattle.image.specs.Image.{Image}
use Rattle.image.specs.Refusal.{clear}
use Rattle.image.specs.Deal.{UnwindRoute}
use Rattle.image.proofs.Checks.{then_left}
use Rattle.graph.specs.Fold.{some}
use Rattle.graph.specs.Table.{range_check}
use Rattle.graph.specs.Transfer.{table_of, size, address_at}
use Rattle.graph.specs.Route.{route_at, route_check}
use Rattle.graph.specs.Leaders.{entry_mark, sequence_mark, flow_mark, exceptional_mark, handler_at, handler_mark, routes, route_mark, is_leader}
use Rattle.graph.specs.Build.{handler_check}
use Rattle.graph.proofs.TableLaws.{entry_address}
use Rattle.graph.proofs.RouteLaws.{length-routes, route_is}
use Rattle.graph.proofs.CheckLaws.{checks_at}
use Rattle.builder.specs.Marks.{Marked, start_mark, funclet_end, instruction_mark, Passed, Leading}

pub mark_store : (n : ℕ) (l : List Bool) (p : ℕ) → p < length l → Marked n (λ q. eqb q p) l (set l p true)
mark_store n l p h = record { at = each }
  where
    each : (q : ℕ) → q < n → get_or (set l p true) q false ≡ (get_or l q false || eqb q p)
    each q _ =
        elim (ℕ_discrete q p) [
          | yes e ↦ rw (eq-eqb q p e, e) (get_or-set_same l p true false h ∙ sym (or-true (get_or l p false)))
          | no ne ↦ rw (ne_eqb q p ne) (get_or-set_other l p q true false ne ∙ sym (or-false (get_or l q false)))
        ]

module _ {n : ℕ} {l : List Bool} where
  pub mark_none : (f : ℕ → Bool) → ((p : ℕ) → p < n → f p ≡ false) → Marked n f l l
  mark_none f none = record { at = λ p h. rw (none p h) (sym (or-false (get_or l p false))) }

  pub mark_then : {f g : ℕ → Bool} {r t : List Bool} → Marked n f l r → Marked n g r t → Marked n (λ p. f p || g p) l t
  mark_then {f} {g} a b = record { at = λ p h. b.at p h ∙ ap (λ (x : Bool). x || g p) (a.at p h) ∙ or_assoc (get_or l p false) (f p) (g p) }

  pub mark_as : {f : ℕ → Bool} {r : List Bool} (g : ℕ → Bool) → ((p : ℕ) → p < n → f p ≡ g p) → Marked n f l r → Marked n g l r
  mark_as g same a = record { at = λ p h. a.at p h ∙ ap (λ (x : Bool). get_or l p false || x) (same p h) }

  pub mark_within : {f : ℕ → Bool} {r : List Bool} (k : ℕ) → k ≤ n → Marked n f l r → Marked k f l r
  mark_within k le a = record { at = λ p h. a.at p (omega arith) }

  pub mark_if : {f : ℕ → Bool} {r : List Bool} (b : Bool) → b ≡ true → Marked n f l r → Marked n (λ p. b && f p) l r
  mark_if {f} b holds a = mark_as (λ p. b && f p) (λ p h. rw holds) a

  pub mark_not : (f : ℕ → Bool) (b : Bool) → b ≡ false → Marked n (λ p. b && f p) l l
  mark_not f b fails = mark_none (λ p. b && f p) (λ p h. rw fails)

  module _ (f : ℕ → ℕ → Bool) where
    pub marks_none : Marked n (λ p. some (λ q. f q p) 0) l l
    unfolding some
    marks_none = mark_none (λ p. false) (λ p h. refl)

    pub marks_more : {r t : List Bool} (i : ℕ) → Marked n (λ p. some (λ q. f q p) i) l r → Marked n (f i) r t → Marked n (λ p. some (λ q. f q p) (i + 1)) l t
    unfolding some
    marks_more i a b = rw (add-one i) (mark_then a b)

-- ---- a run of positions, from a on

module _ {n : ℕ} {l : List Bool} (a : ℕ) where
  pub run_none : Marked n (λ q. leb a q && ltb q a) l l
  run_none = mark_none _ (λ q h. elim (dec_le a q) [ yes le ↦ rw (le-ltb q a le) (and-false (leb a q)) | no lt ↦ rw (lt-leb a q (omega arith)) ])

  pub run_more : {r t : List Bool} (p : ℕ) → a ≤ p → Marked n (λ q. leb a q && ltb q p) l r → Marked n (λ q. eqb q p) r t → Marked n (λ q. leb a q && ltb q (p + 1)) l t
  run_more p h so_far now = mark_as _ (λ q _. one q) (mark_then so_far now)
    where
      below_next : (q : ℕ) → (q ≡ p → ⊥) → ltb q p ≡ ltb q (p + 1)
      below_next q ne = elim (dec_lt q p) [ yes lt ↦ rw (lt-ltb q p lt, lt-ltb q (p + 1) (omega arith)) | no ge ↦ rw (le-ltb q p (omega arith), le-ltb q (p + 1) (omega arith)) ]

      one : (q : ℕ) → ((leb a q && ltb q p) || eqb q p) ≡ (leb a q && ltb q (p + 1))
      one q =
          elim (ℕ_discrete q p) [
            | yes e ↦ rw (eq-eqb q p e, le-leb a q (omega arith), lt-ltb q (p + 1) (omega arith)) (or-true (ltb q p))
            | no ne ↦ rw (ne_eqb q p ne) (or-false (leb a q && ltb q p) ∙ ap (λ (b : Bool). leb a q && b) (below_next q ne))
          ]

  pub run_all : {r : List Bool} (b : ℕ) → Marked n (λ q. leb a q && ltb q (b + 1)) l r → Marked n (λ q. leb a q && leb q b) l r
  run_all b marked = mark_as _ (λ q _. ap (λ (x : Bool). leb a q && x) (upto q)) marked
    where
      upto : (q : ℕ) → ltb q (b + 1) ≡ leb q b
      upto q = elim (dec_le q b) [ yes le ↦ rw (le-leb q b le, lt-ltb q (b + 1) (omega arith)) | no gt ↦ rw (lt-leb q b (omega arith), le-ltb q (b + 1) (omega arith)) ]

-- ---- of an image

-- f of each position by itself
pub some_own : (f : ℕ → Bool) (n p : ℕ) → p < n → some (λ q. f q && eqb p q) n ≡ f p
unfolding some
some_own f zero p h = absurd (omega arith)
some_own f (suc n) p h =
    ⊎_elim
    (λ e. rw (eq-eqb p n e, and-true (f n), none f n p (omega arith)) (ap f (sym e)))
    (λ lt. rw (ne_eqb p n (λ e. omega arith), and-false (f n), or-false (some (λ q. f q && eqb p q) n)) (some_own f n p lt))
    (eq-or-lt_of_le (le_of_suc-le-suc h))
  where
    none : (f : ℕ → Bool) (n p : ℕ) → n ≤ p → some (λ q. f q && eqb p q) n ≡ false
    none f zero p h = refl
    none f (suc n) p h = rw (ne_eqb p n (λ e. omega arith), and-false (f n), or-false (some (λ q. f q && eqb p q) n)) (none f n p (omega arith))

pub few : (m : Image) → Passed m → size m ≤ 512
few m passed = passed.sourced.accepted.instructions_most

module _ (m : Image) (passed : Passed m) where
  pub handler_range : (h : ℕ) → h < length m.handlers → range_check (table_of m) (handler_at m h).start (handler_at m h).end ≡ clear
  unfolding handler_check
  handler_range h lt = then_left _ _ (checks_at (handler_check m) (length m.handlers) h passed.handlers lt)

  pub route_range_law : (r : ℕ) → r < length (routes m) → range_check (table_of m) (route_at (routes m) r).start (route_at (routes m) r).end ≡ clear
  unfolding route_check
  route_range_law r lt = then_left _ _ (then_left _ _ (checks_at (route_check (table_of m) (routes m)) (length (routes m)) r passed.routed lt))

module _ (m : Image) (r : ℕ) (h : r < length m.routes.routes) where
  pub route_start : (route_at (routes m) r).start ≡ (get_or m.routes.routes r (route_from [] 0)).start
  unfolding routes
  route_start = ap (λ (x : UnwindRoute). x.start) (route_is m.routes r h)

  pub route_end : (route_at (routes m) r).end ≡ (get_or m.routes.routes r (route_from [] 0)).end
  unfolding routes
  route_end = ap (λ (x : UnwindRoute). x.end) (route_is m.routes r h)

pub mark_start : {n : ℕ} {l r : List Bool} (m : Image) (a : ℕ) → Marked n (start_mark (table_of m) a) l r → Marked n (λ p. eqb (address_at m p) a) l r
mark_start m a marked = mark_as _ (λ p h. ap (λ (x : ℕ). eqb x a) (entry_address m p)) marked

pub eqb_comm : (a b : ℕ) → eqb a b ≡ eqb b a
eqb_comm a b = elim (ℕ_discrete a b) [ yes e ↦ rw (eq-eqb a b e, eq-eqb b a (sym e)) | no ne ↦ rw (ne_eqb a b ne, ne_eqb b a (λ e. ne (sym e))) ]

pub mark_lead : {n : ℕ} {l r : List Bool} (m : Image) (a : ℕ) → Marked n (start_mark (table_of m) a) l r → Marked n (λ p. eqb a (address_at m p)) l r
mark_lead m a marked = mark_as _ (λ p h. eqb_comm (address_at m p) a) (mark_start m a marked)

pub any_routes : (m : Image) → length (routes m) ≡ length m.routes.routes
unfolding routes
any_routes m = length-routes m.routes

-- without handlers, and without routes
module _ {n : ℕ} {t : List Bool} (m : Image) where
  pub no_handlers : length m.handlers ≡ 0 → Marked n (handler_mark m) t t
  unfolding handler_mark some
  no_handlers e = mark_none (handler_mark m) (λ p h. rw e)

  pub no_routes : length m.routes.routes ≡ 0 → Marked n (route_mark m) t t
  unfolding route_mark some
  no_routes e = mark_none (route_mark m) (λ p h. rw (any_routes m, e))

-- one collector after the other
pub leads : {n : ℕ} {t b r : List Bool} (m : Image) → Marked n (λ p. entry_mark m p || instruction_mark m p) t b → Marked n (λ p. handler_mark m p || route_mark m p) b r → Marked n (is_leader m) t r
unfolding is_leader
leads m code ranges =
    mark_as (is_leader m) (λ p h. in_order (entry_mark m p) (sequence_mark m p) (flow_mark m p) (exceptional_mark m p) (funclet_end m p) (handler_mark m p) (route_mark m p))
    (mark_then code ranges)
  where
    in_order : (e s f x u h r : Bool) → (e || (s || f || x || u) || (h || r)) ≡ (e || s || f || x || h || r || u)
    in_order true s f x u h r = refl
    in_order false true f x u h r = refl
    in_order false false true x u h r = refl
    in_order false false false true u h r = refl
    in_order false false false false true h r = sym (or-true (h || r))
    in_order false false false false false h r = sym (or-false (h || r))

-- from no mark on
pub leading : {r : List Bool} (m : Image) → Passed m → Marked (size m) (is_leader m) (replicate 512 false) r → Leading m r
leading m passed marked p h = rw (get_or-replicate 512 p false false (omega (arith, h, few m passed))) at (marked.at p h)
