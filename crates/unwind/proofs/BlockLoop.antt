-- A loop over the blocks of a word: what stands in scratch between two of them.
--     given_guards, given_returns, ready     what the loop is given
--     given_kept, ready_kept       the same with scratch of the same lengths
--     list_room, busy_room         what listing the nodes of the word asks for, and finding its busy blocks
--     Going, going_start, going_next     the ways out of the last block stand
--     HeldAt, held_few, held_stays     the ways out of a block, gathered or those of the last
--     gather_room                  what gathering asks for
--     hops_quiet, word_quiet       a block that is not busy has no hops, nor has a word with no busy one
-- Assumes nothing.
use mathlib.Core.Path.{◌≡◌, refl, ◌∙◌}
use mathlib.Core.Bool.{Bool, true, false}
use mathlib.Core.List.{List, []}
use Prim.Native.Nat.{ℕ, ◌+◌, ◌*◌, ◌/◌, ◌%◌, ◌^◌, ◌≤◌, ◌<◌}
use native.Mathlib.Omega.{arith}
use lib.Dec.{eqb}
use lib.ListN.{length, get_or}
use Rattle.image.specs.Record.{route_from}
use Rattle.image.specs.Image.{routes_in}
use Rattle.image.specs.There.{RoutesThere}
use Rattle.image.specs.declared.section.RouteLayout.{RouteLayout}
use Rattle.image.proofs.Tables.{length-records}
use Rattle.unwind.specs.declared.tries.store.Counts.{Counts}
use Rattle.unwind.specs.Routed.{TriesIn}
use Rattle.unwind.specs.Gather.{in_set}
use Rattle.unwind.specs.Placed.{returns_in}
use Rattle.unwind.specs.Lent.{block_records, BlockHeld, block_hops}
use Rattle.unwind.specs.Alike.{Moves, Turning, GoesOn}
use Rattle.unwind.specs.Members.{Joins, Originals, BusyIn}
use Rattle.unwind.specs.Blockwise.{Given, Ready}
use Rattle.unwind.proofs.ReturnLaws.{returns_long}
use Rattle.unwind.proofs.AlikeLaws.{held_on}
use Rattle.unwind.proofs.BusyLaws.{none-set}
use Rattle.unwind.proofs.MemberLaws.{busy_quiet}

module _ (s : List ℕ) (y : RouteLayout) (nodes edges ends heads landings roots guards bases parts returners : List ℕ) (stored : Counts) (exits₀ : List ℕ) where
  -- the ways out of block `last`, 1024 before the first, stand in scratch
  pub record Going (exits : List ℕ) (last n : ℕ) : Type 0 where
    pub long : length exits ≡ length exits₀
    pub most : last ≤ 1024
    pub held : last < 1024 → BlockHeld (routes_in s y) last (block_records (routes_in s y) last nodes edges ends heads landings roots guards bases (returns_in parts returners) stored) edges ends exits exits n

  pub going_start : Going exits₀ 1024 0
  going_start = record { long = refl; most = omega arith; held = λ h. absurd (omega arith) }

module _ {s : List ℕ} {y : RouteLayout} {nodes edges ends heads landings roots guards bases parts returners : List ℕ} {stored : Counts} {blocks : ℕ} {originals exits : List ℕ} where
  module _ (g : Given s y nodes edges ends heads landings roots guards bases parts returners stored blocks originals exits) where
    pub given_guards : 16 * y.routes.count ≤ length guards
    given_guards = omega (arith, length-records route_from s y.routes, g.sets.guards_fit)

    pub given_returns : 16 * stored.nodes ≤ length parts
    given_returns = rw (returns_long parts returners) at g.sets.returns_fit

    pub given_kept : {l l' : List ℕ} → length l ≡ length originals → length l' ≡ length exits → Given s y nodes edges ends heads landings roots guards bases parts returners stored blocks l l'
    given_kept e f =
        record {
          tries = g.tries;
          few = g.few;
          roomy = record { edges_few = g.roomy.edges_few; ends_few = g.roomy.ends_few; room = omega (arith, g.roomy.room) };
          sets = g.sets;
          there = g.there;
          heads_fit = g.heads_fit;
          landings_fit = g.landings_fit;
          bases_fit = g.bases_fit;
          originals_fit = omega (arith, g.originals_fit);
        }

    pub ready : {worth : Bool} (turns : List ℕ) → (worth ≡ true → Moves landings stored.ends) → (worth ≡ true → Turning guards y.routes.count (returns_in parts returners) stored.nodes blocks turns) → Ready s y nodes edges ends heads landings roots guards bases parts returners stored blocks originals exits worth turns
    ready turns moves turning = record { given = g; turning = λ e. (moves e, turning e) }

    pub list_room : (w : ℕ) → w < 16 → (stored.nodes ≤ length originals) × (stored.nodes ≤ 544) × (16 * stored.nodes ≤ length parts) × (w < 16) × (stored.nodes ≤ length bases)
    list_room w low = (g.originals_fit, g.tries.nodes_most, given_returns, low, g.bases_fit)

    module _ {l : List ℕ} {w listed : ℕ} (long : length l ≡ length originals) (list : Originals bases (returns_in parts returners) l stored.nodes w listed) where
      pub busy_room : w < 16 → (w < 16) × (listed ≤ length l) × ((k : ℕ) → k < listed → 16 * get_or l k 0 + 16 ≤ length parts)
      busy_room low = (low, omega (arith, g.originals_fit, list.few), λ k h. omega (arith, list.within k h, given_returns))

  module _ {worth : Bool} {turns : List ℕ} (r : Ready s y nodes edges ends heads landings roots guards bases parts returners stored blocks originals exits worth turns) where
    pub ready_kept : {l l' : List ℕ} → length l ≡ length originals → length l' ≡ length exits → Ready s y nodes edges ends heads landings roots guards bases parts returners stored blocks l l' worth turns
    ready_kept e f = record { given = given_kept r.given e f; turning = r.turning }

    module _ {l : List ℕ} {w listed guarded : ℕ} (joined : Joins (λ r b. in_set guards r b) y.routes.count w guarded) (list : Originals bases (returns_in parts returners) l stored.nodes w listed) where
      pub hops_quiet : {x : ℕ} → BusyIn guarded (returns_in parts returners) l listed w x → (b : ℕ) → b / 64 ≡ w → eqb (x / 2 ^ (b % 64) % 2) 1 ≡ false → block_hops (routes_in s y) nodes edges ends heads landings roots guards bases (returns_in parts returners) stored b ≡ []
      hops_quiet {x} busy = busy_quiet (routes_in s y) nodes edges ends heads landings roots guards bases (returns_in parts returners) stored y.routes.count (length-records route_from s y.routes) l listed w x guarded joined list busy

      pub word_quiet : BusyIn guarded (returns_in parts returners) l listed w 0 → (b : ℕ) → 64 * w ≤ b → b < 64 * w + 64 → block_hops (routes_in s y) nodes edges ends heads landings roots guards bases (returns_in parts returners) stored b ≡ []
      word_quiet busy b low high = hops_quiet busy b (omega arith) (none-set (b % 64))

      module _ {now : List ℕ} {last n : ℕ} (p : Going s y nodes edges ends heads landings roots guards bases parts returners stored exits now last n) (b : ℕ) where
        pub gather_room : length l ≡ length originals → b < blocks → b / 64 ≡ w → TriesIn (routes_in s y) nodes edges ends roots stored × (b < 1024) × (2 * (length edges + length ends) ≤ length now) × Originals bases (returns_in parts returners) l stored.nodes (b / 64) listed × RoutesThere s y × (stored.nodes ≤ length heads) × (stored.ends ≤ length landings) × (stored.nodes ≤ length l) × (16 * length (routes_in s y).routes ≤ length guards) × (16 * stored.nodes ≤ length parts) × Joins (λ r c. in_set guards r c) y.routes.count (b / 64) guarded
        gather_room long low here =
            let g = r.given in
            (g.tries, omega (arith, g.few), omega (arith, g.roomy.room, p.long), rw here list, g.there, g.heads_fit, g.landings_fit, omega (arith, g.originals_fit), g.sets.guards_fit, given_returns g, rw here joined)

    module _ {now : List ℕ} {last n : ℕ} (p : Going s y nodes edges ends heads landings roots guards bases parts returners stored exits now last n) where
      abbrev pub HeldAt : ℕ → List ℕ → ℕ → Type 0
      HeldAt b l k = BlockHeld (routes_in s y) b (block_records (routes_in s y) b nodes edges ends heads landings roots guards bases (returns_in parts returners) stored) edges ends now l k

      module _ (b : ℕ) where
        pub held_few : {l : List ℕ} {k : ℕ} → HeldAt b l k → k < 65536
        held_few h = omega (arith, h.most, r.given.roomy.edges_few, r.given.roomy.ends_few)

        pub held_stays : b < blocks → GoesOn worth turns last b → HeldAt b now n
        held_stays low on =
            let next = on.next in
            let few = r.given.few in
            let known = r.turning on.sought in
            let was = p.held (omega arith) in
            record {
              long = refl;
              holds = held_on (routes_in s y) nodes edges ends heads landings roots guards bases (returns_in parts returners) stored r.given.tries known.0 last b y.routes.count blocks turns (length-records route_from s y.routes) known.1 on low was.holds;
              most = was.most;
            }

        pub going_next : b < blocks → {l : List ℕ} {k : ℕ} → HeldAt b l k → Going s y nodes edges ends heads landings roots guards bases parts returners stored exits l b k
        going_next low h =
            let few = r.given.few in
            record { long = h.long ∙ p.long; most = omega arith; held = λ x. record { long = refl; holds = h.holds; most = h.most } }
