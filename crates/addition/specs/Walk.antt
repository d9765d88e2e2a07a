-- Walks over the returned hops, as 'Building and unwinding' words them: a reading of its own, by relations, of a graph
-- and the routes. No trie and no instance stands in it.
use Rattle.std.specs.Prelude.{◌≡◌, true, ◌⊎◌, ℕ, ◌≤◌, ◌<◌, length}
use mathlib.Core.List.{List, ◌∷◌, ◌++◌, map, Memᴰ}
use Rattle.image.specs.Deal.{UnwindStep, funclet, call, UnwindEnd, handler, propagate, resume, UnwindPath, UnwindRoute}
use Rattle.graph.specs.declared.record.Edge.{Edge}
use Rattle.graph.specs.Graph.{Graph}
use Rattle.graph.specs.Flow.{Flow, Kind}
use Rattle.graph.specs.WellFormed.{is_built}
use Rattle.addition.specs.Blocks.{first_of, last_of}
use Rattle.addition.specs.Ways.{HopEnd, block, leave, Hop}

infix 40 ◌∈◌
abbrev pub ◌∈◌ : {A : Type 0} → A → List A → Type 0
x ∈ l = Memᴰ x l

-- 'A funclet is an address that one of their steps names', and the address of a handler that ends one of their paths
pub record Funclet (rs : List UnwindRoute) (f : ℕ) : Type 0 where
  pub route : UnwindRoute
  pub path : UnwindPath
  pub listed : route ∈ rs
  pub written : path ∈ route.paths
  pub named : funclet f ∈ path.steps

pub record Handler (rs : List UnwindRoute) (h : ℕ) : Type 0 where
  pub route : UnwindRoute
  pub path : UnwindPath
  pub listed : route ∈ rs
  pub written : path ∈ route.paths
  pub named : path.end ≡ handler h

module _ (g : Graph) where
  -- a block that was built, and no copy
  pub record Built (b : ℕ) : Type 0 where
    pub exists : b < length g.blocks
    pub original : is_built g b ≡ true

  -- 'its entry is the built block that begins there'
  pub record Begins (a b : ℕ) : Type 0 where
    pub built : Built b
    pub address : (first_of g b).address ≡ a

  -- 'A returning block ends in Return, or in a Jump with no outgoing edge but those two kinds.'
  pub data Returning (b : ℕ) : Type 0 where
    by_return : (last_of g b).flow ≡ Flow.return → Returning b
    by_jump : (last_of g b).flow ≡ Flow.jump
        → ((d : Edge) → d ∈ g.edges → d.source ≡ b → (d.kind ≡ Kind.exception_unwind) ⊎ (d.kind ≡ Kind.call)) → Returning b

  -- 'A route covers a block whose first address is at or above the route's start and below its end'
  pub record Covers (r : UnwindRoute) (b : ℕ) : Type 0 where
    pub from : r.start ≤ (first_of g b).address
    pub before : (first_of g b).address < r.end

  -- the routes of one addition
  module _ (rs : List UnwindRoute) where
    -- the built block b starts a funclet other than f
    pub record Other (f b : ℕ) : Type 0 where
      pub funclet : ℕ
      pub named : Funclet rs funclet
      pub another : funclet ≡ f → ⊥
      pub begins : Begins funclet b

    -- 'the blocks reached from that entry, itself among them, without an ExceptionUnwind or Call edge and without entering
    -- the built block that starts another funclet of the routes'
    pub data Reach (f e : ℕ) : ℕ → Type 0 where
      start : Reach f e e
      step : {b c : ℕ} → Reach f e b → (d : Edge) → d ∈ g.edges → d.source ≡ b → d.target ≡ c
          → (d.kind ≡ Kind.exception_unwind → ⊥) → (d.kind ≡ Kind.call → ⊥) → (Other f c → ⊥) → Reach f e c

    -- block b lies in the part of funclet f
    pub record Part (f b : ℕ) : Type 0 where
      pub entry : ℕ
      pub begins : Begins f entry
      pub reach : Reach f entry b

    -- a protected block that was built and keeps its exception edge
    pub record Guarded (b : ℕ) : Type 0 where
      pub built : Built b
      pub keeps : (first_of g b).keeps ≡ 1
      pub route : UnwindRoute
      pub listed : route ∈ rs
      pub covers : Covers route b

    -- a route covering the block lists the path
    pub record Lists (b : ℕ) (p : UnwindPath) : Type 0 where
      pub route : UnwindRoute
      pub listed : route ∈ rs
      pub covers : Covers route b
      pub written : p ∈ route.paths

    -- the hops that the addition returned
    module _ (hs : List Hop) where
      -- a hop from b, with one of its call lists, to an end
      pub record Takes (b : ℕ) (calls : List ℕ) (end : HopEnd) : Type 0 where
        pub hop : Hop
        pub returned : hop ∈ hs
        pub from : hop.source ≡ b
        pub to : hop.end ≡ end
        pub list : calls ∈ hop.calls

      -- 'the source itself (Resume), leave (Propagate), a handler': there the walk is over
      pub data Ends (b : ℕ) (c : List ℕ) : UnwindEnd → Type 0 where
        resumes : Takes b c (block b) → Ends b c resume
        leaves : Takes b c leave → Ends b c propagate
        handles : {h : ℕ} (x : ℕ) → Takes b c (block x) → (x ≡ b → ⊥) → (first_of g x).address ≡ h → (Funclet rs h → ⊥)
            → Ends b c (handler h)

      -- 'a funclet (where the end block's first address is one), and then the walk goes on from any returning block of the
      -- part that the hop's end block starts, original or clone'
      pub record Enters (b : ℕ) (c : List ℕ) (f y : ℕ) : Type 0 where
        pub into : ℕ
        pub takes : Takes b c (block into)
        pub elsewhere : into ≡ b → ⊥
        pub named : Funclet rs f
        pub address : (first_of g into).address ≡ f
        pub reach : Reach f into y
        pub returning : Returning y

      -- a walk from a block spells, in the order met, the tags of its lists, its funclets and its end
      pub data Walk : ℕ → List UnwindStep → UnwindEnd → Type 0 where
        over : {b : ℕ} {s : List UnwindStep} {e : UnwindEnd} (c : List ℕ) → Ends b c e → s ≡ map call c → Walk b s e
        through : {b : ℕ} {s : List UnwindStep} {e : UnwindEnd} (c : List ℕ) (f y : ℕ) (t : List UnwindStep) → Enters b c f y → Walk y t e
            → s ≡ map call c ++ funclet f ∷ t → Walk b s e

      -- the returning blocks that a walk from b may take
      pub data May (b : ℕ) : ℕ → Type 0 where
        once : {c : List ℕ} {f y : ℕ} → Enters b c f y → May b y
        again : {c : List ℕ} {f x y : ℕ} → May b x → Enters x c f y → May b y
