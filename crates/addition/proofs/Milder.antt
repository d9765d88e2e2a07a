-- What the walk theorem asks of the parts is less than demand 3's conditions: only entries and returning blocks count.
--     Milder, mild                 the milder conditions, and that they follow
--     Worded, worded               the conditions with copies counted and handlers looked for within blocks, from which demand 3's follow
--     reach_entry                  a part has the entry of no other funclet
use mathlib.Core.Path.{◌≡◌, sym, ◌∙◌}
use mathlib.Core.List.{List}
use Prim.Native.Nat.{ℕ, ◌+◌, ◌<◌}
use native.Mathlib.Decide.{ℕ_discrete}
use Rattle.image.specs.Deal.{UnwindRoute}
use Rattle.graph.specs.Graph.{Graph, block}
use Rattle.graph.specs.Table.{entry_at}
use Rattle.addition.specs.Blocks.{first_of}
use Rattle.addition.specs.Walk.{◌∈◌, Covers, Funclet, Handler, Begins, Reach, start, step, Part, Returning, Guarded}
use Rattle.addition.specs.Demand.{Conditions}

pub record Milder (g : Graph) (rs : List UnwindRoute) : Type 0 where
  -- the parts of different funclets share no returning block
  pub apart : (f f' b : ℕ) → Funclet rs f → Funclet rs f' → Part g rs f b → Part g rs f' b → Returning g b → f ≡ f'
  -- each part has one
  pub returns : (f e : ℕ) → Funclet rs f → Begins g f e → (b : ℕ) × Reach g rs f e b × Returning g b
  -- no guarded block is an entry or a returning block of a part
  pub entries : (f e : ℕ) → Funclet rs f → Begins g f e → Guarded g rs e → ⊥
  pub outside : (f b : ℕ) → Funclet rs f → Part g rs f b → Returning g b → Guarded g rs b → ⊥
  -- no handler begins a guarded block, a funclet, or a returning block of a part
  pub unguarded : (h b : ℕ) → Handler rs h → Begins g h b → Guarded g rs b → ⊥
  pub unnamed : (h b : ℕ) → Handler rs h → Begins g h b → Funclet rs h → ⊥
  pub unreached : (h b f : ℕ) → Handler rs h → Begins g h b → Funclet rs f → Part g rs f b → Returning g b → ⊥

pub mild : (g : Graph) (rs : List UnwindRoute) → Conditions g rs → Milder g rs
mild g rs c =
    record {
      apart = λ f f' b n n' p p' r. c.apart f f' b n n' p p';
      returns = c.returns;
      entries = λ f e n x. c.outside f e n (record { entry = e; begins = x; reach = start });
      outside = λ f b n p r. c.outside f b n p;
      unguarded = c.unguarded;
      unnamed = λ h b n x f. c.unreached h b h n x f (record { entry = b; begins = x; reach = start });
      unreached = λ h b f n x m p r. c.unreached h b f n x m p;
    }

pub reach_entry : {g : Graph} {rs : List UnwindRoute} {f e b : ℕ} (f' : ℕ) → Begins g f e → Funclet rs f' → Begins g f' b → Reach g rs f e b → f' ≡ f
reach_entry f' x n y start = sym y.address ∙ x.address
reach_entry {f = f} f' x n y (step r d there from to u k o) =
    elim (ℕ_discrete f' f) [ yes e ↦ e | no ne ↦ absurd (o (record { funclet = f'; named = n; another = ne; begins = y })) ]

-- ---- the strongest reading of the words

-- an instruction of block b starts at a: its first one, or one behind it
pub data Holds (g : Graph) (b a : ℕ) : Type 0 where
  first : (first_of g b).address ≡ a → Holds g b a
  behind : (k : ℕ) → k < (block g b).count → (entry_at g.table ((block g b).first + k)).address ≡ a → Holds g b a

-- a protected block that keeps its exception edge, built or copy
pub record Protected (g : Graph) (rs : List UnwindRoute) (b : ℕ) : Type 0 where
  pub keeps : (first_of g b).keeps ≡ 1
  pub route : UnwindRoute
  pub listed : route ∈ rs
  pub covers : Covers g route b

pub record Worded (g : Graph) (rs : List UnwindRoute) : Type 0 where
  pub apart : (f f' b : ℕ) → Funclet rs f → Funclet rs f' → Part g rs f b → Part g rs f' b → f ≡ f'
  pub returns : (f e : ℕ) → Funclet rs f → Begins g f e → (b : ℕ) × Reach g rs f e b × Returning g b
  -- 'no protected block that keeps its exception edge lies in a part (copies count)'
  pub outside : (f b : ℕ) → Funclet rs f → Part g rs f b → Protected g rs b → ⊥
  -- 'no handler address begins such a block or lies in a part'
  pub begins : (h b : ℕ) → Handler rs h → (first_of g b).address ≡ h → Protected g rs b → ⊥
  pub lies : (h f b : ℕ) → Handler rs h → Funclet rs f → Part g rs f b → Holds g b h → ⊥

pub worded : (g : Graph) (rs : List UnwindRoute) → Worded g rs → Conditions g rs
worded g rs w =
    record {
      apart = w.apart;
      returns = w.returns;
      outside = λ f b n p x. w.outside f b n p (protected b x);
      unguarded = λ h b n y x. w.begins h b n y.address (protected b x);
      unreached = λ h b f n y m p. w.lies h f b n m p (first y.address);
    }
  where
    protected : (b : ℕ) → Guarded g rs b → Protected g rs b
    protected b x = record { keeps = x.keeps; route = x.route; listed = x.listed; covers = x.covers }
