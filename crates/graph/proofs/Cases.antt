-- The sentences of document 01 that are marked §, as one table: a name, an image and the lines that its build must tell.
--     every_case    the test of all rows, computed
--     each_case     so the build of each row's image tells what the row says
use mathlib.Core.Path.{◌≡◌, refl, sym, ap, ap₂, ◌∙◌}
use mathlib.Core.Bool.{Bool, true, false, ◌&&◌, false≢true}
use mathlib.Core.List.{List, [], ◌∷◌, ◌++◌, map, Memᴰ}
use Prim.Native.Nat.{ℕ, suc}
use Prim.Native.String.{String}
use borrow.Author.Tests.{eqb-true}
use lib.Dec.{eqb}
use Rattle.image.specs.Image.{Image, RouteImage, table}
use Rattle.image.specs.declared.record.Header.{Header}
use Rattle.image.specs.declared.record.Instruction.{Instruction}
use Rattle.image.specs.declared.record.GivenSource.{GivenSource}
use Rattle.image.specs.declared.record.Handler.{Handler}
use Rattle.image.specs.declared.record.Step.{Step}
use Rattle.graph.specs.Flow.{Flow, Kind, Unresolved}
use Rattle.graph.specs.Build.{Outcome, built, refused, build_of}
use Rattle.graph.proofs.Computed.{computed, computed_is}

-- ---- images: headers, instructions, of which a `still` one keeps no exception edge, and the rest

abbrev mode : ℕ → Header
mode n = record { mode = n; calls = 0; has_entry = false; entry = 0 }

abbrev entering : ℕ → Header
entering a = record { mode = 0; calls = 0; has_entry = true; entry = a }

abbrev op : ℕ → ℕ → ℕ → ℕ → Instruction
op from to flow target = record { address = from; end = to; has_end = true; keeps = true; flow = flow; target = target; cases = 0 }

abbrev next : ℕ → ℕ → Instruction
next from to = op from to Flow.next 0

abbrev return : ℕ → ℕ → Instruction
return from to = op from to Flow.return 0

abbrev still : ℕ → Instruction
still a = record { address = a; end = suc a; has_end = true; keeps = false; flow = Flow.return; target = 0; cases = 0 }

abbrev endless : ℕ → Instruction
endless from = record { address = from; end = 0; has_end = false; keeps = true; flow = Flow.next; target = 0; cases = 0 }

-- the first one ends last; three in a row
abbrev overlap : List Instruction
overlap = next 0 8 ∷ return 2 4 ∷ []

abbrev three : List Instruction
three = still 0 ∷ still 1 ∷ still 2 ∷ []

-- a given source without edges; a handler at address 0
abbrev source : ℕ → GivenSource
source a = record { address = a; edges = 0 }

abbrev range : ℕ → ℕ → Handler
range from to = record { start = from; end = to; entry = 0; kind = 0; filter = 0 }

abbrev funclet : ℕ → Step
funclet a = record { code = 0; value = a }

abbrev call : ℕ → Step
call t = record { code = 1; value = t }

-- no route; one route whose one path has these n steps and then resumes
abbrev unrouted : RouteImage
unrouted = record { routes = []; paths = []; steps = [] }

abbrev resuming : ℕ → ℕ → ℕ → List Step → RouteImage
resuming from to n steps =
    record { routes = record { start = from; end = to; paths = 1 } ∷ []; paths = record { end = 2; handler = 0; steps = n } ∷ []; steps = steps }

abbrev image : Header → List Instruction → List GivenSource → List Handler → RouteImage → Image
image h is ss hs rs = record { header = h; instructions = is; cases = []; sources = ss; edges = []; handlers = hs; routes = rs }

abbrev flow : List Instruction → Image
flow is = image (mode 0) is [] [] unrouted

abbrev before_return : ℕ → ℕ → Image
before_return f target = flow (op 0 1 f target ∷ return 1 2 ∷ [])

abbrev guarded : List Handler → List Instruction → Image
guarded hs is = image (mode 0) is [] hs unrouted

abbrev routed : RouteImage → List Instruction → Image
routed rs is = image (mode 1) is [] [] rs

abbrev given : List GivenSource → List Instruction → Image
given ss is = image (mode 2) is ss [] unrouted

-- ---- what a build tells: a line for each block, edge, unresolved record and region, or the refusal

abbrev block : ℕ → ℕ → List ℕ
block first count = 0 ∷ first ∷ count ∷ []

-- n blocks of one instruction each, and more lines
abbrev blocks : ℕ → List (List ℕ) → List (List ℕ)
blocks n l = table (λ p. block p 1) n ++ l

abbrev edge : ℕ → ℕ → ℕ → List ℕ
edge source target kind = 1 ∷ source ∷ target ∷ kind ∷ []

abbrev unresolved : ℕ → ℕ → List ℕ
unresolved source role = 2 ∷ source ∷ role ∷ []

abbrev region : ℕ → ℕ → ℕ → ℕ → List ℕ
region has-parent parent start end = 3 ∷ has-parent ∷ parent ∷ start ∷ end ∷ []

abbrev refuses : ℕ → ℕ → ℕ → List ℕ
refuses number first second = 4 ∷ number ∷ first ∷ second ∷ []

pub tells : Outcome → List (List ℕ)
tells (refused r) = refuses r.number r.first r.second ∷ []
tells (built g) =
    map (λ b. block b.first b.count) g.blocks
    ++ map (λ e. edge e.source e.target e.kind) g.edges
    ++ map (λ u. unresolved u.source u.role) g.unresolved
    ++ map (λ r. region r.has_parent r.parent r.start r.end) g.regions

-- ---- the table

pub record Case : Type 0 where
  pub name : String
  pub image : Image
  pub told : List (List ℕ)

abbrev row : String → Image → List (List ℕ) → Case
row n m l = record { name = n; image = m; told = l }

pub cases : List Case
cases =
    -- 'Indirect, ConditionalIndirect, IndirectCall, Trap and ConditionalTrap have a first transfer without target.'
    row "Indirect" (before_return Flow.indirect 0) (blocks 2 (unresolved 0 Unresolved.indirect ∷ [])) ∷
    row "ConditionalIndirect" (before_return Flow.conditional_indirect 0) (blocks 2 (edge 0 1 Kind.conditional_false ∷ unresolved 0 Unresolved.conditional_indirect ∷ [])) ∷
    row "IndirectCall" (before_return Flow.indirect_call 0) (blocks 2 (edge 0 1 Kind.call_return ∷ unresolved 0 Unresolved.indirect_call ∷ [])) ∷
    row "Trap" (before_return Flow.trap 0) (blocks 2 (unresolved 0 Unresolved.trap ∷ [])) ∷
    row "ConditionalTrap" (before_return Flow.conditional_trap 0) (blocks 2 (edge 0 1 Kind.fallthrough ∷ unresolved 0 Unresolved.trap ∷ [])) ∷
    -- 'Return and Throw have none.'
    row "Return" (before_return Flow.return 0) (blocks 2 []) ∷
    row "Throw" (before_return Flow.throw 0) (blocks 2 []) ∷
    -- 'A Switch without cases has its default only.'
    row "Switch without cases" (before_return Flow.switch 1) (blocks 2 (edge 0 1 Kind.switch_case ∷ [])) ∷
    -- 'No instruction: one empty block, no edge.' 'No instruction but an entry: 6.'
    row "no instruction" (flow []) (block 0 0 ∷ []) ∷
    row "no instruction but an entry" (image (entering 7) [] [] [] unrouted) (refuses 6 7 0 ∷ []) ∷
    -- 'An absent end gives 3, an end at or below its address 4, both before the order check, which gives 5 also for equal
    -- addresses.'
    row "absent end" (flow (endless 8 ∷ [])) (refuses 3 8 0 ∷ []) ∷
    row "end at its address" (flow (next 8 8 ∷ [])) (refuses 4 8 0 ∷ []) ∷
    row "end below its address" (flow (next 8 7 ∷ [])) (refuses 4 8 0 ∷ []) ∷
    row "absent end before the order" (flow (next 8 9 ∷ endless 5 ∷ [])) (refuses 3 5 0 ∷ []) ∷
    row "end at its address before the order" (flow (next 8 9 ∷ next 5 5 ∷ [])) (refuses 4 5 0 ∷ []) ∷
    row "order" (flow (next 8 9 ∷ next 5 6 ∷ [])) (refuses 5 8 5 ∷ []) ∷
    row "equal addresses" (flow (next 8 9 ∷ next 8 10 ∷ [])) (refuses 5 8 8 ∷ []) ∷
    -- 'A range ending at the greatest end of all is accepted, one past it gives 12.'
    row "handler to the greatest end" (guarded (range 0 8 ∷ []) overlap) (blocks 2 (edge 0 0 Kind.exception_unwind ∷ edge 1 0 Kind.exception_unwind ∷ region 0 0 0 8 ∷ [])) ∷
    row "handler one past it" (guarded (range 0 9 ∷ []) overlap) (refuses 12 9 0 ∷ []) ∷
    row "route to the greatest end" (routed (resuming 0 8 0 []) overlap) (blocks 2 []) ∷
    row "route one past it" (routed (resuming 0 9 0 []) overlap) (refuses 12 9 0 ∷ []) ∷
    -- 'The parent is the smallest strictly containing region; of equal spans, the earlier.'
    row "smallest parent" (guarded (range 0 1 ∷ range 0 3 ∷ range 0 2 ∷ []) three) (blocks 3 (region 0 0 0 3 ∷ region 1 0 0 2 ∷ region 1 1 0 1 ∷ [])) ∷
    row "earlier parent" (guarded (range 1 2 ∷ range 1 3 ∷ range 0 2 ∷ []) three) (blocks 3 (region 0 0 1 3 ∷ region 0 0 0 2 ∷ region 1 0 1 2 ∷ [])) ∷
    -- 'In flow mode a fall-through (sequential, conditional or after a call) to no instruction start adds neither edge nor
    -- unresolved record; in given mode the sequential and call kinds give 16.'
    row "sequential to no start" (flow (next 0 1 ∷ return 3 4 ∷ [])) (blocks 2 []) ∷
    row "conditional to no start" (flow (op 0 1 Flow.conditional 3 ∷ return 3 4 ∷ [])) (blocks 2 (edge 0 1 Kind.conditional_true ∷ [])) ∷
    row "after a call to no start" (flow (op 0 1 Flow.call 3 ∷ return 3 4 ∷ [])) (blocks 2 (edge 0 1 Kind.call ∷ [])) ∷
    row "given, sequential to no start" (given (source 3 ∷ []) (next 0 1 ∷ return 3 4 ∷ [])) (refuses 16 0 1 ∷ []) ∷
    row "given, after a call to no start" (given (source 3 ∷ []) (op 0 1 Flow.call 3 ∷ return 3 4 ∷ [])) (refuses 16 0 1 ∷ []) ∷
    -- 'A given source with no edges still ends its block.'
    row "given source with no edges" (given (source 0 ∷ source 1 ∷ []) (next 0 1 ∷ return 1 2 ∷ [])) (blocks 2 []) ∷
    -- 'Resume after any funclet step gives 15, also with calls between.'
    row "Resume after a funclet" (routed (resuming 0 1 1 (funclet 1 ∷ [])) (next 0 1 ∷ return 1 2 ∷ [])) (refuses 15 0 0 ∷ []) ∷
    row "Resume after a funclet and calls" (routed (resuming 0 1 3 (funclet 1 ∷ call 7 ∷ call 8 ∷ [])) (next 0 1 ∷ return 1 2 ∷ [])) (refuses 15 0 0 ∷ []) ∷
    row "Resume after calls alone" (routed (resuming 0 1 2 (call 7 ∷ call 8 ∷ [])) (next 0 1 ∷ return 1 2 ∷ [])) (blocks 2 (edge 0 1 Kind.fallthrough ∷ [])) ∷
    []

-- ---- the test

module _ {A : Type 0} (eq : A → A → Bool) where
  abbrev same : List A → List A → Bool
  same [] [] = true
  same [] (b ∷ t) = false
  same (a ∷ s) [] = false
  same (a ∷ s) (b ∷ t) = eq a b && same s t

passes : Case → Bool
passes c = same (same eqb) (tells (computed c.image)) c.told

pub every : List Case → Bool
every [] = true
every (c ∷ cs) = passes c && every cs

pub every_case : every cases ≡ true
unfolding every cases passes tells computed table
every_case = refl

-- ---- what it says

both : (a b : Bool) → a && b ≡ true → (a ≡ true) × (b ≡ true)
both true b e = (refl, e)
both false b e = absurd (false≢true e)

module _ {A : Type 0} (eq : A → A → Bool) (sound : (a b : A) → eq a b ≡ true → a ≡ b) where
  same_sound : (s t : List A) → same eq s t ≡ true → s ≡ t
  same_sound [] [] e = refl
  same_sound [] (b ∷ t) e = absurd (false≢true e)
  same_sound (a ∷ s) [] e = absurd (false≢true e)
  same_sound (a ∷ s) (b ∷ t) e = ap₂ ◌∷◌ (sound a b (both (eq a b) (same eq s t) e).0) (same_sound s t (both (eq a b) (same eq s t) e).1)

of_every : (c : Case) (cs : List Case) → every cs ≡ true → Memᴰ c cs → passes c ≡ true
unfolding every
of_every c (d ∷ cs) e (Memᴰ.head p) = rw p (both (passes d) (every cs) e).0
of_every c (d ∷ cs) e (Memᴰ.tail p) = of_every c cs (both (passes d) (every cs) e).1 p
of_every c [] e x'' = elim x'' [ ]

pub each_case : (c : Case) → Memᴰ c cases → tells (build_of c.image) ≡ c.told
unfolding passes
each_case c p =
    ap tells (sym (computed_is c.image)) ∙ same_sound (same eqb) (same_sound eqb eqb-true) _ _ (of_every c cases every_case p)
