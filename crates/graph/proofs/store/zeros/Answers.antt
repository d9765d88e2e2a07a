-- `zeros` meets its contract: each record that `default` gives is of zeros. Assumes nothing.
use Rattle.std.specs.Prelude.{◌≡◌, List, ℕ, ◌<◌, replicate}
use native.Mathlib.Omega.{arith}
use mathlib.Core.Path.{sym, ◌∙◌}
use lib.Seq.{ext_get_or}
use lib.ListN.{get_or-replicate}
use Rattle.std.specs.Array.{AllOfLen}
use Rattle.graph.proofs.store.zeros.Goals as goal

zero_words : (ws : List ℕ) → AllOfLen (λ (w : ℕ). w ≡ 0) ws 16 → ws ≡ replicate 16 0
zero_words ws all = ext_get_or 0 ws (replicate 16 0) all.long (λ i h. let below : i < 16 = omega (arith, all.long) in all.at i 0 below ∙ sym (get_or-replicate 16 i 0 0 below))

pub returns-clause-words : goal.returns-clause-words
returns-clause-words c =
    λ t.
    record {
      counts = record { table = 0; blocks = 0; edges = 0; regions = 0; handlers = 0; unresolved = 0; calls = 0 };
      entry = 0;
      spare = replicate 24 0;
      table = replicate 512 (record { address = c.default.ensures.0 t; end = c.default.ensures.1.0 t; has_end = c.default.ensures.1.1.0 t; keeps = c.default.ensures.1.1.1.0 t; flow = c.default.ensures.1.1.1.1 t });
      blocks = replicate 1024 (record { first = c.default-2.ensures.0 t; count = c.default-2.ensures.1 t });
      edges = replicate 4096 (record { source = c.default-3.ensures.0 t; target = c.default-3.ensures.1.0 t; kind = c.default-3.ensures.1.1.0 t; role = c.default-3.ensures.1.1.1.0 t; number = c.default-3.ensures.1.1.1.1.0 t; key = c.default-3.ensures.1.1.1.1.1.0 t; source_address = c.default-3.ensures.1.1.1.1.1.1.0 t; target_address = c.default-3.ensures.1.1.1.1.1.1.1 t });
      regions = replicate 32 (record { has_parent = c.default-4.ensures.0 t; parent = c.default-4.ensures.1.0 t; start = c.default-4.ensures.1.1.0 t; end = c.default-4.ensures.1.1.1.0 t; handlers = c.default-4.ensures.1.1.1.1.0 t; protected = zero_words _ c.default-4.ensures.1.1.1.1.1 t });
      handlers = replicate 32 (record { region = c.default-5.ensures.0 t; place = c.default-5.ensures.1.0 t; entry = c.default-5.ensures.1.1.0 t; kind = c.default-5.ensures.1.1.1.0 t; filter = c.default-5.ensures.1.1.1.1 t });
      unresolved = replicate 1024 (record { source = c.default-6.ensures.0 t; target = c.default-6.ensures.1.0 t; role = c.default-6.ensures.1.1.0 t; case_index = c.default-6.ensures.1.1.1 t });
      calls = replicate 512 (record { source = c.default-7.ensures.0 t; has_target = c.default-7.ensures.1.0 t; target = c.default-7.ensures.1.1 t });
    }
