-- What is kept of a node.
use Rattle.std.specs.Prelude.{◌≡◌, ℕ, ◌<◌, List, length, slice_index_or}
use Rattle.rmt_bits.specs.declared.lane.Lane.{Lane}
use Rattle.rmt_ast.specs.declared.program.Program.{Program}
use Rattle.rmt_deps.specs.declared.facts.Facts.{Facts}
use Rattle.rmt_deps.specs.NumberSets.{IsSet}
use Rattle.rmt_deps.specs.Edges.{keys_of, reads_of, writes_of, words_of_fields, guard_of, guards_of}

-- what is kept of the node of a number
pub record AreFacts (p : Program) (places : List (List Lane)) (n : ℕ) (facts : Facts) : Type 0 where
  pub keys : IsSet facts.keys (keys_of p n)
  pub reads : IsSet facts.reads (reads_of p n)
  pub writes : IsSet facts.writes (writes_of p n)
  pub words : IsSet facts.words (words_of_fields places (writes_of p n))
  pub guard : facts.guard ≡ guard_of p n
  pub guards : facts.guards ≡ guards_of p n

-- of all nodes
pub record AreAllFacts (p : Program) (places : List (List Lane)) (all : List Facts) : Type 0 where
  pub all_there : length all ≡ length p.nodes
  pub each : (n : ℕ) (d : Facts) → n < length all → AreFacts p places n (slice_index_or all n d)
