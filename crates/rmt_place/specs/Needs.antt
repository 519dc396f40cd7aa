-- What a node demands of a stage, and what the nodes of a stage take together.
use Rattle.std.specs.Prelude.{ℕ, ◌+◌, ◌*◌, List, [], ◌∷◌, Bool, nat_le, length, map, slice_get, slice_index_or, option_map, unwrap_or, sum_by}
use Rattle.std.specs.List.{flat_map, list_all}
use Rattle.rmt_bits.specs.Words.{word_size}
use Rattle.rmt_bits.specs.declared.lane.Lane.{Lane}
use Rattle.rmt_ast.specs.declared.program.Program.{Program}
use Rattle.rmt_ast.specs.declared.program.Table.{Table}
use Rattle.rmt_ast.specs.declared.program.Kind.{Kind}
use Rattle.rmt_ast.specs.declared.program.Node.{Node}
use Rattle.rmt_ast.specs.declared.program.What.{What}
use Rattle.rmt_ast.specs.declared.program.What.TheVariants.{Apply, Gate}
use Rattle.rmt_ast.specs.declared.program.Kind.TheVariants.{Keyless, Exact, Prefix, Ternary}
use Rattle.rmt_config.specs.Limits.{most_of}
use Rattle.rmt_config.specs.Resources.{distinct}
use Rattle.rmt_deps.specs.Edges.{words_of_fields}
use Rattle.rmt_pack.specs.Formats.{memory_format}
use Rattle.rmt_pack.specs.Placements.{data_bits, table_need}
use Rattle.rmt_place.specs.declared.demand.Demand.{Demand}

-- ---- what a node demands

-- the words that an exact key reads
abbrev pub if_exact : Kind → List ℕ → List ℕ
if_exact Keyless words = []
if_exact Exact words = words
if_exact Prefix words = []
if_exact Ternary words = []

-- those that a prefix or ternary key reads
abbrev pub if_ternary : Kind → List ℕ → List ℕ
if_ternary Keyless words = []
if_ternary Exact words = []
if_ternary Prefix words = words
if_ternary Ternary words = words

-- a table has a slot, its listed actions and its default as instructions, and the data of an entry
abbrev pub table_demand : Program → List (List Lane) → Table → Demand
table_demand p places t =
    let format = memory_format t.kind (table_need p t) in
    record {
      quanta = format.quanta;
      sram = format.sram;
      tcam = format.tcam;
      exact_words = if_exact t.kind (words_of_fields places t.key);
      ternary_words = if_ternary t.kind (words_of_fields places t.key);
      slots = 1;
      instructions = length t.actions + 1;
      held = data_bits p t;
      gates = 0;
    }

-- a gate reads the words of its field over the ternary crossbar
abbrev pub gate_demand : List (List Lane) → ℕ → Demand
gate_demand places field = record {
  quanta = 1;
  sram = 0;
  tcam = 0;
  exact_words = [];
  ternary_words = words_of_fields places (field ∷ []);
  slots = 0;
  instructions = 0;
  held = 0;
  gates = 1;
}

-- what needs nothing
abbrev pub nothing : Demand
nothing = record { quanta = 0; sram = 0; tcam = 0; exact_words = []; ternary_words = []; slots = 0; instructions = 0; held = 0; gates = 0 }

abbrev pub what_demands : Program → List (List Lane) → What → Demand
what_demands p places (Apply t) = unwrap_or (option_map (table_demand p places) (slice_get p.tables t)) nothing
what_demands p places (Gate field test) = gate_demand places field

-- what each node of a program needs
abbrev pub demands_of : Program → List (List Lane) → List Demand
demands_of p places = map (λ (node : Node). what_demands p places node.what) p.nodes

-- what the node of a number needs
abbrev pub demand_at : List Demand → ℕ → Demand
demand_at demands n = slice_index_or demands n nothing

-- ---- what stands in a stage

-- a node that has some quanta in a stage, at least one
pub record Standing : Type 0 where
  pub demand : Demand
  pub quanta : ℕ

-- a limit of the chip on a stage, by its number: the sum there, and the most that there may be
pub record Sum : Type 0 where
  pub limit : ℕ
  pub sum : ℕ
  pub most : ℕ

-- the bits of some words, each word whole and once
abbrev pub bits_of_words : List ℕ → ℕ
bits_of_words words = sum_by word_size (distinct words)

-- a sum of a limit, which has its most among the limits of the chip
abbrev pub sum_for : ℕ → ℕ → Sum
sum_for limit sum = record { limit = limit; sum = sum; most = most_of limit }

-- the sums of a stage, by the numbers of their limits
abbrev pub sums_of : List Standing → List Sum
sums_of xs =
    sum_for 6 (sum_by (λ x. x.quanta * x.demand.sram) xs)
    ∷ sum_for 7 (sum_by (λ x. x.quanta * x.demand.tcam) xs)
    ∷ sum_for 8 (bits_of_words (flat_map (λ x. x.demand.exact_words) xs))
    ∷ sum_for 9 (bits_of_words (flat_map (λ x. x.demand.ternary_words) xs))
    ∷ sum_for 10 (sum_by (λ x. x.demand.slots) xs)
    ∷ sum_for 11 (sum_by (λ x. x.demand.instructions) xs)
    ∷ sum_for 12 (sum_by (λ x. x.demand.held) xs)
    ∷ sum_for 13 (sum_by (λ x. x.demand.gates) xs)
    ∷ []

-- a stage keeps all its limits
abbrev pub keeps_limits : List Standing → Bool
keeps_limits xs = list_all (λ (s : Sum). nat_le s.sum s.most) (sums_of xs)
