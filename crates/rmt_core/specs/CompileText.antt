-- What `compile` prints of what it made.
use Rattle.std.specs.Prelude.{ℕ, Bool, List, ◌++◌, ◌==◌, codes, if◌then◌else◌, length}
use Rattle.std.specs.Fmt.{decimal}
use Rattle.std.specs.List.{flat_map}
use Rattle.rmt_core.specs.Types.{Program, Config}
use Rattle.rmt_config.specs.ChipRun.{latency_of}
use Rattle.rmt_bounds.specs.declared.bound.Bound.{Bound}
use Rattle.rmt_bounds.specs.declared.bound.Proof.{Proof}
use Rattle.rmt_bounds.specs.declared.bound.Proof.TheVariants.{Chain, Sram, Tcam, Slots}
use Rattle.rmt_core.specs.NoFitText.{node_name}

-- `stages S latency L`
abbrev pub stages_line : Config → List ℕ
stages_line c = codes "stages " ++ (decimal (length c.stages) ++ (codes " latency " ++ (decimal (latency_of c.stages) ++ codes "\n")))

-- ` NAME`
abbrev pub chain_part : Program → ℕ → List ℕ
chain_part p node = codes " " ++ node_name p node

-- what proves a bound: a chain of nodes, or so many blocks or tables
abbrev pub proof_text : Program → Proof → List ℕ
proof_text p (Chain nodes) = codes "chain" ++ flat_map (chain_part p) nodes
proof_text p (Sram blocks) = codes "sram " ++ decimal blocks
proof_text p (Tcam blocks) = codes "tcam " ++ decimal blocks
proof_text p (Slots tables) = codes "slots " ++ decimal tables

-- `bound B` and its proof
abbrev pub bound_line : Program → Bound → List ℕ
bound_line p b = codes "bound " ++ (decimal b.stages ++ (codes " " ++ (proof_text p b.proof ++ codes "\n")))

-- `minimal yes` where there are no more stages than the bound
abbrev pub minimal_line : Bool → List ℕ
minimal_line is_minimal = if is_minimal then codes "minimal yes\n" else codes "minimal no\n"

-- the stages and the latency, the bound with its proof, and whether no placement has fewer stages
abbrev pub compile_text : Program → Config → Bound → List ℕ
compile_text p c b = stages_line c ++ (bound_line p b ++ minimal_line (length c.stages == b.stages))
