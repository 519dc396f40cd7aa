-- The last lines that tell why a program doesn't fit the chip.
use Rattle.std.specs.Prelude.{◌<◌, ⊤, ℕ, All, length, List, [], ◌++◌, codes, Option, Some, None, unwrap_or, option_map, slice_get}
use Rattle.std.specs.Fmt.{decimal}
use Rattle.std.specs.List.{flat_map}
use Rattle.rmt_core.specs.Types.{Program, Field, Header, Action, Table}
use Rattle.rmt_config.specs.declared.limits.LimitHit.{LimitHit}
use Rattle.rmt_bounds.specs.declared.bound.Proof.{Proof}
use Rattle.rmt_bounds.specs.declared.bound.Proof.TheVariants.{Chain, Sram, Tcam, Slots}
use Rattle.rmt_refine.specs.Units.{table_at}
use Rattle.rmt_build.specs.declared.fault.NoFit.{NoFit}
use Rattle.rmt_build.specs.declared.fault.NoFit.TheVariants.{NoMemory, Lookup, Step, Parser, Action as Deep, Phv, Stage, Load}

-- ---- the names of things, by their numbers

abbrev pub header_name : Program → ℕ → List ℕ
header_name p n = unwrap_or (option_map (λ (h : Header). h.name) (slice_get p.headers n)) []

abbrev pub field_name : Program → ℕ → List ℕ
field_name p n = unwrap_or (option_map (λ (f : Field). f.name) (slice_get p.fields n)) []

abbrev pub action_name : Program → ℕ → List ℕ
action_name p n = unwrap_or (option_map (λ (a : Action). a.name) (slice_get p.actions n)) []

-- a node is named as its table, or as `gate` and its number
abbrev pub name_or_gate : ℕ → Option Table → List ℕ
name_or_gate n (Some t) = t.name
name_or_gate n None = codes "gate" ++ decimal n

abbrev pub node_name : Program → ℕ → List ℕ
node_name p n = name_or_gate n (table_at p n)

-- ---- the lines

-- ` STAGE:LIMIT:SUM:NEED`
abbrev pub hit_text : LimitHit → List ℕ
hit_text hit = codes " " ++ (decimal hit.stage ++ (codes ":" ++ (decimal hit.limit ++ (codes ":" ++ (decimal hit.sum ++ (codes ":" ++ decimal hit.need))))))

-- `no fit`, the kind and its parts
abbrev pub no_fit_line : Program → NoFit → List ℕ
no_fit_line p NoMemory = []
no_fit_line p (Lookup header bytes) = codes "no fit lookup " ++ (header_name p header ++ (codes " " ++ (decimal bytes ++ codes "\n")))
no_fit_line p (Step header extracts) = codes "no fit step " ++ (header_name p header ++ (codes " " ++ (decimal extracts ++ codes "\n")))
no_fit_line p (Parser many) = codes "no fit parser " ++ (decimal many ++ codes "\n")
no_fit_line p (Deep action field) = codes "no fit action " ++ (action_name p action ++ (codes " " ++ (field_name p field ++ codes "\n")))
no_fit_line p (Phv field class) = codes "no fit phv " ++ (field_name p field ++ (codes " " ++ (decimal class ++ codes "\n")))
no_fit_line p (Stage node hits) = codes "no fit stage " ++ (node_name p node ++ (flat_map hit_text hits ++ codes "\n"))
no_fit_line p (Load node members cells) = codes "no fit load " ++ (node_name p node ++ (codes " " ++ (decimal members ++ (codes " " ++ (decimal cells ++ codes "\n")))))

-- each node of the chain that proves a bound is a node of the program
abbrev pub AreNodesOf : Program → Proof → Type 0
AreNodesOf p (Chain nodes) = All (λ n. n < length p.nodes) nodes
AreNodesOf p (Sram blocks) = ⊤
AreNodesOf p (Tcam blocks) = ⊤
AreNodesOf p (Slots tables) = ⊤
