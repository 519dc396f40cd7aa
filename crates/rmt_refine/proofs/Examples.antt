-- Worked rows: keys and arguments as numbers, what keys find in a ternary table in two parts, outcomes, instructions and edges.
use Rattle.std.proofs.Common.{◌≡◌, ℕ, zero, suc, ◌+◌, ◌*◌, List, [], ◌∷◌, Option, Some, None, refl, subst, arith}
use Rattle.std.specs.Prelude.{if◌then◌else◌, ◌==◌, map, Contains}
use Rattle.std.proofs.lemmas.List.Elements.{All-nil, All-cons}
use Rattle.std.proofs.lemmas.Option.{none-some, same_Some}
use Rattle.rmt_bits.specs.Bits.{slice}
use Rattle.rmt_bits.specs.declared.lane.Lane.{Lane}
use Rattle.rmt_refine.specs.Types.{Program, Operation}
use Rattle.rmt_ast.specs.declared.program.Kind.TheVariants.{Ternary}
use Rattle.rmt_ast.specs.declared.program.What.TheVariants as what
use Rattle.rmt_ast.specs.declared.deps.EdgeKind.TheVariants as edges
use Rattle.rmt_ast.specs.Lookup.{hit_of}
use Rattle.rmt_ast.specs.State.{IsState, joined}
use Rattle.rmt_ast.proofs.Programs.{apply_in_arm, apply_table}
use Rattle.rmt_config.specs.Cells.{Content, Found}
use Rattle.rmt_refine.specs.View.{View, look_in, own_content, own_view}
use Rattle.rmt_phv.specs.Places.{high_first}
use Rattle.rmt_refine.specs.Units.{last_stage, nodes_in, table_at, tests_of}
use Rattle.rmt_config.specs.Rooms.{tests_as_one}
use Rattle.rmt_refine.specs.LookUps.{FindsAs}
use Rattle.rmt_refine.specs.Outcomes.{IsSetIn, node_outcome, run_before}
use Rattle.rmt_refine.specs.Code.{WritesWordsOf, assigned_lanes}
use Rattle.rmt_config.specs.Effects.{held_by, words_after, HasArguments}
use Rattle.rmt_refine.specs.Carries.{all_edges}
use Rattle.rmt_refine.proofs.CellsExamples.{ports_cells}
use Rattle.rmt_refine.proofs.FormExamples.{are_entries, is_program}
use Rattle.rmt_refine.proofs.PlacesExamples.{units_carried}
use Rattle.rmt_refine.proofs.TheLaw.{look_up_law}
use Rattle.rmt_refine.proofs.TwoStages.{cells, config, entries, first_line, lane, lists, lowest_last, parts, places, ports, program, send, test}

-- ---- numbers

-- fields of 4 and 8 bits, the first one highest
pub two_tests : tests_as_one (λ t. t.value) (4 ∷ 8 ∷ []) (test 0xa 0xf ∷ test 0x50 0xf0 ∷ []) ≡ 0xa50
two_tests = refl

pub two_masks : tests_as_one (λ t. t.mask) (4 ∷ 8 ∷ []) (test 0xa 0xf ∷ test 0x50 0xf0 ∷ []) ≡ 0xff0
two_masks = refl

-- arguments of 9 and 4 bits stand from bit 0 upward; what lies above is left aside
pub two_arguments : HasArguments (9 ∷ 4 ∷ []) (5 ∷ 3 ∷ []) (0xffff * 8192 + 3 * 512 + 5)
two_arguments zero w e = subst (λ len. slice (0xffff * 8192 + 3 * 512 + 5) 0 len ≡ 5) (same_Some 9 w e) refl
two_arguments (suc zero) w e = subst (λ len. slice (0xffff * 8192 + 3 * 512 + 5) 9 len ≡ 3) (same_Some 4 w e) refl
two_arguments (suc (suc i)) w e = absurd (none-some w e)

-- ---- places

-- a field of 40 bits in two lanes, and one of 8 bits
abbrev two_fields : List (List Lane)
two_fields = (lane 1 0 32 ∷ lane 65 8 8 ∷ []) ∷ (lane 65 0 8 ∷ []) ∷ []

-- keys begin with the highest bits of the first field
pub key_lanes : high_first two_fields (0 ∷ 1 ∷ []) ≡ lane 65 8 8 ∷ lane 1 0 32 ∷ lane 65 0 8 ∷ []
key_lanes = refl

-- so do the tests of a gate, each with its part of the value and of the mask
pub gate_tests : tests_of two_fields 0 (test 0xa100000002 0xff0000000f)
    ≡ record { lane = lane 65 8 8; value = 0xa1; mask = 0xff } ∷ record { lane = lane 1 0 32; value = 2; mask = 15 } ∷ []
gate_tests = refl

-- ---- a ternary table in two parts

pub node_in_both : (nodes_in program parts 0 ≡ 0 ∷ 1 ∷ []) × (nodes_in program parts 1 ≡ 1 ∷ 2 ∷ []) × (nodes_in program parts 2 ≡ []) × (last_stage parts 1 ≡ 1)
node_in_both = (refl, refl, refl, refl)

pub its_table_is : table_at program 1 ≡ Some ports
its_table_is = refl

abbrev found : ℕ → ℕ → ℕ → Option Found
found code held number = Some (record { code = code; held = held; number = number })

abbrev look : ℕ → ℕ → ℕ → Option Found
look = look_in config (own_view config)

-- of two lines of one priority the first, and nothing of it in stage 1
pub finds_first_line : (look 0 1 0x32 ≡ found 1 2 1) × (look 1 0 0x32 ≡ None)
finds_first_line = (refl, refl)

-- the lower priority number, which stands in an earlier stage
pub finds_lower : (look 0 1 0x12 ≡ found 1 2 1) × (look 1 0 0x12 ≡ found 0 1 0)
finds_lower = (refl, refl)

-- a line of the second part alone
pub finds_later : (look 0 1 0x15 ≡ None) × (look 1 0 0x15 ≡ found 0 1 0)
finds_later = (refl, refl)

pub finds_none : (look 0 1 0x55 ≡ None) × (look 1 0 0x55 ≡ None)
finds_none = (refl, refl)

-- no slot stands at the next place, nor in the next stage
pub no_slot : (look 0 2 0x32 ≡ None) × (look 2 0 0x32 ≡ None)
no_slot = (refl, refl)

-- what the language says of these keys
pub hits_first_line : hit_of Ternary (4 ∷ []) entries (0 ∷ 0 ∷ 0 ∷ 1 ∷ 0x32 ∷ 0 ∷ []) ≡ Some first_line
hits_first_line = refl

pub hits_later : hit_of Ternary (4 ∷ []) entries (0 ∷ 0 ∷ 0 ∷ 1 ∷ 0x15 ∷ 0 ∷ []) ≡ Some lowest_last
hits_later = refl

-- with the first two rows the other way round another line is found
abbrev swapped : ℕ → ℕ → ℕ → Content
swapped k place zero = own_content config k place 1
swapped k place (suc zero) = own_content config k place 0
swapped k place (suc (suc n)) = own_content config k place (suc (suc n))

abbrev swapped_view : View
swapped_view = record { seed = 0; content = swapped; number = λ k place n. n + 1 }

pub finds_other : look_in config swapped_view 0 1 0x32 ≡ found 1 3 1
finds_other = refl

-- every key finds the line that it hits
pub every_key : (s : List ℕ) → IsState program s → FindsAs program config (own_view config) 1 ports (joined program (4 ∷ []) s) (hit_of Ternary (4 ∷ []) entries s)
every_key s state =
    look_up_law program lists places parts (0 ∷ 3 ∷ []) config (own_view config) cells 1 ports entries s is_program are_entries state refl refl units_carried ports_cells

-- ---- outcomes

-- a hit gives 2 and the action's place, a miss 1
pub outcomes_of_table :
    (node_outcome program entries (0 ∷ 0 ∷ 0 ∷ 1 ∷ 0x32 ∷ 0 ∷ []) (what.Apply 1) ≡ 2) × (node_outcome program entries (0 ∷ 0 ∷ 0 ∷ 1 ∷ 0x55 ∷ 0 ∷ []) (what.Apply 1) ≡ 1)
outcomes_of_table = (refl, refl)

pub outcomes_of_gate :
    (node_outcome program [] (0 ∷ 0 ∷ 0 ∷ 1 ∷ 0x32 ∷ 0 ∷ []) (what.Gate 4 (test 2 15)) ≡ 2) × (node_outcome program [] (0 ∷ 0 ∷ 0 ∷ 1 ∷ 0x35 ∷ 0 ∷ []) (what.Gate 4 (test 2 15)) ≡ 1)
outcomes_of_gate = (refl, refl)

-- the state and the outcomes before the first node, behind it, where the byte was copied, and behind the next one, where the port was set
pub before_nodes :
    (run_before program lists (7 ∷ 0 ∷ 0 ∷ 1 ∷ 0x32 ∷ 0 ∷ []) 0 ≡ record { state = 7 ∷ 0 ∷ 0 ∷ 1 ∷ 0x32 ∷ 0 ∷ []; outcomes = 0 ∷ 0 ∷ 0 ∷ []; hits = [] })
    × (run_before program lists (7 ∷ 0 ∷ 0 ∷ 1 ∷ 0x32 ∷ 0 ∷ []) 1 ≡ record { state = 7 ∷ 0 ∷ 0 ∷ 1 ∷ 0x32 ∷ 0x32 ∷ []; outcomes = 1 ∷ 0 ∷ 0 ∷ []; hits = [] })
    × (run_before program lists (7 ∷ 0 ∷ 0 ∷ 1 ∷ 0x32 ∷ 0 ∷ []) 2 ≡ record { state = 7 ∷ 2 ∷ 0 ∷ 1 ∷ 0x32 ∷ 0x32 ∷ []; outcomes = 1 ∷ 2 ∷ 0 ∷ []; hits = 1 ∷ [] })
before_nodes = (refl, refl, refl)

-- a miss is told in the last stage
pub miss_told : IsSetIn program parts config (own_view config) entries (0 ∷ 0 ∷ 0 ∷ 1 ∷ 0x55 ∷ 0 ∷ []) 1 (what.Apply 1) 1
miss_told = refl

-- ---- instructions

-- the low 9 bits of the record are copied to out_port
pub sends : (words_after send 5 (λ w. 0) 129 ≡ 5) × (words_after send 5 (λ w. 3) 128 ≡ 3) × (held_by (words_after send 5 (λ w. 0)) (lane 129 0 9 ∷ []) ≡ 5)
sends = (refl, refl, refl)

abbrev IsOwnWord : Operation → Type 0
IsOwnWord op = Contains (map (λ (l : Lane). l.word) (assigned_lanes program places 0)) op.word

pub sends_in_word : WritesWordsOf (assigned_lanes program places 0) send
sends_in_word = All-cons IsOwnWord _ [] (0, omega arith, refl) (All-nil IsOwnWord)

-- a field in two lanes, the low one first
pub two_lanes : held_by (λ w. if w == 1 then 0xdeadbeef else 0xa100) (lane 1 0 32 ∷ lane 65 8 8 ∷ []) ≡ 0xa1deadbeef
two_lanes = refl

-- ---- guards and edges

-- a table in an arm of a table's hits, in the stage behind it
abbrev guarded : Program
guarded = record program { tables = ports ∷ ports ∷ []; nodes = apply_table 0 ∷ apply_in_arm 0 4 1 ∷ [] }

pub edges_there : all_edges guarded places
    ≡ record { from = 0; to = 1; kind = edges.Action } ∷ record { from = 0; to = 1; kind = edges.Successor } ∷ record { from = 0; to = 1; kind = edges.Word } ∷ []
edges_there = refl
