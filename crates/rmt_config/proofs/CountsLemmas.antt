-- A configuration whose items keep the rules of form can be written: its counts fit their places.
use Rattle.std.proofs.Common.{◌≡◌, ℕ, ◌+◌, ◌^◌, ◌<◌, ◌≤◌, true, ltb, leb, List, [], ◌∷◌, length, arith}
use Rattle.std.specs.Prelude.{All, IsTrue, ◌&&◌}
use Rattle.std.specs.List.{list_all}
use Rattle.std.proofs.lemmas.Bool.{ltb-true, leb-true, and_parts}
use Rattle.std.proofs.lemmas.List.Elements.{All-nil, All-cons}
use Rattle.rmt_bits.proofs.AllLaws.{All-from_test}
use Rattle.rmt_config.specs.Types.{Config, OutHeader, ParserConfig, ParserState, ParserEntry, Stage, Unit as ChipUnit, Vliw}
use Rattle.rmt_config.specs.declared.config.Unit.TheVariants.{Gate, Slot}
use Rattle.rmt_config.specs.declared.form.code.InstructionRole.{InstructionRole}
use Rattle.rmt_config.specs.Order.{rises_from}
use Rattle.rmt_config.specs.LaneForm.{header_is_formed}
use Rattle.rmt_config.specs.ParserForm.{state_is_formed, states_are_formed, entry_is_formed, entries_are_formed, parser_is_formed}
use Rattle.rmt_config.specs.TailForm.{tails_are_formed}
use Rattle.rmt_config.specs.UnitForm.{unit_is_formed}
use Rattle.rmt_config.specs.CodeForm.{vliw_is_formed, code_is_formed, places_of}
use Rattle.rmt_config.specs.StageForm.{stage_is_formed}
use Rattle.rmt_config.specs.Form.{items_are_formed}
use Rattle.rmt_config.specs.Spelling.{CountsFitUnit, CountsFitHeader, CountsFitState, CountsFitEntry, CountsFitVliw, CountsFitStage, CountsFitParser, CountsFit}

header_counts : (h : OutHeader) → header_is_formed h ≡ true → CountsFitHeader h
header_counts h e = grind (arith, e)

-- numbers that rise below 128 are at most as many
few_offsets : (least : ℕ) (offsets : List ℕ) → least ≤ 128 → rises_from least offsets ≡ true → list_all (λ offset. ltb offset 128) offsets ≡ true
    → length offsets + least ≤ 128
few_offsets least [] small rise below = omega (arith, small)
few_offsets least (n ∷ ns) small rise below =
    let r = and_parts (leb least n) (rises_from (n + 1) ns) rise in
    let b = and_parts (ltb n 128) (list_all (λ offset. ltb offset 128) ns) below in
    let over : least ≤ n = leb-true least n r.0 in
    let under : n + 1 ≤ 128 = omega (arith, ltb-true n 128 b.0) in
    omega (arith, over, few_offsets (n + 1) ns under r.1 b.1)

state_counts : (s : ParserState) → state_is_formed s ≡ true → CountsFitState s
state_counts s e =
    let p = and_parts (rises_from 0 s.lookups) (list_all (λ offset. ltb offset 128) s.lookups) e in
    omega (arith, few_offsets 0 s.lookups (omega arith) p.0 p.1)

entry_counts : (states : List ParserState) (e : ParserEntry) → entry_is_formed states e ≡ true → CountsFitEntry e
entry_counts states e formed = grind (arith, formed)

parser_counts : (p : ParserConfig) → parser_is_formed p ≡ true → CountsFitParser p
parser_counts p e =
    let whole = and_parts (states_are_formed p.states && entries_are_formed p) (tails_are_formed p) e in
    let parts = and_parts (states_are_formed p.states) (entries_are_formed p) whole.0 in
    record {
      states = ltb-true _ _ (and_parts _ _ (and_parts _ _ parts.0).0).1;
      each_state = All-from_test CountsFitState state_is_formed state_counts p.states (and_parts _ _ parts.0).1;
      entries = ltb-true _ _ (and_parts _ _ (and_parts _ _ parts.1).0).0;
      each_entry = All-from_test CountsFitEntry (entry_is_formed p.states) (entry_counts p.states) p.entries (and_parts _ _ (and_parts _ _ parts.1).0).1;
    }

unit_counts : (u : ChipUnit) → unit_is_formed u ≡ true → CountsFitUnit u
unit_counts (Gate g) e = grind (arith, e)
unit_counts (Slot s) e =
    let numbers = and_parts _ _ (and_parts _ _ (and_parts _ _ e).0).0 in
    record { keys = ltb-true _ _ (and_parts _ _ (and_parts _ _ numbers.0).0).1; numbers = ltb-true _ _ numbers.1 }

vliw_counts : (place : InstructionRole) (v : Vliw) → vliw_is_formed place v ≡ true → CountsFitVliw v
vliw_counts place v e = grind (arith, e)

code_counts : (places : List InstructionRole) (code : List Vliw) → code_is_formed places code ≡ true → All CountsFitVliw code
code_counts [] [] e = All-nil CountsFitVliw
code_counts [] (v ∷ code) e = absurd cc
code_counts (place ∷ places) [] e = All-nil CountsFitVliw
code_counts (place ∷ places) (v ∷ code) e =
    let p = and_parts (vliw_is_formed place v) (code_is_formed places code) e in
    All-cons CountsFitVliw v code (vliw_counts place v p.0) (code_counts places code p.1)

stage_counts : (s : Stage) → stage_is_formed s ≡ true → CountsFitStage s
stage_counts s e =
    let srows = and_parts _ _ (and_parts _ _ (and_parts _ _ e).0).0 in
    let code = and_parts _ _ (and_parts _ _ srows.0).0 in
    let each = and_parts _ _ code.0 in
    record {
      units = ltb-true _ _ (and_parts _ _ each.0).1;
      each_unit = All-from_test CountsFitUnit unit_is_formed unit_counts s.units each.1;
      each_vliw = code_counts (places_of s.units) s.code code.1;
      srows = ltb-true _ _ (and_parts _ _ srows.0).1;
      trows = ltb-true _ _ (and_parts _ _ (and_parts _ _ e).0).1;
    }

at_most_64 : (n : ℕ) → n ≤ 64 → n < 2 ^ 8
at_most_64 n le = omega (arith, le)

pub counts_fit : (c : Config) → IsTrue (items_are_formed c) → CountsFit c
counts_fit c e =
    let whole = and_parts _ _ e in
    let parser = and_parts _ _ (and_parts _ _ whole.0).0 in
    let headers = and_parts _ _ (and_parts _ _ parser.0).1 in
    let stages = and_parts _ _ (and_parts _ _ whole.1).0 in
    record {
      headers = at_most_64 _ (leb-true _ _ headers.0);
      each_header = All-from_test CountsFitHeader header_is_formed header_counts c.headers headers.1;
      parser = parser_counts c.parser parser.1;
      stages = ltb-true _ _ stages.0;
      each_stage = All-from_test CountsFitStage stage_is_formed stage_counts c.stages stages.1;
    }

-- each stage of a configuration whose items keep their rules keeps its own
pub stages_of_items : (c : Config) → IsTrue (items_are_formed c) → IsTrue (list_all stage_is_formed c.stages)
stages_of_items c e =
    (and_parts _ _ (and_parts _ _ (and_parts _ _ e).1).0).1
