-- The program on two stages: each of the seven parts of carrying it is broken by one small change.
use Rattle.std.proofs.Common.{◌≡◌, ◌+◌, ◌<◌, ◌≤◌, Bool, true, false, List, [], ◌∷◌, length, map, Some, refl, sym, ap, inl, inr, arith}
use Rattle.std.specs.Prelude.{All, Contains, slice_index}
use Rattle.std.proofs.lemmas.List.Elements.{All-cons, All-head, All-nil}
use Rattle.rmt_bits.specs.declared.lane.Lane.{Lane}
use Rattle.rmt_ast.specs.declared.deps.EdgeKind.TheVariants as edges
use Rattle.rmt_ast.specs.declared.names.Names.{Names}
use Rattle.rmt_ast.specs.Walk.{Walk}
use Rattle.rmt_ast.specs.Walk as walks
use Rattle.rmt_deps.specs.Edges.{edge}
use Rattle.rmt_refine.specs.Types.{Config, ParserConfig, Stage, Operation}
use Rattle.rmt_config.specs.declared.config.Extract.TheVariants.{Bits, One as PutOne}
use Rattle.rmt_config.specs.declared.config.Next.TheVariants as next
use Rattle.rmt_config.specs.declared.config.Source.TheVariants.{Word}
use Rattle.rmt_config.specs.declared.config.Unit.TheVariants.{Slot}
use Rattle.rmt_refine.specs.Carries.{Carries}
use Rattle.rmt_refine.proofs.ListedLaws.{never}
use Rattle.rmt_refine.proofs.TwoStages.{config, copy, entries, first_line, first_stage, its_map, its_parser, keyless_unit, lane, lists, note, number_at, ports, ports_unit, program, second_stage, send, send_zero}
use Rattle.rmt_bits.proofs.MemberLaws.{Contains-split}

-- a configuration with another first stage
abbrev with_first : Stage → Config
with_first stage = record config { stages = stage ∷ second_stage ∷ [] }

-- the mark of dropping is read from the valid bit
pub other_drop : Carries program lists its_map (record config { drop = lane 0 1 1 }) → ⊥
other_drop h =
    let e = h.places.drop in
    let low : 0 ≡ 1 = ap (λ (ls : List Lane). slice_index (map (λ (l : Lane). l.low) ls) 0) e in
    omega (arith, low)

-- the parser rejects
abbrev rejecting : ParserConfig
rejecting = record its_parser {
  entries = record { state = 0; value = 0; mask = 0; need = 1; advance = 1; next = next.Reject; extracts = PutOne (lane 0 1 1) ∷ Bits 0 (lane 1 0 8) ∷ [] } ∷ [];
}

abbrev is_accepted : Walk → Bool
is_accepted walks.Short = false
is_accepted walks.Reject = false
is_accepted (walks.Accept r) = true

pub other_parser : Carries program lists its_map (record config { parser = rejecting }) → ⊥
other_parser h =
    let e = h.parser 0 (0 ∷ []) (All-cons (λ b. b < 256) 0 [] (omega arith) (All-nil (λ b. b < 256))) in
    let accepted : true ≡ false = ap is_accepted e in
    never (sym accepted)

-- the first part of the ternary table runs the default
abbrev last_first : Stage
last_first = record first_stage { units = Slot (keyless_unit 0) ∷ Slot (ports_unit true (number_at 0 1 ∷ number_at 1 2 ∷ [])) ∷ [] }

pub other_unit : Carries program lists its_map (with_first last_first) → ⊥
other_unit h = never (sym (h.units.units 0 (omega arith)).1.0.does.last)

-- a line compares more bits than its entry does
abbrev wide_mask : Stage
wide_mask = record first_stage { trows = record { block = 0; row = 0; value = 0x02; mask = 0xff } ∷ record { block = 0; row = 1; value = 0x32; mask = 0xff } ∷ [] }

pub other_cell : Carries program lists its_map (with_first wide_mask) → ⊥
other_cell h =
    let table = h.cells.tables 1 ports entries refl refl in
    let holds = table.holds first_line (record { stage = 0; place = 1; cell = 0 }) wide_mask (1, omega arith, refl) (refl, omega arith) (1, omega arith, refl) refl in
    let mask : 0xff ≡ 0x0f = holds.mask in
    omega (arith, mask)

-- the instruction of note writes the word behind that of its field
abbrev next_word : Stage
next_word = record first_stage { code = record { ops = copy (lane 3 0 8) (Word 1 0) ∷ [] } ∷ record { ops = send } ∷ record { ops = send_zero } ∷ [] }

pub other_code : Carries program lists its_map (with_first next_word) → ⊥
other_code h =
    let code = h.code 0 0 0 note next_word (keyless_unit 0) refl refl refl refl in
    let IsOwn : Operation → Type 0 = λ op. Contains (2 ∷ []) op.word in
    let words : All IsOwn (copy (lane 3 0 8) (Word 1 0) ∷ []) = code.default.words in
    let own : Contains (2 ∷ []) 3 = All-head IsOwn (copy (lane 3 0 8) (Word 1 0)) [] words in
    elim (Contains-split 2 [] 3 own) [
      | inl e ↦ omega (arith, e)
      | inr later ↦ let none = later.1 in omega (arith, none)
    ]

-- the second stage starts 2 cycles behind the first, and reads what that one hasn't written
abbrev early : Config
early = record config { stages = first_stage ∷ record second_stage { start = 2 } ∷ [] }

pub other_start : Carries program lists (record its_map { starts = 0 ∷ 2 ∷ [] }) early → ⊥
other_start h =
    let apart = h.edges.distances.apart (edge 0 2 edges.Action) 0 1 (0, omega arith, refl) (0, omega arith, refl) (0, omega arith, refl) (omega arith) in
    let le : 0 + 3 ≤ 2 = apart in
    omega (arith, le)

-- names without the table that has a key
pub other_names : Carries program lists its_map (record config { names = Some (record { tables = [] }) }) → ⊥
other_names h =
    let e = h.names.names_are in
    let tables : 0 ≡ 1 = ap (λ (names : Names). length names.tables) e in
    omega (arith, tables)
