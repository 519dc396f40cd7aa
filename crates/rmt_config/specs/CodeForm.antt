-- The rules of form of instructions, each at its place in a slot.
use Rattle.std.specs.Prelude.{ℕ, ◌+◌, ◌^◌, List, [], ◌∷◌, length, map, replicate, ◌++◌, Bool, true, false, not, ◌&&◌, ◌==◌, nat_lt, nat_le}
use Rattle.std.specs.List.{flat_map, list_all}
use Rattle.rmt_bits.specs.Words.{word_size}
use Rattle.rmt_bits.specs.declared.lane.Lane.{Lane}
use Rattle.rmt_config.specs.Types.{Unit, SlotUnit, Vliw, Operation, OpKind, Source}
use Rattle.rmt_config.specs.declared.config.Unit.TheVariants.{Gate, Slot}
use Rattle.rmt_config.specs.declared.config.OpKind.TheVariants as kind
use Rattle.rmt_config.specs.declared.config.Source.TheVariants.{Word, Held, Constant}
use Rattle.rmt_config.specs.declared.form.code.InstructionRole.{InstructionRole}
use Rattle.rmt_config.specs.Order.{rises_from}
use Rattle.rmt_config.specs.LaneForm.{lane_is_formed}

-- those of a slot's actions, and then its default's
abbrev pub slot_places : SlotUnit → List InstructionRole
slot_places s = replicate s.actions (record { held = s.held; is_default = false }) ++ record { held = s.held; is_default = true } ∷ []

abbrev pub unit_places : Unit → List InstructionRole
unit_places (Gate g) = []
unit_places (Slot s) = slot_places s

abbrev pub places_of : List Unit → List InstructionRole
places_of units = flat_map unit_places units

-- a source of that many bits lies in its word or in the slot's data; a default has no data, and a constant fits
abbrev pub source_is_formed : InstructionRole → ℕ → Source → Bool
source_is_formed place len (Word word low) = nat_lt word 224 && nat_le (low + len) (word_size word)
source_is_formed place len (Held low) = not place.is_default && nat_le (low + len) place.held
source_is_formed place len (Constant value) = nat_lt value (2 ^ len)

-- a Copy's second source is the constant 0
abbrev pub kind_is_formed : OpKind → Source → Bool
kind_is_formed kind.Copy (Constant value) = value == 0
kind_is_formed kind.Copy (Word word low) = false
kind_is_formed kind.Copy (Held low) = false
kind_is_formed kind.Add right = true
kind_is_formed kind.Sub right = true
kind_is_formed kind.And right = true
kind_is_formed kind.Or right = true
kind_is_formed kind.Xor right = true

abbrev pub lane_of_operation : Operation → Lane
lane_of_operation op = record { word = op.word; low = op.low; len = op.len }

abbrev pub operation_is_formed : InstructionRole → Operation → Bool
operation_is_formed place op =
    lane_is_formed (lane_of_operation op) && source_is_formed place op.len op.left
    && source_is_formed place op.len op.right && kind_is_formed op.kind op.right

-- the operations of an instruction rise by word
abbrev pub vliw_is_formed : InstructionRole → Vliw → Bool
vliw_is_formed place v =
    nat_lt (length v.ops) 256 && list_all (operation_is_formed place) v.ops
    && rises_from 0 (map (λ (op : Operation). op.word) v.ops)

-- one instruction for each place
abbrev pub code_is_formed : List InstructionRole → List Vliw → Bool
code_is_formed [] [] = true
code_is_formed [] (v ∷ code) = false
code_is_formed (place ∷ places) [] = false
code_is_formed (place ∷ places) (v ∷ code) = vliw_is_formed place v && code_is_formed places code
