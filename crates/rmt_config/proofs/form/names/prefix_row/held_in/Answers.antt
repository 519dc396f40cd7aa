use Rattle.std.proofs.Common.{◌≡◌, ℕ, ◌+◌, ◌*◌, ◌/◌, ◌<◌, ◌≤◌, ◌^◌, List, length, true, refl, ap, subst, sym, ◌∙◌, arith}
use Rattle.std.proofs.lemmas.Bool.{false≢true}
use Rattle.std.proofs.lemmas.Nat.{div_below, mul-le}
use Rattle.std.proofs.lemmas.Option.{slice_get_within}
use Rattle.rmt_config.specs.BlockCounts.{divided_up}
use Rattle.rmt_config.specs.Cells.{cells_in}
use Rattle.rmt_config.specs.LaneForm.{bits_of_lanes}
use Rattle.rmt_ast.specs.declared.program.Kind.TheVariants as kind
use Rattle.rmt_config.specs.NamesForm.{is_of_kind}
use Rattle.rmt_config.specs.declared.config.Memory.TheVariants.{Without, Exact, Ternary}
use Rattle.rmt_config.specs.Types.{Memory, Stage}
use Rattle.rmt_config.specs.PartsTold.{part_at}
use Rattle.rmt_config.specs.PrefixRow.{PrefixRows}
use Rattle.rmt_config.proofs.PrefixRowLaws.{cell-read, prefix-rows, short-fits}
use Rattle.rmt_config.proofs.SlotLaws.{slot-ternary}
use Rattle.rmt_config.proofs.SpelledParts.{rows-in}
use Rattle.rmt_config.proofs.form.names.prefix_row.held_in.Goals as goal

-- a prefix memory is no other
prefix-kind : (m : Memory) → is_of_kind kind.Prefix m ≡ true → ((d : ℕ) (ks rs cs : List ℕ) → m ≡ Ternary d ks rs cs → ⊥) → ⊥
prefix-kind Without is none = false≢true is
prefix-kind (Exact k p d w ks rs cs) is none = false≢true is
prefix-kind (Ternary d ks rs cs) is none = none d ks rs cs refl

pub bounds-stages-part : goal.bounds-stages-part
bounds-stages-part c =
    let stands = c.requires.stands in
    subst (λ (ss : List Stage). c.args.part.now.at < length ss) (sym c.as_slice-stages.ensures) (slice_get_within c.args.config.now.stages c.args.part.now.at stands.stage stands.in_stages)

pub key_bits-requires : goal.key_bits-requires
key_bits-requires c = subst (λ lanes. bits_of_lanes lanes ≤ 640) (sym c.as_slice.ensures) (omega (arith, c.requires.short))

pub piece_at-blocks-requires : goal.piece_at-blocks-requires
piece_at-blocks-requires c =
    let a = c.in-Ternary in
    let slot = c.args.part.now.slot.now in
    let side = c.divided_up-side.result in
    let fit = slot-ternary slot a.quanta a.keys a.records a.counters c.requires.stands.slot a.is in
    let side-is : side ≡ divided_up (bits_of_lanes slot.keys) 40 = c.divided_up-side.ensures ∙ ap (λ n. divided_up n 40) (c.key_bits.ensures ∙ ap bits_of_lanes c.as_slice.ensures) in
    let all : a.quanta * side ≡ a.quanta * divided_up (bits_of_lanes slot.keys) 40 = ap (λ n. a.quanta * n) side-is in
    let within : c.args.cell < a.quanta * 2048 = (let count = ap cells_in a.is in omega (arith, count, c.requires.within)) in
    let low = div_below c.args.cell 2048 a.quanta (omega arith) within in
    let some = mul-le (c.args.cell / 2048 + 1) side a.quanta side (omega (arith, low)) (omega arith) in
    subst (λ (ks : List ℕ). (c.args.cell / 2048 + 1) * side ≤ length ks) (sym c.as_slice-in-Ternary.ensures) (omega (arith, some, all, fit.keys))

pub unit_held-requires-clause-rows : goal.unit_held-requires-clause-rows
unit_held-requires-clause-rows c =
    let part = part_at c.args.part.now in
    subst PrefixRows (sym (rows-in (λ (x : Stage). x.trows) c.args.config.now part c.requires.stands c.as_slice-stages.ensures c.index-stages-part.is c.as_slice-rows.ensures)) (prefix-rows c.args.config.now part c.requires.stands c.requires.memory)

pub unit_held-requires-clause-short : goal.unit_held-requires-clause-short
unit_held-requires-clause-short c =
    let a = c.in-Ternary in
    let read = cell-read c.args.config.now (part_at c.args.part.now) c.requires.stands a.quanta a.keys a.records a.counters a.is c.requires.memory c.args.cell
    c.as_slice-stages.ensures c.index-stages-part.is c.as_slice-rows.ensures c.as_slice.ensures c.key_bits.ensures c.divided_up-side.ensures c.as_slice-in-Ternary.ensures c.piece_at-blocks.ensures.value in
    subst (λ x. x < 2 ^ 128) (sym read.mask) (short-fits _ (bits_of_lanes c.args.part.now.slot.now.keys) read.small_mask c.requires.short)

pub returns-in-Ternary : goal.returns-in-Ternary
returns-in-Ternary c =
    let a = c.in-Ternary in
    let read = cell-read c.args.config.now (part_at c.args.part.now) c.requires.stands a.quanta a.keys a.records a.counters a.is c.requires.memory c.args.cell
    c.as_slice-stages.ensures c.index-stages-part.is c.as_slice-rows.ensures c.as_slice.ensures c.key_bits.ensures c.divided_up-side.ensures c.as_slice-in-Ternary.ensures c.piece_at-blocks.ensures.value in
    let key = c.unit_held.ensures.key ∙ read.key in
    let mask = c.unit_held.ensures.mask ∙ read.mask in
    record {
      key = key;
      mask = mask;
      small_key = subst (λ x. x < 2 ^ bits_of_lanes c.args.part.now.slot.now.keys) (sym key) read.small_key;
      small_mask = subst (λ x. x < 2 ^ bits_of_lanes c.args.part.now.slot.now.keys) (sym mask) read.small_mask;
    }

pub returns-in_default : goal.returns-in_default
returns-in_default c = absurd (prefix-kind _ c.requires.kind c.in_default.not-Ternary)
