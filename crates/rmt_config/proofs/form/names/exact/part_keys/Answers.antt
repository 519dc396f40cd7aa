use Rattle.std.proofs.Common.{◌≡◌, ℕ, ◌<◌, ◌≤◌, List, length, true, refl, ap, sym, subst, ◌∙◌}
use Rattle.std.proofs.lemmas.Bool.{false≢true}
use Rattle.std.proofs.lemmas.Option.{slice_get_within}
use Rattle.std.specs.Prelude.{IfOk}
use Rattle.std.proofs.lemmas.Result.{IfOk-weaker}
use Rattle.rmt_ast.specs.declared.program.Kind.TheVariants as kind
use Rattle.rmt_config.specs.NamesForm.{is_of_kind}
use Rattle.rmt_config.specs.declared.config.Memory.TheVariants.{Without, Exact, Ternary}
use Rattle.rmt_config.specs.Types.{CellNumber, Memory, SramRow, Stage}
use Rattle.rmt_config.specs.LaneForm.{bits_of_lanes}
use Rattle.rmt_config.specs.BlockCounts.{divided_up}
use Rattle.rmt_config.specs.KeyPrints.{KeysAdded}
use Rattle.rmt_config.specs.KeysSeen.{key_in, stands_there}
use Rattle.rmt_config.proofs.SlotLaws.{slot_is_short}
use Rattle.rmt_config.proofs.SpelledParts.{rows-in}
use Rattle.rmt_config.proofs.SpelledTable.{exact-found, exact-keys, exact-read}
use Rattle.rmt_config.specs.PartsTold.{part_at}
use Rattle.rmt_config.proofs.form.names.exact.part_keys.Goals as goal

-- an exact memory is no other
exact-kind : (m : Memory) → is_of_kind kind.Exact m ≡ true → ((k p d w : ℕ) (ks rs cs : List ℕ) → m ≡ Exact k p d w ks rs cs → ⊥) → ⊥
exact-kind Without is none = false≢true is
exact-kind (Exact k p d w ks rs cs) is none = none k p d w ks rs cs refl
exact-kind (Ternary d ks rs cs) is none = false≢true is

pub bounds-stages-part : goal.bounds-stages-part
bounds-stages-part c =
    let stands = c.requires.stands in
    subst (λ (ss : List Stage). c.args.part.now.at < length ss) (sym c.as_slice-stages.ensures) (slice_get_within c.args.config.now.stages c.args.part.now.at stands.stage stands.in_stages)

pub key_bits-requires : goal.key_bits-requires
key_bits-requires c = subst (λ lanes. bits_of_lanes lanes ≤ 640) (sym c.as_slice-in-Exact-2.ensures) (slot_is_short c.args.part.now.slot.now c.requires.stands.slot)

pub put_keys-requires : goal.put_keys-requires
put_keys-requires c =
    let a = c.in-Exact in
    let p = part_at c.args.part.now in
    exact-read c.args.config.now p c.requires.stands a.width a.per a.quanta a.first_way a.keys a.records a.counters a.is c.requires.ways
    (rows-in (λ (x : Stage). x.srows) c.args.config.now p c.requires.stands c.as_slice-stages.ensures c.index-stages-part.is c.as_slice-rows.ensures)
    (c.key_bits.ensures ∙ ap bits_of_lanes c.as_slice-in-Exact-2.ensures) c.as_slice.ensures c.as_slice-in-Exact.ensures

pub returns-in-Exact : goal.returns-in-Exact
returns-in-Exact c =
    let a = c.in-Exact in
    let config = c.args.config.now in
    let p = part_at c.args.part.now in
    let st = c.requires.stands in
    let V : List SramRow → ℕ → List CellNumber → List ℕ → Type 0 = λ rows bits ns ks. IfOk c.put_keys.result (λ stand. KeysAdded c.args.whole (divided_up bits 8) (stands_there config.seed a.first_way a.per a.quanta (divided_up bits 8) (key_in rows ks a.width a.per a.quanta bits)) (key_in rows ks a.width a.per a.quanta bits) ns c.args.into.now.items c.put_keys.new.kept.items stand) in
    IfOk-weaker c.put_keys.result _ _ (λ stand f. exact-keys config p st a.width a.per a.quanta a.first_way a.keys a.records a.counters a.is c.args.whole c.args.into.now.items c.put_keys.new.kept.items stand f)
    (exact-found config p st V c.as_slice-stages.result.now c.index-stages-part.result c.as_slice-rows.result.now c.key_bits.result c.as_slice.result.now c.as_slice-in-Exact.result.now a.keys
    c.as_slice-stages.ensures c.index-stages-part.is c.as_slice-rows.ensures (c.key_bits.ensures ∙ ap bits_of_lanes c.as_slice-in-Exact-2.ensures) c.as_slice.ensures
    c.as_slice-in-Exact.ensures c.put_keys.ensures)

pub returns-in_default : goal.returns-in_default
returns-in_default c = absurd (exact-kind _ c.requires.kind c.in_default.not-Exact)
