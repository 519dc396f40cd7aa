use Rattle.std.proofs.Common.{◌∙◌}
use Rattle.rmt_config.specs.Types.{SlotUnit}
use Rattle.rmt_config.specs.NamesForm.{each_part, is_of_kind}
use Rattle.rmt_config.specs.Rooms.{PartAt, parts_of}
use Rattle.rmt_config.proofs.NamePartLaws.{each_seen, with_part}
use Rattle.rmt_config.proofs.form.names.made.has_parts.Goals as goal

pub returns-then-parts-ge1 : goal.returns-then-parts-ge1
returns-then-parts-ge1 c =
    λ config seen.
    let t = c.args.table.now in
    let ps = parts_of config t.node in
    c.are_of_kind.ensures ∙ each_seen c.args.parts.now ps seen (λ (s : SlotUnit). is_of_kind t.kind s.memory)
    ∙ with_part c.args.parts.now ps seen (each_part config (λ (part : PartAt). is_of_kind t.kind part.slot.memory) t) c.if-parts-ge1.true
