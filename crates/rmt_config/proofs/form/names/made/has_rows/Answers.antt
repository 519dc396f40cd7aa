use Rattle.std.proofs.Common.{◌*◌, sym, ap, ◌∙◌}
use Rattle.std.specs.Prelude.{nat_le}
use Rattle.rmt_config.specs.Types.{SlotUnit}
use Rattle.rmt_config.specs.NamesForm.{has_rows, quanta_of}
use Rattle.rmt_config.specs.Rooms.{parts_of}
use Rattle.rmt_config.proofs.NamePartLaws.{sum_seen}
use Rattle.rmt_config.proofs.form.names.made.has_rows.Goals as goal

pub returns-in-Prefix : goal.returns-in-Prefix
returns-in-Prefix c =
    λ config seen.
    let t = c.args.table.now in
    c.rows_hold.ensures ∙ ap (λ rows. nat_le t.size (2048 * rows)) (sum_seen c.args.parts.now (parts_of config t.node) seen (λ (s : SlotUnit). quanta_of s.memory))
    ∙ sym (ap (λ kind. has_rows config kind t) c.in-Prefix.is)

pub returns-in-Ternary : goal.returns-in-Ternary
returns-in-Ternary c =
    λ config seen.
    let t = c.args.table.now in
    c.rows_hold-in-Ternary.ensures ∙ ap (λ rows. nat_le t.size (2048 * rows)) (sum_seen c.args.parts.now (parts_of config t.node) seen (λ (s : SlotUnit). quanta_of s.memory))
    ∙ sym (ap (λ kind. has_rows config kind t) c.in-Ternary.is)
