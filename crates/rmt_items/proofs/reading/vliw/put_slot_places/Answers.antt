use Rattle.std.proofs.Common.{List, [], ◌∷◌, ◌++◌, ◌∙◌, ap, append_assoc, false}
use Rattle.std.specs.Prelude.{replicate}
use Rattle.std.proofs.lemmas.List.{replicate-append-replicate}
use Rattle.rmt_config.specs.declared.form.code.InstructionRole.{InstructionRole}
use Rattle.rmt_items.proofs.reading.vliw.put_slot_places.Goals as goal

pub loop-preserved : goal.loop-preserved
loop-preserved c =
    let before = c.args.places.now.items in
    let role : InstructionRole = record { held = c.args.slot.now.held; is_default = false } in
    c.in_ok-push.ensures.items
    ∙ ap (λ (roles : List InstructionRole). roles ++ role ∷ []) c.loop.invariant
    ∙ append_assoc before (replicate c.loop.counter role) (role ∷ [])
    ∙ ap (λ (roles : List InstructionRole). before ++ roles) (replicate-append-replicate c.loop.counter 1 role)
