use Rattle.std.proofs.Common.{◌≡◌, ◌++◌, map, take}
use Rattle.std.specs.List.{flat_map}
use Rattle.rmt_check.specs.Parts.{MetaText}
use Rattle.rmt_check.proofs.rules.parts.metadata.Given as goal

abbrev pub invariant-loop-meta : goal.invariant-loop-meta
invariant-loop-meta l = map (λ f. f.now) l.fields.items ≡ flat_map (λ (m : MetaText). m.fields) (take l.meta-index l.metas)

abbrev pub invariant-loop-field : goal.invariant-loop-field
invariant-loop-field l = map (λ f. f.now) l.fields.items ≡ map (λ f. f.now) l.initial.fields.items ++ take l.field-index l.field-items
