use Rattle.std.proofs.Common.{◌≡◌, ◌++◌, drop, codes}
use Rattle.std.specs.List.{flat_map, enumerate_from}
use Rattle.rmt_check.specs.declared.source.MetaText.{MetaText}
use Rattle.rmt_check.specs.Names.{declared_fields, fields_of, header_fields, metadata, of_metadata}
use Rattle.rmt_check.proofs.names.fields.known_fields.Given as goal

abbrev pub invariant-loop-number : goal.invariant-loop-number
invariant-loop-number l =
    l.fields ++ (flat_map header_fields (enumerate_from l.number (drop l.number l.source.headers)) ++ declared_fields of_metadata (codes "meta") (metadata l.source)) ≡ fields_of l.source

abbrev pub invariant-loop-meta : goal.invariant-loop-meta
invariant-loop-meta l =
    l.fields ++ declared_fields of_metadata (codes "meta") (flat_map (λ (m : MetaText). m.fields) (drop l.meta-index l.meta-items)) ≡ fields_of l.source
