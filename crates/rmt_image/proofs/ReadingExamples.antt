-- Worked rows of reading: whole configurations and images.
use Rattle.std.proofs.Common.{◌≡◌, [], ◌∷◌, ◌++◌, Some, Ok, Err, refl}
use Rattle.std.specs.Prelude.{codes}
use Rattle.rmt_image.specs.Types.{Config}
use Rattle.rmt_items.specs.declared.fault.ImageFault.TheVariants as image
use Rattle.rmt_items.specs.Readers.{byte_at, number_at, fours_at, flag_at, items_at, each}
use Rattle.rmt_items.specs.Reading.{word_at, lane_from_at, lane_at, lane_of_at, header_at, state_at, states_at, entry_state_at, match_at, need_at, entry_head_at, entry_at, next_at, bits_at, extract_at, guard_at, block_at, blocks_at, exact_format_at, format_at, exact_at, memory_at, source_at, headers_at, parser_at, stage_at, stage_head_at, stage_tail_at, unit_at, slot_at, slot_keys_at, slot_head_at, marks_at, numbers_at, vliw_at, operation_at, kind_at}
use Rattle.rmt_image.specs.Reading.{ports_at, config_at, named_at, tailed_at, image_at, version_told, EndAnswers, Answers}
use Rattle.rmt_items.proofs.ReadingExamples.{strict_and_weak, strict_and_weak_bytes, names_of_b, names_bytes, one_tail}
use Rattle.rmt_items.specs.ReadingNames.{bytes_at, name_at, action_at, table_kind_at, table_body_at, table_at, names_at}
use Rattle.rmt_items.specs.ReadingTails.{tail_entry_at, field_at, lengths_at, tail_at, tails_at}

strict_and_weak-read : config_at strict_and_weak_bytes ≡ Ok (strict_and_weak, [])
unfolding config_at ports_at headers_at header_at parser_at states_at state_at entry_at entry_head_at entry_state_at match_at need_at next_at extract_at bits_at lane_of_at lane_at lane_from_at word_at stage_at stage_head_at stage_tail_at unit_at slot_at slot_head_at slot_keys_at guard_at marks_at memory_at exact_at format_at exact_format_at blocks_at block_at numbers_at vliw_at operation_at kind_at source_at items_at each byte_at fours_at number_at flag_at
strict_and_weak-read = refl

abbrev named : Config
named = record strict_and_weak { names = Some names_of_b }

named-read : image_at 2 (strict_and_weak_bytes ++ names_bytes) ≡ Ok (named, [])
unfolding image_at named_at names_at table_at table_body_at name_at action_at table_kind_at bytes_at config_at ports_at headers_at header_at parser_at states_at state_at entry_at entry_head_at entry_state_at match_at need_at next_at extract_at bits_at lane_of_at lane_at lane_from_at word_at stage_at stage_head_at stage_tail_at unit_at slot_at slot_head_at slot_keys_at guard_at marks_at memory_at exact_at format_at exact_format_at blocks_at block_at numbers_at vliw_at operation_at kind_at source_at items_at each byte_at fours_at number_at flag_at
named-read = refl

-- a byte that is left behind the names
named-left : image_at 2 (strict_and_weak_bytes ++ names_bytes ++ 7 ∷ []) ≡ Ok (named, 7 ∷ [])
unfolding image_at named_at names_at table_at table_body_at name_at action_at table_kind_at bytes_at config_at ports_at headers_at header_at parser_at states_at state_at entry_at entry_head_at entry_state_at match_at need_at next_at extract_at bits_at lane_of_at lane_at lane_from_at word_at stage_at stage_head_at stage_tail_at unit_at slot_at slot_head_at slot_keys_at guard_at marks_at memory_at exact_at format_at exact_format_at blocks_at block_at numbers_at vliw_at operation_at kind_at source_at items_at each byte_at fours_at number_at flag_at
named-left = refl

named-trailing : EndAnswers (named, 7 ∷ []) (Err image.Trailing)
named-trailing = refl

tailed-read : image_at 3 (strict_and_weak_bytes ++ names_bytes ++ 0 ∷ 1 ∷ 0 ∷ 0 ∷ 0 ∷ 0 ∷ 0 ∷ 4 ∷ 4 ∷ 4 ∷ []) ≡ Ok (record named { parser = record named.parser { tails = one_tail ∷ [] } }, [])
unfolding image_at tailed_at tails_at tail_at tail_entry_at field_at lengths_at named_at names_at table_at table_body_at name_at action_at table_kind_at bytes_at config_at ports_at headers_at header_at parser_at states_at state_at entry_at entry_head_at entry_state_at match_at need_at next_at extract_at bits_at lane_of_at lane_at lane_from_at word_at stage_at stage_head_at stage_tail_at unit_at slot_at slot_head_at slot_keys_at guard_at marks_at memory_at exact_at format_at exact_format_at blocks_at block_at numbers_at vliw_at operation_at kind_at source_at items_at each byte_at fours_at number_at flag_at
tailed-read = refl

-- ---- versions

version-three : version_told (0 ∷ 3 ∷ 9 ∷ []) ≡ Some 3
version-three = refl

version-four : Answers (codes "RMTI" ++ 0 ∷ 4 ∷ []) (Err image.Version)
version-four = refl

version-missing : Answers (codes "RMTI" ++ 0 ∷ []) (Err image.Version)
version-missing = refl
