-- The words of entries and their tables on which the lists of a run stand, passed on by one name.
pub use Rattle.std.specs.List.{flat_map}
pub use Rattle.rmt_ast.specs.Answers.{entry_numbers}
pub use Rattle.rmt_ast.specs.Changes.{EntryKey, list_of, next_number, without}
pub use Rattle.rmt_ast.specs.NameRules.{AreEntriesOf, names_are_formed, terms_named}
pub use Rattle.rmt_ast.specs.declared.entry.Entry.{Entry}
pub use Rattle.rmt_ast.specs.declared.names.TableName.{TableName}
pub use Rattle.rmt_entries.specs.Entries.{has_keys_once}
pub use Rattle.rmt_entries.specs.NamedLines.{IsNamedEntry, named_entry, named_key}
