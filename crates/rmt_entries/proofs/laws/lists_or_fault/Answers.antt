use Rattle.rmt_entries.proofs.LawLists.{entries_law, never_memory}
use Rattle.rmt_entries.proofs.laws.lists_or_fault.Goals as goal

pub returns-clause-lists : goal.returns-clause-lists
returns-clause-lists c p text lists h e = entries_law p text lists h e

pub returns-clause-fault : goal.returns-clause-fault
returns-clause-fault c p text e = never_memory p text e
