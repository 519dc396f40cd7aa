-- How far a text is read.
use Rattle.std.specs.Prelude.{◌≡◌, ◌<◌, ℕ, List, [], Option, length, map}
use Rattle.rmt_ast.specs.declared.program.Program.{Program}
use Rattle.rmt_ast.specs.declared.program.Node.{Node}
use Rattle.rmt_ast.specs.declared.entry.Entry.{Entry}
use Rattle.rmt_ast.specs.EntryLists.{Terms, terms_at}
use Rattle.rmt_entries.specs.declared.gathered.Gathered.{Gathered}
use Rattle.rmt_entries.specs.Entries.{reading}
use Rattle.rmt_bits.specs.Lines.{numbered_lines}
use Rattle.rmt_entries.specs.LinesSoFar.{Gathers}
use Rattle.rmt_entries.specs.Tables.{applied_tables}

-- what each node's table asks of its entries
abbrev pub node_terms : Program → List (Option Terms)
node_terms p = map (λ (node : Node). terms_at p node.what) p.nodes

-- the lines before the rest said the entries that are gathered; the rest begins with the line of that number
pub record Reads (p : Program) (text rest : List ℕ) (number : ℕ) (g : Gathered) : Type 0 where
  pub entries : List Entry
  pub gathered : Gathers (node_terms p) entries g
  pub same : reading (applied_tables p) [] (numbered_lines 1 text) ≡ reading (applied_tables p) entries (numbered_lines number rest)
  pub few : length entries < number
