-- What is read from the trees of a sample's program.
use Rattle.std.proofs.Common.{◌≡◌, ◌∙◌, ℕ, List, [], ◌∷◌, Some}
use Rattle.rmt_syntax.specs.declared.tree.Tree.{Tree, One, Many}
use Rattle.rmt_syntax.specs.declared.tree.Rule.TheVariants as rule
use Rattle.rmt_check.specs.declared.source.ActionText.{ActionText}
use Rattle.rmt_check.specs.declared.source.HeaderText.{HeaderText}
use Rattle.rmt_check.specs.declared.source.NodeText.{NodeText}
use Rattle.rmt_check.specs.declared.source.Source.{Source}
use Rattle.rmt_check.specs.declared.source.TableText.{TableText}
use Rattle.rmt_check.specs.Reading.{action_text, header_text, source_of, table_text, control_text}
use Rattle.rmt_check.proofs.ReadingLaws.{added_is, added_one, many, one}
use Rattle.rmt_sample.proofs.Forests.{trees}
use Rattle.rmt_sample.proofs.ProgramForest.{sign, tree}
use Rattle.rmt_sample.proofs.ProgramForest as forest
use Rattle.rmt_sample.proofs.ProgramSource as text

header_eth_is : header_text (trees forest.header_eth) ≡ text.header_eth
header_eth_is = simp (many, one)

header_ipv4_is : header_text (trees forest.header_ipv4) ≡ text.header_ipv4
header_ipv4_is = simp (many, one)

action_forward_is : action_text (trees forest.action_forward) ≡ text.action_forward
action_forward_is = simp (many, one)

action_discard_is : action_text (trees forest.action_discard) ≡ text.action_discard
action_discard_is = simp (many, one)

table_macs_is : (n column : ℕ) → table_text (trees (forest.table_macs n column)) ≡ text.table_macs n column
table_macs_is n column = simp (many, one)

table_hosts_is : (n column : ℕ) → table_text (trees (forest.table_hosts n column)) ≡ text.table_hosts n column
table_hosts_is n column = simp (many, one)

nodes_are : control_text (trees forest.control) ≡ text.nodes
nodes_are = simp (many, one, added_is, added_one)

-- of two headers, two actions, two tables and a control
abbrev source_with : HeaderText → HeaderText → ActionText → ActionText → TableText → TableText → List NodeText → Source
source_with a b c d e f nodes = record { headers = a ∷ b ∷ []; metas = []; actions = c ∷ d ∷ []; tables = e ∷ f ∷ []; control = Some nodes; end = text.at 8 1 }

parts_are : (a b c d e f g : List Tree)
    → source_of (Many rule.Program (Many rule.Header a ∷ Many rule.Header b ∷ Many rule.Action c ∷ Many rule.Action d ∷ Many rule.Table e ∷ Many rule.Table f ∷ Many rule.Control g ∷ One (sign 8 1 []) ∷ []))
    ≡ source_with (header_text a) (header_text b) (action_text c) (action_text d) (table_text e) (table_text f) (control_text g)
parts_are a b c d e f g = simp (many, one)

same : {a b c d e f g h i j k l m n : _} → a ≡ b → c ≡ d → e ≡ f → g ≡ h → i ≡ j → k ≡ l → m ≡ n → source_with a c e g i k m ≡ source_with b d f h j l n
same p q r s t u v = cc

pub source_is : (n first second : ℕ) → source_of (tree n first second) ≡ text.source n first second
source_is n first second =
    parts_are (trees forest.header_eth) (trees forest.header_ipv4) (trees forest.action_forward) (trees forest.action_discard) (trees (forest.table_macs n first)) (trees (forest.table_hosts n second)) (trees forest.control)
    ∙ same header_eth_is header_ipv4_is action_forward_is action_discard_is (table_macs_is n first) (table_hosts_is n second) nodes_are
