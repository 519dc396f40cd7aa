-- Instructions that are those of a program's actions do what a configuration that carries the program asks of them.
use Rattle.std.proofs.Common.{List}
use Rattle.std.specs.Prelude.{slice_get}
use Rattle.rmt_bits.specs.declared.lane.Lane.{Lane}
use Rattle.rmt_vliw.specs.Types.{Program}
use Rattle.rmt_ast.specs.WellFormed.{IsProgram}
use Rattle.rmt_phv.specs.Places.{KeepsApart}
use Rattle.rmt_verify.specs.Instructions.{TablesCoded}
use Rattle.rmt_refine.specs.Code.{CodeCarried}
use Rattle.rmt_refine.specs.Types.{Config, Node}
use Rattle.rmt_refine.specs.Units.{applied}
use Rattle.rmt_config.specs.Instructions.{first_code}
use Rattle.rmt_pack.proofs.PartLaws.{then_some}
use Rattle.rmt_refine.proofs.TableCodeLaws.{table_does}
use Rattle.rmt_refine.proofs.TheLaw.{its_table}

-- each part of each table has instructions that do what its actions say
pub code_carried : (p : Program) (places : List (List Lane)) → IsProgram p → KeepsApart p places → (c : Config) → TablesCoded p places c → CodeCarried p places c
code_carried p places program keeps c coded n k place t stage slot table at there node =
    let found = then_some (λ (x : Node). applied p x.what) (slice_get p.nodes n) t table in
    table_does p places program keeps t (first_code stage place) stage (its_table p found.0.what t found.2 program.tables) (coded n k place t stage slot table at there node)
