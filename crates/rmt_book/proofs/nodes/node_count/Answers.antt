use Rattle.std.proofs.Common.{◌+◌, List, ap, max, ◌∙◌}
use Rattle.std.specs.Prelude.{fold}
use Rattle.rmt_config.specs.declared.config.Unit.{Unit}
use Rattle.rmt_config.specs.TableForm.{node_of}
use Rattle.rmt_book.proofs.NodeLaws.{nodes-more}
use Rattle.rmt_book.proofs.nodes.node_count.Goals as goal

pub loop-stage-preserved : goal.loop-stage-preserved
loop-stage-preserved c =
    let i = c.loop-stage.stage-index in
    record {
      folded =
          nodes-more i c.args.config.now.stages c.as_slice-stage-items.result.now c.stage-item.result c.loop-stage.nodes c.nodes_of-nodes.result c.as_slice-stage-items.ensures c.loop-stage-test.true c.stage-item.is
          (c.nodes_of-nodes.ensures.value ∙ ap (λ (us : List Unit). fold (λ n (u : Unit). max n (node_of u + 1)) c.loop-stage.nodes us) c.as_slice.ensures)
          ∙ c.loop-stage.invariant.folded;
      few = c.nodes_of-nodes.ensures.few;
    }
