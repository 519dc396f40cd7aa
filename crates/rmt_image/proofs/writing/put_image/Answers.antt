use Rattle.std.proofs.Common.{◌≡◌, ℕ, List, ◌++◌, ap, subst, ◌∙◌}
use Rattle.std.specs.Prelude.{OnOk, codes}
use Rattle.rmt_config.specs.Spelling.{two_bytes, spelled_config}
use Rattle.rmt_config.specs.ImageSpelling.{spelled_names, spelled_tails, version_of}
use Rattle.rmt_config.proofs.CountsLemmas.{counts_fit}
use Rattle.rmt_image.specs.Types.{TailOf}
use Rattle.rmt_items.proofs.Appending.{appended_five}
use Rattle.rmt_items.proofs.TailItems.{few_tails}
use Rattle.rmt_items.proofs.NamesCounts.{names_counts_fit}
use Rattle.rmt_image.proofs.writing.put_image.Goals as goal

pub put_config-requires : goal.put_config-requires
put_config-requires c = counts_fit c.args.config.now c.requires.items

pub put_names-requires : goal.put_names-requires
put_names-requires c = names_counts_fit c.args.config.now c.requires

pub put_tails-requires : goal.put_tails-requires
put_tails-requires c = rw c.as_slice.ensures (few_tails c.args.config.now c.requires.items)

pub returns : goal.returns
returns c =
    let config = c.args.config.now in
    appended_five c.put_tails.result c.args.out.now.items
    (codes "RMTI") (two_bytes (version_of config)) (spelled_config config) (spelled_names config.names) (spelled_tails config.parser.tails)
    c.extend_from_slice.new.self.items c.put_two.new.out.items c.put_config.new.out.items c.put_names.new.out.items c.put_tails.new.out.items
    c.in_ok-extend_from_slice.ensures.items
    (c.in_ok-put_two.ensures.put ∙ ap (λ (version : ℕ). c.extend_from_slice.new.self.items ++ two_bytes version) c.version.ensures)
    c.in_ok-put_config.ensures
    c.in_ok-put_names.ensures.put
    (subst (λ (ts : List TailOf). OnOk c.put_tails.result (c.put_tails.new.out.items ≡ c.put_names.new.out.items ++ spelled_tails ts)) c.as_slice.ensures c.put_tails.ensures.put)
