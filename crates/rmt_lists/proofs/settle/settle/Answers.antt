use Rattle.std.proofs.Common.{◌<◌, ◌∙◌, List, ap, length, not, refl, subst, sym}
use Rattle.std.specs.Prelude.{All, filter}
use Rattle.rmt_bits.specs.Members.{is_among}
use Rattle.rmt_ast.specs.declared.entry.Entry.{Entry}
use Rattle.rmt_ast.specs.Changes.{list_of}
use Rattle.rmt_lists.specs.Settled.{Extends, ExtendsInPart}
use Rattle.rmt_lists.specs.Stands.{somes}
use Rattle.rmt_lists.proofs.LeftLaws.{slots_tables}
use Rattle.rmt_lists.proofs.SettleLaws.{all_below, restored, settled_at}
use Rattle.rmt_lists.proofs.settle.settle.Goals as goal

pub add_each-requires : goal.add_each-requires
add_each-requires c =
    let same = c.into_vec-lists.ensures ∙ c.replace.ensures.value in
    record { tables = subst (λ (ls : List (List Entry)). All (λ (e : Entry). e.table < length ls) (somes c.args.come.now)) (sym same) (slots_tables (length c.args.last.now) c.args.first c.args.come.now c.requires.slots) }

pub returns-in-Ok-clause-left : goal.returns-in-Ok-clause-left
returns-in-Ok-clause-left c m =
    let last = c.args.last.now in
    let come = c.args.come.now in
    let first = c.args.first in
    let same = c.into_vec-lists.ensures ∙ c.replace.ensures.value in
    let lists = c.add_each.new.lists.items in
    let added = subst (λ (ls : List (List Entry)). Extends ls (somes come) lists) same c.in-Ok.ensures.added in
    settled_at last c.args.gone.now.keys come first c.requires.slots c.requires.old lists m (list_of c.from_vec.result m) c.requires.gone_old added
    (ap (λ (ls : List (List Entry)). list_of ls m) c.from_vec.ensures
    ∙ c.take_gone.ensures.left m (all_below last c.args.gone.now.keys come first c.requires.slots c.requires.old lists m added))

pub returns-in-Err-clause-kept : goal.returns-in-Err-clause-kept
returns-in-Err-clause-kept c =
    let last = c.args.last.now in
    let come = c.args.come.now in
    let first = c.args.first in
    let same = c.into_vec-lists.ensures ∙ c.replace.ensures.value in
    let lists = c.add_each.new.lists.items in
    let part = subst (λ (ls : List (List Entry)). ExtendsInPart ls come lists) same c.in-Err.ensures.some in
    c.from_vec-in-Err.ensures
    ∙ restored last c.args.gone.now.keys come first c.requires.slots c.requires.old lists c.keep_each.new.lists.items c.new-in-Err.result.keys c.new-in-Err.ensures.empty part c.keep_each.ensures.count c.keep_each.ensures.kept

pub take_gone-requires : goal.take_gone-requires
take_gone-requires c =
    let last = c.args.last.now in
    let come = c.args.come.now in
    let first = c.args.first in
    let gone = c.args.gone.now.keys in
    let same = c.into_vec-lists.ensures ∙ c.replace.ensures.value in
    let lists = c.add_each.new.lists.items in
    let added = subst (λ (ls : List (List Entry)). Extends ls (somes come) lists) same c.in-Ok.ensures.added in
    record {
      counts = λ m h at.
          c.requires.counts m h at
          ∙ ap length (sym (settled_at last gone come first c.requires.slots c.requires.old lists m (filter (λ (e : Entry). not (is_among gone e.number)) (list_of lists m)) c.requires.gone_old added refl));
    }
